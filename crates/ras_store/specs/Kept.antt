-- What is kept under the names of locks, and what changes make of it.
use Rattle.std.specs.Prelude.{◌≡◌, ℕ, ℤ, Bool, false, ◌&&◌, if◌then◌else◌, List, [], ◌∷◌, Option, Some, None, option_map, IsSome, IsSomeAnd, MatchOption, nat_eq}
use Rattle.std.specs.Arc.{arc_value}
use Rattle.std.specs.declared.sync.Arc.{Arc}
use Rattle.std.specs.declared.alloc.Global.{Global}
use Rattle.std.specs.BTreeMap.{BTreeMap, get, is_at}
use Rattle.std.specs.Cmp.Lexicographic.{slice_cmp}
use Rattle.std.specs.List.{list_any}
use Rattle.std.specs.Ordering.{nat_cmp}
use Rattle.ras_domain.specs.declared.lock.LockName.{LockName}
use Rattle.ras_domain.specs.declared.lock.LockName.TheVariants.{Collection, Domain, Tile}
use Rattle.ras_domain.specs.declared.region.Interval.{Interval}
use Rattle.ras_index.specs.Index.{row_major, value_at, IsReady}
use Rattle.ras_tile.specs.Tile.{TileValue}
use Rattle.ras_store.specs.declared.array.KeptArray.{KeptArray}
use Rattle.ras_store.specs.declared.change.Change.{Change}
use Rattle.ras_store.specs.declared.change.Change.TheVariants.{Collection as CollectionChange, Domain as DomainChange, Tile as TileChange}
use Rattle.ras_store.specs.declared.collection.CollectionInfo.{CollectionInfo}
use Rattle.ras_store.specs.declared.collection.KeptCollection.{KeptCollection}
use Rattle.ras_store.specs.declared.contents.Contents.{Contents}
use Rattle.spec_statements.specs.Locks.{collection_in}

-- a collection's information, an array's domain, or a tile of an array
pub data Kept : Type 0 where
  collection_kept : CollectionInfo → Kept
  domain_kept : List Interval → Kept
  tile_kept : TileValue → Kept

-- ---- look-ups

abbrev pub array_in : Option KeptCollection → ℕ → Option KeptArray
array_in None oid = None
array_in (Some collection) oid = get nat_cmp collection.arrays oid

abbrev pub info_in : Option KeptCollection → Option CollectionInfo
info_in None = None
info_in (Some collection) = collection.info

abbrev pub domain_in : Option KeptArray → Option (List Interval)
domain_in None = None
domain_in (Some array) = array.domain

abbrev pub tile_stored : Option KeptArray → List ℤ → Option TileValue
tile_stored None place = None
tile_stored (Some array) place = option_map arc_value (value_at array.tiles.entries place)

abbrev pub kept_tile : Option (Arc TileValue Global) → Option Kept
kept_tile tile = option_map tile_kept (option_map arc_value tile)

-- what is kept of a collection under a name of it
abbrev pub kept_under : Option KeptCollection → LockName → Option Kept
kept_under collection (Collection name) = option_map collection_kept (info_in collection)
kept_under collection (Domain name oid) = option_map domain_kept (domain_in (array_in collection oid))
kept_under collection (Tile name oid place) = option_map tile_kept (tile_stored (array_in collection oid) place.items)

-- what is kept under a name, none where nothing is
abbrev pub kept_in : Contents → LockName → Option Kept
kept_in contents name = kept_under (get (slice_cmp nat_cmp) contents.collections (collection_in name)) name

-- ---- changes

-- the name of what a change replaces
abbrev pub name_changed : Change → LockName
name_changed (CollectionChange name info) = Collection name
name_changed (DomainChange name oid domain) = Domain name oid
name_changed (TileChange name oid place tile) = Tile name oid place

abbrev pub is_listed : Option CollectionInfo → ℕ → Bool
is_listed None oid = false
is_listed (Some info) oid = list_any (nat_eq oid) info.oids

-- what a change leaves under the names of locks. What is kept there is seen through a function
module _ {X : Type 0} (seen : Kept → X) where
  -- under a name of the same collection
  abbrev pub replaced_as : Change → LockName → Option X → Option X
  replaced_as (CollectionChange name info) (Collection other) before = option_map (λ i. seen (collection_kept i)) info
  replaced_as (CollectionChange name info) (Domain other oid) before = if is_listed info oid then before else None
  replaced_as (CollectionChange name info) (Tile other oid place) before = if is_listed info oid then before else None
  replaced_as (DomainChange name id domain) (Collection other) before = before
  replaced_as (DomainChange name id domain) (Domain other oid) before =
      if is_at (nat_cmp id) oid then option_map (λ d. seen (domain_kept d)) domain else before
  replaced_as (DomainChange name id domain) (Tile other oid place) before = before
  replaced_as (TileChange name id at tile) (Collection other) before = before
  replaced_as (TileChange name id at tile) (Domain other oid) before = before
  replaced_as (TileChange name id at tile) (Tile other oid place) before =
      if is_at (nat_cmp id) oid && is_at (row_major at.items) place.items then option_map (λ t. seen (tile_kept t)) (option_map arc_value tile) else before

  -- under any name
  abbrev pub changed_as : Change → LockName → Option X → Option X
  changed_as change name before =
      if is_at (slice_cmp nat_cmp (collection_in (name_changed change))) (collection_in name) then replaced_as change name before else before

  -- and after several in order
  abbrev pub all_changed_as : List Change → LockName → Option X → Option X
  all_changed_as [] name before = before
  all_changed_as (change ∷ changes) name before = all_changed_as changes name (changed_as change name before)

abbrev pub replaced : Change → LockName → Option Kept → Option Kept
replaced = replaced_as (λ kept. kept)

abbrev pub changed_by : Change → LockName → Option Kept → Option Kept
changed_by = changed_as (λ kept. kept)

abbrev pub changed_by_all : List Change → LockName → Option Kept → Option Kept
changed_by_all = all_changed_as (λ kept. kept)

-- ---- room

abbrev pub HasRoomIn : Option KeptCollection → LockName → Type 0
HasRoomIn None name = ⊥
HasRoomIn (Some collection) (Collection name) = Unit {0}
HasRoomIn (Some collection) (Domain name oid) = IsSome (get nat_cmp collection.arrays oid)
HasRoomIn (Some collection) (Tile name oid place) =
    IsSomeAnd (get nat_cmp collection.arrays oid) (λ array. IsReady array.tiles place.items)

-- what is put under this name takes no memory
abbrev pub HasRoomAt : Contents → LockName → Type 0
HasRoomAt contents name = HasRoomIn (get (slice_cmp nat_cmp) contents.collections (collection_in name)) name

-- the change takes no memory
abbrev pub HasRoomFor : Contents → Change → Type 0
HasRoomFor contents change = HasRoomAt contents (name_changed change)

-- ---- arrays and collections, for the contracts of this crate alone

-- nothing is kept of it
pub record IsEmptyArray (array : KeptArray) : Type 0 where
  pub domain : array.domain ≡ None
  pub tiles : array.tiles.entries ≡ []

-- nothing is kept of it, and no array of it has room
pub record IsEmptyCollection (collection : KeptCollection) : Type 0 where
  pub info : collection.info ≡ None
  pub arrays : collection.arrays.entries ≡ []

-- all is kept, or nothing, and what was ready stays so
pub record IsLeft (kept : Bool) (old new : KeptArray) : Type 0 where
  pub domain : new.domain ≡ (if kept then old.domain else None)
  pub tiles : (q : List ℤ) → value_at new.tiles.entries q ≡ (if kept then value_at old.tiles.entries q else None)
  pub ready : (q : List ℤ) → IsReady old.tiles q → IsReady new.tiles q

-- a tile is put at a place, or taken out there, and what was ready stays so
pub record PutsTile (place : List ℤ) (tile : Option (Arc TileValue Global)) (old new : KeptArray) : Type 0 where
  pub domain : new.domain ≡ old.domain
  pub tiles : (q : List ℤ) → value_at new.tiles.entries q ≡ (if is_at (row_major place) q then tile else value_at old.tiles.entries q)
  pub ready : (q : List ℤ) → IsReady old.tiles q → IsReady new.tiles q

-- the same is kept, and what was ready stays so
pub record KeepsRoom (old new : KeptArray) : Type 0 where
  pub domain : new.domain ≡ old.domain
  pub tiles : new.tiles.entries ≡ old.tiles.entries
  pub ready : (q : List ℤ) → IsReady old.tiles q → IsReady new.tiles q

-- one array alone was written, in this way
pub record WritesArray (old new : BTreeMap ℕ KeptArray) (oid : ℕ) (Way : KeptArray → KeptArray → Type 0) : Type 0 where
  pub here : (array : KeptArray) → get nat_cmp old oid ≡ Some array → IsSomeAnd (get nat_cmp new oid) (Way array)
  pub others : (q : ℕ) → is_at (nat_cmp oid) q ≡ false → get nat_cmp new q ≡ get nat_cmp old q

-- the same domain, and the same tile at each place
pub record IsSameArray (one other : KeptArray) : Type 0 where
  pub domain : other.domain ≡ one.domain
  pub tiles : (place : List ℤ) → tile_stored (Some other) place ≡ tile_stored (Some one) place

-- the same information, and the same arrays
pub record IsSameCollection (one other : KeptCollection) : Type 0 where
  pub info : other.info ≡ one.info
  pub arrays : (q : ℕ) → MatchOption (get nat_cmp one.arrays q) (get nat_cmp other.arrays q ≡ None) (λ array. IsSomeAnd (get nat_cmp other.arrays q) (IsSameArray array))
