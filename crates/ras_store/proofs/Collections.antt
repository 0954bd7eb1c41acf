-- What is kept under each name after something was written to one collection, or room was made for one.
use Rattle.std.proofs.Common.{◌≡◌, ℕ, Bool, true, false, cond, List, [], Option, Some, None, refl, sym, ap, subst, ◌∙◌}
use Rattle.std.specs.BTreeMap.{BTreeMap, UpdatesBy, get, is_at}
use Rattle.std.specs.Cmp.Lexicographic.{slice_cmp}
use Rattle.std.specs.Map.{lookup}
use Rattle.std.specs.Option.{option_map, is_some, IfSome, IsSome, IsSomeAnd, MatchOption}
use Rattle.std.specs.Ordering.{nat_cmp}
use Rattle.std.proofs.lemmas.Map.Lookups.{exact_bytes}
use Rattle.std.proofs.lemmas.Map.Views.{tells_apart}
use Rattle.ras_domain.specs.declared.lock.LockName.{LockName}
use Rattle.ras_domain.specs.declared.lock.LockName.TheVariants.{Collection, Domain, Tile}
use Rattle.ras_index.specs.Index.{IsReady}
use Rattle.ras_store.specs.declared.change.Change.{Change}
use Rattle.ras_store.specs.declared.change.Change.TheVariants.{Collection as CollectionChange, Domain as DomainChange, Tile as TileChange}
use Rattle.ras_store.specs.declared.collection.CollectionInfo.{CollectionInfo}
use Rattle.ras_store.specs.declared.collection.KeptCollection.{KeptCollection}
use Rattle.ras_store.specs.declared.contents.Contents.{Contents}
use Rattle.ras_store.specs.Kept.{HasRoomAt, HasRoomIn, IsEmptyCollection, changed_by, collection_kept, domain_in, domain_kept, kept_in, kept_under, name_changed, replaced, tile_stored, tile_kept}
use Rattle.ras_store.specs.Piece.{is_same_lock_name}
use Rattle.ras_store.proofs.Keys.{by_key}
use Rattle.spec_statements.specs.Locks.{collection_in}

-- the collections by their names
abbrev pub Shelf : Type 0
Shelf = BTreeMap (List ℕ) KeptCollection

-- ---- one collection written

module _ (old new : Contents) (key : List ℕ) (v w : KeptCollection) (found : get (slice_cmp nat_cmp) old.collections key ≡ Some v)
    (updates : UpdatesBy (slice_cmp nat_cmp) (slice_cmp nat_cmp key) old.collections new.collections (Some w)) where
  -- a change of it
  pub kept-changed : (change : Change) → collection_in (name_changed change) ≡ key
      → ((name : LockName) → kept_under (Some w) name ≡ replaced change name (kept_under (Some v) name))
      → (name : LockName) → kept_in new name ≡ changed_by change name (kept_in old name)
  kept-changed change named here name =
      by_key (slice_cmp nat_cmp) exact_bytes old.collections new.collections key v w found updates
      (λ b o n. kept_under n name ≡ cond b (replaced change name (kept_under o name)) (kept_under o name))
      (collection_in name) (here name) (λ o. refl)
      ∙ ap (λ k. cond (is_at (slice_cmp nat_cmp k) (collection_in name)) (replaced change name (kept_in old name)) (kept_in old name)) (sym named)

  -- what it has beside its arrays was put in
  pub kept-put : (info : Option CollectionInfo) → w.info ≡ info → w.arrays ≡ v.arrays → (other : LockName)
      → kept_in new other ≡ cond (is_same_lock_name (Collection key) other) (option_map collection_kept info) (kept_in old other)
  kept-put info is same (Collection m) =
      by_key (slice_cmp nat_cmp) exact_bytes old.collections new.collections key v w found updates
      (λ b o n. kept_under n (Collection m) ≡ cond b (option_map collection_kept info) (kept_under o (Collection m)))
      m (ap (λ i. option_map collection_kept i) is) (λ o. refl)
  kept-put info is same (Domain m oid) =
      by_key (slice_cmp nat_cmp) exact_bytes old.collections new.collections key v w found updates
      (λ b o n. kept_under n (Domain m oid) ≡ kept_under o (Domain m oid))
      m (ap (λ arrays. option_map domain_kept (domain_in (get nat_cmp arrays oid))) same) (λ o. refl)
  kept-put info is same (Tile m oid place) =
      by_key (slice_cmp nat_cmp) exact_bytes old.collections new.collections key v w found updates
      (λ b o n. kept_under n (Tile m oid place) ≡ kept_under o (Tile m oid place))
      m (ap (λ arrays. option_map tile_kept (tile_stored (get nat_cmp arrays oid) place.items)) same) (λ o. refl)

  -- nothing changed
  pub kept-same : ((name : LockName) → kept_under (Some w) name ≡ kept_under (Some v) name) → (name : LockName) → kept_in new name ≡ kept_in old name
  kept-same here name =
      by_key (slice_cmp nat_cmp) exact_bytes old.collections new.collections key v w found updates
      (λ b o n. kept_under n name ≡ kept_under o name) (collection_in name) (here name) (λ o. refl)

  -- what had room has it still
  pub room-same : ((other : LockName) → HasRoomIn (Some v) other → HasRoomIn (Some w) other) → (other : LockName) → HasRoomAt old other → HasRoomAt new other
  room-same here other =
      by_key (slice_cmp nat_cmp) exact_bytes old.collections new.collections key v w found updates
      (λ b o n. HasRoomIn o other → HasRoomIn n other) (collection_in other) (here other) (λ o room. room)

  -- what was made room for there has it
  pub room-there : (other : LockName) → collection_in other ≡ key → HasRoomIn (Some w) other → HasRoomAt new other
  room-there other named room =
      subst (λ k. HasRoomIn (get (slice_cmp nat_cmp) new.collections k) other) (sym named)
      (subst (λ o. HasRoomIn o other) (sym updates.1) room)

-- other information leaves the room of its arrays
pub room-info : (v w : KeptCollection) → w.arrays ≡ v.arrays → (other : LockName) → HasRoomIn (Some v) other → HasRoomIn (Some w) other
room-info v w same (Collection name) room = tt
room-info v w same (Domain name oid) room = subst (λ arrays. IsSome (get nat_cmp arrays oid)) (sym same) room
room-info v w same (Tile name oid place) room =
    subst (λ arrays. IsSomeAnd (get nat_cmp arrays oid) (λ array. IsReady array.tiles place.items)) (sym same) room

-- ---- room made for one

made_kept : (o n : Option KeptCollection) → MatchOption o (IfSome n IsEmptyCollection) (λ c. n ≡ Some c) → (name : LockName) → kept_under n name ≡ kept_under o name
made_kept None None made (Collection m) = refl
made_kept None None made (Domain m oid) = refl
made_kept None None made (Tile m oid place) = refl
made_kept None (Some w) made (Collection m) = ap (λ i. option_map collection_kept i) made.info
made_kept None (Some w) made (Domain m oid) = ap (λ es. option_map domain_kept (domain_in (lookup (is_at (nat_cmp oid)) es))) made.arrays
made_kept None (Some w) made (Tile m oid place) = ap (λ es. option_map tile_kept (tile_stored (lookup (is_at (nat_cmp oid)) es) place.items)) made.arrays
made_kept (Some c) n made name = ap (λ o. kept_under o name) made

made_room : (o n : Option KeptCollection) → MatchOption o (IfSome n IsEmptyCollection) (λ c. n ≡ Some c) → (other : LockName) → HasRoomIn o other → HasRoomIn n other
made_room None n made other room = absurd room
made_room (Some c) n made other room = subst (λ o. HasRoomIn o other) (sym made) room

module _ (old new : Contents) where
  -- collections that were there are as they were, and of others nothing is kept
  abbrev pub MakesCollection : Type 0
  MakesCollection = (q : List ℕ) → MatchOption (get (slice_cmp nat_cmp) old.collections q)
      (IfSome (get (slice_cmp nat_cmp) new.collections q) IsEmptyCollection) (λ c. get (slice_cmp nat_cmp) new.collections q ≡ Some c)

  pub kept-made : MakesCollection → (name : LockName) → kept_in new name ≡ kept_in old name
  kept-made makes name =
      made_kept (get (slice_cmp nat_cmp) old.collections (collection_in name)) (get (slice_cmp nat_cmp) new.collections (collection_in name)) (makes (collection_in name)) name

  pub room-made : MakesCollection → (other : LockName) → HasRoomAt old other → HasRoomAt new other
  room-made makes other =
      made_room (get (slice_cmp nat_cmp) old.collections (collection_in other)) (get (slice_cmp nat_cmp) new.collections (collection_in other))
      (makes (collection_in other)) other

-- a collection with room is there
pub room-some : (o : Option KeptCollection) (name : LockName) → HasRoomIn o name → IsSome o
room-some None name room = absurd room
room-some (Some c) name room = refl

-- ---- a collection put where there was none

none_there : (o : Option KeptCollection) → false ≡ is_some o → o ≡ None
none_there None is = refl
none_there (Some c) is = absurd (cc)

module _ (old new : Shelf) (name key : List ℕ) (empty : KeptCollection) where
  at_insert : (q : List ℕ) (b : Bool) (o n : Option KeptCollection) → n ≡ cond b (Some empty) o → (b ≡ true → o ≡ None) → IsEmptyCollection empty
      → MatchOption o (IfSome n IsEmptyCollection) (λ c. n ≡ Some c)
  at_insert q true o n is none made = subst (λ x. MatchOption x (IfSome n IsEmptyCollection) (λ c. n ≡ Some c)) (sym (none refl)) (subst (λ x. IfSome x IsEmptyCollection) (sym is) made)
  at_insert q false None n is none made = subst (λ x. IfSome x IsEmptyCollection) (sym is) tt
  at_insert q false (Some c) n is none made = is

  pub made-inserted : key ≡ name → false ≡ is_some (get (slice_cmp nat_cmp) old name) → IsEmptyCollection empty
      → UpdatesBy (slice_cmp nat_cmp) (slice_cmp nat_cmp key) old new (Some empty)
      → (q : List ℕ) → MatchOption (get (slice_cmp nat_cmp) old q) (IfSome (get (slice_cmp nat_cmp) new q) IsEmptyCollection) (λ c. get (slice_cmp nat_cmp) new q ≡ Some c)
  made-inserted same none made updates q =
      at_insert q (is_at (slice_cmp nat_cmp key) q) (get (slice_cmp nat_cmp) old q) (get (slice_cmp nat_cmp) new q) (updates.0 q)
      (λ is. ap (get (slice_cmp nat_cmp) old) (sym (tells_apart exact_bytes key q is) ∙ same) ∙ none_there (get (slice_cmp nat_cmp) old name) none) made
