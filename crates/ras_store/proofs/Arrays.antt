-- What is kept of a collection after an array of it was written, or after arrays were taken out.
use Rattle.std.proofs.Common.{◌≡◌, ℕ, ℤ, Bool, true, false, cond, ◌&&◌, List, Option, Some, None, refl, sym, ap, subst, ◌∙◌}
use Rattle.std.specs.Arc.{arc_value}
use Rattle.std.specs.declared.sync.Arc.{Arc}
use Rattle.std.specs.declared.alloc.Global.{Global}
use Rattle.std.specs.BTreeMap.{BTreeMap, get, is_at}
use Rattle.std.specs.Option.{option_map, is_some, IfSome, IsSome, IsSomeAnd, MatchOption}
use Rattle.std.specs.Ordering.{nat_cmp}
use Rattle.std.proofs.lemmas.Map.Lookups.{exact_unsigned}
use Rattle.std.proofs.lemmas.Map.Views.{tells_apart}
use Rattle.ras_domain.specs.declared.lock.LockName.{LockName}
use Rattle.ras_domain.specs.declared.lock.LockName.TheVariants.{Collection, Domain, Tile}
use Rattle.ras_domain.specs.declared.region.Interval.{Interval}
use Rattle.ras_index.specs.Index.{row_major, value_at, IsReady}
use Rattle.ras_tile.specs.Tile.{TileValue}
use Rattle.arrayvec.specs.ArrayVec.{ArrayVec}
use Rattle.ras_store.specs.declared.array.KeptArray.{KeptArray}
use Rattle.ras_store.specs.declared.change.Change.{Change}
use Rattle.ras_store.specs.declared.change.Change.TheVariants.{Collection as CollectionChange, Domain as DomainChange, Tile as TileChange}
use Rattle.ras_store.specs.declared.collection.CollectionInfo.{CollectionInfo}
use Rattle.ras_store.specs.declared.collection.KeptCollection.{KeptCollection}
use Rattle.ras_store.specs.Kept.{HasRoomIn, IsEmptyArray, IsLeft, Kept, KeepsRoom, PutsTile, WritesArray, collection_kept, domain_in, domain_kept, is_listed, kept_under, kept_tile, replaced, tile_stored, tile_kept}

-- a function of a choice
chosen : {A B : Type 0} (f : A → B) (b : Bool) (x y : A) → f (cond b x y) ≡ cond b (f x) (f y)
chosen f true x y = refl
chosen f false x y = refl

-- ---- one array written

module _ (Way : KeptArray → KeptArray → Type 0) (old new : BTreeMap ℕ KeptArray) (oid : ℕ) (writes : WritesArray old new oid Way) where
  here_at : (P : Bool → Option KeptArray → Option KeptArray → Type 0) (o n : Option KeptArray) → IsSome o
      → ((array : KeptArray) → o ≡ Some array → IsSomeAnd n (Way array))
      → ((a w : KeptArray) → Way a w → P true (Some a) (Some w)) → P true o n
  here_at P None n some here at = absurd (cc)
  here_at P (Some a) None some here at = absurd (here a refl)
  here_at P (Some a) (Some w) some here at = at a w (here a refl)

  at_test : (P : Bool → Option KeptArray → Option KeptArray → Type 0) (q : ℕ) (b : Bool) → is_at (nat_cmp oid) q ≡ b → IsSome (get nat_cmp old oid)
      → ((a w : KeptArray) → Way a w → P true (Some a) (Some w)) → ((o : Option KeptArray) → P false o o)
      → P b (get nat_cmp old q) (get nat_cmp new q)
  at_test P q true is some at same =
      subst (λ x. P true (get nat_cmp old x) (get nat_cmp new x)) (tells_apart exact_unsigned oid q is)
      (here_at P (get nat_cmp old oid) (get nat_cmp new oid) some writes.here at)
  at_test P q false is some at same =
      subst (λ n. P false (get nat_cmp old q) n) (sym (writes.others q is)) (same (get nat_cmp old q))

  -- what holds of a written array and of one that stays holds of each
  pub by_writes : (P : Bool → Option KeptArray → Option KeptArray → Type 0) (q : ℕ) → IsSome (get nat_cmp old oid)
      → ((a w : KeptArray) → Way a w → P true (Some a) (Some w)) → ((o : Option KeptArray) → P false o o)
      → P (is_at (nat_cmp oid) q) (get nat_cmp old q) (get nat_cmp new q)
  by_writes P q some at same = at_test P q (is_at (nat_cmp oid) q) refl some at same

-- ---- a domain

module _ (old new : KeptCollection) (id : ℕ) (domain : Option (List Interval)) where
  abbrev Way : KeptArray → KeptArray → Type 0
  Way a w = w ≡ record a { domain = domain }

  pub domain-replaced : new.info ≡ old.info → WritesArray old.arrays new.arrays id Way → IsSome (get nat_cmp old.arrays id)
      → (named : List ℕ) (name : LockName) → kept_under (Some new) name ≡ replaced (DomainChange named id domain) name (kept_under (Some old) name)
  domain-replaced info writes some named (Collection n) = ap (λ i. option_map collection_kept i) info
  domain-replaced info writes some named (Domain n oid) =
      by_writes Way old.arrays new.arrays id writes
      (λ b o w. option_map domain_kept (domain_in w) ≡ cond b (option_map domain_kept domain) (option_map domain_kept (domain_in o)))
      oid some (λ a w way. ap (λ (x : KeptArray). option_map domain_kept x.domain) way) (λ o. refl)
  domain-replaced info writes some named (Tile n oid place) =
      by_writes Way old.arrays new.arrays id writes
      (λ b o w. option_map tile_kept (tile_stored w place.items) ≡ option_map tile_kept (tile_stored o place.items))
      oid some (λ a w way. ap (λ (x : KeptArray). option_map tile_kept (tile_stored (Some x) place.items)) way) (λ o. refl)

-- ---- a tile

module _ (old new : KeptCollection) (id : ℕ) (at : ArrayVec ℤ) (tile : Option (Arc TileValue Global)) where
  pub tile-replaced : new.info ≡ old.info → WritesArray old.arrays new.arrays id (PutsTile at.items tile) → IsSome (get nat_cmp old.arrays id)
      → (named : List ℕ) (name : LockName) → kept_under (Some new) name ≡ replaced (TileChange named id at tile) name (kept_under (Some old) name)
  tile-replaced info writes some named (Collection n) = ap (λ i. option_map collection_kept i) info
  tile-replaced info writes some named (Domain n oid) =
      by_writes (PutsTile at.items tile) old.arrays new.arrays id writes
      (λ b o w. option_map domain_kept (domain_in w) ≡ option_map domain_kept (domain_in o))
      oid some (λ a w way. ap (λ d. option_map domain_kept d) way.domain) (λ o. refl)
  tile-replaced info writes some named (Tile n oid place) =
      by_writes (PutsTile at.items tile) old.arrays new.arrays id writes
      (λ b o w. option_map tile_kept (tile_stored w place.items)
      ≡ cond (b && is_at (row_major at.items) place.items) (kept_tile tile) (option_map tile_kept (tile_stored o place.items)))
      oid some
      (λ a w way. ap kept_tile (way.tiles place.items) ∙ chosen kept_tile (is_at (row_major at.items) place.items) tile (value_at a.tiles.entries place.items))
      (λ o. refl)

-- ---- room

-- what had room has it still
pub room-written : (Way : KeptArray → KeptArray → Type 0) → ((a w : KeptArray) → Way a w → (q : List ℤ) → IsReady a.tiles q → IsReady w.tiles q)
    → (old new : KeptCollection) (id : ℕ) → WritesArray old.arrays new.arrays id Way → IsSome (get nat_cmp old.arrays id)
    → (other : LockName) → HasRoomIn (Some old) other → HasRoomIn (Some new) other
room-written Way keeps old new id writes some (Collection name) room = tt
room-written Way keeps old new id writes some (Domain name oid) room =
    by_writes Way old.arrays new.arrays id writes (λ b o w. IsSome o → IsSome w) oid some (λ a w way has. refl) (λ o has. has) room
room-written Way keeps old new id writes some (Tile name oid place) room =
    by_writes Way old.arrays new.arrays id writes
    (λ b o w. IsSomeAnd o (λ array. IsReady array.tiles place.items) → IsSomeAnd w (λ array. IsReady array.tiles place.items))
    oid some (λ a w way ready. keeps a w way place.items ready) (λ o has. has) room

-- ---- arrays taken out

left_domain : (l : Bool) (o n : Option KeptArray) → MatchOption o (n ≡ None) (λ a. IsSomeAnd n (IsLeft l a))
    → option_map domain_kept (domain_in n) ≡ cond l (option_map domain_kept (domain_in o)) None
left_domain true None n left = ap (λ w. option_map domain_kept (domain_in w)) left
left_domain false None n left = ap (λ w. option_map domain_kept (domain_in w)) left
left_domain l (Some a) None left = absurd left
left_domain l (Some a) (Some w) left = ap (λ d. option_map domain_kept d) left.domain ∙ chosen (λ d. option_map domain_kept d) l a.domain None

left_tile : (l : Bool) (o n : Option KeptArray) (place : List ℤ) → MatchOption o (n ≡ None) (λ a. IsSomeAnd n (IsLeft l a))
    → option_map tile_kept (tile_stored n place) ≡ cond l (option_map tile_kept (tile_stored o place)) None
left_tile true None n place left = ap (λ w. option_map tile_kept (tile_stored w place)) left
left_tile false None n place left = ap (λ w. option_map tile_kept (tile_stored w place)) left
left_tile l (Some a) None place left = absurd left
left_tile l (Some a) (Some w) place left = ap kept_tile (left.tiles place) ∙ chosen kept_tile l (value_at a.tiles.entries place) None

left_array : (l : Bool) (o n : Option KeptArray) → MatchOption o (n ≡ None) (λ a. IsSomeAnd n (IsLeft l a)) → IsSome o → IsSome n
left_array l None n left has = absurd (cc)
left_array l (Some a) None left has = absurd left
left_array l (Some a) (Some w) left has = refl

left_ready : (l : Bool) (o n : Option KeptArray) (place : List ℤ) → MatchOption o (n ≡ None) (λ a. IsSomeAnd n (IsLeft l a))
    → IsSomeAnd o (λ array. IsReady array.tiles place) → IsSomeAnd n (λ array. IsReady array.tiles place)
left_ready l None n place left has = absurd has
left_ready l (Some a) None place left has = absurd left
left_ready l (Some a) (Some w) place left has = left.ready place has

module _ (old new : KeptCollection) (info : Option CollectionInfo) where
  abbrev Leaves : Type 0
  Leaves = (q : ℕ) → MatchOption (get nat_cmp old.arrays q) (get nat_cmp new.arrays q ≡ None) (λ a. IsSomeAnd (get nat_cmp new.arrays q) (IsLeft (is_listed info q) a))

  pub info-replaced : new.info ≡ info → Leaves → (named : List ℕ) (name : LockName)
      → kept_under (Some new) name ≡ replaced (CollectionChange named info) name (kept_under (Some old) name)
  info-replaced is leaves named (Collection n) = ap (λ i. option_map collection_kept i) is
  info-replaced is leaves named (Domain n oid) =
      left_domain (is_listed info oid) (get nat_cmp old.arrays oid) (get nat_cmp new.arrays oid) (leaves oid)
  info-replaced is leaves named (Tile n oid place) =
      left_tile (is_listed info oid) (get nat_cmp old.arrays oid) (get nat_cmp new.arrays oid) place.items (leaves oid)

  pub room-left : Leaves → (other : LockName) → HasRoomIn (Some old) other → HasRoomIn (Some new) other
  room-left leaves (Collection name) room = tt
  room-left leaves (Domain name oid) room =
      left_array (is_listed info oid) (get nat_cmp old.arrays oid) (get nat_cmp new.arrays oid) (leaves oid) room
  room-left leaves (Tile name oid place) room =
      left_ready (is_listed info oid) (get nat_cmp old.arrays oid) (get nat_cmp new.arrays oid) place.items (leaves oid) room

-- ---- room made

made_domain : (o n : Option KeptArray) → MatchOption o (IfSome n IsEmptyArray) (λ a. n ≡ Some a)
    → option_map domain_kept (domain_in n) ≡ option_map domain_kept (domain_in o)
made_domain None None made = refl
made_domain None (Some w) made = ap (λ d. option_map domain_kept d) made.domain
made_domain (Some a) n made = ap (λ w. option_map domain_kept (domain_in w)) made

made_tile : (o n : Option KeptArray) (place : List ℤ) → MatchOption o (IfSome n IsEmptyArray) (λ a. n ≡ Some a)
    → option_map tile_kept (tile_stored n place) ≡ option_map tile_kept (tile_stored o place)
made_tile None None place made = refl
made_tile None (Some w) place made = ap (λ es. kept_tile (value_at es place)) made.tiles
made_tile (Some a) n place made = ap (λ w. option_map tile_kept (tile_stored w place)) made

made_some : (o n : Option KeptArray) → MatchOption o (IfSome n IsEmptyArray) (λ a. n ≡ Some a) → IsSome o → IsSome n
made_some None n made has = absurd (cc)
made_some (Some a) n made has = ap is_some made

made_ready : (o n : Option KeptArray) (place : List ℤ) → MatchOption o (IfSome n IsEmptyArray) (λ a. n ≡ Some a)
    → IsSomeAnd o (λ array. IsReady array.tiles place) → IsSomeAnd n (λ array. IsReady array.tiles place)
made_ready None n place made has = absurd has
made_ready (Some a) n place made has = subst (λ w. IsSomeAnd w (λ array. IsReady array.tiles place)) (sym made) has

module _ (old new : KeptCollection) where
  -- arrays that were there are as they were, and of others nothing is kept
  abbrev pub Makes : Type 0
  Makes = (q : ℕ) → MatchOption (get nat_cmp old.arrays q) (IfSome (get nat_cmp new.arrays q) IsEmptyArray) (λ a. get nat_cmp new.arrays q ≡ Some a)

  pub kept-made : new.info ≡ old.info → Makes → (name : LockName) → kept_under (Some new) name ≡ kept_under (Some old) name
  kept-made info makes (Collection n) = ap (λ i. option_map collection_kept i) info
  kept-made info makes (Domain n oid) = made_domain (get nat_cmp old.arrays oid) (get nat_cmp new.arrays oid) (makes oid)
  kept-made info makes (Tile n oid place) = made_tile (get nat_cmp old.arrays oid) (get nat_cmp new.arrays oid) place.items (makes oid)

  pub room-made : Makes → (other : LockName) → HasRoomIn (Some old) other → HasRoomIn (Some new) other
  room-made makes (Collection name) room = tt
  room-made makes (Domain name oid) room = made_some (get nat_cmp old.arrays oid) (get nat_cmp new.arrays oid) (makes oid) room
  room-made makes (Tile name oid place) room = made_ready (get nat_cmp old.arrays oid) (get nat_cmp new.arrays oid) place.items (makes oid) room

  pub kept-roomier : (id : ℕ) → new.info ≡ old.info → WritesArray old.arrays new.arrays id KeepsRoom → IsSome (get nat_cmp old.arrays id)
      → (name : LockName) → kept_under (Some new) name ≡ kept_under (Some old) name
  kept-roomier id info writes some (Collection n) = ap (λ i. option_map collection_kept i) info
  kept-roomier id info writes some (Domain n oid) =
      by_writes KeepsRoom old.arrays new.arrays id writes (λ b o w. option_map domain_kept (domain_in w) ≡ option_map domain_kept (domain_in o))
      oid some (λ a w way. ap (λ d. option_map domain_kept d) way.domain) (λ o. refl)
  kept-roomier id info writes some (Tile n oid place) =
      by_writes KeepsRoom old.arrays new.arrays id writes (λ b o w. option_map tile_kept (tile_stored w place.items) ≡ option_map tile_kept (tile_stored o place.items))
      oid some (λ a w way. ap (λ es. kept_tile (value_at es place.items)) way.tiles) (λ o. refl)

-- ---- small steps

-- an array of which something holds is there
pub some_from_and : (o : Option KeptArray) (P : KeptArray → Type 0) → IsSomeAnd o P → IsSome o
some_from_and None P has = absurd has
some_from_and (Some a) P has = refl

-- a new domain leaves what is ready
pub room-domain : (old new : KeptCollection) (id : ℕ) (domain : Option (List Interval))
    → WritesArray old.arrays new.arrays id (λ a w. w ≡ record a { domain = domain }) → IsSome (get nat_cmp old.arrays id)
    → (other : LockName) → HasRoomIn (Some old) other → HasRoomIn (Some new) other
room-domain old new id domain =
    room-written (λ a w. w ≡ record a { domain = domain }) (λ a w way q ready. subst (λ (x : KeptArray). IsReady x.tiles q) (sym way) ready) old new id
