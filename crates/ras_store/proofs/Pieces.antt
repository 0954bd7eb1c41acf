-- What a piece holds when entries are added to it, and when it is put where nothing is kept.
use Rattle.std.proofs.Common.{◌≡◌, ◌⊎◌, inl, inr, ℕ, suc, All, ℤ, ◌<◌, ◌+◌, Bool, true, false, cond, ◌&&◌, ◌||◌, List, [], ◌∷◌, ◌++◌, length, get_or, take, map, Contains, Option, Some, None, refl, sym, ap, subst, ◌∙◌, arith}
use Rattle.std.specs.BTreeMap.{is_at}
use Rattle.std.specs.Cmp.{nat_cmp_total}
use Rattle.std.specs.Cmp.Lexicographic.{slice_cmp}
use Rattle.std.specs.List.{list_any, slice_get}
use Rattle.std.specs.Option.{option_map}
use Rattle.std.specs.Ordering.{is_eq, nat_cmp}
use Rattle.std.specs.declared.alloc.Global.{Global}
use Rattle.std.specs.declared.sync.Arc.{Arc}
use Rattle.std.proofs.lemmas.Bool.{false≢true}
use Rattle.std.proofs.lemmas.Cmp.{tied_itself}
use Rattle.std.proofs.lemmas.List.{map-append}
use Rattle.std.proofs.lemmas.List.Folds.{list_any_at, list_any_more}
use Rattle.law_lists.proofs.Elements.{Contains-here, Contains-there}
use Rattle.std.proofs.lemmas.Map.Lookups.{exact_bytes, exact_unsigned}
use Rattle.std.proofs.lemmas.Map.Views.{tells_apart}
use Rattle.std.proofs.lemmas.Option.{get_or_from_slice_get}
use Rattle.arrayvec.specs.ArrayVec.{ArrayVec}
use Rattle.ras_domain.specs.declared.lock.LockName.{LockName}
use Rattle.ras_domain.specs.declared.lock.LockName.TheVariants.{Collection, Domain, Tile}
use Rattle.ras_domain.specs.declared.lock.Mode.{Mode}
use Rattle.ras_domain.specs.declared.region.Interval.{Interval}
use Rattle.ras_index.specs.Index.{row_major}
use Rattle.ras_index.proofs.Slots.{row_major_exact, row_major_total}
use Rattle.ras_tile.specs.Tile.{TileValue}
use Rattle.ras_store.specs.declared.change.Change.{Change}
use Rattle.ras_store.specs.declared.change.Change.TheVariants.{Domain as DomainChange, Tile as TileChange}
use Rattle.ras_store.specs.declared.collection.CollectionInfo.{CollectionInfo}
use Rattle.ras_store.specs.declared.piece.Piece.{Piece}
use Rattle.ras_store.specs.Kept.{Kept, changed_by, changed_by_all, collection_kept, domain_kept, kept_tile, name_changed}
use Rattle.ras_store.specs.Piece.{IsTakenWhere, collection_entry, domain_entry, is_same_lock_name, kept_by, piece_over, placed_by, placed_by_all, tile_entry}
use Rattle.ras_store.proofs.Listed.{by_name_total, changed_by_all-push}
use Rattle.spec_statements.specs.Locks.{Lock}
use Rattle.spec_statements.specs.ReachLaw.{Names}

-- ---- names

both_true : (a b : Bool) → (a && b) ≡ true → (a ≡ true) × (b ≡ true)
both_true true b is = (refl, is)
both_true false b is = absurd (cc)

all_three : (a b c : Bool) → a ≡ true → b ≡ true → c ≡ true → (a && (b && c)) ≡ true
all_three a b c x y z = ap (λ t. t && (b && c)) x ∙ ap (λ t. t && c) y ∙ z

same-itself : (name : LockName) → is_same_lock_name name name ≡ true
same-itself (Collection n) = ap is_eq (tied_itself by_name_total n)
same-itself (Domain n oid) = ap (λ r. is_eq r && is_eq (nat_cmp oid oid)) (tied_itself by_name_total n) ∙ ap is_eq (tied_itself nat_cmp_total oid)
same-itself (Tile n oid place) =
    all_three (is_at (slice_cmp nat_cmp n) n) (is_at (nat_cmp oid) oid) (is_at (row_major place.items) place.items)
    (ap is_eq (tied_itself by_name_total n)) (ap is_eq (tied_itself nat_cmp_total oid)) (ap is_eq (tied_itself row_major_total place.items))

same_place : (at place : ArrayVec ℤ) → at.items ≡ place.items → at ≡ place
same_place at place is = let point : List ℤ → ArrayVec ℤ = λ xs. record { items = xs } in ap point is

pub same-exact : (name other : LockName) → is_same_lock_name name other ≡ true → name ≡ other
same-exact (Collection n) (Collection m) is = ap Collection (tells_apart exact_bytes n m is)
same-exact (Domain n id) (Domain m oid) is =
    let both = both_true (is_at (slice_cmp nat_cmp n) m) (is_at (nat_cmp id) oid) is in
    ap (λ x. Domain x id) (tells_apart exact_bytes n m both.0) ∙ ap (Domain m) (tells_apart exact_unsigned id oid both.1)
same-exact (Tile n id at) (Tile m oid place) is =
    let first = both_true (is_at (slice_cmp nat_cmp n) m) (is_at (nat_cmp id) oid && is_at (row_major at.items) place.items) is in
    let second = both_true (is_at (nat_cmp id) oid) (is_at (row_major at.items) place.items) first.1 in
    ap (λ x. Tile x id at) (tells_apart exact_bytes n m first.0) ∙ ap (λ x. Tile m x at) (tells_apart exact_unsigned id oid second.0)
    ∙ ap (Tile m oid) (same_place at place (tells_apart row_major_exact at.items place.items second.1))
same-exact (Collection n) (Domain m oid) is = absurd (cc)
same-exact (Collection n) (Tile m oid place) is = absurd (cc)
same-exact (Domain n id) (Collection m) is = absurd (cc)
same-exact (Domain n id) (Tile m oid place) is = absurd (cc)
same-exact (Tile n id at) (Collection m) is = absurd (cc)
same-exact (Tile n id at) (Domain m oid) is = absurd (cc)

-- whether a list names it
abbrev pub is_named : List Lock → LockName → Bool
is_named list name = list_any (λ lock. is_same_lock_name lock.0 name) list

-- a test that one element passes
passed : {X : Type 0} (test : X → Bool) (xs : List X) (x : X) → Contains xs x → test x ≡ true → list_any test xs ≡ true
passed test xs x has is = list_any_at test xs has.0 x has.1 (ap test has.2 ∙ is)

pub named_there : (list : List Lock) (name : LockName) → Names list name → is_named list name ≡ true
named_there list name names = passed (λ lock. is_same_lock_name lock.0 name) list (name, names.0) names.1 (same-itself name)

pub named_not : (list : List Lock) (name : LockName) → ¬ Names list name → is_named list name ≡ false
named_not [] name none = refl
named_not (lock ∷ list) name none =
    at (is_same_lock_name lock.0 name) refl (named_not list name (λ names. none (names.0, Contains-there (name, names.0) lock list names.1)))
  where
    at : (b : Bool) → is_same_lock_name lock.0 name ≡ b → is_named list name ≡ false → (b || is_named list name) ≡ false
    at true is rest =
        absurd (none (lock.1, subst (λ n. Contains (lock ∷ list) (n, lock.1)) (same-exact lock.0 name is) (Contains-here lock list)))
    at false is rest = rest

-- ---- entries

-- one entry more
pub entries-push : {E : Type 0} (f : E → Change) (xs : List E) (x : E) (name : LockName) (kept : Option Kept)
    → changed_by_all (map f (xs ++ x ∷ [])) name kept ≡ changed_by (f x) name (changed_by_all (map f xs) name kept)
entries-push f xs x name kept =
    ap (λ changes. changed_by_all changes name kept) (map-append f xs (x ∷ [])) ∙ changed_by_all-push (map f xs) (f x) name kept

joined : (a b : Bool) (x k : Option Kept) → cond a (cond b x k) k ≡ cond (a && b) x k
joined true b x k = refl
joined false b x k = refl

-- nothing was taken
pub taken-nothing : (kept : Option Kept) (same : Bool) (old : Option Kept) → kept ≡ None → IsTakenWhere kept same old old
taken-nothing kept same old none = inr (none, refl)

module _ (old new : Piece) where
  pub taken-collection : (n : List ℕ) (info : Option CollectionInfo) (kept : Option Kept)
      → new.collections ≡ old.collections ++ (n, info) ∷ [] → new.domains ≡ old.domains → new.tiles ≡ old.tiles
      → option_map collection_kept info ≡ kept → (other : LockName) (before : Option Kept)
      → IsTakenWhere kept (is_same_lock_name (Collection n) other) (piece_over old other before) (piece_over new other before)
  taken-collection n info kept more domains tiles is (Collection m) before =
      inl
      (ap (λ es. changed_by_all (map collection_entry es) (Collection m) before) more
      ∙ entries-push collection_entry old.collections (n, info) (Collection m) before
      ∙ ap (λ k. cond (is_at (slice_cmp nat_cmp n) m) k (piece_over old (Collection m) before)) is)
  taken-collection n info kept more domains tiles is (Domain m oid) before = inl (ap (λ es. changed_by_all (map domain_entry es) (Domain m oid) before) domains)
  taken-collection n info kept more domains tiles is (Tile m oid place) before = inl (ap (λ es. changed_by_all (map tile_entry es) (Tile m oid place) before) tiles)

  pub taken-domain : (n : List ℕ) (id : ℕ) (domain : List Interval) (kept : Option Kept)
      → new.domains ≡ old.domains ++ (n, id, domain) ∷ [] → new.collections ≡ old.collections → new.tiles ≡ old.tiles
      → Some (domain_kept domain) ≡ kept → (other : LockName) (before : Option Kept)
      → IsTakenWhere kept (is_same_lock_name (Domain n id) other) (piece_over old other before) (piece_over new other before)
  taken-domain n id domain kept more collections tiles is (Domain m oid) before =
      inl
      (ap (λ es. changed_by_all (map domain_entry es) (Domain m oid) before) more
      ∙ entries-push domain_entry old.domains (n, id, domain) (Domain m oid) before
      ∙ joined (is_at (slice_cmp nat_cmp n) m) (is_at (nat_cmp id) oid) (Some (domain_kept domain)) (piece_over old (Domain m oid) before)
      ∙ ap (λ k. cond (is_at (slice_cmp nat_cmp n) m && is_at (nat_cmp id) oid) k (piece_over old (Domain m oid) before)) is)
  taken-domain n id domain kept more collections tiles is (Collection m) before = inl (ap (λ es. changed_by_all (map collection_entry es) (Collection m) before) collections)
  taken-domain n id domain kept more collections tiles is (Tile m oid place) before = inl (ap (λ es. changed_by_all (map tile_entry es) (Tile m oid place) before) tiles)

  pub taken-tile : (n : List ℕ) (id : ℕ) (at : ArrayVec ℤ) (tile : Arc TileValue Global) (kept : Option Kept)
      → new.tiles ≡ old.tiles ++ (n, id, at, tile) ∷ [] → new.collections ≡ old.collections → new.domains ≡ old.domains
      → kept_tile (Some tile) ≡ kept → (other : LockName) (before : Option Kept)
      → IsTakenWhere kept (is_same_lock_name (Tile n id at) other) (piece_over old other before) (piece_over new other before)
  taken-tile n id at tile kept more collections domains is (Tile m oid place) before =
      inl
      (ap (λ es. changed_by_all (map tile_entry es) (Tile m oid place) before) more
      ∙ entries-push tile_entry old.tiles (n, id, at, tile) (Tile m oid place) before
      ∙ joined (is_at (slice_cmp nat_cmp n) m) (is_at (nat_cmp id) oid && is_at (row_major at.items) place.items) (kept_tile (Some tile)) (piece_over old (Tile m oid place) before)
      ∙ ap (λ k. cond (is_same_lock_name (Tile n id at) (Tile m oid place)) k (piece_over old (Tile m oid place) before)) is)
  taken-tile n id at tile kept more collections domains is (Collection m) before = inl (ap (λ es. changed_by_all (map collection_entry es) (Collection m) before) collections)
  taken-tile n id at tile kept more collections domains is (Domain m oid) before = inl (ap (λ es. changed_by_all (map domain_entry es) (Domain m oid) before) domains)

-- ---- the names of a list one after another

taken_more : (x b : Bool) (whole kept old new : Option Kept) → old ≡ cond x whole None → (b ≡ true → kept ≡ whole) → IsTakenWhere kept b old new → new ≡ cond (x || b) whole None
taken_more true true whole kept old new was same (inl is) = is ∙ same refl
taken_more true true whole kept old new was same (inr both) = both.1 ∙ was
taken_more true false whole kept old new was same (inl is) = is ∙ was
taken_more true false whole kept old new was same (inr both) = both.1 ∙ was
taken_more false true whole kept old new was same (inl is) = is ∙ same refl
taken_more false true whole kept old new was same (inr both) = both.1 ∙ was ∙ sym (sym (same refl) ∙ both.0)
taken_more false false whole kept old new was same (inl is) = is ∙ was
taken_more false false whole kept old new was same (inr both) = both.1 ∙ was

pub one-more-taken : (list : List Lock) (i : ℕ) (lock : LockName) (mode : Mode) (kept : LockName → Option Kept) (old new : LockName → Option Kept)
    → i < length list → slice_get list i ≡ Some (lock, mode)
    → ((name : LockName) → old name ≡ cond (is_named (take i list) name) (kept name) None)
    → ((name : LockName) → IsTakenWhere (kept lock) (is_same_lock_name lock name) (old name) (new name))
    → (name : LockName) → new name ≡ cond (is_named (take (i + 1) list) name) (kept name) None
one-more-taken list i lock mode kept old new within at was taken name =
    taken_more (is_named (take i list) name) (is_same_lock_name lock name) (kept name) (kept lock) (old name) (new name) (was name)
    (λ is. ap kept (same-exact lock name is)) (taken name)
    ∙ ap (λ b. cond (is_named (take i list) name || b) (kept name) None)
    (ap (λ (l : Lock). is_same_lock_name l.0 name) (sym (get_or_from_slice_get list i (lock, mode) (lock, mode) at)))
    ∙ ap (λ b. cond b (kept name) None) (sym (list_any_more (λ (l : Lock). is_same_lock_name l.0 name) list i (lock, mode) within))

neither : (a b : Bool) → (a || b) ≡ false → (a ≡ false) × (b ≡ false)
neither false b is = (refl, is)
neither true b is = absurd (cc)

still_over : (b : Bool) (kept old new before : Option Kept) → b ≡ false → old ≡ before → IsTakenWhere kept b old new → new ≡ before
still_over false kept old new before apart was (inl is) = is ∙ was
still_over false kept old new before apart was (inr both) = both.1 ∙ was
still_over true kept old new before apart was taken = absurd (cc)

-- over a name that isn't among them nothing is put
pub one-more-apart : (list : List Lock) (i : ℕ) (lock : LockName) (mode : Mode) (kept : Option Kept) (old new : LockName → Option Kept → Option Kept)
    → i < length list → slice_get list i ≡ Some (lock, mode)
    → ((name : LockName) (before : Option Kept) → is_named (take i list) name ≡ false → old name before ≡ before)
    → ((name : LockName) (before : Option Kept) → IsTakenWhere kept (is_same_lock_name lock name) (old name before) (new name before))
    → (name : LockName) (before : Option Kept) → is_named (take (i + 1) list) name ≡ false → new name before ≡ before
one-more-apart list i lock mode kept old new within at was taken name before apart =
    let both = neither (is_named (take i list) name) (is_same_lock_name lock name)
    (ap (λ b. is_named (take i list) name || b)
    (ap (λ (l : Lock). is_same_lock_name l.0 name) (sym (get_or_from_slice_get list i (lock, mode) (lock, mode) at)))
    ∙ sym (list_any_more (λ (l : Lock). is_same_lock_name l.0 name) list i (lock, mode) within) ∙ apart) in
    still_over (is_same_lock_name lock name) kept (old name before) (new name before) before both.1 (was name before both.0) (taken name before)

-- ---- entries put one after another, except under names that were written

unchanged_at : (a : Bool) (k : Option Kept) → cond a k k ≡ k
unchanged_at true k = refl
unchanged_at false k = refl

-- one entry more
pub placed-push : {E : Type 0} (f : E → Change) (xs : List E) (x : E) (name : LockName) (kept : Option Kept)
    → placed_by_all (map f (xs ++ x ∷ [])) name kept ≡ placed_by (f x) name (placed_by_all (map f xs) name kept)
placed-push f [] x name kept = refl
placed-push f (y ∷ xs) x name kept = placed-push f xs x name (placed_by (f y) name kept)

put_case : (at here same : Bool) (value before more old new : Option Kept) → (same ≡ true → at ≡ here) → old ≡ cond here before more
    → new ≡ cond at old (cond same value old) → new ≡ cond here before (cond same value more)
put_case true true same value before more old new tied was is = is ∙ was
put_case true false true value before more old new tied was is = absurd (let e : true ≡ (let b : Bool = false in b) = tied refl in cc)
put_case true false false value before more old new tied was is = is ∙ was
put_case false true true value before more old new tied was is = absurd (let e : false ≡ (let b : Bool = true in b) = tied refl in cc)
put_case false true false value before more old new tied was is = is ∙ was
put_case false false true value before more old new tied was is = is
put_case false false false value before more old new tied was is = is ∙ was

pub one-more-put : {E : Type 0} (f : E → Change) (written : LockName → Bool) (before old new : LockName → Option Kept) (xs : List E) (x : E)
    → ((name : LockName) → old name ≡ cond (written name) (before name) (placed_by_all (map f xs) name (before name)))
    → ((name : LockName) → new name ≡ cond (written (name_changed (f x))) (old name) (placed_by (f x) name (old name)))
    → (name : LockName) → new name ≡ cond (written name) (before name) (placed_by_all (map f (xs ++ x ∷ [])) name (before name))
one-more-put f written before old new xs x was is name =
    put_case (written (name_changed (f x))) (written name) (is_same_lock_name (name_changed (f x)) name) (kept_by (f x)) (before name)
    (placed_by_all (map f xs) name (before name)) (old name) (new name) (λ same. ap written (same-exact (name_changed (f x)) name same)) (was name) (is name)
    ∙ ap (λ k. cond (written name) (before name) k) (sym (placed-push f xs x name (before name)))

-- nothing was put yet
pub none-put : (b : Bool) (kept : Option Kept) → kept ≡ cond b kept kept
none-put true kept = refl
none-put false kept = refl

-- a change of a domain or a tile puts what it has
pub placed-domain : (n : List ℕ) (id : ℕ) (domain : Option (List Interval)) (name : LockName) (kept : Option Kept)
    → changed_by (DomainChange n id domain) name kept ≡ placed_by (DomainChange n id domain) name kept
placed-domain n id domain (Collection m) kept = unchanged_at (is_at (slice_cmp nat_cmp n) m) kept
placed-domain n id domain (Domain m oid) kept = joined (is_at (slice_cmp nat_cmp n) m) (is_at (nat_cmp id) oid) (option_map domain_kept domain) kept
placed-domain n id domain (Tile m oid place) kept = unchanged_at (is_at (slice_cmp nat_cmp n) m) kept

pub placed-tile : (n : List ℕ) (id : ℕ) (at : ArrayVec ℤ) (tile : Option (Arc TileValue Global)) (name : LockName) (kept : Option Kept)
    → changed_by (TileChange n id at tile) name kept ≡ placed_by (TileChange n id at tile) name kept
placed-tile n id at tile (Collection m) kept = unchanged_at (is_at (slice_cmp nat_cmp n) m) kept
placed-tile n id at tile (Domain m oid) kept = unchanged_at (is_at (slice_cmp nat_cmp n) m) kept
placed-tile n id at tile (Tile m oid place) kept =
    joined (is_at (slice_cmp nat_cmp n) m) (is_at (nat_cmp id) oid && is_at (row_major at.items) place.items) (kept_tile tile) kept

-- ---- all entries of a piece, one kind after another

-- under a name of their kind they put what the last one there has
collections-here : (es : List (List ℕ × Option CollectionInfo)) (m : List ℕ) (k : Option Kept)
    → placed_by_all (map collection_entry es) (Collection m) k ≡ changed_by_all (map collection_entry es) (Collection m) k
collections-here [] m k = refl
collections-here (e ∷ es) m k = collections-here es m (placed_by (collection_entry e) (Collection m) k)

domains-here : (es : List (List ℕ × ℕ × List Interval)) (m : List ℕ) (oid : ℕ) (k : Option Kept)
    → placed_by_all (map domain_entry es) (Domain m oid) k ≡ changed_by_all (map domain_entry es) (Domain m oid) k
domains-here [] m oid k = refl
domains-here (e ∷ es) m oid k =
    domains-here es m oid (placed_by (domain_entry e) (Domain m oid) k)
    ∙ ap (changed_by_all (map domain_entry es) (Domain m oid)) (sym (placed-domain e.0 e.1 (Some e.2) (Domain m oid) k))

tiles-here : (es : List (List ℕ × ℕ × ArrayVec ℤ × Arc TileValue Global)) (m : List ℕ) (oid : ℕ) (place : ArrayVec ℤ) (k : Option Kept)
    → placed_by_all (map tile_entry es) (Tile m oid place) k ≡ changed_by_all (map tile_entry es) (Tile m oid place) k
tiles-here [] m oid place k = refl
tiles-here (e ∷ es) m oid place k =
    tiles-here es m oid place (placed_by (tile_entry e) (Tile m oid place) k)
    ∙ ap (changed_by_all (map tile_entry es) (Tile m oid place)) (sym (placed-tile e.0 e.1 e.2 (Some e.3) (Tile m oid place) k))

-- under a name of another kind they put nothing
elsewhere : {E : Type 0} (f : E → Change) (es : List E) (name : LockName) (k : Option Kept)
    → ((e : E) → is_same_lock_name (name_changed (f e)) name ≡ false) → placed_by_all (map f es) name k ≡ k
elsewhere f [] name k other = refl
elsewhere f (e ∷ es) name k other =
    elsewhere f es name (placed_by (f e) name k) other ∙ ap (λ b. cond b (kept_by (f e)) k) (other e)

put-over : (piece : Piece) (name : LockName) (k : Option Kept)
    → placed_by_all (map tile_entry piece.tiles) name
    (placed_by_all (map domain_entry piece.domains) name (placed_by_all (map collection_entry piece.collections) name k))
    ≡ piece_over piece name k
put-over piece (Collection m) k =
    elsewhere tile_entry piece.tiles (Collection m) _ (λ e. refl) ∙ elsewhere domain_entry piece.domains (Collection m) _ (λ e. refl)
    ∙ collections-here piece.collections m k
put-over piece (Domain m oid) k =
    elsewhere tile_entry piece.tiles (Domain m oid) _ (λ e. refl) ∙ domains-here piece.domains m oid _
    ∙ ap (changed_by_all (map domain_entry piece.domains) (Domain m oid)) (elsewhere collection_entry piece.collections (Domain m oid) k (λ e. refl))
put-over piece (Tile m oid place) k =
    tiles-here piece.tiles m oid place _
    ∙ ap (changed_by_all (map tile_entry piece.tiles) (Tile m oid place))
    (elsewhere domain_entry piece.domains (Tile m oid place) _ (λ e. refl) ∙ elsewhere collection_entry piece.collections (Tile m oid place) k (λ e. refl))

three_put : (b : Bool) (f g h : Option Kept → Option Kept) (k one two three whole : Option Kept)
    → one ≡ cond b k (f k) → two ≡ cond b one (g one) → three ≡ cond b two (h two) → h (g (f k)) ≡ whole → three ≡ cond b k whole
three_put true f g h k one two three whole first second third is = third ∙ second ∙ first
three_put false f g h k one two three whole first second third is = third ∙ ap h (second ∙ ap g first) ∙ is

pub piece-put : (piece : Piece) (written : LockName → Bool) (name : LockName) (k one two three : Option Kept)
    → one ≡ cond (written name) k (placed_by_all (map collection_entry piece.collections) name k)
    → two ≡ cond (written name) one (placed_by_all (map domain_entry piece.domains) name one)
    → three ≡ cond (written name) two (placed_by_all (map tile_entry piece.tiles) name two)
    → three ≡ cond (written name) k (piece_over piece name k)
piece-put piece written name k one two three first second third =
    three_put (written name) (placed_by_all (map collection_entry piece.collections) name) (placed_by_all (map domain_entry piece.domains) name)
    (placed_by_all (map tile_entry piece.tiles) name) k one two three (piece_over piece name k) first second third (put-over piece name k)

-- ---- entries that are taken from a list

pub first_of_all : {X : Type 0} (P : X → Type 0) (xs : List X) (x : X) (rest : List X) → xs ≡ x ∷ rest → All P xs → P x
first_of_all P xs x rest is all = let whole : All P (x ∷ rest) = subst (All P) is all in whole 0 x (omega arith)

pub rest_of_all : {X : Type 0} (P : X → Type 0) (xs : List X) (x : X) (rest : List X) → xs ≡ x ∷ rest → All P xs → All P rest
rest_of_all P xs x rest is all = let whole : All P (x ∷ rest) = subst (All P) is all in λ k d within. whole (suc k) d (omega (arith, within))
