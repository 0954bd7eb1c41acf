-- Lists of locks: each name once, in the order of names.
use Rattle.std.specs.Prelude.{◌≡◌, ◌≢◌, ◌⊎◌, ℕ, ℤ, List, [], ◌∷◌}
use Rattle.std.specs.Ordering.{nat_cmp, int_cmp, ordering_then, match_ordering}
use Rattle.std.specs.Cmp.Lexicographic.{slice_cmp}
use Rattle.std.specs.declared.cmp.Ordering.{Ordering}
use Rattle.ras_domain.specs.declared.lock.LockName.{LockName}
use Rattle.ras_domain.specs.declared.lock.LockName.TheVariants.{Collection, Domain, Tile}
use Rattle.ras_domain.specs.declared.lock.Mode.{Mode}
use Rattle.ras_domain.specs.declared.lock.Mode.TheVariants.{Shared, Exclusive}

abbrev pub Lock : Type 0
Lock = LockName × Mode

-- ---- the order: the collection's name, then collection, domain, tile, then the identifier, then the place

abbrev pub collection_in : LockName → List ℕ
collection_in (Collection name) = name
collection_in (Domain name id) = name
collection_in (Tile name id place) = name

abbrev pub level_in : LockName → ℕ
level_in (Collection name) = 0
level_in (Domain name id) = 1
level_in (Tile name id place) = 2

abbrev pub identifier_in : LockName → ℕ
identifier_in (Collection name) = 0
identifier_in (Domain name id) = id
identifier_in (Tile name id place) = id

abbrev pub place_in : LockName → List ℤ
place_in (Collection name) = []
place_in (Domain name id) = []
place_in (Tile name id place) = place.items

abbrev pub lock_cmp : LockName → LockName → Ordering
lock_cmp x y =
    ordering_then (slice_cmp nat_cmp (collection_in x) (collection_in y))
    (ordering_then (nat_cmp (level_in x) (level_in y))
    (ordering_then (nat_cmp (identifier_in x) (identifier_in y))
    (slice_cmp int_cmp (place_in x) (place_in y))))

-- ---- lists

-- exclusive where both modes are wanted
abbrev pub stronger : Mode → Mode → Mode
stronger Exclusive mode = Exclusive
stronger Shared mode = mode

abbrev pub with_lock : Lock → List Lock → List Lock
with_lock lock [] = lock ∷ []
with_lock lock (other ∷ others) =
    match_ordering (lock_cmp lock.0 other.0) (lock ∷ other ∷ others) ((other.0, stronger lock.1 other.1) ∷ others) (other ∷ with_lock lock others)

abbrev pub lock_list : List Lock → List Lock
lock_list [] = []
lock_list (lock ∷ locks) = with_lock lock (lock_list locks)

-- ---- conflict

-- two locks conflict where they have one name, their owners differ, and not both are shared
pub record Conflicts (owner other : ℕ) (lock held : Lock) : Type 0 where
  pub same_name : lock.0 ≡ held.0
  pub others : owner ≢ other
  pub not_shared : (lock.1 ≡ Exclusive) ⊎ (held.1 ≡ Exclusive)
