-- The names of a list of locks, each once and in order, are those that were asked for.
use Rattle.std.proofs.Common.{◌≡◌, ◌⊎◌, inl, inr, List, [], ◌∷◌, Contains, Ordering, Less, Equal, Greater, refl, sym, ap, subst, arith}
use Rattle.std.specs.List.{AllByRecursion}
use Rattle.std.specs.Ordering.{int_cmp, match_ordering, nat_cmp}
use Rattle.std.specs.Cmp.Lexicographic.{slice_cmp}
use Rattle.std.proofs.lemmas.Map.Lookups.{CmpEqualImpliesEq, exact_bytes, exact_signed, exact_unsigned}
use Rattle.ras_domain.specs.declared.lock.LockName.{LockName}
use Rattle.ras_domain.specs.declared.lock.LockName.TheVariants.{Collection, Domain, Tile}
use Rattle.ras_domain.specs.declared.lock.Mode.{Mode}
use Rattle.ras_domain.specs.declared.lock.Mode.TheVariants.{Shared, Exclusive}
use Rattle.spec_statements.specs.Locks.{Lock, collection_in, identifier_in, level_in, lock_cmp, lock_list, place_in, stronger, with_lock}
use Rattle.spec_statements.specs.ReachLaw.{Names}
use Rattle.law_lists.proofs.Elements.{Contains-here, Contains-there, first_or_later}
use Rattle.law_lists.proofs.Orders.{both_equal}

-- ---- equal names

-- an order that tells elements apart tells lists apart
pub exact_lists : {K : Type 0} (R : K → K → Ordering) → CmpEqualImpliesEq R → CmpEqualImpliesEq (slice_cmp R)
exact_lists R exact [] [] is = refl
exact_lists R exact [] (y ∷ ys) is = absurd cc
exact_lists R exact (x ∷ xs) [] is = absurd cc
exact_lists R exact (x ∷ xs) (y ∷ ys) is =
    let both = both_equal (R x y) (slice_cmp R xs ys) is in
    λ i. exact x y both.0 i ∷ exact_lists R exact xs ys both.1 i

same_lock : (x y : LockName) → collection_in x ≡ collection_in y → level_in x ≡ level_in y → identifier_in x ≡ identifier_in y → place_in x ≡ place_in y → x ≡ y
same_lock (Collection m) (Collection n) c k i p = ap Collection c
same_lock (Domain m a) (Domain n b) c k i p = λ t. Domain (c t) (i t)
same_lock (Tile m a q) (Tile n b r) c k i p = λ t. Tile (c t) (i t) (record { items = p t })
same_lock (Collection m) (Domain n b) c k i p = absurd (omega (arith, k))
same_lock (Collection m) (Tile n b r) c k i p = absurd (omega (arith, k))
same_lock (Domain m a) (Collection n) c k i p = absurd (omega (arith, k))
same_lock (Domain m a) (Tile n b r) c k i p = absurd (omega (arith, k))
same_lock (Tile m a q) (Collection n) c k i p = absurd (omega (arith, k))
same_lock (Tile m a q) (Domain n b) c k i p = absurd (omega (arith, k))

-- the order of locks tells names apart
exact_locks : CmpEqualImpliesEq lock_cmp
exact_locks x y is =
    let c = both_equal (slice_cmp nat_cmp (collection_in x) (collection_in y)) _ is in
    let k = both_equal (nat_cmp (level_in x) (level_in y)) _ c.1 in
    let i = both_equal (nat_cmp (identifier_in x) (identifier_in y)) _ k.1 in
    same_lock x y (exact_bytes _ _ c.0) (exact_unsigned _ _ k.0) (exact_unsigned _ _ i.0) (exact_lists int_cmp exact_signed _ _ i.1)

-- ---- no other name is listed

-- what holds of the names that are asked for holds of those that are listed
each_at : (P : LockName → Type 0) (lock other : Lock) (others : List Lock) (r : Ordering) → P lock.0 → P other.0 → AllByRecursion (λ l. P l.0) others
    → AllByRecursion (λ l. P l.0) (with_lock lock others)
    → AllByRecursion (λ l. P l.0) (match_ordering r (lock ∷ other ∷ others) ((other.0, stronger lock.1 other.1) ∷ others) (other ∷ with_lock lock others))
each_at P lock other others Less new here rest later = (new, (here, rest))
each_at P lock other others Equal new here rest later = (here, rest)
each_at P lock other others Greater new here rest later = (here, later)

each-with_lock : (P : LockName → Type 0) (lock : Lock) (others : List Lock) → P lock.0 → AllByRecursion (λ l. P l.0) others → AllByRecursion (λ l. P l.0) (with_lock lock others)
each-with_lock P lock [] new all = (new, tt)
each-with_lock P lock (other ∷ others) new all =
    each_at P lock other others (lock_cmp lock.0 other.0) new all.0 all.1 (each-with_lock P lock others new all.1)

pub each-lock_list : (P : LockName → Type 0) (locks : List Lock) → AllByRecursion (λ l. P l.0) locks → AllByRecursion (λ l. P l.0) (lock_list locks)
each-lock_list P [] all = tt
each-lock_list P (lock ∷ locks) all = each-with_lock P lock (lock_list locks) all.0 (each-lock_list P locks all.1)

-- ---- each name is listed, exclusive where it is asked for so

-- the list has the name, and not in a weaker mode
abbrev pub Grants : List Lock → LockName → Mode → Type 0
Grants list name mode = (given : Mode) × Contains list (name, given) × (mode ≡ Exclusive → given ≡ Exclusive)

-- a lock after another, and the first one
granted_there : (lock : Lock) (locks : List Lock) (name : LockName) (mode : Mode) → Grants locks name mode → Grants (lock ∷ locks) name mode
granted_there lock locks name mode (given, has, exclusive) = (given, Contains-there (name, given) lock locks has, exclusive)

granted_here : (name : LockName) (mode : Mode) (locks : List Lock) → Grants ((name, mode) ∷ locks) name mode
granted_here name mode locks = (mode, Contains-here (name, mode) locks, λ e. e)

-- exclusive wins
stronger_left : (a b : Mode) → a ≡ Exclusive → stronger a b ≡ Exclusive
stronger_left Exclusive b is = refl
stronger_left Shared b is = absurd cc

stronger_right : (a b : Mode) → b ≡ Exclusive → stronger a b ≡ Exclusive
stronger_right Exclusive b is = refl
stronger_right Shared b is = is

-- the lock that is added is granted
new_at : (lock other : Lock) (others : List Lock) (r : Ordering) → lock_cmp lock.0 other.0 ≡ r → Grants (with_lock lock others) lock.0 lock.1
    → Grants (match_ordering r (lock ∷ other ∷ others) ((other.0, stronger lock.1 other.1) ∷ others) (other ∷ with_lock lock others)) lock.0 lock.1
new_at lock other others Less is later = granted_here lock.0 lock.1 (other ∷ others)
new_at lock other others Equal is later =
    subst (λ name. Grants ((other.0, stronger lock.1 other.1) ∷ others) name lock.1) (sym (exact_locks lock.0 other.0 is))
    (stronger lock.1 other.1, Contains-here (other.0, stronger lock.1 other.1) others, stronger_left lock.1 other.1)
new_at lock other others Greater is later = granted_there other (with_lock lock others) lock.0 lock.1 later

new_granted : (lock : Lock) (others : List Lock) → Grants (with_lock lock others) lock.0 lock.1
new_granted lock [] = granted_here lock.0 lock.1 []
new_granted lock (other ∷ others) = new_at lock other others (lock_cmp lock.0 other.0) refl (new_granted lock others)

-- a lock of the list stays, be it the first or a later one
old_at : (lock other : Lock) (others : List Lock) (name : LockName) (mode : Mode) (r : Ordering) → ((other ≡ (name, mode)) ⊎ Contains others (name, mode))
    → (Contains others (name, mode) → Grants (with_lock lock others) name mode)
    → Grants (match_ordering r (lock ∷ other ∷ others) ((other.0, stronger lock.1 other.1) ∷ others) (other ∷ with_lock lock others)) name mode
old_at lock other others name mode Less (inl is) later = granted_there lock (other ∷ others) name mode (subst (λ l. Grants (l ∷ others) name mode) (sym is) (granted_here name mode others))
old_at lock other others name mode Less (inr has) later = granted_there lock (other ∷ others) name mode (mode, Contains-there (name, mode) other others has, λ e. e)
old_at lock other others name mode Equal (inl is) later =
    subst (λ l. Grants ((l.0, stronger lock.1 l.1) ∷ others) name mode) (sym is)
    (stronger lock.1 mode, Contains-here (name, stronger lock.1 mode) others, stronger_right lock.1 mode)
old_at lock other others name mode Equal (inr has) later = (mode, Contains-there (name, mode) (other.0, stronger lock.1 other.1) others has, λ e. e)
old_at lock other others name mode Greater (inl is) later = subst (λ l. Grants (l ∷ with_lock lock others) name mode) (sym is) (granted_here name mode (with_lock lock others))
old_at lock other others name mode Greater (inr has) later = granted_there other (with_lock lock others) name mode (later has)

-- and so is one that was there
old_granted : (lock : Lock) (others : List Lock) (name : LockName) (mode : Mode) → Contains others (name, mode) → Grants (with_lock lock others) name mode
old_granted lock [] name mode has = absurd (omega (arith, has.1))
old_granted lock (other ∷ others) name mode has =
    old_at lock other others name mode (lock_cmp lock.0 other.0) (first_or_later (name, mode) other others has) (old_granted lock others name mode)

regranted : (lock : Lock) (locks : List Lock) (name : LockName) (mode : Mode) → Grants locks name mode → Grants (with_lock lock locks) name mode
regranted lock locks name mode (given, has, exclusive) =
    let (more, is_there, strong) = old_granted lock locks name given has in
    (more, is_there, λ e. strong (exclusive e))

-- each lock that is asked for is granted
asked_at : (lock : Lock) (locks : List Lock) (name : LockName) (mode : Mode) → ((lock ≡ (name, mode)) ⊎ Contains locks (name, mode))
    → (Contains locks (name, mode) → Grants (lock_list locks) name mode) → Grants (with_lock lock (lock_list locks)) name mode
asked_at lock locks name mode (inl is) later =
    subst (λ (l : Lock). Grants (with_lock lock (lock_list locks)) l.0 l.1) is (new_granted lock (lock_list locks))
asked_at lock locks name mode (inr has) later = regranted lock (lock_list locks) name mode (later has)

asked_is_granted : (locks : List Lock) (name : LockName) (mode : Mode) → Contains locks (name, mode) → Grants (lock_list locks) name mode
asked_is_granted [] name mode has = absurd (omega (arith, has.1))
asked_is_granted (lock ∷ locks) name mode has =
    asked_at lock locks name mode (first_or_later (name, mode) lock locks has) (asked_is_granted locks name mode)

-- so its name is there, and an exclusive one stays exclusive
pub asked_is_named : (locks : List Lock) (name : LockName) (mode : Mode) → Contains locks (name, mode) → Names (lock_list locks) name
asked_is_named locks name mode has = let (given, is_there, strong) = asked_is_granted locks name mode has in (given, is_there)

pub exclusive_is_granted : (locks : List Lock) (name : LockName) → Contains locks (name, Exclusive) → Contains (lock_list locks) (name, Exclusive)
exclusive_is_granted locks name has =
    let (given, is_there, strong) = asked_is_granted locks name Exclusive has in
    subst (λ mode. Contains {X = Lock} (lock_list locks) (name, mode)) (strong refl) is_there
