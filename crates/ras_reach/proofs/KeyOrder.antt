-- Locks by their keys: a key that is put among others stands where its lock does.
use Rattle.std.proofs.Common.{arith, suc, Result, Ok, Err, subst, ◌≡◌, ◌≤◌, List, [], ◌∷◌, ◌++◌, length, map, cond, Option, Some, None, refl, sym, ap, ◌∙◌, append_assoc}
use Rattle.std.proofs.lemmas.List.{append-nil}
use Rattle.std.specs.Prelude.{OnOk}
use Rattle.std.specs.Map.{lookup}
use Rattle.std.specs.Cmp.{IsTotalOrder, int_cmp_total, nat_cmp_total, on_total, then_total}
use Rattle.std.specs.Cmp.Lexicographic.{lists_total, nat_list_cmp_total}
use Rattle.std.specs.List.{AllByRecursion}
use Rattle.std.specs.List.Sorted.{IsStrictlySortedBy}
use Rattle.std.specs.BTreeMap.{insert_entry, is_at}
use Rattle.std.specs.Ordering.{is_eq, match_ordering}
use Rattle.std.specs.declared.cmp.Ordering.{Ordering}
use Rattle.std.specs.declared.cmp.Ordering.TheVariants.{Less, Equal, Greater}
use Rattle.std.proofs.lemmas.Map.Keys.{sorted_head, sorted_tail}
use Rattle.ras_domain.specs.declared.lock.LockName.{LockName}
use Rattle.ras_domain.specs.declared.lock.LockName.TheVariants.{Collection, Domain, Tile}
use Rattle.ras_domain.specs.declared.lock.Mode.{Mode}
use Rattle.spec_statements.specs.Locks.{Lock, lock_cmp, lock_list, stronger, with_lock}
use Rattle.ras_reach.specs.declared.keys.LockKey.{LockKey}
use Rattle.ras_reach.specs.Keys.{AreKeyed, key_cmp, keyed, lock_key, name_of_key, names_kept, put_before}
use Rattle.ras_reach.specs.Kept.{mode_with}

-- ---- names and keys

pub key_keeps : (name : LockName) → name_of_key (lock_key name) ≡ name
key_keeps (Collection name) = refl
key_keeps (Domain name id) = refl
key_keeps (Tile name id place) = refl

pub keyed_keeps : (locks : List Lock) → names_kept (keyed locks) ≡ locks
keyed_keeps [] = refl
keyed_keeps (lock ∷ locks) =
    ap (λ (name : LockName). (name, lock.1) ∷ names_kept (keyed locks)) (key_keeps lock.0) ∙ ap (λ (rest : List Lock). lock ∷ rest) (keyed_keeps locks)

-- keys are ordered as names are
pub key_total : IsTotalOrder key_cmp
key_total =
    then_total (on_total (λ (k : LockKey). k.collection) nat_list_cmp_total)
    (then_total (on_total (λ (k : LockKey). k.level) nat_cmp_total)
    (then_total (on_total (λ (k : LockKey). k.oid) nat_cmp_total)
    (on_total (λ (k : LockKey). k.place.items) (lists_total int_cmp_total))))

pub key_agrees : (a b : LockName) → key_cmp (lock_key a) (lock_key b) ≡ lock_cmp a b
key_agrees a b = refl

-- ---- lists

pub put_all : (locks : List Lock) → put_before locks [] ≡ lock_list locks
put_all [] = refl
put_all (lock ∷ locks) = ap (with_lock lock) (put_all locks)

pub put_last : (locks : List Lock) (lock : Lock) (base : List Lock) → put_before (locks ++ lock ∷ []) base ≡ put_before locks (with_lock lock base)
put_last [] lock base = refl
put_last (first ∷ locks) lock base = ap (with_lock first) (put_last locks lock base)

-- ---- one more key

module _ (cmp : LockKey → LockKey → Ordering) (order : IsTotalOrder cmp) (agrees : (a b : LockName) → cmp (lock_key a) (lock_key b) ≡ lock_cmp a b) where
  absent_below : (k first : LockKey) (entries : List (LockKey × Mode)) → cmp k first ≡ Less → AllByRecursion (λ y. cmp first y ≡ Less) (map (λ e. e.0) entries)
      → lookup (is_at (cmp k)) entries ≡ None
  absent_below k first [] below all = refl
  absent_below k first (e ∷ entries) below (one, others) =
      ap (λ o. cond (is_eq o) (Some e.1) (lookup (is_at (cmp k)) entries)) (order.trans k first e.0 below one) ∙ absent_below k first entries below others

  put_by : (o : Ordering) (name : LockName) (mode : Mode) (other : Lock) (others : List Lock) (found : Option Mode) → (o ≡ Less → found ≡ None)
      → insert_entry cmp (keyed others) (lock_key name) (mode_with mode found) ≡ keyed (with_lock (name, mode) others)
      → match_ordering o ((lock_key name, mode_with mode (cond (is_eq o) (Some other.1) found)) ∷ keyed (other ∷ others))
      ((lock_key other.0, mode_with mode (cond (is_eq o) (Some other.1) found)) ∷ keyed others)
      ((lock_key other.0, other.1) ∷ insert_entry cmp (keyed others) (lock_key name) (mode_with mode (cond (is_eq o) (Some other.1) found)))
      ≡ keyed (match_ordering o ((name, mode) ∷ other ∷ others) ((other.0, stronger mode other.1) ∷ others) (other ∷ with_lock (name, mode) others))
  put_by Less name mode other others found absent rest = ap (λ f. (lock_key name, mode_with mode f) ∷ keyed (other ∷ others)) (absent refl)
  put_by Equal name mode other others found absent rest = refl
  put_by Greater name mode other others found absent rest = ap (λ entries. (lock_key other.0, other.1) ∷ entries) rest

  pub put_is : (name : LockName) (mode : Mode) (base : List Lock) → IsStrictlySortedBy cmp (map (λ e. e.0) (keyed base))
      → insert_entry cmp (keyed base) (lock_key name) (mode_with mode (lookup (is_at (cmp (lock_key name))) (keyed base))) ≡ keyed (with_lock (name, mode) base)
  put_is name mode [] sorted = refl
  put_is name mode (other ∷ others) sorted =
      put_by (cmp (lock_key name) (lock_key other.0)) name mode other others (lookup (is_at (cmp (lock_key name))) (keyed others))
      (λ below. absent_below (lock_key name) (lock_key other.0) (keyed others) below (sorted_head cmp (lock_key other.0) (map (λ e. e.0) (keyed others)) sorted))
      (put_is name mode others (sorted_tail cmp (lock_key other.0) (map (λ e. e.0) (keyed others)) sorted))
      ∙ ap (λ o. keyed (match_ordering o ((name, mode) ∷ other ∷ others) ((other.0, stronger mode other.1) ∷ others) (other ∷ with_lock (name, mode) others))) (agrees name other.0)

-- ---- loops

-- the first entry goes to the end of the list
pub kept_turn : (list after : List Lock) (entry : LockKey × Mode) (left rest : List (LockKey × Mode)) (w : List Lock) → left ≡ entry ∷ rest
    → after ≡ list ++ (name_of_key entry.0, entry.1) ∷ [] → list ++ names_kept left ≡ w → after ++ names_kept rest ≡ w
kept_turn list after entry left rest w is added so_far =
    ap (λ all. all ++ names_kept rest) added ∙ append_assoc list ((name_of_key entry.0, entry.1) ∷ []) (names_kept rest)
    ∙ ap (λ entries. list ++ names_kept entries) (sym is) ∙ so_far

pub kept_end : (list : List Lock) (left : List (LockKey × Mode)) (w : List Lock) → length left ≤ 0 → list ++ names_kept left ≡ w → list ≡ w
kept_end list [] w none so_far = sym (append-nil list) ∙ so_far
kept_end list (entry ∷ left) w none so_far = absurd (omega (arith, none))

-- the last lock is put before those that were put
pub put_turn : (left rest before after w : List Lock) (lock : Lock) → left ≡ rest ++ lock ∷ [] → after ≡ with_lock lock before → put_before left before ≡ w → put_before rest after ≡ w
put_turn left rest before after w lock is put so_far =
    ap (put_before rest) put ∙ sym (put_last rest lock before) ∙ ap (λ locks. put_before locks before) (sym is) ∙ so_far

pub put_end : (left locks w : List Lock) → length left ≤ 0 → put_before left locks ≡ w → locks ≡ w
put_end [] locks w none so_far = so_far
put_end (lock ∷ left) locks w none so_far = absurd (omega (arith, none))

-- locks put into an empty list are their list
pub put_list : (locks none all : List Lock) → none ≡ [] → all ≡ put_before locks none → all ≡ lock_list locks
put_list locks none all empty put = put ∙ ap (put_before locks) empty ∙ put_all locks

-- entries that are those of locks have these locks
pub keyed_again : (entries : List (LockKey × Mode)) (locks : List Lock) → entries ≡ keyed locks → AreKeyed entries × (names_kept entries ≡ locks)
keyed_again entries locks is =
    let named : names_kept entries ≡ locks = ap names_kept is ∙ keyed_keeps locks in
    (record { kept = is ∙ ap keyed (sym named) }, named)

-- an entry that is put among those of locks, in the mode that is wanted of its name altogether
pub put_entry : (old new : List (LockKey × Mode)) (base : List Lock) (name : LockName) (mode joint : Mode) (key : LockKey) (found : Option Mode) → old ≡ keyed base → key ≡ lock_key name
    → joint ≡ mode_with mode found → found ≡ lookup (is_at (key_cmp key)) old → IsStrictlySortedBy key_cmp (map (λ e. e.0) old) → new ≡ insert_entry key_cmp old key joint
    → new ≡ keyed (with_lock (name, mode) base)
put_entry old new base name mode joint key found o k j f sorted is =
    is ∙ ap (λ entries. insert_entry key_cmp entries key joint) o ∙ ap (λ one. insert_entry key_cmp (keyed base) one joint) k
    ∙ ap (insert_entry key_cmp (keyed base) (lock_key name))
    (j ∙ ap (mode_with mode) (f ∙ ap (λ entries. lookup (is_at (key_cmp key)) entries) o ∙ ap (λ one. lookup (is_at (key_cmp one)) (keyed base)) k))
    ∙ put_is key_cmp key_total key_agrees name mode base (subst (λ entries. IsStrictlySortedBy key_cmp (map (λ e. e.0) entries)) o sorted)

-- locks put before others that were put
pub put_before_both : (first second base : List Lock) → put_before (first ++ second) base ≡ put_before first (put_before second base)
put_before_both [] second base = refl
put_before_both (lock ∷ first) second base = ap (with_lock lock) (put_before_both first second base)

-- as many locks as keys
pub as_many_names : (entries : List (LockKey × Mode)) → length (names_kept entries) ≡ length entries
as_many_names [] = refl
as_many_names (entry ∷ entries) = ap suc (as_many_names entries)

-- a lock is put before those that are put
pub put_pair : {E : Type 0} (first second old mid new : List Lock) (r : Result (Unit {0}) E) → mid ≡ put_before second old → OnOk r (new ≡ put_before first mid)
    → OnOk r (new ≡ put_before (first ++ second) old)
put_pair first second old mid new (Ok x) one two = two ∙ ap (put_before first) one ∙ sym (put_before_both first second old)
put_pair first second old mid new (Err error) one two = tt
