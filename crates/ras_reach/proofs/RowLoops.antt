-- Loops over rows, the last one first.
use Rattle.std.proofs.Common.{◌≡◌, ℕ, zero, suc, ◌-◌, ◌<◌, ◌≤◌, Bool, true, false, List, [], ◌∷◌, ◌++◌, length, map, take, get_or, Some, Result, Ok, Err, refl}
use Rattle.std.proofs.Common.{sym, ap, subst, ◌∙◌, arith, append_assoc}
use Rattle.std.specs.Prelude.{flat_map, if◌then◌else◌, nat_lt, slice_get}
use Rattle.std.specs.Ordering.{match_ordering}
use Rattle.std.specs.declared.cmp.Ordering.{Ordering}
use Rattle.std.specs.declared.cmp.Ordering.TheVariants.{Less, Equal, Greater}
use Rattle.std.proofs.lemmas.List.{append-nil, take_all}
use Rattle.std.proofs.Math.Seq.{take-suc}
use borrow.Author.Tests.{lt-ltb, ltb-true}
use Rattle.ras_syntax.specs.declared.limits.TheConstants.{MAX_LOCKS}
use Rattle.spec_statements.specs.Locks.{Lock, lock_cmp, lock_list, stronger, with_lock}
use Rattle.ras_syntax.specs.declared.faults.ShapeFault.TheVariants.{TooManyLocks}
use Rattle.spec_statements.specs.Reply.{Reply, misfit}
use Rattle.ras_reach.specs.Keys.{put_before}
use Rattle.ras_reach.specs.Needs.{limited_to}
use Rattle.ras_reach.proofs.KeyOrder.{put_all, put_before_both}

-- ---- lists grow

longer_by : (o : Ordering) (lock other : Lock) (others rest : List Lock) → length others ≤ length rest
    → length (other ∷ others) ≤ length (match_ordering o (lock ∷ other ∷ others) ((other.0, stronger lock.1 other.1) ∷ others) (other ∷ rest))
longer_by Less lock other others rest more = omega arith
longer_by Equal lock other others rest more = omega arith
longer_by Greater lock other others rest more = omega (arith, more)

with_longer : (lock : Lock) (locks : List Lock) → length locks ≤ length (with_lock lock locks)
with_longer lock [] = omega arith
with_longer lock (other ∷ others) = longer_by (lock_cmp lock.0 other.0) lock other others (with_lock lock others) (with_longer lock others)

put_longer : (locks base : List Lock) → length base ≤ length (put_before locks base)
put_longer [] base = omega arith
put_longer (lock ∷ locks) base = omega (arith, put_longer locks base, with_longer lock (put_before locks base))

-- ---- too long a list stays too long

limited_by : (size : ℕ) (a b : Bool) (one other : List Lock) → a ≡ true → b ≡ true
    → (let p : Result (List Lock) Reply = if a then Err (misfit 0 (record { from = 0; to = size }) TooManyLocks) else Ok one in p)
    ≡ (if b then Err (misfit 0 (record { from = 0; to = size }) TooManyLocks) else Ok other)
limited_by size true true one other p q = refl
limited_by size true false one other p q = cc
limited_by size false b one other p q = cc

pub long_stays : (size : ℕ) (set all : List Lock) → nat_lt MAX_LOCKS (length set) ≡ true → length set ≤ length all → limited_to size set ≡ limited_to size all
long_stays size set all long more =
    limited_by size (nat_lt MAX_LOCKS (length set)) (nat_lt MAX_LOCKS (length all)) set all long (lt-ltb MAX_LOCKS (length all) (omega (arith, ltb-true MAX_LOCKS (length set) long, more)))

-- ---- a loop's turn, its early end and its end

take_get : {X : Type 0} (xs : List X) (k : ℕ) (x : X) → slice_get xs k ≡ Some x → take (suc k) xs ≡ take k xs ++ x ∷ []
take_get [] zero x is = cc
take_get [] (suc k) x is = cc
take_get (y ∷ ys) zero x is = let same : y ≡ x = cc in ap (λ z. z ∷ []) same
take_get (y ∷ ys) (suc k) x is = ap (λ zs. y ∷ zs) (take_get ys k x is)

flat_map-both : {X : Type 0} (f : X → List Lock) (xs ys : List X) → flat_map f (xs ++ ys) ≡ flat_map f xs ++ flat_map f ys
flat_map-both f [] ys = refl
flat_map-both f (x ∷ xs) ys = ap (λ rest. f x ++ rest) (flat_map-both f xs ys) ∙ sym (append_assoc (f x) (flat_map f xs) (flat_map f ys))

last_put : {X : Type 0} (f : X → List Lock) (all front : List X) (x : X) (before after w : List Lock) → all ≡ front ++ x ∷ [] → after ≡ put_before (f x) before
    → put_before (flat_map f all) before ≡ w → put_before (flat_map f front) after ≡ w
last_put f all front x before after w is put so_far =
    ap (put_before (flat_map f front)) put ∙ sym (put_before_both (flat_map f front) (f x) before)
    ∙ ap (λ locks. put_before (flat_map f front ++ locks) before) (sym (append-nil (f x)))
    ∙ ap (λ locks. put_before locks before) (sym (flat_map-both f front (x ∷ []))) ∙ ap (λ xs. put_before (flat_map f xs) before) (sym is) ∙ so_far

pub row_turn : {X : Type 0} (f : X → List Lock) (xs : List X) (left : ℕ) (x : X) (before after w : List Lock) → 0 < left → slice_get xs (left - 1) ≡ Some x
    → after ≡ put_before (f x) before → put_before (flat_map f (take left xs)) before ≡ w → put_before (flat_map f (take (left - 1) xs)) after ≡ w
row_turn f xs zero x before after w some is put so_far = absurd (omega (arith, some))
row_turn f xs (suc k) x before after w some is put so_far = by_one (suc k - 1) (omega arith) is where
  by_one : (j : ℕ) → j ≡ k → slice_get xs j ≡ Some x → put_before (flat_map f (take j xs)) after ≡ w
  by_one j e got = last_put f (take (suc k) xs) (take j xs) x before after w (ap (λ n. take (suc n) xs) (sym e) ∙ take_get xs j x got) put so_far

pub row_start : {X : Type 0} (f : X → List Lock) (xs : List X) (left : ℕ) (none : List Lock) → length xs ≤ left → none ≡ [] → put_before (flat_map f (take left xs)) none ≡ lock_list (flat_map f xs)
row_start f xs left none all empty =
    ap (λ rest. put_before (flat_map f rest) none) (take_all left xs all) ∙ ap (put_before (flat_map f xs)) empty ∙ put_all (flat_map f xs)

pub row_early : {X : Type 0} (f : X → List Lock) (xs : List X) (left size : ℕ) (set w : List Lock) → nat_lt MAX_LOCKS (length set) ≡ true → put_before (flat_map f (take left xs)) set ≡ w
    → limited_to size set ≡ limited_to size w
row_early f xs left size set w long so_far =
    long_stays size set w long (subst (λ all. length set ≤ length all) so_far (put_longer (flat_map f (take left xs)) set))

pub row_end : {X : Type 0} (f : X → List Lock) (xs : List X) (left size : ℕ) (set w : List Lock) → left ≤ 0 → put_before (flat_map f (take left xs)) set ≡ w → limited_to size set ≡ limited_to size w
row_end f xs zero size set w none so_far = ap (limited_to size) so_far
row_end f xs (suc k) size set w none so_far = absurd (omega (arith, none))

pub ruleset row_turns = (row_turn, row_start, row_early, row_end)

-- ---- the same, of items that are seen by a view of them

module _ {X Y : Type 0} (view : X → Y) (f : Y → List Lock) where
  flat_map-seen : (xs : List X) → flat_map (λ x. f (view x)) xs ≡ flat_map f (map view xs)
  flat_map-seen [] = refl
  flat_map-seen (x ∷ xs) = ap (λ rest. f (view x) ++ rest) (flat_map-seen xs)

  pub seen_turn : (xs : List X) (left k : ℕ) (x : X) (before after w : List Lock) → left ≡ suc k → k < length xs → get_or xs k x ≡ x
      → after ≡ put_before (f (view x)) before → put_before (flat_map (λ y. f (view y)) (take left xs)) before ≡ w → put_before (flat_map (λ y. f (view y)) (take k xs)) after ≡ w
  seen_turn xs left k x before after w e within is put so_far =
      last_put (λ y. f (view y)) (take left xs) (take k xs) x before after w
      (ap (λ n. take n xs) e ∙ take-suc xs k x within ∙ ap (λ last. take k xs ++ last ∷ []) is) put so_far

  pub seen_start : (xs : List X) (left : ℕ) (none : List Lock) → length xs ≤ left → none ≡ []
      → put_before (flat_map (λ y. f (view y)) (take left xs)) none ≡ lock_list (flat_map f (map view xs))
  seen_start xs left none all empty = row_start (λ y. f (view y)) xs left none all empty ∙ ap lock_list (flat_map-seen xs)
