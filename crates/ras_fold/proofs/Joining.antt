-- What is kept of two lists of numbers together.
use Rattle.std.proofs.Common.{◌≡◌, zero, suc, ◌<◌, ◌≤◌, ◌*◌, ◌^◌, ◌+◌, ℤ, pos, negsuc, ◌+ℤ◌, ◌*ℤ◌, Bool, true, false}
use Rattle.std.proofs.Common.{◌⊎◌, inl, inr, ⊎_elim, List, [], ◌∷◌, ◌++◌, map, fold, Some, None, refl, sym, ap, ◌∙◌, arith}
use Rattle.std.specs.Prelude.{unsigned_abs}
use Rattle.std.specs.Int.{from_bool, int_min, int_max}
use Rattle.std.specs.List.{list_all, list_any}
use Rattle.std.proofs.Math.Nat.{mul-le-mul_left}
use Rattle.std.proofs.Math.IntN.{*ℤ_comm, *ℤ-zero}
use Rattle.std.proofs.lemmas.Bool.Decides.{leb_tells, nat_tests}
use Rattle.std.proofs.lemmas.Int.{ints, clamps, unsigned_abs-mul}
use Rattle.std.proofs.lemmas.List.{append-nil, map-append}
use Rattle.std.proofs.lemmas.List.Sums.{fold-append}
use Rattle.std.proofs.lemmas.List.Folds.{list_all-append, list_any-append}
use borrow.Author.Differences.{up, down, same_in, product_is}
use Rattle.ras_cells.specs.Numbers.{is_true, is_zero}
use Rattle.ras_syntax.specs.declared.expr.FoldOp.{FoldOp}
use Rattle.ras_syntax.specs.declared.expr.FoldOp.TheVariants.{Plus, Times, Min, Max, And, Or}
use Rattle.ras_fold.specs.Kept.{if_small, number_kept, joined, product_of, large_times, least_of_both, greatest_of_both}
use Rattle.ras_fold.specs.Sums.{sum_of_all}

-- ---- sums

pub sum_from : (a : ℤ) (zs : List ℤ) → fold (λ x y. x +ℤ y) a zs ≡ a +ℤ fold (λ x y. x +ℤ y) (pos 0) zs
sum_from a [] = omega (arith, ints)
sum_from a (z ∷ zs) = omega (arith, ints, sum_from (a +ℤ z) zs, sum_from (pos 0 +ℤ z) zs)

pub sum-append : (zs ys : List ℤ) → fold (λ x y. x +ℤ y) (pos 0) (zs ++ ys) ≡ fold (λ x y. x +ℤ y) (pos 0) zs +ℤ fold (λ x y. x +ℤ y) (pos 0) ys
sum-append zs ys = fold-append (λ x y. x +ℤ y) (pos 0) zs ys ∙ sum_from _ ys

-- ---- products

-- both sides as differences of sums of products
times_assoc : (a b c : ℤ) → (a *ℤ b) *ℤ c ≡ a *ℤ (b *ℤ c)
times_assoc a b c =
    let ab = product_is a b in
    let bc = product_is b c in
    let left = product_is (a *ℤ b) c in
    let right = product_is a (b *ℤ c) in
    let left_up : up ((a *ℤ b) *ℤ c) ≡ (up a * up b + down a * down b) * up c + (up a * down b + down a * up b) * down c = rw (← ab.0, ← ab.1) left.0 in
    let left_down : down ((a *ℤ b) *ℤ c) ≡ (up a * up b + down a * down b) * down c + (up a * down b + down a * up b) * up c = rw (← ab.0, ← ab.1) left.1 in
    let right_up : up (a *ℤ (b *ℤ c)) ≡ up a * (up b * up c + down b * down c) + down a * (up b * down c + down b * up c) = rw (← bc.0, ← bc.1) right.0 in
    let right_down : down (a *ℤ (b *ℤ c)) ≡ up a * (up b * down c + down b * up c) + down a * (up b * up c + down b * down c) = rw (← bc.0, ← bc.1) right.1 in
    same_in _ _ (omega arith)

pub times_exchange : (s x y : ℤ) → (s *ℤ x) *ℤ y ≡ (s *ℤ y) *ℤ x
times_exchange s x y = times_assoc s x y ∙ ap (λ p. s *ℤ p) (*ℤ_comm x y) ∙ sym (times_assoc s y x)

times_one : (a : ℤ) → a *ℤ pos 1 ≡ a
times_one a = omega (arith, ints)

one_times : (a : ℤ) → pos 1 *ℤ a ≡ a
one_times a = omega (arith, ints)

pub product_from : (a : ℤ) (zs : List ℤ) → fold (λ x y. x *ℤ y) a zs ≡ a *ℤ fold (λ x y. x *ℤ y) (pos 1) zs
product_from a [] = sym (times_one a)
product_from a (z ∷ zs) =
    product_from (a *ℤ z) zs ∙ times_assoc a z _ ∙ ap (λ p. a *ℤ p) (sym (product_from z zs) ∙ ap (λ b. fold (λ x y. x *ℤ y) b zs) (sym (one_times z)))

pub product-append : (zs ys : List ℤ) → fold (λ x y. x *ℤ y) (pos 1) (zs ++ ys) ≡ fold (λ x y. x *ℤ y) (pos 1) zs *ℤ fold (λ x y. x *ℤ y) (pos 1) ys
product-append zs ys = fold-append (λ x y. x *ℤ y) (pos 1) zs ys ∙ product_from _ ys

-- ---- large products

pub small_or_large : (z : ℤ) → ((unsigned_abs z ≤ 2 ^ 63) × (if_small z ≡ Some z)) ⊎ ((2 ^ 63 < unsigned_abs z) × (if_small z ≡ None))
small_or_large z =
    ⊎_elim (λ h. inl (h.1, rw h.0 refl)) (λ h. inr (h.1, rw h.0 refl)) (leb_tells (unsigned_abs z) (2 ^ 63))

if_small-large : (z : ℤ) → 2 ^ 63 < unsigned_abs z → if_small z ≡ None
if_small-large z h = ⊎_elim (λ s. absurd (omega arith)) (λ l. l.1) (small_or_large z)

pub zero_or_not : (z : ℤ) → ((z ≡ pos 0) × (is_zero z ≡ true)) ⊎ ((1 ≤ unsigned_abs z) × (is_zero z ≡ false))
zero_or_not (pos zero) = inl (refl, refl)
zero_or_not (pos (suc n)) = inr (omega arith, grind (arith, nat_tests))
zero_or_not (negsuc n) = inr (omega arith, refl)

-- from where only a zero brings a product back
large_product : (x y : ℤ) → 2 ^ 63 < unsigned_abs x → if_small (x *ℤ y) ≡ large_times y
large_product x y large =
    ⊎_elim
    (λ z. rw (z.1, z.0, *ℤ-zero x) refl)
    (λ n. rw n.1 (if_small-large (x *ℤ y) (omega (arith, unsigned_abs-mul x y, mul-le-mul_left (unsigned_abs x) n.0))))
    (zero_or_not y)

large_both : (x y : ℤ) → 2 ^ 63 < unsigned_abs x → 2 ^ 63 < unsigned_abs y → if_small (x *ℤ y) ≡ None
large_both x y p q =
    let some : 1 ≤ unsigned_abs y = omega arith in
    if_small-large (x *ℤ y) (omega (arith, unsigned_abs-mul x y, mul-le-mul_left (unsigned_abs x) some))

pub if_small-product : (x y : ℤ) → if_small (x *ℤ y) ≡ product_of (if_small x) (if_small y)
if_small-product x y =
    ⊎_elim
    (λ p. ⊎_elim
    (λ q. rw (p.1, q.1) refl)
    (λ q. rw (p.1, q.1) (ap if_small (*ℤ_comm x y) ∙ large_product y x q.0))
    (small_or_large y))
    (λ p. ⊎_elim
    (λ q. rw (p.1, q.1) (large_product x y p.0))
    (λ q. rw (p.1, q.1) (large_both x y p.0 q.0))
    (small_or_large y))
    (small_or_large x)

-- ---- the least and the greatest

min_assoc : (a b c : ℤ) → int_min (int_min a b) c ≡ int_min a (int_min b c)
min_assoc a b c = omega (arith, ints, clamps)

max_assoc : (a b c : ℤ) → int_max (int_max a b) c ≡ int_max a (int_max b c)
max_assoc a b c = omega (arith, ints, clamps)

min_from : (a z : ℤ) (zs : List ℤ) → fold int_min (int_min a z) zs ≡ int_min a (fold int_min z zs)
min_from a z [] = refl
min_from a z (y ∷ ys) = ap (λ b. fold int_min b ys) (min_assoc a z y) ∙ min_from a (int_min z y) ys

max_from : (a z : ℤ) (zs : List ℤ) → fold int_max (int_max a z) zs ≡ int_max a (fold int_max z zs)
max_from a z [] = refl
max_from a z (y ∷ ys) = ap (λ b. fold int_max b ys) (max_assoc a z y) ∙ max_from a (int_max z y) ys

least-append : (zs ys : List ℤ) → number_kept Min (zs ++ ys) ≡ least_of_both (number_kept Min zs) (number_kept Min ys)
least-append [] ys = refl
least-append (z ∷ zs) [] = ap (λ l. Some (fold int_min z l)) (append-nil zs)
least-append (z ∷ zs) (y ∷ ys) = ap Some (fold-append int_min z zs (y ∷ ys) ∙ min_from (fold int_min z zs) y ys)

greatest-append : (zs ys : List ℤ) → number_kept Max (zs ++ ys) ≡ greatest_of_both (number_kept Max zs) (number_kept Max ys)
greatest-append [] ys = refl
greatest-append (z ∷ zs) [] = ap (λ l. Some (fold int_max z l)) (append-nil zs)
greatest-append (z ∷ zs) (y ∷ ys) = ap Some (fold-append int_max z zs (y ∷ ys) ∙ max_from (fold int_max z zs) y ys)

-- ---- truth values

pub is_true-from_bool : (b : Bool) → is_true (pos (from_bool b)) ≡ b
is_true-from_bool true = refl
is_true-from_bool false = refl

-- ---- all of them

pub number_kept-append : (op : FoldOp) (zs ys : List ℤ) → number_kept op (zs ++ ys) ≡ joined op (number_kept op zs) (number_kept op ys)
number_kept-append Plus zs ys = ap Some (sum-append zs ys)
number_kept-append Times zs ys =
    ap if_small (product-append zs ys) ∙ if_small-product (fold (λ x y. x *ℤ y) (pos 1) zs) (fold (λ x y. x *ℤ y) (pos 1) ys)
number_kept-append Min zs ys = least-append zs ys
number_kept-append Max zs ys = greatest-append zs ys
number_kept-append And zs ys =
    rw (is_true-from_bool (list_all is_true zs), is_true-from_bool (list_all is_true ys), list_all-append is_true zs ys) refl
number_kept-append Or zs ys =
    rw (is_true-from_bool (list_any is_true zs), is_true-from_bool (list_any is_true ys), list_any-append is_true zs ys) refl

-- the sum of what stands for two lists
pub sum_of_all-map-append : {X : Type 0} (f : X → ℤ) (xs ys : List X) → sum_of_all (map f (xs ++ ys)) ≡ sum_of_all (map f xs) +ℤ sum_of_all (map f ys)
sum_of_all-map-append f xs ys = ap sum_of_all (map-append f xs ys) ∙ sum-append (map f xs) (map f ys)
