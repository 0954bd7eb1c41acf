-- What is kept of one number, many times.
use Rattle.std.proofs.Common.{◌≡◌, ◌≢◌, ℕ, zero, suc, ◌<◌, ◌≤◌, ◌*◌, ◌+◌, ◌^◌, ℤ, pos, ◌+ℤ◌, ◌*ℤ◌, Bool, true, false, ◌&&◌, ◌||◌}
use Rattle.std.proofs.Common.{List, [], ◌∷◌, ◌++◌, length, replicate, map, take, get_or, fold, w64, Option, Some, refl, sym, ap, ◌∙◌, ⊎_elim, arith}
use Rattle.std.specs.Prelude.{unsigned_abs, All, FitsSigned}
use Rattle.std.specs.Int.{int_min, int_max}
use Rattle.std.specs.List.{list_all, list_any}
use Rattle.std.proofs.lemmas.Int.{ints, clamps, unsigned_abs-mul}
use Rattle.std.proofs.lemmas.List.{take_more, map-append, replicate-append-replicate}
use Rattle.std.proofs.Math.Nat.{mul-le-mul_right}
use Rattle.std.proofs.lemmas.List.Elements.{All-head, All-tail}
use Rattle.std.proofs.lemmas.List.Sums.{fold_push}
use Rattle.ras_cells.specs.Numbers.{is_true}
use Rattle.ras_syntax.specs.declared.expr.FoldOp.{FoldOp}
use Rattle.ras_syntax.specs.declared.expr.FoldOp.TheVariants.{Plus, Times, Min, Max, And, Or}
use Rattle.ras_fold.specs.Kept.{IsKeptOf, number_kept, if_small, product_of}
use Rattle.ras_fold.specs.Sums.{sum_of_all}
use Rattle.ras_fold.proofs.Joining.{small_or_large, if_small-product, sum_from}

-- numbers that are all the same
pub all_same : (z : ℤ) (zs : List ℤ) → All (λ n. n ≡ z) zs → zs ≡ replicate (length zs) z
all_same z [] h = refl
all_same z (y ∷ ys) h =
    let first : y ≡ z = All-head (λ n. n ≡ z) y ys h in
    let rest = all_same z ys (All-tail (λ n. n ≡ z) y ys h) in
    λ i. first i ∷ rest i

sum-replicate : (z : ℤ) (n : ℕ) → sum_of_all (replicate n z) ≡ z *ℤ pos n
sum-replicate z zero = omega (arith, ints)
sum-replicate z (suc n) = omega (arith, ints, sum_from (pos 0 +ℤ z) (replicate n z), sum-replicate z n)

min-replicate : (z : ℤ) (n : ℕ) → fold int_min z (replicate n z) ≡ z
min-replicate z zero = refl
min-replicate z (suc n) =
    let self : int_min z z ≡ z = omega (arith, ints, clamps) in
    ap (λ y. fold int_min y (replicate n z)) self ∙ min-replicate z n

max-replicate : (z : ℤ) (n : ℕ) → fold int_max z (replicate n z) ≡ z
max-replicate z zero = refl
max-replicate z (suc n) =
    let self : int_max z z ≡ z = omega (arith, ints, clamps) in
    ap (λ y. fold int_max y (replicate n z)) self ∙ max-replicate z n

and_again : (a b : Bool) → b ≡ (a && true) → (a && b) ≡ (a && true)
and_again true b h = h
and_again false b h = refl

or_again : (a b : Bool) → b ≡ (a || false) → (a || b) ≡ (a || false)
or_again true b h = refl
or_again false b h = h

all-replicate : (z : ℤ) (n : ℕ) → list_all is_true (replicate (suc n) z) ≡ list_all is_true (z ∷ [])
all-replicate z zero = refl
all-replicate z (suc n) = and_again (is_true z) (list_all is_true (replicate (suc n) z)) (all-replicate z n)

any-replicate : (z : ℤ) (n : ℕ) → list_any is_true (replicate (suc n) z) ≡ list_any is_true (z ∷ [])
any-replicate z zero = refl
any-replicate z (suc n) = or_again (is_true z) (list_any is_true (replicate (suc n) z)) (any-replicate z n)

once : (op : FoldOp) (z : ℤ) (n : ℕ) → op ≢ Plus → op ≢ Times → number_kept op (replicate (suc n) z) ≡ number_kept op (z ∷ [])
once Plus z n sum product = absurd (sum refl)
once Times z n sum product = absurd (product refl)
once Min z n sum product = ap Some (min-replicate z n)
once Max z n sum product = ap Some (max-replicate z n)
once And z n sum product = rw (all-replicate z n) refl
once Or z n sum product = rw (any-replicate z n) refl

pub again : (op : FoldOp) (n : ℕ) (kept : Option ℤ) → op ≢ Plus → IsKeptOf op 1 kept → IsKeptOf op n kept
again Plus n kept sum h = absurd (sum refl)
again op n kept sum h = h

-- ---- for the function that keeps one number, many times

pub number_kept-multiple : (number : ℤ) (zs : List ℤ) (n : ℕ) → All (λ z. z ≡ number) zs → length zs ≡ n → number_kept Plus zs ≡ Some (number *ℤ pos n)
number_kept-multiple number zs n same count =
    ap Some (ap sum_of_all (all_same number zs same) ∙ sum-replicate number (length zs) ∙ ap (λ m. number *ℤ pos m) count)

pub number_kept-power : (number : ℤ) (zs : List ℤ) (n : ℕ) → All (λ z. z ≡ number) zs → length zs ≡ n → number_kept Times zs ≡ number_kept Times (replicate n number)
number_kept-power number zs n same count =
    ap (number_kept Times) (all_same number zs same ∙ ap (λ m. replicate m number) count)

pub number_kept-once : (op : FoldOp) (number : ℤ) (zs : List ℤ) (n : ℕ) → op ≢ Plus → op ≢ Times → 0 < n
    → All (λ z. z ≡ number) zs → length zs ≡ n → number_kept op zs ≡ number_kept op (number ∷ [])
number_kept-once op number zs zero sum product some same count = absurd (omega arith)
number_kept-once op number zs (suc n) sum product some same count =
    ap (number_kept op) (all_same number zs same ∙ ap (λ m. replicate m number) count) ∙ once op number n sum product

-- a product with one factor more
pub product-push : (zs : List ℤ) (z : ℤ) → unsigned_abs z ≤ 2 ^ 63 → number_kept Times (zs ++ z ∷ []) ≡ product_of (number_kept Times zs) (Some z)
product-push zs z small =
    let one : if_small z ≡ Some z = ⊎_elim (λ s. s.1) (λ l. absurd (omega arith)) (small_or_large z) in
    ap if_small (fold_push (λ x y. x *ℤ y) (pos 1) zs z)
    ∙ if_small-product (fold (λ x y. x *ℤ y) (pos 1) zs) z
    ∙ ap (product_of (number_kept Times zs)) one

-- the sum of one number of 64 bits, many times
pub multiple-within : (number : ℤ) (n : ℕ) (z : ℤ) → FitsSigned w64 number → Some (number *ℤ pos n) ≡ Some z → unsigned_abs z ≤ 2 ^ 63 * n
multiple-within number n z fits e =
    let same : number *ℤ pos n ≡ z = cc in
    let size : unsigned_abs number ≤ 2 ^ 63 = omega (arith, ints, fits) in
    rw (← same) (omega (arith, unsigned_abs-mul number (pos n), mul-le-mul_right n size))

pub product-replicate : (n : ℕ) (z : ℤ) → unsigned_abs z ≤ 2 ^ 63 → number_kept Times (replicate (n + 1) z) ≡ product_of (number_kept Times (replicate n z)) (Some z)
product-replicate n z small =
    ap (number_kept Times) (sym (replicate-append-replicate n 1 z)) ∙ product-push (replicate n z) z small

pub product-map-take : {X : Type 0} (f : X → ℤ) (xs : List X) (i : ℕ) (x : X) → i < length xs → x ≡ get_or xs i x → unsigned_abs (f x) ≤ 2 ^ 63
    → number_kept Times (map f (take (i + 1) xs)) ≡ product_of (number_kept Times (map f (take i xs))) (Some (f x))
product-map-take f xs i x below item small =
    ap (λ ys. number_kept Times (map f ys)) (take_more xs i x below ∙ ap (λ y. take i xs ++ y ∷ []) (sym item))
    ∙ ap (number_kept Times) (map-append f (take i xs) (x ∷ []))
    ∙ product-push (map f (take i xs)) (f x) small
