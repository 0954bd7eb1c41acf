-- What is kept, its bounds, and what comes of it.
use Rattle.std.proofs.Common.{◌≡◌, ℕ, ◌<◌, ◌≤◌, ◌^◌, ◌+◌, ℤ, pos, ◌+ℤ◌, ◌*ℤ◌, Bool, true, false, cond, ◌&&◌, ◌||◌}
use Rattle.std.proofs.Common.{⊎_elim, List, [], ◌∷◌, length, fold, Option, Some, None, Ok, Err, All, refl, sym, ◌∙◌, arith}
use Rattle.std.specs.Prelude.{unsigned_abs, int_lt}
use Rattle.std.specs.List.{list_all, list_any}
use Rattle.std.proofs.Math.Numerals.{one-add}
use Rattle.std.specs.Int.{from_bool, int_min, int_max}
use Rattle.std.proofs.lemmas.Int.{ints}
use Rattle.std.proofs.lemmas.List.Elements.{All-head, All-tail}
use Rattle.ras_cells.specs.declared.atom.Atom.TheVariants.{Wide}
use Rattle.ras_cells.specs.declared.cell.CellFault.TheVariants.{Overflow}
use Rattle.ras_cells.specs.Atoms.{IsInRange, is_in_range}
use Rattle.ras_cells.specs.Cells.{single}
use Rattle.ras_cells.specs.Numbers.{is_true}
use Rattle.ras_syntax.specs.declared.expr.FoldOp.{FoldOp}
use Rattle.ras_syntax.specs.declared.expr.FoldOp.TheVariants.{Plus, Times, Min, Max, And, Or}
use Rattle.spec_expressions.specs.Fold.{folded_of, wide_cell}
use Rattle.ras_fold.specs.Closed.{closed_from}
use Rattle.ras_fold.specs.Kept.{IsKeptNumber, IsKeptOf, IsWithin, if_small, joined, number_kept, sum_of, product_of, large_times, least_of_both, greatest_of_both, both_true, one_true}
use Rattle.ras_fold.proofs.Joining.{small_or_large, zero_or_not, number_kept-append}

-- ---- bounds

in_range_within : (z : ℤ) → IsInRange Wide z → unsigned_abs z ≤ 2 ^ 63
in_range_within z h = omega (arith, ints, h.0, h.1)

IsKeptNumber-within : (op : FoldOp) (n : ℕ) (z : ℤ) → n ≤ 2 ^ 24 → IsKeptNumber op n z → unsigned_abs z ≤ 2 ^ 88
IsKeptNumber-within Plus n z few h = omega (arith, h)
IsKeptNumber-within Times n z few h = omega (arith, h)
IsKeptNumber-within Min n z few h = omega (arith, in_range_within z h)
IsKeptNumber-within Max n z few h = omega (arith, in_range_within z h)
IsKeptNumber-within And n z few h = omega (arith, in_range_within z h)
IsKeptNumber-within Or n z few h = omega (arith, in_range_within z h)

pub IsKeptOf-within : (op : FoldOp) (n : ℕ) (kept : Option ℤ) → n ≤ 2 ^ 24 → IsKeptOf op n kept → IsWithin (2 ^ 88) kept
IsKeptOf-within op n kept few h = λ z e. IsKeptNumber-within op n z few (h z e)

some_is : {x z : ℤ} → Some x ≡ Some z → x ≡ z
some_is e = cc

if_small-within : (p z : ℤ) → if_small p ≡ Some z → unsigned_abs z ≤ 2 ^ 63
if_small-within p z e =
    ⊎_elim
    (λ s. let same : p ≡ z = some_is (sym s.1 ∙ e) in rw (← same) s.0)
    (λ l. absurd (let none = sym l.1 ∙ e in cc))
    (small_or_large p)

-- what is kept of a product
pub product-within-all : (zs : List ℤ) (z : ℤ) → number_kept Times zs ≡ Some z → unsigned_abs z ≤ 2 ^ 63
product-within-all zs z e = if_small-within (fold (λ x y. x *ℤ y) (pos 1) zs) z e

large_times-within : (x z : ℤ) → large_times x ≡ Some z → unsigned_abs z ≤ 2 ^ 63
large_times-within x z e =
    ⊎_elim
    (λ s. let zero_is : pos 0 ≡ z = some_is (rw s.1 at e) in rw (← zero_is) (omega arith))
    (λ n. absurd (let none = rw n.1 at e in cc))
    (zero_or_not x)

product-within : (a b : Option ℤ) (z : ℤ) → product_of a b ≡ Some z → unsigned_abs z ≤ 2 ^ 63
product-within (Some x) (Some y) z e = if_small-within (x *ℤ y) z e
product-within (Some x) None z e = large_times-within x z e
product-within None (Some y) z e = large_times-within y z e
product-within None None z e = absurd cc

sum-within : (m n : ℕ) (a b : Option ℤ) → IsKeptOf Plus m a → IsKeptOf Plus n b → IsKeptOf Plus (m + n) (sum_of a b)
sum-within m n (Some x) (Some y) h k = λ z e.
    let same : x +ℤ y ≡ z = some_is e in
    let p = h x refl in
    let q = k y refl in
    rw (← same) (omega (arith, ints, p, q))
sum-within m n (Some x) None h k = λ z e. absurd cc
sum-within m n None b h k = λ z e. absurd cc

IsInRange-either : (b : Bool) (x y : ℤ) → IsInRange Wide x → IsInRange Wide y → IsInRange Wide (cond b x y)
IsInRange-either true x y h k = h
IsInRange-either false x y h k = k

IsInRange-truth : (b : Bool) → IsInRange Wide (pos (from_bool b))
IsInRange-truth true = (omega (arith, ints), omega (arith, ints))
IsInRange-truth false = (omega (arith, ints), omega (arith, ints))

-- a number that is one of two
abbrev IsRanged : Option ℤ → Type 0
IsRanged kept = (z : ℤ) → kept ≡ Some z → IsInRange Wide z

ranged : {x z : ℤ} → Some x ≡ Some z → IsInRange Wide x → IsInRange Wide z
ranged e h = let same = some_is e in rw (← same) h

least-ranged : (a b : Option ℤ) → IsRanged a → IsRanged b → IsRanged (least_of_both a b)
least-ranged (Some x) (Some y) h k = λ z e. ranged e (IsInRange-either (int_lt y x) y x (k y refl) (h x refl))
least-ranged (Some x) None h k = h
least-ranged None b h k = k

greatest-ranged : (a b : Option ℤ) → IsRanged a → IsRanged b → IsRanged (greatest_of_both a b)
greatest-ranged (Some x) (Some y) h k = λ z e. ranged e (IsInRange-either (int_lt y x) x y (h x refl) (k y refl))
greatest-ranged (Some x) None h k = h
greatest-ranged None b h k = k

both_true-ranged : (a b : Option ℤ) → IsRanged (both_true a b)
both_true-ranged (Some x) (Some y) = λ z e. ranged e (IsInRange-truth (is_true x && is_true y))
both_true-ranged (Some x) None = λ z e. absurd cc
both_true-ranged None b = λ z e. absurd cc

one_true-ranged : (a b : Option ℤ) → IsRanged (one_true a b)
one_true-ranged (Some x) (Some y) = λ z e. ranged e (IsInRange-truth (is_true x || is_true y))
one_true-ranged (Some x) None = λ z e. absurd cc
one_true-ranged None b = λ z e. absurd cc

pub IsKeptOf-joined : (op : FoldOp) (m n : ℕ) (a b : Option ℤ) → IsKeptOf op m a → IsKeptOf op n b → IsKeptOf op (m + n) (joined op a b)
IsKeptOf-joined Plus m n a b h k = sum-within m n a b h k
IsKeptOf-joined Times m n a b h k = product-within a b
IsKeptOf-joined Min m n a b h k = least-ranged a b h k
IsKeptOf-joined Max m n a b h k = greatest-ranged a b h k
IsKeptOf-joined And m n a b h k = both_true-ranged a b
IsKeptOf-joined Or m n a b h k = one_true-ranged a b

-- ---- of numbers of 64 bits

IsKeptOf-none : (op : FoldOp) → IsKeptOf op 0 (number_kept op [])
IsKeptOf-none Plus = λ z e. let same = some_is e in rw (← same) (omega arith)
IsKeptOf-none Times = λ z e. if_small-within (pos 1) z e
IsKeptOf-none Min = λ z e. absurd cc
IsKeptOf-none Max = λ z e. absurd cc
IsKeptOf-none And = λ z e. ranged e (IsInRange-truth true)
IsKeptOf-none Or = λ z e. ranged e (IsInRange-truth false)

pub IsKeptOf-one : (op : FoldOp) (x : ℤ) → IsInRange Wide x → IsKeptOf op 1 (number_kept op (x ∷ []))
IsKeptOf-one Plus x h = λ z e. let same = some_is e in rw (← same) (omega (arith, ints, h.0, h.1))
IsKeptOf-one Times x h = λ z e. if_small-within (pos 1 *ℤ x) z e
IsKeptOf-one Min x h = λ z e. ranged e h
IsKeptOf-one Max x h = λ z e. ranged e h
IsKeptOf-one And x h = λ z e. ranged e (IsInRange-truth (list_all is_true (x ∷ [])))
IsKeptOf-one Or x h = λ z e. ranged e (IsInRange-truth (list_any is_true (x ∷ [])))

pub IsKeptOf-all : (op : FoldOp) (zs : List ℤ) → All (IsInRange Wide) zs → IsKeptOf op (length zs) (number_kept op zs)
IsKeptOf-all op [] h = IsKeptOf-none op
IsKeptOf-all op (z ∷ zs) h =
    rw (number_kept-append op (z ∷ []) zs, ← one-add) (IsKeptOf-joined op 1 (length zs) _ _ (IsKeptOf-one op z (All-head (IsInRange Wide) z zs h)) (IsKeptOf-all op zs (All-tail (IsInRange Wide) z zs h)))

-- ---- what comes of it

wide_cell-ranged : (z : ℤ) → IsInRange Wide z → wide_cell z ≡ Ok (single z)
wide_cell-ranged z h = let fits : is_in_range Wide z ≡ true = grind (arith, ints, h.0, h.1) in rw fits refl

wide_cell-large : (z : ℤ) → 2 ^ 63 < unsigned_abs z → wide_cell z ≡ Err Overflow
wide_cell-large z h = let outside : is_in_range Wide z ≡ false = grind (arith, ints) in rw outside refl

product_closed : (p : ℤ) → closed_from Times (if_small p) ≡ wide_cell p
product_closed p = ⊎_elim (λ s. rw s.1 refl) (λ l. rw l.1 (sym (wide_cell-large p l.0))) (small_or_large p)

pub closed_from-number_kept : (op : FoldOp) (n : ℕ) (zs : List ℤ) → IsKeptOf op n (number_kept op zs) → closed_from op (number_kept op zs) ≡ folded_of op zs
closed_from-number_kept Plus n zs h = refl
closed_from-number_kept Times n zs h = product_closed (fold (λ x y. x *ℤ y) (pos 1) zs)
closed_from-number_kept Min n [] h = refl
closed_from-number_kept Min n (z ∷ zs) h = wide_cell-ranged (fold int_min z zs) (h _ refl)
closed_from-number_kept Max n [] h = refl
closed_from-number_kept Max n (z ∷ zs) h = wide_cell-ranged (fold int_max z zs) (h _ refl)
closed_from-number_kept And n zs h = wide_cell-ranged (pos (from_bool (list_all is_true zs))) (h _ refl)
closed_from-number_kept Or n zs h = wide_cell-ranged (pos (from_bool (list_any is_true zs))) (h _ refl)
