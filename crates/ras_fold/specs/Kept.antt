-- What is kept of numbers that are folded: enough to go on, and to close.
use Rattle.std.specs.Prelude.{◌≤◌, ◌^◌, ◌*◌, ℕ, ℤ, pos, ◌+ℤ◌, ◌*ℤ◌, unsigned_abs, nat_le, ◌&&◌, ◌||◌, if◌then◌else◌, List, [], ◌∷◌, Option, Some, None}
use Rattle.std.specs.Int.{from_bool, int_min, int_max}
use Rattle.std.specs.List.{fold, list_all, list_any}
use Rattle.std.specs.Option.{ForSome}
use Rattle.ras_cells.specs.declared.atom.Atom.TheVariants.{Wide}
use Rattle.ras_cells.specs.Atoms.{IsInRange}
use Rattle.ras_cells.specs.Numbers.{is_zero, is_true}
use Rattle.ras_syntax.specs.declared.expr.FoldOp.{FoldOp}
use Rattle.ras_syntax.specs.declared.expr.FoldOp.TheVariants.{Plus, Times, Min, Max, And, Or}

-- the number, where its size is at most 2^63
abbrev pub if_small : ℤ → Option ℤ
if_small z = if nat_le (unsigned_abs z) (2 ^ 63) then Some z else None

-- The exact sum; the exact product, or none where its size exceeds 2^63, from where only a zero brings it back; the least or
-- the greatest number, or none where there is no number; 1 or 0 for a truth value.
abbrev pub number_kept : FoldOp → List ℤ → Option ℤ
number_kept Plus zs = Some (fold (λ x y. x +ℤ y) (pos 0) zs)
number_kept Times zs = if_small (fold (λ x y. x *ℤ y) (pos 1) zs)
number_kept Min [] = None
number_kept Min (z ∷ zs) = Some (fold int_min z zs)
number_kept Max [] = None
number_kept Max (z ∷ zs) = Some (fold int_max z zs)
number_kept And zs = Some (pos (from_bool (list_all is_true zs)))
number_kept Or zs = Some (pos (from_bool (list_any is_true zs)))

-- ---- what is kept of some numbers and others, from what is kept of each

abbrev pub sum_of : Option ℤ → Option ℤ → Option ℤ
sum_of (Some x) (Some y) = Some (x +ℤ y)
sum_of (Some x) None = None
sum_of None b = None

-- a product that grew large stays so unless it is multiplied by 0
abbrev pub large_times : ℤ → Option ℤ
large_times x = if is_zero x then Some (pos 0) else None

abbrev pub product_of : Option ℤ → Option ℤ → Option ℤ
product_of (Some x) (Some y) = if_small (x *ℤ y)
product_of (Some x) None = large_times x
product_of None (Some y) = large_times y
product_of None None = None

abbrev pub least_of_both : Option ℤ → Option ℤ → Option ℤ
least_of_both (Some x) (Some y) = Some (int_min x y)
least_of_both (Some x) None = Some x
least_of_both None b = b

abbrev pub greatest_of_both : Option ℤ → Option ℤ → Option ℤ
greatest_of_both (Some x) (Some y) = Some (int_max x y)
greatest_of_both (Some x) None = Some x
greatest_of_both None b = b

abbrev pub both_true : Option ℤ → Option ℤ → Option ℤ
both_true (Some x) (Some y) = Some (pos (from_bool (is_true x && is_true y)))
both_true (Some x) None = None
both_true None b = None

abbrev pub one_true : Option ℤ → Option ℤ → Option ℤ
one_true (Some x) (Some y) = Some (pos (from_bool (is_true x || is_true y)))
one_true (Some x) None = None
one_true None b = None

abbrev pub joined : FoldOp → Option ℤ → Option ℤ → Option ℤ
joined Plus a b = sum_of a b
joined Times a b = product_of a b
joined Min a b = least_of_both a b
joined Max a b = greatest_of_both a b
joined And a b = both_true a b
joined Or a b = one_true a b

-- ---- bounds

-- at most this size
abbrev pub IsWithin : ℕ → Option ℤ → Type 0
IsWithin most kept = ForSome kept (λ z. unsigned_abs z ≤ most)

-- what may be kept of n numbers of 64 bits
abbrev pub IsKeptNumber : FoldOp → ℕ → ℤ → Type 0
IsKeptNumber Plus n z = unsigned_abs z ≤ 2 ^ 63 * n
IsKeptNumber Times n z = unsigned_abs z ≤ 2 ^ 63
IsKeptNumber op n z = IsInRange Wide z

abbrev pub IsKeptOf : FoldOp → ℕ → Option ℤ → Type 0
IsKeptOf op n kept = ForSome kept (IsKeptNumber op n)
