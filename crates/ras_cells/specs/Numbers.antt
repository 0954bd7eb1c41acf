-- What the operations do to exact whole numbers. A truth value is the number 0 or 1.
use Rattle.std.specs.Prelude.{ℕ, ◌^◌, ℤ, pos, neg_ℤ, ◌+ℤ◌, ◌-ℤ◌, ◌*ℤ◌, unsigned_abs, int_div, int_rem, int_lt, int_le, Bool, not, ◌&&◌, ◌||◌, if◌then◌else◌, Result, Ok, Err}
use Rattle.std.specs.Bool.{beq}
use Rattle.std.specs.Int.{from_bool, int_div_euclid, int_rem_euclid}
use Rattle.std.specs.Ordering.{int_eq}
use Rattle.ras_cells.specs.declared.atom.Atom.{Atom}
use Rattle.ras_cells.specs.declared.atom.Atom.TheVariants.{Wide}
use Rattle.ras_cells.specs.declared.cell.CellFault.{CellFault}
use Rattle.ras_cells.specs.declared.cell.CellFault.TheVariants.{Overflow, DivideByZero, CastRange, IndexOut}
use Rattle.ras_cells.specs.declared.numbers.Op1.{Op1}
use Rattle.ras_cells.specs.declared.numbers.Op1.TheVariants.{Neg, Abs, Not}
use Rattle.ras_cells.specs.declared.numbers.Op2.{Op2}
use Rattle.ras_cells.specs.declared.numbers.Op2.TheVariants.{Add, Sub, Mul, Div, Mod, Eq, Ne, Lt, Le, Gt, Ge, And, Or, Xor, Bit, Overlay}
use Rattle.ras_cells.specs.Atoms.{is_in_range}

-- the exact number, where it is one of 64 bits
abbrev pub as_wide : ℤ → Result ℤ CellFault
as_wide z = if is_in_range Wide z then Ok z else Err Overflow

-- the number of a truth value, and back
abbrev pub truth_number : Bool → Result ℤ CellFault
truth_number b = Ok (pos (from_bool b))

abbrev pub is_zero : ℤ → Bool
is_zero z = int_eq z (pos 0)

abbrev pub is_true : ℤ → Bool
is_true z = not (is_zero z)

-- the exact quotient, truncated towards 0
abbrev pub quotient : ℤ → ℤ → Result ℤ CellFault
quotient x y = if is_zero y then Err DivideByZero else as_wide (int_div x y)

-- what that quotient leaves of x; it has x's sign
abbrev pub remainder : ℤ → ℤ → Result ℤ CellFault
remainder x y = if is_zero y then Err DivideByZero else Ok (int_rem x y)

-- bit i of x's two's complement form: the floor of x by 2^i, modulo 2
abbrev pub bit_of : ℤ → ℕ → ℤ
bit_of x i = int_rem_euclid (int_div_euclid x (pos (2 ^ i))) (pos 2)

-- the form has the bits 0 to 63
abbrev pub bit : ℤ → ℤ → Result ℤ CellFault
bit x i = if int_le (pos 0) i && int_lt i (pos 64) then Ok (bit_of x (unsigned_abs i)) else Err IndexOut

abbrev pub of_number : Op1 → ℤ → Result ℤ CellFault
of_number Neg x = as_wide (neg_ℤ x)
of_number Abs x = as_wide (pos (unsigned_abs x))
of_number Not x = truth_number (not (is_true x))

abbrev pub of_numbers : Op2 → ℤ → ℤ → Result ℤ CellFault
of_numbers Add x y = as_wide (x +ℤ y)
of_numbers Sub x y = as_wide (x -ℤ y)
of_numbers Mul x y = as_wide (x *ℤ y)
of_numbers Div x y = quotient x y
of_numbers Mod x y = remainder x y
of_numbers Eq x y = truth_number (int_eq x y)
of_numbers Ne x y = truth_number (not (int_eq x y))
of_numbers Lt x y = truth_number (int_lt x y)
of_numbers Le x y = truth_number (int_le x y)
of_numbers Gt x y = truth_number (int_lt y x)
of_numbers Ge x y = truth_number (int_le y x)
of_numbers And x y = truth_number (is_true x && is_true y)
of_numbers Or x y = truth_number (is_true x || is_true y)
of_numbers Xor x y = truth_number (not (beq (is_true x) (is_true y)))
of_numbers Bit x i = bit x i
of_numbers Overlay x y = Ok (if is_zero y then x else y)

-- a cast keeps the number, where the atom has it
abbrev pub cast_number : Atom → ℤ → Result ℤ CellFault
cast_number atom x = if is_in_range atom x then Ok x else Err CastRange
