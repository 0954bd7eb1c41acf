-- The range of 64 bits, as the machine's checked operations say it.
use Rattle.std.proofs.Common.{◌≡◌, ℤ, true, false, Option, Some, None, arith, refl}
use Rattle.std.specs.Prelude.{FitsSigned, SomeIff}
use Rattle.std.specs.Int.{w64}
use Rattle.std.specs.Option.{ok_or}
use Rattle.std.proofs.lemmas.Int.{ints}
use Rattle.ras_cells.specs.declared.atom.Atom.TheVariants.{Wide}
use Rattle.ras_cells.specs.declared.cell.CellFault.TheVariants.{Overflow}
use Rattle.ras_cells.specs.Atoms.{is_in_range}
use Rattle.ras_cells.specs.Numbers.{as_wide}

fits_true : (z : ℤ) → FitsSigned w64 z → is_in_range Wide z ≡ true
fits_true z h = grind (arith, ints)

fits_false : (z : ℤ) → ¬ FitsSigned w64 z → is_in_range Wide z ≡ false
fits_false z h = grind (arith, ints)

pub wide_is : (z : ℤ) (r : Option ℤ) → SomeIff r (FitsSigned w64 z) z → ok_or r Overflow ≡ as_wide z
wide_is z None h = rw (fits_false z h) refl
wide_is z (Some y) h = rw (fits_true z h.0, h.1) refl
