-- What the laws of cells say.
use Rattle.std.specs.Prelude.{◌≡◌, ℕ, zero, suc, ◌<◌, ◌^◌, ℤ, pos, ◌+ℤ◌, ◌*ℤ◌, ◌≤ℤ◌, unsigned_abs, ◌⊎◌, List, [], ◌∷◌}
use Rattle.ras_cells.specs.declared.atom.Atom.{Atom}
use Rattle.ras_cells.specs.declared.atom.Atom.TheVariants as atoms
use Rattle.ras_cells.specs.declared.cell.Cell.{Cell}
use Rattle.ras_cells.specs.declared.cell.Cell.TheVariants.{Null, Value}
use Rattle.ras_cells.specs.declared.cell.CellFault.{CellFault}
use Rattle.ras_cells.specs.declared.cell.CellFault.TheVariants.{Overflow, DivideByZero, IndexOut}
use Rattle.ras_cells.specs.declared.numbers.Op1.{Op1}
use Rattle.ras_cells.specs.declared.numbers.Op1.TheVariants.{Neg, Abs, Not}
use Rattle.ras_cells.specs.declared.numbers.Op2.{Op2}
use Rattle.ras_cells.specs.declared.numbers.Op2.TheVariants.{Add, Sub, Mul, Div, Mod, Bit, Overlay}
use Rattle.ras_cells.specs.Atoms.{AreInRange}
use Rattle.ras_cells.specs.Numbers.{bit_of}

-- x is y times q and r, and r is smaller than y and has no other sign than x
pub record IsDivision (x y q r : ℤ) : Type 0 where
  pub whole : (y *ℤ q) +ℤ r ≡ x
  pub smaller : unsigned_abs r < unsigned_abs y
  pub not_negative : pos 0 ≤ℤ x → pos 0 ≤ℤ r
  pub not_positive : x ≤ℤ pos 0 → r ≤ℤ pos 0

-- the number that the lowest k bits of x make
unfoldable pub made_of_bits : ℤ → ℕ → ℤ
made_of_bits x zero = pos 0
made_of_bits x (suc k) = made_of_bits x k +ℤ (bit_of x k *ℤ pos (2 ^ k))

-- ---- the types of results

-- null, or a number for each atom, in its range
abbrev pub IsCellOf : List Atom → Cell → Type 0
IsCellOf atoms Null = Unit {0}
IsCellOf atoms (Value numbers) = AreInRange atoms numbers.items

abbrev pub IsOfAtom : Atom → Cell → Type 0
IsOfAtom atom a = IsCellOf (atom ∷ []) a

-- the atom of an operation's result
abbrev pub result1_of : Op1 → Atom
result1_of Neg = atoms.Wide
result1_of Abs = atoms.Wide
result1_of Not = atoms.Bool

-- the same, of operands of this atom; an overlay keeps it
abbrev pub result2_of : Op2 → Atom → Atom
result2_of Add atom = atoms.Wide
result2_of Sub atom = atoms.Wide
result2_of Mul atom = atoms.Wide
result2_of Div atom = atoms.Wide
result2_of Mod atom = atoms.Wide
result2_of Overlay atom = atom
result2_of op atom = atoms.Bool

-- ---- the faults of each operation, which gives a cell wherever it gives none of these

abbrev pub MayGive1 : Op1 → CellFault → Type 0
MayGive1 Not fault = ⊥
MayGive1 op fault = fault ≡ Overflow

abbrev pub MayGive2 : Op2 → CellFault → Type 0
MayGive2 Add fault = fault ≡ Overflow
MayGive2 Sub fault = fault ≡ Overflow
MayGive2 Mul fault = fault ≡ Overflow
MayGive2 Div fault = (fault ≡ DivideByZero) ⊎ (fault ≡ Overflow)
MayGive2 Mod fault = fault ≡ DivideByZero
MayGive2 Bit fault = fault ≡ IndexOut
MayGive2 op fault = ⊥
