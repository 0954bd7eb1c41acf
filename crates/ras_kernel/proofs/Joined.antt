-- From what is computed on numbers and flags to the cells that they make.
use Rattle.std.proofs.Common.{◌≡◌, ◌≢◌, ℕ, ℤ, Bool, true, false, ◌||◌, List, Result, Ok, Err, refl, sym, ◌∙◌}
use Rattle.std.specs.Prelude.{if◌then◌else◌}
use Rattle.ras_cells.specs.declared.cell.Cell.{Cell}
use Rattle.ras_cells.specs.declared.cell.Cell.TheVariants.{Null}
use Rattle.ras_cells.specs.declared.cell.CellFault.{CellFault}
use Rattle.ras_cells.specs.declared.numbers.Op2.{Op2}
use Rattle.ras_cells.specs.declared.numbers.Op2.TheVariants.{Overlay}
use Rattle.ras_cells.specs.Cells.{single, on_number, on_numbers, applied2}
use Rattle.ras_cells.specs.Numbers.{of_numbers}
use Rattle.ras_kernel.specs.Numbers.{unless_null}
use Rattle.ras_kernel.specs.Runs.{IsRun}

-- equal outcomes have the same runs
pub IsRun-same : (f g : ℕ → Result Cell CellFault) (n : ℕ) (result : Result (Unit {0}) (ℕ × CellFault)) (numbers : List ℤ) (nulls : List Bool)
    → ((i : ℕ) → f i ≡ g i) → IsRun f n result numbers nulls → IsRun g n result numbers nulls
IsRun-same f g n (Ok done) numbers nulls same run = λ i below. sym (same i) ∙ run i below
IsRun-same f g n (Err stop) numbers nulls same run =
    record {
      within = run.within;
      fault = sym (same stop.0) ∙ run.fault;
      before = λ i below. sym (same i) ∙ run.before i below;
    }

-- a flag that is joined with none
pub unless_null-one : (f : ℤ → Result ℤ CellFault) (flag an : Bool) (x : ℤ) → flag ≡ (an || false)
    → unless_null flag (f x) ≡ on_number f (if an then Null else single x)
unless_null-one f flag true x e = rw e refl
unless_null-one f flag false x e = rw e refl

both : (f : ℤ → ℤ → Result ℤ CellFault) (flag an bn : Bool) (x y : ℤ) → flag ≡ (an || bn)
    → unless_null flag (f x y) ≡ on_numbers f (if an then Null else single x) (if bn then Null else single y)
both f flag true bn x y e = rw e refl
both f flag false true x y e = rw e refl
both f flag false false x y e = rw e refl

applied2-is : (op : Op2) (a b : Cell) → op ≢ Overlay → applied2 op a b ≡ on_numbers (of_numbers op) a b
applied2-is Overlay a b other = absurd (other refl)
applied2-is op a b other = refl

-- flags that are joined
pub unless_null-two : (op : Op2) (flag an bn : Bool) (x y : ℤ) → op ≢ Overlay → flag ≡ (an || bn)
    → unless_null flag (of_numbers op x y) ≡ applied2 op (if an then Null else single x) (if bn then Null else single y)
unless_null-two op flag an bn x y other e =
    both (of_numbers op) flag an bn x y e ∙ sym (applied2-is op _ _ other)

-- a fault that no flag hides
pub unless_null-fault : (flag : Bool) (outcome : Result ℤ CellFault) (fault : CellFault) → flag ≡ false → outcome ≡ Err fault
    → unless_null flag outcome ≡ Err fault
unless_null-fault flag outcome fault shown e = rw (shown, e) refl
