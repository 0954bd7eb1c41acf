-- Summaries of numbers and faults that were added.
use Rattle.std.specs.Prelude.{◌≡◌, ℕ, ℤ, nat_le, if◌then◌else◌, List, [], ◌∷◌, ◌++◌, length, Option, Some, None, Result, Err}
use Rattle.ras_cells.specs.declared.cell.Cell.{Cell}
use Rattle.ras_cells.specs.declared.cell.CellFault.{CellFault}
use Rattle.ras_syntax.specs.declared.expr.FoldOp.{FoldOp}
use Rattle.spec_expressions.specs.Fold.{folded_of}
use Rattle.ras_fold.specs.Kept.{number_kept}

-- a fault and its place
abbrev pub Placed : Type 0
Placed = ℕ × CellFault

-- what a summary is: its fold, how many numbers were added, what is kept of them, and the fault of least place
pub record SummaryValue : Type 0 where
  pub op : FoldOp
  pub count : ℕ
  pub kept : Option ℤ
  pub fault : Option Placed

-- of two faults the one of the lesser place, and of two at one place the first
abbrev pub earlier_of : Option Placed → Option Placed → Option Placed
earlier_of None g = g
earlier_of (Some f) None = Some f
earlier_of (Some f) (Some g) = if nat_le f.0 g.0 then Some f else Some g

-- the first of those that have the least place
abbrev pub least_fault : List Placed → Option Placed
least_fault [] = None
least_fault (f ∷ faults) = earlier_of (Some f) (least_fault faults)

-- the summary of these numbers and these faults, each in the order in which they were added
abbrev pub summary_of : FoldOp → List ℤ → List Placed → SummaryValue
summary_of op zs faults = record { op = op; count = length zs; kept = number_kept op zs; fault = least_fault faults }

-- the fault, or the exact fold of the numbers
abbrev pub fault_or_fold : Option Placed → FoldOp → List ℤ → Result Cell CellFault
fault_or_fold (Some f) op zs = Err f.1
fault_or_fold None op zs = folded_of op zs

abbrev pub closed_of : FoldOp → List ℤ → List Placed → Result Cell CellFault
closed_of op zs faults = fault_or_fold (least_fault faults) op zs

-- ---- what a call does, whatever was added before

-- these numbers are added at the end
abbrev pub AddsNumbers : SummaryValue → SummaryValue → List ℤ → Type 0
AddsNumbers old new more =
    (op : FoldOp) (zs : List ℤ) (faults : List Placed) → old ≡ summary_of op zs faults → new ≡ summary_of op (zs ++ more) faults

-- this fault is added at the end
abbrev pub AddsFault : SummaryValue → SummaryValue → Placed → Type 0
AddsFault old new fault =
    (op : FoldOp) (zs : List ℤ) (faults : List Placed) → old ≡ summary_of op zs faults → new ≡ summary_of op zs (faults ++ fault ∷ [])

-- what was added to the first comes before what was added to the second
abbrev pub IsMerged : SummaryValue → SummaryValue → SummaryValue → Type 0
IsMerged first second merged =
    (op : FoldOp) (zs ys : List ℤ) (faults others : List Placed)
    → first ≡ summary_of op zs faults → second ≡ summary_of op ys others → merged ≡ summary_of op (zs ++ ys) (faults ++ others)

-- the outcome of what was added
abbrev pub IsClosed : SummaryValue → Result Cell CellFault → Type 0
IsClosed summary result =
    (op : FoldOp) (zs : List ℤ) (faults : List Placed) → summary ≡ summary_of op zs faults → result ≡ closed_of op zs faults
