-- Folds of both kinds, a number after another.
use Rattle.std.specs.Prelude.{◌≡◌, ℤ, pos, List, [], map, count_by, Option, option_map}
use Rattle.std.specs.Int.{from_bool}
use Rattle.ras_cells.specs.Numbers.{is_true}
use Rattle.ras_fold.specs.Summary.{summary_of}
use Rattle.ras_syntax.specs.declared.expr.FoldOp.{FoldOp}
use Rattle.ras_syntax.specs.declared.expr.FoldOp.TheVariants as ops
use Rattle.ras_syntax.specs.declared.expr.CellsFold.{CellsFold}
use Rattle.ras_syntax.specs.declared.expr.CellsFold.TheVariants as folds
use Rattle.spec_expressions.specs.Fold.{folded_of, wide_cell}
use Rattle.spec_expressions.specs.Eval.{CellOutcome}
use Rattle.ras_values.specs.declared.tally.Rule.{Rule}
use Rattle.ras_values.specs.declared.tally.Rule.TheVariants.{Fold, Count}
use Rattle.ras_values.specs.declared.tally.Tally.{Tally}

abbrev pub rule_of_cells : CellsFold → Rule
rule_of_cells folds.Add = Fold ops.Plus
rule_of_cells folds.Count = Count
rule_of_cells folds.AnyTrue = Fold ops.Or
rule_of_cells folds.AllTrue = Fold ops.And
rule_of_cells folds.Min = Fold ops.Min
rule_of_cells folds.Max = Fold ops.Max

abbrev pub rule_fold : Rule → List ℤ → CellOutcome
rule_fold (Fold op) zs = folded_of op zs
rule_fold Count zs = wide_cell (pos (count_by is_true zs))

-- ---- how they are added up

abbrev pub truth_counted : ℤ → ℤ
truth_counted z = pos (from_bool (is_true z))

-- the operation that goes over the numbers, or over what is counted of them
abbrev pub summed_by : Rule → FoldOp
summed_by (Fold op) = op
summed_by Count = ops.Plus

abbrev pub counted_by : Rule → List ℤ → List ℤ
counted_by (Fold op) zs = zs
counted_by Count zs = map truth_counted zs

abbrev pub counted_number : Rule → Option ℤ → Option ℤ
counted_number (Fold op) number = number
counted_number Count number = option_map truth_counted number

-- these numbers were added
abbrev pub HasAdded : Tally → List ℤ → Type 0
HasAdded tally zs = tally.summary ≡ summary_of (summed_by tally.rule) (counted_by tally.rule zs) []
