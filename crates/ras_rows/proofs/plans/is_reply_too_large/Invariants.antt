use Rattle.std.proofs.Common.{◌≡◌, ◌≤◌, map, sum, take}
use Rattle.ras_shape.specs.Gives.{shape_of_form}
use Rattle.ras_syntax.specs.declared.limits.TheConstants.{MAX_REPLY_CELLS}
use Rattle.spec_statements.specs.Limits.{reply_cells}
use Rattle.ras_rows.proofs.plans.is_reply_too_large.Given as goal

abbrev pub invariant-loop-plan : goal.invariant-loop-plan
invariant-loop-plan l = record {
  so_far : l.cells ≡ sum (take l.plan-index (map (λ plan. reply_cells (shape_of_form plan.shape)) l.plans));
  few : l.cells ≤ MAX_REPLY_CELLS;
}
