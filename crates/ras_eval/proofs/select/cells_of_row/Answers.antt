use Rattle.std.proofs.Common.{[], ap, ◌∙◌}
use Rattle.spec_expressions.specs.Eval.{cell_at}
use Rattle.spec_expressions.specs.Tree.{tree_of}
use Rattle.spec_statements.specs.Rows.{environment_of}
use Rattle.ras_rows.specs.Plans.{plan_seen}
use Rattle.ras_values.specs.Nodes.{cells_of_node}
use Rattle.ras_eval.proofs.Answered.{row_cells, row_cells_stop}
use Rattle.ras_eval.proofs.select.cells_of_row.Goals as goal

pub returns-in-Ok : goal.returns-in-Ok
returns-in-Ok c =
    row_cells (tree_of c.args.body.now) (plan_seen c.args.plan.now) c.requires (cells_of_node c.in_ok-node.node c.as_slice.result.now [])
    (c.in_ok-node.ensures ∙ ap (λ row. cell_at (environment_of row) (tree_of c.args.body.now)) c.as_slice.ensures.value) c.in-Ok.cells.cells c.in-Ok.ensures

pub returns : goal.returns
returns c =
    rw c.stop_in_row.ensures
    (row_cells_stop (tree_of c.args.body.now) (plan_seen c.args.plan.now) c.requires (cells_of_node c.in_ok-node.node c.as_slice.result.now [])
    (c.in_ok-node.ensures ∙ ap (λ row. cell_at (environment_of row) (tree_of c.args.body.now)) c.as_slice.ensures.value) c.in-Err.stop c.in-Err.ensures)
