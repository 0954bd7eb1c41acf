use Rattle.std.proofs.Common.{[]}
use Rattle.spec_expressions.specs.Tree.{tree_of}
use Rattle.spec_statements.specs.Effects.{body_points}
use Rattle.ras_rows.specs.Plans.{plan_seen}
use Rattle.ras_values.specs.Nodes.{cells_of_node}
use Rattle.ras_eval.specs.Cells.{stored_for}
use Rattle.ras_eval.proofs.Written.{body_cells, body_stop}
use Rattle.ras_eval.proofs.writes.cells_of_body.Goals as goal

pub returns-in-Ok : goal.returns-in-Ok
returns-in-Ok c =
    body_cells (stored_for c.args.purpose.now) (tree_of c.args.body.now) c.args.plan.now.number c.args.plan.now.row.items c.as_slice.result.now c.as_slice.ensures.value
    (cells_of_node c.in_ok-node.node c.as_slice.result.now []) c.in_ok-node.ensures (body_points (plan_seen c.args.plan.now)) c.in-Ok.cells.cells c.in-Ok.ensures

pub returns : goal.returns
returns c =
    rw c.stop_in_row.ensures
    (body_stop (stored_for c.args.purpose.now) (tree_of c.args.body.now) c.args.plan.now.number c.args.plan.now.row.items c.as_slice.result.now c.as_slice.ensures.value
    (cells_of_node c.in_ok-node.node c.as_slice.result.now []) c.in_ok-node.ensures (body_points (plan_seen c.args.plan.now)) c.in-Err.stop c.in-Err.ensures)
