use Rattle.ras_values.specs.Nodes.{cells_of_node}
use Rattle.ras_eval.specs.Cells.{stored_for}
use Rattle.ras_eval.proofs.CellFor.{cell_fault, cell_ok, store_fault}
use Rattle.ras_eval.proofs.cells.cell_at.Goals as goal

pub returns-in-Ok-check-clause-cell : goal.returns-in-Ok-check-clause-cell
returns-in-Ok-check-clause-cell g c =
    cell_ok (stored_for c.args.purpose.now) (cells_of_node c.args.node.now (g.A.Arrays.members c.args.row.now) c.args.scope.now) c.args.p.now c.in-Ok.x c.in-Ok-check.ensures.0
    c.in-Ok.ensures.cell c.in-Ok-check.ensures.1

pub returns-in-Err-check-clause-cell : goal.returns-in-Err-check-clause-cell
returns-in-Err-check-clause-cell g c =
    rw c.stop_at.ensures
    (store_fault (stored_for c.args.purpose.now) (cells_of_node c.args.node.now (g.A.Arrays.members c.args.row.now) c.args.scope.now) c.args.p.now c.in-Ok.x c.in-Err-check.error
    c.in-Ok.ensures.cell c.in-Err-check.ensures)

pub returns-in-Err-clause-cell : goal.returns-in-Err-clause-cell
returns-in-Err-clause-cell g c =
    rw c.stop_at-in-Err.ensures
    (cell_fault (stored_for c.args.purpose.now) (cells_of_node c.args.node.now (g.A.Arrays.members c.args.row.now) c.args.scope.now) c.args.p.now c.in-Err.error c.in-Err.ensures.cell)
