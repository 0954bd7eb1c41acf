use Rattle.std.proofs.Common.{[], ◌∷◌, ◌++◌, ap, sym, ◌∙◌, Ok, arith}
use Rattle.std.proofs.lemmas.Result.{err_from_is_err_and}
use Rattle.ras_values.specs.Nodes.{cells_of_node}
use Rattle.ras_eval.specs.Cells.{stored_for}
use Rattle.ras_eval.proofs.CellFor.{alone_list, alone_stop}
use Rattle.ras_eval.proofs.cells.alone.Goals as goal

pub returns-in_err-x : goal.returns-in_err-x
returns-in_err-x g c =
    let p = err_from_is_err_and c.from_residual.result c.from_residual.ensures.1 in
    rw (p.1, p.2)
    (alone_stop (stored_for c.args.purpose.now) (cells_of_node c.args.node.now (g.A.Arrays.members c.args.row.now) []) c.in_err-x.field-0.0 c.in_err-x.ensures)

pub returns-in_err-put : goal.returns-in_err-put
returns-in_err-put g c =
    let p = err_from_is_err_and c.from_residual-in_err-put.result c.from_residual-in_err-put.ensures.1 in rw (p.1, p.2, c.in_err-put.ensures.err) tt

pub returns : goal.returns
returns g c =
    alone_list (stored_for c.args.purpose.now) (cells_of_node c.args.node.now (g.A.Arrays.members c.args.row.now) []) c.in_ok-x.x c.args.width c.in_ok-cells.cells c.put.new.cells
    c.in_ok-x.ensures c.in_ok-cells.ensures c.in_ok-put.ensures.ok
