use Rattle.std.proofs.Common.{Ok, [], ap, sym, ◌∙◌}
use Rattle.spec_expressions.specs.Tree.{tree_of}
use Rattle.ras_values.specs.Nodes.{cells_of_node}
use Rattle.ras_eval.proofs.PassingRows.{test_ok, test_stop}
use Rattle.ras_eval.proofs.passing.is_true.Goals as goal

pub returns-in-Ok : goal.returns-in-Ok
returns-in-Ok c =
    test_ok (tree_of c.args.e.now) c.args.number c.args.row.now (cells_of_node c.in_ok-node.node c.args.row.now []) c.in_ok-node.ensures c.in-Ok.x c.in-Ok.ensures
    ∙ ap Ok (sym c.holds.ensures)

pub returns : goal.returns
returns c =
    rw c.stop_in_row.ensures
    (test_stop (tree_of c.args.e.now) c.args.number c.args.row.now (cells_of_node c.in_ok-node.node c.args.row.now []) c.in_ok-node.ensures c.in-Err.stop c.in-Err.ensures)
