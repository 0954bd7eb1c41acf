use Rattle.std.proofs.Common.{arith}
use Rattle.std.proofs.lemmas.Result.{err_from_is_err_and}
use Rattle.ras_domain.specs.Region.{points_of}
use Rattle.ras_domain.proofs.Walks.{IsIn-at_place}
use Rattle.ras_values.specs.Nodes.{cells_of_node}
use Rattle.ras_eval.specs.Cells.{stored_for}
use Rattle.ras_eval.proofs.CellsSoFar.{so_far_end, so_far_first, so_far_stop, so_far_turn}
use Rattle.ras_eval.proofs.cells.cells_in.Goals as goal

pub loop-init : goal.loop-init
loop-init g c =
    so_far_first (stored_for c.args.purpose.now) (cells_of_node c.args.node.now (g.A.Arrays.members c.args.row.now)) (points_of c.args.region.now) c.volume-count.result c.args.width
    c.in_ok-cells.cells c.first_point-p.result.items c.new-scope.result c.in_ok-cells.ensures c.volume-count.ensures c.first_point-p.ensures c.new-scope.ensures

pub returns-in_err-x : goal.returns-in_err-x
returns-in_err-x g c =
    let p = err_from_is_err_and c.from_residual-in_err-x.result c.from_residual-in_err-x.ensures.1 in
    rw (p.1, p.2)
    (so_far_stop (stored_for c.args.purpose.now) (cells_of_node c.args.node.now (g.A.Arrays.members c.args.row.now)) (points_of c.args.region.now) c.volume-count.result c.args.width
    c.loop.counter c.loop.cells c.loop.p.items c.loop.scope c.loop.invariant c.in_err-x.field-0.0 c.loop-test.true c.in_err-x.ensures.cell)

pub put-requires-clause-room : goal.put-requires-clause-room
put-requires-clause-room g c = omega (arith, c.loop.invariant.long, c.loop.invariant.room, c.loop-test.true)

pub put-requires-clause-width : goal.put-requires-clause-width
put-requires-clause-width g c = c.loop.invariant.wide

pub returns-in_err-put : goal.returns-in_err-put
returns-in_err-put g c =
    let p = err_from_is_err_and c.from_residual-in_err-put.result c.from_residual-in_err-put.ensures.1 in rw (p.1, p.2, c.in_err-put.ensures.err) tt

pub after-p-requires : goal.after-p-requires
after-p-requires g c =
    IsIn-at_place c.args.region.now c.loop.counter c.loop.p.items (c.loop.invariant.at (omega (arith, c.loop.invariant.whole, c.loop-test.true)))

pub loop-preserved : goal.loop-preserved
loop-preserved g c =
    so_far_turn (stored_for c.args.purpose.now) (cells_of_node c.args.node.now (g.A.Arrays.members c.args.row.now)) (points_of c.args.region.now) c.volume-count.result c.args.width
    c.loop.counter c.loop.cells c.loop.p.items c.loop.scope c.loop.invariant c.in_ok-x.x c.put.new.cells c.after-p.result.items c.cell_at.new.scope
    c.loop-test.true c.in_ok-x.ensures.cell c.in_ok-put.ensures.ok
    (c.after-p.ensures c.loop.counter (c.loop.invariant.at (omega (arith, c.loop.invariant.whole, c.loop-test.true))))
    c.cell_at.ensures.same

pub returns : goal.returns
returns g c =
    so_far_end (stored_for c.args.purpose.now) (cells_of_node c.args.node.now (g.A.Arrays.members c.args.row.now)) (points_of c.args.region.now) c.volume-count.result c.args.width
    c.loop.counter c.loop.cells c.loop.p.items c.loop.scope c.loop.invariant c.loop-test.false
