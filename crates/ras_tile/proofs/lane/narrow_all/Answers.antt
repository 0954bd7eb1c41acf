use Rattle.std.proofs.Common.{arith}
use Rattle.std.proofs.lemmas.List.{length-map}
use Rattle.ras_tile.proofs.Cells.{narrow_more, same_numbers}
use Rattle.ras_tile.proofs.lane.narrow_all.Goals as goal

pub loop-i-preserved : goal.loop-i-preserved
loop-i-preserved g c =
    narrow_more g.T.Lane.number c.loop-i.kept c.narrow.result c.loop-i.i c.args.numbers.now (omega arith) c.loop-i.invariant c.narrow.ensures

pub returns : goal.returns
returns g c =
    same_numbers _ c.args.numbers.now (omega (arith, length-map c.loop-i.kept g.T.Lane.number))
    (λ k within. c.loop-i.invariant k (omega (arith, length-map c.loop-i.kept g.T.Lane.number)))
