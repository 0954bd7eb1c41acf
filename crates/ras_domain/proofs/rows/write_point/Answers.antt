use Rattle.std.proofs.Common.{◌≡◌, arith}
use Rattle.ras_domain.proofs.Places.{IsBack-turn, IsBack-all}
use Rattle.ras_domain.proofs.rows.write_point.Goals as goal

pub returns : goal.returns
returns c =
    let first : c.loop-i.i ≡ 0 = omega arith in
    IsBack-all c.args.axes.now c.args.place c.loop-i.place c.loop-i.point (rw first at c.loop-i.invariant) c.requires.within

pub loop-i-preserved : goal.loop-i-preserved
loop-i-preserved c =
    IsBack-turn c.args.axes.now c.args.place c.loop-i.i c.loop-i.place c.extent-extent.result c.loop-i.point _
    c.requires.region c.loop-i.invariant c.loop-i-test.true c.extent-extent.ensures
