use Rattle.std.proofs.Common.{◌≡◌, arith}
use Rattle.ras_domain.proofs.Places.{IsCarried-none, IsCarried-turn, IsCarried-end, IsCarried-all}
use Rattle.ras_domain.proofs.rows.step.Goals as goal

pub loop-i-init : goal.loop-i-init
loop-i-init c = IsCarried-none c.args.axes.now c.args.p.now c.requires.within

pub returns-then-p-i : goal.returns-then-p-i
returns-then-p-i c =
    IsCarried-end c.args.axes.now c.args.p.now c.loop-i.i c.loop-i.p _ _ c.requires.region c.requires.within c.loop-i.invariant c.loop-i-test.true c.if-p-i.true

pub loop-i-preserved : goal.loop-i-preserved
loop-i-preserved c =
    IsCarried-turn c.args.axes.now c.args.p.now c.loop-i.i c.loop-i.p _ _ c.requires.region c.requires.within c.loop-i.invariant c.loop-i-test.true c.if-p-i.false

pub returns : goal.returns
returns c =
    let first : c.loop-i.i ≡ 0 = omega arith in
    IsCarried-all c.args.axes.now c.args.p.now c.loop-i.p c.requires.region (rw first at c.loop-i.invariant)
