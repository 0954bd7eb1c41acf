use Rattle.std.proofs.Common.{◌≡◌, length, arith}
use Rattle.ras_domain.specs.Region.{IsRegion}
use Rattle.ras_tile.proofs.Covers.{IsWider, IsWider-more, IsIn-wider}
use Rattle.ras_tile.proofs.tests.covers.Goals as goal

pub loop-i-preserved : goal.loop-i-preserved
loop-i-preserved c =
    let wide : IsRegion c.axes-wide.result.now = rw c.axes-wide.ensures.axes c.axes-wide.ensures.region in
    let narrow : IsRegion c.axes-narrow.result.now = rw c.axes-narrow.ensures.axes c.axes-narrow.ensures.region in
    IsWider-more c.axes-wide.result.now c.axes-narrow.result.now c.loop-i.i wide narrow c.loop-i-test.true (omega arith) c.loop-i.invariant c.if-narrow-i.false c.if-wide-i.false

pub returns : goal.returns
returns c =
    let all : c.loop-i.i ≡ length c.axes-wide.result.now = omega arith in
    let held : IsWider c.axes-wide.result.now c.axes-narrow.result.now (length c.axes-wide.result.now) = rw all at c.loop-i.invariant in
    λ _ p inside.
    rw (← c.axes-wide.ensures.axes)
    (IsIn-wider c.axes-wide.result.now c.axes-narrow.result.now c.if-wide-narrow.false held p (rw c.axes-narrow.ensures.axes inside))
