use Rattle.std.proofs.Common.{◌≡◌, ap, sym, subst, ◌∙◌, All}
use Rattle.ras_domain.specs.Region.{IsRegion, HasSmallBounds}
use Rattle.ras_domain.specs.Boxes.{IsShifted, shifted_by}
use Rattle.ras_domain.proofs.PointSets.{IsRegion-shifted_by, IsShifted-shifted_by}
use Rattle.ras_domain.proofs.region.Region.shift_by.Goals as goal

pub invariant_of-result : goal.invariant_of-result
invariant_of-result c =
    let is : c.in-Some.axes.items ≡ shifted_by c.args.d.now c.args.self.now = c.in-Some.ensures.moved ∙ ap (shifted_by c.args.d.now) c.axes.ensures.axes in
    subst IsRegion (sym is) (IsRegion-shifted_by c.args.d.now c.args.self.now c.axes.ensures.region (subst (All HasSmallBounds) is c.in-Some.ensures.small))

pub returns-clause-points : goal.returns-clause-points
returns-clause-points c =
    let is : c.in-Some.axes.items ≡ shifted_by c.args.d.now c.args.self.now = c.in-Some.ensures.moved ∙ ap (shifted_by c.args.d.now) c.axes.ensures.axes in
    subst (IsShifted c.args.d.now c.args.self.now) (sym is) (IsShifted-shifted_by c.args.d.now c.args.self.now)

pub returns-clause-region : goal.returns-clause-region
returns-clause-region c = invariant_of-result c
