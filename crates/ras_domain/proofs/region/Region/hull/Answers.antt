use Rattle.std.proofs.Common.{◌≡◌, ◌≤◌, length, ap, sym, subst, ◌∙◌, All, arith, rules}
use Rattle.ras_domain.specs.declared.TheConstants.{MAX_POINTS}
use Rattle.ras_domain.specs.Region.{IsRegion, IsOrdered, HasSmallBounds, points_of}
use Rattle.ras_domain.specs.Boxes.{IsHull, hull_of}
use Rattle.ras_domain.proofs.PointSets.{HasSmallBounds-hull_of, IsOrdered-hull_of, IsRegion-hull_of, IsHull-hull_of}
use Rattle.ras_domain.proofs.region.Region.hull.Goals as goal

pub has_few_points-requires-clause-small_bounds : goal.has_few_points-requires-clause-small_bounds
has_few_points-requires-clause-small_bounds c =
    let is : c.as_slice.result.now ≡ hull_of c.args.self.now c.args.r.now = cc in
    subst (All HasSmallBounds) (sym is) (HasSmallBounds-hull_of c.args.self.now c.args.r.now c.axes.ensures.region.small_bounds c.axes-2.ensures.region.small_bounds)

pub has_few_points-requires-clause-ordered : goal.has_few_points-requires-clause-ordered
has_few_points-requires-clause-ordered c =
    let is : c.as_slice.result.now ≡ hull_of c.args.self.now c.args.r.now = cc in
    subst (All IsOrdered) (sym is) (IsOrdered-hull_of c.args.self.now c.args.r.now c.axes.ensures.region.ordered c.axes-2.ensures.region.ordered)

pub invariant_of-result : goal.invariant_of-result
invariant_of-result c =
    let is : c.hull_of-axes.result.items ≡ hull_of c.args.self.now c.args.r.now = cc in
    let few : length (points_of c.as_slice.result.now) ≤ MAX_POINTS = search rules in
    let few_points : length (points_of (hull_of c.args.self.now c.args.r.now)) ≤ MAX_POINTS = omega (arith, few, ap (λ l. length (points_of l)) (c.as_slice.ensures.value ∙ is)) in
    subst IsRegion (sym is) (IsRegion-hull_of c.args.self.now c.args.r.now c.requires c.axes.ensures.region c.axes-2.ensures.region few_points)

pub returns-clause-points : goal.returns-clause-points
returns-clause-points c =
    let is : c.hull_of-axes.result.items ≡ hull_of c.args.self.now c.args.r.now = cc in
    subst (λ h. IsHull h c.args.self.now c.args.r.now) (sym is) (IsHull-hull_of c.args.self.now c.args.r.now c.requires c.axes.ensures.region.ordered c.axes-2.ensures.region.ordered)

pub returns-clause-region : goal.returns-clause-region
returns-clause-region c = invariant_of-result c
