use Rattle.std.proofs.Common.{◌≡◌, ◌<◌, length, remove, ap, sym, subst, arith}
use Rattle.ras_domain.specs.Region.{IsRegion}
use Rattle.ras_domain.specs.Boxes.{IsCut}
use Rattle.ras_domain.proofs.PointSets.{IsRegion-remove, IsCut-remove}
use Rattle.ras_domain.proofs.region.Region.cut_axis.Goals as goal

pub invariant_of-result : goal.invariant_of-result
invariant_of-result c =
    let is : c.cut_axis.result.items ≡ remove c.args.self.now c.args.axis = cc in
    let several : 1 < length c.args.self.now = omega (arith, ap length c.axes-axes.ensures.axes) in
    subst IsRegion (sym is) (IsRegion-remove c.args.axis c.args.self.now c.axes-axes.ensures.region c.requires several)

pub returns-clause-points : goal.returns-clause-points
returns-clause-points c =
    let is : c.cut_axis.result.items ≡ remove c.args.self.now c.args.axis = cc in
    subst (IsCut c.args.axis c.args.self.now) (sym is) (IsCut-remove c.args.axis c.args.self.now c.axes-axes.ensures.region.ordered c.requires)

pub returns-clause-region : goal.returns-clause-region
returns-clause-region c = invariant_of-result c
