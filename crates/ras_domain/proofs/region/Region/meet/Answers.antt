use Rattle.std.proofs.Common.{◌≡◌, sym, subst, refl, ◌∙◌, All, rules}
use Rattle.ras_domain.specs.Region.{IsRegion, IsOrdered}
use Rattle.ras_domain.specs.Boxes.{IsMeeting, meet_of}
use Rattle.ras_domain.proofs.PointSets.{IsMeeting-meet_of, IsRegion-meet_of, AreDisjoint-from_meet_of, IsOrdered-not_disjoint}
use Rattle.ras_domain.proofs.region.Region.meet.Goals as goal

pub returns-then-not-is_ordered-clause-none : goal.returns-then-not-is_ordered-clause-none
returns-then-not-is_ordered-clause-none c =
    let is : c.as_slice.result.now ≡ meet_of c.args.self.now c.args.r.now = cc in
    let empty : ¬ All IsOrdered c.as_slice.result.now = search rules in
    (λ _. AreDisjoint-from_meet_of c.args.self.now c.args.r.now c.requires (λ ordered. empty (subst (All IsOrdered) (sym is) ordered)), λ _. refl)

pub invariant_of-result : goal.invariant_of-result
invariant_of-result c =
    let is : c.meet_of-axes.result.items ≡ meet_of c.args.self.now c.args.r.now = cc in
    let ordered : All IsOrdered c.as_slice.result.now = search rules in
    subst IsRegion (sym is) (IsRegion-meet_of c.args.self.now c.args.r.now c.requires c.axes.ensures.region c.axes-2.ensures.region
    (subst (All IsOrdered) (c.as_slice.ensures.value ∙ is) ordered))

pub returns-clause-points : goal.returns-clause-points
returns-clause-points c =
    let is : c.meet_of-axes.result.items ≡ meet_of c.args.self.now c.args.r.now = cc in
    subst (λ m. IsMeeting m c.args.self.now c.args.r.now) (sym is) (IsMeeting-meet_of c.args.self.now c.args.r.now c.requires)

pub returns-clause-none : goal.returns-clause-none
returns-clause-none c =
    let is : c.meet_of-axes.result.items ≡ meet_of c.args.self.now c.args.r.now = cc in
    let ordered : All IsOrdered c.as_slice.result.now = search rules in
    (λ some. cc, λ disjoint. absurd (IsOrdered-not_disjoint c.args.self.now c.args.r.now c.requires (subst (All IsOrdered) (c.as_slice.ensures.value ∙ is) ordered) disjoint))

pub returns-clause-region : goal.returns-clause-region
returns-clause-region c = invariant_of-result c
