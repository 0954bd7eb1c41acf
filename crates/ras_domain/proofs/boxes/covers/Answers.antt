use Rattle.std.proofs.Common.{length, rules, tests}
use Rattle.std.proofs.lemmas.Bool.Decides.{Decides-eqb}
use Rattle.std.proofs.lemmas.Iterator.{YieldsList-from_slice, YieldsList-from_zip, cases_from_all}
use Rattle.ras_domain.proofs.PointSets.{IsWithin, Covers-from_cases, length-from_Covers}
use Rattle.ras_domain.proofs.boxes.covers.Goals as goal

pub returns-then-big-small : goal.returns-then-big-small
returns-then-big-small c =
    Covers-from_cases c.args.big.now c.args.small.now c.all.result c.requires c.if-big-small.true
    (cases_from_all c.all.new.self _ _ IsWithin (λ x. ¬ IsWithin x) c.all.ensures.ran
    (YieldsList-from_zip (YieldsList-from_slice c.args.big.now cc) (YieldsList-from_slice c.args.small.now cc)) (λ x q k. search (rules, tests)) (λ x q k. search (rules, tests)))

pub returns-else-big-small : goal.returns-else-big-small
returns-else-big-small c =
    let same_axes = Decides-eqb (length c.args.big.now) (length c.args.small.now) in
    (λ same. absurd (c.if-big-small.false (same_axes.0 same)), λ covers. absurd (c.if-big-small.false (length-from_Covers c.args.big.now c.args.small.now c.requires covers)))
