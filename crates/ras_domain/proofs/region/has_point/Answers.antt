use Rattle.std.proofs.Common.{length, sym, rules, tests}
use Rattle.std.proofs.lemmas.Bool.Decides.{Decides-eqb}
use Rattle.std.proofs.lemmas.Iterator.{YieldsList-from_slice, YieldsList-from_zip, cases_from_all}
use Rattle.ras_domain.proofs.Points.{IsBetween, IsIn-from_cases, length-from_IsIn}
use Rattle.ras_domain.proofs.region.has_point.Goals as goal

pub returns-then-axes-p : goal.returns-then-axes-p
returns-then-axes-p c =
    IsIn-from_cases c.args.axes.now c.args.p.now c.all.result c.if-axes-p.true
    (cases_from_all c.all.new.self _ _ IsBetween (λ x. ¬ IsBetween x) c.all.ensures.ran
    (YieldsList-from_zip (YieldsList-from_slice c.args.axes.now cc) (YieldsList-from_slice c.args.p.now cc)) (λ x q k. search (rules, tests)) (λ x q k. search (rules, tests)))

pub returns-else-axes-p : goal.returns-else-axes-p
returns-else-axes-p c =
    let same_len = Decides-eqb (length c.args.axes.now) (length c.args.p.now) in
    (λ same. absurd (c.if-axes-p.false (same_len.0 same)), λ within. absurd (c.if-axes-p.false (sym (length-from_IsIn c.args.p.now c.args.axes.now within))))
