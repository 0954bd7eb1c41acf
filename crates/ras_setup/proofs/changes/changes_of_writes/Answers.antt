use Rattle.std.proofs.Common.{Ok, subst, sym}
use Rattle.ras_setup.specs.Runs.{IsChangedBy}
use Rattle.ras_setup.proofs.Asked.{applied}
use Rattle.ras_setup.proofs.changes.changes_of_writes.Goals as goal

pub returns-in-Ok : goal.returns-in-Ok
returns-in-Ok c = λ types statement database old setting written.
    subst (λ changes. IsChangedBy types statement database (Ok changes)) (sym c.into_changes.ensures)
    (applied types statement database old c.args.course.now c.args.computed c.in-Some.checked.now c.in-Ok.field-0 c.args.work c.apply.new.self setting c.requires written
    c.in-Some.ensures c.in-Ok.ensures.applied)
