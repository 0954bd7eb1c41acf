use Rattle.ras_work.proofs.Applied.{applied-own, same-own}
use Rattle.ras_work.proofs.work.Work.apply.Goals as goal

pub returns-in-Ok-clause-applied : goal.returns-in-Ok-clause-applied
returns-in-Ok-clause-applied c = c.in-Ok.ensures.applied

pub returns-in-Ok-clause-own : goal.returns-in-Ok-clause-own
returns-in-Ok-clause-own c = applied-own c.args.self.now c.make_changes.new.self c.in-Ok.ensures.applied.more c.in-Ok.ensures.applied.changed

pub returns-in-Err-clause-refused : goal.returns-in-Err-clause-refused
returns-in-Err-clause-refused c = c.in-Err.ensures.refused

pub returns-in-Err-clause-own : goal.returns-in-Err-clause-own
returns-in-Err-clause-own c = same-own c.args.self.now c.make_changes.new.self c.in-Err.ensures.refused
