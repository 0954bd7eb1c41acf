use Rattle.test_report.proofs.Histories.{apart-from}
use Rattle.test_report.proofs.once.is_told_by_any.Goals as goal

pub returns-in-Answered : goal.returns-in-Answered
returns-in-Answered c = rw c.in-Answered.is (λ quiet t k. apart-from c.in-Answered.t c.in-Answered.statement c.args.later.now (c.is_told.ensures quiet) t k)

pub returns-in-Refused : goal.returns-in-Refused
returns-in-Refused c = rw c.in-Refused.is (λ quiet t k. apart-from c.in-Refused.t c.in-Refused.statement c.args.later.now (c.is_told-in-Refused.ensures quiet) t k)
