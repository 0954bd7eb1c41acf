use Rattle.law_views.proofs.Work.{work_applies, work_skips}
use Rattle.law_views.proofs.laws.work_goes_on_by_statements.Goals as goal

pub returns-clause-applied : goal.returns-clause-applied
returns-clause-applied c = work_applies

pub returns-clause-skipped : goal.returns-clause-skipped
returns-clause-skipped c = work_skips
