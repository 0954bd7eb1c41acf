use Rattle.law_views.proofs.Events.{work_answered, work_answered_only}
use Rattle.law_views.proofs.laws.work_goes_on_by_answers.Goals as goal

pub returns-clause-rewritten : goal.returns-clause-rewritten
returns-clause-rewritten c = work_answered

pub returns-clause-unchanged : goal.returns-clause-unchanged
returns-clause-unchanged c = work_answered_only
