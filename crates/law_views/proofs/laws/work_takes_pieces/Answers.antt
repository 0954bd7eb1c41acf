use Rattle.law_views.proofs.Work.{work_starts, work_takes}
use Rattle.law_views.proofs.laws.work_takes_pieces.Goals as goal

pub returns-clause-begun : goal.returns-clause-begun
returns-clause-begun c = work_starts

pub returns-clause-taken : goal.returns-clause-taken
returns-clause-taken c = work_takes
