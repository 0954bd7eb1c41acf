use Rattle.law_walks.proofs.Due.{session_asks, session_passes}
use Rattle.law_walks.proofs.laws.lists_are_asked_phase_by_phase.Goals as goal

pub returns-clause-due : goal.returns-clause-due
returns-clause-due c = session_asks

pub returns-clause-passed : goal.returns-clause-passed
returns-clause-passed c = session_passes
