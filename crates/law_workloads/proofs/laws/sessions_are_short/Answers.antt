use Rattle.law_workloads.proofs.Programs.{sessions-short}
use Rattle.law_workloads.proofs.laws.sessions_are_short.Goals as goal

pub returns : goal.returns
returns c = sessions-short
