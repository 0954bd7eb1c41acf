use Rattle.law_workloads.proofs.Programs.{workloads-are}
use Rattle.law_workloads.proofs.laws.workloads_are_programs.Goals as goal

pub returns : goal.returns
returns c = workloads-are
