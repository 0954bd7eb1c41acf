use Rattle.ras_setup.proofs.Texts.{front-workload}
use Rattle.ras_setup.proofs.laws.whole_workloads_are_workloads.Goals as goal

pub returns : goal.returns
returns c = front-workload
