use Rattle.ras_domain.proofs.Faults.{HasFault-one}
use Rattle.ras_domain.proofs.laws.faults_exclude_each_other.Goals as goal

pub returns : goal.returns
returns c = HasFault-one
