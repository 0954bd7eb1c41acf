use Rattle.ras_domain.proofs.Faults.{HasFault-none}
use Rattle.ras_domain.proofs.laws.regions_have_no_fault.Goals as goal

pub returns : goal.returns
returns c = HasFault-none
