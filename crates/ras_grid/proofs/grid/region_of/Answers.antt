use Rattle.ras_domain.proofs.Faults.{HasFault-none}
use Rattle.ras_grid.proofs.grid.region_of.Goals as goal

pub unreachable-requires : goal.unreachable-requires
unreachable-requires c = HasFault-none _ c.in-Err.field-0 c.requires c.in-Err.ensures.fault
