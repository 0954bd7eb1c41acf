use Rattle.ras_cells.proofs.Divisions.{IsDivision-alone}
use Rattle.ras_cells.proofs.laws.divisions_come_out.Goals as goal

pub returns-clause-alone : goal.returns-clause-alone
returns-clause-alone c = IsDivision-alone
