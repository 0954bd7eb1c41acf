use Rattle.ras_cells.proofs.Results.{MayGive2-applied2}
use Rattle.ras_cells.proofs.laws.faults_are_the_operations_own.Goals as goal

pub returns-clause-two : goal.returns-clause-two
returns-clause-two c = MayGive2-applied2
