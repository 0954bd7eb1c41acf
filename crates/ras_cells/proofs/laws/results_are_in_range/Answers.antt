use Rattle.ras_cells.proofs.Results.{IsOfAtom-applied2, IsOfAtom-cast_to}
use Rattle.ras_cells.proofs.laws.results_are_in_range.Goals as goal

pub returns-clause-two : goal.returns-clause-two
returns-clause-two c = IsOfAtom-applied2

pub returns-clause-cast : goal.returns-clause-cast
returns-clause-cast c = IsOfAtom-cast_to
