use Rattle.ras_index.proofs.Maps.{lookup-removed, lookup-removed-other}
use Rattle.ras_index.proofs.Slots.{row_major_total, row_major_exact}
use Rattle.ras_index.proofs.laws.a_removal_changes_one_place.Goals as goal

pub returns-clause-here : goal.returns-clause-here
returns-clause-here g c = λ entries place sorted. lookup-removed row_major_total row_major_exact entries place sorted

pub returns-clause-elsewhere : goal.returns-clause-elsewhere
returns-clause-elsewhere g c = λ entries place other sorted apart. lookup-removed-other row_major_total row_major_exact entries place other sorted apart
