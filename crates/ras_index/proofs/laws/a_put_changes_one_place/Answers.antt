use Rattle.ras_index.proofs.Maps.{lookup-put, lookup-put-other}
use Rattle.ras_index.proofs.Slots.{row_major_total, row_major_exact}
use Rattle.ras_index.proofs.laws.a_put_changes_one_place.Goals as goal

pub returns-clause-here : goal.returns-clause-here
returns-clause-here g c = λ entries place value. lookup-put row_major_total row_major_exact entries place value

pub returns-clause-elsewhere : goal.returns-clause-elsewhere
returns-clause-elsewhere g c = λ entries place other value apart. lookup-put-other row_major_total row_major_exact entries place other value apart
