use Rattle.ras_grid.proofs.Shares.{items_in-row}
use Rattle.ras_grid.proofs.laws.rows_part_a_list.Goals as goal

pub returns : goal.returns
returns g c = λ xs runs row. items_in-row xs runs 0 row
