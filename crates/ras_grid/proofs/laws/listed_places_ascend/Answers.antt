use Rattle.ras_domain.proofs.RowOrder.{points_of-ascends}
use Rattle.ras_grid.specs.Grid.{place_box}
use Rattle.ras_grid.proofs.laws.listed_places_ascend.Goals as goal

pub returns : goal.returns
returns c = λ extents region. points_of-ascends (place_box extents region)
