use Rattle.ras_tile.proofs.Tiles.{cells-same}
use Rattle.ras_tile.proofs.laws.cells_are_those_at_the_points.Goals as goal

pub returns : goal.returns
returns c = cells-same
