use Rattle.ras_grid.proofs.Tiles.{places-few}
use Rattle.ras_grid.proofs.laws.places_are_no_more_than_points.Goals as goal

pub returns : goal.returns
returns c = places-few
