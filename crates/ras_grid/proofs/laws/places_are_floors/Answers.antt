use Rattle.ras_grid.proofs.Tiles.{AreFloors-are}
use Rattle.ras_grid.proofs.laws.places_are_floors.Goals as goal

pub returns : goal.returns
returns c = AreFloors-are
