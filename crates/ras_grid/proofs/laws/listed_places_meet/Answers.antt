use Rattle.ras_grid.proofs.Tiles.{places_meeting-Meets}
use Rattle.ras_grid.proofs.laws.listed_places_meet.Goals as goal

pub returns : goal.returns
returns c = places_meeting-Meets
