use Rattle.ras_grid.proofs.Tiles.{IsIn-grid_box_is}
use Rattle.ras_grid.proofs.laws.grid_boxes_follow_places.Goals as goal

pub returns : goal.returns
returns c = IsIn-grid_box_is
