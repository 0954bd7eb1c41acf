use Rattle.ras_grid.proofs.Tiles.{IsRegion-tile_in}
use Rattle.ras_grid.proofs.laws.tiles_are_regions.Goals as goal

pub returns : goal.returns
returns c = IsRegion-tile_in
