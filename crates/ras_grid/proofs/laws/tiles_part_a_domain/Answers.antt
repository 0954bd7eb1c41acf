use Rattle.ras_grid.proofs.Tiles.{IsParted-domain}
use Rattle.ras_grid.proofs.laws.tiles_part_a_domain.Goals as goal

pub returns : goal.returns
returns c = IsParted-domain
