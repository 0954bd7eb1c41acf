use Rattle.ras_tile.proofs.Tiles.{IsTile-stored}
use Rattle.ras_tile.proofs.tile.Tile.region.Goals as goal

pub returns-clause-tile : goal.returns-clause-tile
returns-clause-tile c =
    rw (← c.self.view_is) (IsTile-stored c.self.inside.region c.self.inside.atoms.items c.self.inside.planes.items c.self.inside.writable c.self.invariant)
