use Rattle.std.proofs.Common.{◌+◌, length, arith}
use Rattle.ras_domain.specs.Region.{IsIn, points_of}
use Rattle.ras_tile.proofs.Cells.{All-Reaches}
use Rattle.ras_tile.proofs.RowPlaces.{place-within}
use Rattle.ras_tile.proofs.Tiles.{cell_at-stored}
use Rattle.ras_tile.proofs.tile.Tile.get.Goals as goal

pub read_cell-requires-clause-few : goal.read_cell-requires-clause-few
read_cell-requires-clause-few c = rw c.as_slice.ensures.value (omega (arith, c.self.invariant.each_atom, c.self.invariant.few_numbers))

pub read_cell-requires-clause-within : goal.read_cell-requires-clause-within
read_cell-requires-clause-within c =
    let inside : IsIn c.args.p.now.items c.self.inside.region = rw (← c.self.view_is) at c.requires.within in
    rw (c.as_slice.ensures.value)
    (All-Reaches (length (points_of c.self.inside.region)) (c.row_place.result + 1) c.self.inside.planes.items
    (omega (arith, place-within c.self.inside.region c.args.p.now.items inside, c.row_place.ensures.before)) c.self.invariant.whole)

pub returns : goal.returns
returns c =
    let inside : IsIn c.args.p.now.items c.self.inside.region = rw (← c.self.view_is) at c.requires.within in
    rw (← c.self.view_is, c.read_cell.ensures, c.as_slice.ensures.value, c.row_place.ensures.before)
    (cell_at-stored c.self.inside.region c.self.inside.planes.items c.args.p.now.items inside)
