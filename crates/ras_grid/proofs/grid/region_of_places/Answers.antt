use Rattle.ras_grid.proofs.Tiles.{IsRegion-place_box}
use Rattle.ras_grid.proofs.grid.region_of_places.Goals as goal

pub region_of-requires : goal.region_of-requires
region_of-requires c =
    let places = rw (c.axes.ensures.axes, c.as_slice.ensures.value) at c.places_of.ensures in
    rw (c.deref.ensures.0, places) (IsRegion-place_box c.args.e.now.items c.args.r.now c.requires.extents c.axes.ensures.region c.requires.axes)
