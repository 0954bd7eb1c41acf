use Rattle.std.proofs.Common.{refl}
use Rattle.ras_grid.proofs.Tiles.{IsIn-tile_in, IsRegion-tile_in}
use Rattle.ras_grid.proofs.grid.tile_box.Goals as goal

pub region_of-requires : goal.region_of-requires
region_of-requires c =
    let common = rw (c.axes.ensures.axes, c.as_slice.ensures.value, c.as_slice-2.ensures.value) at c.in_ok-common.ensures.common in
    let meets = rw (c.axes.ensures.axes, c.as_slice.ensures.value, c.as_slice-2.ensures.value) at (c.in_ok-common.ensures.meets.0 refl) in
    rw (c.deref.ensures.0, common) (IsRegion-tile_in c.args.e.now.items c.args.domain.now c.args.place.now.items c.axes.ensures.region c.requires.domain_axes meets)

pub returns-clause-meets : goal.returns-clause-meets
returns-clause-meets c =
    (λ _. rw (c.axes.ensures.axes, c.as_slice.ensures.value, c.as_slice-2.ensures.value) at (c.in_ok-common.ensures.meets.0 refl), λ _. refl)

pub returns-clause-points : goal.returns-clause-points
returns-clause-points c p =
    let common = rw (c.axes.ensures.axes, c.as_slice.ensures.value, c.as_slice-2.ensures.value) at c.in_ok-common.ensures.common in
    rw (c.region_of.ensures, c.deref.ensures.0, common)
    (IsIn-tile_in c.args.e.now.items c.args.domain.now c.args.place.now.items p c.requires.extents c.requires.domain_axes c.requires.place_axes)
