use Rattle.std.proofs.Common.{◌≡◌, ◌∙◌}
use Rattle.ras_work.proofs.Unmet.{met-in}
use Rattle.ras_work.proofs.growth.is_met.Goals as goal

pub returns : goal.returns
returns c =
    c.is_some.ensures
    ∙ met-in c.args.extents.now.items c.args.region.now c.args.place.now.items c.tile_box-met.result c.requires.extents c.axes-axes.ensures.region c.requires.axes c.tile_box-met.ensures.meets
