use Rattle.ras_work.proofs.Unmet.{unmet-changes}
use Rattle.ras_work.proofs.growth.is_changed.Goals as goal
use Rattle.std.proofs.Common.{◌≡◌, length, arith}

pub returns-in-None : goal.returns-in-None
returns-in-None c =
    let long : length c.args.place.now.items ≡ length c.args.extents.now.items = omega (arith, c.len.ensures.value, c.len-2.ensures.value, c.if-len.false) in
    unmet-changes c.args.extents.now.items c.args.place.now.items c.args.old.now c.args.grown.now c.in-Some.after long c.requires.old_axes c.requires.grown_axes
    c.in-None.ensures.meets c.in-Some.ensures.meets
