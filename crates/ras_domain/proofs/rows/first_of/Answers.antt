use Rattle.std.proofs.Common.{◌≡◌, take, arith}
use Rattle.std.proofs.lemmas.List.{take_all}
use Rattle.ras_domain.proofs.Places.{slice_get-points_of_first}
use Rattle.ras_domain.proofs.rows.first_of.Goals as goal

pub returns : goal.returns
returns c =
    let whole : take c.loop-axis.axis-index c.args.axes.now ≡ c.args.axes.now = take_all c.loop-axis.axis-index c.args.axes.now (omega arith) in
    rw (c.loop-axis.invariant, whole) (slice_get-points_of_first c.args.axes.now c.requires.ordered)
