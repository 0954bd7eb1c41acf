use Rattle.std.proofs.Common.{ap, ◌∙◌, sym, length}
use Rattle.std.proofs.lemmas.List.{length-map}
use Rattle.std.proofs.lemmas.Option.{same_Some}
use Rattle.ras_domain.proofs.Places.{slice_get-points_of_first}
use Rattle.ras_domain.proofs.rows.point_of.Goals as goal

pub write_point-requires-clause-long : goal.write_point-requires-clause-long
write_point-requires-clause-long c =
    let first = slice_get-points_of_first c.args.axes.now c.requires.region.ordered in
    ap length (c.as_mut_slice.ensures.value ∙ same_Some _ _ (sym c.first_of-point.ensures ∙ first)) ∙ length-map c.args.axes.now _
