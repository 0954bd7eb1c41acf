use Rattle.std.proofs.Common.{sym, subst, ◌∙◌, arith}
use Rattle.ras_index.specs.Index.{IsReady}
use Rattle.ras_index.proofs.tests.places_are_made_ready_and_a_copy_has_the_values.Goals as goal

pub put-requires : goal.put-requires
put-requires g c =
    subst (IsReady c.reserve_for-2.new.self) (c.point_of.ensures ∙ sym c.point_of-6.ensures) (c.in_ok-reserve_for-2.ensures.made_ready 0 c.point_of.result (omega arith))
