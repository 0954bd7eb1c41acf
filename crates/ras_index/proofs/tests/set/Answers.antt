use Rattle.std.proofs.Common.{sym, subst, ◌∙◌, arith}
use Rattle.ras_index.specs.Index.{IsReady}
use Rattle.ras_index.proofs.tests.set.Goals as goal

pub put-requires : goal.put-requires
put-requires c =
    subst (IsReady c.reserve_for.new.self) (c.point_of.ensures ∙ sym c.point_of-2.ensures) (c.in_ok-reserve_for.ensures.made_ready 0 c.point_of.result (omega arith))
