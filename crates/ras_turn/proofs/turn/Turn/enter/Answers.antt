use Rattle.std.proofs.Common.{rules, ap, ◌∙◌}
use Rattle.ras_turn.proofs.Steps.{takes_turn_as, idle_along}
use Rattle.ras_turn.proofs.turn.Turn.enter.Goals as goal

pub compare_exchange-found-requires : goal.compare_exchange-found-requires
compare_exchange-found-requires g c = let parts = c.into_parts-number.ensures in (
  search rules,
  search rules,
  takes_turn_as g.S.Chronicle.entries g.S.Chronicle.charter _ _ _ _ _ _
      (idle_along c.into_parts-number.result.0 c.args.pass.number c.loop.seat.me c.args.pass.seat.me parts.0 (c.loop.invariant.1 ∙ ap (λ s. s.me) parts.1) c.args.pass.idle),
)
