use Rattle.std.proofs.Common.{rules}
use Rattle.ras_turn.proofs.Steps.{releases_as}
use Rattle.ras_turn.proofs.turn.Turn.let_go.Goals as goal

pub store-requires : goal.store-requires
store-requires g c = let slot = c.requires.slot in
    (search rules, search rules, releases_as g.S.Chronicle.entries g.S.Chronicle.charter _ _ _ _ _ c.args.seat.me slot.0 (search rules) c.requires.view slot.1 slot.2 slot.3)
