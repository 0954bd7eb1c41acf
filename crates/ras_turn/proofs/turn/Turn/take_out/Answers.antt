use Rattle.std.proofs.Common.{rules, Some}
use Rattle.ras_turn.proofs.Steps.{finds_length_as, heads}
use Rattle.ras_turn.proofs.turn.Turn.take_out.Goals as goal

pub load-found-requires : goal.load-found-requires
load-found-requires g c = (search rules, search rules, finds_length_as g.S.Chronicle.entries g.S.Chronicle.charter _ _ _ _ _ c.args.seat.me c.requires.view)

pub exchange-taken-requires : goal.exchange-taken-requires
exchange-taken-requires g c = let slot = c.requires.slot in
    (search rules, (Some slot.0, heads c.load-found.new.seat.me c.args.seat.me 0 (Some slot.0) c.load-found.ensures.2.1 slot.1))
