use Rattle.ras_turn.proofs.Ends.{opens_as}
use Rattle.ras_turn.proofs.turn.Turn.lay.Goals as goal

pub new-requires : goal.new-requires
new-requires g c = opens_as g.S.Chronicle.entries g.S.Chronicle.charter _ c.args.state c.of.result.value c.in_ok-slots.slots.items c.requires c.of.ensures c.in_ok-slots.ensures.ok
