use Rattle.std.proofs.Common.{ap}
use Rattle.ras_turn.proofs.turn.Turn.new.Goals as goal

pub returns-clause-passes : goal.returns-clause-passes
returns-clause-passes g c = c.deal-passes.ensures.each (g.S.Chronicle.charter c.args.state) (ap (λ v. v.charter) c.in_ok-turn.ensures.seat.1)
