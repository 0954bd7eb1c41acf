use Rattle.std.specs.Prelude.{map, neg_ℤ}
use Rattle.ras_values.proofs.Moving.{moved_nothing}
use Rattle.ras_values.proofs.moves.+push_moved_back.Goals as goal

pub returns-in_default : goal.returns-in_default
returns-in_default t c = λ _. moved_nothing (map neg_ℤ c.args.offsets.now) c.args.p.now c.args.q.now.items c.in_default.len_below
