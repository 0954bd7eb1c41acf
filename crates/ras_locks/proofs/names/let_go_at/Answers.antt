use Rattle.std.proofs.Common.{◌∙◌}
use Rattle.ras_locks.proofs.names.let_go_at.Goals as goal

pub returns : goal.returns
returns c = λ other. c.drop_empty.ensures other ∙ c.take_out.ensures other
