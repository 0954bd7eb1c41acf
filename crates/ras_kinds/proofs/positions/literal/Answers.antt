use Rattle.ras_kinds.proofs.TreeForms.{no_literal}
use Rattle.ras_kinds.proofs.positions.literal.Goals as goal

pub returns-in-Index : goal.returns-in-Index
returns-in-Index c = no_literal c.args.e.now c.in-Index.e c.in-Index.axes c.in-Index.is
