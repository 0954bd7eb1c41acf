use Rattle.ras_kinds.proofs.TreeForms.{not_static}
use Rattle.ras_kinds.proofs.trees.+is_static.Goals as goal

pub returns-in-Index : goal.returns-in-Index
returns-in-Index t c = not_static c.args.e.now c.in-Index.e c.in-Index.axes c.in-Index.is
