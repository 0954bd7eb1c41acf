use Rattle.ras_kinds.proofs.TreeForms.{no_sdom}
use Rattle.ras_catalog.proofs.bodies.is_sdom.Goals as goal

pub returns-in-Index : goal.returns-in-Index
returns-in-Index c = no_sdom c.args.e.now c.in-Index.e c.in-Index.axes c.in-Index.is
