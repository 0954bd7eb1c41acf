use Rattle.ras_rows.proofs.Planned.{whole-of}
use Rattle.ras_rows.proofs.plan.plan_of.Goals as goal

pub returns-in-None : goal.returns-in-None
returns-in-None c =
    whole-of c.args.form.now c.in-Update.source c.in-Update.axes c.in-Update.target c.in-Update.body c.in-Update.cond c.args.number c.args.row.items c.update_whole.result c.in-Update.is c.in-None.is
    (c.update_whole.ensures c.in-Update.target)
