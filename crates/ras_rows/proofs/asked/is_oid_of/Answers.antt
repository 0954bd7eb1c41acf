use Rattle.ras_rows.proofs.Conjuncts.{oid-index}
use Rattle.ras_rows.proofs.asked.is_oid_of.Goals as goal

pub returns-in-Index : goal.returns-in-Index
returns-in-Index c = oid-index c.args.iterator.now c.args.e.now c.in-Index.e c.in-Index.axes c.in-Index.is
