use Rattle.ras_rows.proofs.Conjuncts.{number-index}
use Rattle.ras_rows.proofs.asked.is_other_number.Goals as goal

pub returns-in-Index : goal.returns-in-Index
returns-in-Index c = number-index c.args.oid c.args.e.now c.in-Index.e c.in-Index.axes c.in-Index.is
