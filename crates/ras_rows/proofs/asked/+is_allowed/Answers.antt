use Rattle.ras_rows.proofs.Conjuncts.{asked-index, eq-arm}
use Rattle.ras_rows.proofs.asked.+is_allowed.Goals as goal

pub returns-in-Eq : goal.returns-in-Eq
returns-in-Eq t c =
    eq-arm c.args.iterator.now c.args.oid c.args.e.now c.in-Binary.a c.in-Binary.b c.get-in-Eq.result.now c.get-in-Eq-2.result.now c.in-Binary.op c.is_allowed_by_equation.result
    c.in-Binary.is c.in-Eq.is c.get-in-Eq.ensures c.get-in-Eq-2.ensures c.is_allowed_by_equation.ensures

pub returns-in-Index : goal.returns-in-Index
returns-in-Index t c = asked-index c.args.iterator.now c.args.oid c.args.e.now c.in-Index.e c.in-Index.axes c.in-Index.is
