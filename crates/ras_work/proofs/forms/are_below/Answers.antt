use Rattle.std.proofs.Common.{◌<◌, All, arith, subst}
use Rattle.std.proofs.lemmas.List.{take_all}
use Rattle.std.proofs.lemmas.List.Elements.{All-more}
use Rattle.ras_work.proofs.forms.are_below.Goals as goal

pub loop-oid-preserved : goal.loop-oid-preserved
loop-oid-preserved c =
    All-more (λ oid. oid < c.args.bound) c.args.oids.now c.loop-oid.oid-index 0 c.loop-oid-test.true c.loop-oid.invariant (omega (arith, c.if-oid-bound.false))

pub returns : goal.returns
returns c = λ is. subst (All (λ oid. oid < c.args.bound)) (take_all c.loop-oid.oid-index c.args.oids.now (omega (arith, c.loop-oid-test.false))) c.loop-oid.invariant
