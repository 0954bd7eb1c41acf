use Rattle.std.proofs.Common.{◌<◌, ◌+◌, All, subst, sym, arith}
use Rattle.std.proofs.lemmas.List.Elements.{All-push, All-weaker}
use Rattle.test_rows.proofs.rows.identifiers.Goals as goal

pub loop-oid-preserved : goal.loop-oid-preserved
loop-oid-preserved c =
    subst (All (λ other. other < c.loop-oid.oid + 1)) (sym c.in_ok-push.ensures.ok)
    (All-push (λ other. other < c.loop-oid.oid + 1) c.loop-oid.oids c.loop-oid.oid
    (All-weaker (λ other. other < c.loop-oid.oid) (λ other. other < c.loop-oid.oid + 1) (λ other below. omega (arith, below)) c.loop-oid.oids c.loop-oid.invariant) (omega arith))
