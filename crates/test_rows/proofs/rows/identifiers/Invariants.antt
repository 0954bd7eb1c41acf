use Rattle.std.proofs.Common.{◌<◌, All}
use Rattle.test_rows.proofs.rows.identifiers.Given as goal

abbrev pub invariant-loop-oid : goal.invariant-loop-oid
invariant-loop-oid l = All (λ other. other < l.oid) l.oids
