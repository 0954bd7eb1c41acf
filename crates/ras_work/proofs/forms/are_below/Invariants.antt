use Rattle.std.proofs.Common.{◌<◌, All, take}
use Rattle.ras_work.proofs.forms.are_below.Given as goal

abbrev pub invariant-loop-oid : goal.invariant-loop-oid
invariant-loop-oid l = All (λ oid. oid < l.bound) (take l.oid-index l.oids)
