use Rattle.std.proofs.Common.{◌≡◌, take}
use Rattle.law_work.specs.ChangesFor.{identifiers_without}
use Rattle.ras_work.proofs.forms.without.Given as goal

abbrev pub invariant-loop-oid : goal.invariant-loop-oid
invariant-loop-oid l = l.left.items ≡ identifiers_without l.gone (take l.oid-index l.oid-items)
