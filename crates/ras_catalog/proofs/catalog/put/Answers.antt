use Rattle.std.proofs.Common.{refl}
use Rattle.ras_catalog.proofs.Kept.{puts_some}
use Rattle.ras_catalog.proofs.catalog.put.Goals as goal

pub returns-in-Ok : goal.returns-in-Ok
returns-in-Ok c = rw c.in-Some.is (puts_some _ _ c.bytes.result c.args.entry.now.0 c.in-Some.place c.bytes.ensures c.in-Ok.ensures.updates)

pub returns-in-None : goal.returns-in-None
returns-in-None c = rw c.in-None.is (record { found = λ q. refl })
