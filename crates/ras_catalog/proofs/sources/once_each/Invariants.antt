use Rattle.ras_catalog.proofs.Kept.{HasSeen}
use Rattle.ras_catalog.proofs.sources.once_each.Given as goal

abbrev pub invariant-loop-source : goal.invariant-loop-source
invariant-loop-source l = HasSeen l.seen l.sources l.source-index
