use Rattle.std.proofs.Common.{◌≡◌, drop}
use Rattle.ras_locks.specs.Holders.{blocker}
use Rattle.ras_locks.proofs.holders.conflicting.Given as goal

abbrev pub invariant-loop-holder : goal.invariant-loop-holder
invariant-loop-holder l = blocker l.owner l.mode l.holders ≡ blocker l.owner l.mode (drop l.holder-index l.holders)
