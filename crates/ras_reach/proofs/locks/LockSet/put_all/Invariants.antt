use Rattle.std.proofs.Common.{◌≡◌, vec_len}
use Rattle.ras_reach.specs.Keys.{put_before}
use Rattle.ras_reach.proofs.locks.LockSet.put_all.Given as goal

abbrev pub invariant-loop-name : goal.invariant-loop-name
invariant-loop-name l = put_before l.left.items l.self ≡ put_before l.initial.left.items l.initial.self

abbrev pub decreases-loop-name : goal.decreases-loop-name
decreases-loop-name l = vec_len l.left
