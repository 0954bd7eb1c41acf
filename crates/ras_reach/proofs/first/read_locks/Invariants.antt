use Rattle.std.proofs.Common.{◌≡◌, ◌++◌, drop, map}
use Rattle.spec_statements.specs.Machine.{read_lock}
use Rattle.ras_reach.proofs.first.read_locks.Given as goal

abbrev pub invariant-loop-source : goal.invariant-loop-source
invariant-loop-source l = l.wanted.items ++ map read_lock (drop l.source-index l.sources) ≡ map read_lock l.sources
