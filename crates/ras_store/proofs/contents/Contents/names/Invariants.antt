use Rattle.std.proofs.Common.{◌≡◌, map}
use Rattle.std.specs.Map.Iter.{deref_pair}
use Rattle.ras_store.proofs.Listed.{named}
use Rattle.ras_store.proofs.contents.Contents.names.Given as goal

abbrev pub invariant-loop-name : goal.invariant-loop-name
invariant-loop-name l = l.names.items ≡ named (map deref_pair l.yielded)
