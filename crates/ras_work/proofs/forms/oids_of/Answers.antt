use Rattle.std.proofs.Common.{subst}
use Rattle.std.specs.List.Sorted.{IsStrictlyIncreasing}
use Rattle.std.proofs.lemmas.Map.Keys.{sorted_from_strictly_increasing}
use Rattle.ras_work.proofs.forms.oids_of.Goals as goal

pub of-requires : goal.of-requires
of-requires c =
    sorted_from_strictly_increasing c.loop-write.oids.items (subst IsStrictlyIncreasing c.as_slice.ensures.value (c.is_ascending.ensures c.if-not-is_ascending.false))
