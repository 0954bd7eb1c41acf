use Rattle.std.proofs.Common.{◌≡◌, drop}
use Rattle.ras_reach.specs.Statics.{all_found, all_found_after, number_found}
use Rattle.ras_reach.proofs.statics.offset_values.Given as goal

abbrev pub invariant-loop-offset : goal.invariant-loop-offset
invariant-loop-offset l = all_found_after l.values.items (all_found (number_found l.domains) (drop l.offset-index l.offsets)) ≡ all_found (number_found l.domains) l.offsets
