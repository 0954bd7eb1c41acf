use Rattle.std.proofs.Common.{◌≡◌, drop}
use Rattle.ras_reach.specs.Statics.{all_found, all_found_after, interval_found}
use Rattle.ras_reach.proofs.statics.written_box.Given as goal

abbrev pub invariant-loop-pair : goal.invariant-loop-pair
invariant-loop-pair l = all_found_after l.axes.items (all_found (interval_found l.domains) (drop l.pair-index l.pairs)) ≡ all_found (interval_found l.domains) l.pairs
