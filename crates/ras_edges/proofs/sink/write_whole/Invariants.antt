use Rattle.std.proofs.Common.{length, ◌-◌, ◌≤◌, take}
use Rattle.ras_edges.specs.Sink.{Wrote}
use Rattle.ras_edges.proofs.sink.write_whole.Given as goal

abbrev pub invariant-loop-at : goal.invariant-loop-at
invariant-loop-at g l = record {
  in_text : l.at ≤ length l.text;
  so_far : Wrote g.K.Sink.taken g.K.Sink.faults l.initial.sink l.sink (take l.at l.text);
}

abbrev pub decreases-loop-at : goal.decreases-loop-at
decreases-loop-at g l = length l.text - l.at
