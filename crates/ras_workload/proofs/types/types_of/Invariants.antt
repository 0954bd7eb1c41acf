use Rattle.std.proofs.Common.{◌≡◌, [], length}
use Rattle.spec_workloads.specs.Outline.{types_after}
use Rattle.spec_workloads.specs.Sections.{pieces_of}
use Rattle.ras_workload.specs.SectionViews.{section_seen}
use Rattle.ras_workload.proofs.types.types_of.Given as goal

abbrev pub invariant-loop-piece : goal.invariant-loop-piece
invariant-loop-piece l = record {
  told : types_after [] (pieces_of (section_seen l.section)).closed ≡ types_after l.types l.pieces.closed;
  rest : (pieces_of (section_seen l.section)).rest ≡ l.pieces.rest;
}

abbrev pub decreases-loop-piece : goal.decreases-loop-piece
decreases-loop-piece l = length l.pieces.closed
