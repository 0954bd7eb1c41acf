use Rattle.std.proofs.Common.{◌≡◌, List, length}
use Rattle.spec_workloads.specs.Outline.{section_statements}
use Rattle.spec_workloads.specs.Sections.{Section}
use Rattle.ras_workload.specs.SectionViews.{section_seen}
use Rattle.ras_workload.specs.Texts.{texts_after}
use Rattle.ras_workload.proofs.scripts.statements_of.Given as goal

abbrev pub invariant-loop-piece : goal.invariant-loop-piece
invariant-loop-piece l = (later : List Section) → section_statements (section_seen l.section) later ≡ texts_after l.texts l.pieces.closed l.pieces.rest later

abbrev pub decreases-loop-piece : goal.decreases-loop-piece
decreases-loop-piece l = length l.pieces.closed
