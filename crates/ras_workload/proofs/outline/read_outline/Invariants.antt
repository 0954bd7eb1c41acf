use Rattle.std.proofs.Common.{◌≡◌, length}
use Rattle.spec_workloads.specs.Outline.{outline_after, outline_of}
use Rattle.ras_workload.specs.Outlines.{due_seen, outline_seen}
use Rattle.ras_workload.proofs.outline.read_outline.Given as goal

-- what was read so far goes on with the sections that are left
abbrev pub invariant-loop-section : goal.invariant-loop-section
invariant-loop-section l = outline_of l.text ≡ outline_after (due_seen l.due) (outline_seen l.outline) l.sections

abbrev pub decreases-loop-section : goal.decreases-loop-section
decreases-loop-section l = length l.sections
