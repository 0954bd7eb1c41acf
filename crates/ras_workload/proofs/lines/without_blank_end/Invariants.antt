use Rattle.std.proofs.Common.{◌≡◌, ◌≤◌, length, take}
use Rattle.spec_workloads.specs.Sections.{without_blank_end}
use Rattle.ras_workload.proofs.lines.without_blank_end.Given as goal

-- what was passed are blanks
abbrev pub invariant-loop-end : goal.invariant-loop-end
invariant-loop-end l = record {
  within : l.end ≤ length l.line;
  same : without_blank_end l.line ≡ without_blank_end (take l.end l.line);
}

abbrev pub decreases-loop-end : goal.decreases-loop-end
decreases-loop-end l = l.end
