use Rattle.std.proofs.Common.{◌≡◌, ◌+◌, ◌-◌, ◌≤◌, ◌++◌, length}
use Rattle.std.specs.Prelude.{slice_range}
use Rattle.ras_workload.specs.Headed.{headed_at}
use Rattle.ras_workload.proofs.sections.to_heading.Given as goal

-- the lines that were passed have no heading
abbrev pub invariant-loop-at : goal.invariant-loop-at
invariant-loop-at l = record {
  order : l.from ≤ l.at;
  within : l.at ≤ length l.text;
  few : l.line ≤ l.at + 1;
  headed : headed_at l.first l.from l.text
      ≡ record { front = slice_range l.text l.from l.at ++ (headed_at l.line l.at l.text).front; sections = (headed_at l.line l.at l.text).sections };
}

abbrev pub decreases-loop-at : goal.decreases-loop-at
decreases-loop-at l = length l.text - l.at
