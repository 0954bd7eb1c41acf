use Rattle.std.proofs.Common.{◌≡◌, ◌+◌, drop, false}
use Rattle.ras_workload.specs.Lines.{part_length}
use Rattle.ras_workload.proofs.lines.part_len.Given as goal

-- what was passed and what is left to pass
abbrev pub invariant-loop-at : goal.invariant-loop-at
invariant-loop-at l = l.at + part_length l.in_comment (drop l.at l.text) ≡ part_length false l.text
