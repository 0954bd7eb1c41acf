use Rattle.std.proofs.Common.{◌≡◌, map, take}
use Rattle.std.specs.List.{list_any}
use Rattle.ras_cells.specs.Numbers.{is_true}
use Rattle.ras_fold.proofs.runs.is_one_true.Given as goal

abbrev pub invariant-loop-number : goal.invariant-loop-number
invariant-loop-number g l = l.one ≡ list_any is_true (map g.N.Number.number (take l.number-index l.numbers))
