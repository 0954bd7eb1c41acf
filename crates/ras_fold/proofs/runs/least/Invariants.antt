use Rattle.std.proofs.Common.{◌≡◌, map, take, fold}
use Rattle.std.specs.Int.{int_min}
use Rattle.ras_fold.proofs.runs.least.Given as goal

abbrev pub invariant-loop-number : goal.invariant-loop-number
invariant-loop-number g l =
    l.least ≡ fold int_min l.initial.least (map g.N.Number.number (take l.number-index l.others))
