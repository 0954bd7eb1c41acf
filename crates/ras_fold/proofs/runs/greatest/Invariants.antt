use Rattle.std.proofs.Common.{◌≡◌, map, take, fold}
use Rattle.std.specs.Int.{int_max}
use Rattle.ras_fold.proofs.runs.greatest.Given as goal

abbrev pub invariant-loop-number : goal.invariant-loop-number
invariant-loop-number g l =
    l.greatest ≡ fold int_max l.initial.greatest (map g.N.Number.number (take l.number-index l.others))
