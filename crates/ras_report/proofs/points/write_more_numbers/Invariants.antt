use Rattle.std.proofs.Common.{take, ◌++◌}
use Rattle.std.specs.Prelude.{codes, flat_map}
use Rattle.std.specs.Fmt.{signed_decimal}
use Rattle.ras_edges.specs.Sink.{Wrote}
use Rattle.ras_report.proofs.points.write_more_numbers.Given as goal

abbrev pub invariant-loop-n : goal.invariant-loop-n
invariant-loop-n g l = Wrote g.K.Sink.taken g.K.Sink.faults l.initial.sink l.sink (flat_map (λ n. codes "," ++ signed_decimal n) (take l.n-index l.numbers))
