use Rattle.std.proofs.Common.{◌≡◌, map}
use Rattle.ras_workload.proofs.cells.parted.Given as goal

abbrev pub invariant-loop-name : goal.invariant-loop-name
invariant-loop-name l = record {
  atoms : l.atoms.items ≡ map (λ c. c.1) l.yielded;
  names : l.names ≡ map (λ c. c.0) l.yielded;
}
