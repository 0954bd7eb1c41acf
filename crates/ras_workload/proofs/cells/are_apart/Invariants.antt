use Rattle.std.proofs.Common.{◌≡◌, length, not}
use Rattle.spec_grammar.specs.Tokens.{is_same}
use Rattle.spec_workloads.specs.TypeLines.{are_all_apart}
use Rattle.ras_workload.proofs.cells.are_apart.Given as goal

abbrev pub invariant-loop-names : goal.invariant-loop-names
invariant-loop-names l = are_all_apart (λ a b. not (is_same a b)) l.names ≡ are_all_apart (λ a b. not (is_same a b)) l.initial.names

abbrev pub decreases-loop-names : goal.decreases-loop-names
decreases-loop-names l = length l.names
