use Rattle.std.proofs.Common.{◌≡◌, length}
use Rattle.std.specs.Prelude.{int_lt}
use Rattle.spec_workloads.specs.TypeLines.{are_all_apart}
use Rattle.ras_workload.proofs.nulls.are_apart.Given as goal

abbrev pub invariant-loop-nulls : goal.invariant-loop-nulls
invariant-loop-nulls l = are_all_apart (λ a b. int_lt a.1 b.0) l.nulls ≡ are_all_apart (λ a b. int_lt a.1 b.0) l.initial.nulls

abbrev pub decreases-loop-nulls : goal.decreases-loop-nulls
decreases-loop-nulls l = length l.nulls
