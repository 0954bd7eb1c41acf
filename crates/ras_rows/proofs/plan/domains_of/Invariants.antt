use Rattle.std.proofs.Common.{◌≡◌, map, take}
use Rattle.ras_rows.proofs.plan.domains_of.Given as goal

abbrev pub invariant-loop-array : goal.invariant-loop-array
invariant-loop-array l = l.domains.items ≡ take l.array-index (map (λ member. member.array.domain) l.row)
