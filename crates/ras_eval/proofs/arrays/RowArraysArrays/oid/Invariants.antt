use Rattle.std.proofs.Common.{◌≡◌, drop}
use Rattle.spec_expressions.specs.Eval.{member_named}
use Rattle.ras_eval.proofs.arrays.RowArraysArrays.oid.Given as goal

abbrev pub invariant-loop-array : goal.invariant-loop-array
invariant-loop-array l = member_named (drop l.array-index l.array-items) l.iterator' ≡ member_named l.array-items l.iterator'
