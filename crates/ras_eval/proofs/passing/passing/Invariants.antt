use Rattle.std.proofs.Common.{◌≡◌, drop}
use Rattle.std.specs.Option.{option_copied, option_map}
use Rattle.spec_expressions.specs.Tree.{condition_of, tree_of}
use Rattle.ras_eval.specs.Passing.{passing_named}
use Rattle.ras_eval.proofs.Each.{after}
use Rattle.ras_eval.proofs.passing.passing.Given as goal

abbrev pub invariant-loop-place : goal.invariant-loop-place
invariant-loop-place l =
    after l.set (passing_named (condition_of (option_map tree_of (option_copied l.condition))) (drop l.place l.rows))
    ≡ passing_named (condition_of (option_map tree_of (option_copied l.condition))) l.rows
