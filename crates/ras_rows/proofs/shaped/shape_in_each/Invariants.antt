use Rattle.std.proofs.Common.{◌≡◌, drop, take}
use Rattle.ras_rows.proofs.Turns.{after}
use Rattle.spec_expressions.specs.Tree.{only_where, tree_of}
use Rattle.spec_statements.specs.Phases.{shaped_condition}
use Rattle.ras_rows.proofs.shaped.shape_in_each.Given as goal

abbrev pub invariant-loop-place : goal.invariant-loop-place
invariant-loop-place l = after (take l.place l.rows) (shaped_condition (only_where (tree_of l.e)) (drop l.place l.rows)) ≡ shaped_condition (only_where (tree_of l.e)) l.rows
