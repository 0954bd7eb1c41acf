use Rattle.std.proofs.Common.{◌≡◌, ◌≤◌, length, take}
use Rattle.std.specs.Map.{lookup}
use Rattle.spec_expressions.specs.Tree.{is_same_name}
use Rattle.ras_check.specs.ScopeView.{variables_seen}
use Rattle.ras_check.proofs.scope.innermost.Given as goal

abbrev pub invariant-loop-left : goal.invariant-loop-left
invariant-loop-left l = record {
  below : l.left ≤ length l.variables;
  rest : lookup (is_same_name l.name) (variables_seen l.variables) ≡ lookup (is_same_name l.name) (variables_seen (take l.left l.variables));
}

abbrev pub decreases-loop-left : goal.decreases-loop-left
decreases-loop-left l = l.left
