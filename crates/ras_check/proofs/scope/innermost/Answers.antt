use Rattle.std.proofs.Common.{◌≡◌, ℕ, suc, ◌-◌, ◌∙◌, sym, ap, arith, length}
use Rattle.std.proofs.lemmas.List.{take_all}
use Rattle.std.specs.Map.{lookup}
use Rattle.spec_expressions.specs.Tree.{is_same_name}
use Rattle.ras_check.specs.ScopeView.{variables_seen}
use Rattle.ras_check.proofs.Placed.{skips_to, found_at}
use Rattle.ras_check.proofs.scope.innermost.Goals as goal

pub loop-left-init : goal.loop-left-init
loop-left-init c = record {
  below = omega arith;
  rest = ap (λ vs. lookup (is_same_name c.args.name.now) (variables_seen vs)) (sym (take_all (length c.args.variables.now) c.args.variables.now (omega arith)));
}

pub loop-left-preserved : goal.loop-left-preserved
loop-left-preserved c = record {
  below = omega arith;
  rest = c.loop-left.invariant.rest ∙ skips_to c.args.name.now c.args.variables.now c.loop-left.left (c.loop-left.left - 1) c.index-variables-left.result (omega arith) (omega arith)
      (sym c.index-variables-left.is) (sym c.eq.ensures ∙ c.if-eq.false);
}

pub returns-then-eq : goal.returns-then-eq
returns-then-eq c = sym (c.loop-left.invariant.rest ∙ found_at c.args.name.now c.args.variables.now c.loop-left.left (c.loop-left.left - 1) c.index-variables-left.result (omega arith) (omega arith)
    (sym c.index-variables-left.is) (sym c.eq.ensures ∙ c.if-eq.true))
