use Rattle.std.proofs.Common.{◌∙◌, arith, sym}
use Rattle.ras_values.proofs.Scopes.{looked_before, looked_here}
use Rattle.ras_values.proofs.names.innermost.Goals as goal

pub returns-then-eq : goal.returns-then-eq
returns-then-eq c =
    looked_here (λ name. name.now) c.args.name.now c.args.names.now c.loop-left.left c.index-names-left.result (omega arith) c.loop-left.invariant.within c.index-names-left.is
    (sym c.eq.ensures ∙ c.if-eq.true) c.loop-left.invariant.through

pub loop-left-preserved : goal.loop-left-preserved
loop-left-preserved c =
    record {
      within = omega (arith, c.loop-left.invariant.within);
      through = looked_before (λ name. name.now) c.args.name.now c.args.names.now c.loop-left.left c.index-names-left.result (omega arith) c.loop-left.invariant.within c.index-names-left.is
          (sym c.eq.ensures ∙ c.if-eq.false) c.loop-left.invariant.through;
    }
