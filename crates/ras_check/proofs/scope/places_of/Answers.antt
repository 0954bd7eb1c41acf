use Rattle.std.proofs.Common.{◌≡◌, ℕ, suc, ◌-◌, sym, ap, subst, arith, length}
use Rattle.ras_check.specs.ScopeView.{HasPlacesFrom}
use Rattle.ras_check.proofs.Placed.{placed_none, placed_more}
use Rattle.ras_check.proofs.scope.places_of.Goals as goal

pub loop-left-init : goal.loop-left-init
loop-left-init c = record {
  below = omega arith;
  placed = placed_none c.new-places.result c.args.sources.now (length c.args.sources.now) c.new-places.ensures.empty (omega arith);
}

pub loop-left-preserved : goal.loop-left-preserved
loop-left-preserved c =
    let e : c.loop-left.left ≡ suc (c.loop-left.left - 1) = omega arith in
    record {
      below = omega arith;
      placed = placed_more (c.loop-left.left - 1) c.loop-left.places c.insert.new.self c.args.sources.now c.bytes.result _ c.index-sources-left.result (omega arith)
          (sym c.index-sources-left.is) c.bytes.ensures (ap (λ (n : ℕ). (n, c.index-sources-left.result)) c.in-Ok.ensures.1) c.in-Ok-insert.ensures.updates
          (subst (λ n. HasPlacesFrom n c.loop-left.places c.args.sources.now) e c.loop-left.invariant.placed);
    }

pub returns : goal.returns
returns c =
    let e : c.loop-left.left ≡ 0 = omega arith in
    subst (λ n. HasPlacesFrom n c.loop-left.places c.args.sources.now) e c.loop-left.invariant.placed
