use Rattle.std.proofs.Common.{◌≡◌, suc, ◌-◌, sym, subst, arith, length}
use Rattle.ras_catalog.specs.CatalogView.{HasTypesFrom}
use Rattle.ras_catalog.proofs.Kept.{types_none, types_more}
use Rattle.ras_catalog.proofs.catalog.places_of.Goals as goal

pub loop-left-init : goal.loop-left-init
loop-left-init c = record {
  below = omega arith;
  placed = types_none c.new-places.result c.args.collections.now (length c.args.collections.now) c.new-places.ensures.empty (omega arith);
}

pub loop-left-preserved : goal.loop-left-preserved
loop-left-preserved c =
    let e : c.loop-left.left ≡ suc (c.loop-left.left - 1) = omega arith in
    record {
      below = omega arith;
      placed = types_more (c.loop-left.left - 1) c.loop-left.places _ c.args.collections.now c.index-collections-left.result (omega arith)
          (sym c.index-collections-left.is) c.in_ok-put.ensures
          (subst (λ n. HasTypesFrom n c.loop-left.places c.args.collections.now) e c.loop-left.invariant.placed);
    }

pub returns : goal.returns
returns c =
    let e : c.loop-left.left ≡ 0 = omega arith in
    subst (λ n. HasTypesFrom n c.loop-left.places c.args.collections.now) e c.loop-left.invariant.placed
