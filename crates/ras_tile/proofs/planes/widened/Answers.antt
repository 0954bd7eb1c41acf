use Rattle.std.proofs.Common.{◌+◌, sym, subst, ap, ◌∙◌, length, arith, take}
use Rattle.std.proofs.lemmas.List.{length_push}
use Rattle.ras_tile.specs.declared.plane.Plane.TheVariants.{Plain}
use Rattle.ras_tile.specs.Planes.{cell_of_planes, IsPlainPlane, ArePlanes}
use Rattle.ras_tile.proofs.Cells.{plane_number-at, ArePlanes-more, length-cell_of_planes}
use Rattle.ras_tile.proofs.planes.widened.Goals as goal

pub loop-plane-preserved : goal.loop-plane-preserved
loop-plane-preserved c = record {
  made = subst (ArePlanes c.args.cells (λ _ plane. IsPlainPlane plane) (λ k. take (c.loop-plane.plane-index + 1) (cell_of_planes c.args.planes.now k))) (sym c.in_ok-push.ensures.items)
      (ArePlanes-more c.args.cells c.loop-plane.plane-index (λ _ plane. IsPlainPlane plane) (cell_of_planes c.args.planes.now) c.loop-plane.copies.items (Plain c.in_ok-numbers.numbers)
      c.loop-plane.invariant.made c.loop-plane.invariant.long (λ k below. omega (arith, length-cell_of_planes c.args.planes.now k)) c.in_ok-numbers.ensures.long tt
      (λ k below.
      c.in_ok-numbers.ensures.numbers k below
      ∙ plane_number-at c.args.planes.now c.loop-plane.plane-index c.plane-item.result k c.loop-plane-test.true c.plane-item.is));
  long = omega (arith, ap length c.in_ok-push.ensures.items, length_push c.loop-plane.copies.items (Plain c.in_ok-numbers.numbers), c.loop-plane.invariant.long);
}
