use Rattle.std.proofs.Common.{◌≡◌, ◌+◌, sym, subst, ap, ◌∙◌, length, arith, take, to_z, of_z, w64}
use Rattle.std.proofs.lemmas.Int.{ints}
use Rattle.std.proofs.lemmas.List.{length_push}
use Rattle.ras_tile.specs.declared.plane.Plane.TheVariants.{Uniform}
use Rattle.ras_tile.specs.Planes.{plane_number, listed_number, cell_of_planes, IsUniformPlane, ArePlanes}
use Rattle.ras_tile.proofs.Cells.{plane_number-at, ArePlanes-more, length-cell_of_planes}
use Rattle.ras_tile.proofs.planes.uniform.Goals as goal

pub loop-plane-preserved : goal.loop-plane-preserved
loop-plane-preserved c =
    let read : to_z w64 (of_z w64 c.at-number.result) ≡ plane_number c.plane-item.result 0 = omega (arith, ints, c.at-number.ensures) in
    record {
      made = subst (ArePlanes c.args.cells (λ _ plane. IsUniformPlane plane) (λ k. take (c.loop-plane.plane-index + 1) (cell_of_planes c.args.planes.now k))) (sym c.in_ok-push.ensures.items)
          (ArePlanes-more c.args.cells c.loop-plane.plane-index (λ _ plane. IsUniformPlane plane) (cell_of_planes c.args.planes.now) c.loop-plane.copies.items
          (Uniform (to_z w64 (of_z w64 c.at-number.result))) c.loop-plane.invariant.made c.loop-plane.invariant.long (λ k below. omega (arith, length-cell_of_planes c.args.planes.now k)) tt tt
          (λ k below.
          read ∙ plane_number-at c.args.planes.now c.loop-plane.plane-index c.plane-item.result 0 c.loop-plane-test.true c.plane-item.is
          ∙ ap (λ cell. listed_number cell c.loop-plane.plane-index) (sym (c.requires.equal k below))));
      long = omega (arith, ap length c.in_ok-push.ensures.items, length_push c.loop-plane.copies.items (Uniform (to_z w64 (of_z w64 c.at-number.result))), c.loop-plane.invariant.long);
    }
