use Rattle.std.proofs.Common.{◌+◌, sym, subst, ap, ◌∙◌, length, get_or, arith, take}
use Rattle.std.proofs.lemmas.List.{get_or_default, length_push}
use Rattle.ras_cells.specs.declared.atom.Atom.{Atom}
use Rattle.ras_cells.specs.declared.atom.Atom.TheVariants.{Bool, Wide}
use Rattle.ras_cells.specs.Atoms.{IsInRange}
use Rattle.ras_tile.specs.Planes.{cell_of_planes, IsPackedPlane, ArePlanes}
use Rattle.ras_tile.proofs.Cells.{AreInRange-at, plane_number-at, ArePlanes-more, length-cell_of_planes}
use Rattle.ras_tile.proofs.planes.narrowed.Goals as goal

pub packed-requires-clause-range : goal.packed-requires-clause-range
packed-requires-clause-range c =
    λ k below.
    subst (IsInRange (get_or c.args.atoms.now c.loop-i.i Bool))
    (sym (plane_number-at c.args.planes.now c.loop-i.i c.index-planes-i.result k c.loop-i-test.true c.index-planes-i.is))
    (AreInRange-at c.args.atoms.now (cell_of_planes c.args.planes.now k) c.loop-i.i Bool (c.requires.range k below) (omega (arith, c.requires.each_atom)))

pub loop-i-preserved : goal.loop-i-preserved
loop-i-preserved c =
    let plane = c.in_ok-plane.plane in
    let kind : IsPackedPlane (get_or c.args.atoms.now c.loop-i.i Wide) plane =
    subst (λ (atom : Atom). IsPackedPlane atom plane) (get_or_default c.args.atoms.now c.loop-i.i Bool Wide (omega (arith, c.requires.each_atom))) c.in_ok-plane.ensures.packed in
    record {
      made = subst (ArePlanes c.args.cells (λ i plane. IsPackedPlane (get_or c.args.atoms.now i Wide) plane) (λ k. take (c.loop-i.i + 1) (cell_of_planes c.args.planes.now k)))
          (sym c.in_ok-push.ensures.items)
          (ArePlanes-more c.args.cells c.loop-i.i (λ i plane. IsPackedPlane (get_or c.args.atoms.now i Wide) plane) (cell_of_planes c.args.planes.now) c.loop-i.copies.items plane
          c.loop-i.invariant.made c.loop-i.invariant.long
          (λ k below. omega (arith, length-cell_of_planes c.args.planes.now k)) c.in_ok-plane.ensures.whole kind
          (λ k below.
          c.in_ok-plane.ensures.numbers k below
          ∙ plane_number-at c.args.planes.now c.loop-i.i c.index-planes-i.result k c.loop-i-test.true c.index-planes-i.is));
      long = omega (arith, ap length c.in_ok-push.ensures.items, length_push c.loop-i.copies.items plane, c.loop-i.invariant.long);
    }
