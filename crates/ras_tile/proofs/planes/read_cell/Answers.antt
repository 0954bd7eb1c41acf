use Rattle.std.proofs.Common.{◌≡◌, ◌++◌, [], ◌∷◌, ℤ, List, take, ap, sym, ◌∙◌, to_z, of_z, w64, arith}
use Rattle.std.proofs.lemmas.Int.{ints}
use Rattle.ras_tile.specs.Planes.{plane_number, cell_of_planes}
use Rattle.ras_tile.proofs.Cells.{cell_of_planes-more}
use Rattle.ras_tile.proofs.planes.read_cell.Goals as goal

pub loop-plane-preserved : goal.loop-plane-preserved
loop-plane-preserved c =
    let read : to_z w64 (of_z w64 c.at.result) ≡ plane_number c.plane-item.result c.args.place = omega (arith, ints, c.at.ensures) in
    c.push.ensures.items
    ∙ ap (λ (zs : List ℤ). zs ++ to_z w64 (of_z w64 c.at.result) ∷ []) c.loop-plane.invariant
    ∙ ap (λ (z : ℤ). take c.loop-plane.plane-index (cell_of_planes c.args.planes.now c.args.place) ++ z ∷ []) read
    ∙ sym (cell_of_planes-more c.args.planes.now c.loop-plane.plane-index c.plane-item.result c.args.place c.loop-plane-test.true c.plane-item.is)
