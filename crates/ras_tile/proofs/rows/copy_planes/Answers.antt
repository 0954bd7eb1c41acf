use Rattle.std.proofs.Common.{length, ◌∙◌, arith}
use Rattle.std.proofs.lemmas.List.Elements.{All-set}
use Rattle.ras_domain.specs.Region.{points_of, place_in_rows}
use Rattle.ras_tile.specs.Planes.{HasNumbers, IsPlainPlane, cell_of_planes}
use Rattle.ras_tile.proofs.Cells.{written_more, kept_more, plane_number-at, length-cell_of_planes}
use Rattle.ras_tile.proofs.rows.copy_planes.Goals as goal

pub loop-i-preserved : goal.loop-i-preserved
loop-i-preserved c = record {
  plain = All-set IsPlainPlane c.loop-i.to c.loop-i.i c.copy_plane.new.to c.copy_plane.ensures.plain c.loop-i.invariant.plain;
  whole = All-set (HasNumbers (length (points_of c.args.to_box.now))) c.loop-i.to c.loop-i.i c.copy_plane.new.to c.copy_plane.ensures.whole c.loop-i.invariant.whole;
  copied = λ p inside.
      written_more c.loop-i.to c.loop-i.i c.copy_plane.new.to (place_in_rows c.args.to_box.now p) (cell_of_planes c.args.from.now (place_in_rows c.args.from_box.now p)) (omega arith)
      (omega (arith, length-cell_of_planes c.args.from.now (place_in_rows c.args.from_box.now p))) (c.loop-i.invariant.copied p inside)
      (c.copy_plane.ensures.copied p inside ∙ plane_number-at c.args.from.now c.loop-i.i c.index-from-i.result (place_in_rows c.args.from_box.now p) (omega arith) c.index-from-i.is);
  others = λ p inside out.
      kept_more c.loop-i.to c.loop-i.i c.index-to-i.result c.copy_plane.new.to (place_in_rows c.args.to_box.now p) (omega arith) (c.copy_plane.ensures.others p inside out)
      ∙ c.loop-i.invariant.others p inside out;
}
