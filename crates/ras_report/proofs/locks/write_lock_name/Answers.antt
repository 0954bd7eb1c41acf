use Rattle.std.proofs.Common.{append-nil}
use Rattle.std.specs.Prelude.{codes, decimal}
use Rattle.ras_edges.proofs.Writing.{Stopped-longer, Writes-failed}
use Rattle.spec_workloads.specs.Answers.{point_text_of}
use Rattle.ras_report.proofs.Parts.{Stopped-as, Writes-as, after-five}
use Rattle.ras_report.proofs.locks.write_lock_name.Goals as goal

pub returns-in-Collection : goal.returns-in-Collection
returns-in-Collection g c = let wrote = c.write_pieces.ensures in rw (c.in-Collection.is, ← c.bytes.ensures) (rw append-nil at wrote)

pub returns-in_err-write_pieces-in-Tile : goal.returns-in_err-write_pieces-in-Tile
returns-in_err-write_pieces-in-Tile g c =
    let point = point_text_of c.in-Tile.place.items in
    let stopped = Stopped-longer point c.in_err-write_pieces-in-Tile.ensures in
    Writes-failed c.from_residual.result c.from_residual.ensures.0
    (rw (c.in-Tile.is, ← c.bytes-in-Tile.ensures)
    (Stopped-as _ _ (after-five (codes "tile ") c.bytes-in-Tile.result.now (codes " ") (decimal c.in-Tile.id) (codes " ") point) stopped))

pub returns-in_ok-write_pieces-in-Tile : goal.returns-in_ok-write_pieces-in-Tile
returns-in_ok-write_pieces-in-Tile g c =
    let point = point_text_of c.as_slice.result.now in
    rw (c.in-Tile.is, ← c.bytes-in-Tile.ensures, ← c.as_slice.ensures.value)
    (Writes-as _ _ point _ c.write_point.result (after-five (codes "tile ") c.bytes-in-Tile.result.now (codes " ") (decimal c.in-Tile.id) (codes " ") point)
    c.in_ok-write_pieces-in-Tile.ensures c.write_point.ensures)
