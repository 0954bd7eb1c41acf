use Rattle.std.proofs.Common.{◌++◌}
use Rattle.std.specs.Prelude.{codes, flat_map}
use Rattle.ras_edges.proofs.Writing.{Wrote-more, Stopped-later, Stopped-longer, Writes-failed, Writes-after}
use Rattle.spec_sessions.specs.Report.{box_text_of, cell_text_of}
use Rattle.ras_report.proofs.values.write_row.Goals as goal

pub returns-in_err-write_whole-in-Domain : goal.returns-in_err-write_whole-in-Domain
returns-in_err-write_whole-in-Domain g c =
    rw c.in-Domain.is (Writes-failed c.from_residual.result c.from_residual.ensures.0
    (Stopped-longer (box_text_of c.in-Domain.region) c.in_err-write_whole-in-Domain.ensures))

pub returns-in_err-write_whole-in-Array : goal.returns-in_err-write_whole-in-Array
returns-in_err-write_whole-in-Array g c =
    rw c.in-Array.is (Writes-failed c.from_residual-in_err-write_whole-in-Array.result c.from_residual-in_err-write_whole-in-Array.ensures.0
    (Stopped-longer (flat_map (λ cell. codes " " ++ cell_text_of cell) c.in-Array.cells.cells)
    (Stopped-longer (box_text_of c.in-Array.region) c.in_err-write_whole-in-Array.ensures)))

pub returns-in_err-write_box-in-Array : goal.returns-in_err-write_box-in-Array
returns-in_err-write_box-in-Array g c =
    rw (c.in-Array.is, ← c.axes-in-Array.ensures.axes)
    (Writes-failed c.from_residual-in_err-write_box-in-Array.result c.from_residual-in_err-write_box-in-Array.ensures.0
    (Stopped-longer (flat_map (λ cell. codes " " ++ cell_text_of cell) c.in-Array.cells.cells)
    (Stopped-later c.in_ok-write_whole-in-Array.ensures c.in_err-write_box-in-Array.ensures)))

pub returns-in_ok-write_whole-in-Domain : goal.returns-in_ok-write_whole-in-Domain
returns-in_ok-write_whole-in-Domain g c =
    rw (c.in-Domain.is, ← c.axes.ensures.axes)
    (Writes-after _ (box_text_of c.axes.result.now) c.write_box.result c.in_ok-write_whole-in-Domain.ensures c.write_box.ensures)

pub returns-in_ok-write_box-in-Array : goal.returns-in_ok-write_box-in-Array
returns-in_ok-write_box-in-Array g c =
    rw (c.in-Array.is, ← c.axes-in-Array.ensures.axes)
    (Writes-after _ (flat_map (λ cell. codes " " ++ cell_text_of cell) c.in-Array.cells.cells) c.write_cells.result
    (Wrote-more c.in_ok-write_whole-in-Array.ensures c.in_ok-write_box-in-Array.ensures) c.write_cells.ensures)
