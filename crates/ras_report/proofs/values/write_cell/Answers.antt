use Rattle.std.specs.Prelude.{codes}
use Rattle.ras_edges.proofs.Writing.{Stopped-longer, Writes-failed, Writes-after}
use Rattle.spec_sessions.specs.Report.{cell_text_of, numbers_text_of}
use Rattle.ras_report.proofs.values.write_cell.Goals as goal

pub returns-in_err-write_whole : goal.returns-in_err-write_whole
returns-in_err-write_whole g c =
    Writes-failed c.from_residual.result c.from_residual.ensures.0 (Stopped-longer (cell_text_of c.args.cell.now) c.in_err-write_whole.ensures)

pub returns-in-Null : goal.returns-in-Null
returns-in-Null g c = rw c.in-Null.is (Writes-after _ (codes "null") c.write_whole-in-Null.result c.in_ok-write_whole.ensures c.write_whole-in-Null.ensures)

pub returns-in-Value : goal.returns-in-Value
returns-in-Value g c =
    let wrote = Writes-after _ (numbers_text_of c.as_slice.result.now) c.write_components.result c.in_ok-write_whole.ensures c.write_components.ensures in
    rw c.in-Value.is (rw c.as_slice.ensures.value at wrote)
