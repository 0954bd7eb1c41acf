use Rattle.std.proofs.Common.{◌++◌}
use Rattle.std.specs.Prelude.{codes}
use Rattle.ras_edges.proofs.Writing.{Writes-failed}
use Rattle.spec_sessions.specs.Report.{cell_text_of}
use Rattle.ras_report.proofs.Rows.{Wrote-next, Stopped-next}
use Rattle.ras_report.proofs.values.write_cells.Goals as goal

pub returns-in_err-write_cell : goal.returns-in_err-write_cell
returns-in_err-write_cell g c =
    Writes-failed c.from_residual.result c.from_residual.ensures.0
    (Stopped-next (λ cell. codes " " ++ cell_text_of cell) c.args.cells.now.cells _ _ c.get.ensures.cell c.loop-place.invariant c.in_err-write_cell.ensures)

pub loop-place-preserved : goal.loop-place-preserved
loop-place-preserved g c =
    Wrote-next (λ cell. codes " " ++ cell_text_of cell) c.args.cells.now.cells c.loop-place.place _ c.get.ensures.cell c.loop-place.invariant c.in_ok-write_cell.ensures
