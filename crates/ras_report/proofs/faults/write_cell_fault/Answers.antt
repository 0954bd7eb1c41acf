use Rattle.std.specs.Prelude.{codes, decimal}
use Rattle.ras_edges.proofs.Writing.{Stopped-longer, Writes-failed}
use Rattle.spec_workloads.specs.Answers.{point_text_of}
use Rattle.ras_report.proofs.Parts.{Stopped-as, Writes-as, after-five}
use Rattle.ras_report.proofs.faults.write_cell_fault.Goals as goal

pub returns-in_err-write_pieces : goal.returns-in_err-write_pieces
returns-in_err-write_pieces g c =
    let point = point_text_of c.args.point.now in
    let kind = c.word_of_cell_fault.result.now in
    let stopped = Stopped-longer point c.in_err-write_pieces.ensures in
    Writes-failed c.from_residual.result c.from_residual.ensures.0
    (rw (← c.word_of_cell_fault.ensures)
    (Stopped-as _ _ (after-five (codes "fault ") kind (codes " row ") (decimal c.args.row) (codes " at ") point) stopped))

pub returns : goal.returns
returns g c =
    let point = point_text_of c.args.point.now in
    let kind = c.word_of_cell_fault.result.now in
    rw (← c.word_of_cell_fault.ensures)
    (Writes-as _ _ point _ c.write_point.result (after-five (codes "fault ") kind (codes " row ") (decimal c.args.row) (codes " at ") point)
    c.in_ok-write_pieces.ensures c.write_point.ensures)
