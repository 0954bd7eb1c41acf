use Rattle.std.proofs.Common.{append_assoc, append-nil}
use Rattle.std.specs.Prelude.{codes}
use Rattle.ras_edges.proofs.Writing.{Wrote-more, Stopped-later, Stopped-longer, Writes-failed, Writes-after}
use Rattle.ras_setup.specs.Found.{setup_fault_seen}
use Rattle.spec_workloads.specs.Answers.{setup_fault_text}
use Rattle.ras_commands.proofs.refusal.write_setup_failed.Goals as goal

pub returns-in_err-write_pieces : goal.returns-in_err-write_pieces
returns-in_err-write_pieces g c =
    let stopped = Stopped-longer (codes "\n") (Stopped-longer (setup_fault_text (setup_fault_seen c.args.fault.now)) c.in_err-write_pieces.ensures) in
    Writes-failed c.from_residual.result c.from_residual.ensures.0
    (simp (append_assoc, append-nil) (simp (append_assoc, append-nil, c.from.ensures) at stopped))

pub returns-in_err-write_setup_fault : goal.returns-in_err-write_setup_fault
returns-in_err-write_setup_fault g c =
    let stopped = Stopped-longer (codes "\n") (Stopped-later c.in_ok-write_pieces.ensures c.in_err-write_setup_fault.ensures) in
    Writes-failed c.from_residual-in_err-write_setup_fault.result c.from_residual-in_err-write_setup_fault.ensures.0
    (simp (append_assoc, append-nil) (simp (append_assoc, append-nil, c.from.ensures) at stopped))

pub returns : goal.returns
returns g c =
    let wrote = Writes-after _ (codes "\n") c.write_whole.result (Wrote-more c.in_ok-write_pieces.ensures c.in_ok-write_setup_fault.ensures) c.write_whole.ensures in
    simp (append_assoc, append-nil) (simp (append_assoc, append-nil, c.from.ensures) at wrote)
