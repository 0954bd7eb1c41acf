use Rattle.std.proofs.Common.{append_assoc, append-nil}
use Rattle.std.specs.Prelude.{codes}
use Rattle.ras_edges.proofs.Writing.{Wrote-more, Stopped-later, Stopped-longer, Writes-failed, Writes-after}
use Rattle.ras_commands.specs.Texts.{check_word}
use Rattle.ras_commands.proofs.write.write_line.Goals as goal

pub returns-in_err-write_pieces : goal.returns-in_err-write_pieces
returns-in_err-write_pieces g c =
    let stopped = Stopped-longer (codes "\n") (Stopped-longer (check_word c.args.check.now) c.in_err-write_pieces.ensures) in
    Writes-failed c.from_residual.result c.from_residual.ensures.0 (simp append-nil (simp (append_assoc, append-nil) at stopped))

pub returns-in_err-write_check : goal.returns-in_err-write_check
returns-in_err-write_check g c =
    let stopped = Stopped-longer (codes "\n") (Stopped-later c.in_ok-write_pieces.ensures c.in_err-write_check.ensures) in
    Writes-failed c.from_residual-in_err-write_check.result c.from_residual-in_err-write_check.ensures.0
    (simp append-nil (simp (append_assoc, append-nil) at stopped))

pub returns : goal.returns
returns g c =
    let wrote = Writes-after _ (codes "\n") c.write_whole.result (Wrote-more c.in_ok-write_pieces.ensures c.in_ok-write_check.ensures) c.write_whole.ensures in
    simp append-nil (simp (append_assoc, append-nil) at wrote)
