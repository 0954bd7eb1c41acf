use Rattle.ras_edges.proofs.Writing.{Stopped-in, Writes-failed}
use Rattle.ras_edges.specs.Piece.{piece_text}
use Rattle.ras_edges.proofs.piece.write_pieces.Goals as goal

pub returns-in_err-write_piece : goal.returns-in_err-write_piece
returns-in_err-write_piece g c =
    Writes-failed c.from_residual.result c.from_residual.ensures.0 (Stopped-in piece_text _ _ _ c.loop-piece-test.true c.loop-piece.invariant c.in_err-write_piece.ensures)
