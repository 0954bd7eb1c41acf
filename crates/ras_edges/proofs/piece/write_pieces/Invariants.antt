use Rattle.std.proofs.Common.{take}
use Rattle.std.specs.Prelude.{flat_map}
use Rattle.ras_edges.specs.Piece.{piece_text}
use Rattle.ras_edges.specs.Sink.{Wrote}
use Rattle.ras_edges.proofs.piece.write_pieces.Given as goal

abbrev pub invariant-loop-piece : goal.invariant-loop-piece
invariant-loop-piece g l = Wrote g.K.Sink.taken g.K.Sink.faults l.initial.sink l.sink (flat_map piece_text (take l.piece-index l.pieces))
