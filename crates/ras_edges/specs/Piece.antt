-- The text of a piece.
use Rattle.std.specs.Prelude.{ℕ, List, decimal}
use Rattle.std.specs.Fmt.{signed_decimal}
use Rattle.ras_edges.specs.declared.piece.Piece.{Piece}
use Rattle.ras_edges.specs.declared.piece.Piece.TheVariants.{Text, Number, Count}

-- bytes as they are, and numbers in decimal digits
abbrev pub piece_text : Piece → List ℕ
piece_text (Text bytes) = bytes.now
piece_text (Number n) = signed_decimal n.now
piece_text (Count n) = decimal n
