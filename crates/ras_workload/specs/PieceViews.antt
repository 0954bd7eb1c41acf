-- The pieces of the code, as those of the definitions.
use Rattle.std.specs.Prelude.{◌+◌, ◌-◌, ◌<◌, ◌≤◌, ◌^◌, drop, length}
use Rattle.spec_workloads.specs.Sections as spec
use Rattle.ras_workload.specs.declared.piece.Piece.{Piece}
use Rattle.ras_workload.specs.declared.pieces.Pieces.TheInside.{Inside}
use Rattle.ras_workload.specs.Pieces.{pieces_on}

abbrev pub piece_seen : Piece → spec.Piece
piece_seen p = record { line = p.line; text = p.text.now }

abbrev pub pieces_in : Inside → spec.Pieces
pieces_in p = pieces_on p.line (drop p.at p.body.now)

-- lines and places stay numbers of 64 bits
pub record ArePieces (p : Inside) : Type 0 where
  pub within : p.at ≤ length p.body.now
  pub few : p.line + (length p.body.now - p.at) < 2 ^ 34
  pub short : length p.body.now < 2 ^ 32
