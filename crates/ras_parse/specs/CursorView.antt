-- What a cursor shows, and what it keeps.
use Rattle.std.specs.Prelude.{◌≤◌, length}
use Rattle.std.specs.List.{All}
use Rattle.ras_parse.specs.declared.cursor.Cursor.TheInside.{Inside}
use Rattle.ras_parse.specs.Seen.{tokens_in, StandsIn}
use Rattle.ras_parse.specs.Inputs.{Input}

abbrev pub input_of : Inside → Input
input_of c = record { tokens = tokens_in c.text.now c.tokens.now; at = c.at }

pub record IsCursor (c : Inside) : Type 0 where
  pub within : c.at ≤ length c.tokens.now
  pub stand : All (StandsIn c.text.now) c.tokens.now
