use Rattle.ras_rows.proofs.Named.{passing-named}
use Rattle.ras_rows.proofs.laws.passing_rows_are_found_by_identifiers.Goals as goal

pub returns : goal.returns
returns c = passing-named
