use Rattle.law_tables.proofs.Blocks.{uncontested_same}
use Rattle.law_tables.proofs.laws.the_same_holders_conflict_alike.Goals as goal

pub returns : goal.returns
returns c = uncontested_same
