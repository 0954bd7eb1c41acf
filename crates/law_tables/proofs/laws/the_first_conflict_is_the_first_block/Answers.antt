use Rattle.law_tables.proofs.Blocks.{first_block}
use Rattle.law_tables.proofs.laws.the_first_conflict_is_the_first_block.Goals as goal

pub returns : goal.returns
returns c = first_block
