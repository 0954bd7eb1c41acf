use Rattle.law_tables.proofs.Blocks.{empty_table}
use Rattle.law_tables.proofs.laws.the_empty_table_is_of_no_history.Goals as goal

pub returns : goal.returns
returns c = empty_table
