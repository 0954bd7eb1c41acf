use Rattle.law_tables.proofs.Events.{after_grant}
use Rattle.law_tables.proofs.laws.a_grant_is_in_the_table.Goals as goal

pub returns : goal.returns
returns c = after_grant
