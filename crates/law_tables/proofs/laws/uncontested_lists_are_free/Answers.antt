use Rattle.law_tables.proofs.Blocks.{free_from, uncontested_from}
use Rattle.law_tables.proofs.laws.uncontested_lists_are_free.Goals as goal

pub returns-clause-free : goal.returns-clause-free
returns-clause-free c = free_from

pub returns-clause-uncontested : goal.returns-clause-uncontested
returns-clause-uncontested c = uncontested_from
