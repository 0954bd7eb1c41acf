use Rattle.law_tables.proofs.Blocks.{to_block, from_block}
use Rattle.law_tables.proofs.laws.a_conflict_is_a_block.Goals as goal

pub returns-clause-blocked : goal.returns-clause-blocked
returns-clause-blocked c = to_block

pub returns-clause-contested : goal.returns-clause-contested
returns-clause-contested c = from_block
