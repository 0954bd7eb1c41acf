use Rattle.spec_grammar.proofs.Statements.{inserted, updated, selected}
use Rattle.spec_grammar.proofs.worked_texts.whole_statements_are_read.Goals as goal

pub returns-clause-insert : goal.returns-clause-insert
returns-clause-insert c = inserted

pub returns-clause-update : goal.returns-clause-update
returns-clause-update c = updated

pub returns-clause-select : goal.returns-clause-select
returns-clause-select c = selected
