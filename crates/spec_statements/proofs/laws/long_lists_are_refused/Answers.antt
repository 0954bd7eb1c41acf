use Rattle.spec_statements.proofs.LongLists.{refused-1, refused-2, refused-3, refused-4}
use Rattle.spec_statements.proofs.laws.long_lists_are_refused.Goals as goal

pub returns-clause-first : goal.returns-clause-first
returns-clause-first c = refused-1

pub returns-clause-second : goal.returns-clause-second
returns-clause-second c = refused-2

pub returns-clause-third : goal.returns-clause-third
returns-clause-third c = refused-3

pub returns-clause-fourth : goal.returns-clause-fourth
returns-clause-fourth c = refused-4
