use Rattle.std.proofs.Common.{refl}
use Rattle.spec_statements.specs.CheckStatement.{scope_of}
use Rattle.ras_check.proofs.Statements.{condition-checked}
use Rattle.ras_check.proofs.parts.condition_over.Goals as goal

pub returns : goal.returns
returns c = rw c.in-Some.is (condition-checked c.in-Some.test (scope_of c.args.sources.now) c.body_over-test.ensures c.given.ensures)

pub returns-in_default : goal.returns-in_default
returns-in_default c = rw c.in_default.is (record { tells = refl })
