use Rattle.std.proofs.Common.{refl, arith}
use Rattle.spec_grammar.specs.Verdict.{IsVerdict}
use Rattle.spec_grammar.proofs.Readings.{drop_G}
use Rattle.spec_grammar.proofs.worked_texts.dropping_is_a_statement.Goals as goal

pub returns-clause-statement : goal.returns-clause-statement
returns-clause-statement c = drop_G

pub returns-clause-verdict : goal.returns-clause-verdict
returns-clause-verdict c = IsVerdict.statement _ refl drop_G (omega arith)
