use Rattle.law_grammar.specs.VerdictOf.{verdict_of}
use Rattle.law_grammar.proofs.EachVerdict.{verdict_of-is}
use Rattle.law_grammar.proofs.laws.every_text_has_a_verdict.Goals as goal

pub returns-clause-some : goal.returns-clause-some
returns-clause-some c = λ text. (verdict_of text, verdict_of-is text)

pub returns-clause-computed : goal.returns-clause-computed
returns-clause-computed c = verdict_of-is
