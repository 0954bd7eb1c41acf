use Rattle.std.proofs.Common.{sym, subst}
use Rattle.law_grammar.specs.VerdictOf.{verdict_of}
use Rattle.law_grammar.proofs.EachVerdict.{verdict_of-is}
use Rattle.spec_grammar.specs.Verdict.{IsVerdict}
use Rattle.ras_session.proofs.reading.statement_of.Goals as goal

pub returns : goal.returns
returns c =
    c.parse_statement.ensures.only (verdict_of c.args.text.now)
    (subst (λ t. IsVerdict t (verdict_of c.args.text.now)) (sym c.bytes-bytes.ensures) (verdict_of-is c.args.text.now))
