use Rattle.std.proofs.Common.{Ok, Err}
use Rattle.law_grammar.proofs.EachVerdict.{one_verdict}
use Rattle.ras_parse.proofs.Told.{front-answered}
use Rattle.ras_parse.proofs.statement.parse_statement.Goals as goal

pub returns-in-Ok-clause-tree : goal.returns-in-Ok-clause-tree
returns-in-Ok-clause-tree c =
    front-answered c.args.text.now c.in_ok-front.front.tokens.items c.deref.result.now c.in_ok-front.front.behind c.in_ok-outcome.outcome
    (Ok c.in-Ok.statement) c.in_ok-front.ensures.front c.deref.ensures.value c.in_ok-outcome.ensures c.in-Ok.ensures

pub returns-in-Ok-clause-only : goal.returns-in-Ok-clause-only
returns-in-Ok-clause-only c = λ verdict is. one_verdict c.args.text.now verdict (Ok c.in-Ok.statement) is
    (front-answered c.args.text.now c.in_ok-front.front.tokens.items c.deref.result.now c.in_ok-front.front.behind c.in_ok-outcome.outcome
    (Ok c.in-Ok.statement) c.in_ok-front.ensures.front c.deref.ensures.value c.in_ok-outcome.ensures c.in-Ok.ensures)

pub returns-clause-fault : goal.returns-clause-fault
returns-clause-fault c =
    front-answered c.args.text.now c.in_ok-front.front.tokens.items c.deref.result.now c.in_ok-front.front.behind c.in_ok-outcome.outcome
    (Err c.in-Err.fault) c.in_ok-front.ensures.front c.deref.ensures.value c.in_ok-outcome.ensures c.in-Err.ensures

pub returns-clause-only : goal.returns-clause-only
returns-clause-only c = λ verdict is. one_verdict c.args.text.now verdict (Err c.in-Err.fault) is
    (front-answered c.args.text.now c.in_ok-front.front.tokens.items c.deref.result.now c.in_ok-front.front.behind c.in_ok-outcome.outcome
    (Err c.in-Err.fault) c.in_ok-front.ensures.front c.deref.ensures.value c.in_ok-outcome.ensures c.in-Err.ensures)
