use Rattle.ras_parse.proofs.Spans.{span_is}
use Rattle.ras_parse.proofs.cursor.Cursor.span.Goals as goal

pub returns-then-start-self : goal.returns-then-start-self
returns-then-start-self c = rw (← c.self.view_is) (span_is c.self.inside.text.now c.self.inside.tokens.now c.args.start c.self.inside.at _ c.if-start-self.true c.self.invariant.within)
