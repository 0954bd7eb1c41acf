use Rattle.ras_parse.proofs.Spans.{front_is}
use Rattle.ras_parse.proofs.cursor.Cursor.peek.Goals as goal

pub returns-then-self-clause-token : goal.returns-then-self-clause-token
returns-then-self-clause-token c = rw (← c.self.view_is) (front_is c.self.inside.text.now c.self.inside.tokens.now c.self.inside.at _ c.if-self.true)
