use Rattle.spec_grammar.proofs.Nesting.{IsLevel-IsAt}
use Rattle.spec_grammar.proofs.laws.productions_hold_at_any_depth.Goals as goal

pub returns : goal.returns
returns c = IsLevel-IsAt
