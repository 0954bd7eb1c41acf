use Rattle.law_shown.proofs.Consequences.{same_passing}
use Rattle.law_shown.proofs.laws.shown_passing.Goals as goal

pub returns : goal.returns
returns c = same_passing
