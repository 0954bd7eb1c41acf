use Rattle.law_shown.proofs.Consequences.{same_writings}
use Rattle.law_shown.proofs.laws.shown_writings.Goals as goal

pub returns : goal.returns
returns c = same_writings
