use Rattle.law_shown.proofs.Consequences.{same_check}
use Rattle.law_shown.proofs.laws.shown_check.Goals as goal

pub returns : goal.returns
returns c = λ types statement holdings checked phase shown other short. same_check types statement holdings checked shown other short phase
