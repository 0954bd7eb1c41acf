use Rattle.law_shown.proofs.Consequences.{same_answers, same_early}
use Rattle.law_shown.proofs.laws.shown_answers.Goals as goal

pub returns-clause-answers : goal.returns-clause-answers
returns-clause-answers c = same_answers

pub returns-clause-early : goal.returns-clause-early
returns-clause-early c = λ types statement holdings checked phase shown other short. same_early types statement holdings checked shown other short phase
