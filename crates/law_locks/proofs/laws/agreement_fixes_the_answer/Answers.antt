use Rattle.law_locks.proofs.Answers.{answers_agree}
use Rattle.law_locks.proofs.laws.agreement_fixes_the_answer.Goals as goal

pub returns : goal.returns
returns c = answers_agree
