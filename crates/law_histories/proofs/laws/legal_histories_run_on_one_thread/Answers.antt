use Rattle.law_histories.proofs.Serializable.{legal_answers, legal_last}
use Rattle.law_histories.proofs.laws.legal_histories_run_on_one_thread.Goals as goal

pub returns-clause-answers : goal.returns-clause-answers
returns-clause-answers c = legal_answers

pub returns-clause-last : goal.returns-clause-last
returns-clause-last c = legal_last
