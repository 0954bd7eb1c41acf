use Rattle.law_sessions.proofs.Begins.{few-begins}
use Rattle.law_sessions.proofs.laws.sessions_begin_few_transactions.Goals as goal

pub returns : goal.returns
returns c = few-begins
