use Rattle.law_histories.proofs.Serializable.{legal_serial}
use Rattle.law_histories.proofs.laws.legal_histories_are_serializable.Goals as goal

pub returns : goal.returns
returns c = legal_serial
