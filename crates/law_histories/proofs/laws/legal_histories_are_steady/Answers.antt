use Rattle.law_histories.proofs.Serializable.{legal_steady}
use Rattle.law_histories.proofs.laws.legal_histories_are_steady.Goals as goal

pub returns : goal.returns
returns c = legal_steady
