use Rattle.law_effects.proofs.Valid.{machine-valid}
use Rattle.law_effects.proofs.laws.runs_keep_validity.Goals as goal

pub returns : goal.returns
returns c = machine-valid
