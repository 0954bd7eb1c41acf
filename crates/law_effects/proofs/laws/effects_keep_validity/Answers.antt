use Rattle.law_effects.proofs.Valid.{left_by-valid}
use Rattle.law_effects.proofs.laws.effects_keep_validity.Goals as goal

pub returns : goal.returns
returns c = left_by-valid
