use Rattle.law_effects.proofs.Identifiers.{left_by-up_to}
use Rattle.law_effects.proofs.laws.identifiers_grow_by_one.Goals as goal

pub returns : goal.returns
returns c = left_by-up_to
