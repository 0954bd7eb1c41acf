use Rattle.law_effects.proofs.Identifiers.{machine-up_to}
use Rattle.law_effects.proofs.laws.identifiers_of_runs.Goals as goal

pub returns : goal.returns
returns c = machine-up_to
