use Rattle.spec_statements.proofs.Effects.{effect_of-select}
use Rattle.spec_statements.proofs.laws.selects_have_no_effect.Goals as goal

pub returns : goal.returns
returns c = effect_of-select
