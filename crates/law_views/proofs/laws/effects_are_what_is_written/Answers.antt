use Rattle.law_views.proofs.Applied.{effect_as_written}
use Rattle.law_views.proofs.laws.effects_are_what_is_written.Goals as goal

pub returns : goal.returns
returns c = effect_as_written
