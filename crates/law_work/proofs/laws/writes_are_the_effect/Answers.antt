use Rattle.law_work.proofs.Effects.{effect-replies, effect-rewrites}
use Rattle.law_work.proofs.laws.writes_are_the_effect.Goals as goal

pub returns : goal.returns
returns c = record { effect = effect-rewrites; reply = effect-replies }
