use Rattle.law_effects.proofs.Others.{others_share}
use Rattle.law_effects.proofs.laws.what_others_share_stays.Goals as goal

pub returns : goal.returns
returns c = others_share
