use Rattle.law_effects.proofs.Parents.{parents_named}
use Rattle.law_effects.proofs.laws.tiles_have_their_domains_locked.Goals as goal

pub returns : goal.returns
returns c = parents_named
