use Rattle.ras_settings.proofs.Meanings.{means_one}
use Rattle.ras_settings.proofs.laws.words_mean_one_thing.Goals as goal

pub returns : goal.returns
returns c = means_one
