use Rattle.law_work.proofs.Replaced.{all-replaced}
use Rattle.law_work.proofs.laws.changes_are_their_replacements.Goals as goal

pub returns : goal.returns
returns c = all-replaced
