use Rattle.law_work.proofs.Parts.{view-rewritten}
use Rattle.law_work.proofs.laws.views_are_rewritten.Goals as goal

pub returns : goal.returns
returns c = view-rewritten
