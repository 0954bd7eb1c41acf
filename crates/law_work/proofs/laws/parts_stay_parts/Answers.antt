use Rattle.law_work.proofs.Parts.{part-rewritten}
use Rattle.law_work.proofs.laws.parts_stay_parts.Goals as goal

pub returns : goal.returns
returns c = part-rewritten
