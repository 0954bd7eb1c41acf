use Rattle.law_views.proofs.Seen.{before_parents}
use Rattle.law_views.proofs.laws.earlier_lists_have_parents.Goals as goal

pub returns : goal.returns
returns c = before_parents
