use Rattle.law_views.proofs.Seen.{seen_check}
use Rattle.law_views.proofs.laws.views_fix_the_check.Goals as goal

pub returns : goal.returns
returns c = seen_check
