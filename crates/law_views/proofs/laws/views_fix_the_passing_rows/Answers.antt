use Rattle.law_views.proofs.Seen.{seen_passing}
use Rattle.law_views.proofs.laws.views_fix_the_passing_rows.Goals as goal

pub returns : goal.returns
returns c = seen_passing
