use Rattle.law_views.proofs.Standing.{stands_agree}
use Rattle.law_views.proofs.laws.holdings_fix_what_is_shown.Goals as goal

pub returns : goal.returns
returns c = stands_agree
