use Rattle.law_views.proofs.Fixed.{databases_fixed}
use Rattle.law_views.proofs.laws.holdings_fix_databases.Goals as goal

pub returns : goal.returns
returns c = databases_fixed
