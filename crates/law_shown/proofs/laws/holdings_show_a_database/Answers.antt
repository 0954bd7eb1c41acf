use Rattle.law_shown.proofs.Shows.{shows_a_database}
use Rattle.law_shown.proofs.laws.holdings_show_a_database.Goals as goal

pub returns : goal.returns
returns c = shows_a_database
