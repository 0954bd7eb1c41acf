use Rattle.law_views.proofs.Seen.{same_before, seen_lists, seen_needs}
use Rattle.law_views.proofs.laws.views_fix_the_lists.Goals as goal

pub returns-clause-same : goal.returns-clause-same
returns-clause-same c = same_before

pub returns-clause-earlier : goal.returns-clause-earlier
returns-clause-earlier c = seen_lists

pub returns-clause-needs : goal.returns-clause-needs
returns-clause-needs c = seen_needs
