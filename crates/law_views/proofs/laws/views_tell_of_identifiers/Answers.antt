use Rattle.law_views.proofs.Seen.{setting_of_view}
use Rattle.law_views.proofs.laws.views_tell_of_identifiers.Goals as goal

pub returns : goal.returns
returns c = setting_of_view
