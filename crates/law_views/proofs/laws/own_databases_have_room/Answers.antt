use Rattle.law_views.proofs.Events.{own_setting}
use Rattle.law_views.proofs.laws.own_databases_have_room.Goals as goal

pub returns : goal.returns
returns c = own_setting
