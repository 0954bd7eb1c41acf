use Rattle.law_views.proofs.Room.{answers-few, has_room}
use Rattle.law_views.proofs.laws.answers_are_few.Goals as goal

pub returns-clause-few : goal.returns-clause-few
returns-clause-few c = answers-few

pub returns-clause-room : goal.returns-clause-room
returns-clause-room c = has_room
