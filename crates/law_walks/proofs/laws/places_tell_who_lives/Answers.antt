use Rattle.law_walks.proofs.Due.{session_idle, session_lives, session_place}
use Rattle.law_walks.proofs.laws.places_tell_who_lives.Goals as goal

pub returns-clause-live : goal.returns-clause-live
returns-clause-live c = session_lives

pub returns-clause-idle : goal.returns-clause-idle
returns-clause-idle c = session_idle

pub returns-clause-place : goal.returns-clause-place
returns-clause-place c = session_place
