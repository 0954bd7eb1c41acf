use Rattle.ras_domain.proofs.PointSets.{IsMeeting-meet_of}
use Rattle.ras_domain.proofs.laws.meeting_has_the_points_in_both.Goals as goal

pub returns : goal.returns
returns c = IsMeeting-meet_of
