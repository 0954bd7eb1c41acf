use Rattle.ras_course.proofs.Known.{come_at_first}
use Rattle.ras_course.proofs.laws.a_new_course_has_come.Goals as goal

pub returns : goal.returns
returns c = come_at_first
