use Rattle.ras_course.proofs.Known.{known_over}
use Rattle.ras_course.proofs.laws.what_is_known_holds_of_all_that_is_seen.Goals as goal

pub returns : goal.returns
returns c = λ types statement view next checked rows one other setting seen also known.
    known_over types statement view next one other setting seen also known.short checked rows known
