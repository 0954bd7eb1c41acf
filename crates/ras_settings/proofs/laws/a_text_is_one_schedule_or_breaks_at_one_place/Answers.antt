use Rattle.ras_settings.proofs.Readings.{same_place, same_turns}
use Rattle.ras_settings.proofs.laws.a_text_is_one_schedule_or_breaks_at_one_place.Goals as goal

pub returns-clause-schedule : goal.returns-clause-schedule
returns-clause-schedule c = same_turns

pub returns-clause-place : goal.returns-clause-place
returns-clause-place c = same_place

pub returns-clause-either : goal.returns-clause-either
returns-clause-either c = λ text turns place is breaks. breaks.no_schedule turns is
