use Rattle.ras_report.proofs.lines.write_event_answer.Goals as goal

pub returns-in-Refused : goal.returns-in-Refused
returns-in-Refused g c = let wrote = c.write_locked.ensures in rw c.in-Refused.is (rw c.session_of.ensures at wrote)
