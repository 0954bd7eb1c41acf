use Rattle.ras_top.proofs.answer.write_answer.Goals as goal

pub write_report-requires : goal.write_report-requires
write_report-requires g c = record { once = rw c.in-Report.is at c.requires }

pub returns-in-ReadFailed : goal.returns-in-ReadFailed
returns-in-ReadFailed g c = rw c.in-ReadFailed.is c.write_whole-in-ReadFailed.ensures
