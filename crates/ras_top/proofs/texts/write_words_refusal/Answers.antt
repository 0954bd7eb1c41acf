use Rattle.ras_top.proofs.texts.write_words_refusal.Goals as goal

pub returns-in-BadSchedule : goal.returns-in-BadSchedule
returns-in-BadSchedule g c = rw c.in-BadSchedule.is (rw c.from.ensures at c.write_pieces.ensures)
