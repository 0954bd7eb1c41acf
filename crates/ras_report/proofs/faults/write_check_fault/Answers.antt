use Rattle.std.proofs.Common.{append_assoc, append-nil}
use Rattle.ras_report.proofs.faults.write_check_fault.Goals as goal

pub returns : goal.returns
returns g c = let wrote = c.write_pieces.ensures in simp (append_assoc, append-nil) (simp (append_assoc, append-nil, c.word_of_check_fault.ensures, c.from.ensures, c.from-2.ensures) at wrote)
