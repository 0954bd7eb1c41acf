use Rattle.std.proofs.Common.{append_assoc, append-nil}
use Rattle.ras_report.proofs.events.write_begun.Goals as goal

pub returns : goal.returns
returns g c = let wrote = c.write_pieces.ensures in simp (append_assoc, append-nil) (simp (append_assoc, append-nil, c.from.ensures, c.from-2.ensures, c.from-3.ensures) at wrote)
