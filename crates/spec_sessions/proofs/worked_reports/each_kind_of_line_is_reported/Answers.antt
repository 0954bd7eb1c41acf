use Rattle.std.proofs.Common.{refl}
use Rattle.std.specs.Fmt.{digits}
use Rattle.spec_sessions.proofs.worked_reports.each_kind_of_line_is_reported.Goals as goal

pub returns : goal.returns
unfolding digits
returns c = record { lines = refl }
