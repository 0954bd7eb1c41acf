use Rattle.std.proofs.Common.{refl}
use Rattle.std.specs.Fmt.{digits}
use Rattle.spec_sessions.proofs.worked_reports.a_refusal_is_reported.Goals as goal

pub returns : goal.returns
unfolding digits
returns c = record { met = refl }
