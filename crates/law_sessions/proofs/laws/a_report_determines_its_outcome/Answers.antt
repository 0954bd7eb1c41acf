use Rattle.law_sessions.proofs.ReportTexts.{report-determines}
use Rattle.law_sessions.proofs.laws.a_report_determines_its_outcome.Goals as goal

pub returns : goal.returns
returns c = report-determines
