use Rattle.test_report.proofs.reports.reported.Goals as goal

pub write_report-result-requires : goal.write_report-result-requires
write_report-result-requires c = record { once = c.may_be_reported.ensures c.if-may_be_reported.true }
