use Rattle.std.proofs.Common.{◌++◌}
use Rattle.std.proofs.lemmas.List.{length-map}
use Rattle.std.proofs.lemmas.List.Folds.{flat_map-map}
use Rattle.std.specs.Prelude.{codes}
use Rattle.spec_sessions.specs.Report.{row_text_of}
use Rattle.spec_statements.specs.Reply.{row_reply_of}
use Rattle.ras_report.proofs.answers.write_answer.Goals as goal

pub returns-in-Value : goal.returns-in-Value
returns-in-Value g c =
    rw (c.in-Value.is, length-map c.in-Value.rows row_reply_of, flat_map-map (λ row. codes "\nrow " ++ row_text_of row) row_reply_of c.in-Value.rows) c.write_value.ensures
