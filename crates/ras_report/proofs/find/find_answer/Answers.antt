use Rattle.std.specs.Prelude.{None}
use Rattle.spec_sessions.specs.Report.{answers_statement}
use Rattle.ras_report.proofs.Found.{found_from, found_to, found_at}
use Rattle.ras_report.proofs.find.find_answer.Goals as goal

pub returns-in-Some : goal.returns-in-Some
returns-in-Some c =
    found_from (answers_statement c.args.t c.args.statement) c.args.history.now c.min-from.result c.in-Some.place c.index-history-from.result
    (c.requires.once c.args.t c.args.statement) c.in-Some.ensures.0 c.in-Some.ensures.1 c.index-history-from.is

pub returns-in-Some-place_of_answer : goal.returns-in-Some-place_of_answer
returns-in-Some-place_of_answer c =
    found_at (answers_statement c.args.t c.args.statement) c.args.history.now c.min-from.result c.in-Some-place_of_answer.place c.index-history-place.result
    c.in-None.ensures c.in-Some-place_of_answer.ensures.0 c.in-Some-place_of_answer.ensures.1 c.index-history-place.is

pub returns-in-None-place_of_answer : goal.returns-in-None-place_of_answer
returns-in-None-place_of_answer c =
    found_to (answers_statement c.args.t c.args.statement) c.args.history.now c.min-from.result None c.in-None.ensures c.in-None-place_of_answer.ensures
