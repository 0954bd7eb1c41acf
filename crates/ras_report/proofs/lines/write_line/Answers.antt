use Rattle.std.proofs.Common.{◌≡◌, ap}
use Rattle.std.specs.Prelude.{codes, decimal}
use Rattle.ras_edges.proofs.Writing.{Wrote-more, Stopped-later, Stopped-longer, Writes-failed}
use Rattle.spec_sessions.specs.Report.{line_reply_text}
use Rattle.spec_sessions.specs.Walk.{Line}
use Rattle.ras_report.proofs.Parts.{Stopped-as, Writes-as, line-parts}
use Rattle.ras_report.proofs.lines.write_line.Goals as goal

pub returns-in_err-write_pieces : goal.returns-in_err-write_pieces
returns-in_err-write_pieces g c =
    let line = c.args.line.now in
    let answer = line_reply_text c.args.scripts.now c.args.history.now line line.reply in
    let statement : c.line.inside.statement ≡ line.statement = ap (λ (l : Line). l.statement) c.line.view_is in
    let transaction : c.line.inside.transaction ≡ line.transaction = ap (λ (l : Line). l.transaction) c.line.view_is in
    let stopped = Stopped-longer (codes "\n") (Stopped-longer answer c.in_err-write_pieces.ensures) in
    Writes-failed c.from_residual.result c.from_residual.ensures.0
    (Stopped-as _ _ (line-parts (decimal line.statement) (codes " ") (decimal line.transaction) (codes " ") answer (codes "\n"))
    (rw (c.from.ensures, c.from-2.ensures, statement, transaction) at stopped))

pub returns-in_err-write_line_answer : goal.returns-in_err-write_line_answer
returns-in_err-write_line_answer g c =
    let line = c.args.line.now in
    let answer = line_reply_text c.args.scripts.now c.args.history.now line line.reply in
    let statement : c.line.inside.statement ≡ line.statement = ap (λ (l : Line). l.statement) c.line.view_is in
    let transaction : c.line.inside.transaction ≡ line.transaction = ap (λ (l : Line). l.transaction) c.line.view_is in
    let stopped = Stopped-longer (codes "\n") (Stopped-later c.in_ok-write_pieces.ensures c.in_err-write_line_answer.ensures) in
    Writes-failed c.from_residual-in_err-write_line_answer.result c.from_residual-in_err-write_line_answer.ensures.0
    (Stopped-as _ _ (line-parts (decimal line.statement) (codes " ") (decimal line.transaction) (codes " ") answer (codes "\n"))
    (rw (c.from.ensures, c.from-2.ensures, statement, transaction) at stopped))

pub returns : goal.returns
returns g c =
    let line = c.args.line.now in
    let answer = line_reply_text c.args.scripts.now c.args.history.now line line.reply in
    let statement : c.line.inside.statement ≡ line.statement = ap (λ (l : Line). l.statement) c.line.view_is in
    let transaction : c.line.inside.transaction ≡ line.transaction = ap (λ (l : Line). l.transaction) c.line.view_is in
    let wrote = Wrote-more c.in_ok-write_pieces.ensures c.in_ok-write_line_answer.ensures in
    Writes-as _ _ (codes "\n") _ c.write_whole.result
    (line-parts (decimal line.statement) (codes " ") (decimal line.transaction) (codes " ") answer (codes "\n"))
    (rw (c.from.ensures, c.from-2.ensures, statement, transaction) at wrote) c.write_whole.ensures
