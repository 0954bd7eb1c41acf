use Rattle.std.proofs.Common.{◌≡◌, sym, ◌∙◌, ap}
use Rattle.std.specs.Prelude.{find, Some, None}
use Rattle.ras_edges.proofs.Writing.{Wrote-none}
use Rattle.ras_outcome.specs.Replies.{line_reply_of}
use Rattle.spec_sessions.specs.Report.{answers_statement}
use Rattle.spec_sessions.specs.Walk.{Line, recorded}
use Rattle.ras_report.proofs.lines.write_line_answer.Goals as goal

pub returns-in-Some : goal.returns-in-Some
returns-in-Some g c =
    let line = c.args.line.now in
    let statement : c.line.inside.statement ≡ line.statement = ap (λ (l : Line). l.statement) c.line.view_is in
    let transaction : c.line.inside.transaction ≡ line.transaction = ap (λ (l : Line). l.transaction) c.line.view_is in
    let reply : line.reply ≡ recorded = sym (ap (λ (l : Line). l.reply) c.line.view_is) ∙ ap line_reply_of c.in-Recorded.is in
    let found : find (answers_statement line.transaction line.statement) c.args.history.now ≡ Some c.in-Some.event.now =
    rw (← transaction, ← statement) c.in-Some.ensures in
    rw (reply, found) c.write_event_answer.ensures

pub returns-in-None : goal.returns-in-None
returns-in-None g c =
    let line = c.args.line.now in
    let statement : c.line.inside.statement ≡ line.statement = ap (λ (l : Line). l.statement) c.line.view_is in
    let transaction : c.line.inside.transaction ≡ line.transaction = ap (λ (l : Line). l.transaction) c.line.view_is in
    let reply : line.reply ≡ recorded = sym (ap (λ (l : Line). l.reply) c.line.view_is) ∙ ap line_reply_of c.in-Recorded.is in
    let none : find (answers_statement line.transaction line.statement) c.args.history.now ≡ None = rw (← transaction, ← statement) c.in-None.ensures in
    rw (reply, none) (Wrote-none c.args.sink.now)
