use Rattle.std.proofs.Common.{ap, map, string_bytes}
use Rattle.ras_top.specs.Call.{Call, call_of}
use Rattle.ras_top.proofs.Answered.{answered-cut, answered-whole}
use Rattle.ras_top.proofs.run.rasq_quiet.Goals as goal

pub returns-in-Ok-clause-answered : goal.returns-in-Ok-clause-answered
returns-in-Ok-clause-answered g c =
    let sent = c.in-Ok.ensures in
    let due = c.judge-answer.ensures.due in
    let call : Call = call_of g.S.Source.left g.S.Source.faults g.K.Sink.taken g.K.Sink.flushed g.K.Sink.faults (map string_bytes c.args.words.now)
    c.args.source.now c.judge-answer.new.source c.args.sink.now c.send.new.sink in
    rw (c.status.ensures, due.says.status)
    (answered-whole call
    (λ fault asked. let same = c.judge-answer.ensures.unread fault asked in (ap g.S.Source.left same, ap g.S.Source.faults same))
    c.judge-answer.ensures.faults_stay sent.0.faults_stay due.said due.due (rw due.says.text at sent.0.appended, sent.1))

pub returns-clause-answered : goal.returns-clause-answered
returns-clause-answered g c =
    let stopped = c.in-Err.ensures in
    let due = c.judge-answer.ensures.due in
    let call : Call = call_of g.S.Source.left g.S.Source.faults g.K.Sink.taken g.K.Sink.flushed g.K.Sink.faults (map string_bytes c.args.words.now)
    c.args.source.now c.judge-answer.new.source c.args.sink.now c.send.new.sink in
    answered-cut call
    (λ fault asked. let same = c.judge-answer.ensures.unread fault asked in (ap g.S.Source.left same, ap g.S.Source.faults same))
    c.judge-answer.ensures.faults_stay stopped.faults_stay due.said due.due
    (stopped.front, stopped.rest, rw due.says.text at stopped.parts, stopped.appended) stopped.rose
