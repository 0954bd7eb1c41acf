use Rattle.std.proofs.Common.{subst}
use Rattle.ras_session.specs.Steps.{IsCourseOn}
use Rattle.ras_session.proofs.Places.{answers_now, asks_next, writes_now}
use Rattle.ras_session.proofs.Ties.{if_ok}
use Rattle.ras_session.proofs.session.Session.prepare_data.Goals as goal

pub returns-in-Asks-clause-prepared : goal.returns-in-Asks-clause-prepared
returns-in-Asks-clause-prepared g c =
    asks_next c.args.workload.now c.args.t c.args.self.now c.go_on.new.self c.in-Asks.phase c.in-Asks.list
    (subst (λ coming. IsCourseOn c.args.workload.now.types c.args.self.now c.go_on.new.self coming) c.in-Asks.is c.go_on.ensures)

pub returns-in-Answers-clause-prepared : goal.returns-in-Answers-clause-prepared
returns-in-Answers-clause-prepared g c =
    answers_now c.args.workload.now c.args.t c.args.self.now c.go_on.new.self c.in-Answers.answer c.is_good-self.result
    (subst (λ coming. IsCourseOn c.args.workload.now.types c.args.self.now c.go_on.new.self coming) c.in-Answers.is c.go_on.ensures) c.is_good-self.ensures

pub returns-in-Writes-clause-prepared : goal.returns-in-Writes-clause-prepared
returns-in-Writes-clause-prepared g c =
    if_ok c.write.result _ _
    (λ request. writes_now c.args.workload.now c.args.t c.args.self.now c.go_on.new.self c.write.new.self c.in-Writes.computed request
    (subst (λ coming. IsCourseOn c.args.workload.now.types c.args.self.now c.go_on.new.self coming) c.in-Writes.is c.go_on.ensures))
    c.write.ensures.written
