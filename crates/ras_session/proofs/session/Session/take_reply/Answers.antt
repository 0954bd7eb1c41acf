use Rattle.std.proofs.Common.{subst}
use Rattle.std.proofs.lemmas.Result.{on_ok_weaker}
use Rattle.ras_session.specs.Served.{IsServed}
use Rattle.ras_session.proofs.Stepped.{aborted_steps, begun_steps, committed_steps, finished_steps, granted_steps, refused_steps}
use Rattle.ras_session.proofs.session.Session.take_reply.Goals as goal

pub returns-in-Begun-clause-stepped : goal.returns-in-Begun-clause-stepped
returns-in-Begun-clause-stepped c = λ programs script old new steps request are earlier later is served.
    on_ok_weaker c.go_on_anew.result
    (begun_steps programs script old new steps c.args.self.now c.go_on_anew.new.self are earlier later c.in-Begun.t request is
    (subst (λ r. IsServed old new request r) c.in-Begun.is served))
    c.go_on_anew.ensures.gone

pub returns-in-Granted-clause-stepped : goal.returns-in-Granted-clause-stepped
returns-in-Granted-clause-stepped c = λ programs script old new steps request are earlier later is served.
    on_ok_weaker c.take_granted.result
    (granted_steps programs script old new steps c.args.self.now c.take_granted.new.self are earlier later c.in-Granted.piece request is
    (subst (λ r. IsServed old new request r) c.in-Granted.is served))
    c.take_granted.ensures.gone

pub returns-in-Refused-clause-stepped : goal.returns-in-Refused-clause-stepped
returns-in-Refused-clause-stepped c = λ programs script old new steps request are earlier later is served.
    on_ok_weaker c.go_on_by.result
    (refused_steps programs script old new steps c.args.self.now c.go_on_by.new.self are earlier later request is
    (subst (λ r. IsServed old new request r) c.in-Refused.is served))
    c.go_on_by.ensures.gone

pub returns-in-Finished-clause-stepped : goal.returns-in-Finished-clause-stepped
returns-in-Finished-clause-stepped c = λ programs script old new steps request are earlier later is served.
    on_ok_weaker c.go_on_by-in-Finished.result
    (finished_steps programs script old new steps c.args.self.now c.go_on_by-in-Finished.new.self are earlier later request is
    (subst (λ r. IsServed old new request r) c.in-Finished.is served))
    c.go_on_by-in-Finished.ensures.gone

pub returns-in-Committed-clause-stepped : goal.returns-in-Committed-clause-stepped
returns-in-Committed-clause-stepped c = λ programs script old new steps request are earlier later is served.
    on_ok_weaker c.go_on_anew-in-Committed.result
    (committed_steps programs script old new steps c.args.self.now c.go_on_anew-in-Committed.new.self are earlier later c.in-Committed.n request is
    (subst (λ r. IsServed old new request r) c.in-Committed.is served))
    c.go_on_anew-in-Committed.ensures.gone

pub returns-in-Aborted-clause-stepped : goal.returns-in-Aborted-clause-stepped
returns-in-Aborted-clause-stepped c = λ programs script old new steps request are earlier later is served.
    on_ok_weaker c.go_on_anew-in-Aborted.result
    (aborted_steps programs script old new steps c.args.self.now c.go_on_anew-in-Aborted.new.self are earlier later request is
    (subst (λ r. IsServed old new request r) c.in-Aborted.is served))
    c.go_on_anew-in-Aborted.ensures.gone
