use Rattle.std.proofs.Common.{ap, length, sym, ◌∙◌}
use Rattle.ras_core.specs.States.{CoreState}
use Rattle.ras_store.specs.Store.{store_kept}
use Rattle.ras_store.specs.declared.workload.Workload.{Workload}
use Rattle.ras_server.proofs.Follows.{follows_first}
use Rattle.ras_server.proofs.running.Running.new.Goals as goal

pub new-core-requires : goal.new-core-requires
new-core-requires c = λ name. c.in_ok-store.ensures name ∙ ap (λ (w : Workload). store_kept w.base name) c.deref.ensures

pub returns-clause-follows : goal.returns-clause-follows
returns-clause-follows c =
    follows_first record { core = c.new-core.result; sessions = c.in_ok-sessions.sessions } (ap (λ (s : CoreState). s.history) c.new-core.ensures)
    c.events-events.ensures.run
    (c.in_ok-sessions.ensures.0 ∙ ap length c.as_slice.ensures
    ∙ ap (λ (w : Workload). length w.scripts) (c.deref-2.ensures ∙ sym (ap (λ (s : CoreState). s.workload) c.new-core.ensures)))
    c.in_ok-sessions.ensures.1
