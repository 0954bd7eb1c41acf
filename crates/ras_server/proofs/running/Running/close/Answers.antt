use Rattle.std.proofs.Common.{reverse, ap, ◌∙◌}
use Rattle.ras_server.proofs.Follows.{run_to}
use Rattle.ras_server.proofs.running.Running.close.Goals as goal

pub returns : goal.returns
returns c = λ schedule drains programs are.
    run_to c.args.self schedule drains record { lines = c.in_ok-answers.answers; history = c.of-history.result } c.in_ok-answers.ensures
    (ap reverse c.of-history.ensures ∙ c.close-store.ensures.events) programs are c.close-store.result.0 c.close-store.ensures.store
