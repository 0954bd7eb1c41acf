use Rattle.std.proofs.Common.{length, refl}
use Rattle.std.proofs.lemmas.Option.{slice_get_read}
use Rattle.ras_server.specs.Turns.{steps_at}
use Rattle.ras_server.proofs.Sessions.{comes_of_turn_if_ok, ready_at}
use Rattle.ras_server.proofs.running.Running.turn.Goals as goal

pub step-requires-clause-ready : goal.step-requires-clause-ready
step-requires-clause-ready g c = λ κs within. (
  steps_at c.args.place c.requires.running.0,
  ready_at c.args.place c.requires.running.0 c.args.self.now c.index_mut.result.now c.requires.running.1
      (slice_get_read c.args.self.now.sessions.items (length c.args.self.now.sessions.items) c.args.place c.index_mut.result.now refl c.requires.place c.index_mut.ensures.value),
)

pub returns : goal.returns
returns g c =
    comes_of_turn_if_ok c.step.result c.args.place c.args.self.now _ c.index_mut.result.now c.step.new.session c.requires.witness
    c.other_sessions_leave_a_session_tied.ensures
    (slice_get_read c.args.self.now.sessions.items (length c.args.self.now.sessions.items) c.args.place c.index_mut.result.now refl c.requires.place c.index_mut.ensures.value)
    refl c.step.ensures
