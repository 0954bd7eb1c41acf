-- The reply to a request that was prepared makes the request's step.
use Rattle.std.proofs.Common.{◌≡◌, ℕ, List, ◌∷◌, sym, ap, subst}
use Rattle.ras_store.specs.declared.piece.Piece.{Piece}
use Rattle.ras_syntax.specs.declared.event.Event.{Event}
use Rattle.ras_syntax.specs.declared.event.Event.TheVariants as events
use Rattle.ras_walk.specs.declared.place.Happened.TheVariants as happened
use Rattle.ras_core.specs.States.{AreProgramsOf, CoreState, FIRST_IDENTIFIERS, IsLegalState}
use Rattle.spec_histories.specs.History.{History, Programs}
use Rattle.spec_histories.specs.Legal.{IsLegal}
use Rattle.spec_sessions.specs.Walk.{ReadScript, Step, made}
use Rattle.ras_session.specs.declared.request.CoreReply.TheVariants as replies
use Rattle.ras_session.specs.declared.request.Request.{Request}
use Rattle.ras_session.specs.declared.request.Request.TheVariants.{Begin, Ask, Finish, GiveUp, Commit, Abort, Local, Ended}
use Rattle.ras_session.specs.declared.session.Session.{Session}
use Rattle.ras_session.specs.Prepared.{IsPreparedRequest, IsStepBy, StepsTo}
use Rattle.ras_session.specs.Replied.{IsGoneOn, IsGoneOnAnew, IsGoneOnWith}
use Rattle.ras_session.specs.Served.{IsServed}
use Rattle.ras_session.specs.Tied.{IsTied}
use Rattle.ras_session.proofs.Replied.{tied_aborted, tied_begun, tied_committed, tied_finished, tied_refused}
use Rattle.ras_session.proofs.Taken.{tied_granted}

module _ (programs : Programs) (script : ReadScript) (old new : CoreState) (steps : List Step) (session after : Session) (are : AreProgramsOf old.workload programs)
    (earlier : IsLegalState programs old) (later : IsLegalState programs new) where
  step_of : (event : Event) → new.history ≡ event ∷ old.history
      → (IsLegal programs (event ∷ old.history) → IsTied programs script (event ∷ old.history) (made event ∷ steps) after)
      → IsStepBy programs script old.history new.history steps after
  step_of event is ties = record {
    event = event;
    history = is;
    tied = subst (λ (h : History). IsTied programs script h (made event ∷ steps) after) (sym is)
        (ties (subst (λ (h : History). IsLegal programs h) is later.legal));
  }

  pub begun_steps : (t : ℕ) (request : Request) → IsPreparedRequest programs script old.history steps session request
      → IsServed old new request (replies.Begun t) → IsGoneOnAnew session after (happened.Begun t)
      → StepsTo programs script old.history new.history steps request after
  begun_steps t (Begin number k) is served gone = step_of (events.Begun t number k) (ap (λ (s : CoreState). s.history) served.state)
      (tied_begun programs script old.history steps session after t number k is gone)
  begun_steps t (Ask u k p list) is served gone = absurd served
  begun_steps t (Finish u k answer) is served gone = absurd served
  begun_steps t (GiveUp u k) is served gone = absurd served
  begun_steps t (Commit u changes) is served gone = absurd served
  begun_steps t (Abort u) is served gone = absurd served
  begun_steps t Local is served gone = absurd served
  begun_steps t Ended is served gone = absurd served

  pub granted_steps : (piece : Piece) (request : Request) → IsPreparedRequest programs script old.history steps session request
      → IsServed old new request (replies.Granted piece) → IsGoneOnWith session after piece
      → StepsTo programs script old.history new.history steps request after
  granted_steps piece (Begin number k) is served gone = absurd served
  granted_steps piece (Ask t k p list) is served gone = step_of (events.Granted t k p list) (ap (λ (s : CoreState). s.history) served.state)
      (tied_granted programs script old.history steps session after t k p list piece old.store FIRST_IDENTIFIERS is gone are.are earlier.room earlier.legal
      earlier.keeps served.piece_under)
  granted_steps piece (Finish u k answer) is served gone = absurd served
  granted_steps piece (GiveUp u k) is served gone = absurd served
  granted_steps piece (Commit u changes) is served gone = absurd served
  granted_steps piece (Abort u) is served gone = absurd served
  granted_steps piece Local is served gone = absurd served
  granted_steps piece Ended is served gone = absurd served

  pub refused_steps : (request : Request) → IsPreparedRequest programs script old.history steps session request → IsServed old new request replies.Refused
      → IsGoneOn session after happened.Refused → StepsTo programs script old.history new.history steps request after
  refused_steps (Begin number k) is served gone = absurd served
  refused_steps (Ask t k p list) is served gone =
      step_of (events.Refused t k p served.lock served.refusal.mode served.holder) (ap (λ (s : CoreState). s.history) served.refusal.state)
      (tied_refused programs script old.history steps session after t k p served.holder list served.lock served.refusal.mode is gone)
  refused_steps (Finish u k answer) is served gone = absurd served
  refused_steps (GiveUp u k) is served gone = absurd served
  refused_steps (Commit u changes) is served gone = absurd served
  refused_steps (Abort u) is served gone = absurd served
  refused_steps Local is served gone = absurd served
  refused_steps Ended is served gone = absurd served

  pub finished_steps : (request : Request) → IsPreparedRequest programs script old.history steps session request → IsServed old new request replies.Finished
      → IsGoneOn session after (happened.Answered session.good) → StepsTo programs script old.history new.history steps request after
  finished_steps (Begin number k) is served gone = absurd served
  finished_steps (Ask u k p list) is served gone = absurd served
  finished_steps (Finish t k answer) is served gone = step_of (events.Answered t k answer) (ap (λ (s : CoreState). s.history) served)
      (tied_finished programs script old.history steps session after t k answer is gone)
  finished_steps (GiveUp u k) is served gone = absurd served
  finished_steps (Commit u changes) is served gone = absurd served
  finished_steps (Abort u) is served gone = absurd served
  finished_steps Local is served gone = absurd served
  finished_steps Ended is served gone = absurd served

  pub committed_steps : (n : ℕ) (request : Request) → IsPreparedRequest programs script old.history steps session request
      → IsServed old new request (replies.Committed n) → IsGoneOnAnew session after (happened.Committed n)
      → StepsTo programs script old.history new.history steps request after
  committed_steps n (Begin number k) is served gone = absurd served
  committed_steps n (Ask u k p list) is served gone = absurd served
  committed_steps n (Finish u k answer) is served gone = absurd served
  committed_steps n (GiveUp u k) is served gone = absurd served
  committed_steps n (Commit t changes) is served gone = step_of (events.Committed t n) served.made.history
      (tied_committed programs script old.history steps session after t n changes is gone)
  committed_steps n (Abort u) is served gone = absurd served
  committed_steps n Local is served gone = absurd served
  committed_steps n Ended is served gone = absurd served

  pub aborted_steps : (request : Request) → IsPreparedRequest programs script old.history steps session request → IsServed old new request replies.Aborted
      → IsGoneOnAnew session after happened.Aborted → StepsTo programs script old.history new.history steps request after
  aborted_steps (Begin number k) is served gone = absurd served
  aborted_steps (Ask u k p list) is served gone = absurd served
  aborted_steps (Finish u k answer) is served gone = absurd served
  aborted_steps (GiveUp u k) is served gone = absurd served
  aborted_steps (Commit u changes) is served gone = absurd served
  aborted_steps (Abort t) is served gone = step_of (events.Aborted t) (ap (λ (s : CoreState). s.history) served)
      (tied_aborted programs script old.history steps session after t is gone)
  aborted_steps Local is served gone = absurd served
  aborted_steps Ended is served gone = absurd served
