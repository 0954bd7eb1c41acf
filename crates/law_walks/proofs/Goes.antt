-- A session goes on by its events, and by its lines.
use Rattle.std.proofs.Common.{◌≡◌, ◌≢◌, ℕ, inl, inr, Bool, true, false, ◌&&◌, ◌||◌, not, List, [], ◌∷◌, ◌++◌, map, Option, Some, None, refl, sym, ap, ◌∙◌, subst}
use Rattle.std.specs.Prelude.{IfSome, IsTrue, is_some}
use Rattle.std.specs.List.{list_any}
use Rattle.std.proofs.lemmas.Bool.{cases_eq, cond-true, eq-eqb, false≢true}
use Rattle.ras_syntax.specs.declared.event.Event.{Event}
use Rattle.spec_histories.specs.History.{History, Programs, begun_at, ends, events_of, is_live, nth, owner_of}
use Rattle.spec_histories.specs.Legal.{IsLegal}
use Rattle.spec_workloads.specs.Programs.{statement_if_read}
use Rattle.law_histories.proofs.Owners.{lives, mine-other, mine-own}
use Rattle.spec_views.specs.Sessions.{IsWorkOf}
use Rattle.spec_views.specs.Work.{Work}
use Rattle.spec_sessions.specs.Outcomes.{IsWalkOf, began_in, session_events}
use Rattle.spec_sessions.specs.Walk.{After, LineReply, ReadScript, SessionPlace, State, Step, Walked, after_event, fits, item_at, line_for, live_in, made, quiet, step_from, walk, walk_on, walked_on}
use Rattle.law_walks.specs.Session.{HasComeTo, IsOwnOf, IsSessionOf, SessionValue, new_session, phase_behind, session_after}
use Rattle.law_walks.proofs.Comes.{event-comes, quiet-comes}
use Rattle.law_walks.proofs.Turns.{IsOwnEvent, LivesBy, Turn, event-lives, first, fits-own, fitted, last, middle, quiet-lives, turn_of}

-- a walk goes on by a step
pub walks_on : (session : ℕ) (script : ReadScript) (steps : List Step) (walked : Walked) (step : Step) (after : Option LineReply × State)
    → walk session script steps ≡ Some walked → step_from session script walked.state step ≡ Some after
    → walk session script (step ∷ steps) ≡ Some (record { state = after.1; lines = walked.lines ++ line_for walked.state after })
walks_on session script steps walked step after walks is = ap (λ w. walk_on session script w step) walks ∙ ap (λ a. walked_on walked a) is

-- what holds where there is a step
if_some : (P : Option LineReply × State → Type 0) (after : After) (next : Option LineReply × State) → after ≡ Some next → IfSome after P → P next
if_some P after next is holds = subst (λ a. IfSome a P) is holds

ended-dead : (event : Event) (own_events : History) → ends event ≡ true → IsTrue (lives (event ∷ own_events)) → ⊥
ended-dead event own_events ending live =
    false≢true (sym (dead (is_some (begun_at (event ∷ own_events))) (ends event || list_any ends own_events) (ap (λ b. b || list_any ends own_events) ending)) ∙ live)
  where
    dead : (b c : Bool) → c ≡ true → (b && not c) ≡ false
    dead true c is = ap not is
    dead false c is = refl

two_ways : (t : ℕ) → Some t ≡ None → ⊥
two_ways t is = absurd cc

one_number : (t u : ℕ) → Some t ≡ Some u → t ≡ u
one_number t u is = cc

module _ (programs : Programs) (past : History) (session : SessionValue) (event : Event) (after : Option LineReply × State) (work : Work)
    (is : IsSessionOf programs past session) (legal : IsLegal programs (event ∷ past))
    (step : step_from session.number session.script session.walked.state (made event) ≡ Some after)
    (works : (t : ℕ) → live_in after.1.place ≡ Some t → IsWorkOf programs (event ∷ past) t work) where
  before : State
  before = session.walked.state

  place : SessionPlace
  place = session.walked.state.place

  apart : (fits session.number session.walked.state event ≡ true)
      × (after_event session.walked.state.next (item_at session.script session.walked.state.next) session.walked.state.place event ≡ Some after)
  apart = fitted (fits session.number session.walked.state event)
      (after_event session.walked.state.next (item_at session.script session.walked.state.next) session.walked.state.place event) after step

  mine : IsOwnEvent session.number session.walked.state event
  mine = fits-own session.number session.walked.state event apart.0

  turn : Turn session.number session.walked.state.place event after.1.place
  turn = turn_of session.number session.walked.state event after.1.place mine
      (if_some (λ next. LivesBy session.walked.state.place event next.1.place) _ after apart.1
      (event-lives session.walked.state.next (item_at session.script session.walked.state.next) session.walked.state.place event))

  own : events_of (owner_of event) (event ∷ past) ≡ event ∷ events_of (owner_of event) past
  own = mine-own (owner_of event) event past refl

  -- the transaction of the event began in the session
  began : Turn session.number session.walked.state.place event after.1.place
      → (at : ℕ) × (begun_at (events_of (owner_of event) (event ∷ past)) ≡ Some (session.number, at))
  began (first one) = (one.at, ap begun_at own ∙ one.begun (events_of (owner_of event) past))
  began (middle one) = let there = is.lives_there (owner_of event) one.live in
      (there.at, ap begun_at own ∙ one.begun (events_of (owner_of event) past) ∙ there.begun)
  began (last one) = let there = is.lives_there (owner_of event) one.live in
      (there.at, ap begun_at own ∙ one.begun (events_of (owner_of event) past) ∙ there.begun)

  one_more : session_events session.number (event ∷ past) ≡ event ∷ session_events session.number past
  one_more = let begun = began turn in
      cond-true _ _ _ (ap (λ b. began_in session.number b) begun.1 ∙ eq-eqb session.number session.number refl)

  pub goes_walk : IsWalkOf session.number session.script (event ∷ past) (made event ∷ is.steps)
      (record { state = after.1; lines = session.walked.lines ++ line_for session.walked.state after })
  goes_walk = record {
    walks = walks_on session.number session.script is.steps session.walked (made event) after is.is_walk.walks step;
    events = ap (λ es. event ∷ es) is.is_walk.events ∙ sym one_more;
  }

  goes_lives : (u : ℕ) → live_in after.1.place ≡ Some u → IsOwnOf programs (event ∷ past) session.number work u
  goes_lives u live =
      record {
        at = (began turn).0;
        begun = subst (λ t. begun_at (events_of t (event ∷ past)) ≡ Some (session.number, (began turn).0)) (same turn) (began turn).1;
        is_work = works u live;
      }
    where
      same : Turn session.number session.walked.state.place event after.1.place → owner_of event ≡ u
      same (first one) = one_number (owner_of event) u (sym one.live ∙ live)
      same (middle one) = one_number (owner_of event) u (sym one.live_after ∙ live)
      same (last one) = absurd (two_ways u (sym live ∙ one.none_after))

  goes_only : (u at : ℕ) → IsTrue (is_live u (event ∷ past)) → begun_at (events_of u (event ∷ past)) ≡ Some (session.number, at)
      → live_in after.1.place ≡ Some u
  goes_only u at live begun = elim (cases_eq (owner_of event) u) [
    | inl same ↦ here same turn
    | inr other ↦ there other (is.lives_only u at (subst (λ m. IsTrue (lives m)) (mine-other u event past other) live)
        (subst (λ m. begun_at m ≡ Some (session.number, at)) (mine-other u event past other) begun)) turn
  ]
    where
      here : owner_of event ≡ u → Turn session.number session.walked.state.place event after.1.place → live_in after.1.place ≡ Some u
      here same (first one) = one.live ∙ ap Some same
      here same (middle one) = one.live_after ∙ ap Some same
      here same (last one) = absurd (ended-dead event (events_of u past) one.ending (subst (λ m. IsTrue (lives m)) (mine-own u event past same) live))

      there : owner_of event ≢ u → live_in session.walked.state.place ≡ Some u → Turn session.number session.walked.state.place event after.1.place
          → live_in after.1.place ≡ Some u
      there other lived (first one) = absurd (two_ways u (sym lived ∙ one.none))
      there other lived (middle one) = absurd (other (one_number (owner_of event) u (sym one.live ∙ lived)))
      there other lived (last one) = absurd (other (one_number (owner_of event) u (sym one.live ∙ lived)))

  pub session_goes : IsSessionOf programs (event ∷ past) (session_after session after work (phase_behind event))
  session_goes = record {
    steps = made event ∷ is.steps;
    is_walk = goes_walk;
    program = is.program;
    lives_there = goes_lives;
    lives_only = goes_only;
    has_come = if_some (λ next. HasComeTo programs (event ∷ past) session.script next.1.next (phase_behind event) next.1.place) _ after apart.1
        (event-comes programs past session.script session.number session.walked.state.next session.phase (item_at session.script session.walked.state.next)
        session.walked.state.place event refl legal mine is.has_come);
  }

-- ---- a line without an event

pub session_tells : (programs : Programs) (past : History) (session : SessionValue) (wanting : Bool) (after : Option LineReply × State)
    → IsSessionOf programs past session → step_from session.number session.script session.walked.state (quiet wanting) ≡ Some after
    → IsSessionOf programs past (session_after session after session.work 1)
session_tells programs past session wanting after is step = record {
  steps = quiet wanting ∷ is.steps;
  is_walk = record {
    walks = walks_on session.number session.script is.steps session.walked (quiet wanting) after is.is_walk.walks step;
    events = is.is_walk.events;
  };
  program = is.program;
  lives_there = λ t live. is.lives_there t (sym same ∙ live);
  lives_only = λ t at live begun. same ∙ is.lives_only t at live begun;
  has_come = if_some (λ next. HasComeTo programs past session.script next.1.next 1 next.1.place) _ after step
      (quiet-comes programs past session.script session.number session.walked.state.next session.phase (item_at session.script session.walked.state.next)
      session.walked.state.place wanting refl is.has_come);
}
  where
    same : live_in after.1.place ≡ live_in session.walked.state.place
    same = if_some (λ next. live_in next.1.place ≡ live_in session.walked.state.place) _ after step
        (quiet-lives session.walked.state.next (item_at session.script session.walked.state.next) session.walked.state.place wanting)

-- ---- the beginning

pub session_starts : (programs : Programs) (number : ℕ) (script : ReadScript) (work : Work) → nth number programs.scripts ≡ Some (map statement_if_read script)
    → IsSessionOf programs [] (new_session number script work)
session_starts programs number script work program = record {
  steps = [];
  is_walk = record { walks = refl; events = refl };
  program = program;
  lives_there = λ t live. absurd (two_ways t (sym live));
  lives_only = λ t at live begun. let none : false ≡ true = live in absurd cc;
  has_come = tt;
}
