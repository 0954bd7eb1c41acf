-- What a reply makes of a session: it stands in the history that has one event more.
use Rattle.std.proofs.Common.{◌≡◌, ℕ, Bool, true, false, ◌&&◌, List, [], ◌∷◌, ◌++◌, Option, Some, None, Ok, inl, refl, sym, ap, ◌∙◌, subst, ◌==◌}
use Rattle.std.specs.Prelude.{IfSome}
use Rattle.std.proofs.lemmas.Bool.{cond-true, eq-eqb}
use Rattle.ras_domain.specs.declared.lock.LockName.{LockName}
use Rattle.ras_domain.specs.declared.lock.Mode.{Mode}
use Rattle.ras_syntax.specs.declared.answer.Answer.{Answer}
use Rattle.ras_syntax.specs.declared.event.Event.{Event}
use Rattle.ras_syntax.specs.declared.event.Event.TheVariants as events
use Rattle.ras_syntax.specs.declared.statement.Statement.{Statement}
use Rattle.ras_store.specs.Databases.{holdings_of, rewrites_of}
use Rattle.ras_store.specs.declared.change.Change.{Change}
use Rattle.ras_walk.specs.Places.{event_of, session_place_of, step_seen, told_of_event}
use Rattle.ras_walk.specs.declared.place.Happened.{Happened}
use Rattle.ras_walk.specs.declared.place.Happened.TheVariants as happened
use Rattle.ras_walk.specs.declared.place.Step.{Step}
use Rattle.ras_walk.proofs.Told.{event-told}
use Rattle.ras_work.specs.declared.work.Work.{Work}
use Rattle.ras_work.specs.Works.{work_kept}
use Rattle.spec_histories.specs.History.{History, Programs, nth, own_database}
use Rattle.spec_histories.specs.Legal.{IsLegal}
use Rattle.spec_statements.specs.Locks.{Lock}
use Rattle.spec_views.specs.Sessions.{IsWorkOf}
use Rattle.spec_views.specs.Work.{TakenPiece}
use Rattle.spec_views.specs.Work.{Work as WorkSeen}
use Rattle.spec_sessions.specs.Outcomes.{IsWalkOf}
use Rattle.spec_sessions.specs.Walk.{After, LineReply, ReadScript, ScriptItem, SessionPlace, State, after_event, ending, fits, free, inside, is_live_in, item_at, item_of, leaving, line_for, live_in, lost, made, own, step_from}
use Rattle.spec_sessions.specs.Walk.{Step as StepOf}
use Rattle.law_views.proofs.Events.{work_begun, work_refused}
use Rattle.law_walks.specs.Session.{IsSessionOf, asking_in, phase_behind, session_after}
use Rattle.law_walks.proofs.Goes.{goes_walk, session_goes}
use Rattle.law_walks.proofs.Turns.{LivesBy, event-lives}
use Rattle.ras_session.specs.declared.session.Session.{Session}
use Rattle.ras_session.specs.Prepared.{HasItem, IsAbortPrepared, IsAskPrepared, IsBeginPrepared, IsCommitPrepared, IsFinishPrepared, item_read}
use Rattle.ras_session.specs.Replied.{IsGoneOn, IsGoneOnAnew, IsStepFor}
use Rattle.ras_session.specs.Steps.{IsAdvanced}
use Rattle.ras_session.specs.Tied.{IsHoldingOwn, IsNextStatement, IsTied, IsWalking, TellNoWant, session_with, walked_by, work_seen}
use Rattle.ras_session.proofs.Ties.{advanced_to, advanced_walk, fresh_known, statement_moved}

-- ---- places

pub asking_lives : (place : SessionPlace) (t : ℕ) → asking_in place ≡ Some t → live_in place ≡ Some t
asking_lives (free attempts) t is = absurd cc
asking_lives lost t is = absurd cc
asking_lives (inside opened granted) t is = is
asking_lives (leaving opened) t is = absurd cc
asking_lives (own u granted) t is = is
asking_lives (ending u closed) t is = absurd cc

is_live_there : (place : SessionPlace) (t : ℕ) → live_in place ≡ Some t → is_live_in place t ≡ true
is_live_there place t live = ap {A = Option ℕ} (λ found. elim found [ None ↦ false | Some u ↦ t == u ]) live ∙ eq-eqb t t refl

both_hold : (a b : Bool) → a ≡ true → b ≡ true → (a && b) ≡ true
both_hold a b first second = ap (λ c. c && b) first ∙ second

pub one_number : (t u : ℕ) → Some t ≡ Some u → t ≡ u
one_number t u is = cc

no_number : (t : ℕ) → Some t ≡ None → ⊥
no_number t is = absurd cc

-- ---- what comes next, as it was read

pub item_there : (script : ReadScript) (k : ℕ) (read : Option Statement) (statement : Statement) → read ≡ Some statement → nth k script ≡ Some (Ok statement)
    → item_read read ≡ item_at script k
item_there script k read statement is text = ap item_read is ∙ sym (ap item_of text)

-- a place of a transaction that lives asks for what comes next only where it was read
by_item : (script : ReadScript) (k : ℕ) (read : Option Statement) (place : SessionPlace) (t : ℕ) (event : Event) → live_in place ≡ Some t
    → HasItem script k read place → after_event k (item_read read) place event ≡ after_event k (item_at script k) place event
by_item script k read (free attempts) t event live item = absurd cc
by_item script k read lost t event live item = absurd cc
by_item script k read (inside opened granted) t event live item = ap (λ i. after_event k i (inside opened granted) event) item
by_item script k read (leaving opened) t event live item = refl
by_item script k read (own u granted) t event live item = refl
by_item script k read (ending u closed) t event live item = refl

-- ---- steps

-- what an event makes of a session is the step that was found for what it tells
pub comes_by : (script : ReadScript) (session : Session) (event : Event) (tells : Happened) (step : Step) → told_of_event event ≡ tells
    → after_event session.next (item_read session.statement) (session_place_of session.place) (event_of tells)
    ≡ after_event session.next (item_at script session.next) (session_place_of session.place) (event_of tells)
    → IsStepFor session tells step
    → after_event session.next (item_at script session.next) (session_place_of session.place) event ≡ Some (step_seen step)
comes_by script session event tells step told item is =
    event-told session.next (item_at script session.next) (session_place_of session.place) event
    ∙ ap (λ h. after_event session.next (item_at script session.next) (session_place_of session.place) (event_of h)) told
    ∙ sym item
    ∙ is

-- what holds where there is a step
pub if_some : (P : Option LineReply × State → Type 0) (after : After) (next : Option LineReply × State) → after ≡ Some next → IfSome after P → P next
if_some P after next is holds = subst (λ a. IfSome a P) is holds

pub lives_by : (k : ℕ) (item : ScriptItem) (place : SessionPlace) (event : Event) (next : Option LineReply × State) → after_event k item place event ≡ Some next
    → LivesBy place event next.1.place
lives_by k item place event next is =
    if_some (λ after. LivesBy place event after.1.place) (after_event k item place event) next is (event-lives k item place event)

-- an event that is the session's own
pub fits_statement : (number k t next : ℕ) (place : SessionPlace) → live_in place ≡ Some t → k ≡ next → (is_live_in place t && (k == next)) ≡ true
fits_statement number k t next place live at = both_hold (is_live_in place t) (k == next) (is_live_there place t live) (eq-eqb k next at)

-- ---- going on by an event

module _ (programs : Programs) (script : ReadScript) (past : History) (steps : List StepOf) (old : Session) (step : Step) (event : Event)
    (work next_work : WorkSeen) (phase : ℕ) (legal : IsLegal programs (event ∷ past)) (walking : IsWalking programs script past steps work phase old)
    (fit : fits old.number (walked_by old).state event ≡ true)
    (comes : after_event old.next (item_at script old.next) (session_place_of old.place) event ≡ Some (step_seen step))
    (works : (t : ℕ) → live_in (step_seen step).1.place ≡ Some t → IsWorkOf programs (event ∷ past) t next_work) where
  abbrev here : IsSessionOf programs past (session_with script work phase old)
  here = record {
    steps = steps;
    is_walk = walking.is_walk;
    program = walking.is_session.program;
    lives_there = walking.is_session.lives_there;
    lives_only = walking.is_session.lives_only;
    has_come = walking.is_session.has_come;
  }

  is_step : step_from old.number script (walked_by old).state (made event) ≡ Some (step_seen step)
  is_step = cond-true (fits old.number (walked_by old).state event)
      (after_event old.next (item_at script old.next) (session_place_of old.place) event) None fit ∙ comes

  pub goes : IsSessionOf programs (event ∷ past) (session_after (session_with script work phase old) (step_seen step) next_work (phase_behind event))
  goes = session_goes programs past (session_with script work phase old) event (step_seen step) next_work here legal is_step works

  pub goes_by : IsWalkOf old.number script (event ∷ past) (made event ∷ steps)
      (record { state = (step_seen step).1; lines = old.lines ++ line_for (walked_by old).state (step_seen step) })
  goes_by = goes_walk programs past (session_with script work phase old) event (step_seen step) next_work here legal is_step works

-- to the beginning of a statement
module _ (programs : Programs) (script : ReadScript) (past : History) (steps : List StepOf) (old new : Session) (step : Step) (event : Event)
    (work : WorkSeen) (phase : ℕ) (pieces : List TakenPiece) (is : IsAdvanced old new step) (legal : IsLegal programs (event ∷ past))
    (walking : IsWalking programs script past steps work phase old)
    (fit : fits old.number (walked_by old).state event ≡ true)
    (comes : after_event old.next (item_at script old.next) (session_place_of old.place) event ≡ Some (step_seen step))
    (works : (t : ℕ) → live_in (step_seen step).1.place ≡ Some t → IsWorkOf programs (event ∷ past) t (work_seen pieces new.work))
    (first : phase_behind event ≡ 1) (holding : IsHoldingOwn pieces new.work) (read : IsNextStatement script old.next old.statement)
    (plenty : TellNoWant old.lines) where
  pub tied_by : IsTied programs script (event ∷ past) (made event ∷ steps) new
  tied_by = record {
    pieces = pieces;
    walking = record {
      is_session = advanced_to programs script (event ∷ past) old new step work (work_seen pieces new.work) phase is
          (subst (λ p. IsSessionOf programs (event ∷ past)
          (session_after (session_with script work phase old) (step_seen step) (work_seen pieces new.work) p)) first
          (goes programs script past steps old step event work (work_seen pieces new.work) phase legal walking fit comes works));
      is_walk = advanced_walk script (event ∷ past) old new step (made event ∷ steps) is
          (goes_by programs script past steps old step event work (work_seen pieces new.work) phase legal walking fit comes works);
    };
    holding = holding;
    known = λ t statement way. fresh_known programs.types statement (own_database programs (event ∷ past) t) new.course is.course;
    read = statement_moved script old new step is read;
    plenty = is.plenty plenty;
  }

-- ---- a refusal, and an answer

module _ (programs : Programs) (script : ReadScript) (past : History) (steps : List StepOf) (old new : Session) (t k p holder : ℕ) (list : List Lock)
    (lock : LockName) (mode : Mode) (is : IsAskPrepared programs script past steps t k p list old) (gone : IsGoneOn old new happened.Refused)
    (legal : IsLegal programs (events.Refused t k p lock mode holder ∷ past)) where
  refused_live : live_in (session_place_of old.place) ≡ Some t
  refused_live = asking_lives (session_place_of old.place) t is.under_way.asking

  refused_comes : after_event old.next (item_at script old.next) (session_place_of old.place) (events.Refused t k p lock mode holder) ≡ Some (step_seen gone.step)
  refused_comes = comes_by script old (events.Refused t k p lock mode holder) happened.Refused gone.step refl
      (ap (λ i. after_event old.next i (session_place_of old.place) (event_of happened.Refused))
      (item_there script old.next old.statement is.statement is.read is.under_way.text)) gone.is_step

  refused_work : (u : ℕ) → live_in (step_seen gone.step).1.place ≡ Some u
      → IsWorkOf programs (events.Refused t k p lock mode holder ∷ past) u (work_seen is.pieces new.work)
  unfolding LivesBy
  refused_work u live =
      let still : live_in (step_seen gone.step).1.place ≡ live_in (session_place_of old.place) =
      lives_by old.next (item_at script old.next) (session_place_of old.place) (events.Refused t k p lock mode holder) (step_seen gone.step) refused_comes in
      subst (λ n. IsWorkOf programs (events.Refused t k p lock mode holder ∷ past) n (work_seen is.pieces new.work))
      (one_number t u (sym refused_live ∙ sym still ∙ live))
      (subst (λ w. IsWorkOf programs (events.Refused t k p lock mode holder ∷ past) t (work_seen is.pieces w)) (sym gone.advanced.work)
      (work_refused programs past t k p holder lock mode (work_seen is.pieces old.work) (is.walking.is_session.lives_there t refused_live).is_work))

  pub tied_refused : IsTied programs script (events.Refused t k p lock mode holder ∷ past) (made (events.Refused t k p lock mode holder) ∷ steps) new
  tied_refused = tied_by programs script past steps old new gone.step (events.Refused t k p lock mode holder) (work_seen is.pieces old.work) p is.pieces
      gone.advanced legal is.walking (fits_statement old.number k t old.next (session_place_of old.place) refused_live is.at) refused_comes refused_work refl
      (subst (λ w. IsHoldingOwn is.pieces w) (sym gone.advanced.work) is.holding)
      (subst (λ r. IsNextStatement script old.next r) (sym is.read) is.under_way.text) is.plenty

module _ (programs : Programs) (script : ReadScript) (past : History) (steps : List StepOf) (old new : Session) (t k : ℕ) (answer : Answer)
    (is : IsFinishPrepared programs script past steps t k answer old) (gone : IsGoneOn old new (happened.Answered old.good))
    (legal : IsLegal programs (events.Answered t k answer ∷ past)) where
  finished_live : live_in (session_place_of old.place) ≡ Some t
  finished_live = asking_lives (session_place_of old.place) t is.under_way.asking

  finished_comes : after_event old.next (item_at script old.next) (session_place_of old.place) (events.Answered t k answer) ≡ Some (step_seen gone.step)
  finished_comes = comes_by script old (events.Answered t k answer) (happened.Answered old.good) gone.step (ap happened.Answered (sym is.good))
      (ap (λ i. after_event old.next i (session_place_of old.place) (event_of (happened.Answered old.good)))
      (item_there script old.next old.statement is.statement is.read is.under_way.text)) gone.is_step

  finished_work : (u : ℕ) → live_in (step_seen gone.step).1.place ≡ Some u → IsWorkOf programs (events.Answered t k answer ∷ past) u (work_seen is.pieces new.work)
  unfolding LivesBy
  finished_work u live =
      let still : live_in (step_seen gone.step).1.place ≡ live_in (session_place_of old.place) =
      lives_by old.next (item_at script old.next) (session_place_of old.place) (events.Answered t k answer) (step_seen gone.step) finished_comes in
      subst (λ n. IsWorkOf programs (events.Answered t k answer ∷ past) n (work_seen is.pieces new.work))
      (one_number t u (sym finished_live ∙ sym still ∙ live))
      (subst (λ w. IsWorkOf programs (events.Answered t k answer ∷ past) t (work_seen is.pieces w)) (sym gone.advanced.work) is.is_work)

  pub tied_finished : IsTied programs script (events.Answered t k answer ∷ past) (made (events.Answered t k answer) ∷ steps) new
  tied_finished = tied_by programs script past steps old new gone.step (events.Answered t k answer) is.before is.phase is.pieces gone.advanced legal is.walking
      (fits_statement old.number k t old.next (session_place_of old.place) finished_live is.at) finished_comes finished_work refl
      (subst (λ w. IsHoldingOwn is.pieces w) (sym gone.advanced.work) is.holding)
      (subst (λ r. IsNextStatement script old.next r) (sym is.read) is.under_way.text) is.plenty

-- ---- with a new work

-- the work makes no difference to a step
anew : (old between : Session) (step : Step) (work : Work) → IsAdvanced old between step → IsAdvanced (record old { work = work }) (record between { work = work }) step
anew old between step work is = record {
  number = is.number;
  walked = is.walked;
  work = refl;
  course = is.course;
  statement = is.statement;
  plenty = is.plenty;
}

walking_anew : (programs : Programs) (script : ReadScript) (past : History) (steps : List StepOf) (seen : WorkSeen) (phase : ℕ) (session : Session) (work : Work)
    → IsWalking programs script past steps seen phase session → IsWalking programs script past steps seen phase (record session { work = work })
walking_anew programs script past steps seen phase session work is = record { is_session = is.is_session; is_walk = is.is_walk }

module _ (programs : Programs) (script : ReadScript) (past : History) (steps : List StepOf) (old new : Session) (tells : Happened) (event : Event)
    (work : WorkSeen) (phase : ℕ) (gone : IsGoneOnAnew old new tells) (legal : IsLegal programs (event ∷ past))
    (walking : IsWalking programs script past steps work phase old)
    (fit : fits old.number (walked_by old).state event ≡ true)
    (comes : after_event old.next (item_at script old.next) (session_place_of old.place) event ≡ Some (step_seen gone.gone_on.step))
    (works : (t : ℕ) → live_in (step_seen gone.gone_on.step).1.place ≡ Some t → IsWorkOf programs (event ∷ past) t (work_seen [] new.work))
    (first : phase_behind event ≡ 1) (read : IsNextStatement script old.next old.statement) (plenty : TellNoWant old.lines) where
  pub tied_anew : IsTied programs script (event ∷ past) (made event ∷ steps) new
  tied_anew = subst (λ (s : Session). IsTied programs script (event ∷ past) (made event ∷ steps) s) (sym gone.rest)
      (tied_by programs script past steps (record old { work = new.work }) (record gone.between { work = new.work }) gone.gone_on.step event work phase []
      (anew old gone.between gone.gone_on.step new.work gone.gone_on.advanced) legal
      (walking_anew programs script past steps work phase old new.work walking) fit comes works first
      (record { own = gone.is_new.own; within = λ name. inl (gone.is_new.nothing name) }) read plenty)

module _ (programs : Programs) (script : ReadScript) (past : History) (steps : List StepOf) (old new : Session) (t number k : ℕ)
    (is : IsBeginPrepared programs script past steps number k old) (gone : IsGoneOnAnew old new (happened.Begun t))
    (legal : IsLegal programs (events.Begun t number k ∷ past)) where
  begun_text : nth old.next script ≡ Some (Ok is.statement)
  begun_text = subst (λ s. IsNextStatement script old.next s) is.read is.tied.read

  begun_comes : after_event old.next (item_at script old.next) (session_place_of old.place) (events.Begun t number k) ≡ Some (step_seen gone.gone_on.step)
  begun_comes = comes_by script old (events.Begun t number k) (happened.Begun t) gone.gone_on.step refl
      (ap (λ i. after_event old.next i (session_place_of old.place) (event_of (happened.Begun t)))
      (item_there script old.next old.statement is.statement is.read begun_text)) gone.gone_on.is_step

  begun_work : (u : ℕ) → live_in (step_seen gone.gone_on.step).1.place ≡ Some u → IsWorkOf programs (events.Begun t number k ∷ past) u (work_seen [] new.work)
  unfolding LivesBy
  begun_work u live =
      let lives : (live_in (session_place_of old.place) ≡ None) × (live_in (step_seen gone.gone_on.step).1.place ≡ Some t) =
      lives_by old.next (item_at script old.next) (session_place_of old.place) (events.Begun t number k) (step_seen gone.gone_on.step) begun_comes in
      subst (λ n. IsWorkOf programs (events.Begun t number k ∷ past) n (work_seen [] new.work)) (one_number t u (sym lives.1 ∙ live))
      (subst (λ changes. IsWorkOf programs (events.Begun t number k ∷ past) t
      (record { pieces = []; rewrites = rewrites_of changes; view = holdings_of (work_kept new.work) })) (sym gone.is_new.none_written)
      (work_begun programs past t number k (holdings_of (work_kept new.work)) legal))

  pub tied_begun : IsTied programs script (events.Begun t number k ∷ past) (made (events.Begun t number k) ∷ steps) new
  tied_begun = tied_anew programs script past steps old new (happened.Begun t) (events.Begun t number k) (work_seen is.tied.pieces old.work) old.course.next gone legal
      is.tied.walking (both_hold (number == old.number) (k == old.next) (eq-eqb number old.number is.number_is) (eq-eqb k old.next is.at)) begun_comes begun_work
      refl is.tied.read is.tied.plenty

module _ (programs : Programs) (script : ReadScript) (past : History) (steps : List StepOf) (old new : Session) (t n : ℕ) (changes : List Change)
    (is : IsCommitPrepared programs script past steps t changes old) (gone : IsGoneOnAnew old new (happened.Committed n))
    (legal : IsLegal programs (events.Committed t n ∷ past)) where
  committed_comes : after_event old.next (item_at script old.next) (session_place_of old.place) (events.Committed t n) ≡ Some (step_seen gone.gone_on.step)
  committed_comes = comes_by script old (events.Committed t n) (happened.Committed n) gone.gone_on.step refl
      (by_item script old.next old.statement (session_place_of old.place) t (event_of (happened.Committed n)) is.live is.item) gone.gone_on.is_step

  committed_work : (u : ℕ) → live_in (step_seen gone.gone_on.step).1.place ≡ Some u → IsWorkOf programs (events.Committed t n ∷ past) u (work_seen [] new.work)
  unfolding LivesBy
  committed_work u live =
      let none : live_in (step_seen gone.gone_on.step).1.place ≡ None =
      lives_by old.next (item_at script old.next) (session_place_of old.place) (events.Committed t n) (step_seen gone.gone_on.step) committed_comes in
      absurd (no_number u (sym live ∙ none))

  pub tied_committed : IsTied programs script (events.Committed t n ∷ past) (made (events.Committed t n) ∷ steps) new
  tied_committed = tied_anew programs script past steps old new (happened.Committed n) (events.Committed t n) is.before is.phase gone legal is.walking
      (is_live_there (session_place_of old.place) t is.live) committed_comes committed_work refl is.read is.plenty

module _ (programs : Programs) (script : ReadScript) (past : History) (steps : List StepOf) (old new : Session) (t : ℕ)
    (is : IsAbortPrepared programs script past steps t old) (gone : IsGoneOnAnew old new happened.Aborted) (legal : IsLegal programs (events.Aborted t ∷ past)) where
  aborted_comes : after_event old.next (item_at script old.next) (session_place_of old.place) (events.Aborted t) ≡ Some (step_seen gone.gone_on.step)
  aborted_comes = comes_by script old (events.Aborted t) happened.Aborted gone.gone_on.step refl
      (by_item script old.next old.statement (session_place_of old.place) t (event_of happened.Aborted) is.live is.item) gone.gone_on.is_step

  aborted_work : (u : ℕ) → live_in (step_seen gone.gone_on.step).1.place ≡ Some u → IsWorkOf programs (events.Aborted t ∷ past) u (work_seen [] new.work)
  unfolding LivesBy
  aborted_work u live =
      let none : live_in (step_seen gone.gone_on.step).1.place ≡ None =
      lives_by old.next (item_at script old.next) (session_place_of old.place) (events.Aborted t) (step_seen gone.gone_on.step) aborted_comes in
      absurd (no_number u (sym live ∙ none))

  pub tied_aborted : IsTied programs script (events.Aborted t ∷ past) (made (events.Aborted t) ∷ steps) new
  tied_aborted = tied_anew programs script past steps old new happened.Aborted (events.Aborted t) (work_seen is.tied.pieces old.work) old.course.next gone legal
      is.tied.walking (is_live_there (session_place_of old.place) t is.live) aborted_comes aborted_work refl is.tied.read is.tied.plenty
