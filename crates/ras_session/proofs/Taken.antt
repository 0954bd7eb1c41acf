-- A grant makes a step of a session, and its work takes the piece.
use Rattle.std.proofs.Common.{◌≡◌, ℕ, suc, Bool, true, List, ◌∷◌, ◌++◌, append-nil, Option, Some, None, Ok, refl, sym, ap, ◌∙◌, subst}
use Rattle.std.specs.Prelude.{IfSome}
use Rattle.ras_syntax.specs.declared.event.Event.TheVariants as events
use Rattle.ras_syntax.specs.declared.statement.Statement.{Statement}
use Rattle.ras_store.specs.Databases.{Keeps}
use Rattle.ras_store.specs.Store.{store_kept}
use Rattle.ras_store.specs.declared.piece.Piece.{Piece}
use Rattle.ras_store.specs.declared.store.Store.{Store}
use Rattle.ras_core.specs.Asking.{IsPieceUnder}
use Rattle.ras_course.specs.Courses.{IsKnown}
use Rattle.ras_walk.specs.Places.{event_of, session_place_of, step_seen}
use Rattle.ras_walk.specs.declared.place.Happened.TheVariants as happened
use Rattle.spec_histories.specs.History.{History, Programs, answered_statements, committed_database, database_after, own_database}
use Rattle.spec_histories.specs.Legal.{IsLegal}
use Rattle.spec_histories.specs.Serializable.{ArePrograms, HasRoom}
use Rattle.spec_statements.specs.Locks.{Lock}
use Rattle.spec_views.specs.Sessions.{IsWorkOf}
use Rattle.spec_views.specs.Work.{TakenPiece}
use Rattle.spec_sessions.specs.Outcomes.{IsWalkOf}
use Rattle.spec_sessions.specs.Walk.{Line, LineReply, Opened, ReadScript, ScriptItem, SessionPlace, State, Walked, after_event, data_statement, ending, fits, free, inside, item_at, leaving, line_for, live_in, lost, made, own, session_word, the_end, unread}
use Rattle.spec_sessions.specs.Walk.{Closed as ClosedOf, by_failure, by_giving_up, by_success}
use Rattle.spec_sessions.specs.Walk.{Step as StepOf}
use Rattle.law_histories.proofs.Owners.{mine-own}
use Rattle.law_walks.specs.Session.{IsSessionOf, IsUnderWay}
use Rattle.law_walks.proofs.Turns.{LivesBy}
use Rattle.ras_session.specs.declared.session.Session.{Session}
use Rattle.ras_session.specs.Prepared.{IsAskPrepared}
use Rattle.ras_session.specs.Replied.{IsGoneOnWith}
use Rattle.ras_session.specs.Tied.{IsNextStatement, IsTied, session_with, walked_by, work_seen}
use Rattle.ras_session.proofs.Grants.{granted_holding, granted_work, taken_of}
use Rattle.ras_session.proofs.Replied.{asking_lives, comes_by, fits_statement, goes, goes_by, if_some, item_there, lives_by, one_number}

-- ---- what comes of a grant

-- no line, and the statement is still the next one
record IsStill (k : ℕ) (next : Option LineReply × State) : Type 0 where
  no_line : next.0 ≡ None
  same : next.1.next ≡ k

still_inside : (k : ℕ) (item : ScriptItem) (opened : Opened) (granted : Bool) (t n p : ℕ) (list : List Lock)
    → IfSome (after_event k item (inside opened granted) (events.Granted t n p list)) (IsStill k)
still_inside k the_end opened granted t n p list = tt
still_inside k (unread fault) opened granted t n p list = tt
still_inside k (session_word w) opened granted t n p list = tt
still_inside k data_statement opened granted t n p list = record { no_line = refl; same = refl }

still_ending : (k : ℕ) (item : ScriptItem) (u : ℕ) (closed : ClosedOf) (t n p : ℕ) (list : List Lock)
    → IfSome (after_event k item (ending u closed) (events.Granted t n p list)) (IsStill k)
still_ending k item u by_success t n p list = tt
still_ending k item u by_failure t n p list = tt
still_ending k item u by_giving_up t n p list = tt

still_there : (k : ℕ) (item : ScriptItem) (place : SessionPlace) (t n p : ℕ) (list : List Lock)
    → IfSome (after_event k item place (events.Granted t n p list)) (IsStill k)
still_there k item (free attempts) t n p list = tt
still_there k item lost t n p list = tt
still_there k item (inside opened granted) t n p list = still_inside k item opened granted t n p list
still_there k item (leaving opened) t n p list = tt
still_there k item (own u granted) t n p list = record { no_line = refl; same = refl }
still_there k item (ending u closed) t n p list = still_ending k item u closed t n p list

no_lines : (before : State) (next : Option LineReply × State) (lines : List Line) → next.0 ≡ None → lines ++ line_for before next ≡ lines
no_lines before next lines none = ap (λ reply. lines ++ line_for before (reply, next.1)) none ∙ append-nil lines

-- ---- the session behind it

module _ (programs : Programs) (script : ReadScript) (past : History) (steps : List StepOf) (old new : Session) (t k p : ℕ) (list : List Lock)
    (piece : Piece) (store : Store) (bound : ℕ) (is : IsAskPrepared programs script past steps t k p list old) (gone : IsGoneOnWith old new piece)
    (are : ArePrograms programs bound) (room : HasRoom bound past) (legal_then : IsLegal programs past)
    (keeps : Keeps programs.types (store_kept store) (committed_database programs past)) (under : IsPieceUnder store list piece)
    (legal : IsLegal programs (events.Granted t k p list ∷ past)) where
  -- as it is written out
  abbrev moved : Session
  moved = record old { place = gone.step.place; work = new.work }

  abbrev taken : List TakenPiece
  taken = taken_of store list ∷ is.pieces

  granted_live : live_in (session_place_of old.place) ≡ Some t
  granted_live = asking_lives (session_place_of old.place) t is.under_way.asking

  granted_comes : after_event old.next (item_at script old.next) (session_place_of old.place) (events.Granted t k p list) ≡ Some (step_seen gone.step)
  granted_comes = comes_by script old (events.Granted t k p list) happened.Granted gone.step refl
      (ap (λ i. after_event old.next i (session_place_of old.place) (event_of happened.Granted))
      (item_there script old.next old.statement is.statement is.read is.under_way.text)) gone.is_step

  still : IsStill old.next (step_seen gone.step)
  still = if_some (IsStill old.next)
      (after_event old.next (item_at script old.next) (session_place_of old.place) (events.Granted t k p list)) (step_seen gone.step) granted_comes
      (still_there old.next (item_at script old.next) (session_place_of old.place) t k p list)

  lives_still : live_in (session_place_of gone.step.place) ≡ Some t
  unfolding LivesBy
  lives_still =
      let same : live_in (step_seen gone.step).1.place ≡ live_in (session_place_of old.place) =
      lives_by old.next (item_at script old.next) (session_place_of old.place) (events.Granted t k p list) (step_seen gone.step) granted_comes in
      same ∙ granted_live

  new_work : IsWorkOf programs (events.Granted t k p list ∷ past) t (work_seen taken new.work)
  new_work = granted_work programs bound past t is.pieces old.work new.work piece list store are room legal_then keeps
      (is.walking.is_session.lives_there t granted_live).is_work is.holding under gone.put k p

  works : (u : ℕ) → live_in (step_seen gone.step).1.place ≡ Some u → IsWorkOf programs (events.Granted t k p list ∷ past) u (work_seen taken new.work)
  works u live = subst (λ n. IsWorkOf programs (events.Granted t k p list ∷ past) n (work_seen taken new.work)) (one_number t u (sym lives_still ∙ live)) new_work

  same_walked : (record { state = (step_seen gone.step).1; lines = old.lines ++ line_for (walked_by old).state (step_seen gone.step) }) ≡ walked_by moved
  same_walked =
      let walked : ℕ → List Line → Walked = λ next lines. record { state = record { next = next; place = session_place_of gone.step.place }; lines = lines } in
      ap (λ n. walked n (old.lines ++ line_for (walked_by old).state (step_seen gone.step))) still.same
      ∙ ap (walked old.next) (no_lines (walked_by old).state (step_seen gone.step) old.lines still.no_line)

  fit : fits old.number (walked_by old).state (events.Granted t k p list) ≡ true
  fit = fits_statement old.number k t old.next (session_place_of old.place) granted_live is.at

  walking_session : IsSessionOf programs (events.Granted t k p list ∷ past) (session_with script (work_seen taken new.work) old.course.next moved)
  walking_session =
      subst (λ q. IsSessionOf programs (events.Granted t k p list ∷ past) (session_with script (work_seen taken new.work) q moved)) (sym is.phase_behind)
      (subst (λ w. IsSessionOf programs (events.Granted t k p list ∷ past)
      (record { number = old.number; script = script; walked = w; work = work_seen taken new.work; phase = suc p })) same_walked
      (goes programs script past steps old gone.step (events.Granted t k p list) (work_seen is.pieces old.work) (work_seen taken new.work) p legal is.walking
      fit granted_comes works))

  walking_walk : IsWalkOf old.number script (events.Granted t k p list ∷ past) (made (events.Granted t k p list) ∷ steps) (walked_by moved)
  walking_walk = subst (λ w. IsWalkOf old.number script (events.Granted t k p list ∷ past) (made (events.Granted t k p list) ∷ steps) w) same_walked
      (goes_by programs script past steps old gone.step (events.Granted t k p list) (work_seen is.pieces old.work) (work_seen taken new.work) p legal is.walking
      fit granted_comes works)

  -- a grant leaves the transaction's own database
  same_own : own_database programs (events.Granted t k p list ∷ past) t ≡ own_database programs past t
  same_own = ap (λ m. database_after programs (answered_statements programs m) (committed_database programs past))
      (mine-own t (events.Granted t k p list) past refl)

  still_known : (u : ℕ) (statement : Statement) → IsUnderWay (session_with script (work_seen taken new.work) old.course.next moved) u statement
      → IsKnown programs.types statement old.course (own_database programs (events.Granted t k p list ∷ past) u)
  still_known u statement way =
      let one : Some (Ok is.statement) ≡ Some (Ok statement) = sym is.under_way.text ∙ way.text in
      let same : is.statement ≡ statement = cc in
      let number : t ≡ u = one_number t u (sym lives_still ∙ asking_lives (session_place_of gone.step.place) u way.asking) in
      subst (λ n. IsKnown programs.types statement old.course (own_database programs (events.Granted t k p list ∷ past) n)) number
      (subst (λ d. IsKnown programs.types statement old.course d) (sym same_own)
      (subst (λ s. IsKnown programs.types s old.course (own_database programs past t)) same is.known))

  pub tied_granted : IsTied programs script (events.Granted t k p list ∷ past) (made (events.Granted t k p list) ∷ steps) new
  tied_granted = subst
      (λ (s : Session). IsTied programs script (events.Granted t k p list ∷ past) (made (events.Granted t k p list) ∷ steps) s) (sym gone.rest)
      (record {
        pieces = taken;
        walking = record { is_session = walking_session; is_walk = walking_walk };
        holding = granted_holding programs bound past t is.pieces old.work new.work piece list store are room legal_then keeps
            (is.walking.is_session.lives_there t granted_live).is_work is.holding under gone.put;
        known = still_known;
        read = subst (λ r. IsNextStatement script old.next r) (sym is.read) is.under_way.text;
        plenty = is.plenty;
      })
