-- To which statement the transaction of a session has come behind each step.
use Rattle.std.proofs.Common.{◌≡◌, ◌≢◌, ℕ, zero, suc, ◌<◌, ◌≤◌, inl, inr, Bool, true, false, if◌then◌else◌, List, [], ◌∷◌, Option, Some, None, refl, sym, ap, ◌∙◌, subst, arith}
use Rattle.std.specs.Prelude.{IfSome, IsTrue}
use Rattle.std.proofs.lemmas.Bool.{cases_lt, false≢true}
use Rattle.ras_syntax.specs.declared.event.Event.{Event}
use Rattle.ras_syntax.specs.declared.event.Event.TheVariants.{Begun, Granted, Refused, Answered, GaveUp, Committed, Aborted}
use Rattle.ras_syntax.specs.declared.statement.Statement.{Statement}
use Rattle.ras_syntax.specs.declared.statement.Word.TheVariants.{Begin, Commit, Abort}
use Rattle.spec_statements.specs.Locks.{Lock}
use Rattle.spec_statements.specs.Reply.{reply_of_answer}
use Rattle.spec_histories.specs.History.{History, Programs, answered_statements, committed_database, database_after, events_of, has_phase, own_database, owner_of, program_needs, statement_numbered}
use Rattle.spec_histories.specs.Legal.{IsDueList, IsLegal}
use Rattle.law_histories.proofs.Owners.{mine-own}
use Rattle.law_views.proofs.Room.{fresh}
use Rattle.spec_sessions.specs.Walk.{After, Closed, LineReply, Opened, ReadScript, ScriptItem, SessionPlace, State, after_event, after_quiet, at_aborted, at_begun, at_committed, at_data, by_failure, by_giving_up, by_success, committed, data_statement, ending, free, if_data, in_ending, in_free, in_inside, in_leaving, in_own, inside, is_due_commit, is_success, item_at, leaving, lost, own, quiet_free, quiet_inside, quiet_lost, refused_with, session_word, the_end, told, unread, with_bad}
use Rattle.law_walks.specs.Session.{HasComeTo, IsInPlace, IsAtStatement, phase_behind}
use Rattle.law_walks.proofs.Statements.{ClosesOnly, answered-closes, closed_moves, fresh_statement, gave_up-closes, granted_moves, refused-closes, told_moves}
use Rattle.law_walks.proofs.Turns.{IsOwnEvent}

-- ---- of the history

begun_at_statement : (programs : Programs) (past : History) (u i n k : ℕ) → IsLegal programs (Begun u i n ∷ past)
    → IsInPlace programs (Begun u i n ∷ past) u k 1 false
begun_at_statement programs past u i n k legal =
    subst (λ m. IsAtStatement programs m (own_database programs (Begun u i n ∷ past) u) k 1 false) (sym alone)
    (fresh_statement programs (Begun u i n ∷ []) (own_database programs (Begun u i n ∷ past) u) k refl refl (λ other differs. refl) (λ other more. (refl, refl)))
  where
    alone : events_of u (Begun u i n ∷ past) ≡ Begun u i n ∷ []
    alone = mine-own u (Begun u i n) past refl ∙ ap (λ m. Begun u i n ∷ m) (fresh programs past u legal.1 (omega (arith, legal.0.0)))

at_closed : (programs : Programs) (past : History) (t k phase : ℕ) (granted : Bool) (event : Event) → IsInPlace programs past t k phase granted
    → ClosesOnly k event → owner_of event ≡ t → IsInPlace programs (event ∷ past) t (suc k) 1 false
at_closed programs past t k phase granted event at only owner =
    subst (λ m. IsAtStatement programs m (own_database programs (event ∷ past) t) (suc k) 1 false) (sym (mine-own t event past owner))
    (closed_moves programs (events_of t past) (own_database programs past t) (own_database programs (event ∷ past) t) k phase granted event at only)

at_granted : (programs : Programs) (past : History) (t k phase : ℕ) (granted : Bool) (u n p : ℕ) (list : List Lock) → IsInPlace programs past t k phase granted
    → IsDueList programs past u n p list → u ≡ t → n ≡ k → IsInPlace programs (Granted u n p list ∷ past) t k (suc p) true
at_granted programs past t k phase granted u n p list at asked owner is =
    subst (λ m. IsAtStatement programs m (database_after programs (answered_statements programs m) (committed_database programs past)) k (suc p) true)
    (sym (mine-own t (Granted u n p list) past owner))
    (granted_moves programs (events_of t past) (own_database programs past t) k phase granted u n p list at is above earlier)
  where
    due : IsDueList programs past t k p list
    due = subst (λ x. IsDueList programs past x k p list) owner (subst (λ y. IsDueList programs past u y p list) is asked)

    above : phase ≤ p
    above = elim (cases_lt p phase) [
      | inl less ↦ absurd (false≢true (sym due.not_granted ∙ at.earlier due.statement p due.going_on.text less (λ none. due.some_locks (due.needed ∙ none))))
      | inr more ↦ more
    ]

    earlier : (statement : Statement) (q : ℕ) → statement_numbered programs (events_of t past) k ≡ Some statement → q < p
        → program_needs programs statement q (own_database programs past t) ≢ [] → IsTrue (has_phase k q (events_of t past))
    earlier statement q text before some =
        let two : Some statement ≡ Some due.statement = sym text ∙ due.going_on.text in
        let same : statement ≡ due.statement = cc in
        due.earlier q before (subst (λ s. program_needs programs s q (own_database programs past t) ≢ []) same some)

-- the transaction that lives is the event's
live-is : (u t : ℕ) → Some t ≡ Some u → u ≡ t
live-is u t is = cc

-- ---- by the place

abbrev ComesBy : Programs → History → ReadScript → ℕ → After → Type 0
ComesBy programs past script phase after = IfSome after (λ next. HasComeTo programs past script next.1.next phase next.1.place)

if_data-comes : (P : Option LineReply × State → Type 0) (item : ScriptItem) (after : After) → (item ≡ data_statement → IfSome after P)
    → IfSome (if_data item after) P
if_data-comes P the_end after holds = tt
if_data-comes P (unread fault) after holds = tt
if_data-comes P (session_word w) after holds = tt
if_data-comes P data_statement after holds = holds refl

module _ (programs : Programs) (past : History) (script : ReadScript) (session k phase : ℕ) where
  begun-comes : (item : ScriptItem) (attempts : Option ℕ) (u i n : ℕ) → item_at script k ≡ item → IsLegal programs (Begun u i n ∷ past)
      → ComesBy programs (Begun u i n ∷ past) script 1 (at_begun k item attempts u)
  begun-comes the_end attempts u i n is legal = tt
  begun-comes (unread fault) attempts u i n is legal = tt
  begun-comes (session_word (Begin written)) attempts u i n is legal = ((λ is. absurd (false≢true is)), begun_at_statement programs past u i n (suc k) legal)
  begun-comes (session_word (Commit anyway)) attempts u i n is legal = tt
  begun-comes (session_word Abort) attempts u i n is legal = tt
  begun-comes data_statement attempts u i n is legal = (is, begun_at_statement programs past u i n k legal)

  free-comes : (item : ScriptItem) (attempts : Option ℕ) (event : Event) → item_at script k ≡ item → IsLegal programs (event ∷ past)
      → ComesBy programs (event ∷ past) script (phase_behind event) (in_free k item attempts event)
  free-comes item attempts (Begun u i n) is legal = begun-comes item attempts u i n is legal
  free-comes item attempts (Granted u n p list) is legal = tt
  free-comes item attempts (Refused u n p lock mode holder) is legal = tt
  free-comes item attempts (Answered u n answer) is legal = tt
  free-comes item attempts (GaveUp u n) is legal = tt
  free-comes item attempts (Committed u n) is legal = tt
  free-comes item attempts (Aborted u) is legal = tt

  committed-comes : (item : ScriptItem) (opened : Opened) (u n : ℕ) → ComesBy programs (Committed u n ∷ past) script 1 (at_committed k item opened n)
  committed-comes the_end opened u n = tt
  committed-comes (unread fault) opened u n = tt
  committed-comes (session_word (Begin written)) opened u n = tt
  committed-comes (session_word (Commit anyway)) opened u n = if_free (is_due_commit anyway opened.bad)
    where
      if_free : (b : Bool) → ComesBy programs (Committed u n ∷ past) script 1 (if b then told k (committed n) (free None) else None)
      if_free true = tt
      if_free false = tt
  committed-comes (session_word Abort) opened u n = tt
  committed-comes data_statement opened u n = tt

  aborted-comes : (item : ScriptItem) (opened : Opened) (u : ℕ) → ComesBy programs (Aborted u ∷ past) script 1 (at_aborted k item opened)
  aborted-comes the_end opened u = tt
  aborted-comes (unread fault) opened u = tt
  aborted-comes (session_word (Begin written)) opened u = tt
  aborted-comes (session_word (Commit anyway)) opened u = tt
  aborted-comes (session_word Abort) opened u = tt
  aborted-comes data_statement opened u = tt

  -- behind a closed statement nothing has a grant
  behind-closed : (opened : Opened) (granted : Bool) (event : Event) → IsInPlace programs past opened.t k phase granted → ClosesOnly k event
      → owner_of event ≡ opened.t → HasComeTo programs (event ∷ past) script (suc k) 1 (inside opened false)
  behind-closed opened granted event at only owner = ((λ is. absurd (false≢true is)), at_closed programs past opened.t k phase granted event at only owner)

  refused-comes : (attempts : ℕ) (opened : Opened) (granted : Bool) (event : Event) → IsInPlace programs past opened.t k phase granted → ClosesOnly k event
      → owner_of event ≡ opened.t → ComesBy programs (event ∷ past) script 1 (refused_with k attempts opened)
  refused-comes zero opened granted event at only owner = behind-closed opened granted event at only owner
  refused-comes (suc attempts) opened granted event at only owner = tt

  answered-comes : (good : Bool) (opened : Opened) (granted : Bool) (event : Event) → IsInPlace programs past opened.t k phase granted → ClosesOnly k event
      → owner_of event ≡ opened.t → HasComeTo programs (event ∷ past) script (suc k) 1 (inside (if good then opened else with_bad opened k) false)
  answered-comes true opened granted event at only owner = behind-closed opened granted event at only owner
  answered-comes false opened granted event at only owner = behind-closed opened granted event at only owner

  data-comes : (opened : Opened) (granted : Bool) (event : Event) → item_at script k ≡ data_statement → IsLegal programs (event ∷ past)
      → IsOwnEvent session (record { next = k; place = inside opened granted }) event → IsInPlace programs past opened.t k phase granted
      → ComesBy programs (event ∷ past) script (phase_behind event) (at_data k opened granted event)
  unfolding IsOwnEvent
  data-comes opened granted (Begun u i n) is_data legal mine at = tt
  data-comes opened granted (Granted u n p list) is_data legal mine at =
      let owner : u ≡ opened.t = live-is u opened.t mine.0 in
      ((λ is. is_data), at_granted programs past opened.t k phase granted u n p list at legal.0.0 owner mine.1)
  data-comes opened granted (Refused u n p lock mode holder) is_data legal mine at =
      let owner : u ≡ opened.t = live-is u opened.t mine.0 in
      refused-comes opened.attempts opened granted (Refused u n p lock mode holder) at (refused-closes u n k p holder lock mode mine.1) owner
  data-comes opened granted (Answered u n answer) is_data legal mine at =
      let owner : u ≡ opened.t = live-is u opened.t mine.0 in
      answered-comes (is_success (reply_of_answer answer)) opened granted (Answered u n answer) at (answered-closes u n k answer mine.1) owner
  data-comes opened true (GaveUp u n) is_data legal mine at =
      let owner : u ≡ opened.t = live-is u opened.t mine.0 in
      behind-closed opened true (GaveUp u n) at (gave_up-closes u n k mine.1) owner
  data-comes opened false (GaveUp u n) is_data legal mine at = tt
  data-comes opened granted (Committed u n) is_data legal mine at = tt
  data-comes opened granted (Aborted u) is_data legal mine at = tt

  inside-comes : (item : ScriptItem) (opened : Opened) (granted : Bool) (event : Event) → item_at script k ≡ item → IsLegal programs (event ∷ past)
      → IsOwnEvent session (record { next = k; place = inside opened granted }) event → IsInPlace programs past opened.t k phase granted
      → ComesBy programs (event ∷ past) script (phase_behind event) (in_inside k item opened granted event)
  inside-comes item opened granted (Begun u i n) is legal mine at =
      if_data-comes (λ next. HasComeTo programs (Begun u i n ∷ past) script next.1.next 1 next.1.place) item (at_data k opened granted (Begun u i n)) (λ same. tt)
  inside-comes item opened granted (Granted u n p list) is legal mine at =
      if_data-comes (λ next. HasComeTo programs (Granted u n p list ∷ past) script next.1.next (suc p) next.1.place)
      item (at_data k opened granted (Granted u n p list))
      (λ same. data-comes opened granted (Granted u n p list) (is ∙ same) legal mine at)
  inside-comes item opened granted (Refused u n p lock mode holder) is legal mine at =
      if_data-comes (λ next. HasComeTo programs (Refused u n p lock mode holder ∷ past) script next.1.next 1 next.1.place)
      item (at_data k opened granted (Refused u n p lock mode holder))
      (λ same. data-comes opened granted (Refused u n p lock mode holder) (is ∙ same) legal mine at)
  inside-comes item opened granted (Answered u n answer) is legal mine at =
      if_data-comes (λ next. HasComeTo programs (Answered u n answer ∷ past) script next.1.next 1 next.1.place) item (at_data k opened granted (Answered u n answer))
      (λ same. data-comes opened granted (Answered u n answer) (is ∙ same) legal mine at)
  inside-comes item opened granted (GaveUp u n) is legal mine at =
      if_data-comes (λ next. HasComeTo programs (GaveUp u n ∷ past) script next.1.next 1 next.1.place) item (at_data k opened granted (GaveUp u n))
      (λ same. data-comes opened granted (GaveUp u n) (is ∙ same) legal mine at)
  inside-comes item opened granted (Committed u n) is legal mine at = committed-comes item opened u n
  inside-comes item opened granted (Aborted u) is legal mine at = aborted-comes item opened u

  leaving-comes : (opened : Opened) (event : Event) → ComesBy programs (event ∷ past) script (phase_behind event) (in_leaving opened event)
  leaving-comes opened (Begun u i n) = tt
  leaving-comes opened (Granted u n p list) = tt
  leaving-comes opened (Refused u n p lock mode holder) = tt
  leaving-comes opened (Answered u n answer) = tt
  leaving-comes opened (GaveUp u n) = tt
  leaving-comes opened (Committed u n) = tt
  leaving-comes opened (Aborted u) = tt

  own-comes : (t : ℕ) (granted : Bool) (event : Event) → item_at script k ≡ data_statement → IsLegal programs (event ∷ past)
      → IsOwnEvent session (record { next = k; place = own t granted }) event → IsInPlace programs past t k phase granted
      → ComesBy programs (event ∷ past) script (phase_behind event) (in_own k t granted event)
  unfolding IsOwnEvent
  own-comes t granted (Begun u i n) is legal mine at = tt
  own-comes t granted (Granted u n p list) is legal mine at =
      (is, at_granted programs past t k phase granted u n p list at legal.0.0 (live-is u t mine.0) mine.1)
  own-comes t granted (Refused u n p lock mode holder) is legal mine at = tt
  own-comes t granted (Answered u n answer) is legal mine at = tt
  own-comes t true (GaveUp u n) is legal mine at = tt
  own-comes t false (GaveUp u n) is legal mine at = tt
  own-comes t granted (Committed u n) is legal mine at = tt
  own-comes t true (Aborted u) is legal mine at = tt
  own-comes t false (Aborted u) is legal mine at = tt

  ending-comes : (t : ℕ) (closed : Closed) (event : Event) → ComesBy programs (event ∷ past) script (phase_behind event) (in_ending k closed event)
  ending-comes t by_success (Begun u i n) = tt
  ending-comes t by_success (Granted u n p list) = tt
  ending-comes t by_success (Refused u n p lock mode holder) = tt
  ending-comes t by_success (Answered u n answer) = tt
  ending-comes t by_success (GaveUp u n) = tt
  ending-comes t by_success (Committed u n) = tt
  ending-comes t by_success (Aborted u) = tt
  ending-comes t by_failure (Begun u i n) = tt
  ending-comes t by_failure (Granted u n p list) = tt
  ending-comes t by_failure (Refused u n p lock mode holder) = tt
  ending-comes t by_failure (Answered u n answer) = tt
  ending-comes t by_failure (GaveUp u n) = tt
  ending-comes t by_failure (Committed u n) = tt
  ending-comes t by_failure (Aborted u) = tt
  ending-comes t by_giving_up (Begun u i n) = tt
  ending-comes t by_giving_up (Granted u n p list) = tt
  ending-comes t by_giving_up (Refused u n p lock mode holder) = tt
  ending-comes t by_giving_up (Answered u n answer) = tt
  ending-comes t by_giving_up (GaveUp u n) = tt
  ending-comes t by_giving_up (Committed u n) = tt
  ending-comes t by_giving_up (Aborted u) = tt

  pub event-comes : (item : ScriptItem) (place : SessionPlace) (event : Event) → item_at script k ≡ item → IsLegal programs (event ∷ past)
      → IsOwnEvent session (record { next = k; place = place }) event → HasComeTo programs past script k phase place
      → ComesBy programs (event ∷ past) script (phase_behind event) (after_event k item place event)
  event-comes item (free attempts) event is legal mine has = free-comes item attempts event is legal
  event-comes item lost event is legal mine has = tt
  event-comes item (inside opened granted) event is legal mine has = inside-comes item opened granted event is legal mine has.1
  event-comes item (leaving opened) event is legal mine has = leaving-comes opened event
  event-comes item (own t granted) event is legal mine has = own-comes t granted event has.0 legal mine has.1
  event-comes item (ending t closed) event is legal mine has = ending-comes t closed event

  -- ---- behind a line without an event

  quiet_free-comes : (item : ScriptItem) (wanting : Bool) → ComesBy programs past script 1 (quiet_free k item wanting)
  quiet_free-comes the_end true = tt
  quiet_free-comes the_end false = tt
  quiet_free-comes (unread fault) true = tt
  quiet_free-comes (unread fault) false = tt
  quiet_free-comes (session_word (Begin written)) true = tt
  quiet_free-comes (session_word (Begin written)) false = tt
  quiet_free-comes (session_word (Commit anyway)) true = tt
  quiet_free-comes (session_word (Commit anyway)) false = tt
  quiet_free-comes (session_word Abort) true = tt
  quiet_free-comes (session_word Abort) false = tt
  quiet_free-comes data_statement true = tt
  quiet_free-comes data_statement false = tt

  quiet_lost-comes : (item : ScriptItem) (wanting : Bool) → ComesBy programs past script 1 (quiet_lost k item wanting)
  quiet_lost-comes the_end true = tt
  quiet_lost-comes the_end false = tt
  quiet_lost-comes (unread fault) true = tt
  quiet_lost-comes (unread fault) false = tt
  quiet_lost-comes (session_word (Begin written)) true = tt
  quiet_lost-comes (session_word (Begin written)) false = tt
  quiet_lost-comes (session_word (Commit anyway)) true = tt
  quiet_lost-comes (session_word (Commit anyway)) false = tt
  quiet_lost-comes (session_word Abort) true = tt
  quiet_lost-comes (session_word Abort) false = tt
  quiet_lost-comes data_statement true = tt
  quiet_lost-comes data_statement false = tt

  -- only a data statement has a grant
  behind-told : (item : ScriptItem) (opened : Opened) (granted : Bool) → item_at script k ≡ item → item ≢ data_statement
      → HasComeTo programs past script k phase (inside opened granted) → HasComeTo programs past script (suc k) 1 (inside opened false)
  behind-told item opened true is differs has = absurd (differs (sym is ∙ has.0 refl))
  behind-told item opened false is differs has =
      ((λ two. absurd (false≢true two)), told_moves programs (events_of opened.t past) (own_database programs past opened.t) k phase has.1)

  quiet_inside-comes : (item : ScriptItem) (opened : Opened) (granted wanting : Bool) → item_at script k ≡ item
      → HasComeTo programs past script k phase (inside opened granted) → ComesBy programs past script 1 (quiet_inside k item opened granted wanting)
  quiet_inside-comes the_end opened granted wanting is has = tt
  quiet_inside-comes (unread fault) opened granted wanting is has = behind-told (unread fault) opened granted is (λ same. absurd cc) has
  quiet_inside-comes (session_word (Begin written)) opened granted true is has = tt
  quiet_inside-comes (session_word (Begin written)) opened granted false is has =
      behind-told (session_word (Begin written)) opened granted is (λ same. absurd cc) has
  quiet_inside-comes (session_word (Commit anyway)) opened granted wanting is has = tt
  quiet_inside-comes (session_word Abort) opened granted wanting is has = tt
  quiet_inside-comes data_statement opened true true is has = tt
  quiet_inside-comes data_statement opened true false is has = tt
  quiet_inside-comes data_statement opened false true is has =
      ((λ two. absurd (false≢true two)), told_moves programs (events_of opened.t past) (own_database programs past opened.t) k phase has.1)
  quiet_inside-comes data_statement opened false false is has = tt

  pub quiet-comes : (item : ScriptItem) (place : SessionPlace) (wanting : Bool) → item_at script k ≡ item → HasComeTo programs past script k phase place
      → ComesBy programs past script 1 (after_quiet k item place wanting)
  quiet-comes item (free attempts) wanting is has = quiet_free-comes item wanting
  quiet-comes item lost wanting is has = quiet_lost-comes item wanting
  quiet-comes item (inside opened granted) wanting is has = quiet_inside-comes item opened granted wanting is has
  quiet-comes item (leaving opened) wanting is has = tt
  quiet-comes item (own t granted) wanting is has = tt
  quiet-comes item (ending t closed) wanting is has = tt
