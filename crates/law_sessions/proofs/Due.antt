-- What a session's next step is, where nothing is told of want of memory: a line without an event, or which event on which
-- transaction.
use Rattle.std.proofs.Common.{◌≡◌, ◌≢◌, ℕ, zero, suc, Bool, true, false, ◌&&◌, ◌==◌, if◌then◌else◌, Option, Some, None, refl, sym, ap, ◌∙◌, subst}
use Rattle.std.specs.Prelude.{IfSome, IsTrue}
use Rattle.std.proofs.lemmas.Bool.{and_parts, eqb-true, false≢true}
use Rattle.ras_syntax.specs.declared.event.Event.{Event}
use Rattle.ras_syntax.specs.declared.event.Event.TheVariants.{Begun, Granted, Refused, Answered, GaveUp, Committed, Aborted}
use Rattle.ras_syntax.specs.declared.statement.Word.TheVariants.{Begin, Commit, Abort}
use Rattle.spec_histories.specs.History.{History, Programs}
use Rattle.spec_histories.specs.Legal.{MayFollow}
use Rattle.spec_sessions.specs.Printable.{is_given_up}
use Rattle.spec_sessions.specs.Walk.{After, Closed, LineReply, Opened, ReadScript, ScriptItem, SessionPlace, State, Step, after_event, after_quiet, at_aborted, at_begun, at_committed, at_data, by_failure, by_giving_up, by_success, committed, data_statement, ending, fits, free, if_data, in_ending, in_free, in_inside, in_leaving, in_own, inside, is_at_rest, is_due_commit, is_end, is_over, item_at, leaving, lost, made, out_of_memory, own, quiet, quiet_free, quiet_inside, quiet_lost, refused_with, reply_of_abort, session_word, step_from, the_end, told, unread}
use Rattle.law_sessions.specs.Plain.{plain_event}
use Rattle.law_sessions.proofs.Determined.{IsDataEvent, data-same}

-- ---- what is due

pub data Due : Type 0 where
  nothing_due : Due
  line_due : Due
  begin_due : Due
  commit_due : ℕ → Due
  abort_due : ℕ → Due
  statement_due : ℕ → Due

abbrev ended_by : Bool → ℕ → Due
ended_by commits u = if commits then commit_due u else abort_due u

abbrev due_at : ScriptItem → SessionPlace → Due
due_at the_end (free attempts) = nothing_due
due_at (unread fault) (free attempts) = line_due
due_at (session_word (Begin written)) (free attempts) = begin_due
due_at (session_word (Commit anyway)) (free attempts) = line_due
due_at (session_word Abort) (free attempts) = line_due
due_at data_statement (free attempts) = begin_due
due_at item lost = nothing_due
due_at the_end (inside opened granted) = abort_due opened.t
due_at (unread fault) (inside opened granted) = line_due
due_at (session_word (Begin written)) (inside opened granted) = line_due
due_at (session_word (Commit anyway)) (inside opened granted) = ended_by (is_due_commit anyway opened.bad) opened.t
due_at (session_word Abort) (inside opened granted) = abort_due opened.t
due_at data_statement (inside opened granted) = statement_due opened.t
due_at item (leaving opened) = abort_due opened.t
due_at item (own u granted) = statement_due u
due_at item (ending u by_success) = commit_due u
due_at item (ending u by_failure) = abort_due u
due_at item (ending u by_giving_up) = nothing_due

-- the event is such a one, of this session and statement
abbrev IsEventOf : (session k : ℕ) → Due → Event → Type 0
IsEventOf session k nothing_due event = ⊥
IsEventOf session k line_due event = ⊥
IsEventOf session k begin_due event = (t : ℕ) × (event ≡ Begun t session k)
IsEventOf session k (commit_due u) event = (n : ℕ) × (event ≡ Committed u n)
IsEventOf session k (abort_due u) event = event ≡ Aborted u
IsEventOf session k (statement_due u) event = IsDataEvent u k event

abbrev IsLineDue : Due → Bool → Type 0
IsLineDue nothing_due wanting = ⊥
IsLineDue line_due wanting = wanting ≡ false
IsLineDue begin_due wanting = ⊥
IsLineDue (commit_due u) wanting = ⊥
IsLineDue (abort_due u) wanting = ⊥
IsLineDue (statement_due u) wanting = ⊥

abbrev IsStepOf : (session k : ℕ) → Due → Step → Type 0
IsStepOf session k due (made event) = IsEventOf session k due event
IsStepOf session k due (quiet wanting) = IsLineDue due wanting

-- no line tells of want of memory, and no statement is given up
abbrev pub IsTold : Option LineReply → Type 0
IsTold None = Unit {0}
IsTold (Some reply) = reply ≢ out_of_memory

abbrev pub IsKeptUp : Step → Type 0
IsKeptUp (made event) = is_given_up event ≡ false
IsKeptUp (quiet wanting) = Unit {0}

-- where a step comes from here and is told, it is the due one
abbrev IsDueStep : (session k : ℕ) → ScriptItem → SessionPlace → Step → After → Type 0
IsDueStep session k item place step after = IfSome after (λ next. IsTold next.0 → IsStepOf session k (due_at item place) step)

-- ---- events, by the place

begun-due : (session k : ℕ) (item : ScriptItem) (attempts : Option ℕ) (t i n : ℕ) → ((i == session) && (n == k)) ≡ true
    → IsDueStep session k item (free attempts) (made (Begun t i n)) (at_begun k item attempts t)
begun-due session k the_end attempts t i n fit = tt
begun-due session k (unread fault) attempts t i n fit = tt
begun-due session k (session_word (Begin written)) attempts t i n fit =
    let both = and_parts (i == session) (n == k) fit in
    let e : i ≡ session = eqb-true i session both.0 in
    let f : n ≡ k = eqb-true n k both.1 in
    λ is_told. (t, (λ j. Begun t (e j) (f j)))
begun-due session k (session_word (Commit anyway)) attempts t i n fit = tt
begun-due session k (session_word Abort) attempts t i n fit = tt
begun-due session k data_statement attempts t i n fit =
    let both = and_parts (i == session) (n == k) fit in
    let e : i ≡ session = eqb-true i session both.0 in
    let f : n ≡ k = eqb-true n k both.1 in
    λ is_told. (t, (λ j. Begun t (e j) (f j)))

free-due : (session k : ℕ) (item : ScriptItem) (attempts : Option ℕ) (event : Event) → fits session (record { next = k; place = free attempts }) event ≡ true
    → IsDueStep session k item (free attempts) (made event) (in_free k item attempts event)
free-due session k item attempts (Begun t i n) fit = begun-due session k item attempts t i n fit
free-due session k item attempts (Granted t n p list) fit = tt
free-due session k item attempts (Refused t n p name mode holder) fit = tt
free-due session k item attempts (Answered t n answer) fit = tt
free-due session k item attempts (GaveUp t n) fit = tt
free-due session k item attempts (Committed t n) fit = tt
free-due session k item attempts (Aborted t) fit = tt

committed-due : (session k : ℕ) (item : ScriptItem) (opened : Opened) (granted : Bool) (t number : ℕ) → t ≡ opened.t
    → IsDueStep session k item (inside opened granted) (made (Committed t number)) (at_committed k item opened number)
committed-due session k the_end opened granted t number is = tt
committed-due session k (unread fault) opened granted t number is = tt
committed-due session k (session_word (Begin written)) opened granted t number is = tt
committed-due session k (session_word (Commit anyway)) opened granted t number is = by (is_due_commit anyway opened.bad)
  where
    by : (b : Bool) → IfSome (if b then told k (committed number) (free None) else None)
        (λ next. IsTold next.0 → IsStepOf session k (ended_by b opened.t) (made (Committed t number)))
    by true = λ is_told. (number, ap (λ u. Committed u number) is)
    by false = tt
committed-due session k (session_word Abort) opened granted t number is = tt
committed-due session k data_statement opened granted t number is = tt

aborted-due : (session k : ℕ) (item : ScriptItem) (opened : Opened) (granted : Bool) (t : ℕ) → t ≡ opened.t
    → IsDueStep session k item (inside opened granted) (made (Aborted t)) (at_aborted k item opened)
aborted-due session k the_end opened granted t is = λ is_told. ap Aborted is
aborted-due session k (unread fault) opened granted t is = tt
aborted-due session k (session_word (Begin written)) opened granted t is = tt
aborted-due session k (session_word (Commit anyway)) opened granted t is = by anyway opened.bad
  where
    by : (anyway : Bool) (bad : Option ℕ) → IsTold (Some (reply_of_abort anyway bad)) → IsStepOf session k (ended_by (is_due_commit anyway bad) opened.t) (made (Aborted t))
    by true bad is_told = absurd (is_told refl)
    by false None is_told = absurd (is_told refl)
    by false (Some f) is_told = ap Aborted is
aborted-due session k (session_word Abort) opened granted t is = λ is_told. ap Aborted is
aborted-due session k data_statement opened granted t is = tt

both-fit : (t u n k : ℕ) → ((t == u) && (n == k)) ≡ true → (t ≡ u) × (n ≡ k)
both-fit t u n k fit = let both = and_parts (t == u) (n == k) fit in (eqb-true t u both.0, eqb-true n k both.1)

refused-due : (session k attempts : ℕ) (opened : Opened) (granted : Bool) (step : Step) → IsStepOf session k (statement_due opened.t) step
    → IsDueStep session k data_statement (inside opened granted) step (refused_with k attempts opened)
refused-due session k zero opened granted step is = λ is_told. is
refused-due session k (suc attempts) opened granted step is = λ is_told. is

data-due : (session k : ℕ) (opened : Opened) (granted : Bool) (event : Event) → fits session (record { next = k; place = inside opened granted }) event ≡ true
    → IsDueStep session k data_statement (inside opened granted) (made event) (at_data k opened granted event)
data-due session k opened granted (Begun t i n) fit = tt
data-due session k opened granted (Granted t n p list) fit = λ is_told. both-fit t opened.t n k fit
data-due session k opened granted (Refused t n p name mode holder) fit =
    refused-due session k opened.attempts opened granted (made (Refused t n p name mode holder)) (both-fit t opened.t n k fit)
data-due session k opened granted (Answered t n answer) fit = λ is_told. both-fit t opened.t n k fit
data-due session k opened true (GaveUp t n) fit = λ is_told. absurd (is_told refl)
data-due session k opened false (GaveUp t n) fit = tt
data-due session k opened granted (Committed t n) fit = tt
data-due session k opened granted (Aborted t) fit = tt

if_data-due : (session k : ℕ) (item : ScriptItem) (place : SessionPlace) (step : Step) (after : After) → IsDueStep session k data_statement place step after
    → IsDueStep session k item place step (if_data item after)
if_data-due session k the_end place step after is = tt
if_data-due session k (unread fault) place step after is = tt
if_data-due session k (session_word w) place step after is = tt
if_data-due session k data_statement place step after is = is

inside-due : (session k : ℕ) (item : ScriptItem) (opened : Opened) (granted : Bool) (event : Event)
    → fits session (record { next = k; place = inside opened granted }) event ≡ true → IsDueStep session k item (inside opened granted) (made event)
    (in_inside k item opened granted event)
inside-due session k item opened granted (Begun t i n) fit =
    if_data-due session k item (inside opened granted) (made (Begun t i n)) (at_data k opened granted (Begun t i n)) (data-due session k opened granted (Begun t i n) fit)
inside-due session k item opened granted (Granted t n p list) fit =
    if_data-due session k item (inside opened granted) (made (Granted t n p list)) (at_data k opened granted (Granted t n p list))
    (data-due session k opened granted (Granted t n p list) fit)
inside-due session k item opened granted (Refused t n p name mode holder) fit =
    if_data-due session k item (inside opened granted) (made (Refused t n p name mode holder)) (at_data k opened granted (Refused t n p name mode holder))
    (data-due session k opened granted (Refused t n p name mode holder) fit)
inside-due session k item opened granted (Answered t n answer) fit =
    if_data-due session k item (inside opened granted) (made (Answered t n answer)) (at_data k opened granted (Answered t n answer))
    (data-due session k opened granted (Answered t n answer) fit)
inside-due session k item opened granted (GaveUp t n) fit =
    if_data-due session k item (inside opened granted) (made (GaveUp t n)) (at_data k opened granted (GaveUp t n)) (data-due session k opened granted (GaveUp t n) fit)
inside-due session k item opened granted (Committed t n) fit = committed-due session k item opened granted t n (eqb-true t opened.t fit)
inside-due session k item opened granted (Aborted t) fit = aborted-due session k item opened granted t (eqb-true t opened.t fit)

leaving-due : (session k : ℕ) (item : ScriptItem) (opened : Opened) (event : Event) → fits session (record { next = k; place = leaving opened }) event ≡ true
    → IsDueStep session k item (leaving opened) (made event) (in_leaving opened event)
leaving-due session k item opened (Begun t i n) fit = tt
leaving-due session k item opened (Granted t n p list) fit = tt
leaving-due session k item opened (Refused t n p name mode holder) fit = tt
leaving-due session k item opened (Answered t n answer) fit = tt
leaving-due session k item opened (GaveUp t n) fit = tt
leaving-due session k item opened (Committed t n) fit = tt
leaving-due session k item opened (Aborted t) fit = λ is_told. ap Aborted (eqb-true t opened.t fit)

own-due : (session k : ℕ) (item : ScriptItem) (u : ℕ) (granted : Bool) (event : Event) → fits session (record { next = k; place = own u granted }) event ≡ true
    → is_given_up event ≡ false → IsDueStep session k item (own u granted) (made event) (in_own k u granted event)
own-due session k item u granted (Begun t i n) fit kept = tt
own-due session k item u granted (Granted t n p list) fit kept = λ is_told. both-fit t u n k fit
own-due session k item u granted (Refused t n p name mode holder) fit kept = λ is_told. both-fit t u n k fit
own-due session k item u granted (Answered t n answer) fit kept = λ is_told. both-fit t u n k fit
own-due session k item u true (GaveUp t n) fit kept = absurd (false≢true (sym kept))
own-due session k item u false (GaveUp t n) fit kept = tt
own-due session k item u granted (Committed t n) fit kept = tt
own-due session k item u true (Aborted t) fit kept = tt
own-due session k item u false (Aborted t) fit kept = λ is_told. absurd (is_told refl)

ending-due : (session k : ℕ) (item : ScriptItem) (u : ℕ) (closed : Closed) (event : Event) → fits session (record { next = k; place = ending u closed }) event ≡ true
    → IsDueStep session k item (ending u closed) (made event) (in_ending k closed event)
ending-due session k item u by_success (Begun t i n) fit = tt
ending-due session k item u by_success (Granted t n p list) fit = tt
ending-due session k item u by_success (Refused t n p name mode holder) fit = tt
ending-due session k item u by_success (Answered t n answer) fit = tt
ending-due session k item u by_success (GaveUp t n) fit = tt
ending-due session k item u by_success (Committed t n) fit = λ is_told. (n, ap (λ v. Committed v n) (eqb-true t u fit))
ending-due session k item u by_success (Aborted t) fit = λ is_told. absurd (is_told refl)
ending-due session k item u by_failure (Begun t i n) fit = tt
ending-due session k item u by_failure (Granted t n p list) fit = tt
ending-due session k item u by_failure (Refused t n p name mode holder) fit = tt
ending-due session k item u by_failure (Answered t n answer) fit = tt
ending-due session k item u by_failure (GaveUp t n) fit = tt
ending-due session k item u by_failure (Committed t n) fit = tt
ending-due session k item u by_failure (Aborted t) fit = λ is_told. ap Aborted (eqb-true t u fit)
ending-due session k item u by_giving_up (Begun t i n) fit = tt
ending-due session k item u by_giving_up (Granted t n p list) fit = tt
ending-due session k item u by_giving_up (Refused t n p name mode holder) fit = tt
ending-due session k item u by_giving_up (Answered t n answer) fit = tt
ending-due session k item u by_giving_up (GaveUp t n) fit = tt
ending-due session k item u by_giving_up (Committed t n) fit = tt
ending-due session k item u by_giving_up (Aborted t) fit = λ is_told. absurd (is_told refl)

event-due : (session k : ℕ) (item : ScriptItem) (place : SessionPlace) (event : Event) → fits session (record { next = k; place = place }) event ≡ true
    → is_given_up event ≡ false → IsDueStep session k item place (made event) (after_event k item place event)
event-due session k item (free attempts) event fit kept = free-due session k item attempts event fit
event-due session k item lost event fit kept = tt
event-due session k item (inside opened granted) event fit kept = inside-due session k item opened granted event fit
event-due session k item (leaving opened) event fit kept = leaving-due session k item opened event fit
event-due session k item (own u granted) event fit kept = own-due session k item u granted event fit kept
event-due session k item (ending u closed) event fit kept = ending-due session k item u closed event fit

-- ---- lines without one

quiet_free-due : (session k : ℕ) (item : ScriptItem) (attempts : Option ℕ) (wanting : Bool)
    → IsDueStep session k item (free attempts) (quiet wanting) (quiet_free k item wanting)
quiet_free-due session k the_end attempts true = tt
quiet_free-due session k the_end attempts false = tt
quiet_free-due session k (unread fault) attempts true = λ is_told. absurd (is_told refl)
quiet_free-due session k (unread fault) attempts false = λ is_told. refl
quiet_free-due session k (session_word (Begin written)) attempts true = λ is_told. absurd (is_told refl)
quiet_free-due session k (session_word (Begin written)) attempts false = tt
quiet_free-due session k (session_word (Commit anyway)) attempts true = tt
quiet_free-due session k (session_word (Commit anyway)) attempts false = λ is_told. refl
quiet_free-due session k (session_word Abort) attempts true = tt
quiet_free-due session k (session_word Abort) attempts false = λ is_told. refl
quiet_free-due session k data_statement attempts true = λ is_told. absurd (is_told refl)
quiet_free-due session k data_statement attempts false = tt

quiet_lost-due : (session k : ℕ) (item : ScriptItem) (wanting : Bool) → IsDueStep session k item lost (quiet wanting) (quiet_lost k item wanting)
quiet_lost-due session k the_end true = tt
quiet_lost-due session k the_end false = tt
quiet_lost-due session k (unread fault) true = λ is_told. absurd (is_told refl)
quiet_lost-due session k (unread fault) false = tt
quiet_lost-due session k (session_word (Begin written)) true = λ is_told. absurd (is_told refl)
quiet_lost-due session k (session_word (Begin written)) false = tt
quiet_lost-due session k (session_word (Commit anyway)) true = λ is_told. absurd (is_told refl)
quiet_lost-due session k (session_word (Commit anyway)) false = tt
quiet_lost-due session k (session_word Abort) true = λ is_told. absurd (is_told refl)
quiet_lost-due session k (session_word Abort) false = tt
quiet_lost-due session k data_statement true = λ is_told. absurd (is_told refl)
quiet_lost-due session k data_statement false = tt

quiet_inside-due : (session k : ℕ) (item : ScriptItem) (opened : Opened) (granted wanting : Bool)
    → IsDueStep session k item (inside opened granted) (quiet wanting) (quiet_inside k item opened granted wanting)
quiet_inside-due session k the_end opened granted wanting = tt
quiet_inside-due session k (unread fault) opened granted true = λ is_told. absurd (is_told refl)
quiet_inside-due session k (unread fault) opened granted false = λ is_told. refl
quiet_inside-due session k (session_word (Begin written)) opened granted false = λ is_told. refl
quiet_inside-due session k (session_word (Begin written)) opened granted true = tt
quiet_inside-due session k (session_word (Commit anyway)) opened granted wanting = tt
quiet_inside-due session k (session_word Abort) opened granted wanting = tt
quiet_inside-due session k data_statement opened false true = λ is_told. absurd (is_told refl)
quiet_inside-due session k data_statement opened true true = tt
quiet_inside-due session k data_statement opened false false = tt
quiet_inside-due session k data_statement opened true false = tt

quiet-due : (session k : ℕ) (item : ScriptItem) (place : SessionPlace) (wanting : Bool) → IsDueStep session k item place (quiet wanting) (after_quiet k item place wanting)
quiet-due session k item (free attempts) wanting = quiet_free-due session k item attempts wanting
quiet-due session k item lost wanting = quiet_lost-due session k item wanting
quiet-due session k item (inside opened granted) wanting = quiet_inside-due session k item opened granted wanting
quiet-due session k item (leaving opened) wanting = tt
quiet-due session k item (own u granted) wanting = tt
quiet-due session k item (ending u closed) wanting = tt

-- ---- steps

-- what is due at a state
abbrev due : ReadScript → State → Due
due script state = due_at (item_at script state.next) state.place

if_given : (after : After) (next : Option LineReply × State) (P : Option LineReply × State → Type 0) → after ≡ Some next → IfSome after P → P next
if_given None next P is holds = absurd cc
if_given (Some other) next P is holds = let e : other ≡ next = cc in subst P e holds

step-due : (session : ℕ) (script : ReadScript) (state : State) (step : Step) (next : Option LineReply × State) → step_from session script state step ≡ Some next → IsTold next.0
    → IsKeptUp step → IsStepOf session state.next (due script state) step
step-due session script state (made event) next is is_told kept = at (fits session state event) refl is
  where
    at : (b : Bool) → fits session state event ≡ b → (if b then after_event state.next (item_at script state.next) state.place event else None) ≡ Some next
        → IsStepOf session state.next (due script state) (made event)
    at true fit is =
        if_given (after_event state.next (item_at script state.next) state.place event) next
        (λ n. IsTold n.0 → IsStepOf session state.next (due script state) (made event)) is (event-due session state.next (item_at script state.next) state.place event fit kept) is_told
    at false fit is = absurd cc
step-due session script state (quiet wanting) next is is_told kept =
    if_given (after_quiet state.next (item_at script state.next) state.place wanting) next
    (λ n. IsTold n.0 → IsStepOf session state.next (due script state) (quiet wanting)) is (quiet-due session state.next (item_at script state.next) state.place wanting) is_told

-- nothing is due where a walk is over
over-due : (script : ReadScript) (state : State) → IsTrue (is_over script state) → due script state ≡ nothing_due
over-due script state over = at (item_at script state.next) state.place over
  where
    at : (item : ScriptItem) (place : SessionPlace) → (is_end item && is_at_rest place) ≡ true → due_at item place ≡ nothing_due
    at the_end (free attempts) over = refl
    at the_end lost over = refl
    at the_end (inside opened granted) over = absurd (false≢true over)
    at the_end (leaving opened) over = absurd (false≢true over)
    at the_end (own u granted) over = absurd (false≢true over)
    at the_end (ending u closed) over = absurd (false≢true over)
    at (unread fault) place over = absurd (false≢true over)
    at (session_word w) place over = absurd (false≢true over)
    at data_statement place over = absurd (false≢true over)

nothing-comes : (session k : ℕ) (step : Step) → IsStepOf session k nothing_due step → ⊥
nothing-comes session k (made event) is = is
nothing-comes session k (quiet wanting) is = is

pub no_step_more : (session : ℕ) (script : ReadScript) (state : State) (step : Step) (next : Option LineReply × State) → IsTrue (is_over script state)
    → step_from session script state step ≡ Some next → IsTold next.0 → IsKeptUp step → ⊥
no_step_more session script state step next over is is_told kept =
    nothing-comes session state.next step
    (subst (λ d. IsStepOf session state.next d step) (over-due script state over) (step-due session script state step next is is_told kept))

-- ---- two steps that are due

abbrev pub plain_step : Step → Step
plain_step (made event) = made (plain_event event)
plain_step (quiet wanting) = quiet wanting

-- an event of the step may follow
abbrev pub MayStep : Programs → History → Step → Type 0
MayStep programs past (made event) = MayFollow programs past event
MayStep programs past (quiet wanting) = Unit {0}

events-same : (programs : Programs) (past : History) (session k : ℕ) (d : Due) (e f : Event) → IsEventOf session k d e → IsEventOf session k d f → MayFollow programs past e
    → MayFollow programs past f → plain_event e ≡ plain_event f
events-same programs past session k nothing_due e f is also one two = absurd is
events-same programs past session k line_due e f is also one two = absurd is
events-same programs past session k begin_due e f is also one two =
    let first = (subst (MayFollow programs past) is.1 one).0 in
    let second = (subst (MayFollow programs past) also.1 two).0 in
    ap plain_event (is.1 ∙ ap (λ t. Begun t session k) (first ∙ sym second) ∙ sym also.1)
events-same programs past session k (commit_due u) e f is also one two =
    let first = (subst (MayFollow programs past) is.1 one).1 in
    let second = (subst (MayFollow programs past) also.1 two).1 in
    ap plain_event (is.1 ∙ ap (λ n. Committed u n) (first ∙ sym second) ∙ sym also.1)
events-same programs past session k (abort_due u) e f is also one two = ap plain_event (is ∙ sym also)
events-same programs past session k (statement_due u) e f is also one two = data-same programs past u k e f is also one two

due-same : (programs : Programs) (past : History) (session k : ℕ) (d : Due) (s r : Step) → IsStepOf session k d s → IsStepOf session k d r → MayStep programs past s
    → MayStep programs past r → plain_step s ≡ plain_step r
due-same programs past session k d (made e) (made f) is also one two = ap made (events-same programs past session k d e f is also one two)
due-same programs past session k d (quiet w) (quiet v) is also one two = ap quiet (lines d is also)
  where
    lines : (d : Due) → IsLineDue d w → IsLineDue d v → w ≡ v
    lines nothing_due is also = absurd is
    lines line_due is also = is ∙ sym also
    lines begin_due is also = absurd is
    lines (commit_due u) is also = absurd is
    lines (abort_due u) is also = absurd is
    lines (statement_due u) is also = absurd is
due-same programs past session k d (made e) (quiet v) is also one two = absurd (apart d is also)
  where
    apart : (d : Due) → IsEventOf session k d e → IsLineDue d v → ⊥
    apart nothing_due is also = is
    apart line_due is also = is
    apart begin_due is also = also
    apart (commit_due u) is also = also
    apart (abort_due u) is also = also
    apart (statement_due u) is also = also
due-same programs past session k d (quiet w) (made f) is also one two = absurd (apart d also is)
  where
    apart : (d : Due) → IsEventOf session k d f → IsLineDue d w → ⊥
    apart nothing_due is also = is
    apart line_due is also = is
    apart begin_due is also = also
    apart (commit_due u) is also = also
    apart (abort_due u) is also = also
    apart (statement_due u) is also = also

pub steps-same : (programs : Programs) (past : History) (session : ℕ) (script : ReadScript) (state : State) (s r : Step) (next more : Option LineReply × State)
    → step_from session script state s ≡ Some next → step_from session script state r ≡ Some more → IsTold next.0 → IsTold more.0 → IsKeptUp s → IsKeptUp r
    → MayStep programs past s → MayStep programs past r → plain_step s ≡ plain_step r
steps-same programs past session script state s r next more is also told_one told_two kept_one kept_two one two =
    due-same programs past session state.next (due script state) s r (step-due session script state s next is told_one kept_one)
    (step-due session script state r more also told_two kept_two) one two
