-- What the steps of a session do to the transaction that lives at its place, and to its statements.
use Rattle.std.proofs.Common.{◌≡◌, ℕ, zero, suc, Bool, true, false, ◌∷◌, Option, Some, None, refl, sym, ap, ◌∙◌}
use Rattle.std.specs.Prelude.{IfSome, if◌then◌else◌}
use Rattle.std.proofs.lemmas.Bool.{and_parts, eqb-true}
use Rattle.ras_syntax.specs.declared.event.Event.{Event}
use Rattle.ras_syntax.specs.declared.event.Event.TheVariants.{Begun, Granted, Refused, Answered, GaveUp, Committed, Aborted}
use Rattle.ras_syntax.specs.declared.statement.Word.TheVariants.{Begin, Commit, Abort}
use Rattle.spec_histories.specs.History.{History, begun_at, ends, owner_of}
use Rattle.spec_statements.specs.Reply.{reply_of_answer}
use Rattle.spec_sessions.specs.Walk.{After, Closed, LineReply, Opened, ScriptItem, SessionPlace, State, after_event, after_quiet, at_aborted, at_begun, at_committed, at_data, by_failure, by_giving_up, by_success, committed, data_statement, ending, fits, free, if_data, in_ending, in_free, in_inside, in_leaving, in_own, inside, is_due_commit, is_live_in, is_success, leaving, live_in, lost, own, quiet_free, quiet_inside, quiet_lost, refused_with, session_word, the_end, told, unread, with_bad}

-- ---- whose event it is

-- it begins at the session's next statement, or is of its transaction that lives
unfoldable pub IsOwnEvent : ℕ → State → Event → Type 0
IsOwnEvent session state (Begun t i k) = (i ≡ session) × (k ≡ state.next)
IsOwnEvent session state (Granted t k p list) = (live_in state.place ≡ Some t) × (k ≡ state.next)
IsOwnEvent session state (Refused t k p lock mode holder) = (live_in state.place ≡ Some t) × (k ≡ state.next)
IsOwnEvent session state (Answered t k answer) = (live_in state.place ≡ Some t) × (k ≡ state.next)
IsOwnEvent session state (GaveUp t k) = (live_in state.place ≡ Some t) × (k ≡ state.next)
IsOwnEvent session state (Committed t n) = live_in state.place ≡ Some t
IsOwnEvent session state (Aborted t) = live_in state.place ≡ Some t

lives_in : (place : SessionPlace) (t : ℕ) → is_live_in place t ≡ true → live_in place ≡ Some t
lives_in (free attempts) t is = absurd cc
lives_in lost t is = absurd cc
lives_in (inside opened granted) t is = ap Some (sym (eqb-true t opened.t is))
lives_in (leaving opened) t is = ap Some (sym (eqb-true t opened.t is))
lives_in (own u granted) t is = ap Some (sym (eqb-true t u is))
lives_in (ending u closed) t is = ap Some (sym (eqb-true t u is))

pub fits-own : (session : ℕ) (state : State) (event : Event) → fits session state event ≡ true → IsOwnEvent session state event
unfolding IsOwnEvent
fits-own session state (Begun t i k) is = let both = and_parts _ _ is in (eqb-true i session both.0, eqb-true k state.next both.1)
fits-own session state (Granted t k p list) is = let both = and_parts _ _ is in (lives_in state.place t both.0, eqb-true k state.next both.1)
fits-own session state (Refused t k p lock mode holder) is = let both = and_parts _ _ is in (lives_in state.place t both.0, eqb-true k state.next both.1)
fits-own session state (Answered t k answer) is = let both = and_parts _ _ is in (lives_in state.place t both.0, eqb-true k state.next both.1)
fits-own session state (GaveUp t k) is = let both = and_parts _ _ is in (lives_in state.place t both.0, eqb-true k state.next both.1)
fits-own session state (Committed t n) is = lives_in state.place t is
fits-own session state (Aborted t) is = lives_in state.place t is

pub fitted : (b : Bool) (after : After) (next : Option LineReply × State) → (if b then after else None) ≡ Some next
    → (b ≡ true) × (after ≡ Some next)
fitted true after next is = (refl, is)
fitted false after next is = absurd cc

-- ---- who lives behind it

unfoldable pub LivesBy : SessionPlace → Event → SessionPlace → Type 0
LivesBy before (Begun t i k) after = (live_in before ≡ None) × (live_in after ≡ Some t)
LivesBy before (Committed t n) after = live_in after ≡ None
LivesBy before (Aborted t) after = live_in after ≡ None
LivesBy before (Granted t k p list) after = live_in after ≡ live_in before
LivesBy before (Refused t k p lock mode holder) after = live_in after ≡ live_in before
LivesBy before (Answered t k answer) after = live_in after ≡ live_in before
LivesBy before (GaveUp t k) after = live_in after ≡ live_in before

abbrev LivesThen : SessionPlace → Event → After → Type 0
LivesThen place event after = IfSome after (λ next. LivesBy place event next.1.place)

begun-lives : (k : ℕ) (item : ScriptItem) (attempts : Option ℕ) (u i n : ℕ) → LivesThen (free attempts) (Begun u i n) (at_begun k item attempts u)
unfolding LivesBy
begun-lives k the_end attempts u i n = tt
begun-lives k (unread fault) attempts u i n = tt
begun-lives k (session_word (Begin written)) attempts u i n = (refl, refl)
begun-lives k (session_word (Commit anyway)) attempts u i n = tt
begun-lives k (session_word Abort) attempts u i n = tt
begun-lives k data_statement attempts u i n = (refl, refl)

committed-lives : (k : ℕ) (item : ScriptItem) (opened : Opened) (granted : Bool) (u n : ℕ)
    → LivesThen (inside opened granted) (Committed u n) (at_committed k item opened n)
unfolding LivesBy
committed-lives k the_end opened granted u n = tt
committed-lives k (unread fault) opened granted u n = tt
committed-lives k (session_word (Begin written)) opened granted u n = tt
committed-lives k (session_word (Commit anyway)) opened granted u n = if_free (is_due_commit anyway opened.bad)
  where
    if_free : (b : Bool) → IfSome (if b then told k (committed n) (free None) else None) (λ next. live_in next.1.place ≡ None)
    if_free true = refl
    if_free false = tt
committed-lives k (session_word Abort) opened granted u n = tt
committed-lives k data_statement opened granted u n = tt

aborted-lives : (k : ℕ) (item : ScriptItem) (opened : Opened) (granted : Bool) (u : ℕ) → LivesThen (inside opened granted) (Aborted u) (at_aborted k item opened)
unfolding LivesBy
aborted-lives k the_end opened granted u = refl
aborted-lives k (unread fault) opened granted u = tt
aborted-lives k (session_word (Begin written)) opened granted u = tt
aborted-lives k (session_word (Commit anyway)) opened granted u = refl
aborted-lives k (session_word Abort) opened granted u = refl
aborted-lives k data_statement opened granted u = tt

refused-lives : (k attempts : ℕ) (opened : Opened) → IfSome (refused_with k attempts opened) (λ next. live_in next.1.place ≡ Some opened.t)
refused-lives k zero opened = refl
refused-lives k (suc attempts) opened = refl

answered-lives : (k : ℕ) (good : Bool) (opened : Opened) → live_in (inside (if good then opened else with_bad opened k) false) ≡ Some opened.t
answered-lives k true opened = refl
answered-lives k false opened = refl

data-lives : (k : ℕ) (opened : Opened) (granted : Bool) (event : Event) → LivesThen (inside opened granted) event (at_data k opened granted event)
unfolding LivesBy
data-lives k opened granted (Begun u i n) = tt
data-lives k opened granted (Granted u n p list) = refl
data-lives k opened granted (Refused u n p lock mode holder) = refused-lives k opened.attempts opened
data-lives k opened granted (Answered u n answer) = answered-lives k (is_success (reply_of_answer answer)) opened
data-lives k opened true (GaveUp u n) = refl
data-lives k opened false (GaveUp u n) = tt
data-lives k opened granted (Committed u n) = tt
data-lives k opened granted (Aborted u) = tt

if_data-holds : (P : Option LineReply × State → Type 0) (item : ScriptItem) (after : After) → IfSome after P → IfSome (if_data item after) P
if_data-holds P the_end after holds = tt
if_data-holds P (unread fault) after holds = tt
if_data-holds P (session_word w) after holds = tt
if_data-holds P data_statement after holds = holds

free-lives : (k : ℕ) (item : ScriptItem) (attempts : Option ℕ) (event : Event) → LivesThen (free attempts) event (in_free k item attempts event)
free-lives k item attempts (Begun u i n) = begun-lives k item attempts u i n
free-lives k item attempts (Granted u n p list) = tt
free-lives k item attempts (Refused u n p lock mode holder) = tt
free-lives k item attempts (Answered u n answer) = tt
free-lives k item attempts (GaveUp u n) = tt
free-lives k item attempts (Committed u n) = tt
free-lives k item attempts (Aborted u) = tt

inside-lives : (k : ℕ) (item : ScriptItem) (opened : Opened) (granted : Bool) (event : Event)
    → LivesThen (inside opened granted) event (in_inside k item opened granted event)
inside-lives k item opened granted (Begun u i n) =
    if_data-holds (λ next. LivesBy (inside opened granted) (Begun u i n) next.1.place) item (at_data k opened granted (Begun u i n))
    (data-lives k opened granted (Begun u i n))
inside-lives k item opened granted (Granted u n p list) =
    if_data-holds (λ next. LivesBy (inside opened granted) (Granted u n p list) next.1.place) item (at_data k opened granted (Granted u n p list))
    (data-lives k opened granted (Granted u n p list))
inside-lives k item opened granted (Refused u n p lock mode holder) =
    if_data-holds (λ next. LivesBy (inside opened granted) (Refused u n p lock mode holder) next.1.place) item (at_data k opened granted (Refused u n p lock mode holder))
    (data-lives k opened granted (Refused u n p lock mode holder))
inside-lives k item opened granted (Answered u n answer) =
    if_data-holds (λ next. LivesBy (inside opened granted) (Answered u n answer) next.1.place) item (at_data k opened granted (Answered u n answer))
    (data-lives k opened granted (Answered u n answer))
inside-lives k item opened granted (GaveUp u n) =
    if_data-holds (λ next. LivesBy (inside opened granted) (GaveUp u n) next.1.place) item (at_data k opened granted (GaveUp u n))
    (data-lives k opened granted (GaveUp u n))
inside-lives k item opened granted (Committed u n) = committed-lives k item opened granted u n
inside-lives k item opened granted (Aborted u) = aborted-lives k item opened granted u

leaving-lives : (opened : Opened) (event : Event) → LivesThen (leaving opened) event (in_leaving opened event)
unfolding LivesBy
leaving-lives opened (Begun u i n) = tt
leaving-lives opened (Granted u n p list) = tt
leaving-lives opened (Refused u n p lock mode holder) = tt
leaving-lives opened (Answered u n answer) = tt
leaving-lives opened (GaveUp u n) = tt
leaving-lives opened (Committed u n) = tt
leaving-lives opened (Aborted u) = refl

own-lives : (k t : ℕ) (granted : Bool) (event : Event) → LivesThen (own t granted) event (in_own k t granted event)
unfolding LivesBy
own-lives k t granted (Begun u i n) = tt
own-lives k t granted (Granted u n p list) = refl
own-lives k t granted (Refused u n p lock mode holder) = refl
own-lives k t granted (Answered u n answer) = refl
own-lives k t true (GaveUp u n) = refl
own-lives k t false (GaveUp u n) = tt
own-lives k t granted (Committed u n) = tt
own-lives k t true (Aborted u) = tt
own-lives k t false (Aborted u) = refl

ending-lives : (k t : ℕ) (closed : Closed) (event : Event) → LivesThen (ending t closed) event (in_ending k closed event)
unfolding LivesBy
ending-lives k t by_success (Begun u i n) = tt
ending-lives k t by_success (Granted u n p list) = tt
ending-lives k t by_success (Refused u n p lock mode holder) = tt
ending-lives k t by_success (Answered u n answer) = tt
ending-lives k t by_success (GaveUp u n) = tt
ending-lives k t by_success (Committed u n) = refl
ending-lives k t by_success (Aborted u) = refl
ending-lives k t by_failure (Begun u i n) = tt
ending-lives k t by_failure (Granted u n p list) = tt
ending-lives k t by_failure (Refused u n p lock mode holder) = tt
ending-lives k t by_failure (Answered u n answer) = tt
ending-lives k t by_failure (GaveUp u n) = tt
ending-lives k t by_failure (Committed u n) = tt
ending-lives k t by_failure (Aborted u) = refl
ending-lives k t by_giving_up (Begun u i n) = tt
ending-lives k t by_giving_up (Granted u n p list) = tt
ending-lives k t by_giving_up (Refused u n p lock mode holder) = tt
ending-lives k t by_giving_up (Answered u n answer) = tt
ending-lives k t by_giving_up (GaveUp u n) = tt
ending-lives k t by_giving_up (Committed u n) = tt
ending-lives k t by_giving_up (Aborted u) = refl

pub event-lives : (k : ℕ) (item : ScriptItem) (place : SessionPlace) (event : Event) → LivesThen place event (after_event k item place event)
event-lives k item (free attempts) event = free-lives k item attempts event
event-lives k item lost event = tt
event-lives k item (inside opened granted) event = inside-lives k item opened granted event
event-lives k item (leaving opened) event = leaving-lives opened event
event-lives k item (own t granted) event = own-lives k t granted event
event-lives k item (ending t closed) event = ending-lives k t closed event

-- ---- a line without an event leaves who lives

quiet_free-lives : (k : ℕ) (item : ScriptItem) (wanting : Bool) → IfSome (quiet_free k item wanting) (λ next. live_in next.1.place ≡ None)
quiet_free-lives k the_end true = tt
quiet_free-lives k the_end false = tt
quiet_free-lives k (unread fault) true = refl
quiet_free-lives k (unread fault) false = refl
quiet_free-lives k (session_word (Begin written)) true = refl
quiet_free-lives k (session_word (Begin written)) false = tt
quiet_free-lives k (session_word (Commit anyway)) true = tt
quiet_free-lives k (session_word (Commit anyway)) false = refl
quiet_free-lives k (session_word Abort) true = tt
quiet_free-lives k (session_word Abort) false = refl
quiet_free-lives k data_statement true = refl
quiet_free-lives k data_statement false = tt

quiet_lost-lives : (k : ℕ) (item : ScriptItem) (wanting : Bool) → IfSome (quiet_lost k item wanting) (λ next. live_in next.1.place ≡ None)
quiet_lost-lives k the_end true = tt
quiet_lost-lives k the_end false = tt
quiet_lost-lives k (unread fault) true = refl
quiet_lost-lives k (unread fault) false = tt
quiet_lost-lives k (session_word (Begin written)) true = refl
quiet_lost-lives k (session_word (Begin written)) false = tt
quiet_lost-lives k (session_word (Commit anyway)) true = refl
quiet_lost-lives k (session_word (Commit anyway)) false = tt
quiet_lost-lives k (session_word Abort) true = refl
quiet_lost-lives k (session_word Abort) false = tt
quiet_lost-lives k data_statement true = refl
quiet_lost-lives k data_statement false = tt

quiet_inside-lives : (k : ℕ) (item : ScriptItem) (opened : Opened) (granted wanting : Bool)
    → IfSome (quiet_inside k item opened granted wanting) (λ next. live_in next.1.place ≡ Some opened.t)
quiet_inside-lives k the_end opened granted wanting = tt
quiet_inside-lives k (unread fault) opened granted wanting = refl
quiet_inside-lives k (session_word (Begin written)) opened granted true = tt
quiet_inside-lives k (session_word (Begin written)) opened granted false = refl
quiet_inside-lives k (session_word (Commit anyway)) opened granted wanting = tt
quiet_inside-lives k (session_word Abort) opened granted wanting = tt
quiet_inside-lives k data_statement opened true true = tt
quiet_inside-lives k data_statement opened true false = tt
quiet_inside-lives k data_statement opened false true = refl
quiet_inside-lives k data_statement opened false false = tt

pub quiet-lives : (k : ℕ) (item : ScriptItem) (place : SessionPlace) (wanting : Bool)
    → IfSome (after_quiet k item place wanting) (λ next. live_in next.1.place ≡ live_in place)
quiet-lives k item (free attempts) wanting = quiet_free-lives k item wanting
quiet-lives k item lost wanting = quiet_lost-lives k item wanting
quiet-lives k item (inside opened granted) wanting = quiet_inside-lives k item opened granted wanting
quiet-lives k item (leaving opened) wanting = tt
quiet-lives k item (own t granted) wanting = tt
quiet-lives k item (ending t closed) wanting = tt

-- ---- the three kinds of events

-- an event of a session that begins a transaction where none lived, is of the one that lives, or ends it
pub record IsFirst (session : ℕ) (before : SessionPlace) (event : Event) (after : SessionPlace) : Type 0 where
  pub none : live_in before ≡ None
  pub live : live_in after ≡ Some (owner_of event)
  pub at : ℕ
  pub begun : (own_events : History) → begun_at (event ∷ own_events) ≡ Some (session, at)

pub record IsMiddle (before : SessionPlace) (event : Event) (after : SessionPlace) : Type 0 where
  pub live : live_in before ≡ Some (owner_of event)
  pub live_after : live_in after ≡ Some (owner_of event)
  pub begun : (own_events : History) → begun_at (event ∷ own_events) ≡ begun_at own_events

pub record IsLast (before : SessionPlace) (event : Event) (after : SessionPlace) : Type 0 where
  pub live : live_in before ≡ Some (owner_of event)
  pub none_after : live_in after ≡ None
  pub begun : (own_events : History) → begun_at (event ∷ own_events) ≡ begun_at own_events
  pub ending : ends event ≡ true

pub data Turn (session : ℕ) (before : SessionPlace) (event : Event) (after : SessionPlace) : Type 0 where
  first : IsFirst session before event after → Turn session before event after
  middle : IsMiddle before event after → Turn session before event after
  last : IsLast before event after → Turn session before event after

pub turn_of : (session : ℕ) (before : State) (event : Event) (after : SessionPlace) → IsOwnEvent session before event
    → LivesBy before.place event after → Turn session before.place event after
unfolding IsOwnEvent LivesBy
turn_of session before (Begun u i n) after is lives =
    first (record { none = lives.0; live = lives.1; at = n; begun = λ own_events. ap (λ s. Some (s, n)) is.0 })
turn_of session before (Granted u n p list) after is lives = middle (record { live = is.0; live_after = lives ∙ is.0; begun = λ own_events. refl })
turn_of session before (Refused u n p lock mode holder) after is lives = middle (record { live = is.0; live_after = lives ∙ is.0; begun = λ own_events. refl })
turn_of session before (Answered u n answer) after is lives = middle (record { live = is.0; live_after = lives ∙ is.0; begun = λ own_events. refl })
turn_of session before (GaveUp u n) after is lives = middle (record { live = is.0; live_after = lives ∙ is.0; begun = λ own_events. refl })
turn_of session before (Committed u n) after is lives = last (record { live = is; none_after = lives; begun = λ own_events. refl; ending = refl })
turn_of session before (Aborted u) after is lives = last (record { live = is; none_after = lives; begun = λ own_events. refl; ending = refl })
