-- What a step of a walk does to the answers of a transaction: which statement it answers or refuses, and of which it tells.
use Rattle.std.proofs.Common.{◌≡◌, ◌≢◌, ◌⊎◌, inl, inr, ℕ, zero, suc, Bool, true, false, ◌&&◌, ◌==◌, if◌then◌else◌, List, [], ◌∷◌, filter, Option, Some, None, refl, ap}
use Rattle.std.specs.Prelude.{IfSome}
use Rattle.std.specs.List.{list_any}
use Rattle.std.proofs.lemmas.Bool.{and_parts, eqb-true}
use Rattle.ras_syntax.specs.declared.answer.Answer.{Answer}
use Rattle.ras_syntax.specs.declared.event.Event.{Event}
use Rattle.ras_syntax.specs.declared.event.Event.TheVariants.{Begun, Granted, Refused, Answered, GaveUp, Committed, Aborted}
use Rattle.ras_syntax.specs.declared.faults.SyntaxFault.{SyntaxFault}
use Rattle.ras_syntax.specs.declared.statement.Word.TheVariants.{Begin, Commit, Abort}
use Rattle.ras_domain.specs.declared.lock.LockName.{LockName}
use Rattle.ras_domain.specs.declared.lock.Mode.{Mode}
use Rattle.spec_statements.specs.Reply.{reply_of_answer}
use Rattle.spec_sessions.specs.Printable.{TellsOf, is_out_of_memory, is_recorded}
use Rattle.spec_sessions.specs.Report.{answers_statement, begins}
use Rattle.spec_sessions.specs.Walk.{After, Closed, Line, LineReply, Opened, ReadScript, ScriptItem, SessionPlace, State, Step, aborted, after_event, after_quiet, at_aborted, at_begun, at_committed, at_data, begun, by_failure, by_giving_up, by_success, committed, data_statement, ending, fits, free, if_data, in_ending, in_free, in_inside, in_leaving, in_own, in_transaction, inside, is_due_commit, is_success, item_at, leaving, line_for, lost, made, no_transaction, out_of_memory, own, quiet, quiet_free, quiet_inside, quiet_lost, recorded, refused_with, reply_of_abort, session_word, step_from, the_end, told, unread, unread_reply, with_bad}

-- ---- how far a transaction of the session is

-- no statement of one may be answered, or of this one, or its one statement is closed and its line is still to come
pub data Phase : Type 0 where
  resting : Phase
  open_to : ℕ → Phase
  awaiting : ℕ → Closed → Phase

abbrev pub phase_of : SessionPlace → Phase
phase_of (free attempts) = resting
phase_of lost = resting
phase_of (inside opened granted) = open_to opened.t
phase_of (leaving opened) = resting
phase_of (own t granted) = open_to t
phase_of (ending t closed) = awaiting t closed

-- ---- what a step adds

abbrev pub line_at : ℕ → ℕ → LineReply → Line
line_at k u reply = record { statement = k; transaction = u; reply = reply }

-- events that begin, answer and refuse nothing
pub record IsPlain (events : List Event) : Type 0 where
  pub begins_none : (t : ℕ) → list_any (begins t) events ≡ false
  pub answers_none : (t k : ℕ) → filter (answers_statement t k) events ≡ []

abbrev pub is_at : (u n t k : ℕ) → Bool
is_at u n t k = (u == t) && (n == k)

abbrev pub if_at : {X : Type 0} → Bool → X → List X
if_at here x = if here then x ∷ [] else []

-- an event that answers or refuses statement n of transaction u
pub record IsClosing (u n : ℕ) (event : Event) : Type 0 where
  pub begins_none : (t : ℕ) → list_any (begins t) (event ∷ []) ≡ false
  pub answers : (t k : ℕ) → filter (answers_statement t k) (event ∷ []) ≡ if_at (is_at u n t k) event
  pub told : (line : Line) → line.reply ≡ recorded → TellsOf event line

-- what a line may tell of a statement that was closed so
abbrev pub IsReplyOf : Closed → LineReply → Type 0
IsReplyOf by_success reply = (reply ≡ recorded) ⊎ (reply ≡ out_of_memory)
IsReplyOf by_failure reply = reply ≡ recorded
IsReplyOf by_giving_up reply = reply ≢ recorded

abbrev pub TellsBy : Closed → Event → Type 0
TellsBy by_success event = (line : Line) → IsReplyOf by_success line.reply → TellsOf event line
TellsBy by_failure event = (line : Line) → IsReplyOf by_failure line.reply → TellsOf event line
TellsBy by_giving_up event = ⊥

-- from a phase before a statement, with these events and lines, to a phase before a statement
pub data Move : Phase → ℕ → List Event → List Line → Phase → ℕ → Type 0 where
  begins_told : (n u session at : ℕ) → Move resting n (Begun u session at ∷ []) (line_at n u begun ∷ []) (open_to u) (suc n)
  begins_quiet : (n u session at : ℕ) → Move resting n (Begun u session at ∷ []) [] (open_to u) n
  goes_on : (n u : ℕ) (events : List Event) → IsPlain events → Move (open_to u) n events [] (open_to u) n
  tells : (n u : ℕ) (events : List Event) (reply : LineReply) → IsPlain events → reply ≢ recorded
      → Move (open_to u) n events (line_at n u reply ∷ []) (open_to u) (suc n)
  ends : (n u : ℕ) (events : List Event) (reply : LineReply) → IsPlain events → reply ≢ recorded
      → Move (open_to u) n events (line_at n u reply ∷ []) resting (suc n)
  closes : (n u : ℕ) (event : Event) → IsClosing u n event → Move (open_to u) n (event ∷ []) (line_at n u recorded ∷ []) (open_to u) (suc n)
  leaves : (n u : ℕ) (event : Event) → IsClosing u n event → Move (open_to u) n (event ∷ []) (line_at n u recorded ∷ []) resting n
  rests : (n next : ℕ) (events : List Event) → IsPlain events → Move resting n events [] resting next
  rests_told : (n : ℕ) (reply : LineReply) → reply ≢ recorded → Move resting n [] (line_at n 0 reply ∷ []) resting (suc n)
  own_closed : (n u : ℕ) (event : Event) (closed : Closed) → IsClosing u n event → TellsBy closed event
      → Move (open_to u) n (event ∷ []) [] (awaiting u closed) n
  gives_up : (n u : ℕ) (events : List Event) → IsPlain events → Move (open_to u) n events [] (awaiting u by_giving_up) n
  settles : (n u : ℕ) (closed : Closed) (events : List Event) (reply : LineReply) → IsPlain events → IsReplyOf closed reply
      → Move (awaiting u closed) n events (line_at n u reply ∷ []) resting (suc n)

-- ---- events

no_event : IsPlain []
no_event = record { begins_none = λ t. refl; answers_none = λ t k. refl }

granted-plain : (u k p : ℕ) (list : List (LockName × Mode)) → IsPlain (Granted u k p list ∷ [])
granted-plain u k p list = record { begins_none = λ t. refl; answers_none = λ t k. refl }

gave_up-plain : (u k : ℕ) → IsPlain (GaveUp u k ∷ [])
gave_up-plain u k = record { begins_none = λ t. refl; answers_none = λ t k. refl }

committed-plain : (u n : ℕ) → IsPlain (Committed u n ∷ [])
committed-plain u n = record { begins_none = λ t. refl; answers_none = λ t k. refl }

aborted-plain : (u : ℕ) → IsPlain (Aborted u ∷ [])
aborted-plain u = record { begins_none = λ t. refl; answers_none = λ t k. refl }

told-answer : (t k : ℕ) (answer : Answer) (line : Line) → line.reply ≡ recorded → TellsOf (Answered t k answer) line
told-answer t k answer line is = ap (λ reply. if is_recorded reply then true else is_out_of_memory reply) is

failed-answer : (t k : ℕ) (answer : Answer) (line : Line) → line.reply ≡ out_of_memory → TellsOf (Answered t k answer) line
failed-answer t k answer line is = ap (λ reply. if is_recorded reply then true else is_out_of_memory reply) is

-- the event is of the transaction and of the statement
answered-closing : (u n t k : ℕ) (answer : Answer) → ((t == u) && (k == n)) ≡ true → IsClosing u n (Answered t k answer)
answered-closing u n t k answer fit =
    let both = and_parts (t == u) (k == n) fit in
    let e : t ≡ u = eqb-true t u both.0 in
    let f : k ≡ n = eqb-true k n both.1 in
    record {
      begins_none = λ t. refl;
      answers = λ v j. (λ i. if_at (is_at (e i) (f i) v j) (Answered t k answer));
      told = λ line is. told-answer t k answer line is;
    }

refused-closing : (u n t k p holder : ℕ) (name : LockName) (mode : Mode) → ((t == u) && (k == n)) ≡ true → IsClosing u n (Refused t k p name mode holder)
refused-closing u n t k p holder name mode fit =
    let both = and_parts (t == u) (k == n) fit in
    let e : t ≡ u = eqb-true t u both.0 in
    let f : k ≡ n = eqb-true k n both.1 in
    record {
      begins_none = λ t. refl;
      answers = λ v j. (λ i. if_at (is_at (e i) (f i) v j) (Refused t k p name mode holder));
      told = λ line is. is;
    }

answer-tells : (success : Bool) (t k : ℕ) (answer : Answer) → TellsBy (if success then by_success else by_failure) (Answered t k answer)
answer-tells true t k answer = λ line is. elim is [ inl told ↦ told-answer t k answer line told | inr failed ↦ failed-answer t k answer line failed ]
answer-tells false t k answer = λ line is. told-answer t k answer line is

-- ---- steps with an event, by the place

-- where a step comes from here, it is such a move
abbrev Moves : ℕ → SessionPlace → List Event → After → Type 0
Moves n place events after =
    IfSome after (λ next. Move (phase_of place) n events (line_for (record { next = n; place = place }) next) (phase_of next.1.place) next.1.next)

begun-moves : (n : ℕ) (item : ScriptItem) (attempts : Option ℕ) (t session at : ℕ) → Moves n (free attempts) (Begun t session at ∷ []) (at_begun n item attempts t)
begun-moves n the_end attempts t session at = tt
begun-moves n (unread fault) attempts t session at = tt
begun-moves n (session_word (Begin written)) attempts t session at = Move.begins_told n t session at
begun-moves n (session_word (Commit anyway)) attempts t session at = tt
begun-moves n (session_word Abort) attempts t session at = tt
begun-moves n data_statement attempts t session at = Move.begins_quiet n t session at

free-moves : (n : ℕ) (item : ScriptItem) (attempts : Option ℕ) (event : Event) → Moves n (free attempts) (event ∷ []) (in_free n item attempts event)
free-moves n item attempts (Begun t session at) = begun-moves n item attempts t session at
free-moves n item attempts (Granted u k p list) = tt
free-moves n item attempts (Refused u k p name mode holder) = tt
free-moves n item attempts (Answered u k answer) = tt
free-moves n item attempts (GaveUp u k) = tt
free-moves n item attempts (Committed u k) = tt
free-moves n item attempts (Aborted u) = tt

if-moves : (n : ℕ) (place : SessionPlace) (events : List Event) (b : Bool) (after : After) → Moves n place events after → Moves n place events (if b then after else None)
if-moves n place events true after moves = moves
if-moves n place events false after moves = tt

committed-moves : (n : ℕ) (item : ScriptItem) (opened : Opened) (granted : Bool) (u number : ℕ)
    → Moves n (inside opened granted) (Committed u number ∷ []) (at_committed n item opened number)
committed-moves n the_end opened granted u number = tt
committed-moves n (unread fault) opened granted u number = tt
committed-moves n (session_word (Begin written)) opened granted u number = tt
committed-moves n (session_word (Commit anyway)) opened granted u number =
    if-moves n (inside opened granted) (Committed u number ∷ []) (is_due_commit anyway opened.bad) (told n (committed number) (free None))
    (Move.ends n opened.t (Committed u number ∷ []) (committed number) (committed-plain u number) (λ is. cc))
committed-moves n (session_word Abort) opened granted u number = tt
committed-moves n data_statement opened granted u number = tt

abort-tells : (anyway : Bool) (bad : Option ℕ) → reply_of_abort anyway bad ≢ recorded
abort-tells true bad = λ is. cc
abort-tells false None = λ is. cc
abort-tells false (Some f) = λ is. cc

aborted-moves : (n : ℕ) (item : ScriptItem) (opened : Opened) (granted : Bool) (u : ℕ) → Moves n (inside opened granted) (Aborted u ∷ []) (at_aborted n item opened)
aborted-moves n the_end opened granted u = Move.ends n opened.t (Aborted u ∷ []) (aborted n) (aborted-plain u) (λ is. cc)
aborted-moves n (unread fault) opened granted u = tt
aborted-moves n (session_word (Begin written)) opened granted u = tt
aborted-moves n (session_word (Commit anyway)) opened granted u =
    Move.ends n opened.t (Aborted u ∷ []) (reply_of_abort anyway opened.bad) (aborted-plain u) (abort-tells anyway opened.bad)
aborted-moves n (session_word Abort) opened granted u = Move.ends n opened.t (Aborted u ∷ []) (aborted n) (aborted-plain u) (λ is. cc)
aborted-moves n data_statement opened granted u = tt

refused-moves : (n attempts : ℕ) (opened : Opened) (granted : Bool) (event : Event) → IsClosing opened.t n event
    → Moves n (inside opened granted) (event ∷ []) (refused_with n attempts opened)
refused-moves n zero opened granted event closing = Move.closes n opened.t event closing
refused-moves n (suc attempts) opened granted event closing = Move.leaves n opened.t event closing

answered-moves : (n : ℕ) (good : Bool) (opened : Opened) (granted : Bool) (event : Event) → IsClosing opened.t n event
    → Moves n (inside opened granted) (event ∷ []) (told n recorded (inside (if good then opened else with_bad opened n) false))
answered-moves n true opened granted event closing = Move.closes n opened.t event closing
answered-moves n false opened granted event closing = Move.closes n opened.t event closing

data-moves : (session n : ℕ) (opened : Opened) (granted : Bool) (event : Event) → fits session (record { next = n; place = inside opened granted }) event ≡ true
    → Moves n (inside opened granted) (event ∷ []) (at_data n opened granted event)
data-moves session n opened granted (Begun t i k) fit = tt
data-moves session n opened granted (Granted t k p list) fit = Move.goes_on n opened.t (Granted t k p list ∷ []) (granted-plain t k p list)
data-moves session n opened granted (Refused t k p name mode holder) fit =
    refused-moves n opened.attempts opened granted (Refused t k p name mode holder) (refused-closing opened.t n t k p holder name mode fit)
data-moves session n opened granted (Answered t k answer) fit =
    answered-moves n (is_success (reply_of_answer answer)) opened granted (Answered t k answer) (answered-closing opened.t n t k answer fit)
data-moves session n opened true (GaveUp t k) fit = Move.tells n opened.t (GaveUp t k ∷ []) out_of_memory (gave_up-plain t k) (λ is. cc)
data-moves session n opened false (GaveUp t k) fit = tt
data-moves session n opened granted (Committed t k) fit = tt
data-moves session n opened granted (Aborted t) fit = tt

if_data-moves : (n : ℕ) (place : SessionPlace) (events : List Event) (item : ScriptItem) (after : After) → Moves n place events after → Moves n place events (if_data item after)
if_data-moves n place events the_end after moves = tt
if_data-moves n place events (unread fault) after moves = tt
if_data-moves n place events (session_word w) after moves = tt
if_data-moves n place events data_statement after moves = moves

inside-moves : (session n : ℕ) (item : ScriptItem) (opened : Opened) (granted : Bool) (event : Event) → fits session (record { next = n; place = inside opened granted }) event ≡ true
    → Moves n (inside opened granted) (event ∷ []) (in_inside n item opened granted event)
inside-moves session n item opened granted (Begun t i k) fit =
    if_data-moves n (inside opened granted) (Begun t i k ∷ []) item (at_data n opened granted (Begun t i k)) (data-moves session n opened granted (Begun t i k) fit)
inside-moves session n item opened granted (Granted t k p list) fit =
    if_data-moves n (inside opened granted) (Granted t k p list ∷ []) item (at_data n opened granted (Granted t k p list))
    (data-moves session n opened granted (Granted t k p list) fit)
inside-moves session n item opened granted (Refused t k p name mode holder) fit =
    if_data-moves n (inside opened granted) (Refused t k p name mode holder ∷ []) item (at_data n opened granted (Refused t k p name mode holder))
    (data-moves session n opened granted (Refused t k p name mode holder) fit)
inside-moves session n item opened granted (Answered t k answer) fit =
    if_data-moves n (inside opened granted) (Answered t k answer ∷ []) item (at_data n opened granted (Answered t k answer))
    (data-moves session n opened granted (Answered t k answer) fit)
inside-moves session n item opened granted (GaveUp t k) fit =
    if_data-moves n (inside opened granted) (GaveUp t k ∷ []) item (at_data n opened granted (GaveUp t k)) (data-moves session n opened granted (GaveUp t k) fit)
inside-moves session n item opened granted (Committed t k) fit = committed-moves n item opened granted t k
inside-moves session n item opened granted (Aborted t) fit = aborted-moves n item opened granted t

leaving-moves : (n : ℕ) (opened : Opened) (event : Event) → Moves n (leaving opened) (event ∷ []) (in_leaving opened event)
leaving-moves n opened (Begun t i k) = tt
leaving-moves n opened (Granted t k p list) = tt
leaving-moves n opened (Refused t k p name mode holder) = tt
leaving-moves n opened (Answered t k answer) = tt
leaving-moves n opened (GaveUp t k) = tt
leaving-moves n opened (Committed t k) = tt
leaving-moves n opened (Aborted t) = Move.rests n opened.from (Aborted t ∷ []) (aborted-plain t)

own_answered-moves : (n u : ℕ) (granted success : Bool) (event : Event) → IsClosing u n event → TellsBy (if success then by_success else by_failure) event
    → Moves n (own u granted) (event ∷ []) (Some (None, record { next = n; place = ending u (if success then by_success else by_failure) }))
own_answered-moves n u granted success event closing told_by = Move.own_closed n u event (if success then by_success else by_failure) closing told_by

own-moves : (session n u : ℕ) (granted : Bool) (event : Event) → fits session (record { next = n; place = own u granted }) event ≡ true
    → Moves n (own u granted) (event ∷ []) (in_own n u granted event)
own-moves session n u granted (Begun t i k) fit = tt
own-moves session n u granted (Granted t k p list) fit = Move.goes_on n u (Granted t k p list ∷ []) (granted-plain t k p list)
own-moves session n u granted (Refused t k p name mode holder) fit =
    let closing = refused-closing u n t k p holder name mode fit in Move.own_closed n u (Refused t k p name mode holder) by_failure closing closing.told
own-moves session n u granted (Answered t k answer) fit =
    own_answered-moves n u granted (is_success (reply_of_answer answer)) (Answered t k answer) (answered-closing u n t k answer fit)
    (answer-tells (is_success (reply_of_answer answer)) t k answer)
own-moves session n u true (GaveUp t k) fit = Move.gives_up n u (GaveUp t k ∷ []) (gave_up-plain t k)
own-moves session n u false (GaveUp t k) fit = tt
own-moves session n u granted (Committed t k) fit = tt
own-moves session n u true (Aborted t) fit = tt
own-moves session n u false (Aborted t) fit = Move.ends n u (Aborted t ∷ []) out_of_memory (aborted-plain t) (λ is. cc)

ending-moves : (n u : ℕ) (closed : Closed) (event : Event) → Moves n (ending u closed) (event ∷ []) (in_ending n closed event)
ending-moves n u by_success (Begun t i k) = tt
ending-moves n u by_success (Granted t k p list) = tt
ending-moves n u by_success (Refused t k p name mode holder) = tt
ending-moves n u by_success (Answered t k answer) = tt
ending-moves n u by_success (GaveUp t k) = tt
ending-moves n u by_success (Committed t k) = Move.settles n u by_success (Committed t k ∷ []) recorded (committed-plain t k) (inl refl)
ending-moves n u by_success (Aborted t) = Move.settles n u by_success (Aborted t ∷ []) out_of_memory (aborted-plain t) (inr refl)
ending-moves n u by_failure (Begun t i k) = tt
ending-moves n u by_failure (Granted t k p list) = tt
ending-moves n u by_failure (Refused t k p name mode holder) = tt
ending-moves n u by_failure (Answered t k answer) = tt
ending-moves n u by_failure (GaveUp t k) = tt
ending-moves n u by_failure (Committed t k) = tt
ending-moves n u by_failure (Aborted t) = Move.settles n u by_failure (Aborted t ∷ []) recorded (aborted-plain t) refl
ending-moves n u by_giving_up (Begun t i k) = tt
ending-moves n u by_giving_up (Granted t k p list) = tt
ending-moves n u by_giving_up (Refused t k p name mode holder) = tt
ending-moves n u by_giving_up (Answered t k answer) = tt
ending-moves n u by_giving_up (GaveUp t k) = tt
ending-moves n u by_giving_up (Committed t k) = tt
ending-moves n u by_giving_up (Aborted t) = Move.settles n u by_giving_up (Aborted t ∷ []) out_of_memory (aborted-plain t) (λ is. cc)

event-moves : (session n : ℕ) (item : ScriptItem) (place : SessionPlace) (event : Event) → fits session (record { next = n; place = place }) event ≡ true
    → Moves n place (event ∷ []) (after_event n item place event)
event-moves session n item (free attempts) event fit = free-moves n item attempts event
event-moves session n item lost event fit = tt
event-moves session n item (inside opened granted) event fit = inside-moves session n item opened granted event fit
event-moves session n item (leaving opened) event fit = leaving-moves n opened event
event-moves session n item (own u granted) event fit = own-moves session n u granted event fit
event-moves session n item (ending u closed) event fit = ending-moves n u closed event

-- ---- steps without one

unread-tells : (fault : SyntaxFault) (wanting : Bool) → unread_reply fault wanting ≢ recorded
unread-tells fault true = λ is. cc
unread-tells fault false = λ is. cc

quiet_free-moves : (n : ℕ) (item : ScriptItem) (attempts : Option ℕ) (wanting : Bool) → Moves n (free attempts) [] (quiet_free n item wanting)
quiet_free-moves n the_end attempts true = tt
quiet_free-moves n the_end attempts false = tt
quiet_free-moves n (unread fault) attempts wanting = Move.rests_told n (unread_reply fault wanting) (unread-tells fault wanting)
quiet_free-moves n (session_word (Begin written)) attempts true = Move.rests_told n out_of_memory (λ is. cc)
quiet_free-moves n (session_word (Begin written)) attempts false = tt
quiet_free-moves n (session_word (Commit anyway)) attempts true = tt
quiet_free-moves n (session_word (Commit anyway)) attempts false = Move.rests_told n no_transaction (λ is. cc)
quiet_free-moves n (session_word Abort) attempts true = tt
quiet_free-moves n (session_word Abort) attempts false = Move.rests_told n no_transaction (λ is. cc)
quiet_free-moves n data_statement attempts true = Move.rests_told n out_of_memory (λ is. cc)
quiet_free-moves n data_statement attempts false = tt

quiet_lost-moves : (n : ℕ) (item : ScriptItem) (wanting : Bool) → Moves n lost [] (quiet_lost n item wanting)
quiet_lost-moves n the_end true = tt
quiet_lost-moves n the_end false = tt
quiet_lost-moves n (unread fault) true = Move.rests_told n out_of_memory (λ is. cc)
quiet_lost-moves n (unread fault) false = tt
quiet_lost-moves n (session_word (Begin written)) true = Move.rests_told n out_of_memory (λ is. cc)
quiet_lost-moves n (session_word (Begin written)) false = tt
quiet_lost-moves n (session_word (Commit anyway)) true = Move.rests_told n out_of_memory (λ is. cc)
quiet_lost-moves n (session_word (Commit anyway)) false = tt
quiet_lost-moves n (session_word Abort) true = Move.rests_told n out_of_memory (λ is. cc)
quiet_lost-moves n (session_word Abort) false = tt
quiet_lost-moves n data_statement true = Move.rests_told n out_of_memory (λ is. cc)
quiet_lost-moves n data_statement false = tt

quiet_inside-moves : (n : ℕ) (item : ScriptItem) (opened : Opened) (granted wanting : Bool) → Moves n (inside opened granted) [] (quiet_inside n item opened granted wanting)
quiet_inside-moves n the_end opened granted wanting = tt
quiet_inside-moves n (unread fault) opened granted wanting = Move.tells n opened.t [] (unread_reply fault wanting) no_event (unread-tells fault wanting)
quiet_inside-moves n (session_word (Begin written)) opened granted false = Move.tells n opened.t [] in_transaction no_event (λ is. cc)
quiet_inside-moves n (session_word (Begin written)) opened granted true = tt
quiet_inside-moves n (session_word (Commit anyway)) opened granted wanting = tt
quiet_inside-moves n (session_word Abort) opened granted wanting = tt
quiet_inside-moves n data_statement opened false true = Move.tells n opened.t [] out_of_memory no_event (λ is. cc)
quiet_inside-moves n data_statement opened true true = tt
quiet_inside-moves n data_statement opened false false = tt
quiet_inside-moves n data_statement opened true false = tt

quiet-moves : (n : ℕ) (item : ScriptItem) (place : SessionPlace) (wanting : Bool) → Moves n place [] (after_quiet n item place wanting)
quiet-moves n item (free attempts) wanting = quiet_free-moves n item attempts wanting
quiet-moves n item lost wanting = quiet_lost-moves n item wanting
quiet-moves n item (inside opened granted) wanting = quiet_inside-moves n item opened granted wanting
quiet-moves n item (leaving opened) wanting = tt
quiet-moves n item (own u granted) wanting = tt
quiet-moves n item (ending u closed) wanting = tt

-- ---- steps

abbrev pub event_of : Step → List Event
event_of (made event) = event ∷ []
event_of (quiet wanting) = []

pub step-moves : (session : ℕ) (script : ReadScript) (state : State) (step : Step)
    → IfSome (step_from session script state step)
    (λ next. Move (phase_of state.place) state.next (event_of step) (line_for state next) (phase_of next.1.place) next.1.next)
step-moves session script state (made event) = at (fits session state event) refl
  where
    at : (b : Bool) → fits session state event ≡ b → Moves state.next state.place (event ∷ []) (if b then after_event state.next (item_at script state.next) state.place event else None)
    at true fit = event-moves session state.next (item_at script state.next) state.place event fit
    at false fit = tt
step-moves session script state (quiet wanting) = quiet-moves state.next (item_at script state.next) state.place wanting
