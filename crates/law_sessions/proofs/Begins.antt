-- How often a session begins a transaction: no more than its statements times the tries that a begin may have. A number that
-- falls with each begin, and never rises, says how many may still come.
use Rattle.std.proofs.Common.{◌≡◌, ℕ, zero, suc, ◌+◌, ◌*◌, ◌-◌, ◌≤◌, Bool, true, false, if◌then◌else◌, leb, List, [], ◌∷◌, length, Option, Some, None, Result, Ok, Err, All, refl, sym, ap, subst, arith}
use Rattle.std.specs.Prelude.{IfSome, slice_get}
use Rattle.std.proofs.lemmas.Bool.{leb-true}
use Rattle.std.proofs.lemmas.Option.{slice_get_within}
use Rattle.law_lists.proofs.Each.{slice_get-All}
use Rattle.ras_syntax.specs.declared.event.Event.{Event}
use Rattle.ras_syntax.specs.declared.event.Event.TheVariants.{Begun, Granted, Refused, Answered, GaveUp, Committed, Aborted}
use Rattle.ras_syntax.specs.declared.faults.SyntaxFault.{SyntaxFault}
use Rattle.ras_syntax.specs.declared.limits.TheConstants.{MAX_RETRIES}
use Rattle.ras_syntax.specs.declared.statement.Statement.{Statement}
use Rattle.ras_syntax.specs.declared.statement.StatementForm.{StatementForm}
use Rattle.ras_syntax.specs.declared.statement.StatementForm.TheVariants as forms
use Rattle.ras_syntax.specs.declared.statement.Word.TheVariants.{Begin, Commit, Abort}
use Rattle.spec_histories.specs.History.{nth}
use Rattle.spec_statements.specs.Reply.{reply_of_answer}
use Rattle.spec_sessions.specs.Begins.{HasFewTries, HasFewTriesIn, begins_in, begins_of, begun_by}
use Rattle.spec_sessions.specs.Walk.{After, Closed, ScriptItem, Opened, SessionPlace, ReadScript, State, Step, Walked, after_event, after_quiet, at_aborted, at_begun, at_committed, at_data, by_failure, by_giving_up, by_success, data_statement, ending, fits, free, if_data, in_ending, in_free, in_inside, in_leaving, in_own, inside, is_due_commit, is_success, item_at, item_of, item_of_form, leaving, lost, made, own, quiet, quiet_free, quiet_inside, quiet_lost, recorded, refused_with, session_word, step_from, the_end, told, unread, walk, walk_on, walked_on, with_bad}

-- ---- what may still come

abbrev tries : ℕ
tries = suc MAX_RETRIES

-- behind statement k of m, at a place
abbrev still_at : ℕ → ℕ → SessionPlace → ℕ
still_at m k (free None) = (suc m - k) * tries
still_at m k (free (Some left)) = (m - k) * tries + suc left
still_at m k lost = (suc m - k) * tries
still_at m k (inside opened granted) = (m - opened.from) * tries + opened.attempts
still_at m k (leaving opened) = (m - opened.from) * tries + opened.attempts
still_at m k (own t granted) = (m - k) * tries
still_at m k (ending t closed) = (m - k) * tries

abbrev still : ℕ → State → ℕ
still m state = still_at m state.next state.place

-- a transaction began at a statement before; one that goes back has a try left
abbrev IsSoundAt : ℕ → SessionPlace → Type 0
IsSoundAt k (free attempts) = Unit {0}
IsSoundAt k lost = Unit {0}
IsSoundAt k (inside opened granted) = opened.from ≤ k
IsSoundAt k (leaving opened) = 1 ≤ opened.attempts
IsSoundAt k (own t granted) = Unit {0}
IsSoundAt k (ending t closed) = Unit {0}

-- what may come then, with so many begins, is no more than before
abbrev Falls : (m begins before : ℕ) → After → Type 0
Falls m begins before after = IfSome after (λ next. (begins + still m next.1 ≤ before) × IsSoundAt next.1.next next.1.place)

-- a place of the script, and a begin with few tries
abbrev IsPlaced : ℕ → ℕ → ScriptItem → Type 0
IsPlaced m k the_end = Unit {0}
IsPlaced m k (unread fault) = k ≤ m
IsPlaced m k (session_word (Begin written)) = (k ≤ m) × (written ≤ MAX_RETRIES)
IsPlaced m k (session_word (Commit anyway)) = k ≤ m
IsPlaced m k (session_word Abort) = k ≤ m
IsPlaced m k data_statement = k ≤ m

-- ---- events, by the place

begun-falls : (m k : ℕ) (item : ScriptItem) (attempts : Option ℕ) (t : ℕ) → IsPlaced m k item → Falls m 1 (still_at m k (free attempts)) (at_begun k item attempts t)
begun-falls m k the_end attempts t placed = tt
begun-falls m k (unread fault) attempts t placed = tt
begun-falls m k (session_word (Begin written)) None t placed = (omega (arith, placed.0, placed.1), omega arith)
begun-falls m k (session_word (Begin written)) (Some left) t placed = (omega (arith, placed.0), omega arith)
begun-falls m k (session_word (Commit anyway)) attempts t placed = tt
begun-falls m k (session_word Abort) attempts t placed = tt
begun-falls m k data_statement None t placed = (omega (arith, placed), tt)
begun-falls m k data_statement (Some left) t placed = (omega (arith, placed), tt)

free-falls : (m k : ℕ) (item : ScriptItem) (attempts : Option ℕ) (event : Event) → IsPlaced m k item
    → Falls m (begun_by event) (still_at m k (free attempts)) (in_free k item attempts event)
free-falls m k item attempts (Begun t i n) placed = begun-falls m k item attempts t placed
free-falls m k item attempts (Granted u n p list) placed = tt
free-falls m k item attempts (Refused u n p name mode holder) placed = tt
free-falls m k item attempts (Answered u n answer) placed = tt
free-falls m k item attempts (GaveUp u n) placed = tt
free-falls m k item attempts (Committed u n) placed = tt
free-falls m k item attempts (Aborted u) placed = tt

if-falls : (m begins before : ℕ) (b : Bool) (after : After) → Falls m begins before after → Falls m begins before (if b then after else None)
if-falls m begins before true after falls = falls
if-falls m begins before false after falls = tt

committed-falls : (m k : ℕ) (item : ScriptItem) (opened : Opened) (n : ℕ) → opened.from ≤ k
    → Falls m 0 ((m - opened.from) * tries + opened.attempts) (at_committed k item opened n)
committed-falls m k the_end opened n from = tt
committed-falls m k (unread fault) opened n from = tt
committed-falls m k (session_word (Begin written)) opened n from = tt
committed-falls m k (session_word (Commit anyway)) opened n from =
    if-falls m 0 ((m - opened.from) * tries + opened.attempts) (is_due_commit anyway opened.bad) _ (omega (arith, from), tt)
committed-falls m k (session_word Abort) opened n from = tt
committed-falls m k data_statement opened n from = tt

aborted-falls : (m k : ℕ) (item : ScriptItem) (opened : Opened) → opened.from ≤ k
    → Falls m 0 ((m - opened.from) * tries + opened.attempts) (at_aborted k item opened)
aborted-falls m k the_end opened from = (omega (arith, from), tt)
aborted-falls m k (unread fault) opened from = tt
aborted-falls m k (session_word (Begin written)) opened from = tt
aborted-falls m k (session_word (Commit anyway)) opened from = (omega (arith, from), tt)
aborted-falls m k (session_word Abort) opened from = (omega (arith, from), tt)
aborted-falls m k data_statement opened from = tt

refused-falls : (m k attempts : ℕ) (opened : Opened) → attempts ≡ opened.attempts → opened.from ≤ k
    → Falls m 0 ((m - opened.from) * tries + opened.attempts) (refused_with k attempts opened)
refused-falls m k zero opened is from = (omega arith, omega (arith, from))
refused-falls m k (suc attempts) opened is from = (omega arith, omega (arith, is))

-- a bad statement more changes nothing of it
answered-falls : (m k : ℕ) (good : Bool) (opened : Opened) → opened.from ≤ k
    → Falls m 0 ((m - opened.from) * tries + opened.attempts) (told k recorded (inside (if good then opened else with_bad opened k) false))
answered-falls m k true opened from = (omega arith, omega (arith, from))
answered-falls m k false opened from = (omega arith, omega (arith, from))

data-falls : (m k : ℕ) (opened : Opened) (granted : Bool) (event : Event) → opened.from ≤ k
    → Falls m (begun_by event) ((m - opened.from) * tries + opened.attempts) (at_data k opened granted event)
data-falls m k opened granted (Begun u i n) from = tt
data-falls m k opened granted (Granted u n p list) from = (omega arith, from)
data-falls m k opened granted (Refused u n p name mode holder) from = refused-falls m k opened.attempts opened refl from
data-falls m k opened granted (Answered u n answer) from = answered-falls m k (is_success (reply_of_answer answer)) opened from
data-falls m k opened true (GaveUp u n) from = (omega arith, omega (arith, from))
data-falls m k opened false (GaveUp u n) from = tt
data-falls m k opened granted (Committed u n) from = tt
data-falls m k opened granted (Aborted u) from = tt

if_data-falls : (m begins before : ℕ) (item : ScriptItem) (after : After) → Falls m begins before after → Falls m begins before (if_data item after)
if_data-falls m begins before the_end after falls = tt
if_data-falls m begins before (unread fault) after falls = tt
if_data-falls m begins before (session_word w) after falls = tt
if_data-falls m begins before data_statement after falls = falls

inside-falls : (m k : ℕ) (item : ScriptItem) (opened : Opened) (granted : Bool) (event : Event) → opened.from ≤ k
    → Falls m (begun_by event) ((m - opened.from) * tries + opened.attempts) (in_inside k item opened granted event)
inside-falls m k item opened granted (Begun u i n) from =
    if_data-falls m (begun_by (Begun u i n)) ((m - opened.from) * tries + opened.attempts) item (at_data k opened granted (Begun u i n))
    (data-falls m k opened granted (Begun u i n) from)
inside-falls m k item opened granted (Granted u n p list) from =
    if_data-falls m (begun_by (Granted u n p list)) ((m - opened.from) * tries + opened.attempts) item (at_data k opened granted (Granted u n p list))
    (data-falls m k opened granted (Granted u n p list) from)
inside-falls m k item opened granted (Refused u n p name mode holder) from =
    if_data-falls m (begun_by (Refused u n p name mode holder)) ((m - opened.from) * tries + opened.attempts) item (at_data k opened granted (Refused u n p name mode holder))
    (data-falls m k opened granted (Refused u n p name mode holder) from)
inside-falls m k item opened granted (Answered u n answer) from =
    if_data-falls m (begun_by (Answered u n answer)) ((m - opened.from) * tries + opened.attempts) item (at_data k opened granted (Answered u n answer))
    (data-falls m k opened granted (Answered u n answer) from)
inside-falls m k item opened granted (GaveUp u n) from =
    if_data-falls m (begun_by (GaveUp u n)) ((m - opened.from) * tries + opened.attempts) item (at_data k opened granted (GaveUp u n))
    (data-falls m k opened granted (GaveUp u n) from)
inside-falls m k item opened granted (Committed u n) from = committed-falls m k item opened n from
inside-falls m k item opened granted (Aborted u) from = aborted-falls m k item opened from

leaving-falls : (m : ℕ) (opened : Opened) (event : Event) → 1 ≤ opened.attempts
    → Falls m (begun_by event) ((m - opened.from) * tries + opened.attempts) (in_leaving opened event)
leaving-falls m opened (Begun u i n) some = tt
leaving-falls m opened (Granted u n p list) some = tt
leaving-falls m opened (Refused u n p name mode holder) some = tt
leaving-falls m opened (Answered u n answer) some = tt
leaving-falls m opened (GaveUp u n) some = tt
leaving-falls m opened (Committed u n) some = tt
leaving-falls m opened (Aborted u) some = (omega (arith, some), tt)

own-falls : (m k t : ℕ) (granted : Bool) (event : Event) → Falls m (begun_by event) ((m - k) * tries) (in_own k t granted event)
own-falls m k t granted (Begun u i n) = tt
own-falls m k t granted (Granted u n p list) = (omega arith, tt)
own-falls m k t granted (Refused u n p name mode holder) = (omega arith, tt)
own-falls m k t granted (Answered u n answer) = (omega arith, tt)
own-falls m k t true (GaveUp u n) = (omega arith, tt)
own-falls m k t false (GaveUp u n) = tt
own-falls m k t granted (Committed u n) = tt
own-falls m k t true (Aborted u) = tt
own-falls m k t false (Aborted u) = (omega arith, tt)

ending-falls : (m k : ℕ) (closed : Closed) (event : Event) → Falls m (begun_by event) ((m - k) * tries) (in_ending k closed event)
ending-falls m k by_success (Begun u i n) = tt
ending-falls m k by_success (Granted u n p list) = tt
ending-falls m k by_success (Refused u n p name mode holder) = tt
ending-falls m k by_success (Answered u n answer) = tt
ending-falls m k by_success (GaveUp u n) = tt
ending-falls m k by_success (Committed u n) = (omega arith, tt)
ending-falls m k by_success (Aborted u) = (omega arith, tt)
ending-falls m k by_failure (Begun u i n) = tt
ending-falls m k by_failure (Granted u n p list) = tt
ending-falls m k by_failure (Refused u n p name mode holder) = tt
ending-falls m k by_failure (Answered u n answer) = tt
ending-falls m k by_failure (GaveUp u n) = tt
ending-falls m k by_failure (Committed u n) = tt
ending-falls m k by_failure (Aborted u) = (omega arith, tt)
ending-falls m k by_giving_up (Begun u i n) = tt
ending-falls m k by_giving_up (Granted u n p list) = tt
ending-falls m k by_giving_up (Refused u n p name mode holder) = tt
ending-falls m k by_giving_up (Answered u n answer) = tt
ending-falls m k by_giving_up (GaveUp u n) = tt
ending-falls m k by_giving_up (Committed u n) = tt
ending-falls m k by_giving_up (Aborted u) = (omega arith, tt)

event-falls : (m k : ℕ) (item : ScriptItem) (place : SessionPlace) (event : Event) → IsPlaced m k item → IsSoundAt k place
    → Falls m (begun_by event) (still_at m k place) (after_event k item place event)
event-falls m k item (free attempts) event placed sound = free-falls m k item attempts event placed
event-falls m k item lost event placed sound = tt
event-falls m k item (inside opened granted) event placed sound = inside-falls m k item opened granted event sound
event-falls m k item (leaving opened) event placed sound = leaving-falls m opened event sound
event-falls m k item (own t granted) event placed sound = own-falls m k t granted event
event-falls m k item (ending t closed) event placed sound = ending-falls m k closed event

-- ---- lines without an event

quiet_free-falls : (m k : ℕ) (item : ScriptItem) (attempts : Option ℕ) (wanting : Bool) → Falls m 0 (still_at m k (free attempts)) (quiet_free k item wanting)
quiet_free-falls m k the_end attempts true = tt
quiet_free-falls m k the_end attempts false = tt
quiet_free-falls m k (unread fault) None true = (omega arith, tt)
quiet_free-falls m k (unread fault) (Some left) true = (omega arith, tt)
quiet_free-falls m k (unread fault) None false = (omega arith, tt)
quiet_free-falls m k (unread fault) (Some left) false = (omega arith, tt)
quiet_free-falls m k (session_word (Begin written)) None true = (omega arith, tt)
quiet_free-falls m k (session_word (Begin written)) (Some left) true = (omega arith, tt)
quiet_free-falls m k (session_word (Begin written)) attempts false = tt
quiet_free-falls m k (session_word (Commit anyway)) attempts true = tt
quiet_free-falls m k (session_word (Commit anyway)) None false = (omega arith, tt)
quiet_free-falls m k (session_word (Commit anyway)) (Some left) false = (omega arith, tt)
quiet_free-falls m k (session_word Abort) attempts true = tt
quiet_free-falls m k (session_word Abort) None false = (omega arith, tt)
quiet_free-falls m k (session_word Abort) (Some left) false = (omega arith, tt)
quiet_free-falls m k data_statement None true = (omega arith, tt)
quiet_free-falls m k data_statement (Some left) true = (omega arith, tt)
quiet_free-falls m k data_statement attempts false = tt

quiet_lost-falls : (m k : ℕ) (item : ScriptItem) (wanting : Bool) → Falls m 0 ((suc m - k) * tries) (quiet_lost k item wanting)
quiet_lost-falls m k the_end true = tt
quiet_lost-falls m k the_end false = tt
quiet_lost-falls m k (unread fault) true = (omega arith, tt)
quiet_lost-falls m k (unread fault) false = tt
quiet_lost-falls m k (session_word (Begin written)) true = (omega arith, tt)
quiet_lost-falls m k (session_word (Begin written)) false = tt
quiet_lost-falls m k (session_word (Commit anyway)) true = (omega arith, tt)
quiet_lost-falls m k (session_word (Commit anyway)) false = tt
quiet_lost-falls m k (session_word Abort) true = (omega arith, tt)
quiet_lost-falls m k (session_word Abort) false = tt
quiet_lost-falls m k data_statement true = (omega arith, tt)
quiet_lost-falls m k data_statement false = tt

quiet_inside-falls : (m k : ℕ) (item : ScriptItem) (opened : Opened) (granted wanting : Bool) → opened.from ≤ k
    → Falls m 0 ((m - opened.from) * tries + opened.attempts) (quiet_inside k item opened granted wanting)
quiet_inside-falls m k the_end opened granted wanting from = tt
quiet_inside-falls m k (unread fault) opened granted wanting from = (omega arith, omega (arith, from))
quiet_inside-falls m k (session_word (Begin written)) opened granted false from = (omega arith, omega (arith, from))
quiet_inside-falls m k (session_word (Begin written)) opened granted true from = tt
quiet_inside-falls m k (session_word (Commit anyway)) opened granted wanting from = tt
quiet_inside-falls m k (session_word Abort) opened granted wanting from = tt
quiet_inside-falls m k data_statement opened false true from = (omega arith, omega (arith, from))
quiet_inside-falls m k data_statement opened true true from = tt
quiet_inside-falls m k data_statement opened false false from = tt
quiet_inside-falls m k data_statement opened true false from = tt

quiet-falls : (m k : ℕ) (item : ScriptItem) (place : SessionPlace) (wanting : Bool) → IsSoundAt k place → Falls m 0 (still_at m k place) (after_quiet k item place wanting)
quiet-falls m k item (free attempts) wanting sound = quiet_free-falls m k item attempts wanting
quiet-falls m k item lost wanting sound = quiet_lost-falls m k item wanting
quiet-falls m k item (inside opened granted) wanting sound = quiet_inside-falls m k item opened granted wanting sound
quiet-falls m k item (leaving opened) wanting sound = tt
quiet-falls m k item (own t granted) wanting sound = tt
quiet-falls m k item (ending t closed) wanting sound = tt

-- ---- walks

some_same : {A : Type 0} {x y : A} → Some x ≡ Some y → x ≡ y
some_same is = cc

form-placed : (m k : ℕ) (statement : Statement) (form : StatementForm) → form ≡ statement.form → k ≤ m → HasFewTries (Ok statement) → IsPlaced m k (item_of_form form)
form-placed m k statement (forms.Word (Begin written)) is within few = (within, subst (λ f. HasFewTriesIn f) (sym is) few)
form-placed m k statement (forms.Word (Commit anyway)) is within few = within
form-placed m k statement (forms.Word Abort) is within few = within
form-placed m k statement (forms.Select body sources cond) is within few = within
form-placed m k statement (forms.Insert into body) is within few = within
form-placed m k statement (forms.Delete source cond) is within few = within
form-placed m k statement (forms.Update source set axes target body cond) is within few = within
form-placed m k statement (forms.Create name of) is within few = within
form-placed m k statement (forms.Drop name) is within few = within

item-placed : (script : ReadScript) (k : ℕ) → All HasFewTries script → IsPlaced (length script) k (item_at script k)
item-placed script k few = at (nth k script) refl
  where
    nth-placed : (found : Result Statement SyntaxFault) → nth k script ≡ Some found → (k ≤ length script) × HasFewTries found
    nth-placed found is = of (leb 1 k) refl is
      where
        of : (b : Bool) → leb 1 k ≡ b → (if b then slice_get script (k - 1) else None) ≡ Some found → (k ≤ length script) × HasFewTries found
        of true some is = (omega (arith, slice_get_within script (k - 1) found is, leb-true 1 k some), slice_get-All HasFewTries script (k - 1) found few is)
        of false some is = absurd cc

    at : (found : Option (Result Statement SyntaxFault)) → nth k script ≡ found → IsPlaced (length script) k (item_of found)
    at None is = tt
    at (Some (Err fault)) is = (nth-placed (Err fault) is).0
    at (Some (Ok statement)) is =
        let placed = nth-placed (Ok statement) is in form-placed (length script) k statement statement.form refl placed.0 placed.1

step-falls : (session : ℕ) (script : ReadScript) (state : State) (step : Step) → All HasFewTries script → IsSoundAt state.next state.place
    → Falls (length script) (begins_of step) (still (length script) state) (step_from session script state step)
step-falls session script state (made event) few sound =
    if-falls (length script) (begun_by event) (still (length script) state) (fits session state event)
    (after_event state.next (item_at script state.next) state.place event)
    (event-falls (length script) state.next (item_at script state.next) state.place event (item-placed script state.next few) sound)
step-falls session script state (quiet wanting) few sound =
    quiet-falls (length script) state.next (item_at script state.next) state.place wanting sound

abbrev IsWithin : ReadScript → List Step → Walked → Type 0
IsWithin script steps walked =
    (begins_in steps + still (length script) walked.state ≤ length script * tries) × IsSoundAt walked.state.next walked.state.place

on-within : (session : ℕ) (script : ReadScript) (before : List Step) (step : Step) (was walked : Walked) → All HasFewTries script → IsWithin script before was
    → walked_on was (step_from session script was.state step) ≡ Some walked → IsWithin script (step ∷ before) walked
on-within session script before step was walked few within is = at (step_from session script was.state step) (step-falls session script was.state step few within.1) is
  where
    at : (after : After) → Falls (length script) (begins_of step) (still (length script) was.state) after → walked_on was after ≡ Some walked → IsWithin script (step ∷ before) walked
    at None falls is = absurd cc
    at (Some (reply, state)) falls is =
        let e : state ≡ walked.state = ap (λ w. w.state) (some_same is) in
        subst (λ s. (begins_of step + begins_in before + still (length script) s ≤ length script * tries) × IsSoundAt s.next s.place) e
        (omega (arith, falls.0, within.0), falls.1)

pub walk-within : (session : ℕ) (script : ReadScript) (steps : List Step) (walked : Walked) → All HasFewTries script → walk session script steps ≡ Some walked
    → IsWithin script steps walked
walk-within session script [] walked few is = subst (IsWithin script []) (some_same is) (omega arith, tt)
walk-within session script (step ∷ before) walked few is = at (walk session script before) (λ was walks. walk-within session script before was few walks) is
  where
    at : (was : Option Walked) → ((walked : Walked) → was ≡ Some walked → IsWithin script before walked) → walk_on session script was step ≡ Some walked
        → IsWithin script (step ∷ before) walked
    at None within is = absurd cc
    at (Some was) within is = on-within session script before step was walked few (within was refl) is

pub few-begins : (session : ℕ) (script : ReadScript) (steps : List Step) (walked : Walked) → All HasFewTries script → walk session script steps ≡ Some walked
    → begins_in steps ≤ length script * suc MAX_RETRIES
few-begins session script steps walked few is = omega (arith, (walk-within session script steps walked few is).0)
