-- At most one outcome of a schedule is good and tells nothing of want of memory, apart from the room of its answers.
use Rattle.std.proofs.Common.{◌≡◌, ◌≢◌, ℕ, zero, suc, Bool, true, false, ◌&&◌, ◌||◌, if◌then◌else◌, List, [], ◌∷◌, ◌++◌, flat_map, map, reverse, Option, Some, None, refl, sym, ap, ◌∙◌, subst}
use Rattle.std.specs.List.{AllByRecursion}
use Rattle.std.proofs.lemmas.Bool.{false_from_ne_true, false≢true}
use Rattle.std.proofs.lemmas.List.{append-nil, append_assoc, map-append, reverse-append}
use Rattle.std.proofs.lemmas.List.Elements.{recursion_from_All}
use Rattle.ras_syntax.specs.declared.answer.Answer.{Answer}
use Rattle.ras_syntax.specs.declared.event.Event.{Event}
use Rattle.ras_syntax.specs.declared.event.Event.TheVariants.{Begun, Granted, Refused, Answered, GaveUp, Committed, Aborted}
use Rattle.spec_histories.specs.History.{History, Programs, begun_at, events_of, owner_of}
use Rattle.spec_histories.specs.Legal.{IsLegal}
use Rattle.spec_statements.specs.Reply.{Reply}
use Rattle.spec_sessions.specs.Outcomes.{AreMadeFrom, IsPaced, IsWholeWalkOf, OutcomeValue, began_in, behind_next, events_in, next_event, paced_events, session_events, turns_of}
use Rattle.spec_sessions.specs.Printable.{AreFilled, IsFilledAnswer, IsGood, IsUnbroken, all_lines, is_given_up, is_of, is_out_of_memory, is_untold}
use Rattle.spec_sessions.specs.Walk.{After, Line, LineReply, ReadScript, ScriptItem, SessionPlace, State, Step, Walked, after_event, by_failure, by_giving_up, by_success, ending, first_state, fits, free, goes_to, if_data, inside, is_success, item_at, leaving, line_for, lost, made, out_of_memory, own, quiet, recorded, step_from, told, walk, walk_on, walked_on, with_bad}
use Rattle.law_histories.proofs.Stays.{legal-before}
use Rattle.law_lists.proofs.Each.{split_all}
use Rattle.law_sessions.specs.Plain.{plain_answer, plain_event, plain_outcome}
use Rattle.law_sessions.proofs.Due.{IsKeptUp, IsTold, plain_step}
use Rattle.law_sessions.proofs.PlainHistories.{may-plain, plain-again, plain-reply, plains}
use Rattle.law_sessions.proofs.Runs.{AreLegalFrom, AreRests, IsGoingTo, IsRest, runs-same}
use Rattle.law_sessions.proofs.Turned.{each-reverse, reverse-more}

-- ---- steps with plain answers go the same way

after-plain : (n : ℕ) (item : ScriptItem) (place : SessionPlace) (t k : ℕ) (answer : Answer)
    → after_event n item place (Answered t k (plain_answer answer)) ≡ after_event n item place (Answered t k answer)
after-plain n item (free attempts) t k answer = refl
after-plain n item lost t k answer = refl
after-plain n item (inside opened granted) t k answer =
    ap (λ (r : Reply). if_data item (told n recorded (inside (if is_success r then opened else with_bad opened n) false))) (plain-reply answer)
after-plain n item (leaving opened) t k answer = refl
after-plain n item (own u granted) t k answer =
    ap (λ (r : Reply). goes_to n (ending u (if is_success r then by_success else by_failure))) (plain-reply answer)
after-plain n item (ending u by_success) t k answer = refl
after-plain n item (ending u by_failure) t k answer = refl
after-plain n item (ending u by_giving_up) t k answer = refl

module _ (session : ℕ) (script : ReadScript) where
  event-comes : (state : State) (event : Event) → step_from session script state (made (plain_event event)) ≡ step_from session script state (made event)
  event-comes state (Begun t i k) = refl
  event-comes state (Granted t k p list) = refl
  event-comes state (Refused t k p name mode holder) = refl
  event-comes state (Answered t k answer) =
      ap (λ (a : After). if fits session state (Answered t k answer) then a else None) (after-plain state.next (item_at script state.next) state.place t k answer)
  event-comes state (GaveUp t k) = refl
  event-comes state (Committed t n) = refl
  event-comes state (Aborted t) = refl

  comes-plain : (state : State) (step : Step) → step_from session script state (plain_step step) ≡ step_from session script state step
  comes-plain state (made event) = event-comes state event
  comes-plain state (quiet wanting) = refl

  on-plain : (was : Option Walked) (step : Step) → walk_on session script was (plain_step step) ≡ walk_on session script was step
  on-plain None step = refl
  on-plain (Some was) step = ap (walked_on was) (comes-plain was.state step)

  walk-plain : (steps : List Step) → walk session script (map plain_step steps) ≡ walk session script steps
  walk-plain [] = refl
  walk-plain (step ∷ before) =
      ap (λ was. walk_on session script was (plain_step step)) (walk-plain before) ∙ on-plain (walk session script before) step

step-again : (step : Step) → plain_step (plain_step step) ≡ plain_step step
step-again (made event) = ap made (plain-again event)
step-again (quiet wanting) = refl

given_up-plain : (event : Event) → is_given_up (plain_event event) ≡ is_given_up event
given_up-plain (Begun t i k) = refl
given_up-plain (Granted t k p list) = refl
given_up-plain (Refused t k p name mode holder) = refl
given_up-plain (Answered t k answer) = refl
given_up-plain (GaveUp t k) = refl
given_up-plain (Committed t n) = refl
given_up-plain (Aborted t) = refl

kept-plain : (step : Step) → IsKeptUp step → IsKeptUp (plain_step step)
kept-plain (made event) kept = given_up-plain event ∙ kept
kept-plain (quiet wanting) kept = tt

-- ---- a walk, with its first step first

abbrev in_order : List Step → List Step
in_order steps = map plain_step (reverse steps)

in_order-more : (step : Step) (before : List Step) → in_order (step ∷ before) ≡ in_order before ++ plain_step step ∷ []
in_order-more step before = ap (map plain_step) (reverse-more step before) ∙ map-append plain_step (reverse before) (step ∷ [])

in_order-then : (step : Step) (before rest : List Step) → (in_order (step ∷ before) ++ rest) ≡ (in_order before ++ plain_step step ∷ rest)
in_order-then step before rest = ap (λ l. l ++ rest) (in_order-more step before) ∙ append_assoc (in_order before) (plain_step step ∷ []) rest

-- the same the other way round
turned-back : (steps : List Step) → reverse (in_order steps) ≡ map plain_step steps
turned-back [] = refl
turned-back (step ∷ before) =
    ap reverse (in_order-more step before) ∙ reverse-append (in_order before) (plain_step step ∷ []) ∙ ap (λ l. plain_step step ∷ l) (turned-back before)

abbrev IsLineTold : Line → Type 0
IsLineTold line = line.reply ≢ out_of_memory

abbrev IsEventKept : Event → Type 0
IsEventKept event = is_given_up event ≡ false

some_same : {A : Type 0} {x y : A} → Some x ≡ Some y → x ≡ y
some_same is = cc

line-told : (state : State) (next : Option LineReply × State) → AllByRecursion IsLineTold (line_for state next) → IsTold next.0
line-told state (None, after) told = tt
line-told state (Some reply, after) told = told.0

module _ (session : ℕ) (script : ReadScript) where
  on-rest : (before : List Step) (step : Step) (was walked : Walked) (rest : List Step) → IsKeptUp step
      → ((more : List Step) → AllByRecursion IsLineTold was.lines → IsRest session script was.state more → IsRest session script first_state (in_order before ++ more))
      → AllByRecursion IsLineTold walked.lines → IsRest session script walked.state rest → walked_on was (step_from session script was.state step) ≡ Some walked
      → IsRest session script first_state (in_order (step ∷ before) ++ rest)
  on-rest before step was walked rest kept back told left is = at (step_from session script was.state step) refl is
    where
      at : (after : After) → step_from session script was.state step ≡ after → walked_on was after ≡ Some walked
          → IsRest session script first_state (in_order (step ∷ before) ++ rest)
      at None comes is = absurd cc
      at (Some next) comes is =
          let e : record { state = next.1; lines = was.lines ++ line_for was.state next } ≡ walked = some_same is in
          let all : AllByRecursion IsLineTold (was.lines ++ line_for was.state next) = subst (λ (w : Walked). AllByRecursion IsLineTold w.lines) (sym e) told in
          let both = split_all IsLineTold was.lines (line_for was.state next) all in
          let then_rest : IsRest session script next.1 rest = subst (λ (w : Walked). IsRest session script w.state rest) (sym e) left in
          let goes : IsGoingTo session script was.state (plain_step step) next = record {
            comes = comes-plain session script was.state step ∙ comes;
            is_told = line-told was.state next both.1;
            kept = kept-plain step kept;
            plain = step-again step;
          } in
          subst (IsRest session script first_state) (sym (in_order-then step before rest))
          (back (plain_step step ∷ rest) both.0 (IsRest.going was.state (plain_step step) rest next goes then_rest))

  rest-of : (steps : List Step) (walked : Walked) (rest : List Step) → walk session script steps ≡ Some walked → AllByRecursion IsLineTold walked.lines
      → AllByRecursion IsKeptUp steps → IsRest session script walked.state rest → IsRest session script first_state (in_order steps ++ rest)
  rest-of [] walked rest is told kept left = subst (λ (w : Walked). IsRest session script w.state rest) (sym (some_same is)) left
  rest-of (step ∷ before) walked rest is told kept left =
      at (walk session script before) (λ was walks more told_before left_then. rest-of before was more walks told_before kept.1 left_then) is
    where
      at : (was : Option Walked)
          → ((w : Walked) → was ≡ Some w → (more : List Step) → AllByRecursion IsLineTold w.lines → IsRest session script w.state more
          → IsRest session script first_state (in_order before ++ more))
          → walk_on session script was step ≡ Some walked → IsRest session script first_state (in_order (step ∷ before) ++ rest)
      at None back is = absurd cc
      at (Some was) back is = on-rest before step was walked rest kept.0 (back was refl) told left is

steps-kept : (steps : List Step) → AllByRecursion IsEventKept (events_in steps) → AllByRecursion IsKeptUp steps
steps-kept [] kept = tt
steps-kept (made event ∷ steps) kept = (kept.0, steps-kept steps kept.1)
steps-kept (quiet wanting ∷ steps) kept = (tt, steps-kept steps kept)

session-kept : (i : ℕ) (past : History) → AllByRecursion IsEventKept past → AllByRecursion IsEventKept (session_events i past)
session-kept i [] kept = tt
session-kept i (event ∷ past) kept = at (began_in i (begun_at (events_of (owner_of event) (event ∷ past)))) (session-kept i past kept.1)
  where
    at : (b : Bool) → AllByRecursion IsEventKept (session_events i past) → AllByRecursion IsEventKept (if b then event ∷ session_events i past else session_events i past)
    at true later = (kept.0, later)
    at false later = later

whole-rest : (session : ℕ) (script : ReadScript) (past : History) (lines : List Line) (steps : List Step) → IsWholeWalkOf session script past lines steps
    → AllByRecursion IsLineTold lines → AllByRecursion IsEventKept past → IsRest session script first_state (in_order steps)
whole-rest session script past lines steps whole told kept =
    let walked : Walked = whole.walked in
    let events : AllByRecursion IsEventKept (events_in steps) = subst (AllByRecursion IsEventKept) (sym whole.is_walk.events) (session-kept session past kept) in
    subst (IsRest session script first_state) (append-nil (in_order steps))
    (rest-of session script steps walked [] whole.is_walk.walks (subst (AllByRecursion IsLineTold) (sym whole.lines_are) told) (steps-kept steps events)
    (IsRest.ended walked.state whole.over))

-- ---- all sessions

abbrev at_first : List ReadScript → List State
at_first scripts = map (λ script. first_state) scripts

rests-of : (first : ℕ) (scripts : List ReadScript) (lines : List (List Line)) (past : History) (walks : List (List Step)) → AreMadeFrom first scripts lines past walks
    → AllByRecursion IsLineTold (flat_map (λ l. l) lines) → AllByRecursion IsEventKept past → AreRests first scripts (at_first scripts) (map in_order walks)
rests-of first [] [] past [] are is_told kept = AreRests.no_more first
rests-of first [] [] past (steps ∷ walks) are is_told kept = absurd are
rests-of first [] (one ∷ more) past walks are is_told kept = absurd are
rests-of first (script ∷ scripts) [] past walks are is_told kept = absurd are
rests-of first (script ∷ scripts) (one ∷ more) past [] are is_told kept = absurd are
rests-of first (script ∷ scripts) (one ∷ more) past (steps ∷ walks) are is_told kept =
    let both = split_all IsLineTold one (flat_map (λ l. l) more) is_told in
    AreRests.one_more first script scripts first_state (at_first scripts) (in_order steps) (map in_order walks) (whole-rest first script past one steps are.0 both.0 kept)
    (rests-of (suc first) scripts more past walks are.1 both.1 kept)

-- walks of the same steps tell the same
told-same : (session : ℕ) (script : ReadScript) (past other : History) (lines more : List Line) (steps others : List Step) → IsWholeWalkOf session script past lines steps
    → IsWholeWalkOf session script other more others → in_order steps ≡ in_order others → lines ≡ more
told-same session script past other lines more steps others one two same =
    let plain : map plain_step steps ≡ map plain_step others = sym (turned-back steps) ∙ ap reverse same ∙ turned-back others in
    let walks : walk session script steps ≡ walk session script others = sym (walk-plain session script steps) ∙ ap (walk session script) plain ∙ walk-plain session script others in
    let walked : one.walked ≡ two.walked = some_same (sym one.is_walk.walks ∙ walks ∙ two.is_walk.walks) in
    sym one.lines_are ∙ ap (λ w. w.lines) walked ∙ two.lines_are

made-none : (first : ℕ) (lines : List (List Line)) (past : History) (walks : List (List Step)) → AreMadeFrom first [] lines past walks → lines ≡ []
made-none first [] past walks are = refl
made-none first (one ∷ more) past walks are = absurd are

-- the parts of what the first session made, and the others
record IsMadeOf (first : ℕ) (script : ReadScript) (scripts : List ReadScript) (lines : List (List Line)) (past : History) (walks : List (List Step)) : Type 0 where
  one : List Line
  more : List (List Line)
  steps : List Step
  others : List (List Step)
  lines_are : lines ≡ one ∷ more
  walks_are : walks ≡ steps ∷ others
  whole : IsWholeWalkOf first script past one steps
  made_more : AreMadeFrom (suc first) scripts more past others

made-of : (first : ℕ) (script : ReadScript) (scripts : List ReadScript) (lines : List (List Line)) (past : History) (walks : List (List Step))
    → AreMadeFrom first (script ∷ scripts) lines past walks → IsMadeOf first script scripts lines past walks
made-of first script scripts [] past walks are = absurd are
made-of first script scripts (one ∷ more) past [] are = absurd are
made-of first script scripts (one ∷ more) past (steps ∷ others) are = record {
  one = one;
  more = more;
  steps = steps;
  others = others;
  lines_are = refl;
  walks_are = refl;
  whole = are.0;
  made_more = are.1;
}

lines-same : (first : ℕ) (scripts : List ReadScript) (lines more : List (List Line)) (past other : History) (walks others : List (List Step))
    → AreMadeFrom first scripts lines past walks → AreMadeFrom first scripts more other others → map in_order walks ≡ map in_order others → lines ≡ more
lines-same first [] lines more past other walks others one two same = made-none first lines past walks one ∙ sym (made-none first more other others two)
lines-same first (script ∷ scripts) lines more past other walks others one two same =
    let p = made-of first script scripts lines past walks one in
    let q = made-of first script scripts more other others two in
    let all : in_order p.steps ∷ map in_order p.others ≡ in_order q.steps ∷ map in_order q.others =
    sym (ap (map in_order) p.walks_are) ∙ same ∙ ap (map in_order) q.walks_are in
    let here : p.one ≡ q.one = told-same first script past other p.one q.one p.steps q.steps p.whole q.whole (first-of all) in
    let later : p.more ≡ q.more = lines-same (suc first) scripts p.more q.more past other p.others q.others p.made_more q.made_more (behind all) in
    p.lines_are ∙ (λ i. here i ∷ later i) ∙ sym q.lines_are
  where
    first-of : {X : Type 0} {x y : X} {xs ys : List X} → x ∷ xs ≡ y ∷ ys → x ≡ y
    first-of is = cc

    behind : {X : Type 0} {x y : X} {xs ys : List X} → x ∷ xs ≡ y ∷ ys → xs ≡ ys
    behind is = cc

-- ---- the order of a schedule

events-plain : (steps : List Step) → events_in (map plain_step steps) ≡ map plain_event (events_in steps)
events-plain [] = refl
events-plain (made event ∷ steps) = ap (λ l. plain_event event ∷ l) (events-plain steps)
events-plain (quiet wanting ∷ steps) = events-plain steps

rest-plain : (walks : List (List Step)) → flat_map events_in (map (map plain_step) walks) ≡ map plain_event (flat_map events_in walks)
rest-plain [] = refl
rest-plain (steps ∷ walks) =
    (let e = events-plain steps in let f = rest-plain walks in λ i. e i ++ f i) ∙ sym (map-append plain_event (events_in steps) (flat_map events_in walks))

next-plain : (before : ℕ) (walks : List (List Step)) → next_event before (map (map plain_step) walks) ≡ map plain_event (next_event before walks)
next-plain zero [] = refl
next-plain (suc before) [] = refl
next-plain zero ([] ∷ walks) = refl
next-plain zero ((made event ∷ steps) ∷ walks) = refl
next-plain zero ((quiet wanting ∷ steps) ∷ walks) = refl
next-plain (suc before) (steps ∷ walks) = next-plain before walks

behind-plain : (before : ℕ) (walks : List (List Step)) → behind_next before (map (map plain_step) walks) ≡ map (map plain_step) (behind_next before walks)
behind-plain zero [] = refl
behind-plain (suc before) [] = refl
behind-plain zero ([] ∷ walks) = refl
behind-plain zero ((step ∷ steps) ∷ walks) = refl
behind-plain (suc before) (steps ∷ walks) = ap (λ l. map plain_step steps ∷ l) (behind-plain before walks)

paced-plain : (turns : List ℕ) (walks : List (List Step)) → paced_events turns (map (map plain_step) walks) ≡ map plain_event (paced_events turns walks)
paced-plain [] walks = rest-plain walks
paced-plain (zero ∷ turns) walks = paced-plain turns walks
paced-plain (suc before ∷ turns) walks =
    (let e = next-plain before walks in
    let f = ap (paced_events turns) (behind-plain before walks) ∙ paced-plain turns (behind_next before walks) in
    λ i. e i ++ f i)
    ∙ sym (map-append plain_event (next_event before walks) (paced_events turns (behind_next before walks)))

all-in_order : (walks : List (List Step)) → map in_order walks ≡ map (map plain_step) (map reverse walks)
all-in_order [] = refl
all-in_order (steps ∷ walks) = ap (λ l. in_order steps ∷ l) (all-in_order walks)

-- ---- legality, event by event

legal-from : (programs : Programs) (events : List Event) (past : History) → IsLegal programs (reverse events ++ past) → AreLegalFrom programs past events
legal-from programs [] past legal = tt
legal-from programs (event ∷ events) past legal =
    let turned : (reverse (event ∷ events) ++ past) ≡ (reverse events ++ event ∷ past) =
    ap (λ l. l ++ past) (reverse-more event events) ∙ append_assoc (reverse events) (event ∷ []) past in
    let all : IsLegal programs (reverse events ++ event ∷ past) = subst (IsLegal programs) turned legal in
    ((legal-before programs (reverse events) (event ∷ past) all).0, legal-from programs events (event ∷ past) all)

from-plain : (programs : Programs) (events : List Event) (past : History) → AreLegalFrom programs past events → AreLegalFrom programs (plains past) (map plain_event events)
from-plain programs [] past legal = tt
from-plain programs (event ∷ events) past legal = (may-plain programs past event legal.0, from-plain programs events (event ∷ past) legal.1)

-- ---- an outcome in which nothing is told of want of memory is filled in

and-false : (b c : Bool) → c ≡ false → (b && c) ≡ false
and-false true c is = is
and-false false c is = refl

only-memory : (reply : LineReply) → is_out_of_memory reply ≡ true → reply ≡ out_of_memory
only-memory out_of_memory is = refl
only-memory reply is = absurd (false≢true is)

not-memory : (reply : LineReply) → reply ≢ out_of_memory → is_out_of_memory reply ≡ false
not-memory reply other = false_from_ne_true (is_out_of_memory reply) (λ is. other (only-memory reply is))

none-untold : (lines : List Line) (t k : ℕ) → AllByRecursion IsLineTold lines → is_untold lines t k ≡ false
none-untold [] t k told = refl
none-untold (line ∷ lines) t k told =
    (let e = and-false (is_of t k line) (is_out_of_memory line.reply) (not-memory line.reply told.0) in λ i. e i || is_untold lines t k) ∙ none-untold lines t k told.1

filled-same : (programs : Programs) (lines : List Line) → ((t k : ℕ) → is_untold lines t k ≡ false) → (told' filled : History) → AreFilled programs lines told' filled
    → told' ≡ filled
filled-same programs lines none [] [] are = refl
filled-same programs lines none [] (other ∷ filled) are = absurd are
filled-same programs lines none (Begun t i k ∷ told') [] are = absurd are
filled-same programs lines none (Begun t i k ∷ told') (other ∷ filled) are =
    let e = are.0 in let f = filled-same programs lines none told' filled are.1 in λ i. e i ∷ f i
filled-same programs lines none (Granted t k p list ∷ told') [] are = absurd are
filled-same programs lines none (Granted t k p list ∷ told') (other ∷ filled) are =
    let e = are.0 in let f = filled-same programs lines none told' filled are.1 in λ i. e i ∷ f i
filled-same programs lines none (Refused t k p name mode holder ∷ told') [] are = absurd are
filled-same programs lines none (Refused t k p name mode holder ∷ told') (other ∷ filled) are =
    let e = are.0 in let f = filled-same programs lines none told' filled are.1 in λ i. e i ∷ f i
filled-same programs lines none (GaveUp t k ∷ told') [] are = absurd are
filled-same programs lines none (GaveUp t k ∷ told') (other ∷ filled) are =
    let e = are.0 in let f = filled-same programs lines none told' filled are.1 in λ i. e i ∷ f i
filled-same programs lines none (Committed t n ∷ told') [] are = absurd are
filled-same programs lines none (Committed t n ∷ told') (other ∷ filled) are =
    let e = are.0 in let f = filled-same programs lines none told' filled are.1 in λ i. e i ∷ f i
filled-same programs lines none (Aborted t ∷ told') [] are = absurd are
filled-same programs lines none (Aborted t ∷ told') (other ∷ filled) are =
    let e = are.0 in let f = filled-same programs lines none told' filled are.1 in λ i. e i ∷ f i
filled-same programs lines none (Answered t k answer ∷ told') [] are = absurd are
filled-same programs lines none (Answered t k answer ∷ told') (Answered u j other ∷ filled) are =
    let f = filled-same programs lines none told' filled are.3 in
    let a = are.0 in
    let b = are.1 in
    let c : answer ≡ other = told-answer (is_untold lines t k) (none t k) are.2 in
    λ i. Answered (a i) (b i) (c i) ∷ f i
  where
    told-answer : (untold : Bool) → untold ≡ false → IsFilledAnswer programs filled t k untold answer other → answer ≡ other
    told-answer true is filled_in = absurd (false≢true (sym is))
    told-answer false is filled_in = filled_in
filled-same programs lines none (Answered t k answer ∷ told') (Begun u i j ∷ filled) are = absurd (let e = are.0 in cc)
filled-same programs lines none (Answered t k answer ∷ told') (Granted u j p list ∷ filled) are = absurd (let e = are.0 in cc)
filled-same programs lines none (Answered t k answer ∷ told') (Refused u j p name mode holder ∷ filled) are = absurd (let e = are.0 in cc)
filled-same programs lines none (Answered t k answer ∷ told') (GaveUp u j ∷ filled) are = absurd (let e = are.0 in cc)
filled-same programs lines none (Answered t k answer ∷ told') (Committed u n ∷ filled) are = absurd (let e = are.0 in cc)
filled-same programs lines none (Answered t k answer ∷ told') (Aborted u ∷ filled) are = absurd (let e = are.0 in cc)

-- ---- the law

-- what an outcome has that is good, paced and unbroken
record IsRun (programs : Programs) (scripts : List ReadScript) (turns : List ℕ) (outcome : OutcomeValue) : Type 0 where
  walks : List (List Step)
  made_by : AreMadeFrom 1 scripts outcome.lines (reverse outcome.history) walks
  rests : AreRests 1 scripts (at_first scripts) (map in_order walks)
  order : paced_events turns (map in_order walks) ≡ map plain_event outcome.history
  legal : AreLegalFrom programs [] (paced_events turns (map in_order walks))

is_run : (programs : Programs) (scripts : List ReadScript) (schedule : List (ℕ × ℕ)) (outcome : OutcomeValue) → IsGood programs scripts outcome
    → IsPaced schedule scripts outcome → IsUnbroken outcome → IsRun programs scripts (turns_of schedule) outcome
is_run programs scripts schedule outcome good paced unbroken =
    let lines : AllByRecursion IsLineTold (all_lines outcome) = recursion_from_All IsLineTold (all_lines outcome) unbroken.lines in
    let events : AllByRecursion IsEventKept outcome.history = recursion_from_All IsEventKept outcome.history unbroken.events in
    let filled : reverse outcome.history ≡ reverse good.filled.history =
    filled-same programs (all_lines outcome) (λ t k. none-untold (all_lines outcome) t k lines) (reverse outcome.history) (reverse good.filled.history) good.is_filled.history in
    let legal : IsLegal programs (reverse outcome.history) = subst (IsLegal programs) (sym filled) good.legal in
    let from : AreLegalFrom programs [] (map plain_event outcome.history) = from-plain programs outcome.history []
    (legal-from programs outcome.history [] (subst (IsLegal programs) (sym (append-nil (reverse outcome.history))) legal)) in
    let order : paced_events (turns_of schedule) (map in_order paced.walks) ≡ map plain_event outcome.history =
    ap (paced_events (turns_of schedule)) (all-in_order paced.walks) ∙ paced-plain (turns_of schedule) (map reverse paced.walks) ∙ ap (map plain_event) paced.order in
    record {
      walks = paced.walks;
      made_by = paced.made_by;
      rests = rests-of 1 scripts outcome.lines (reverse outcome.history) paced.walks paced.made_by lines (each-reverse IsEventKept outcome.history events);
      order = order;
      legal = subst (AreLegalFrom programs []) (sym order) from;
    }

pub one-outcome : (programs : Programs) (scripts : List ReadScript) (schedule : List (ℕ × ℕ)) (one other : OutcomeValue) → IsGood programs scripts one
    → IsPaced schedule scripts one → IsUnbroken one → IsGood programs scripts other → IsPaced schedule scripts other → IsUnbroken other → plain_outcome one ≡ plain_outcome other
one-outcome programs scripts schedule one other good paced unbroken good_too paced_too unbroken_too =
    let p = is_run programs scripts schedule one good paced unbroken in
    let q = is_run programs scripts schedule other good_too paced_too unbroken_too in
    let same : map in_order p.walks ≡ map in_order q.walks = runs-same programs (turns_of schedule) scripts (at_first scripts) (map in_order p.walks) (map in_order q.walks) []
    p.rests q.rests p.legal q.legal in
    let lines : one.lines ≡ other.lines = lines-same 1 scripts one.lines other.lines (reverse one.history) (reverse other.history) p.walks q.walks p.made_by q.made_by same in
    let history : map plain_event one.history ≡ map plain_event other.history = sym p.order ∙ ap (paced_events (turns_of schedule)) same ∙ q.order in
    λ i. record { lines = lines i; history = history i }
