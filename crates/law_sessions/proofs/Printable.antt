-- A made outcome whose history is legal has a report.
use Rattle.std.proofs.Common.{◌≡◌, ℕ, suc, ◌+◌, ◌-◌, ◌≤◌, Bool, true, false, not, ◌||◌, nat_le, if◌then◌else◌, List, [], ◌∷◌, filter, length, reverse, Option, Some, None, Result, Ok, Err, All, refl, sym, ap, ◌∙◌, subst, arith}
use Rattle.std.specs.Prelude.{IsTrue, find, slice_get}
use Rattle.std.specs.List.{AllByRecursion, list_any}
use Rattle.std.proofs.lemmas.Bool.{false≢true}
use Rattle.std.proofs.lemmas.List.{length-map, length-reverse, reverse-reverse}
use Rattle.std.proofs.lemmas.List.Elements.{All-from_recursion}
use Rattle.std.proofs.lemmas.List.Sorted.{IsPermutation-reverse, list_any-IsPermutation}
use Rattle.ras_syntax.specs.declared.event.Event.{Event}
use Rattle.ras_syntax.specs.declared.event.Event.TheVariants.{Begun, Granted, Refused, Answered, GaveUp, Committed, Aborted}
use Rattle.ras_syntax.specs.declared.faults.SyntaxFault.{SyntaxFault}
use Rattle.ras_syntax.specs.declared.limits.TheConstants.{MAX_STATEMENTS}
use Rattle.ras_syntax.specs.declared.statement.Statement.{Statement}
use Rattle.ras_syntax.specs.declared.types.Script.{Script}
use Rattle.spec_expressions.specs.Database.{Database}
use Rattle.spec_grammar.specs.Tokens.{Text}
use Rattle.spec_grammar.specs.Verdict.{IsVerdict}
use Rattle.spec_histories.specs.History.{History, Programs, answered_statements, begun_at, committed_database, ends, events_of, is_live, nth, own_database, program_needs, program_reply, statement_at, statement_from, statement_in, statement_numbered}
use Rattle.spec_histories.specs.Legal.{IsLegal, MayFollow}
use Rattle.spec_histories.specs.Serializable.{ArePrograms, HasRoom, committed_statements}
use Rattle.spec_statements.specs.Machine.{wanted_at_first}
use Rattle.spec_statements.specs.ReachLaw.{IsSetting}
use Rattle.spec_workloads.specs.Programs.{programs_of, statement_if_read, statement_in_text, statements_in_script}
use Rattle.spec_workloads.specs.Setup.{WorkloadValue, workload_of}
use Rattle.spec_sessions.specs.Begins.{read_script, read_scripts}
use Rattle.spec_sessions.specs.Outcomes.{AreMadeFrom, AreMadeSoFarFrom, IsMade, OutcomeValue}
use Rattle.spec_sessions.specs.Printable.{ArePaired, EventHasText, HolderHasSession, IsPrintable, LockHasText, ReplyHasText, all_lines, is_of}
use Rattle.spec_sessions.specs.Report.{answers_statement, begins, session_in}
use Rattle.spec_sessions.specs.Walk.{Line, ReadScript, Step}
use Rattle.law_grammar.specs.VerdictOf.{verdict_of}
use Rattle.law_grammar.proofs.EachVerdict.{verdict_of-is}
use Rattle.law_histories.proofs.Counts.{live-few, room-before}
use Rattle.law_histories.proofs.Grants.{statement_of-fits}
use Rattle.law_histories.proofs.Legal.{legal_good}
use Rattle.law_histories.proofs.Runs.{run-ready}
use Rattle.law_histories.proofs.Statements.{setting_of}
use Rattle.law_lists.proofs.Each.{each_any, each_map, each_weaker, slice_get-All, split_all}
use Rattle.law_views.proofs.Room.{nth-within}
use Rattle.law_workloads.proofs.Programs.{workloads-are}
use Rattle.law_sessions.proofs.Homes.{IsHomeOf, IsHomed, all-paired, homed, made-length, some_home}
use Rattle.law_sessions.proofs.Names.{AreLockNames, needs-named, text-named}
use Rattle.law_sessions.proofs.Turned.{each-reverse, filter-reverse}
use Rattle.law_sessions.proofs.Values.{reply-text}
use Rattle.law_sessions.proofs.WideExpressions.{IsBodyWide, text-wide}
use Rattle.law_sessions.proofs.Workloads.{room-of_run}

-- ---- statements are those of texts

-- what the parts of a text's statement have
pub record IsRead (statement : Statement) : Type 0 where
  pub named : AreLockNames (wanted_at_first statement.form)
  pub wide : IsBodyWide statement.form

abbrev IfRead : Option Statement → Type 0
IfRead found = (statement : Statement) → found ≡ Some statement → IsRead statement

text-read : (text : Text) → IfRead (statement_in_text text)
text-read text = at (verdict_of text) (verdict_of-is text)
  where
    at : (verdict : Result Statement SyntaxFault) → IsVerdict text verdict → IfRead (statement_if_read verdict)
    at (Err fault) is statement found = absurd cc
    at (Ok read) is statement found =
        let e : read ≡ statement = cc in subst IsRead e (record { named = text-named text read is; wide = text-wide text read is })

script-read : (script : Script) → All IfRead (statements_in_script script)
script-read script =
    All-from_recursion IfRead (statements_in_script script)
    (each_map (λ text. IfRead (statement_in_text text)) IfRead statement_in_text (λ text read. read) script.statements
    (each_any (λ text. IfRead (statement_in_text text)) text-read script.statements))

nth-All : {X : Type 0} (P : X → Type 0) (k : ℕ) (xs : List X) (x : X) → All P xs → nth k xs ≡ Some x → P x
nth-All {X = X} P k xs x all is = at (nat_le 1 k) is
  where
    at : (b : Bool) → (if b then slice_get xs (k - 1) else None) ≡ Some x → P x
    at true is = slice_get-All P xs (k - 1) x all is
    at false is = absurd cc

statements-read : (workload : WorkloadValue) (session k : ℕ) (statement : Statement) → statement_at (programs_of workload) session k ≡ Some statement → IsRead statement
statements-read workload session k statement is = in_session (nth session (programs_of workload).scripts) refl is
  where
    each : All (All IfRead) (programs_of workload).scripts
    each = All-from_recursion (All IfRead) (programs_of workload).scripts
        (each_map (λ script. All IfRead (statements_in_script script)) (All IfRead) statements_in_script (λ script read. read) workload.scripts
        (each_any (λ script. All IfRead (statements_in_script script)) script-read workload.scripts))

    in_script : (script : List (Option Statement)) → All IfRead script → (found : Option (Option Statement)) → nth k script ≡ found
        → (elim found [ None ↦ None | Some statement ↦ statement ]) ≡ Some statement → IsRead statement
    in_script script read None at is = absurd cc
    in_script script read (Some found) at is = nth-All IfRead k script found read at statement is

    in_session : (found : Option (List (Option Statement))) → nth session (programs_of workload).scripts ≡ found → statement_in found k ≡ Some statement → IsRead statement
    in_session None at is = absurd cc
    in_session (Some script) at is = in_script script (nth-All (All IfRead) session (programs_of workload).scripts script each at) (nth k script) refl is

numbered-read : (workload : WorkloadValue) (own_events : History) (k : ℕ) (statement : Statement) → statement_numbered (programs_of workload) own_events k ≡ Some statement
    → IsRead statement
numbered-read workload own_events k statement is = at (begun_at own_events) is
  where
    at : (begun : Option (ℕ × ℕ)) → statement_from (programs_of workload) begun k ≡ Some statement → IsRead statement
    at None is = absurd cc
    at (Some begun) is = statements-read workload begun.0 k statement is

-- ---- each event has a text

program-named : (programs : Programs) (statement : Statement) (p : ℕ) (database : Database) → AreLockNames (wanted_at_first statement.form)
    → AreLockNames (program_needs programs statement p database)
unfolding program_needs
program-named programs statement p database named = needs-named programs.types statement database named p

program-text : (programs : Programs) (statement : Statement) (database : Database) → IsSetting programs.types statement database → IsBodyWide statement.form
    → ReplyHasText (program_reply programs statement database)
unfolding program_reply
program-text programs statement database setting wide = reply-text programs.types statement database setting wide

module _ (workload : WorkloadValue) (bound : ℕ) (are : ArePrograms (programs_of workload) bound) where
  abbrev judged_by : Programs
  judged_by = programs_of workload

  own-setting : (past : History) (t k : ℕ) (statement : Statement) → HasRoom bound past → IsLegal judged_by past → IsTrue (is_live t past)
      → statement_numbered judged_by (events_of t past) k ≡ Some statement → IsSetting judged_by.types statement (own_database judged_by past t)
  own-setting past t k statement room legal live text =
      setting_of judged_by (bound + length (committed_statements judged_by past) + length (answered_statements judged_by (events_of t past))) statement
      (own_database judged_by past t)
      (run-ready judged_by (answered_statements judged_by (events_of t past)) (bound + length (committed_statements judged_by past))
      (committed_database judged_by past) (legal_good judged_by bound past are room legal).ready)
      (omega (arith, live-few judged_by past t legal live, room)) (statement_of-fits judged_by bound (events_of t past) k statement are text)

  event-text : (event : Event) (past : History) → HasRoom bound past → IsLegal judged_by past → MayFollow judged_by past event → EventHasText event
  event-text (Begun t session k) past room legal may = tt
  event-text (Granted t k p list) past room legal may =
      let due = may.0 in
      let read = numbered-read workload (events_of t past) k due.statement due.going_on.text in (
        due.some_locks,
        All-from_recursion (λ lock. LockHasText lock.0) list
            (subst AreLockNames (sym due.needed) (program-named judged_by due.statement p (own_database judged_by past t) read.named)),
      )
  event-text (Refused t k p name mode holder) past room legal may =
      let due = may.1 in
      let read = numbered-read workload (events_of t past) k due.statement due.going_on.text in
      let named : AreLockNames may.0 = subst AreLockNames (sym due.needed) (program-named judged_by due.statement p (own_database judged_by past t) read.named) in
      (split_all (λ lock. LockHasText lock.0) may.2.before ((name, mode) ∷ may.2.behind) (subst AreLockNames may.2.parts named)).1.0
  event-text (Answered t k answer) past room legal may =
      let read = numbered-read workload (events_of t past) k may.0 may.1.text in
      subst ReplyHasText (sym may.3)
      (program-text judged_by may.0 (own_database judged_by past t) (own-setting past t k may.0 room legal may.1.live may.1.text) read.wide)
  event-text (GaveUp t k) past room legal may = tt
  event-text (Committed t n) past room legal may = tt
  event-text (Aborted t) past room legal may = tt

  events-text : (past : History) → HasRoom bound past → IsLegal judged_by past → AllByRecursion EventHasText past
  events-text [] room legal = tt
  events-text (event ∷ past) room (may, legal) =
      let before = room-before bound event past room in (event-text event past before legal may, events-text past before legal)

-- ---- holders

abbrev IsBegunWithin : ℕ → Event → Type 0
IsBegunWithin sessions (Begun t session k) = (1 ≤ session) × (session ≤ sessions)
IsBegunWithin sessions (Granted t k p list) = Unit {0}
IsBegunWithin sessions (Refused t k p name mode holder) = Unit {0}
IsBegunWithin sessions (Answered t k answer) = Unit {0}
IsBegunWithin sessions (GaveUp t k) = Unit {0}
IsBegunWithin sessions (Committed t n) = Unit {0}
IsBegunWithin sessions (Aborted t) = Unit {0}

begun-within : (programs : Programs) (past : History) → IsLegal programs past → AllByRecursion (IsBegunWithin (length programs.scripts)) past
begun-within programs [] legal = tt
begun-within programs (Begun t session k ∷ past) (may, legal) = (nth-within session programs.scripts may.1.0 may.1.1, begun-within programs past legal)
begun-within programs (Granted t k p list ∷ past) (may, legal) = (tt, begun-within programs past legal)
begun-within programs (Refused t k p name mode holder ∷ past) (may, legal) = (tt, begun-within programs past legal)
begun-within programs (Answered t k answer ∷ past) (may, legal) = (tt, begun-within programs past legal)
begun-within programs (GaveUp t k ∷ past) (may, legal) = (tt, begun-within programs past legal)
begun-within programs (Committed t n ∷ past) (may, legal) = (tt, begun-within programs past legal)
begun-within programs (Aborted t ∷ past) (may, legal) = (tt, begun-within programs past legal)

-- the holder of a refusal has begun
abbrev HasHolderIn : History → Event → Type 0
HasHolderIn all (Begun t session k) = Unit {0}
HasHolderIn all (Granted t k p list) = Unit {0}
HasHolderIn all (Refused t k p name mode holder) = list_any (begins holder) all ≡ true
HasHolderIn all (Answered t k answer) = Unit {0}
HasHolderIn all (GaveUp t k) = Unit {0}
HasHolderIn all (Committed t n) = Unit {0}
HasHolderIn all (Aborted t) = Unit {0}

or-later : (b c : Bool) → c ≡ true → (b || c) ≡ true
or-later true c is = refl
or-later false c is = is

holder-later : (event : Event) (past : History) (one : Event) → HasHolderIn past one → HasHolderIn (event ∷ past) one
holder-later event past (Begun t session k) has = tt
holder-later event past (Granted t k p list) has = tt
holder-later event past (Refused t k p name mode holder) has = or-later (begins holder event) (list_any (begins holder) past) has
holder-later event past (Answered t k answer) has = tt
holder-later event past (GaveUp t k) has = tt
holder-later event past (Committed t n) has = tt
holder-later event past (Aborted t) has = tt

live-begins : (programs : Programs) (past : History) (t : ℕ) → IsLegal programs past → IsTrue (is_live t past) → list_any (begins t) past ≡ true
live-begins programs past t legal live =
    let found = some_home (begun_at (events_of t past)) (not (list_any ends (events_of t past))) live in
    let home : IsHomeOf programs t 0 found.0 past = subst (λ home. IsHomed programs t 0 home past) found.1 (homed programs t 0 past legal) in
    home.begins_there

holder-here : (programs : Programs) (event : Event) (past : History) → IsLegal programs past → MayFollow programs past event → HasHolderIn past event
holder-here programs (Begun t session k) past legal may = tt
holder-here programs (Granted t k p list) past legal may = tt
holder-here programs (Refused t k p name mode holder) past legal may = live-begins programs past holder legal may.2.blocked.holds.live
holder-here programs (Answered t k answer) past legal may = tt
holder-here programs (GaveUp t k) past legal may = tt
holder-here programs (Committed t n) past legal may = tt
holder-here programs (Aborted t) past legal may = tt

holders-begun : (programs : Programs) (past : History) → IsLegal programs past → AllByRecursion (HasHolderIn past) past
holders-begun programs [] legal = tt
holders-begun programs (event ∷ past) (may, legal) = (
  holder-later event past event (holder-here programs event past legal may),
  each_weaker (HasHolderIn past) (HasHolderIn (event ∷ past)) (holder-later event past) past (holders-begun programs past legal),
)

-- what is found passes, and has what each has
record IsFoundWith (p : Event → Bool) (Q : Event → Type 0) (events : List Event) : Type 0 where
  event : Event
  found : find p events ≡ Some event
  passes : p event ≡ true
  has : Q event

find-with : (p : Event → Bool) (Q : Event → Type 0) (events : List Event) → list_any p events ≡ true → AllByRecursion Q events → IsFoundWith p Q events
find-with p Q [] any all = absurd (false≢true any)
find-with p Q (event ∷ events) any all = at (p event) refl (λ later. find-with p Q events later all.1)
  where
    at : (b : Bool) → p event ≡ b → (list_any p events ≡ true → IsFoundWith p Q events) → IsFoundWith p Q (event ∷ events)
    at true is later = record { event = event; found = ap (λ c. if c then Some event else find p events) is; passes = is; has = all.0 }
    at false is later =
        let rest = later (sym (ap (λ c. c || list_any p events) is) ∙ any) in
        record { event = rest.event; found = ap (λ c. if c then Some event else find p events) is ∙ rest.found; passes = rest.passes; has = rest.has }

begun-session : (sessions t : ℕ) (event : Event) → begins t event ≡ true → IsBegunWithin sessions event
    → (1 ≤ session_in (Some event)) × (session_in (Some event) ≤ sessions)
begun-session sessions t (Begun u session k) is within = within
begun-session sessions t (Granted u k p list) is within = absurd (false≢true is)
begun-session sessions t (Refused u k p name mode holder) is within = absurd (false≢true is)
begun-session sessions t (Answered u k answer) is within = absurd (false≢true is)
begun-session sessions t (GaveUp u k) is within = absurd (false≢true is)
begun-session sessions t (Committed u n) is within = absurd (false≢true is)
begun-session sessions t (Aborted u) is within = absurd (false≢true is)

holder-session : (sessions : ℕ) (history : List Event) → AllByRecursion (IsBegunWithin sessions) history → (event : Event) → HasHolderIn history event
    → HolderHasSession sessions history event
holder-session sessions history within (Begun t session k) has = tt
holder-session sessions history within (Granted t k p list) has = tt
holder-session sessions history within (Refused t k p name mode holder) has =
    let one = find-with (begins holder) (IsBegunWithin sessions) history has within in
    subst (λ found. (1 ≤ session_in found) × (session_in found ≤ sessions)) (sym one.found) (begun-session sessions holder one.event one.passes one.has)
holder-session sessions history within (Answered t k answer) has = tt
holder-session sessions history within (GaveUp t k) has = tt
holder-session sessions history within (Committed t n) has = tt
holder-session sessions history within (Aborted t) has = tt

-- the same of the history in order
holder-turned : (past : History) (event : Event) → HasHolderIn past event → HasHolderIn (reverse past) event
holder-turned past (Begun t session k) has = tt
holder-turned past (Granted t k p list) has = tt
holder-turned past (Refused t k p name mode holder) has =
    sym (list_any-IsPermutation (begins holder) past (reverse past) (IsPermutation-reverse past)) ∙ has
holder-turned past (Answered t k answer) has = tt
holder-turned past (GaveUp t k) has = tt
holder-turned past (Committed t n) has = tt
holder-turned past (Aborted t) has = tt

-- ---- in order

-- two events have no pair, in whatever order
long-unpaired : (events : List Event) (lines : List Line) → 2 ≤ length events → ArePaired events lines → ⊥
long-unpaired [] lines long paired = omega (arith, long)
long-unpaired (event ∷ []) lines long paired = omega (arith, long)
long-unpaired (event ∷ other ∷ events) lines long paired = paired

paired-turned : (events : List Event) (lines : List Line) → ArePaired (reverse events) lines → ArePaired events lines
paired-turned [] lines paired = paired
paired-turned (event ∷ []) lines paired = paired
paired-turned (event ∷ other ∷ events) lines paired =
    absurd (long-unpaired (reverse (event ∷ other ∷ events)) lines (omega (arith, length-reverse (event ∷ other ∷ events))) paired)

-- ---- the law

made-so_far : (first : ℕ) (scripts : List ReadScript) (lines : List (List Line)) (past : History) (walks : List (List Step))
    → AreMadeFrom first scripts lines past walks → AreMadeSoFarFrom first scripts past
made-so_far first [] [] past [] made = tt
made-so_far first [] [] past (steps ∷ walks) made = absurd made
made-so_far first [] (one ∷ more) past walks made = absurd made
made-so_far first (script ∷ scripts) [] past walks made = absurd made
made-so_far first (script ∷ scripts) (one ∷ more) past [] made = absurd made
made-so_far first (script ∷ scripts) (one ∷ more) past (steps ∷ walks) made =
    ((steps, made.0.walked, made.0.is_walk), made-so_far (suc first) scripts more past walks made.1)

pub printable : (text : Text) (found : WorkloadValue × ℕ) (outcome : OutcomeValue) → workload_of text ≡ Ok found
    → IsLegal (programs_of found.0) (reverse outcome.history) → IsMade (read_scripts found.0) outcome → IsPrintable found.0.scripts outcome
printable text found outcome is legal made =
    let workload : WorkloadValue = found.0 in
    let programs : Programs = programs_of workload in
    let past : History = reverse outcome.history in
    let are = workloads-are text found is in
    let room = room-of_run text found past is legal (made-so_far 1 (read_scripts workload) outcome.lines past made.0 made.1) in
    let in_order : reverse past ≡ outcome.history = reverse-reverse outcome.history in
    let sessions : length programs.scripts ≡ length workload.scripts = length-map workload.scripts statements_in_script in
    let read : length (read_scripts workload) ≡ length workload.scripts = length-map workload.scripts read_script in
    let begun : AllByRecursion (IsBegunWithin (length workload.scripts)) (reverse past) = each-reverse (IsBegunWithin (length workload.scripts)) past
    (subst (λ n. AllByRecursion (IsBegunWithin n) past) sessions (begun-within programs past legal)) in
    let holders : AllByRecursion (HasHolderIn (reverse past)) (reverse past) = each-reverse (HasHolderIn (reverse past)) past
    (each_weaker (HasHolderIn past) (HasHolderIn (reverse past)) (holder-turned past) past (holders-begun programs past legal)) in
    record {
      texts = All-from_recursion EventHasText outcome.history (subst (AllByRecursion EventHasText) in_order
          (each-reverse EventHasText past (events-text workload (1 + MAX_STATEMENTS) are past room legal)));
      sessions = made-length 1 (read_scripts workload) outcome.lines past made.0 made.1 ∙ read;
      paired = λ t k. paired-turned (filter (answers_statement t k) outcome.history) (filter (is_of t k) (all_lines outcome))
          (subst (λ es. ArePaired es (filter (is_of t k) (all_lines outcome))) (filter-reverse (answers_statement t k) outcome.history)
          (all-paired programs past legal t k (read_scripts workload) outcome.lines made.0 (sessions ∙ sym read) made.1));
      holders = subst (λ history. All (HolderHasSession (length workload.scripts) history) history) in_order
          (All-from_recursion (HolderHasSession (length workload.scripts) (reverse past)) (reverse past)
          (each_weaker (HasHolderIn (reverse past)) (HolderHasSession (length workload.scripts) (reverse past))
          (holder-session (length workload.scripts) (reverse past) begun) (reverse past) holders));
    }
