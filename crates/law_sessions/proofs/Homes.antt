-- A transaction's events are those of the session in which it began, and of no other. So the events and the lines of all
-- sessions fit, where those of each session do.
use Rattle.std.proofs.Common.{◌≡◌, ◌≢◌, inl, inr, ℕ, suc, ◌+◌, ◌<◌, ◌≤◌, Bool, true, false, not, ◌&&◌, ◌||◌, ◌==◌, if◌then◌else◌, List, [], ◌∷◌, ◌++◌, filter, flat_map, length, Option, Some, None, All, refl, sym, ap, ◌∙◌, subst, arith}
use Rattle.std.specs.Prelude.{IsTrue, is_some}
use Rattle.std.specs.List.{list_any}
use Rattle.std.proofs.lemmas.Bool.{cases_eq, cond-false, cond-true, eq-eqb, eqb-true, false≢true, ne_eqb}
use Rattle.std.proofs.lemmas.List.{append-nil}
use Rattle.std.proofs.lemmas.List.Elements.{All-append, All-nil, filter-append}
use Rattle.ras_syntax.specs.declared.event.Event.{Event}
use Rattle.ras_syntax.specs.declared.event.Event.TheVariants.{Begun, Granted, Refused, Answered, GaveUp, Committed, Aborted}
use Rattle.spec_histories.specs.History.{History, Programs, begun_at, ends, events_of, is_live, owner_of}
use Rattle.spec_histories.specs.Legal.{IsLegal, MayFollow}
use Rattle.law_histories.proofs.Owners.{mine-other, mine-own}
use Rattle.law_views.proofs.Room.{fresh, nth-within}
use Rattle.spec_sessions.specs.Outcomes.{AreMadeFrom, began_in, session_events}
use Rattle.spec_sessions.specs.Printable.{ArePaired, is_of}
use Rattle.spec_sessions.specs.Report.{answers_statement, begins}
use Rattle.spec_sessions.specs.Walk.{Line, ReadScript, Step, recorded}
use Rattle.law_sessions.proofs.Paired.{IsFresh, session-paired}

-- ---- events of others

not_answers : (t k : ℕ) (event : Event) → owner_of event ≢ t → answers_statement t k event ≡ false
not_answers t k (Begun u i n) other = refl
not_answers t k (Granted u n p list) other = refl
not_answers t k (Refused u n p name mode holder) other = ap (λ b. b && (n == k)) (ne_eqb u t other)
not_answers t k (Answered u n answer) other = ap (λ b. b && (n == k)) (ne_eqb u t other)
not_answers t k (GaveUp u n) other = refl
not_answers t k (Committed u n) other = refl
not_answers t k (Aborted u) other = refl

not_begins : (t : ℕ) (event : Event) → owner_of event ≢ t → begins t event ≡ false
not_begins t (Begun u i n) other = ne_eqb u t other
not_begins t (Granted u n p list) other = refl
not_begins t (Refused u n p name mode holder) other = refl
not_begins t (Answered u n answer) other = refl
not_begins t (GaveUp u n) other = refl
not_begins t (Committed u n) other = refl
not_begins t (Aborted u) other = refl

-- an event that fails the test changes nothing of those that pass
filter-skips : (p : Event → Bool) (event : Event) (events : List Event) → p event ≡ false → filter p (event ∷ events) ≡ filter p events
filter-skips p event events is = cond-false _ _ _ is

filter-skips-if : (p : Event → Bool) (b : Bool) (event : Event) (events : List Event) → p event ≡ false → filter p (if b then event ∷ events else events) ≡ filter p events
filter-skips-if p true event events is = filter-skips p event events is
filter-skips-if p false event events is = refl

any-skips-if : (p : Event → Bool) (b : Bool) (event : Event) (events : List Event) → p event ≡ false → list_any p (if b then event ∷ events else events) ≡ list_any p events
any-skips-if p true event events is = ap (λ b. b || list_any p events) is
any-skips-if p false event events is = refl

-- none passes in a session where none passes at all
none_in_session : (p : Event → Bool) (i : ℕ) (past : History) → filter p past ≡ [] → filter p (session_events i past) ≡ []
none_in_session p i [] none = refl
none_in_session p i (event ∷ past) none = at (p event) refl (none_in_session p i past)
  where
    kept : Bool
    kept = began_in i (begun_at (events_of (owner_of event) (event ∷ past)))

    at : (b : Bool) → p event ≡ b → (filter p past ≡ [] → filter p (session_events i past) ≡ [])
        → filter p (if kept then event ∷ session_events i past else session_events i past) ≡ []
    at true is later = absurd (let some : event ∷ filter p past ≡ [] = sym (cond-true _ _ _ is) ∙ none in cc)
    at false is later = filter-skips-if p kept event (session_events i past) is ∙ later (sym (filter-skips p event past is) ∙ none)

-- ---- where a transaction began

-- a transaction that began in a session
pub record IsHomeOf (programs : Programs) (t k : ℕ) (begun : ℕ × ℕ) (past : History) : Type 0 where
  pub same : filter (answers_statement t k) (session_events begun.0 past) ≡ filter (answers_statement t k) past
  pub others : (i : ℕ) → i ≢ begun.0 → list_any (begins t) (session_events i past) ≡ false
  pub some_session : 1 ≤ begun.0
  pub few_sessions : begun.0 ≤ length programs.scripts
  pub positive : 1 ≤ t
  pub begins_there : list_any (begins t) past ≡ true

pub record IsNowhere (t k : ℕ) (past : History) : Type 0 where
  pub none : filter (answers_statement t k) past ≡ []
  pub others : (i : ℕ) → list_any (begins t) (session_events i past) ≡ false

abbrev pub IsHomed : Programs → (t k : ℕ) → Option (ℕ × ℕ) → History → Type 0
IsHomed programs t k None past = IsNowhere t k past
IsHomed programs t k (Some begun) past = IsHomeOf programs t k begun past

-- an event of another transaction
other-homed : (programs : Programs) (t k : ℕ) (home : Option (ℕ × ℕ)) (event : Event) (past : History) → owner_of event ≢ t → IsHomed programs t k home past
    → IsHomed programs t k home (event ∷ past)
other-homed programs t k None event past other is = record {
  none = filter-skips (answers_statement t k) event past (not_answers t k event other) ∙ is.none;
  others = λ i. any-skips-if (begins t) (began_in i (begun_at (events_of (owner_of event) (event ∷ past)))) event (session_events i past) (not_begins t event other) ∙ is.others i;
}
other-homed programs t k (Some begun) event past other is = record {
  same = filter-skips-if (answers_statement t k) (began_in begun.0 (begun_at (events_of (owner_of event) (event ∷ past)))) event (session_events begun.0 past)
      (not_answers t k event other) ∙ is.same ∙ sym (filter-skips (answers_statement t k) event past (not_answers t k event other));
  others = λ i apart. any-skips-if (begins t) (began_in i (begun_at (events_of (owner_of event) (event ∷ past)))) event (session_events i past) (not_begins t event other)
      ∙ is.others i apart;
  some_session = is.some_session;
  few_sessions = is.few_sessions;
  positive = is.positive;
  begins_there = ap (λ b. b || list_any (begins t) past) (not_begins t event other) ∙ is.begins_there;
}

pub some_home : (home : Option (ℕ × ℕ)) (b : Bool) → (is_some home && b) ≡ true → (begun : ℕ × ℕ) × (home ≡ Some begun)
some_home None b is = absurd (false≢true is)
some_home (Some begun) b is = (begun, refl)

-- an event of its own in the session where it began
own_kept : (i : ℕ) (begun : Option (ℕ × ℕ)) (event : Event) (past : History) → begun_at (events_of (owner_of event) (event ∷ past)) ≡ begun → began_in i begun ≡ true
    → session_events i (event ∷ past) ≡ event ∷ session_events i past
own_kept i begun event past is here = cond-true _ _ _ (ap (began_in i) is ∙ here)

own_left : (i : ℕ) (begun : Option (ℕ × ℕ)) (event : Event) (past : History) → begun_at (events_of (owner_of event) (event ∷ past)) ≡ begun → began_in i begun ≡ false
    → session_events i (event ∷ past) ≡ session_events i past
own_left i begun event past is there = cond-false _ _ _ (ap (began_in i) is ∙ there)

-- a transaction that lives goes on where it began
lives-homed : (programs : Programs) (k : ℕ) (event : Event) (past : History) → ((own_events : History) → begun_at (event ∷ own_events) ≡ begun_at own_events)
    → IsTrue (is_live (owner_of event) past) → IsHomed programs (owner_of event) k (begun_at (events_of (owner_of event) past)) past
    → IsHomed programs (owner_of event) k (begun_at (events_of (owner_of event) (event ∷ past))) (event ∷ past)
lives-homed programs k event past begins_none live is =
    let t : ℕ = owner_of event in
    let found = some_home (begun_at (events_of t past)) (not (list_any ends (events_of t past))) live in
    let begun : ℕ × ℕ = found.0 in
    let now : begun_at (events_of t (event ∷ past)) ≡ Some begun = ap begun_at (mine-own t event past refl) ∙ begins_none (events_of t past) ∙ found.1 in
    let old : IsHomeOf programs t k begun past = subst (λ home. IsHomed programs t k home past) found.1 is in
    let p : Event → Bool = answers_statement t k in
    subst (λ home. IsHomed programs t k home (event ∷ past)) (sym now) (record {
      same = ap (filter p) (own_kept begun.0 (Some begun) event past now (eq-eqb begun.0 begun.0 refl))
          ∙ ap (λ es. if p event then event ∷ es else es) old.same;
      others = λ i apart. ap (list_any (begins t)) (own_left i (Some begun) event past now (ne_eqb begun.0 i (λ e. apart (sym e)))) ∙ old.others i apart;
      some_session = old.some_session;
      few_sessions = old.few_sessions;
      positive = old.positive;
      begins_there = later (begins t event) old.begins_there;
    })
  where
    later : (b : Bool) {c : Bool} → c ≡ true → (b || c) ≡ true
    later true is = refl
    later false is = is

-- a new transaction
begun-homed : (programs : Programs) (k t session at : ℕ) (past : History) → MayFollow programs past (Begun t session at) → IsLegal programs past
    → IsHomed programs t k (begun_at (events_of t past)) past → IsHomed programs t k (begun_at (events_of t (Begun t session at ∷ past))) (Begun t session at ∷ past)
begun-homed programs k t session at past may legal is =
    let none : events_of t past ≡ [] = fresh programs past t legal (omega (arith, may.0)) in
    let old : IsNowhere t k past = subst (λ own_events. IsHomed programs t k (begun_at own_events) past) none is in
    let now : begun_at (events_of t (Begun t session at ∷ past)) ≡ Some (session, at) = ap begun_at (mine-own t (Begun t session at) past refl) in
    let within = nth-within session programs.scripts may.1.0 may.1.1 in
    let p : Event → Bool = answers_statement t k in
    subst (λ home. IsHomed programs t k home (Begun t session at ∷ past)) (sym now) (record {
      same = filter-skips-if p (began_in session (begun_at (events_of t (Begun t session at ∷ past)))) (Begun t session at) (session_events session past) refl
          ∙ none_in_session p session past old.none ∙ sym old.none;
      others = λ i apart. ap (list_any (begins t)) (own_left i (Some (session, at)) (Begun t session at) past now (ne_eqb session i (λ e. apart (sym e)))) ∙ old.others i;
      some_session = within.0;
      few_sessions = within.1;
      positive = omega (arith, may.0);
      begins_there = ap (λ b. b || list_any (begins t) past) (eq-eqb t t refl);
    })

own-homed : (programs : Programs) (k : ℕ) (event : Event) (past : History) → MayFollow programs past event → IsLegal programs past
    → IsHomed programs (owner_of event) k (begun_at (events_of (owner_of event) past)) past
    → IsHomed programs (owner_of event) k (begun_at (events_of (owner_of event) (event ∷ past))) (event ∷ past)
own-homed programs k (Begun t session at) past may legal is = begun-homed programs k t session at past may legal is
own-homed programs k (Granted t n p list) past may legal is = lives-homed programs k (Granted t n p list) past (λ m. refl) may.0.going_on.live is
own-homed programs k (Refused t n p name mode holder) past may legal is =
    lives-homed programs k (Refused t n p name mode holder) past (λ m. refl) may.1.going_on.live is
own-homed programs k (Answered t n answer) past may legal is = lives-homed programs k (Answered t n answer) past (λ m. refl) may.1.live is
own-homed programs k (GaveUp t n) past may legal is = lives-homed programs k (GaveUp t n) past (λ m. refl) may.0 is
own-homed programs k (Committed t n) past may legal is = lives-homed programs k (Committed t n) past (λ m. refl) may.0 is
own-homed programs k (Aborted t) past may legal is = lives-homed programs k (Aborted t) past (λ m. refl) may is

pub homed : (programs : Programs) (t k : ℕ) (past : History) → IsLegal programs past → IsHomed programs t k (begun_at (events_of t past)) past
homed programs t k [] legal = record { none = refl; others = λ i. refl }
homed programs t k (event ∷ past) (may, legal) = elim (cases_eq (owner_of event) t) [
  | inl own ↦ subst (λ u. IsHomed programs u k (begun_at (events_of u (event ∷ past))) (event ∷ past)) own
      (own-homed programs k event past may legal (homed programs (owner_of event) k past legal))
  | inr other ↦ subst (λ own_events. IsHomed programs t k (begun_at own_events) (event ∷ past)) (sym (mine-other t event past other))
      (other-homed programs t k (begun_at (events_of t past)) event past other (homed programs t k past legal))
]

-- ---- each transaction begins once

-- where a new transaction begins, it stands nowhere
new_begin : (programs : Programs) (i t : ℕ) (event : Event) (past : History) → MayFollow programs past event → IsLegal programs past → list_any (begins t) (event ∷ []) ≡ true
    → (list_any (begins t) (session_events i past) ≡ false) × (1 ≤ t)
new_begin programs i t (Begun u session at) past may legal is =
    let e : u ≡ t = eqb-true u t (or-false (u == t) is) in
    let none : events_of t past ≡ [] = fresh programs past t legal (omega (arith, may.0, e)) in
    let nowhere : IsNowhere t 0 past = subst (λ own_events. IsHomed programs t 0 (begun_at own_events) past) none (homed programs t 0 past legal) in
    (nowhere.others i, omega (arith, may.0, e))
  where
    or-false : (b : Bool) → (b || false) ≡ true → b ≡ true
    or-false true is = refl
    or-false false is = is
new_begin programs i t (Granted u n p list) past may legal is = absurd (false≢true is)
new_begin programs i t (Refused u n p name mode holder) past may legal is = absurd (false≢true is)
new_begin programs i t (Answered u n answer) past may legal is = absurd (false≢true is)
new_begin programs i t (GaveUp u n) past may legal is = absurd (false≢true is)
new_begin programs i t (Committed u n) past may legal is = absurd (false≢true is)
new_begin programs i t (Aborted u) past may legal is = absurd (false≢true is)

pub sessions-fresh : (programs : Programs) (i : ℕ) (past : History) → IsLegal programs past → IsFresh (session_events i past)
sessions-fresh programs i [] legal = tt
sessions-fresh programs i (event ∷ past) (may, legal) =
    at (began_in i (begun_at (events_of (owner_of event) (event ∷ past)))) (sessions-fresh programs i past legal)
  where
    at : (b : Bool) → IsFresh (session_events i past) → IsFresh (if b then event ∷ session_events i past else session_events i past)
    at true later = ((λ t is. new_begin programs i t event past may legal is), later)
    at false later = later

-- ---- all sessions

abbrev lines_of : List (List Line) → List Line
lines_of all = flat_map (λ lines. lines) all

abbrev IsUntold : Line → Type 0
IsUntold line = line.reply ≢ recorded

module _ (programs : Programs) (past : History) (legal : IsLegal programs past) (t k : ℕ) where
  abbrev told : List Line → List Line
  told = filter (is_of t k)

  abbrev closings : List Event → List Event
  closings = filter (answers_statement t k)

  -- of no transaction that began
  nowhere-paired : (first : ℕ) (scripts : List ReadScript) (lines : List (List Line)) (walks : List (List Step)) → IsNowhere t k past
      → AreMadeFrom first scripts lines past walks → All IsUntold (told (lines_of lines))
  nowhere-paired first [] [] [] is made = All-nil IsUntold
  nowhere-paired first [] [] (steps ∷ walks) is made = absurd made
  nowhere-paired first [] (one ∷ more) walks is made = absurd made
  nowhere-paired first (script ∷ scripts) [] walks is made = absurd made
  nowhere-paired first (script ∷ scripts) (one ∷ more) [] is made = absurd made
  nowhere-paired first (script ∷ scripts) (one ∷ more) (steps ∷ walks) is made =
      let here = session-paired first script past one steps t k made.0 (sessions-fresh programs first past legal) in
      let none : closings (session_events first past) ≡ [] = none_in_session (answers_statement t k) first past is.none in
      subst (All IsUntold) (sym (filter-append (is_of t k) one (lines_of more)))
      (All-append IsUntold (told one) (told (lines_of more)) (subst (λ es. ArePaired es (told one)) none here.paired)
      (nowhere-paired (suc first) scripts more walks is made.1))

  -- sessions in which the transaction didn't begin tell nothing of it
  elsewhere : (begun : ℕ × ℕ) (first : ℕ) (script : ReadScript) (lines : List Line) (steps : List Step) → IsHomeOf programs t k begun past → first ≢ begun.0
      → AreMadeFrom first (script ∷ []) (lines ∷ []) past (steps ∷ []) → told lines ≡ []
  elsewhere begun first script lines steps is apart made =
      let here = session-paired first script past lines steps t k made.0 (sessions-fresh programs first past legal) in
      (here.unbegun (is.others first apart)).lines_none is.positive

  later-none : (begun : ℕ × ℕ) (first : ℕ) (scripts : List ReadScript) (lines : List (List Line)) (walks : List (List Step)) → IsHomeOf programs t k begun past
      → begun.0 < first → AreMadeFrom first scripts lines past walks → told (lines_of lines) ≡ []
  later-none begun first [] [] [] is after made = refl
  later-none begun first [] [] (steps ∷ walks) is after made = absurd made
  later-none begun first [] (one ∷ more) walks is after made = absurd made
  later-none begun first (script ∷ scripts) [] walks is after made = absurd made
  later-none begun first (script ∷ scripts) (one ∷ more) [] is after made = absurd made
  later-none begun first (script ∷ scripts) (one ∷ more) (steps ∷ walks) is after made =
      let here : told one ≡ [] = elsewhere begun first script one steps is (λ e. omega (arith, after, e)) (made.0, tt) in
      let later : told (lines_of more) ≡ [] = later-none begun (suc first) scripts more walks is (omega (arith, after)) made.1 in
      filter-append (is_of t k) one (lines_of more) ∙ (λ i. here i ++ later i)

  home-paired : (begun : ℕ × ℕ) (first : ℕ) (scripts : List ReadScript) (lines : List (List Line)) (walks : List (List Step)) → IsHomeOf programs t k begun past
      → first ≤ begun.0 → begun.0 < first + length scripts → AreMadeFrom first scripts lines past walks → ArePaired (closings past) (told (lines_of lines))
  home-paired begun first [] [] [] is from within made = absurd (omega (arith, from, within))
  home-paired begun first [] [] (steps ∷ walks) is from within made = absurd made
  home-paired begun first [] (one ∷ more) walks is from within made = absurd made
  home-paired begun first (script ∷ scripts) [] walks is from within made = absurd made
  home-paired begun first (script ∷ scripts) (one ∷ more) [] is from within made = absurd made
  home-paired begun first (script ∷ scripts) (one ∷ more) (steps ∷ walks) is from within made = elim (cases_eq first begun.0) [
    | inl here ↦ at_home here
    | inr apart ↦ subst (ArePaired (closings past)) (sym (filter-append (is_of t k) one (lines_of more)))
        (subst (λ ls. ArePaired (closings past) (ls ++ told (lines_of more))) (sym (elsewhere begun first script one steps is apart (made.0, tt)))
        (home-paired begun (suc first) scripts more walks is (omega (arith, from, apart)) (omega (arith, within)) made.1))
  ]
    where
      at_home : first ≡ begun.0 → ArePaired (closings past) (told (one ++ lines_of more))
      at_home here =
          let own = session-paired first script past one steps t k made.0 (sessions-fresh programs first past legal) in
          let same : closings (session_events first past) ≡ closings past = ap (λ i. closings (session_events i past)) here ∙ is.same in
          subst (ArePaired (closings past)) (sym (filter-append (is_of t k) one (lines_of more)))
          (subst (λ ls. ArePaired (closings past) (told one ++ ls)) (sym (later-none begun (suc first) scripts more walks is (omega (arith, here)) made.1))
          (subst (ArePaired (closings past)) (sym (append-nil (told one))) (subst (λ es. ArePaired es (told one)) same own.paired)))

  pub all-paired : (scripts : List ReadScript) (lines : List (List Line)) (walks : List (List Step)) → length programs.scripts ≡ length scripts
      → AreMadeFrom 1 scripts lines past walks → ArePaired (closings past) (told (lines_of lines))
  all-paired scripts lines walks same made = at (begun_at (events_of t past)) (homed programs t k past legal)
    where
      at : (home : Option (ℕ × ℕ)) → IsHomed programs t k home past → ArePaired (closings past) (told (lines_of lines))
      at None is = subst (λ es. ArePaired es (told (lines_of lines))) (sym is.none) (nowhere-paired 1 scripts lines walks is made)
      at (Some begun) is = home-paired begun 1 scripts lines walks is is.some_session (omega (arith, is.few_sessions, same)) made

pub made-length : (first : ℕ) (scripts : List ReadScript) (lines : List (List Line)) (past : History) (walks : List (List Step))
    → AreMadeFrom first scripts lines past walks → length lines ≡ length scripts
made-length first [] [] past [] made = refl
made-length first [] [] past (steps ∷ walks) made = absurd made
made-length first [] (one ∷ more) past walks made = absurd made
made-length first (script ∷ scripts) [] past walks made = absurd made
made-length first (script ∷ scripts) (one ∷ more) past [] made = absurd made
made-length first (script ∷ scripts) (one ∷ more) past (steps ∷ walks) made = ap suc (made-length (suc first) scripts more past walks made.1)
