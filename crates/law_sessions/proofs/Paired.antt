-- In a walk each statement of a transaction that is answered or refused has one event and one line, which tells of it.
use Rattle.std.proofs.Common.{◌≡◌, ◌≢◌, ℕ, suc, ◌≤◌, Bool, true, false, ◌||◌, ◌==◌, List, [], ◌∷◌, ◌++◌, filter, Option, Some, None, All, refl, sym, ap, ◌∙◌, subst, arith}
use Rattle.std.specs.Prelude.{IfSome}
use Rattle.std.specs.List.{list_any}
use Rattle.std.proofs.lemmas.Bool.{and_parts, eq-eqb, eqb-true, false≢true}
use Rattle.std.proofs.lemmas.List.{append-nil}
use Rattle.std.proofs.lemmas.List.Elements.{All-append, All-cons, All-nil, filter-append}
use Rattle.ras_syntax.specs.declared.event.Event.{Event}
use Rattle.spec_histories.specs.History.{History}
use Rattle.spec_sessions.specs.Outcomes.{IsWholeWalkOf, events_in, session_events}
use Rattle.spec_sessions.specs.Printable.{ArePaired, is_of}
use Rattle.spec_sessions.specs.Report.{answers_statement, begins}
use Rattle.spec_sessions.specs.Walk.{After, Closed, Line, LineReply, ReadScript, SessionPlace, Step, Walked, begun, by_failure, by_giving_up, by_success, ending, free, inside, is_at_rest, is_end, item_at, leaving, line_for, lost, made, own, quiet, recorded, step_from, walk, walk_on, walked_on}
use Rattle.law_sessions.proofs.Moves.{IsClosing, IsPlain, IsReplyOf, Move, Phase, TellsBy, awaiting, event_of, if_at, is_at, line_at, open_to, phase_of, resting, step-moves}

-- ---- what holds before a statement, of the events and the lines on one statement of one transaction

abbrev IsUntold : Line → Type 0
IsUntold line = line.reply ≢ recorded

-- nothing of it stands there; there are lines of no transaction
pub record IsUnbegun (t : ℕ) (events : List Event) (lines : List Line) : Type 0 where
  pub events_none : events ≡ []
  pub lines_none : 1 ≤ t → lines ≡ []

record IsClear (events : List Event) (lines : List Line) : Type 0 where
  events_none : events ≡ []
  lines_none : lines ≡ []

-- an event whose line is still to come
abbrev Awaits : Closed → List Event → Type 0
Awaits by_success events = (event : Event) × (events ≡ event ∷ []) × TellsBy by_success event
Awaits by_failure events = (event : Event) × (events ≡ event ∷ []) × TellsBy by_failure event
Awaits by_giving_up events = events ≡ []

abbrev IsSound : (t k : ℕ) → Bool → Phase → ℕ → List Event → List Line → Type 0
IsSound t k began resting n events lines = ArePaired events lines × (began ≡ false → IsUnbegun t events lines)
IsSound t k began (open_to u) n events lines =
    ArePaired events lines × (u ≡ t → n ≤ k → IsClear events lines) × (began ≡ false → (u ≢ t) × IsUnbegun t events lines)
IsSound t k began (awaiting u closed) n events lines =
    (is_at u n t k ≡ false → ArePaired events lines) × (is_at u n t k ≡ true → Awaits closed events × (lines ≡ []))
    × (began ≡ false → (u ≢ t) × IsUnbegun t events lines)

-- ---- one step

or-false : (b : Bool) → (b || false) ≡ b
or-false true = refl
or-false false = refl

-- with plain events and no line all is as before
plain-keeps : (t k : ℕ) (P : Bool → List Event → List Line → Type 0) (began : Bool) (more events : List Event) (lines : List Line) → IsPlain more
    → P began events lines → P (list_any (begins t) more || began) (filter (answers_statement t k) more ++ events) (lines ++ [])
plain-keeps t k P began more events lines plain holds =
    subst (λ b. P (b || began) (filter (answers_statement t k) more ++ events) (lines ++ [])) (sym (plain.begins_none t))
    (subst (λ es. P began (es ++ events) (lines ++ [])) (sym (plain.answers_none t k)) (subst (P began events) (sym (append-nil lines)) holds))

-- the same with lines more
plain-adds : (t k : ℕ) (P : Bool → List Event → List Line → Type 0) (began : Bool) (more events : List Event) (lines : List Line) → IsPlain more
    → P began events lines → P (list_any (begins t) more || began) (filter (answers_statement t k) more ++ events) lines
plain-adds t k P began more events lines plain holds =
    subst (λ b. P (b || began) (filter (answers_statement t k) more ++ events) lines) (sym (plain.begins_none t))
    (subst (λ es. P began (es ++ events) lines) (sym (plain.answers_none t k)) holds)

-- an event that closes a statement
closing-adds : (t k u n : ℕ) (P : Bool → List Event → Type 0) (began : Bool) (event : Event) (events : List Event) → IsClosing u n event
    → P began (if_at (is_at u n t k) event ++ events) → P (list_any (begins t) (event ∷ []) || began) (filter (answers_statement t k) (event ∷ []) ++ events)
closing-adds t k u n P began event events closing holds =
    subst (λ b. P (b || began) (filter (answers_statement t k) (event ∷ []) ++ events)) (sym (closing.begins_none t))
    (subst (λ es. P began (es ++ events)) (sym (closing.answers t k)) holds)

untold-one : (line : Line) → line.reply ≢ recorded → ArePaired [] (line ∷ [])
untold-one line untold = All-cons IsUntold line [] untold (All-nil IsUntold)

-- the statement at hand
at-parts : (u n t k : ℕ) → is_at u n t k ≡ true → (u ≡ t) × (n ≡ k)
at-parts u n t k is = let both = and_parts (u == t) (n == k) is in (eqb-true u t both.0, eqb-true n k both.1)

module _ (t k : ℕ) where
  -- a line that isn't recorded, in the open
  untold-paired : (u n : ℕ) (hit : Bool) (events : List Event) (lines : List Line) (reply : LineReply) → is_at u n t k ≡ hit → reply ≢ recorded → ArePaired events lines
      → (u ≡ t → n ≤ k → IsClear events lines) → ArePaired events (lines ++ if_at hit (line_at n u reply))
  untold-paired u n false events lines reply is untold paired clear = subst (ArePaired events) (sym (append-nil lines)) paired
  untold-paired u n true events lines reply is untold paired clear =
      let here = at-parts u n t k is in
      let none : IsClear events lines = clear here.0 (omega (arith, here.1)) in
      subst (λ es. ArePaired es (lines ++ line_at n u reply ∷ [])) (sym none.events_none)
      (subst (λ ls. ArePaired [] (ls ++ line_at n u reply ∷ [])) (sym none.lines_none) (untold-one (line_at n u reply) untold))

  -- a statement that is closed with its line
  told-paired : (u n : ℕ) (hit : Bool) (event : Event) (events : List Event) (lines : List Line) → is_at u n t k ≡ hit → IsClosing u n event → ArePaired events lines
      → (u ≡ t → n ≤ k → IsClear events lines) → ArePaired (if_at hit event ++ events) (lines ++ if_at hit (line_at n u recorded))
  told-paired u n false event events lines is closing paired clear = subst (ArePaired events) (sym (append-nil lines)) paired
  told-paired u n true event events lines is closing paired clear =
      let here = at-parts u n t k is in
      let none : IsClear events lines = clear here.0 (omega (arith, here.1)) in
      subst (λ es. ArePaired (event ∷ es) (lines ++ line_at n u recorded ∷ [])) (sym none.events_none)
      (subst (λ ls. ArePaired (event ∷ []) (ls ++ line_at n u recorded ∷ [])) (sym none.lines_none) (closing.told (line_at n u recorded) refl))

  -- what isn't at hand stays
  missed : (u n : ℕ) (hit : Bool) (event : Event) (line : Line) (P : List Event → List Line → Type 0) (events : List Event) (lines : List Line) → is_at u n t k ≡ hit
      → ((u ≡ t) × (n ≡ k) → ⊥) → P events lines → P (if_at hit event ++ events) (lines ++ if_at hit line)
  missed u n true event line P events lines is other holds = absurd (other (at-parts u n t k is))
  missed u n false event line P events lines is other holds = subst (P events) (sym (append-nil lines)) holds

  missed-line : (u n : ℕ) (hit : Bool) (line : Line) (P : List Line → Type 0) (lines : List Line) → is_at u n t k ≡ hit → ((u ≡ t) × (n ≡ k) → ⊥) → P lines
      → P (lines ++ if_at hit line)
  missed-line u n true line P lines is other holds = absurd (other (at-parts u n t k is))
  missed-line u n false line P lines is other holds = subst P (sym (append-nil lines)) holds

  missed-event : (u n : ℕ) (hit : Bool) (event : Event) (P : List Event → Type 0) (events : List Event) → is_at u n t k ≡ hit → ((u ≡ t) × (n ≡ k) → ⊥) → P events
      → P (if_at hit event ++ events)
  missed-event u n true event P events is other holds = absurd (other (at-parts u n t k is))
  missed-event u n false event P events is other holds = holds

  -- a closed statement waits for its line
  awaits-one : (closed : Closed) (event : Event) → TellsBy closed event → Awaits closed (event ∷ [])
  awaits-one by_success event tells = (event, refl, tells)
  awaits-one by_failure event tells = (event, refl, tells)
  awaits-one by_giving_up event tells = absurd tells

  awaits-closed : (u n : ℕ) (hit : Bool) (closed : Closed) (event : Event) (events : List Event) (lines : List Line) → is_at u n t k ≡ hit → TellsBy closed event
      → (u ≡ t → n ≤ k → IsClear events lines) → hit ≡ true → Awaits closed (if_at hit event ++ events) × (lines ≡ [])
  awaits-closed u n false closed event events lines is tells clear here = absurd (false≢true here)
  awaits-closed u n true closed event events lines is tells clear here =
      let at = at-parts u n t k is in
      let none : IsClear events lines = clear at.0 (omega (arith, at.1)) in
      (subst (λ es. Awaits closed (event ∷ es)) (sym none.events_none) (awaits-one closed event tells), none.lines_none)

  not_awaited : (u n : ℕ) (hit : Bool) (event : Event) (events : List Event) (lines : List Line) → hit ≡ false → ArePaired events lines
      → ArePaired (if_at hit event ++ events) lines
  not_awaited u n true event events lines other paired = absurd (false≢true (sym other))
  not_awaited u n false event events lines other paired = paired

  -- the line that was waited for
  awaited : (closed : Closed) (events : List Event) (line : Line) → Awaits closed events → IsReplyOf closed line.reply → ArePaired events (line ∷ [])
  awaited by_success events line (event, is, tells) reply = subst (λ es. ArePaired es (line ∷ [])) (sym is) (tells line reply)
  awaited by_failure events line (event, is, tells) reply = subst (λ es. ArePaired es (line ∷ [])) (sym is) (tells line reply)
  awaited by_giving_up events line is untold = subst (λ es. ArePaired es (line ∷ [])) (sym is) (untold-one line untold)

  settled : (u n : ℕ) (hit : Bool) (closed : Closed) (events : List Event) (lines : List Line) (reply : LineReply) → is_at u n t k ≡ hit → IsReplyOf closed reply
      → (is_at u n t k ≡ false → ArePaired events lines) → (is_at u n t k ≡ true → Awaits closed events × (lines ≡ []))
      → ArePaired events (lines ++ if_at hit (line_at n u reply))
  settled u n false closed events lines reply is told paired waits = subst (ArePaired events) (sym (append-nil lines)) (paired is)
  settled u n true closed events lines reply is told paired waits =
      let both = waits is in
      subst (λ ls. ArePaired events (ls ++ line_at n u reply ∷ [])) (sym both.1) (awaited closed events (line_at n u reply) both.0 told)

  -- lines of no transaction
  rest-paired : (n : ℕ) (hit : Bool) (events : List Event) (lines : List Line) (reply : LineReply) → is_at 0 n t k ≡ hit → reply ≢ recorded → ArePaired events lines
      → (t ≡ 0 → events ≡ []) → ArePaired events (lines ++ if_at hit (line_at n 0 reply))
  rest-paired n false events lines reply is untold paired none = subst (ArePaired events) (sym (append-nil lines)) paired
  rest-paired n true events lines reply is untold paired none =
      let e : events ≡ [] = none (sym (at-parts 0 n t k is).0) in
      subst (λ es. ArePaired es (lines ++ line_at n 0 reply ∷ [])) (sym e)
      (All-append IsUntold lines (line_at n 0 reply ∷ []) (subst (λ es. ArePaired es lines) e paired) (untold-one (line_at n 0 reply) untold))

  -- a begin is of no statement that was closed; its line is the first of its transaction
  begun-line : (n u : ℕ) (hit : Bool) (events : List Event) (lines : List Line) → is_at u n t k ≡ hit → events ≡ [] → lines ≡ []
      → ArePaired events (lines ++ if_at hit (line_at n u begun))
  begun-line n u false events lines is none clear = subst (ArePaired events) (sym (append-nil lines))
      (subst (λ es. ArePaired es lines) (sym none) (subst (All IsUntold) (sym clear) (All-nil IsUntold)))
  begun-line n u true events lines is none clear =
      subst (λ es. ArePaired es (lines ++ line_at n u begun ∷ [])) (sym none)
      (subst (λ ls. ArePaired [] (ls ++ line_at n u begun ∷ [])) (sym clear) (untold-one (line_at n u begun) (λ is. cc)))

  begins-told : (u n : ℕ) (same began : Bool) (events : List Event) (lines : List Line) → (u == t) ≡ same → (same ≡ true → (began ≡ false) × (1 ≤ t))
      → IsSound t k began resting n events lines → IsSound t k (same || began) (open_to u) (suc n) events (lines ++ if_at (is_at u n t k) (line_at n u begun))
  begins-told u n false began events lines is first sound =
      let other : u ≢ t = λ e. false≢true (sym is ∙ eq-eqb u t e) in
      let L : List Line → Type 0 = λ ls. ArePaired events ls × (u ≡ t → suc n ≤ k → IsClear events ls) × (began ≡ false → (u ≢ t) × IsUnbegun t events ls) in
      missed-line u n (is_at u n t k) (line_at n u begun) L lines refl (λ here. other here.0)
      (sound.0, (λ e less. absurd (other e)), (λ none. (other, sound.1 none)))
  begins-told u n true began events lines is first sound =
      let new = first refl in
      let none : IsUnbegun t events lines = sound.1 new.0 in
      let clear : lines ≡ [] = none.lines_none new.1 in (
        begun-line n u (is_at u n t k) events lines refl none.events_none clear,
        (λ e less. missed-line u n (is_at u n t k) (line_at n u begun) (IsClear events) lines refl (λ here. omega (arith, here.1, less))
            (record { events_none = none.events_none; lines_none = clear })),
        (λ no_begin. absurd (false≢true (sym no_begin))),
      )

  begins-quietly : (u n : ℕ) (same began : Bool) (events : List Event) (lines : List Line) → (u == t) ≡ same → (same ≡ true → (began ≡ false) × (1 ≤ t))
      → IsSound t k began resting n events lines → IsSound t k (same || began) (open_to u) n events lines
  begins-quietly u n false began events lines is first sound =
      let other : u ≢ t = λ e. false≢true (sym is ∙ eq-eqb u t e) in
      (sound.0, (λ e less. absurd (other e)), (λ none. (other, sound.1 none)))
  begins-quietly u n true began events lines is first sound =
      let new = first refl in
      let none : IsUnbegun t events lines = sound.1 new.0 in
      (sound.0, (λ e less. record { events_none = none.events_none; lines_none = none.lines_none new.1 }), (λ no_begin. absurd (false≢true (sym no_begin))))

  -- every step keeps it
  keeps : (p q : Phase) (n m : ℕ) (events : List Event) (lines : List Line) (began : Bool) (es : List Event) (ls : List Line) → Move p n events lines q m
      → (list_any (begins t) events ≡ true → (began ≡ false) × (1 ≤ t)) → (t ≡ 0 → began ≡ false) → IsSound t k began p n es ls
      → IsSound t k (list_any (begins t) events || began) q m (filter (answers_statement t k) events ++ es) (ls ++ filter (is_of t k) lines)
  keeps p q n m events lines began es ls (Move.begins_told n' u session at) first other_than_0 sound =
      let e : ((u == t) || false) ≡ (u == t) = or-false (u == t) in
      subst (λ b. IsSound t k (b || began) (open_to u) (suc n') es (ls ++ if_at (is_at u n' t k) (line_at n' u begun))) (sym e)
      (begins-told u n' (u == t) began es ls refl (λ is. first (e ∙ is)) sound)
  keeps p q n m events lines began es ls (Move.begins_quiet n' u session at) first other_than_0 sound =
      let e : ((u == t) || false) ≡ (u == t) = or-false (u == t) in
      subst (λ b. IsSound t k (b || began) (open_to u) n' es (ls ++ [])) (sym e)
      (subst (IsSound t k ((u == t) || began) (open_to u) n' es) (sym (append-nil ls)) (begins-quietly u n' (u == t) began es ls refl (λ is. first (e ∙ is)) sound))
  keeps p q n m events lines began es ls (Move.goes_on n' u more plain) first other_than_0 sound =
      plain-keeps t k (λ b e l. IsSound t k b (open_to u) n' e l) began more es ls plain sound
  keeps p q n m events lines began es ls (Move.tells n' u more reply plain untold) first other_than_0 sound =
      let line : Line = line_at n' u reply in
      plain-adds t k (λ b e l. IsSound t k b (open_to u) (suc n') e l) began more es (ls ++ if_at (is_at u n' t k) line) plain (
        untold-paired u n' (is_at u n' t k) es ls reply refl untold sound.0 sound.1,
        (λ e less. missed-line u n' (is_at u n' t k) line (IsClear es) ls refl (λ here. omega (arith, here.1, less)) (sound.1 e (omega (arith, less)))),
        (λ none. let old = sound.2 none in (old.0, missed-line u n' (is_at u n' t k) line (IsUnbegun t es) ls refl (λ here. old.0 here.0) old.1)),
      )
  keeps p q n m events lines began es ls (Move.ends n' u more reply plain untold) first other_than_0 sound =
      let line : Line = line_at n' u reply in
      plain-adds t k (λ b e l. IsSound t k b resting (suc n') e l) began more es (ls ++ if_at (is_at u n' t k) line) plain (
        untold-paired u n' (is_at u n' t k) es ls reply refl untold sound.0 sound.1,
        (λ none. let old = sound.2 none in missed-line u n' (is_at u n' t k) line (IsUnbegun t es) ls refl (λ here. old.0 here.0) old.1),
      )
  keeps p q n m events lines began es ls (Move.closes n' u event closing) first other_than_0 sound =
      let line : Line = line_at n' u recorded in
      closing-adds t k u n' (λ b e. IsSound t k b (open_to u) (suc n') e (ls ++ if_at (is_at u n' t k) line)) began event es closing (
        told-paired u n' (is_at u n' t k) event es ls refl closing sound.0 sound.1,
        (λ e less. missed u n' (is_at u n' t k) event line IsClear es ls refl (λ here. omega (arith, here.1, less)) (sound.1 e (omega (arith, less)))),
        (λ none. let old = sound.2 none in (old.0, missed u n' (is_at u n' t k) event line (IsUnbegun t) es ls refl (λ here. old.0 here.0) old.1)),
      )
  keeps p q n m events lines began es ls (Move.leaves n' u event closing) first other_than_0 sound =
      let line : Line = line_at n' u recorded in
      closing-adds t k u n' (λ b e. IsSound t k b resting n' e (ls ++ if_at (is_at u n' t k) line)) began event es closing (
        told-paired u n' (is_at u n' t k) event es ls refl closing sound.0 sound.1,
        (λ none. let old = sound.2 none in missed u n' (is_at u n' t k) event line (IsUnbegun t) es ls refl (λ here. old.0 here.0) old.1),
      )
  keeps p q n m events lines began es ls (Move.rests n' next more plain) first other_than_0 sound =
      plain-keeps t k (λ b e l. IsSound t k b resting next e l) began more es ls plain sound
  keeps p q n m events lines began es ls (Move.rests_told n' reply untold) first other_than_0 sound =
      let line : Line = line_at n' 0 reply in (
        rest-paired n' (is_at 0 n' t k) es ls reply refl untold sound.0 (λ e. (sound.1 (other_than_0 e)).events_none),
        (λ none. let old = sound.1 none in record {
          events_none = old.events_none;
          lines_none = λ some. missed-line 0 n' (is_at 0 n' t k) line (λ l. l ≡ []) ls refl (λ here. omega (arith, some, here.0)) (old.lines_none some);
        }),
      )
  keeps p q n m events lines began es ls (Move.own_closed n' u event closed closing tells) first other_than_0 sound =
      closing-adds t k u n' (λ b e. IsSound t k b (awaiting u closed) n' e (ls ++ [])) began event es closing
      (subst (IsSound t k began (awaiting u closed) n' (if_at (is_at u n' t k) event ++ es)) (sym (append-nil ls)) (
        (λ other. not_awaited u n' (is_at u n' t k) event es ls other sound.0),
        (λ here. awaits-closed u n' (is_at u n' t k) closed event es ls refl tells sound.1 here),
        (λ none. let old = sound.2 none in (old.0, missed-event u n' (is_at u n' t k) event (λ e. IsUnbegun t e ls) es refl (λ here. old.0 here.0) old.1)),
      ))
  keeps p q n m events lines began es ls (Move.gives_up n' u more plain) first other_than_0 sound =
      plain-keeps t k (λ b e l. IsSound t k b (awaiting u by_giving_up) n' e l) began more es ls plain (
        (λ other. sound.0),
        (λ here. let at = at-parts u n' t k here in let none : IsClear es ls = sound.1 at.0 (omega (arith, at.1)) in (none.events_none, none.lines_none)),
        sound.2,
      )
  keeps p q n m events lines began es ls (Move.settles n' u closed more reply plain told) first other_than_0 sound =
      let line : Line = line_at n' u reply in
      plain-adds t k (λ b e l. IsSound t k b resting (suc n') e l) began more es (ls ++ if_at (is_at u n' t k) line) plain (
        settled u n' (is_at u n' t k) closed es ls reply refl told sound.0 sound.1,
        (λ none. let old = sound.2 none in missed-line u n' (is_at u n' t k) line (IsUnbegun t es) ls refl (λ here. old.0 here.0) old.1),
      )

-- ---- walks

-- each transaction begins once, and none is numbered 0. The newest event comes first
abbrev pub IsFresh : List Event → Type 0
IsFresh [] = Unit {0}
IsFresh (event ∷ past) = ((t : ℕ) → list_any (begins t) (event ∷ []) ≡ true → (list_any (begins t) past ≡ false) × (1 ≤ t)) × IsFresh past

none_zero : (past : List Event) → IsFresh past → list_any (begins 0) past ≡ false
none_zero [] fresh = refl
none_zero (event ∷ past) (here, fresh) = at (list_any (begins 0) (event ∷ [])) refl (none_zero past fresh)
  where
    at : (b : Bool) → list_any (begins 0) (event ∷ []) ≡ b → list_any (begins 0) past ≡ false → (begins 0 event || list_any (begins 0) past) ≡ false
    at true is none = absurd (omega (arith, (here 0 is).1))
    at false is none = ap (λ b. b || list_any (begins 0) past) (sym (or-false (begins 0 event)) ∙ is) ∙ none

some_same : {A : Type 0} {x y : A} → Some x ≡ Some y → x ≡ y
some_same is = cc

-- the events with those of a step more
events_more : (step : Step) (before : List Step) → events_in (step ∷ before) ≡ event_of step ++ events_in before
events_more (made event) before = refl
events_more (quiet wanting) before = refl

fresh_before : (step : Step) (before : List Step) → IsFresh (events_in (step ∷ before)) → IsFresh (events_in before)
fresh_before (made event) before fresh = fresh.1
fresh_before (quiet wanting) before fresh = fresh

first_begin : (t : ℕ) (step : Step) (before : List Step) → IsFresh (events_in (step ∷ before)) → list_any (begins t) (event_of step) ≡ true
    → (list_any (begins t) (events_in before) ≡ false) × (1 ≤ t)
first_begin t (made event) before fresh is = fresh.0 t is
first_begin t (quiet wanting) before fresh is = absurd (false≢true is)

any_append : (t : ℕ) (xs ys : List Event) → (list_any (begins t) xs || list_any (begins t) ys) ≡ list_any (begins t) (xs ++ ys)
any_append t [] ys = refl
any_append t (x ∷ xs) ys = or_assoc (begins t x) (list_any (begins t) xs) (list_any (begins t) ys) ∙ ap (λ b. begins t x || b) (any_append t xs ys)
  where
    or_assoc : (a b c : Bool) → ((a || b) || c) ≡ (a || (b || c))
    or_assoc true b c = refl
    or_assoc false b c = refl

module _ (session : ℕ) (script : ReadScript) (t k : ℕ) where
  abbrev IsWalkedSo : List Step → Walked → Type 0
  IsWalkedSo steps walked =
      IsSound t k (list_any (begins t) (events_in steps)) (phase_of walked.state.place) walked.state.next (filter (answers_statement t k) (events_in steps))
      (filter (is_of t k) walked.lines)

  on-sound : (before : List Step) (step : Step) (was walked : Walked) → IsFresh (events_in (step ∷ before)) → IsWalkedSo before was
      → walked_on was (step_from session script was.state step) ≡ Some walked → IsWalkedSo (step ∷ before) walked
  on-sound before step was walked fresh sound is = at (step_from session script was.state step) (step-moves session script was.state step) is
    where
      at : (after : After) → IfSome after (λ next. Move (phase_of was.state.place) was.state.next (event_of step) (line_for was.state next) (phase_of next.1.place) next.1.next)
          → walked_on was after ≡ Some walked → IsWalkedSo (step ∷ before) walked
      at None move is = absurd cc
      at (Some next) move is =
          let events : List Event = events_in before in
          let lines : List Line = line_for was.state next in
          let e : record { state = next.1; lines = was.lines ++ lines } ≡ walked = some_same is in
          let kept = keeps t k (phase_of was.state.place) (phase_of next.1.place) was.state.next next.1.next (event_of step) lines (list_any (begins t) events)
          (filter (answers_statement t k) events) (filter (is_of t k) was.lines) move (first_begin t step before fresh)
          (λ is_zero. subst (λ u. list_any (begins u) events ≡ false) (sym is_zero) (none_zero events (fresh_before step before fresh))) sound in
          subst (IsWalkedSo (step ∷ before)) e
          (subst (λ es. IsSound t k (list_any (begins t) es) (phase_of next.1.place) next.1.next (filter (answers_statement t k) es) (filter (is_of t k) (was.lines ++ lines)))
          (sym (events_more step before))
          (subst (λ b. IsSound t k b (phase_of next.1.place) next.1.next (filter (answers_statement t k) (event_of step ++ events)) (filter (is_of t k) (was.lines ++ lines)))
          (any_append t (event_of step) events)
          (subst (λ es. IsSound t k (list_any (begins t) (event_of step) || list_any (begins t) events) (phase_of next.1.place) next.1.next es
          (filter (is_of t k) (was.lines ++ lines))) (sym (filter-append (answers_statement t k) (event_of step) events))
          (subst (IsSound t k (list_any (begins t) (event_of step) || list_any (begins t) events) (phase_of next.1.place) next.1.next
          (filter (answers_statement t k) (event_of step) ++ filter (answers_statement t k) events)) (sym (filter-append (is_of t k) was.lines lines)) kept))))

  walk-sound : (steps : List Step) (walked : Walked) → IsFresh (events_in steps) → walk session script steps ≡ Some walked → IsWalkedSo steps walked
  walk-sound [] walked fresh is = subst (IsWalkedSo []) (some_same is) (All-nil IsUntold, (λ none. record { events_none = refl; lines_none = λ some. refl }))
  walk-sound (step ∷ before) walked fresh is = at (walk session script before) (λ was walks. walk-sound before was (fresh_before step before fresh) walks) is
    where
      at : (was : Option Walked) → ((walked : Walked) → was ≡ Some walked → IsWalkedSo before walked) → walk_on session script was step ≡ Some walked
          → IsWalkedSo (step ∷ before) walked
      at None sound is = absurd cc
      at (Some was) sound is = on-sound before step was walked fresh (sound was refl) is

-- ---- a whole walk

-- of a session's own events, and of its lines
pub record IsSessionPaired (t k : ℕ) (own_events : List Event) (lines : List Line) : Type 0 where
  pub paired : ArePaired (filter (answers_statement t k) own_events) (filter (is_of t k) lines)
  pub unbegun : list_any (begins t) own_events ≡ false → IsUnbegun t (filter (answers_statement t k) own_events) (filter (is_of t k) lines)

at_rest : (t k n : ℕ) (place : SessionPlace) (own_events : List Event) (lines : List Line) → is_at_rest place ≡ true
    → IsSound t k (list_any (begins t) own_events) (phase_of place) n (filter (answers_statement t k) own_events) (filter (is_of t k) lines)
    → IsSessionPaired t k own_events lines
at_rest t k n (free attempts) own_events lines rest sound = record { paired = sound.0; unbegun = sound.1 }
at_rest t k n lost own_events lines rest sound = record { paired = sound.0; unbegun = sound.1 }
at_rest t k n (inside opened granted) own_events lines rest sound = absurd (false≢true rest)
at_rest t k n (leaving opened) own_events lines rest sound = absurd (false≢true rest)
at_rest t k n (own u granted) own_events lines rest sound = absurd (false≢true rest)
at_rest t k n (ending u closed) own_events lines rest sound = absurd (false≢true rest)

pub session-paired : (session : ℕ) (script : ReadScript) (past : History) (lines : List Line) (steps : List Step) (t k : ℕ)
    → IsWholeWalkOf session script past lines steps → IsFresh (session_events session past) → IsSessionPaired t k (session_events session past) lines
session-paired session script past lines steps t k whole fresh =
    let walked : Walked = whole.walked in
    let sound = walk-sound session script t k steps walked (subst IsFresh (sym whole.is_walk.events) fresh) whole.is_walk.walks in
    subst (IsSessionPaired t k (session_events session past)) whole.lines_are
    (subst (λ es. IsSessionPaired t k es walked.lines) whole.is_walk.events
    (at_rest t k walked.state.next walked.state.place (events_in steps) walked.lines
    (and_parts (is_end (item_at script walked.state.next)) (is_at_rest walked.state.place) whole.over).1 sound))
