-- The texts of sessions, one after another; and that a printable outcome answers each statement once.
use Rattle.std.proofs.Common.{◌≡◌, ℕ, zero, suc, ◌+◌, ◌≤◌, List, [], ◌∷◌, ◌++◌, length, take, drop, refl, sym, ◌∙◌, ap, subst, arith, append-nil, append_assoc, add-one}
use Rattle.std.specs.Prelude.{Option, Some, min, slice_get}
use Rattle.ras_edges.specs.Sink.{Wrote, Stopped}
use Rattle.ras_edges.proofs.Writing.{Wrote-more, Stopped-later, Stopped-longer}
use Rattle.ras_report.specs.Once.{AreAnsweredOnce}
use Rattle.ras_syntax.specs.declared.event.Event.{Event}
use Rattle.ras_syntax.specs.declared.types.Script.{Script}
use Rattle.spec_sessions.specs.Outcomes.{OutcomeValue}
use Rattle.spec_sessions.specs.Printable.{ArePaired, IsPrintable, events_on, lines_on}
use Rattle.spec_sessions.specs.Report.{session_text, sessions_text_of}
use Rattle.spec_sessions.specs.Walk.{Line}

behind-first : (s a b c : List ℕ) → s ++ ((a ++ b) ++ c) ≡ ((s ++ a) ++ b) ++ c
behind-first s a b c = sym (append_assoc s (a ++ b) c) ∙ ap (λ t. t ++ c) (sym (append_assoc s a b))

module _ (all : List Script) (history : List Event) where
  -- up to the session at a place
  pub sessions-take : (i : ℕ) (scripts : List Script) (lines : List (List Line)) (script : Script) (own : List Line)
      → slice_get scripts i ≡ Some script → slice_get lines i ≡ Some own
      → sessions_text_of all history (take (suc i) scripts) (take (suc i) lines) ≡ sessions_text_of all history (take i scripts) (take i lines) ++ session_text all history script own
  sessions-take i [] lines script own e h = absurd cc
  sessions-take i (s ∷ scripts) [] script own e h = absurd cc
  sessions-take zero (s ∷ scripts) (l ∷ lines) script own e h =
      let same : s ≡ script = cc in
      let mine : l ≡ own = cc in
      rw (same, mine) (append-nil (session_text all history script own))
  sessions-take (suc i) (s ∷ scripts) (l ∷ lines) script own e h =
      ap (λ t. session_text all history s l ++ t) (sessions-take i scripts lines script own e h)
      ∙ sym (append_assoc (session_text all history s l) (sessions_text_of all history (take i scripts) (take i lines)) (session_text all history script own))

  -- the texts end with the shorter list
  pub sessions-end : (n : ℕ) (scripts : List Script) (lines : List (List Line)) → min (length scripts) (length lines) ≤ n
      → sessions_text_of all history (take n scripts) (take n lines) ≡ sessions_text_of all history scripts lines
  sessions-end zero [] lines h = refl
  sessions-end zero (s ∷ scripts) [] h = refl
  sessions-end zero (s ∷ scripts) (l ∷ lines) h = absurd (omega arith)
  sessions-end (suc n) [] lines h = refl
  sessions-end (suc n) (s ∷ scripts) [] h = refl
  sessions-end (suc n) (s ∷ scripts) (l ∷ lines) h = ap (λ t. session_text all history s l ++ t) (sessions-end n scripts lines (omega arith))

  -- all of them are those up to the session at a place, and then more
  pub sessions-split : (i : ℕ) (scripts : List Script) (lines : List (List Line)) (script : Script) (own : List Line)
      → slice_get scripts i ≡ Some script → slice_get lines i ≡ Some own
      → sessions_text_of all history scripts lines
      ≡ (sessions_text_of all history (take i scripts) (take i lines) ++ session_text all history script own) ++ sessions_text_of all history (drop (suc i) scripts) (drop (suc i) lines)
  sessions-split i [] lines script own e h = absurd cc
  sessions-split i (s ∷ scripts) [] script own e h = absurd cc
  sessions-split zero (s ∷ scripts) (l ∷ lines) script own e h =
      let same : s ≡ script = cc in
      let mine : l ≡ own = cc in
      rw (same, mine) refl
  sessions-split (suc i) (s ∷ scripts) (l ∷ lines) script own e h =
      ap (λ t. session_text all history s l ++ t) (sessions-split i scripts lines script own e h)
      ∙ behind-first (session_text all history s l) (sessions_text_of all history (take i scripts) (take i lines)) (session_text all history script own)
      (sessions_text_of all history (drop (suc i) scripts) (drop (suc i) lines))

module _ {K : Type 0} {taken : K → Option (List ℕ)} {faults : K → ℕ} (all : List Script) (history : List Event) where
  -- the session at a place was written too
  pub Wrote-session : {a b c : K} (i : ℕ) (scripts : List Script) (lines : List (List Line)) (script : Script) (own : List Line)
      → slice_get scripts i ≡ Some script → slice_get lines i ≡ Some own
      → Wrote taken faults a b (sessions_text_of all history (take i scripts) (take i lines)) → Wrote taken faults b c (session_text all history script own)
      → Wrote taken faults a c (sessions_text_of all history (take (i + 1) scripts) (take (i + 1) lines))
  Wrote-session i scripts lines script own e h p q =
      rw add-one (subst (Wrote taken faults _ _) (sym (sessions-take all history i scripts lines script own e h)) (Wrote-more p q))

  -- it stopped within the session at a place
  pub Stopped-session : {a b c : K} (i : ℕ) (scripts : List Script) (lines : List (List Line)) (script : Script) (own : List Line)
      → slice_get scripts i ≡ Some script → slice_get lines i ≡ Some own
      → Wrote taken faults a b (sessions_text_of all history (take i scripts) (take i lines)) → Stopped taken faults b c (session_text all history script own)
      → Stopped taken faults a c (sessions_text_of all history scripts lines)
  Stopped-session i scripts lines script own e h p q =
      subst (Stopped taken faults _ _) (sym (sessions-split all history i scripts lines script own e h))
      (Stopped-longer (sessions_text_of all history (drop (suc i) scripts) (drop (suc i) lines)) (Stopped-later p q))

-- there is at most one event where events and lines are paired
pub length-paired : (events : List Event) (lines : List Line) → ArePaired events lines → length events ≤ 1
length-paired [] lines h = omega arith
length-paired (event ∷ []) lines h = omega arith
length-paired (event ∷ other ∷ events) [] h = absurd h
length-paired (event ∷ other ∷ events) (line ∷ lines) h = absurd h

pub printable-once : (scripts : List Script) (outcome : OutcomeValue) → IsPrintable scripts outcome → AreAnsweredOnce outcome.history
printable-once scripts outcome h = λ t k. length-paired (events_on outcome t k) (lines_on outcome t k) (h.paired t k)

-- an outcome of these lines and events
abbrev pub outcome_from : List (List Line) → List Event → OutcomeValue
outcome_from lines history = record { lines = lines; history = history }

pub outcome-same : (lines others : List (List Line)) (history events : List Event) (outcome : OutcomeValue) → lines ≡ others → history ≡ events
    → outcome_from others events ≡ outcome → outcome_from lines history ≡ outcome
outcome-same lines others history events outcome e h same =
    ap (λ (own : List (List Line)). outcome_from own history) e ∙ ap (λ (past : List Event). outcome_from others past) h ∙ same
