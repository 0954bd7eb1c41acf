-- Histories that answer each statement once, from the last event to the first.
use Rattle.std.proofs.Common.{◌≡◌, ℕ, ◌+◌, ◌-◌, ◌<◌, ◌≤◌, List, [], ◌∷◌, ◌++◌, length, get_or, take, drop, cond, true, false, Bool, refl, sym, ◌∙◌, ap, subst, arith}
use Rattle.std.proofs.lemmas.Bool.{and_parts, eqb-true}
use Rattle.std.proofs.lemmas.List.{drop_more, take_more, take_all, length-drop}
use Rattle.std.proofs.lemmas.List.Elements.{filter-append}
use Rattle.std.specs.Prelude.{filter, ◌&&◌, ◌==◌}
use Rattle.ras_report.specs.Once.{AreAnsweredOnce}
use Rattle.ras_syntax.specs.declared.event.Event.{Event}
use Rattle.spec_sessions.specs.Report.{answers_statement}

-- the statement that the event answers or refuses is none of the later ones
abbrev pub IsApart : Event → List Event → Type 0
IsApart event later = (t k : ℕ) → answers_statement t k event ≡ true → filter (answers_statement t k) later ≡ []

length-one : (b : Bool) (event : Event) (kept : List Event) → (b ≡ true → kept ≡ []) → length kept ≤ 1 → length (cond b (event ∷ kept) kept) ≤ 1
length-one true event kept h few = let none : length kept ≡ 0 = ap length (h refl) in omega arith
length-one false event kept h few = few

-- one more event in front
once-more : (event : Event) (later : List Event) → IsApart event later → AreAnsweredOnce later → AreAnsweredOnce (event ∷ later)
once-more event later apart once = λ t k. length-one (answers_statement t k event) event (filter (answers_statement t k) later) (apart t k) (once t k)

pub once-none : (history : List Event) → AreAnsweredOnce (drop (length history) history)
once-none [] = λ t k. omega arith
once-none (event ∷ history) = once-none history

-- from the event before a place on
pub once-before : (history : List Event) (n left : ℕ) (event : Event) → left ≡ n + 1 → n < length history → event ≡ get_or history n event
    → IsApart event (take (length history - (n + 1)) (drop (n + 1) history)) → AreAnsweredOnce (drop left history) → AreAnsweredOnce (drop n history)
once-before history n left event e h is apart once =
    let later : take (length history - (n + 1)) (drop (n + 1) history) ≡ drop (n + 1) history =
    take_all (length history - (n + 1)) (drop (n + 1) history) (omega (arith, length-drop (n + 1) history)) in
    let parts : drop n history ≡ event ∷ drop (n + 1) history = drop_more history n event h ∙ ap (λ y. y ∷ drop (n + 1) history) (sym is) in
    let rest : AreAnsweredOnce (drop (n + 1) history) = subst (λ (m : ℕ). AreAnsweredOnce (drop m history)) e once in
    subst AreAnsweredOnce (sym parts) (once-more event (drop (n + 1) history) (subst (IsApart event) later apart) rest)

-- one more event that doesn't pass
pub none_kept : (p : Event → Bool) (events : List Event) (i : ℕ) (event : Event) → i < length events → filter p (take i events) ≡ [] → event ≡ get_or events i event
    → p event ≡ false → filter p (take (i + 1) events) ≡ []
none_kept p events i event h none is fails =
    let more : take (i + 1) events ≡ take i events ++ event ∷ [] = take_more events i event h ∙ ap (λ y. take i events ++ y ∷ []) (sym is) in
    ap (filter p) more ∙ filter-append p (take i events) (event ∷ []) ∙ rw (none, fails) refl

-- the event of one statement is that of no other
pub same-statement : (u s t k : ℕ) → ((u == t) && (s == k)) ≡ true → (u ≡ t) × (s ≡ k)
same-statement u s t k h =
    let first : (u == t) ≡ true = (and_parts (u == t) (s == k) h).0 in
    let second : (s == k) ≡ true = (and_parts (u == t) (s == k) h).1 in
    (eqb-true u t first, eqb-true s k second)

pub apart-from : (u s : ℕ) (later : List Event) → filter (answers_statement u s) later ≡ [] → (t k : ℕ) → ((u == t) && (s == k)) ≡ true → filter (answers_statement t k) later ≡ []
apart-from u s later none t k h =
    let same = same-statement u s t k h in
    subst (λ (n : ℕ). filter (answers_statement t n) later ≡ []) same.1 (subst (λ (n : ℕ). filter (answers_statement n s) later ≡ []) same.0 none)
