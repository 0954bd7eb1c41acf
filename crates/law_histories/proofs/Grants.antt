-- The grants and answers among a transaction's events.
use Rattle.std.proofs.Common.{◌≡◌, ℕ, suc, ◌+◌, ◌≤◌, inl, inr, true, List, [], ◌∷◌, ◌++◌, length, Option, Some, None, refl, sym, subst, ap, ◌∙◌, arith, length-append, cond}
use Rattle.std.specs.Prelude.{Contains, IsTrue}
use Rattle.std.specs.List.{list_any}
use Rattle.std.proofs.lemmas.Bool.{and_parts, or_cases, or_left, or_right, eqb-true, eq-eqb}
use Rattle.std.proofs.lemmas.List.Elements.{Contains-append_left, Contains-append_right}
use Rattle.std.proofs.lemmas.List.Sums.{sum_by-cons}
use Rattle.ras_syntax.specs.Literals.{statement_numbers_fit}
use Rattle.ras_syntax.specs.declared.statement.Statement.{Statement}
use Rattle.spec_statements.specs.Reply.{Reply}
use Rattle.spec_statements.specs.Locks.{Lock}
use Rattle.law_lists.proofs.Elements.{Contains-here, Contains-there, first_or_later}
use Rattle.ras_syntax.specs.declared.event.Event.{Event}
use Rattle.ras_syntax.specs.declared.event.Event.TheVariants.{Begun, Granted, Refused, Answered, GaveUp, Committed, Aborted}
use Rattle.spec_histories.specs.History.{History, Programs, answered_statements, numbered_replies_in, begun_at, granted_locks, grants, grants_phase, has_phase, statement_from, statement_numbered, statements_of, with_statement}
use Rattle.spec_histories.specs.Serializable.{ArePrograms, answer_count, is_answered}
use Rattle.law_histories.proofs.Runs.{Fits}
use Rattle.law_histories.proofs.Statements.{Within}

-- no lock is one of none
pub none_within : {X : Type 0} (x : X) → Contains [] x → ⊥
none_within x has = omega (arith, has.1)

-- a list of a grant is one of granted locks
pub granted-within : (own_events : History) (t k p : ℕ) (list : List Lock) → Contains own_events (Granted t k p list) → Within list (granted_locks own_events)
granted-within [] t k p list has lock at = absurd (none_within (Granted t k p list) has)
granted-within (Begun u s n ∷ past) t k p list has lock at =
    elim (first_or_later (Granted t k p list) (Begun u s n) past has) [ inl is ↦ absurd cc | inr later ↦ granted-within past t k p list later lock at ]
granted-within (Granted u n q other ∷ past) t k p list has lock at = elim (first_or_later (Granted t k p list) (Granted u n q other) past has) [
  | inl is ↦ let e : other ≡ list = cc in Contains-append_left other (granted_locks past) lock (subst (λ l. Contains l lock) (sym e) at)
  | inr later ↦ Contains-append_right other (granted_locks past) lock (granted-within past t k p list later lock at)
]
granted-within (Refused u n q name mode holder ∷ past) t k p list has lock at =
    elim (first_or_later (Granted t k p list) (Refused u n q name mode holder) past has) [ inl is ↦ absurd cc | inr later ↦ granted-within past t k p list later lock at ]
granted-within (Answered u n answer ∷ past) t k p list has lock at =
    elim (first_or_later (Granted t k p list) (Answered u n answer) past has) [ inl is ↦ absurd cc | inr later ↦ granted-within past t k p list later lock at ]
granted-within (GaveUp u n ∷ past) t k p list has lock at =
    elim (first_or_later (Granted t k p list) (GaveUp u n) past has) [ inl is ↦ absurd cc | inr later ↦ granted-within past t k p list later lock at ]
granted-within (Committed u n ∷ past) t k p list has lock at =
    elim (first_or_later (Granted t k p list) (Committed u n) past has) [ inl is ↦ absurd cc | inr later ↦ granted-within past t k p list later lock at ]
granted-within (Aborted u ∷ past) t k p list has lock at =
    elim (first_or_later (Granted t k p list) (Aborted u) past has) [ inl is ↦ absurd cc | inr later ↦ granted-within past t k p list later lock at ]

-- an event that grants a statement a list of a phase
pub record IsGranted (own_events : History) (k p : ℕ) : Type 0 where
  pub t : ℕ
  pub list : List Lock
  pub there : Contains own_events (Granted t k p list)

grant-later : (event : Event) (past : History) (k p : ℕ) → IsGranted past k p → IsGranted (event ∷ past) k p
grant-later event past k p found = record { t = found.t; list = found.list; there = Contains-there (Granted found.t k p found.list) event past found.there }

grant-first : (event : Event) (past : History) (k p : ℕ) → grants_phase k p event ≡ true → IsGranted (event ∷ past) k p
grant-first (Granted u n q list) past k p is =
    let both = and_parts _ _ is in
    record {
      t = u;
      list = list;
      there = subst (λ m. Contains (Granted u n q list ∷ past) (Granted u m p list)) (eqb-true n k both.0)
          (subst (λ m. Contains (Granted u n q list ∷ past) (Granted u n m list)) (eqb-true q p both.1) (Contains-here (Granted u n q list) past));
    }
grant-first (Begun u s n) past k p is = absurd cc
grant-first (Refused u n q name mode holder) past k p is = absurd cc
grant-first (Answered u n answer) past k p is = absurd cc
grant-first (GaveUp u n) past k p is = absurd cc
grant-first (Committed u n) past k p is = absurd cc
grant-first (Aborted u) past k p is = absurd cc

pub grant_of : (own_events : History) (k p : ℕ) → has_phase k p own_events ≡ true → IsGranted own_events k p
grant_of [] k p has = absurd cc
grant_of (event ∷ past) k p has = elim (or_cases (grants_phase k p event) (has_phase k p past) has) [
  | inl first ↦ grant-first event past k p first
  | inr later ↦ grant-later event past k p (grant_of past k p later)
]

-- a grant is among them
pub grants_from : (own_events : History) (t k p : ℕ) (list : List Lock) → Contains own_events (Granted t k p list) → list_any (grants k) own_events ≡ true
grants_from [] t k p list has = absurd (none_within (Granted t k p list) has)
grants_from (event ∷ past) t k p list has = elim (first_or_later (Granted t k p list) event past has) [
  | inl is ↦ or_left (grants k event) (list_any (grants k) past) (subst (λ e. grants k e ≡ true) (sym is) (eq-eqb k k refl))
  | inr later ↦ or_right (grants k event) (list_any (grants k) past) (grants_from past t k p list later)
]

-- ---- answered statements

-- they have numbers of their atoms
statement-fits : (programs : Programs) (bound : ℕ) (own_events : History) (k : ℕ) (found : Option Statement) → ArePrograms programs bound
    → statement_numbered programs own_events k ≡ found → (rest : List Statement) → Fits rest → Fits (with_statement found rest)
statement-fits programs bound own_events k None are is rest fits = fits
statement-fits programs bound own_events k (Some statement) are is rest fits = (from_begun programs bound (begun_at own_events) k statement are is, fits)
  where
    from_begun : (programs : Programs) (bound : ℕ) (begun : Option (ℕ × ℕ)) (k : ℕ) (statement : Statement) → ArePrograms programs bound
        → statement_from programs begun k ≡ Some statement → IsTrue (statement_numbers_fit statement.form)
    from_begun programs bound None k statement are is = absurd cc
    from_begun programs bound (Some begun) k statement are is = are.numbers_fit begun.0 k statement is

pub statement_of-fits : (programs : Programs) (bound : ℕ) (own_events : History) (k : ℕ) (statement : Statement) → ArePrograms programs bound
    → statement_numbered programs own_events k ≡ Some statement → IsTrue (statement_numbers_fit statement.form)
statement_of-fits programs bound own_events k statement are is = (statement-fits programs bound own_events k (Some statement) are is [] tt).0

statements-fit : (programs : Programs) (bound : ℕ) (own_events : History) (answers : List (ℕ × Reply)) → ArePrograms programs bound → Fits (statements_of programs own_events answers)
statements-fit programs bound own_events [] are = tt
statements-fit programs bound own_events (one ∷ more) are =
    statement-fits programs bound own_events one.0 (statement_numbered programs own_events one.0) are refl (statements_of programs own_events more)
    (statements-fit programs bound own_events more are)

pub answered-fit : (programs : Programs) (bound : ℕ) (own_events : History) → ArePrograms programs bound → Fits (answered_statements programs own_events)
answered-fit programs bound own_events are = statements-fit programs bound own_events (numbered_replies_in own_events) are

-- one answer more is one statement more
statements-push : (programs : Programs) (own_events : History) (front : List (ℕ × Reply)) (one : ℕ × Reply) (statement : Statement)
    → statement_numbered programs own_events one.0 ≡ Some statement → statements_of programs own_events (front ++ one ∷ []) ≡ statements_of programs own_events front ++ statement ∷ []
statements-push programs own_events [] one statement text = ap (λ found. with_statement found []) text
statements-push programs own_events (first ∷ front) one statement text =
    ap (λ s. with_statement (statement_numbered programs own_events first.0) s) (statements-push programs own_events front one statement text)
    ∙ pushed (statement_numbered programs own_events first.0) (statements_of programs own_events front) statement
  where
    pushed : (found : Option Statement) (front : List Statement) (statement : Statement) → with_statement found (front ++ statement ∷ []) ≡ with_statement found front ++ statement ∷ []
    pushed None front statement = refl
    pushed (Some first) front statement = refl

pub answered-push : (programs : Programs) (own_events : History) (k : ℕ) (reply : Reply) (statement : Statement)
    → statement_numbered programs own_events k ≡ Some statement
    → statements_of programs own_events (numbered_replies_in own_events ++ (k, reply) ∷ []) ≡ answered_statements programs own_events ++ statement ∷ []
answered-push programs own_events k reply statement text = statements-push programs own_events (numbered_replies_in own_events) (k, reply) statement text

-- there are no more of them than answers
statements-few : (programs : Programs) (own_events : History) (answers : List (ℕ × Reply)) → length (statements_of programs own_events answers) ≤ length answers
statements-few programs own_events [] = omega arith
statements-few programs own_events (one ∷ more) =
    with-few (statement_numbered programs own_events one.0) (statements_of programs own_events more) (length more) (statements-few programs own_events more)
  where
    with-few : (found : Option Statement) (rest : List Statement) (n : ℕ) → length rest ≤ n → length (with_statement found rest) ≤ suc n
    with-few None rest n few = omega arith
    with-few (Some statement) rest n few = omega arith

-- one event more adds its own answer to their count
pub answer_count-cons : (event : Event) (past : History) → answer_count (event ∷ past) ≡ cond (is_answered event) 1 0 + answer_count past
answer_count-cons event past = sum_by-cons (λ e. cond (is_answered e) 1 0) event past

-- there are no more answers than events that answer
answers-few : (own_events : History) → length (numbered_replies_in own_events) ≤ answer_count own_events
answers-few [] = omega arith
answers-few (Begun u s n ∷ past) = answers-few past
answers-few (Granted u n q other ∷ past) = answers-few past
answers-few (Refused u n q name mode holder ∷ past) = answers-few past
answers-few (Answered u n answer ∷ past) = simp length-append (omega (arith, answers-few past, answer_count-cons (Answered u n answer) past))
answers-few (GaveUp u n ∷ past) = answers-few past
answers-few (Committed u n ∷ past) = answers-few past
answers-few (Aborted u ∷ past) = answers-few past

pub answered-few : (programs : Programs) (own_events : History) → length (answered_statements programs own_events) ≤ answer_count own_events
answered-few programs own_events = omega (arith, statements-few programs own_events (numbered_replies_in own_events), answers-few own_events)
