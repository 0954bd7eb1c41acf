-- The events of a session: what others do leaves them, a walk is one up to each of its steps, and all sessions together begin
-- few transactions.
use Rattle.std.proofs.Common.{◌≡◌, ℕ, zero, suc, ◌+◌, ◌*◌, ◌≤◌, inl, inr, Bool, true, false, cond, if◌then◌else◌, List, [], ◌∷◌, ◌++◌, length, Option, Some, None, All, refl, sym, ap, ◌∙◌, subst, arith}
use Rattle.std.specs.Prelude.{count_by}
use Rattle.std.specs.List.{AllByRecursion}
use Rattle.std.proofs.Math.Nat.{mul-le-mul_right, suc-mul}
use Rattle.std.proofs.lemmas.List.Elements.{recursion_from_All}
use Rattle.std.specs.List.{AllByRecursion}
use Rattle.std.proofs.lemmas.Bool.{cases_eq, cond-false, cond-true, eq-eqb, ne_eqb}
use Rattle.ras_syntax.specs.declared.event.Event.{Event}
use Rattle.ras_syntax.specs.declared.event.Event.TheVariants.{Begun, Granted, Refused, Answered, GaveUp, Committed, Aborted}
use Rattle.ras_syntax.specs.declared.limits.TheConstants.{MAX_RETRIES}
use Rattle.spec_histories.specs.History.{History, Programs, begun_at, events_of, owner_of}
use Rattle.spec_histories.specs.Legal.{IsLegal, is_begun}
use Rattle.law_histories.proofs.Owners.{mine-own}
use Rattle.law_views.proofs.Room.{begun-more, nth-within, sum_to, sum_to-grows, sum_to-more}
use Rattle.spec_views.specs.Sessions.{IsQuiet}
use Rattle.spec_sessions.specs.Begins.{AreBrief, HasFewTries, begins_in, begun_by}
use Rattle.spec_sessions.specs.Outcomes.{AreMadeSoFarFrom, IsWalkOf, began_in, events_in, session_events}
use Rattle.spec_sessions.specs.Walk.{ReadScript, Step, Walked, made, quiet, walk, walk_on}
use Rattle.law_sessions.proofs.Begins.{few-begins}

-- ---- a walk's beginning

pub walk-before : (session : ℕ) (script : ReadScript) (step : Step) (before : List Step) (walked : Walked) → walk session script (step ∷ before) ≡ Some walked
    → (was : Walked) × (walk session script before ≡ Some was)
walk-before session script step before walked is = at (walk session script before) refl is
  where
    at : (was : Option Walked) → walk session script before ≡ was → walk_on session script was step ≡ Some walked
        → (was : Walked) × (walk session script before ≡ Some was)
    at None walks is = absurd cc
    at (Some was) walks is = (was, walks)

-- ---- events of others

not_began : (session : ℕ) (begun : Option (ℕ × ℕ)) → ((k : ℕ) → begun ≡ Some (session, k) → ⊥) → began_in session begun ≡ false
not_began session None none = refl
not_began session (Some begun) none = elim (cases_eq begun.0 session) [
  | inl same ↦ absurd (none begun.1 (ap (λ s. Some (s, begun.1)) same))
  | inr other ↦ ne_eqb begun.0 session other
]

pub quiet-leaves : (session : ℕ) (more past : History) → IsQuiet session more past → session_events session (more ++ past) ≡ session_events session past
quiet-leaves session [] past none = refl
quiet-leaves session (event ∷ more) past none =
    cond-false _ _ _ (not_began session (begun_at (events_of (owner_of event) (event ∷ more ++ past))) none.0) ∙ quiet-leaves session more past none.1

-- ---- all begins

begins_among : History → ℕ
begins_among [] = 0
begins_among (event ∷ past) = begun_by event + begins_among past

begins-events : (steps : List Step) → begins_in steps ≡ begins_among (events_in steps)
unfolding begins_among
begins-events [] = refl
begins-events (made event ∷ steps) = ap (λ n. begun_by event + n) (begins-events steps)
begins-events (quiet wanting ∷ steps) = let e : begins_in (quiet wanting ∷ steps) ≡ begins_in steps = omega arith in e ∙ begins-events steps

counted : (past : History) → count_by is_begun past ≡ begins_among past
unfolding begins_among
counted [] = refl
counted (event ∷ past) = begun-more event past ∙ ap (λ n. cond (is_begun event) 1 0 + n) (counted past) ∙ ap (λ n. n + begins_among past) (same event)
  where
    same : (event : Event) → cond (is_begun event) 1 0 ≡ begun_by event
    same (Begun t i k) = refl
    same (Granted t k p list) = refl
    same (Refused t k p name mode holder) = refl
    same (Answered t k answer) = refl
    same (GaveUp t k) = refl
    same (Committed t n) = refl
    same (Aborted t) = refl

begun_in : History → ℕ → ℕ
begun_in past session = begins_among (session_events session past)

more_events : (event : Event) (past : History) (session : ℕ) → begun_in past session ≤ begun_in (event ∷ past) session
unfolding begun_in begins_among
more_events event past session = at (began_in session (begun_at (events_of (owner_of event) (event ∷ past))))
  where
    at : (b : Bool) → begins_among (session_events session past) ≤ begins_among (if b then event ∷ session_events session past else session_events session past)
    at true = omega arith
    at false = omega arith

one_begin : (t i k : ℕ) (past : History) → begun_in past i + 1 ≤ begun_in (Begun t i k ∷ past) i
unfolding begun_in begins_among
one_begin t i k past = subst (λ events. begins_among (session_events i past) + 1 ≤ begins_among events) (sym here) (omega arith)
  where
    begins : began_in i (begun_at (events_of t (Begun t i k ∷ past))) ≡ true
    begins = ap (λ m. began_in i (begun_at m)) (mine-own t (Begun t i k) past refl) ∙ eq-eqb i i refl

    here : session_events i (Begun t i k ∷ past) ≡ Begun t i k ∷ session_events i past
    here = cond-true _ _ _ begins

-- each begin is in a session that there is
all_begins : (programs : Programs) (past : History) → IsLegal programs past → begins_among past ≤ sum_to (begun_in past) (length programs.scripts)
unfolding begins_among
all_begins programs [] legal = omega arith
all_begins programs (Begun t i k ∷ past) (may, legal) =
    let place = nth-within i programs.scripts may.1.0 may.1.1 in
    omega (
      arith,
      all_begins programs past legal,
      sum_to-grows (begun_in past) (begun_in (Begun t i k ∷ past)) (length programs.scripts) i (more_events (Begun t i k) past) place.0 place.1 (one_begin t i k past),
    )
all_begins programs (Granted t k p list ∷ past) (may, legal) =
    omega (arith, all_begins programs past legal, sum_to-more (begun_in past) (begun_in (Granted t k p list ∷ past)) (length programs.scripts) (more_events (Granted t k p list) past))
all_begins programs (Refused t k p name mode holder ∷ past) (may, legal) =
    omega (
      arith,
      all_begins programs past legal,
      sum_to-more (begun_in past) (begun_in (Refused t k p name mode holder ∷ past)) (length programs.scripts) (more_events (Refused t k p name mode holder) past),
    )
all_begins programs (Answered t k answer ∷ past) (may, legal) =
    omega (arith, all_begins programs past legal, sum_to-more (begun_in past) (begun_in (Answered t k answer ∷ past)) (length programs.scripts) (more_events (Answered t k answer) past))
all_begins programs (GaveUp t k ∷ past) (may, legal) =
    omega (arith, all_begins programs past legal, sum_to-more (begun_in past) (begun_in (GaveUp t k ∷ past)) (length programs.scripts) (more_events (GaveUp t k) past))
all_begins programs (Committed t n ∷ past) (may, legal) =
    omega (arith, all_begins programs past legal, sum_to-more (begun_in past) (begun_in (Committed t n ∷ past)) (length programs.scripts) (more_events (Committed t n) past))
all_begins programs (Aborted t ∷ past) (may, legal) =
    omega (arith, all_begins programs past legal, sum_to-more (begun_in past) (begun_in (Aborted t ∷ past)) (length programs.scripts) (more_events (Aborted t) past))

-- ---- of sessions that walk

-- sessions from a number on
sum_from : (ℕ → ℕ) → ℕ → ℕ → ℕ
sum_from f first zero = 0
sum_from f first (suc n) = f first + sum_from f (suc first) n

sum_from-last : (f : ℕ → ℕ) (first n : ℕ) → sum_from f first (suc n) ≡ sum_from f first n + f (first + n)
unfolding sum_from
sum_from-last f first zero = let e : f first ≡ f (first + 0) = ap f (omega arith) in omega (arith, e)
sum_from-last f first (suc n) =
    let e : f (suc first + n) ≡ f (first + suc n) = ap f (omega arith) in
    omega (arith, sum_from-last f (suc first) n, e)

sum_from-to : (f : ℕ → ℕ) (n : ℕ) → sum_to f n ≡ sum_from f 1 n
unfolding sum_from sum_to
sum_from-to f zero = refl
sum_from-to f (suc n) = let e : f (suc n) ≡ f (1 + n) = ap f (omega arith) in omega (arith, sum_from-to f n, sum_from-last f 1 n, e)

abbrev IsBrief : ℕ → ReadScript → Type 0
IsBrief longest script = All HasFewTries script × (length script ≤ longest)

few_of_one : (longest session : ℕ) (script : ReadScript) (past : History) (steps : List Step) (walked : Walked) → IsBrief longest script
    → IsWalkOf session script past steps walked → begun_in past session ≤ longest * suc MAX_RETRIES
unfolding begun_in
few_of_one longest session script past steps walked brief is =
    let few : begins_in steps ≤ length script * suc MAX_RETRIES = few-begins session script steps walked brief.0 is.walks in
    let same : begins_in steps ≡ begins_among (session_events session past) = begins-events steps ∙ ap begins_among is.events in
    let more : length script * suc MAX_RETRIES ≤ longest * suc MAX_RETRIES = mul-le-mul_right (suc MAX_RETRIES) brief.1 in
    omega (arith, few, same, more)

few_from : (longest most first : ℕ) (scripts : List ReadScript) (past : History) → longest * suc MAX_RETRIES ≡ most → AllByRecursion (IsBrief longest) scripts
    → AreMadeSoFarFrom first scripts past → sum_from (begun_in past) first (length scripts) ≤ length scripts * most
unfolding sum_from
few_from longest most first [] past is brief so_far = omega arith
few_from longest most first (script ∷ scripts) past is brief so_far =
    let here : begun_in past first ≤ longest * suc MAX_RETRIES = few_of_one longest first script past so_far.0.0 so_far.0.1 brief.0 so_far.0.2 in
    let later : sum_from (begun_in past) (suc first) (length scripts) ≤ length scripts * most = few_from longest most (suc first) scripts past is brief.1 so_far.1 in
    let e : suc (length scripts) * most ≡ length scripts * most + most = suc-mul (length scripts) most in
    omega (arith, here, later, is, e)

pub sessions-begin-few : (programs : Programs) (scripts : List ReadScript) (longest : ℕ) (past : History) → length programs.scripts ≡ length scripts
    → AreBrief longest scripts → IsLegal programs past → AreMadeSoFarFrom 1 scripts past
    → count_by is_begun past ≤ length scripts * (longest * suc MAX_RETRIES)
sessions-begin-few programs scripts longest past same brief legal so_far =
    let all = all_begins programs past legal in
    let sums : sum_to (begun_in past) (length programs.scripts) ≡ sum_from (begun_in past) 1 (length scripts) =
    ap (λ n. sum_to (begun_in past) n) same ∙ sum_from-to (begun_in past) (length scripts) in
    omega (arith, counted past, all, sums, few_from longest (longest * suc MAX_RETRIES) 1 scripts past refl (recursion_from_All (IsBrief longest) scripts brief) so_far)
