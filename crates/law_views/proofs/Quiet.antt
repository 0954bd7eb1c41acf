-- Events of transactions that began in other sessions leave a session alone.
use Rattle.std.proofs.Common.{◌≡◌, ◌≢◌, ℕ, [], ◌∷◌, ◌++◌, Some, refl, sym, ap, ◌∙◌, subst, arith, inl, inr}
use Rattle.std.specs.Prelude.{IsTrue}
use Rattle.std.proofs.lemmas.Bool.{cases_eq}
use Rattle.ras_syntax.specs.declared.event.Event.{Event}
use Rattle.ras_syntax.specs.declared.event.Event.TheVariants.{Begun, Granted, Refused, Answered, GaveUp, Committed, Aborted}
use Rattle.spec_histories.specs.History.{History, Programs, begun_at, events_of, owner_of}
use Rattle.spec_histories.specs.Legal.{IsLegal}
use Rattle.law_histories.proofs.Owners.{lives, mine-other, mine-own}
use Rattle.law_histories.proofs.Stays.{mine-before}
use Rattle.spec_views.specs.Sessions.{IsIdle, IsQuiet}
use Rattle.law_views.proofs.Room.{fresh}

module _ (programs : Programs) (session : ℕ) (more past : History) (t at : ℕ) (legal : IsLegal programs (more ++ past))
    (begun : begun_at (events_of t past) ≡ Some (session, at)) (none : events_of t more ≡ []) where
  same : events_of t (more ++ past) ≡ events_of t past
  same = mine-before t more past none

  -- a first event is another's, since no transaction begins twice
  module _ (event : Event) (own : owner_of event ≡ t) where
    front : events_of (owner_of event) (event ∷ more ++ past) ≡ event ∷ events_of t past
    front = subst (λ u. events_of u (event ∷ more ++ past) ≡ event ∷ events_of t past) (sym own)
        (mine-own t event (more ++ past) own ∙ ap (λ m. event ∷ m) same)

    first_began : begun_at (event ∷ events_of t past) ≡ Some (session, at) → begun_at (events_of (owner_of event) (event ∷ more ++ past)) ≡ Some (session, at)
    first_began here = ap begun_at front ∙ here

  not_own : (event : Event) → IsLegal programs (event ∷ more ++ past) → owner_of event ≡ t
      → ((k : ℕ) → begun_at (events_of (owner_of event) (event ∷ more ++ past)) ≡ Some (session, k) → ⊥) → ⊥
  not_own (Begun u s k) (may, before) own quiet = never (sym begun ∙ ap begun_at (sym same ∙ fresh programs (more ++ past) t before (omega (arith, may.0, own))))
    where
      never : Some (session, at) ≢ begun_at []
      never is = absurd cc
  not_own (Granted u k p list) may own quiet = quiet at (first_began (Granted u k p list) own begun)
  not_own (Refused u k p name mode holder) may own quiet = quiet at (first_began (Refused u k p name mode holder) own begun)
  not_own (Answered u k answer) may own quiet = quiet at (first_began (Answered u k answer) own begun)
  not_own (GaveUp u k) may own quiet = quiet at (first_began (GaveUp u k) own begun)
  not_own (Committed u n) may own quiet = quiet at (first_began (Committed u n) own begun)
  not_own (Aborted u) may own quiet = quiet at (first_began (Aborted u) own begun)

-- a transaction that began in the session has no event among the later ones
pub none_of_session : (programs : Programs) (session : ℕ) (more past : History) (t at : ℕ) → IsLegal programs (more ++ past) → IsQuiet session more past
    → begun_at (events_of t past) ≡ Some (session, at) → events_of t more ≡ []
none_of_session programs session [] past t at legal quiet begun = refl
none_of_session programs session (event ∷ more) past t at legal quiet begun =
    let none : events_of t more ≡ [] = none_of_session programs session more past t at legal.1 quiet.1 begun in
    elim (cases_eq (owner_of event) t) [
      | inl own ↦ absurd (not_own programs session more past t at legal.1 begun none event legal own quiet.0)
      | inr other ↦ mine-other t event more other ∙ none
    ]

-- and none begins there
pub idle_stays : (session : ℕ) (more past : History) → IsQuiet session more past → IsIdle session past → IsIdle session (more ++ past)
idle_stays session [] past quiet idle t at live begun = idle t at live begun
idle_stays session (event ∷ more) past quiet idle t at live begun = elim (cases_eq (owner_of event) t) [
  | inl own ↦ quiet.0 at (subst (λ u. begun_at (events_of u (event ∷ more ++ past)) ≡ Some (session, at)) (sym own) begun)
  | inr other ↦ idle_stays session more past quiet.1 idle t at (subst (λ m. IsTrue (lives m)) (mine-other t event (more ++ past) other) live)
      (subst (λ m. begun_at m ≡ Some (session, at)) (mine-other t event (more ++ past) other) begun)
]
