-- The events of one transaction among those of all.
use Rattle.std.proofs.Common.{◌≡◌, ◌≢◌, ℕ, inl, inr, Bool, true, not, ◌&&◌, [], ◌∷◌, refl, sym, subst}
use Rattle.std.specs.Prelude.{is_some, IsTrue}
use Rattle.std.specs.List.{list_any}
use Rattle.std.proofs.lemmas.Bool.{cond-true, cond-false, eq-eqb, ne_eqb, cases_eq, false≢true}
use Rattle.ras_syntax.specs.declared.event.Event.{Event}
use Rattle.spec_histories.specs.History.{History, begun_at, ends, is_live, events_of, owner_of}

-- a transaction with these events is live
abbrev pub lives : History → Bool
lives own_events = is_some (begun_at own_events) && not (list_any ends own_events)

-- an event of it comes first, and one of another leaves its events
pub mine-own : (t : ℕ) (event : Event) (past : History) → owner_of event ≡ t → events_of t (event ∷ past) ≡ event ∷ events_of t past
mine-own t event past is = cond-true _ _ _ (eq-eqb (owner_of event) t is)

pub mine-other : (t : ℕ) (event : Event) (past : History) → owner_of event ≢ t → events_of t (event ∷ past) ≡ events_of t past
mine-other t event past other = cond-false _ _ _ (ne_eqb (owner_of event) t other)

-- what holds of another's events, and of its own with the new one, holds of each live one's
pub each_lives : (P : ℕ → History → Type 0) (event : Event) (past : History) → ((t : ℕ) → owner_of event ≢ t → IsTrue (is_live t past) → P t (events_of t past))
    → (IsTrue (lives (event ∷ events_of (owner_of event) past)) → P (owner_of event) (event ∷ events_of (owner_of event) past)) → (t : ℕ)
    → IsTrue (is_live t (event ∷ past)) → P t (events_of t (event ∷ past))
each_lives P event past others own t live = elim (cases_eq (owner_of event) t) [
  | inl is ↦ each_own P event past own t is live
  | inr other ↦ subst (λ m. IsTrue (lives m) → P t m) (sym (mine-other t event past other)) (others t other) live
]
  where
    each_own : (P : ℕ → History → Type 0) (event : Event) (past : History)
        → (IsTrue (lives (event ∷ events_of (owner_of event) past)) → P (owner_of event) (event ∷ events_of (owner_of event) past)) → (t : ℕ) → owner_of event ≡ t
        → IsTrue (is_live t (event ∷ past)) → P t (events_of t (event ∷ past))
    each_own P event past own t is = subst (λ u. IsTrue (lives (events_of u (event ∷ past))) → P u (events_of u (event ∷ past))) is
        (subst (λ m. IsTrue (lives m) → P (owner_of event) m) (sym (mine-own (owner_of event) event past refl)) own)

-- a live transaction has events
pub no_events-dead : (own_events : History) → IsTrue (lives own_events) → own_events ≢ []
no_events-dead own_events live none = false≢true (subst (λ m. lives m ≡ true) none live)
