-- One transaction's events are among all: what none of all is, none of its own is.
use Rattle.std.proofs.Common.{◌≡◌, ℕ, ◌⊎◌, inl, inr, true, ◌==◌, Bool, false, List, [], ◌∷◌, ◌++◌, map, Option, Some, None, subst, ap}
use Rattle.std.specs.Prelude.{Contains}
use Rattle.std.specs.List.{list_any}
use Rattle.std.proofs.lemmas.Bool.{cases_eq, eq-eqb, or_left, or_right}
use Rattle.std.proofs.lemmas.List.Elements.{Contains-append_cases, Contains-append_left, Contains-append_right}
use Rattle.spec_statements.specs.Locks.{Lock}
use Rattle.law_lists.proofs.Elements.{Contains-map}
use Rattle.ras_syntax.specs.declared.event.Event.{Event}
use Rattle.ras_syntax.specs.declared.event.Event.TheVariants.{Begun, Granted, Refused, Answered, GaveUp, Committed, Aborted}
use Rattle.spec_histories.specs.History.{History, begun_at, granted_locks, events_of, owner_of}
use Rattle.law_histories.proofs.Grants.{none_within}
use Rattle.law_histories.proofs.Owners.{mine-other, mine-own}

-- ---- locks

-- the granted locks, each with its owner
abbrev pub grants_of : Event → List (ℕ × Lock)
grants_of (Granted t k p list) = map (λ lock. (t, lock)) list
grants_of event = []

abbrev pub all_grants : History → List (ℕ × Lock)
all_grants [] = []
all_grants (event ∷ past) = grants_of event ++ all_grants past

granted-first : (event : Event) (own_events : History) (lock : Lock) → Contains (granted_locks (event ∷ own_events)) lock
    → Contains (grants_of event) (owner_of event, lock) ⊎ Contains (granted_locks own_events) lock
granted-first (Begun t session k) own_events lock has = inr has
granted-first (Granted t k p list) own_events lock has = elim (Contains-append_cases list (granted_locks own_events) lock has) [
  | inl here ↦ inl (Contains-map (λ one. (t, one)) list lock here)
  | inr there ↦ inr there
]
granted-first (Refused t k p name mode holder) own_events lock has = inr has
granted-first (Answered t k answer) own_events lock has = inr has
granted-first (GaveUp t k) own_events lock has = inr has
granted-first (Committed t n) own_events lock has = inr has
granted-first (Aborted t) own_events lock has = inr has

-- a lock of a transaction's grants is among all, as its own
pub granted-among : (t : ℕ) (past : History) (lock : Lock) → Contains (granted_locks (events_of t past)) lock → Contains (all_grants past) (t, lock)
granted-among t [] lock has = absurd (none_within lock has)
granted-among t (event ∷ past) lock has = elim (cases_eq (owner_of event) t) [
  | inl is ↦ elim (granted-first event (events_of t past) lock (subst (λ m. Contains (granted_locks m) lock) (mine-own t event past is) has)) [
    | inl here ↦ Contains-append_left (grants_of event) (all_grants past) (t, lock) (subst (λ u. Contains (grants_of event) (u, lock)) is here)
    | inr there ↦ Contains-append_right (grants_of event) (all_grants past) (t, lock) (granted-among t past lock there)
  ]
  | inr other ↦ Contains-append_right (grants_of event) (all_grants past) (t, lock)
      (granted-among t past lock (subst (λ m. Contains (granted_locks m) lock) (mine-other t event past other) has))
]

-- ---- begins

-- the event begins a transaction of a session
abbrev pub begins_in : ℕ → Event → Bool
begins_in s (Begun t session k) = session == s
begins_in s event = false

abbrev session_in : Option (ℕ × ℕ) → ℕ
session_in None = 0
session_in (Some begun) = begun.0

begun-first : (s at : ℕ) (event : Event) (own_events : History) → begun_at (event ∷ own_events) ≡ Some (s, at) → (begins_in s event ≡ true) ⊎ (begun_at own_events ≡ Some (s, at))
begun-first s at (Begun t session k) own_events is = inl (eq-eqb session s (ap session_in is))
begun-first s at (Granted t k p list) own_events is = inr is
begun-first s at (Refused t k p name mode holder) own_events is = inr is
begun-first s at (Answered t k answer) own_events is = inr is
begun-first s at (GaveUp t k) own_events is = inr is
begun-first s at (Committed t n) own_events is = inr is
begun-first s at (Aborted t) own_events is = inr is

-- where one began in a session, some event of all begins one there
pub begun-among : (t s at : ℕ) (past : History) → begun_at (events_of t past) ≡ Some (s, at) → list_any (begins_in s) past ≡ true
begun-among t s at [] is = absurd cc
begun-among t s at (event ∷ past) is = elim (cases_eq (owner_of event) t) [
  | inl own ↦ elim (begun-first s at event (events_of t past) (subst (λ m. begun_at m ≡ Some (s, at)) (mine-own t event past own) is)) [
    | inl here ↦ or_left (begins_in s event) (list_any (begins_in s) past) here
    | inr there ↦ or_right (begins_in s event) (list_any (begins_in s) past) (begun-among t s at past there)
  ]
  | inr other ↦ or_right (begins_in s event) (list_any (begins_in s) past) (begun-among t s at past (subst (λ m. begun_at m ≡ Some (s, at)) (mine-other t event past other) is))
]
