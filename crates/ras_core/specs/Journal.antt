-- The events so far, and what room is kept for events to come.
use Rattle.std.specs.Prelude.{ℕ, ◌==◌, Bool, not, ◌&&◌, if◌then◌else◌, List, [], ◌∷◌, ◌++◌, filter}
use Rattle.std.specs.List.{list_any}
use Rattle.ras_syntax.specs.declared.event.Event.{Event}

-- a transaction and the number of a statement of it
abbrev pub StatementKey : Type 0
StatementKey = ℕ × ℕ

-- the events from the oldest to the newest, the transactions for whose ends there is room, and the statements for whose
-- closings there is room
pub record JournalState : Type 0 where
  pub events : List Event
  pub live : List ℕ
  pub reserved : List StatementKey

-- a transaction is among those listed
abbrev pub is_listed_live : ℕ → List ℕ → Bool
is_listed_live t live = list_any (λ u. u == t) live

abbrev pub is_key : ℕ → ℕ → StatementKey → Bool
is_key t k one = (one.0 == t) && (one.1 == k)

-- the statement is among those for which there is room
abbrev pub is_reserved : ℕ → ℕ → List StatementKey → Bool
is_reserved t k reserved = list_any (is_key t k) reserved

-- without one transaction
abbrev pub live_without : ℕ → List ℕ → List ℕ
live_without t live = filter (λ u. not (u == t)) live

-- with one statement more, which is listed once
abbrev pub reserved_with : ℕ → ℕ → List StatementKey → List StatementKey
reserved_with t k reserved = if is_reserved t k reserved then reserved else reserved ++ (t, k) ∷ []

-- without one statement
abbrev pub reserved_without : ℕ → ℕ → List StatementKey → List StatementKey
reserved_without t k reserved = filter (λ one. not (is_key t k one)) reserved

-- without all statements of a transaction
abbrev pub reserved_without_all_of : ℕ → List StatementKey → List StatementKey
reserved_without_all_of t reserved = filter (λ one. not (one.0 == t)) reserved
