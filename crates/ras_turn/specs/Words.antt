-- What clauses say of a turn, of a pass and of a turn that is held.
use Rattle.std.specs.Prelude.{◌≡◌, ℕ, ◌<◌, List, [], length, Option, Some}
use Rattle.std.specs.List.{HoldsAt}
use Rattle.atomic_table.specs.Seated.{TableId}
use Rattle.ras_turn.specs.declared.view.Known.{Known}
use Rattle.ras_turn.specs.declared.chronicle.Chronicle.{Ghosts}
use Rattle.ras_turn.specs.declared.turn.Turn.{Turn}
use Rattle.ras_turn.specs.declared.pass.Pass.{Pass}
use Rattle.ras_turn.specs.declared.held.Held.{Held}

module _ {S E C : Type 0} where
  -- what no other turn shares with it
  abbrev pub turn_id : Turn S E C → TableId
  turn_id t = t.table.shared.table_id

  -- how many passes it has
  abbrev pub turn_passes : Turn S E C → ℕ
  turn_passes t = t.table.shared.key.passes

  -- the state that it was made of
  abbrev pub turn_start : Turn S E C → S
  turn_start t = t.table.shared.key.start.value

  abbrev pub held_turn : Held S E C → TableId
  held_turn h = h.seat.table_id

  abbrev pub held_number : Held S E C → ℕ
  held_number h = h.number

  abbrev pub held_charter : Held S E C → Option C
  held_charter h = h.seat.me.0.charter

  abbrev pub held_seen : Held S E C → List (ℕ × E)
  held_seen h = h.seat.me.0.seen

  abbrev pub held_own : Held S E C → List (ℕ × E)
  held_own h = h.seat.me.0.own

module _ {S E C : Type 0} {g : Ghosts S E C} where
  -- the turn that a pass is for
  abbrev pub pass_turn : Pass S E C g → TableId
  pass_turn p = p.seat.table_id

  abbrev pub pass_number : Pass S E C g → ℕ
  pass_number p = p.number

  abbrev pub pass_charter : Pass S E C g → Option C
  pass_charter p = p.seat.me.0.charter

  -- the list that a pass has seen
  abbrev pub pass_seen : Pass S E C g → List (ℕ × E)
  pass_seen p = p.seat.me.0.seen

  -- the entries that were made with a pass
  abbrev pub pass_own : Pass S E C g → List (ℕ × E)
  pass_own p = p.seat.me.0.own

  -- what a turn learns of a pass that is taken in
  abbrev pub known_of : Pass S E C g → Known E
  known_of p = record { number = p.number; seen = p.seat.me.0.seen; own = p.seat.me.0.own }

  -- a pass of this turn, under this number and charter, which has seen nothing and made nothing
  pub record IsNew (id : TableId) (c : C) (k : ℕ) (p : Pass S E C g) : Type 0 where
    pub turn : pass_turn p ≡ id
    pub number : pass_number p ≡ k
    pub charter : pass_charter p ≡ Some c
    pub seen : pass_seen p ≡ []
    pub own : pass_own p ≡ []

  -- the passes are new, and have their places for numbers
  abbrev pub AreNew : TableId → C → List (Pass S E C g) → Type 0
  AreNew id c ps = (k : ℕ) → k < length ps → HoldsAt (IsNew id c k) ps k

  -- some pass has the number
  abbrev pub HasNumber : List (Pass S E C g) → ℕ → Type 0
  HasNumber ps k = (i : ℕ) × (i < length ps) × HoldsAt (λ p. pass_number p ≡ k) ps i
