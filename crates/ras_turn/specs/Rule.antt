-- The rule of the table under a turn, and what each step tells its seat.
-- Word 0 is the turn: 0 where it is free, else the number of the pass that holds it and one. Word 1 is the length of the list. The slot holds the state.
use Rattle.std.specs.Prelude.{◌≡◌, ◌≢◌, ◌==◌, ℕ, ◌+◌, ◌<◌, ◌≤◌, List, [], ◌∷◌, length, Option, Some, None, MatchBool}
use mathlib.Core.Option.{some}
use mathlib.Core.List.{IsPrefix}
use lib.ListN.{get_elem?}
use Rattle.atomic_table.specs.Table.{State, Me}
use Rattle.ras_turn.specs.declared.view.Known.{Known}
use Rattle.ras_turn.specs.declared.view.View.{View}
use Rattle.ras_turn.specs.declared.view.Stage.{Stage}
use Rattle.ras_turn.specs.declared.view.Stage.TheVariants.{Dealer, Idle, Holding, Collector, Spent}
use Rattle.ras_turn.specs.Entries.{made_by}

module _ {E C : Type 0} where
  -- the seat that gives out the passes, of which this number is the next
  abbrev pub dealer : ℕ → Option C → View E C
  dealer n c = record { stage = Dealer; number = n; seen = []; own = []; charter = c; joined = [] }

  abbrev pub idle : ℕ → List (ℕ × E) → List (ℕ × E) → Option C → View E C
  idle n seen own c = record { stage = Idle; number = n; seen = seen; own = own; charter = c; joined = [] }

  abbrev pub holding : ℕ → List (ℕ × E) → List (ℕ × E) → Option C → View E C
  holding n seen own c = record { stage = Holding; number = n; seen = seen; own = own; charter = c; joined = [] }

  -- the seat that takes the passes in at the end
  abbrev pub collector : List (Known E) → View E C
  collector ks = record { stage = Collector; number = 0; seen = []; own = []; charter = None; joined = ks }

  abbrev pub spent : View E C
  spent = record { stage = Spent; number = 0; seen = []; own = []; charter = None; joined = [] }

  -- what a pass knew when it was taken in
  abbrev pub known : View E C → Known E
  known v = record { number = v.number; seen = v.seen; own = v.own }

  -- the seat j holds the turn as the pass k
  pub record HoldsTurn (views : List (View E C)) (j k : ℕ) : Type 0 where
    pub view : View E C
    pub at : get_elem? views j ≡ some view
    pub stage : view.stage ≡ Holding
    pub number : view.number ≡ k

  -- the pass v of the seat j: its own entries are just those of its number
  pub record IsPassed (log : List (ℕ × E)) (c : C) (seat : ℕ → ℕ) (next j : ℕ) (v : View E C) : Type 0 where
    pub seated : seat v.number ≡ j
    pub dealt : v.number < next
    pub charter : v.charter ≡ Some c
    pub own : v.own ≡ made_by v.number log

module _ {E : Type 0} (log : List (ℕ × E)) (seat : ℕ → ℕ) (next j : ℕ) where
  -- the pass k was taken in by the seat j
  pub record IsTaken (k : Known E) : Type 0 where
    pub seated : seat k.number ≡ j
    pub dealt : k.number < next
    pub prefix : IsPrefix k.seen log
    pub own : k.own ≡ made_by k.number log

  abbrev pub AreTaken : List (Known E) → Type 0
  AreTaken [] = Unit {0}
  AreTaken (k ∷ ks) = IsTaken k × AreTaken ks

-- the view v of the seat j, by its stage
abbrev pub Fits : {E C : Type 0} → List (ℕ × E) → C → ℕ → (ℕ → ℕ) → ℕ → ℕ → ℕ → View E C → Stage → Type 0
Fits log c turn seat dealing next j v Dealer = (j ≡ dealing) × (v.number ≡ next) × (v.charter ≡ Some c)
Fits log c turn seat dealing next j v Idle = IsPassed log c seat next j v × (turn ≢ v.number + 1) × IsPrefix v.seen log
Fits log c turn seat dealing next j v Holding = IsPassed log c seat next j v × (turn ≡ v.number + 1) × (v.seen ≡ log)
Fits log c turn seat dealing next j v Collector = AreTaken log seat next j v.joined
Fits log c turn seat dealing next j v Spent = Unit {0}

module _ {S E C : Type 0} (entries : S → List (ℕ × E)) (charter : S → C) where
  -- There is one list, of which each pass has seen a front. Of n passes, those below `next` were given out
  pub record IsTurned (n : ℕ) (c : C) (s : State (Option S) (View E C)) : Type 0 where
    pub turn : ℕ
    pub log : List (ℕ × E)
    -- the seat of each pass
    pub seat : ℕ → ℕ
    -- the seat that gives out the passes
    pub dealing : ℕ
    pub next : ℕ
    pub words : s.words ≡ turn ∷ length log ∷ []
    pub few : next ≤ n
    pub unmade : (k : ℕ) → next ≤ k → made_by k log ≡ []
    pub each : (j : ℕ) (v : View E C) → get_elem? s.views j ≡ some v → Fits log c turn seat dealing next j v v.stage
    pub free : turn ≡ 0 → (x : S) × (get_elem? s.homes 0 ≡ some (some (Some x))) × (entries x ≡ log) × (charter x ≡ c)
    pub taken : (k : ℕ) → turn ≡ k + 1 → (k < next) × HoldsTurn s.views (seat k) k

  -- The turn was free. The seat holds it now, has the state, and knows its whole list
  pub record Wins (m m' : Me (Option S) (View E C)) : Type 0 where
    pub state : S
    pub slots : m'.1 ≡ (0, Some state) ∷ m.1
    pub view : m'.0 ≡ holding m.0.number (entries state) m.0.own m.0.charter
    pub charter_kept : m.0.charter ≡ Some (charter state)
    pub prefix : IsPrefix m.0.seen (entries state)
    pub own : m.0.own ≡ made_by m.0.number (entries state)

  abbrev pub TakesTurn : Me (Option S) (View E C) → ℕ → Me (Option S) (View E C) → Type 0
  TakesTurn m found m' = MatchBool (found == 0) (Wins m m') (m' ≡ m)

module _ {S E : Type 0} (entries : S → List (ℕ × E)) where
  abbrev pub entries_in : Option S → List (ℕ × E)
  entries_in None = []
  entries_in (Some x) = entries x

  -- the list of the state that lies in the slot taken last
  abbrev pub carried : List (ℕ × Option S) → List (ℕ × E)
  carried [] = []
  carried (y ∷ xs) = entries_in y.1

  -- the list of the state at hand has become the list of all
  abbrev pub Adds : {C : Type 0} → Me (Option S) (View E C) → Me (Option S) (View E C) → Type 0
  Adds m m' = (m'.1 ≡ m.1) × (m'.0 ≡ holding m.0.number (carried m.1) (made_by m.0.number (carried m.1)) m.0.charter)

module _ {S E C : Type 0} where
  -- the number found is the length of what the seat has seen
  abbrev pub FindsLength : Me S (View E C) → ℕ → Me S (View E C) → Type 0
  FindsLength m found m' = (found ≡ length m.0.seen) × (m' ≡ m)

  abbrev pub Releases : Me S (View E C) → Me S (View E C) → Type 0
  Releases m m' = (m'.1 ≡ []) × (m'.0 ≡ idle m.0.number m.0.seen m.0.own m.0.charter)
