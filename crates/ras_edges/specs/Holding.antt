-- What a gate that holds threads was made with.
use Rattle.std.specs.Prelude.{ℕ}
use Rattle.ras_edges.specs.declared.gate.GatePlace.{GatePlace}
use Rattle.ras_edges.specs.declared.holding.HoldingGate.{HoldingGate}

-- the place at which threads are held, and the place that opens the gate once it is passed
abbrev pub held_place : HoldingGate → GatePlace
held_place gate = gate.held

abbrev pub opening_place : HoldingGate → GatePlace
opening_place gate = gate.until

-- after how many looks a thread is let go
abbrev pub most_turns : HoldingGate → ℕ
most_turns gate = gate.turns
