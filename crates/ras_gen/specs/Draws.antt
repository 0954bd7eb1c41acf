-- The numbers that a seed gives. The generator is the linear congruential one of the C standard's sample
-- of `rand`: a state of 31 bits, of which a draw takes the bits from the sixteenth on.
use Rattle.std.specs.Prelude.{ℕ, zero, suc, ◌+◌, ◌*◌, ◌/◌, ◌%◌, ◌^◌}
use Rattle.ras_gen.specs.declared.draws.TheConstants.{LOW_PART}

-- the state that follows a state
abbrev pub next_state : ℕ → ℕ
next_state state = (state * 1103515245 + 12345) % 2 ^ 31

-- the state after some draws from a seed
unfoldable pub state_after : ℕ → ℕ → ℕ
state_after zero seed = seed % 2 ^ 31
state_after (suc draws) seed = next_state (state_after draws seed)

-- the number below a bound that is drawn at a state
abbrev pub number_drawn : ℕ → ℕ → ℕ
number_drawn state bound = state / LOW_PART % bound

-- the draw of that place from a seed, below a bound; the first draw has place 1
abbrev pub draw : ℕ → ℕ → ℕ → ℕ
draw seed place bound = number_drawn (state_after place seed) bound
