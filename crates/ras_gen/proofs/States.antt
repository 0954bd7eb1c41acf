-- The states of the generator, one after another.
use Rattle.std.proofs.Common.{◌≡◌, ℕ, zero, suc, ◌+◌, ◌^◌, ◌<◌, ap, arith, add-suc, add-zero}
use Rattle.ras_gen.specs.Draws.{next_state, state_after}

-- a state has 31 bits
pub state_after-small : (draws seed : ℕ) → state_after draws seed < 2 ^ 31
unfolding state_after
state_after-small zero seed = omega arith
state_after-small (suc draws) seed = omega arith

-- a state is itself the seed of what follows it
pub state_after-zero : (state : ℕ) → state < 2 ^ 31 → state_after 0 state ≡ state
unfolding state_after
state_after-zero state small = omega arith

-- the states that follow a state
pub state_after-one : (state : ℕ) → state < 2 ^ 31 → state_after 1 state ≡ next_state state
unfolding state_after
state_after-one state small = ap next_state (state_after-zero state small)

pub state_after-two : (state : ℕ) → state < 2 ^ 31 → state_after 2 state ≡ next_state (next_state state)
unfolding state_after
state_after-two state small = ap next_state (state_after-one state small)

pub state_after-three : (state : ℕ) → state < 2 ^ 31 → state_after 3 state ≡ next_state (next_state (next_state state))
unfolding state_after
state_after-three state small = ap next_state (state_after-two state small)

pub ruleset first_states = (state_after-one, state_after-two, state_after-three)

-- some draws, and then more
pub state_after-add : (first draws seed : ℕ) → state_after draws (state_after first seed) ≡ state_after (first + draws) seed
unfolding state_after
state_after-add first zero seed = rw (add-zero first) (state_after-zero (state_after first seed) (state_after-small first seed))
state_after-add first (suc draws) seed = rw (add-suc first draws) (ap next_state (state_after-add first draws seed))
