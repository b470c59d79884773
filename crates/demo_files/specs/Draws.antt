-- Numbers drawn one after the other from a seed: a linear congruential generator of 64 bits (Knuth's constants; the
-- taking of the upper bits own).
use Rattle.std.specs.Prelude.{ℕ, zero, suc, ◌+◌, ◌*◌, ◌^◌, ◌/◌, ◌%◌}

-- the state after another one
abbrev pub next_state : ℕ → ℕ
next_state state = (state * 6364136223846793005 + 1442695040888963407) % 2 ^ 64

-- the state after so many draws
abbrev pub state_after : ℕ → ℕ → ℕ
state_after zero state = state
state_after (suc draws) state = next_state (state_after draws state)

-- the number from 0, below `most`, that a state gives: its upper 31 bits, less whole times `most`
abbrev pub draw_below : ℕ → ℕ → ℕ
draw_below most state = (state / 2 ^ 33) % most
