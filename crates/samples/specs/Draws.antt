-- Numbers that are drawn, one after the other, by a linear congruential generator of 64 bits.
use Rattle.std.specs.Prelude.{ℕ, zero, suc, ◌+◌, ◌*◌, ◌/◌, ◌%◌, ◌^◌}

-- the state after one more draw
abbrev pub next_state : ℕ → ℕ
next_state state = (state * 6364136223846793005 + 1442695040888963407) % 2 ^ 64

-- the state after so many draws
abbrev pub state_after : ℕ → ℕ → ℕ
state_after zero state = state
state_after (suc count) state = state_after count (next_state state)

-- the number below a bound that comes of a draw, which left this state: from its high bits
abbrev pub drawn_below : ℕ → ℕ → ℕ
drawn_below bound state = (state / 2 ^ 33) % bound

-- the number below a bound that the draw of this index, counted from 1, gives after a state
abbrev pub draw : ℕ → ℕ → ℕ → ℕ
draw state number bound = drawn_below bound (state_after number state)
