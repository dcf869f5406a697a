-- Draws of numbers, all told by the seed.
use Rattle.std.specs.Prelude.{ℕ, zero, suc, ◌+◌, ◌*◌, ◌/◌, ◌%◌, ◌^◌}

-- from one state to the next, by a linear congruence modulo 2^64 (Knuth, The Art of Computer Programming, 3.2.1)
abbrev pub next_state : ℕ → ℕ
next_state state = (state * 6364136223846793005 + 1442695040888963407) % 2 ^ 64

-- the state behind so many draws
abbrev pub state_behind : (seed draws : ℕ) → ℕ
state_behind seed zero = seed
state_behind seed (suc n) = next_state (state_behind seed n)

-- what the draw that left this state gave: its 31 highest bits
abbrev pub drawn : ℕ → ℕ
drawn state = state / 2 ^ 33

-- a name is one of 64
abbrev pub number_drawn : ℕ → ℕ
number_drawn state = drawn state % 64
