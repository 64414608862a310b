-- The numbers that the generator draws: those of a linear congruential generator (Knuth, The Art of Computer Programming, 3.2.1) with
-- the multiplier 1,664,525 and the increment 1,013,904,223 modulo 2 to the 32nd, of which the upper half is taken.
use Rattle.std.specs.Prelude.{ℕ, zero, suc, ◌+◌, ◌*◌, ◌/◌, ◌%◌}
use Rattle.sample_texts.specs.declared.draws.Numbers.{Numbers}

-- the state after a draw
abbrev pub next : ℕ → ℕ
next state = (1664525 * state + 1013904223) % 4294967296

-- the number that is drawn, by the state after the draw
abbrev pub drawn : ℕ → ℕ
drawn state = state / 65536

-- the numbers of a function, by four draws from a state
abbrev pub numbers_from : ℕ → Numbers
numbers_from state = record {
  turns = 1 + drawn (next state) % 20;
  added = drawn (next (next state));
  mixed = drawn (next (next (next state)));
  mixed_odd = drawn (next (next (next (next state))));
}

abbrev pub after_four : ℕ → ℕ
after_four state = next (next (next (next state)))

-- the state before the draws of the function with this number, and after those of all functions before it
abbrev pub state_at : (seed function : ℕ) → ℕ
state_at seed zero = seed
state_at seed (suc function) = after_four (state_at seed function)

abbrev pub numbers_at : (seed function : ℕ) → Numbers
numbers_at seed function = numbers_from (state_at seed function)

-- the number with which `main` begins, after the draws of so many functions
abbrev pub start_at : (seed functions : ℕ) → ℕ
start_at seed functions = drawn (next (state_at seed functions))
