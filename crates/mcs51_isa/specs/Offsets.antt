-- How far a relative jump reaches (Intel, MCS-51 instruction set: from 128 addresses before the next instruction to 127 after it),
-- and the operand that leads to a target.
use Rattle.std.specs.Prelude.{ℕ, ◌+◌, ◌-◌, ◌%◌, ◌≤◌}

-- the target is within the reach of a relative jump
abbrev pub IsNear : ℕ → ℕ → Type 0
IsNear next target = (next ≤ target + 128) × (target ≤ next + 127)

-- the operand of a relative jump to the target
abbrev pub offset_to : ℕ → ℕ → ℕ
offset_to next target = (target + 65536 - next) % 256
