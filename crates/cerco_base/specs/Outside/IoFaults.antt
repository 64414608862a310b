-- When a call to the outside may answer that it failed: each such answer has a cause that its caller can see, the
-- outside's count of faults. (This project's own; the count plays the part of ferror and errno in ISO/IEC 9899:1999, 7.19.10 and 7.5.)
use Rattle.std.specs.Prelude.{◌≡◌, ℕ, ◌+◌, ◌-◌, ◌^◌, ◌≤◌, min, List, Result, IfErr}

-- the count rose, or stands at the last value of its counter
abbrev pub Rose : ℕ → ℕ → Type 0
Rose before now = min (before + 1) (2 ^ 64 - 1) ≤ now

-- a call that may answer `failed`: the count never falls, `failed` comes only where it rose, and then the last fault is at this name
pub record HasCause {T E : Type 0} (failed : E) (name last_fault : List ℕ) (before now : ℕ) (result : Result T E) : Type 0 where
  pub later : before ≤ now
  pub rose : IfErr result (λ e. e ≡ failed → Rose before now)
  pub named : IfErr result (λ e. e ≡ failed → last_fault ≡ name)
