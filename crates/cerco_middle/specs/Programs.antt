-- Conditions on a whole program that Cminor, RTLabs and the languages of bytes share: on what it sets first, its labels and its calls
-- (CerCo, deliverables 2.1, 3.3 and 4.3).
use Rattle.std.specs.Prelude.{◌≡◌, ℕ, suc, ◌<◌, ◌≤◌, List, [], ◌∷◌, Contains, slice_get, Some, nat_eq, if◌then◌else◌}
use Rattle.cerco_base.specs.CallOrder.{Called, functions_of}

-- What a program sets external RAM to at first are bytes at addresses.
abbrev pub AreBytesAtAddresses : List (ℕ × ℕ) → Type 0
AreBytesAtAddresses [] = Unit {0}
AreBytesAtAddresses (byte ∷ bytes) = (byte.0 < 65536) × (byte.1 < 256) × AreBytesAtAddresses bytes

-- how often a number is in a list
abbrev pub times_in : ℕ → List ℕ → ℕ
times_in l [] = 0
times_in l (x ∷ xs) = if nat_eq x l then suc (times_in l xs) else times_in l xs

-- Each label is at one place, and the labels are those below some number.
pub record AreNumbered (labels : List ℕ) : Type 0 where
  pub number : ℕ
  pub once : (l : ℕ) → l < number → times_in l labels ≡ 1
  pub no_more : (l : ℕ) → number ≤ l → times_in l labels ≡ 0

-- The order of calls holds exactly the functions below a number.
pub record HoldsFunctions (calls : List Called) (number : ℕ) : Type 0 where
  pub all : (f : ℕ) → f < number → Contains (functions_of calls) f
  pub no_others : (f : ℕ) → Contains (functions_of calls) f → f < number

-- In the order of calls, a function is among the callers of each function that it calls.
abbrev pub KnowsCallers : List Called → ℕ → List ℕ → Type 0
KnowsCallers calls caller callees =
    (callee : ℕ) → Contains callees callee → (i : ℕ) (entry : Called) → slice_get calls i ≡ Some entry → entry.function ≡ callee → Contains entry.callers caller
