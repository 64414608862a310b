-- What calls have in common in Cminor and RTLabs (CerCo, deliverable 3.3): the values of a call, how its arguments reach its
-- parameters, what its variables keep, and its result. Arguments are handed over in slots, each under the number of argument bytes
-- before it, so that the languages of bytes can keep them there.
use Rattle.std.specs.Prelude.{ℕ, suc, ◌+◌, Bool, true, false, List, [], ◌∷◌, take, Option, Some, None, slice_index_or}
use Rattle.cerco_traces.specs.Worlds.{update}
use Rattle.cerco_middle.specs.declared.operators.Held.{Held}
use Rattle.cerco_middle.specs.declared.operators.Held.TheVariants.{W16}
use Rattle.cerco_middle.specs.Operators.{held_bytes, kept}

-- a value for each number: of a variable, of a temporary, of a slot
abbrev pub Values : Type 0
Values = ℕ → ℕ

abbrev pub all_zero : Values
all_zero = λ x. 0

-- an argument: how it is held, and the number of argument bytes before it
pub record Argument : Type 0 where
  pub held : Held
  pub first_byte : ℕ

-- the arguments that are held so, from a first byte on
abbrev pub arguments_from : ℕ → List Held → List Argument
arguments_from first [] = []
arguments_from first (h ∷ hs) = record { held = h; first_byte = first } ∷ arguments_from (first + held_bytes h) hs

-- these values are handed over in turn, from a first byte on: as many as are awaited
abbrev pub handed_over : List Held → ℕ → List ℕ → Values → Values
handed_over [] first values slots = slots
handed_over (h ∷ hs) first [] slots = slots
handed_over (h ∷ hs) first (x ∷ values) slots = handed_over hs (first + held_bytes h) values (update slots first (kept h x))

-- the parameters from number x on take what was handed over from a first byte on
abbrev pub taken_over : List Held → ℕ → ℕ → Values → Values → Values
taken_over [] x first slots variables = variables
taken_over (h ∷ hs) x first slots variables = taken_over hs (suc x) (first + held_bytes h) slots (update variables x (slots first))

-- the variables at the start of a call: the parameters as they were handed over, the others 0
abbrev pub first_variables : List Held → ℕ → Values → Values
first_variables held parameters slots = taken_over (take parameters held) 0 0 slots all_zero

-- how a variable is held: in two bytes where there is no such variable
abbrev pub variable_held : List Held → ℕ → Held
variable_held held x = slice_index_or held x W16

-- a variable becomes a value, of which it keeps what it holds
abbrev pub assigned : List Held → ℕ → ℕ → Values → Values
assigned held x value variables = update variables x (kept (variable_held held x) value)

-- the result after a return with a value: what is kept of it where the function has a result, else the one before
abbrev pub returned : Option Held → ℕ → ℕ → ℕ
returned None value before = before
returned (Some h) value before = kept h value

-- no call is open
abbrev pub is_over : {A : Type 0} → List A → Bool
is_over [] = true
is_over (call ∷ others) = false
