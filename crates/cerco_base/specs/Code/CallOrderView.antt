-- How a `CallOrder` of the code stands for a list of functions with their callers.
use Rattle.std.specs.Prelude.{◌≡◌, ℕ, List}
use Rattle.cerco_base.specs.declared.call_order.Entry.{Entry}
use Rattle.cerco_base.specs.CallOrder.{Called, functions_of, IsCallOrder}

abbrev pub called : Entry → Called
called e = record { function = e.function; callers = e.callers.items }

-- the numbers kept beside the entries are theirs, and the entries are in order
pub record IsInOrder (functions : List ℕ) (calls : List Called) : Type 0 where
  pub numbers : functions ≡ functions_of calls
  pub order : IsCallOrder calls
