-- Functions as lists of items, and programs of them, as values (CerCo, deliverable 4.2: LIN).
use Rattle.std.specs.Prelude.{ℕ, List}
use Rattle.cerco_base.specs.declared.events.Label.{Label as LabelNumber}
use Rattle.rtl.specs.declared.locations.Place.{Place}
use Rattle.rtl.specs.Operations.{ByteOp}

pub data LinItem : Type 0 where
  Here : (n : ℕ) → LinItem
  Op : (op : ByteOp Place) → LinItem
  Label : (l : LabelNumber) → LinItem
  Jump : (n : ℕ) → LinItem
  Test : (p : Place) (n : ℕ) → LinItem
  Call : (f : ℕ) → LinItem
  Return : LinItem

-- The functions of a program by number, the number of `main`, and the bytes that external RAM holds at the start, with their
-- addresses.
pub record LinProgram : Type 0 where
  pub lins : List (List LinItem)
  pub main : ℕ
  pub start : List (ℕ × ℕ)
