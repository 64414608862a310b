-- What boxes hold.
use Rattle.std.specs.Prelude.{Option, option_map}
use Rattle.std.specs.declared.boxed.Box.{Box}
use Rattle.std.specs.Global.{Global}

abbrev pub in_box : {A : Type 0} → Box A Global → A
in_box b = b.value

abbrev pub in_optional_box : {A : Type 0} → Option (Box A Global) → Option A
in_optional_box = option_map in_box
