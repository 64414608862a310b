-- What the recogniser holds between two terminal symbols: a mode, the open forms, the innermost first, and the nodes that it
-- has emitted, the newest first. The program has both lists in a `Vec`, the newest last.
use Rattle.std.specs.Prelude.{List, [], ◌∷◌}
use Rattle.clight_nodes.specs.declared.forms.Form.{Form}
use Rattle.clight_nodes.specs.declared.modes.Mode.{Mode}
use Rattle.clight_nodes.specs.declared.modes.Mode.TheVariants as m
use Rattle.clight_nodes.specs.declared.nodes.Node.{Node}

abbrev pub newest_onto : {A : Type 0} → List A → List A → List A
newest_onto later [] = later
newest_onto later (x ∷ xs) = newest_onto (x ∷ later) xs

-- the elements, the newest first
unfoldable pub newest : {A : Type 0} → List A → List A
newest = newest_onto []

pub record State : Type 0 where
  pub mode : Mode
  pub forms : List Form
  pub nodes : List Node

abbrev pub at : Mode → List Form → List Node → State
at mode forms nodes = record { mode = mode; forms = forms; nodes = nodes }

abbrev pub refused : State
refused = at m.Refused [] []

-- the state; no form is open in a declaration and where an item is whole, and nothing is left where a token is refused
abbrev pub state : Mode → List Form → List Node → State
state (m.Declaration x) k z = at (m.Declaration x) [] z
state m.Finished k z = at m.Finished [] z
state m.Refused k z = refused
state mode k z = at mode k z

-- the state of the program's lists
abbrev pub now : Mode → List Form → List Node → State
now mode forms nodes = state mode (newest forms) (newest nodes)
