-- What an ordering keeps of its graph (own): its labels and its calls, each as often as it stands there, and a bound on its length.
use Rattle.std.specs.Prelude.{◌≡◌, ℕ, List, nat_eq, if◌then◌else◌}
use Rattle.rtl.specs.declared.locations.Place.{Place}
use Rattle.rtl.specs.Programs.{Graph}
use Rattle.rtl.specs.Items.{LinItem}
use Rattle.rtl.specs.Locations.{place_number}
use Rattle.rtl.specs.Graphs.{renamed_graph}
use Rattle.rtl.specs.Lengths.{total, graph_length}
use Rattle.rtl.specs.WellFormed.{gathered, labels_in, functions_in, item_labels, item_functions}

-- how often a number stands in a list
abbrev pub times : ℕ → List ℕ → ℕ
times n ms = total (λ m. if nat_eq m n then 1 else 0) ms

-- two lists hold the same numbers, each as often, in any order
abbrev pub AreRearranged : List ℕ → List ℕ → Type 0
AreRearranged ms ns = (n : ℕ) → times n ms ≡ times n ns

-- The labels among the items are those of the graph.
abbrev pub KeepsLabels : Graph Place → List LinItem → Type 0
KeepsLabels g items = AreRearranged (labels_in g) (gathered item_labels items)

-- The calls among the items are those of the graph.
abbrev pub KeepsCalls : Graph Place → List LinItem → Type 0
KeepsCalls g items = AreRearranged (functions_in g) (gathered item_functions items)

-- the length of a graph over places
abbrev pub place_length : Graph Place → ℕ
place_length g = graph_length (renamed_graph place_number g)
