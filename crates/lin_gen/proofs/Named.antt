-- The nodes that a graph names exist.
use Rattle.std.proofs.Common.{ℕ, zero, suc, ◌<◌, List, [], ◌∷◌, length, arith, None}
use Rattle.std.specs.Prelude.{slice_get}
use Rattle.std.specs.List.{AllByRecursion}
use Rattle.rtl.specs.declared.locations.Place.{Place}
use Rattle.rtl.specs.Programs.{Node, Graph}
use Rattle.rtl.specs.Graphs.{node_or, exit_at, graph_or}
use Rattle.rtl.specs.WellFormed.{exit_nodes, NamesNodes}

abbrev pub AreBelow : ℕ → List ℕ → Type 0
AreBelow bound ns = AllByRecursion (λ q. q < bound) ns

at_node : (bound other : ℕ) (ns : List (Node Place)) (p : ℕ) → AllByRecursion (λ (n : Node Place). AreBelow bound (exit_nodes n.exit)) ns → p < length ns → AreBelow bound (exit_nodes (node_or other (slice_get ns p)).exit)
at_node bound other [] p all lt = absurd (no lt)
  where
    no : p < 0 → ⊥
    no lt = omega arith
at_node bound other (n ∷ ns) zero all lt = all.0
at_node bound other (n ∷ ns) (suc p) all lt = at_node bound other ns p all.1 (omega arith)

pub nodes_named : (G : Graph Place) → NamesNodes G → (p : ℕ) → p < length G.nodes → AreBelow (length G.nodes) (exit_nodes (exit_at G p))
nodes_named G named p lt = at_node (length G.nodes) p G.nodes p named.exits lt

-- the function that isn't there
pub none_named : NamesNodes {L = Place} (graph_or None)
none_named = record { entry = omega arith; exits = ((omega arith, tt), tt) }
