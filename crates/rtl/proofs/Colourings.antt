-- A greedy colouring is a proper one; and of the virtual registers below 24 only argument places are live.
use Rattle.std.proofs.Common.{ℕ, ◌+◌, ◌<◌, ◌≤◌, ◌⊎◌, List, [], ◌∷◌, map, inl, inr, refl, subst}
use Rattle.std.specs.List.{AllByRecursion}
use Rattle.cerco_traces.specs.LabelledGraphs.{In}
use Rattle.rtl.specs.declared.locations.Vreg.{Vreg}
use Rattle.rtl.specs.declared.locations.Place.{Place}
use Rattle.rtl.specs.Operations.{ByteOp}
use Rattle.rtl.specs.Programs.{Graph}
use Rattle.rtl.specs.Locations.{vreg_number}
use Rattle.rtl.specs.Effects.{Loc}
use Rattle.rtl.specs.Graphs.{ops_at, renamed_graph}
use Rattle.rtl.specs.Liveness.{IsPoint, Live}
use Rattle.rtl.specs.WellFormed.{locations_in, IsOfLanguage, NamesItsVregs}
use Rattle.rtl.specs.Interference.{IsProperColouring, IsGreedyColouring}
use Rattle.rtl.proofs.Points.{live_is_named}
use Rattle.rtl.proofs.RenamedGraphs.{locations_renamed}

pub greedy_is_proper : (g : Graph ℕ) (place : ℕ → Place) → IsGreedyColouring g place → IsProperColouring g place
greedy_is_proper g place greedy = record {
  arguments = greedy.arguments;
  differ = greedy.differ;
  across = λ v own live. (greedy.cells v own (live_is_named 0 g v live.2 (ops_at g live.2) ([], refl) live.4)).1 (inl live);
}

of_number : (first v : ℕ) (vs : List Vreg) → AllByRecursion (IsOfLanguage first) vs → In v (map vreg_number vs) → ((first ≤ v) × (v < first + 12)) ⊎ (24 ≤ v)
of_number first v [] all i = absurd i
of_number first v (w ∷ vs) all (inl e) = subst (λ n. ((first ≤ n) × (n < first + 12)) ⊎ (24 ≤ n)) e all.0
of_number first v (w ∷ vs) all (inr i) = of_number first v vs all.1 i

pub live_is_of_language : (first : ℕ) (g : Graph Vreg) (v p : ℕ) (ops : List (ByteOp ℕ)) → NamesItsVregs first g → IsPoint (renamed_graph vreg_number g) p ops → Live first (renamed_graph vreg_number g) (Loc v) p ops → ((first ≤ v) × (v < first + 12)) ⊎ (24 ≤ v)
live_is_of_language first g v p ops named point live =
    of_number first v (locations_in g) named (subst (In v) (locations_renamed vreg_number g) (live_is_named first (renamed_graph vreg_number g) v p ops point live))
