-- Graphs without their vain operations, one after the other.
use Rattle.std.proofs.Common.{◌≡◌, ℕ, zero, suc, ◌+◌, ◌<◌, List, [], ◌∷◌, ◌++◌, length, map, take, get_or, sym, ap, ◌∙◌, subst}
use Rattle.std.proofs.lemmas.List.{map-append}
use Rattle.rtl.specs.declared.locations.Vreg.{Vreg}
use Rattle.rtl.specs.declared.graphs.Graph.{Graph as WrittenGraph}
use Rattle.rtl.specs.Programs.{Graph}
use Rattle.rtl.specs.Locations.{vreg_number}
use Rattle.rtl.specs.Graphs.{renamed_graph, graph_at}
use Rattle.rtl.specs.CallingConvention.{CarryStaysInside}
use Rattle.rtl.specs.Code.Views.{graph_of}
use Rattle.byte_renaming.proofs.Copied.{taken_more}
use Rattle.pruned_graphs.specs.Pruning.{IsPrunedGraph, ArePruned}
use Rattle.pruned_graphs.proofs.Convention.{carry_stays}

one_more : (gs hs : List (Graph Vreg)) (g h : Graph Vreg) → ArePruned gs hs → IsPrunedGraph g h → ArePruned (gs ++ g ∷ []) (hs ++ h ∷ [])
one_more [] [] g h all one = (one, tt)
one_more [] (k ∷ ks) g h all one = absurd all
one_more (k ∷ ks) [] g h all one = absurd all
one_more (k ∷ ks) (l ∷ ls) g h all one = (all.0, one_more ks ls g h all.1 one)

pub pruned_more : (xs ys ys' : List (WrittenGraph Vreg)) (y x : WrittenGraph Vreg) (i : ℕ) → ArePruned (map graph_of (take i xs)) (map graph_of ys) → ys' ≡ ys ++ y ∷ [] → IsPrunedGraph (graph_of x) (graph_of y) → i < length xs → x ≡ get_or xs i x → ArePruned (map graph_of (take (i + 1) xs)) (map graph_of ys')
pruned_more xs ys ys' y x i so_far more one lt is =
    subst (λ zs. ArePruned zs (map graph_of ys')) (sym (ap (map graph_of) (taken_more xs i x lt is) ∙ map-append graph_of (take i xs) (x ∷ [])))
    (subst (ArePruned (map graph_of (take i xs) ++ graph_of x ∷ [])) (sym (ap (map graph_of) more ∙ map-append graph_of ys (y ∷ []))) (one_more (map graph_of (take i xs)) (map graph_of ys) (graph_of x) (graph_of y) so_far one))

-- where the carry is live in front of no node of a function, it still is so
pub carry_each : (gs hs : List (Graph Vreg)) → ArePruned gs hs → (f : ℕ) → CarryStaysInside 0 (graph_at (map (renamed_graph vreg_number) gs) f) → CarryStaysInside 0 (graph_at (map (renamed_graph vreg_number) hs) f)
carry_each [] [] all f carry = carry
carry_each [] (h ∷ hs) all f carry = absurd all
carry_each (g ∷ gs) [] all f carry = absurd all
carry_each (g ∷ gs) (h ∷ hs) all zero carry = carry_stays 0 (renamed_graph vreg_number g) (renamed_graph vreg_number h) all.0 carry
carry_each (g ∷ gs) (h ∷ hs) all (suc f) carry = carry_each gs hs all.1 f carry
