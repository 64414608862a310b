-- Graphs renamed one after the other, each by its own allocation.
use Rattle.std.proofs.Common.{◌≡◌, ℕ, zero, suc, ◌+◌, ◌<◌, ◌≤◌, List, [], ◌∷◌, ◌++◌, length, map, take, take_all, get_or, Option, Some, None, slice_get, refl, sym, ap, ap₂, ◌∙◌, subst, arith}
use Rattle.std.specs.Prelude.{slice_index}
use Rattle.std.proofs.lemmas.List.{map-append, length-map, length-take-le}
use Rattle.std.proofs.lemmas.Option.{slice_get-get_or}
use Rattle.rtl.specs.declared.locations.Vreg.{Vreg}
use Rattle.rtl.specs.declared.locations.Place.{Place}
use Rattle.rtl.specs.declared.graphs.Graph.{Graph as WrittenGraph}
use Rattle.rtl.specs.Programs.{Graph}
use Rattle.rtl.specs.Graphs.{renamed_graph}
use Rattle.rtl.specs.Code.Views.{graph_of}
use Rattle.byte_renaming.proofs.Copied.{taken_more}
use Rattle.ltl_alloc.specs.declared.allocation.Allocation.{Allocation}
use Rattle.ltl_alloc.specs.Translation.{placed, renamed_graphs}

allocation_once : (a b : Allocation) → Some a ≡ Some b → a ≡ b
allocation_once a b e = cc

none_given : (a : Allocation) → None ≡ Some a → ⊥
none_given a e = cc

number_once : (m n : ℕ) → Some m ≡ Some n → m ≡ n
number_once m n e = cc

no_number : (n : ℕ) → None ≡ Some n → ⊥
no_number n e = cc

renamed_push : (gs : List (Graph Vreg)) (g : Graph Vreg) (allocations : List Allocation) (firsts : List ℕ) (a : Allocation) (b : ℕ) → slice_get allocations (length gs) ≡ Some a → slice_get firsts (length gs) ≡ Some b → renamed_graphs (gs ++ g ∷ []) allocations firsts ≡ renamed_graphs gs allocations firsts ++ renamed_graph (placed a b) g ∷ []
renamed_push [] g [] firsts a b at at' = absurd (none_given a at)
renamed_push [] g (x ∷ more) [] a b at at' = absurd (no_number b at')
renamed_push [] g (x ∷ more) (y ∷ firsts) a b at at' = ap₂ (λ z n. renamed_graph (placed z n) g ∷ []) (allocation_once x a at) (number_once y b at')
renamed_push (h ∷ gs) g [] firsts a b at at' = absurd (none_given a at)
renamed_push (h ∷ gs) g (x ∷ more) [] a b at at' = absurd (no_number b at')
renamed_push (h ∷ gs) g (x ∷ more) (y ∷ firsts) a b at at' = ap (λ z. renamed_graph (placed x y) h ∷ z) (renamed_push gs g more firsts a b at at')

pub renamed_more :
    (graphs : List (WrittenGraph Vreg)) (allocations : List Allocation) (firsts : List ℕ) (i : ℕ) (g : WrittenGraph Vreg) (a : Allocation) (renamed more : List (WrittenGraph Place)) (r : WrittenGraph Place)
    → map graph_of renamed ≡ renamed_graphs (map graph_of (take i graphs)) allocations firsts → more ≡ renamed ++ r ∷ [] → graph_of r ≡ renamed_graph (placed a (slice_index firsts i)) (graph_of g)
    → i < length graphs → g ≡ get_or graphs i g → slice_get allocations i ≡ Some a → i < length firsts → map graph_of more ≡ renamed_graphs (map graph_of (take (i + 1) graphs)) allocations firsts
renamed_more graphs allocations firsts i g a renamed more r so_far next same lt is at lt' =
    let count : length (map graph_of (take i graphs)) ≡ i = length-map (take i graphs) graph_of ∙ length-take-le i graphs (omega (arith, lt)) in
    ap (map graph_of) next ∙ map-append graph_of renamed (r ∷ []) ∙ ap₂ (λ xs x. xs ++ x ∷ []) so_far same
    ∙ sym (renamed_push (map graph_of (take i graphs)) (graph_of g) allocations firsts a (slice_index firsts i) (ap (slice_get allocations) count ∙ at) (ap (slice_get firsts) count ∙ slice_get-get_or firsts i 0 lt'))
    ∙ ap (λ xs. renamed_graphs xs allocations firsts) (sym (map-append graph_of (take i graphs) (g ∷ [])) ∙ ap (map graph_of) (sym (taken_more graphs i g lt is)))

pub renamed_whole : (graphs : List (WrittenGraph Vreg)) (allocations : List Allocation) (firsts : List ℕ) (i : ℕ) (renamed : List (WrittenGraph Place)) → map graph_of renamed ≡ renamed_graphs (map graph_of (take i graphs)) allocations firsts → length graphs ≤ i → map graph_of renamed ≡ renamed_graphs (map graph_of graphs) allocations firsts
renamed_whole graphs allocations firsts i renamed so_far end = so_far ∙ ap (λ xs. renamed_graphs (map graph_of xs) allocations firsts) (take_all i graphs end)
