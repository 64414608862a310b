-- The graph of the marked operations.
use Rattle.std.proofs.Common.{◌≡◌, ℕ, ◌+◌, ◌<◌, ◌↔◌, List, [], ◌∷◌, ◌++◌, length, map, take, Bool, true, false, if◌then◌else◌, IsTrue, sym, ap, ap₂, ◌∙◌, subst, arith, append-nil, get_or}
use Rattle.std.proofs.lemmas.List.{map-append, length-map, length-take-le}
use Rattle.rtl.specs.declared.locations.Vreg.{Vreg}
use Rattle.rtl.specs.declared.graphs.Exit.{Exit}
use Rattle.rtl.specs.declared.graphs.Graph.{Graph as WrittenGraph}
use Rattle.rtl.specs.Operations.{ByteOp}
use Rattle.rtl.specs.Programs.{Node, Graph}
use Rattle.rtl.specs.Graphs.{ops_at}
use Rattle.rtl.specs.StrongLiveness.{IsNeeded}
use Rattle.rtl.specs.Code.Views.{graph_of}
use Rattle.liveness.specs.declared.points.Points.{Points}
use Rattle.liveness.specs.Code.Reach.{is_marked}
use Rattle.liveness.specs.Code.Views.{numbered_graph}
use Rattle.liveness.specs.Code.Points.{front}
use Rattle.byte_renaming.proofs.Copied.{taken_more}
use Rattle.pruned_graphs.specs.Pruning.{IsPrunedGraph}
use Rattle.pruned_graphs.specs.Searches.{selected, selected_nodes, selected_graph, TellsNeeded}
use Rattle.pruned_graphs.proofs.Selecting.{one_selected, one_more_node, selected_is_pruned}
use Rattle.dropping.specs.Code.Selecting.{marked_at}
use Rattle.dropping.specs.Code.Turns.{AreNeeded}
use Rattle.dropping.proofs.Points.{made_long}

-- ---- operations

module _ {A B : Type 0} (view : A → B) (test : ℕ → Bool) (xs : List A) where
  taken_view : (k : ℕ) (x : A) → k < length xs → x ≡ get_or xs k x → selected test (map view (take (k + 1) xs)) ≡ selected test (map view (take k xs)) ++ (if test k then view x ∷ [] else [])
  taken_view k x lt is =
      ap (λ z. selected test (map view z)) (taken_more xs k x lt is)
      ∙ ap (selected test) (map-append view (take k xs) (x ∷ []))
      ∙ one_selected test (map view (take k xs)) (view x)
      ∙ ap (λ n. selected test (map view (take k xs)) ++ (if test n then view x ∷ [] else [])) (length-map (take k xs) view ∙ length-take-le k xs (omega (arith, lt)))

  pub selected_one : (k : ℕ) (x : A) (ys ys' : List A) (y : A) → map view ys ≡ selected test (map view (take k xs)) → ys' ≡ ys ++ y ∷ [] → view y ≡ view x → test k ≡ true → k < length xs → x ≡ get_or xs k x → map view ys' ≡ selected test (map view (take (k + 1) xs))
  selected_one k x ys ys' y so_far more same e lt is =
      ap (map view) more ∙ map-append view ys (y ∷ []) ∙ ap₂ (λ a b. a ++ b ∷ []) so_far same
      ∙ sym (taken_view k x lt is ∙ ap (λ b. selected test (map view (take k xs)) ++ (if b then view x ∷ [] else [])) e)

  pub selected_none : (k : ℕ) (x : A) (ys : List A) → map view ys ≡ selected test (map view (take k xs)) → test k ≡ false → k < length xs → x ≡ get_or xs k x → map view ys ≡ selected test (map view (take (k + 1) xs))
  selected_none k x ys so_far e lt is =
      so_far ∙ sym (append-nil (selected test (map view (take k xs))))
      ∙ sym (taken_view k x lt is ∙ ap (λ b. selected test (map view (take k xs)) ++ (if b then view x ∷ [] else [])) e)

-- ---- nodes

pub selected_node :
    {A : Type 0} (view : A → Node Vreg) (test : ℕ → ℕ → Bool) (xs : List A) (k : ℕ) (x : A) (ys ys' : List A) (y : A)
    → map view ys ≡ selected_nodes test (map view (take k xs)) → ys' ≡ ys ++ y ∷ [] → (view y).ops ≡ selected (test k) (view x).ops → (view y).exit ≡ (view x).exit → k < length xs → x ≡ get_or xs k x
    → map view ys' ≡ selected_nodes test (map view (take (k + 1) xs))
selected_node view test xs k x ys ys' y so_far more ops exit lt is =
    ap (map view) more ∙ map-append view ys (y ∷ [])
    ∙ ap₂ (λ a b. a ++ b ∷ []) so_far (ap₂ (λ (o : List (ByteOp Vreg)) (e : Exit Vreg). record { ops = o; exit = e }) ops exit)
    ∙ sym
    (ap (λ z. selected_nodes test (map view z)) (taken_more xs k x lt is)
    ∙ ap (selected_nodes test) (map-append view (take k xs) (x ∷ []))
    ∙ one_more_node test (map view (take k xs)) (view x)
    ∙ ap (λ n. selected_nodes test (map view (take k xs)) ++ (record { ops = selected (test n) (view x).ops; exit = (view x).exit }) ∷ []) (length-map (take k xs) view ∙ length-take-le k xs (omega (arith, lt))))

-- ---- the graph

tells : (g : Graph ℕ) (points : Points) (m : List Bool) → AreNeeded g points m → TellsNeeded 0 g (marked_at points m)
tells g points m are p made op ops e = subst (λ n. IsTrue (is_marked m (front points p + n)) ↔ IsNeeded 0 g p op ops) (made_long made (op ∷ ops) (ops_at g p) e) (are p op ops (made, e))

pub selected_is : (graph : WrittenGraph Vreg) (points : Points) (m : List Bool) (h : Graph Vreg) → AreNeeded (numbered_graph graph) points m → h ≡ selected_graph (marked_at points m) (graph_of graph) → IsPrunedGraph (graph_of graph) h
selected_is graph points m h are e = subst (IsPrunedGraph (graph_of graph)) (sym e) (selected_is_pruned (graph_of graph) (marked_at points m) (tells (numbered_graph graph) points m are))
