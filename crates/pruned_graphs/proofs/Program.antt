-- What holds of a program of ERTL without its vain operations, by what holds of graphs over numbers.
use Rattle.std.proofs.Common.{◌≡◌, ℕ, zero, suc, ◌+◌, ◌<◌, ◌≤◌, ◌⊎◌, inl, inr, List, [], ◌∷◌, length, map, refl, sym, ap, ap₂, ◌∙◌, subst, arith}
use Rattle.std.specs.List.{AllByRecursion}
use Rattle.std.proofs.lemmas.List.{length-map}
use Rattle.cerco_base.specs.CallOrder.{Called}
use Rattle.cerco_traces.specs.LabelledGraphs.{In, SoundlyLabelled}
use Rattle.cerco_traces.specs.Preservation.{Preserves}
use Rattle.rtl.specs.declared.locations.Vreg.{Vreg}
use Rattle.rtl.specs.declared.graphs.Exit.{Exit}
use Rattle.rtl.specs.declared.graphs.Exit.TheVariants.{Next, Test, Call, Label, Return}
use Rattle.rtl.specs.Programs.{Node, Graph, Bytes}
use Rattle.rtl.specs.Locations.{vreg_number}
use Rattle.rtl.specs.Effects.{Loc}
use Rattle.rtl.specs.Graphs.{renamed_exit, renamed_node, renamed_graph, ops_at, graph_at, IsSoundlyLabelled}
use Rattle.rtl.specs.Meaning.{ertl}
use Rattle.rtl.specs.Liveness.{LiveAt}
use Rattle.rtl.specs.WellFormed.{exit_nodes, locations_in, functions_in, labels_in, NoneTwice, IsOfLanguage, NamesItsVregs, IsGraph, IsWellFormed}
use Rattle.rtl.specs.Lengths.{total, graph_length, register_need, vreg_length}
use Rattle.rtl.proofs.Colourings.{live_is_of_language}
use Rattle.rtl.proofs.Renamings.{graph_twice}
use Rattle.rtl.proofs.RenamedGraphs.{locations_renamed, functions_kept, labels_kept, flow_kept}
use Rattle.byte_renaming.proofs.Programs.{graph_at_renamed}
use Rattle.byte_renaming.proofs.Formed.{AreRenamed, are_renamed, all_labelled, still_formed}
use Rattle.byte_renaming.proofs.Unchanged.{graph_same}
use Rattle.pruned_graphs.specs.Pruning.{Pruned, nothing, IsPruned, IsPrunedGraph, ArePruned, IsPrunedProgram}
use Rattle.pruned_graphs.specs.Laws.{PruningPreserves, PruningRespectsConvention, PruningForms, PruningKeepsLabelled, PruningKeepsOutline, PruningIsNoLonger, PruningNeedsNoMore, NoneIsDeadAfter, PruningKeepsGraph}
use Rattle.pruned_graphs.proofs.Related.{LivesOnlyErtl}
use Rattle.pruned_graphs.proofs.Preserved.{pruned_preserves}
use Rattle.pruned_graphs.proofs.Convention.{still_respects}
use Rattle.pruned_graphs.proofs.NoneDead.{none_is_dead}
use Rattle.pruned_graphs.proofs.Fewer.{IsLessGraph, pruned_is_less, functions_same, labels_same, graph_less, named_less}
use Rattle.pruned_graphs.proofs.Flow.{still_labelled}
use Rattle.pruned_graphs.proofs.Needs.{count_less}
use Rattle.pruned_graphs.proofs.Formed as Less

-- ---- functions by number

-- the functions of a program
abbrev graphs_by_number : List (Graph Vreg) → ℕ → Graph ℕ
graphs_by_number graphs = graph_at (map (renamed_graph vreg_number) graphs)

abbrev none : List (Graph Vreg)
none = []

-- a function that isn't there has no operations
pruned_outside : IsPruned 0 (graphs_by_number none 0) (graphs_by_number none 0)
pruned_outside = record { entry = refl; nodes = refl; exits = λ p. refl; ops = λ p. by_number p }
  where
    by_number : (p : ℕ) → Pruned 0 (graphs_by_number none 0) p (ops_at (graphs_by_number none 0) p) (ops_at (graphs_by_number none 0) p)
    by_number zero = nothing
    by_number (suc p) = nothing

pruned_each : (gs hs : List (Graph Vreg)) → ArePruned gs hs → (f : ℕ) → IsPruned 0 (graphs_by_number gs f) (graphs_by_number hs f)
pruned_each [] [] all f = pruned_outside
pruned_each [] (h ∷ hs) all f = absurd all
pruned_each (g ∷ gs) [] all f = absurd all
pruned_each (g ∷ gs) (h ∷ hs) all zero = all.0
pruned_each (g ∷ gs) (h ∷ hs) all (suc f) = pruned_each gs hs all.1 f

names_each : (graphs : List (Graph Vreg)) → AllByRecursion (NamesItsVregs 0) graphs → (f : ℕ) → NamesItsVregs 0 (graph_at graphs f)
names_each [] all f = tt
names_each (g ∷ gs) all zero = all.0
names_each (g ∷ gs) all (suc f) = names_each gs all.1 f

only_ertl : (graphs : List (Graph Vreg)) → AllByRecursion (NamesItsVregs 0) graphs → (f : ℕ) → LivesOnlyErtl (graphs_by_number graphs f)
only_ertl graphs all f v p live =
    by_kind (live_is_of_language 0 (graph_at graphs f) v p (ops_at (renamed_graph vreg_number (graph_at graphs f)) p) (names_each graphs all f) ([], refl) (subst (λ g. LiveAt 0 g (Loc v) p) (graph_at_renamed vreg_number graphs f) live))
  where
    by_kind : ((0 ≤ v) × (v < 12)) ⊎ (24 ≤ v) → (v < 12) ⊎ (24 ≤ v)
    by_kind (inl h) = inl h.1
    by_kind (inr h) = inr h

-- ---- graphs over virtual registers

abbrev vreg_of : ℕ → Vreg
vreg_of n = record { 0 = n }

-- a graph is the one over numbers, with its virtual registers again
vregs_again : (g : Graph Vreg) → g ≡ renamed_graph vreg_of (renamed_graph vreg_number g)
vregs_again g = sym (graph_twice vreg_of vreg_number g ∙ graph_same g)

all_again : (gs : List (Graph Vreg)) → AreRenamed (map (renamed_graph vreg_number) gs) gs
all_again [] = tt
all_again (g ∷ gs) = ((vreg_of, vregs_again g), all_again gs)

all_less : (gs hs : List (Graph Vreg)) → ArePruned gs hs → Less.AllLess (map (renamed_graph vreg_number) gs) (map (renamed_graph vreg_number) hs)
all_less [] [] all = tt
all_less [] (h ∷ hs) all = absurd all
all_less (g ∷ gs) [] all = absurd all
all_less (g ∷ gs) (h ∷ hs) all = (pruned_is_less 0 _ _ all.0, all_less gs hs all.1)

-- ---- what is named

abbrev IsErtlNumber : ℕ → Type 0
IsErtlNumber v = ((0 ≤ v) × (v < 0 + 12)) ⊎ (24 ≤ v)

of_number : (v : ℕ) (vs : List Vreg) → AllByRecursion (IsOfLanguage 0) vs → In v (map vreg_number vs) → IsErtlNumber v
of_number v [] all i = absurd i
of_number v (w ∷ vs) all (inl e) = subst IsErtlNumber e all.0
of_number v (w ∷ vs) all (inr i) = of_number v vs all.1 i

all_of_language : (vs : List Vreg) → ((v : ℕ) → In v (map vreg_number vs) → IsErtlNumber v) → AllByRecursion (IsOfLanguage 0) vs
all_of_language [] each = tt
all_of_language (v ∷ vs) each = (each v.0 (inl refl), all_of_language vs (λ w i. each w (inr i)))

-- it names no other virtual registers
named_before : (g h : Graph Vreg) → IsPrunedGraph g h → (v : ℕ) → In v (map vreg_number (locations_in h)) → In v (map vreg_number (locations_in g))
named_before g h pruned v i =
    subst (In v) (locations_renamed vreg_number g)
    (named_less (renamed_graph vreg_number g) (renamed_graph vreg_number h) (pruned_is_less 0 _ _ pruned) v (subst (In v) (sym (locations_renamed vreg_number h)) i))

names_still : (g h : Graph Vreg) → IsPrunedGraph g h → NamesItsVregs 0 g → NamesItsVregs 0 h
names_still g h pruned named = all_of_language (locations_in h) (λ v i. of_number v (locations_in g) named (named_before g h pruned v i))

all_names_still : (gs hs : List (Graph Vreg)) → ArePruned gs hs → AllByRecursion (NamesItsVregs 0) gs → AllByRecursion (NamesItsVregs 0) hs
all_names_still [] [] all named = tt
all_names_still [] (h ∷ hs) all named = absurd all
all_names_still (g ∷ gs) [] all named = absurd all
all_names_still (g ∷ gs) (h ∷ hs) all named = (names_still g h all.0 named.0, all_names_still gs hs all.1 named.1)

needs_less : (g h : Graph Vreg) → IsPrunedGraph g h → register_need h ≤ register_need g
needs_less g h pruned = count_less (map vreg_number (locations_in h)) (map vreg_number (locations_in g)) (named_before g h pruned)

-- ---- programs

abbrev bytes_of : {L : Type 0} → List (Graph L) → List Called → ℕ → List (ℕ × ℕ) → Bytes L
bytes_of graphs calls main start = record { graphs = graphs; calls = calls; main = main; start = start }

-- what holds of a program with the other parts of the one before holds of the one after
with_parts : (before after : Bytes Vreg) (P : Bytes Vreg → Type 0) → IsPrunedProgram before after → P (bytes_of after.graphs before.calls before.main before.start) → P after
with_parts before after P pruned law =
    subst (λ calls. P (bytes_of after.graphs calls after.main after.start)) (sym pruned.calls)
    (subst (λ main. P (bytes_of after.graphs before.calls main after.start)) (sym pruned.main)
    (subst (λ start. P (bytes_of after.graphs before.calls before.main start)) (sym pruned.start) law))

pub preserved : PruningPreserves
preserved before after formed conv pruned =
    with_parts before after (λ p. Preserves (ertl before) (ertl p)) pruned
    (pruned_preserves (graphs_by_number before.graphs) (graphs_by_number after.graphs) conv (only_ertl before.graphs formed.1) (pruned_each before.graphs after.graphs pruned.graphs) before.main before.start)

pub respects : PruningRespectsConvention
respects before after conv pruned = still_respects 0 (graphs_by_number before.graphs) (graphs_by_number after.graphs) conv (pruned_each before.graphs after.graphs pruned.graphs)

pub forms : PruningForms
forms before after formed pruned =
    let ns = map (renamed_graph vreg_number) before.graphs in
    let ms = map (renamed_graph vreg_number) after.graphs in
    let by_number : IsWellFormed (bytes_of ns before.calls before.main before.start) = still_formed before.graphs ns before.calls before.main before.start (are_renamed vreg_number before.graphs) formed.0 in
    let less : IsWellFormed (bytes_of ms before.calls before.main before.start) = Less.less_formed ns ms before.calls before.main before.start (all_less before.graphs after.graphs pruned.graphs) by_number in (
      with_parts before after IsWellFormed pruned (still_formed ms after.graphs before.calls before.main before.start (all_again after.graphs) less),
      all_names_still before.graphs after.graphs pruned.graphs formed.1,
    )

pub labelled : PruningKeepsLabelled
labelled before after sound pruned =
    let ns = map (renamed_graph vreg_number) before.graphs in
    let ms = map (renamed_graph vreg_number) after.graphs in
    all_labelled ms after.graphs (all_again after.graphs)
    (Less.all_labelled ns ms (all_less before.graphs after.graphs pruned.graphs) (all_labelled before.graphs ns (are_renamed vreg_number before.graphs) sound))

-- what graphs have by number
same_labels : (g h : Graph Vreg) → IsPrunedGraph g h → labels_in h ≡ labels_in g
same_labels g h pruned = sym (labels_kept vreg_number h) ∙ labels_same _ _ (pruned_is_less 0 _ _ pruned) ∙ labels_kept vreg_number g

same_functions : (g h : Graph Vreg) → IsPrunedGraph g h → functions_in h ≡ functions_in g
same_functions g h pruned = sym (functions_kept vreg_number h) ∙ functions_same _ _ (pruned_is_less 0 _ _ pruned) ∙ functions_kept vreg_number g

as_many : (gs hs : List (Graph Vreg)) → ArePruned gs hs → length hs ≡ length gs
as_many [] [] all = refl
as_many [] (h ∷ hs) all = absurd all
as_many (g ∷ gs) [] all = absurd all
as_many (g ∷ gs) (h ∷ hs) all = ap suc (as_many gs hs all.1)

-- what each graph has still
each_same : (of : Graph Vreg → List ℕ) → ((g h : Graph Vreg) → IsPrunedGraph g h → of h ≡ of g) → (gs hs : List (Graph Vreg)) → ArePruned gs hs → map of hs ≡ map of gs
each_same of same [] [] all = refl
each_same of same [] (h ∷ hs) all = absurd all
each_same of same (g ∷ gs) [] all = absurd all
each_same of same (g ∷ gs) (h ∷ hs) all = ap₂ (λ x xs. x ∷ xs) (same g h all.0) (each_same of same gs hs all.1)

pub outline : PruningKeepsOutline
outline before after pruned = record {
  functions = as_many before.graphs after.graphs pruned.graphs;
  labels = each_same labels_in same_labels before.graphs after.graphs pruned.graphs;
  called = each_same functions_in same_functions before.graphs after.graphs pruned.graphs;
  calls = pruned.calls;
  main = pruned.main;
  start = pruned.start;
}

lengths_less : (gs hs : List (Graph Vreg)) → ArePruned gs hs → total graph_length (map (renamed_graph vreg_number) hs) ≤ total graph_length (map (renamed_graph vreg_number) gs)
lengths_less [] [] all = omega arith
lengths_less [] (h ∷ hs) all = absurd all
lengths_less (g ∷ gs) [] all = absurd all
lengths_less (g ∷ gs) (h ∷ hs) all =
    let one = graph_less (renamed_graph vreg_number g) (renamed_graph vreg_number h) (pruned_is_less 0 _ _ all.0) in
    let rest = lengths_less gs hs all.1 in
    omega (arith, one, rest)

pub no_longer : PruningIsNoLonger
no_longer before after pruned =
    with_parts before after (λ p. vreg_length p ≤ vreg_length before) pruned (let less = lengths_less before.graphs after.graphs pruned.graphs in omega (arith, less))

needs_each : (gs hs : List (Graph Vreg)) → ArePruned gs hs → (f : ℕ) → register_need (graph_at hs f) ≤ register_need (graph_at gs f)
needs_each [] [] all f = omega arith
needs_each [] (h ∷ hs) all f = absurd all
needs_each (g ∷ gs) [] all f = absurd all
needs_each (g ∷ gs) (h ∷ hs) all zero = needs_less g h all.0
needs_each (g ∷ gs) (h ∷ hs) all (suc f) = needs_each gs hs all.1 f

pub needs_no_more : PruningNeedsNoMore
needs_no_more before after pruned f = needs_each before.graphs after.graphs pruned.graphs f

pub none_dead_after : NoneIsDeadAfter
none_dead_after before after pruned f = none_is_dead 0 (graphs_by_number before.graphs f) (graphs_by_number after.graphs f) (pruned_each before.graphs after.graphs pruned.graphs f)

-- ---- one graph

module _ {L M : Type 0} (f : L → M) where
  exit_nodes_same : (e : Exit L) → exit_nodes (renamed_exit f e) ≡ exit_nodes e
  exit_nodes_same (Next q) = refl
  exit_nodes_same (Test v true_arm false_arm) = refl
  exit_nodes_same (Call g q) = refl
  exit_nodes_same (Label l q) = refl
  exit_nodes_same Return = refl

  exits_too : (P : ℕ → Type 0) (ns : List (Node L)) → AllByRecursion (λ n. AllByRecursion P (exit_nodes n.exit)) ns → AllByRecursion (λ n. AllByRecursion P (exit_nodes n.exit)) (map (renamed_node f) ns)
  exits_too P [] all = tt
  exits_too P (n ∷ ns) all = (subst (AllByRecursion P) (sym (exit_nodes_same n.exit)) all.0, exits_too P ns all.1)

  -- a graph under other names is well formed
  renamed_formed : (g : Graph L) → IsGraph g → IsGraph (renamed_graph f g)
  renamed_formed g formed =
      let count : length g.nodes ≡ length (map (renamed_node f) g.nodes) = sym (length-map g.nodes (renamed_node f)) in
      record {
        nodes = record {
          entry = subst (λ n. g.entry < n) count formed.nodes.entry;
          exits = subst (λ n. AllByRecursion (λ m. AllByRecursion (λ q. q < n) (exit_nodes m.exit)) (map (renamed_node f) g.nodes)) count (exits_too (λ q. q < length g.nodes) g.nodes formed.nodes.exits);
        };
        labels = subst NoneTwice (sym (labels_kept f g)) formed.labels;
      }

pub graph_kept : PruningKeepsGraph
graph_kept g h pruned = record {
  formed = λ formed.
      let one = renamed_formed vreg_number g formed in
      subst IsGraph (sym (vregs_again h)) (renamed_formed vreg_of (renamed_graph vreg_number h) (Less.graph_formed _ _ less one));
  named = names_still g h pruned;
  labelled = λ sound.
      let one : IsSoundlyLabelled (renamed_graph vreg_number g) = subst (λ flow. SoundlyLabelled flow g.entry) (sym (flow_kept vreg_number g)) sound in
      subst (λ flow. SoundlyLabelled flow h.entry) (flow_kept vreg_number h) (still_labelled _ _ less one);
  length = graph_less (renamed_graph vreg_number g) (renamed_graph vreg_number h) less;
  need = needs_less g h pruned;
}
  where
    less : IsLessGraph (renamed_graph vreg_number g) (renamed_graph vreg_number h)
    less = pruned_is_less 0 _ _ pruned
