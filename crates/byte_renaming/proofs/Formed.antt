-- A program is well formed, and soundly labelled, where its functions are those of such a program under other names.
use Rattle.std.proofs.Common.{◌≡◌, ℕ, suc, ◌<◌, ◌↔◌, List, [], ◌∷◌, ◌++◌, length, map, refl, sym, ap, ap₂, ◌∙◌, subst}
use Rattle.std.proofs.lemmas.List.{length-map}
use Rattle.std.specs.List.{AllByRecursion}
use Rattle.cerco_base.specs.CallOrder.{Called, functions_of}
use Rattle.cerco_traces.specs.LabelledGraphs.{In}
use Rattle.rtl.specs.declared.graphs.Exit.{Exit}
use Rattle.rtl.specs.declared.graphs.Exit.TheVariants.{Next, Test, Call, Label, Return}
use Rattle.rtl.specs.Programs.{Node, Graph}
use Rattle.rtl.specs.Graphs.{renamed_exit, renamed_node, renamed_graph, IsSoundlyLabelled, AreSoundlyLabelled}
use Rattle.rtl.specs.WellFormed.{gathered, exit_nodes, functions_in, labels_in, NoneTwice, AreCounted, IsGraph, callers_of, AreCallersFrom, IsWellFormed}
use Rattle.rtl.proofs.RenamedGraphs.{functions_kept, labels_kept, still_labelled}

-- These functions are those under other names, each one under names of its own.
abbrev pub AreRenamed : {L M : Type 0} → List (Graph L) → List (Graph M) → Type 0
AreRenamed [] [] = Unit {0}
AreRenamed [] (h ∷ hs) = ⊥
AreRenamed (g ∷ gs) [] = ⊥
AreRenamed {L = L} {M = M} (g ∷ gs) (h ∷ hs) = ((f : L → M) × (h ≡ renamed_graph f g)) × AreRenamed gs hs

pub are_renamed : {L M : Type 0} (f : L → M) (gs : List (Graph L)) → AreRenamed gs (map (renamed_graph f) gs)
are_renamed f [] = tt
are_renamed f (g ∷ gs) = ((f, refl), are_renamed f gs)

-- ---- a graph alone

module _ {L M : Type 0} (f : L → M) where
  exit_nodes_kept : (e : Exit L) → exit_nodes (renamed_exit f e) ≡ exit_nodes e
  exit_nodes_kept (Next q) = refl
  exit_nodes_kept (Test a true_arm false_arm) = refl
  exit_nodes_kept (Call g q) = refl
  exit_nodes_kept (Label l q) = refl
  exit_nodes_kept Return = refl

  exits_kept : (P : ℕ → Type 0) (ns : List (Node L)) → AllByRecursion (λ n. AllByRecursion P (exit_nodes n.exit)) ns → AllByRecursion (λ n. AllByRecursion P (exit_nodes n.exit)) (map (renamed_node f) ns)
  exits_kept P [] all = tt
  exits_kept P (n ∷ ns) all = (subst (AllByRecursion P) (sym (exit_nodes_kept n.exit)) all.0, exits_kept P ns all.1)

  graph_formed : (g : Graph L) → IsGraph g → IsGraph (renamed_graph f g)
  graph_formed g formed =
      let count : length g.nodes ≡ length (map (renamed_node f) g.nodes) = sym (length-map g.nodes (renamed_node f)) in
      record {
        nodes = record {
          entry = subst (λ n. g.entry < n) count formed.nodes.entry;
          exits = subst (λ n. AllByRecursion (λ m. AllByRecursion (λ q. q < n) (exit_nodes m.exit)) (map (renamed_node f) g.nodes)) count (exits_kept (λ q. q < length g.nodes) g.nodes formed.nodes.exits);
        };
        labels = subst NoneTwice (sym (labels_kept f g)) formed.labels;
      }

-- ---- all functions of a program

module _ {L M : Type 0} where
  pub counts_same : (gs : List (Graph L)) (hs : List (Graph M)) → AreRenamed gs hs → length hs ≡ length gs
  counts_same [] [] all = refl
  counts_same [] (h ∷ hs) all = absurd all
  counts_same (g ∷ gs) [] all = absurd all
  counts_same (g ∷ gs) (h ∷ hs) all = ap suc (counts_same gs hs all.1)

  functions_same : (g : Graph L) (h : Graph M) → ((f : L → M) × (h ≡ renamed_graph f g)) → functions_in h ≡ functions_in g
  functions_same g h is = ap functions_in is.1 ∙ functions_kept is.0 g

  labels_same : (g : Graph L) (h : Graph M) → ((f : L → M) × (h ≡ renamed_graph f g)) → labels_in h ≡ labels_in g
  labels_same g h is = ap labels_in is.1 ∙ labels_kept is.0 g

  pub each_labels_same : (gs : List (Graph L)) (hs : List (Graph M)) → AreRenamed gs hs → map labels_in hs ≡ map labels_in gs
  each_labels_same [] [] all = refl
  each_labels_same [] (h ∷ hs) all = absurd all
  each_labels_same (g ∷ gs) [] all = absurd all
  each_labels_same (g ∷ gs) (h ∷ hs) all = ap₂ (λ x xs. x ∷ xs) (labels_same g h all.0) (each_labels_same gs hs all.1)

  all_labels_same : (gs : List (Graph L)) (hs : List (Graph M)) → AreRenamed gs hs → gathered labels_in hs ≡ gathered labels_in gs
  all_labels_same [] [] all = refl
  all_labels_same [] (h ∷ hs) all = absurd all
  all_labels_same (g ∷ gs) [] all = absurd all
  all_labels_same (g ∷ gs) (h ∷ hs) all = ap₂ (λ xs ys. xs ++ ys) (labels_same g h all.0) (all_labels_same gs hs all.1)

  graphs_formed : (gs : List (Graph L)) (hs : List (Graph M)) → AreRenamed gs hs → AllByRecursion IsGraph gs → AllByRecursion IsGraph hs
  graphs_formed [] [] all formed = tt
  graphs_formed [] (h ∷ hs) all formed = absurd all
  graphs_formed (g ∷ gs) [] all formed = absurd all
  graphs_formed (g ∷ gs) (h ∷ hs) all formed = (subst IsGraph (sym all.0.1) (graph_formed all.0.0 g formed.0), graphs_formed gs hs all.1 formed.1)

  pub functions_so : (P : ℕ → Type 0) (gs : List (Graph L)) (hs : List (Graph M)) → AreRenamed gs hs → AllByRecursion (λ g. AllByRecursion P (functions_in g)) gs → AllByRecursion (λ h. AllByRecursion P (functions_in h)) hs
  functions_so P [] [] all so = tt
  functions_so P [] (h ∷ hs) all so = absurd all
  functions_so P (g ∷ gs) [] all so = absurd all
  functions_so P (g ∷ gs) (h ∷ hs) all so = (subst (AllByRecursion P) (sym (functions_same g h all.0)) so.0, functions_so P gs hs all.1 so.1)

  pub callers_so : (calls : List Called) (k : ℕ) (gs : List (Graph L)) (hs : List (Graph M)) → AreRenamed gs hs → AreCallersFrom calls k gs → AreCallersFrom calls k hs
  callers_so calls k [] [] all so = tt
  callers_so calls k [] (h ∷ hs) all so = absurd all
  callers_so calls k (g ∷ gs) [] all so = absurd all
  callers_so calls k (g ∷ gs) (h ∷ hs) all so =
      (subst (AllByRecursion (λ called. In k (callers_of calls called))) (sym (functions_same g h all.0)) so.0, callers_so calls (suc k) gs hs all.1 so.1)

  pub all_labelled : (gs : List (Graph L)) (hs : List (Graph M)) → AreRenamed gs hs → AreSoundlyLabelled gs → AreSoundlyLabelled hs
  all_labelled [] [] all sound = tt
  all_labelled [] (h ∷ hs) all sound = absurd all
  all_labelled (g ∷ gs) [] all sound = absurd all
  all_labelled (g ∷ gs) (h ∷ hs) all sound = (subst IsSoundlyLabelled (sym all.0.1) (still_labelled all.0.0 g sound.0), all_labelled gs hs all.1 sound.1)

  -- with the same calls and the same `main`
  pub still_formed : (gs : List (Graph L)) (hs : List (Graph M)) (calls : List Called) (main : ℕ) (start : List (ℕ × ℕ)) → AreRenamed gs hs → IsWellFormed (record { graphs = gs; calls = calls; main = main; start = start }) → IsWellFormed (record { graphs = hs; calls = calls; main = main; start = start })
  still_formed gs hs calls main start all formed =
      let count : length gs ≡ length hs = sym (counts_same gs hs all) in
      record {
        graphs = graphs_formed gs hs all formed.graphs;
        functions = record {
          main = subst (λ n. main < n) count formed.functions.main;
          called = subst (λ n. AllByRecursion (λ h. AllByRecursion (λ f. f < n) (functions_in h)) hs) count (functions_so (λ f. f < length gs) gs hs all formed.functions.called);
        };
        order = λ f. subst (λ n. In f (functions_of calls) ↔ (f < n)) count (formed.order f);
        calls = callers_so calls 0 gs hs all formed.calls;
        labels = subst AreCounted (sym (all_labels_same gs hs all)) formed.labels;
      }
