-- A program whose graphs have some of the operations of others, with the same exits, is well formed and soundly labelled where that of
-- the others is.
use Rattle.std.proofs.Common.{◌≡◌, ℕ, suc, ◌<◌, ◌↔◌, List, [], ◌∷◌, ◌++◌, length, map, refl, sym, ap, ap₂, subst}
use Rattle.std.specs.List.{AllByRecursion}
use Rattle.cerco_base.specs.CallOrder.{Called, functions_of}
use Rattle.cerco_traces.specs.LabelledGraphs.{In}
use Rattle.rtl.specs.Programs.{Graph}
use Rattle.rtl.specs.Graphs.{AreSoundlyLabelled}
use Rattle.rtl.specs.WellFormed.{gathered, exit_nodes, functions_in, labels_in, NoneTwice, AreCounted, IsGraph, callers_of, AreCallersFrom, IsWellFormed}
use Rattle.pruned_graphs.proofs.Fewer.{IsLessGraph, count_same, functions_same, labels_same, exits_so}
use Rattle.pruned_graphs.proofs.Flow.{still_labelled}

pub graph_formed : (g h : Graph ℕ) → IsLessGraph g h → IsGraph g → IsGraph h
graph_formed g h less formed =
    let count : length g.nodes ≡ length h.nodes = sym (count_same g.nodes h.nodes less.nodes) in
    record {
      nodes = record {
        entry = subst (λ n. h.entry < n) count (subst (λ e. e < length g.nodes) (sym less.entry) formed.nodes.entry);
        exits = subst (λ n. AllByRecursion (λ m. AllByRecursion (λ q. q < n) (exit_nodes m.exit)) h.nodes) count (exits_so (λ q. q < length g.nodes) g.nodes h.nodes less.nodes formed.nodes.exits);
      };
      labels = subst NoneTwice (sym (labels_same g h less)) formed.labels;
    }

-- ---- all functions of a program

abbrev pub AllLess : List (Graph ℕ) → List (Graph ℕ) → Type 0
AllLess [] [] = Unit {0}
AllLess [] (h ∷ hs) = ⊥
AllLess (g ∷ gs) [] = ⊥
AllLess (g ∷ gs) (h ∷ hs) = IsLessGraph g h × AllLess gs hs

pub counts_same : (gs hs : List (Graph ℕ)) → AllLess gs hs → length hs ≡ length gs
counts_same [] [] all = refl
counts_same [] (h ∷ hs) all = absurd all
counts_same (g ∷ gs) [] all = absurd all
counts_same (g ∷ gs) (h ∷ hs) all = ap suc (counts_same gs hs all.1)

pub each_labels_same : (gs hs : List (Graph ℕ)) → AllLess gs hs → map labels_in hs ≡ map labels_in gs
each_labels_same [] [] all = refl
each_labels_same [] (h ∷ hs) all = absurd all
each_labels_same (g ∷ gs) [] all = absurd all
each_labels_same (g ∷ gs) (h ∷ hs) all = ap₂ (λ x xs. x ∷ xs) (labels_same g h all.0) (each_labels_same gs hs all.1)

pub each_functions_same : (gs hs : List (Graph ℕ)) → AllLess gs hs → map functions_in hs ≡ map functions_in gs
each_functions_same [] [] all = refl
each_functions_same [] (h ∷ hs) all = absurd all
each_functions_same (g ∷ gs) [] all = absurd all
each_functions_same (g ∷ gs) (h ∷ hs) all = ap₂ (λ x xs. x ∷ xs) (functions_same g h all.0) (each_functions_same gs hs all.1)

all_labels_same : (gs hs : List (Graph ℕ)) → AllLess gs hs → gathered labels_in hs ≡ gathered labels_in gs
all_labels_same [] [] all = refl
all_labels_same [] (h ∷ hs) all = absurd all
all_labels_same (g ∷ gs) [] all = absurd all
all_labels_same (g ∷ gs) (h ∷ hs) all = ap₂ (λ xs ys. xs ++ ys) (labels_same g h all.0) (all_labels_same gs hs all.1)

graphs_formed : (gs hs : List (Graph ℕ)) → AllLess gs hs → AllByRecursion IsGraph gs → AllByRecursion IsGraph hs
graphs_formed [] [] all formed = tt
graphs_formed [] (h ∷ hs) all formed = absurd all
graphs_formed (g ∷ gs) [] all formed = absurd all
graphs_formed (g ∷ gs) (h ∷ hs) all formed = (graph_formed g h all.0 formed.0, graphs_formed gs hs all.1 formed.1)

functions_so : (P : ℕ → Type 0) (gs hs : List (Graph ℕ)) → AllLess gs hs → AllByRecursion (λ g. AllByRecursion P (functions_in g)) gs → AllByRecursion (λ h. AllByRecursion P (functions_in h)) hs
functions_so P [] [] all so = tt
functions_so P [] (h ∷ hs) all so = absurd all
functions_so P (g ∷ gs) [] all so = absurd all
functions_so P (g ∷ gs) (h ∷ hs) all so = (subst (AllByRecursion P) (sym (functions_same g h all.0)) so.0, functions_so P gs hs all.1 so.1)

callers_so : (calls : List Called) (k : ℕ) (gs hs : List (Graph ℕ)) → AllLess gs hs → AreCallersFrom calls k gs → AreCallersFrom calls k hs
callers_so calls k [] [] all so = tt
callers_so calls k [] (h ∷ hs) all so = absurd all
callers_so calls k (g ∷ gs) [] all so = absurd all
callers_so calls k (g ∷ gs) (h ∷ hs) all so =
    (subst (AllByRecursion (λ called. In k (callers_of calls called))) (sym (functions_same g h all.0)) so.0, callers_so calls (suc k) gs hs all.1 so.1)

pub all_labelled : (gs hs : List (Graph ℕ)) → AllLess gs hs → AreSoundlyLabelled gs → AreSoundlyLabelled hs
all_labelled [] [] all sound = tt
all_labelled [] (h ∷ hs) all sound = absurd all
all_labelled (g ∷ gs) [] all sound = absurd all
all_labelled (g ∷ gs) (h ∷ hs) all sound = (still_labelled g h all.0 sound.0, all_labelled gs hs all.1 sound.1)

-- with the same calls and the same `main`
pub less_formed :
    (gs hs : List (Graph ℕ)) (calls : List Called) (main : ℕ) (start : List (ℕ × ℕ)) → AllLess gs hs
    → IsWellFormed (record { graphs = gs; calls = calls; main = main; start = start }) → IsWellFormed (record { graphs = hs; calls = calls; main = main; start = start })
less_formed gs hs calls main start all formed =
    let count : length gs ≡ length hs = sym (counts_same gs hs all) in
    record {
      graphs = graphs_formed gs hs all formed.graphs;
      functions = record {
        main = subst (λ n. main < n) count formed.functions.main;
        called = subst (λ n. AllByRecursion (λ h. AllByRecursion (λ f. f < n) (functions_in h)) hs) count (functions_so (λ f. f < length gs) gs hs all formed.functions.called);
      };
      order = λ f. subst (λ n. In f (functions_of calls) ↔ (f < n)) count (formed.order f);
      calls = callers_so calls 0 gs hs all formed.calls;
      labels = subst AreCounted (sym (all_labels_same gs hs all)) formed.labels;
    }
