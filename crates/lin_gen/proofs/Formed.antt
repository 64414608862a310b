-- Linear code of a well formed program of graphs is well formed.
use Rattle.std.proofs.Common.{◌≡◌, ℕ, suc, ◌+◌, ◌<◌, List, [], ◌∷◌, length, refl, sym, ap, ap₂, ◌∙◌, subst}
use Rattle.std.specs.List.{AllByRecursion}
use Rattle.rtl.specs.declared.locations.Place.{Place}
use Rattle.rtl.specs.Programs.{Graph}
use Rattle.rtl.specs.Items.{LinItem}
use Rattle.rtl.specs.WellFormed.{gathered, functions_in, labels_in, item_functions, item_labels, NamesPlaces, IsGraph, IsLin}
use Rattle.lin_gen.specs.Linearised.{AreOrderings, LinearisedIsFormed}
use Rattle.lin_gen.proofs.Numbers.{all_in, all_of, total_append, HaveOneSum, other_way, still_counted}
use Rattle.lin_gen.proofs.Kept.{labels_summed, calls_summed, ordering_is_lin}

lins_are_formed : (gs : List (Graph Place)) (ls : List (List LinItem)) → AreOrderings gs ls → AllByRecursion IsGraph gs → AllByRecursion NamesPlaces gs → AllByRecursion IsLin ls
lins_are_formed [] [] h formed places = tt
lins_are_formed [] (l ∷ ls) h formed places = absurd h
lins_are_formed (g ∷ gs) [] h formed places = absurd h
lins_are_formed (g ∷ gs) (l ∷ ls) h formed places = (ordering_is_lin g l formed.0 places.0 h.1, lins_are_formed gs ls h.2 formed.1 places.1)

as_many : (gs : List (Graph Place)) (ls : List (List LinItem)) → AreOrderings gs ls → length ls ≡ length gs
as_many [] [] h = refl
as_many [] (l ∷ ls) h = absurd h
as_many (g ∷ gs) [] h = absurd h
as_many (g ∷ gs) (l ∷ ls) h = ap suc (as_many gs ls h.2)

labels_are_summed : (gs : List (Graph Place)) (ls : List (List LinItem)) → AreOrderings gs ls → HaveOneSum (gathered labels_in gs) (gathered (λ items. gathered item_labels items) ls)
labels_are_summed [] [] h f = refl
labels_are_summed [] (l ∷ ls) h f = absurd h
labels_are_summed (g ∷ gs) [] h f = absurd h
labels_are_summed (g ∷ gs) (l ∷ ls) h f =
    total_append f (labels_in g) (gathered labels_in gs)
    ∙ ap₂ (λ x y. x + y) (labels_summed g l h.1 f) (labels_are_summed gs ls h.2 f)
    ∙ sym (total_append f (gathered item_labels l) (gathered (λ items. gathered item_labels items) ls))

calls_are_named : (n : ℕ) (gs : List (Graph Place)) (ls : List (List LinItem)) → AreOrderings gs ls → AllByRecursion (λ g. AllByRecursion (λ f. f < n) (functions_in g)) gs → AllByRecursion (λ items. AllByRecursion (λ f. f < n) (gathered item_functions items)) ls
calls_are_named n [] [] h named = tt
calls_are_named n [] (l ∷ ls) h named = absurd h
calls_are_named n (g ∷ gs) [] h named = absurd h
calls_are_named n (g ∷ gs) (l ∷ ls) h named =
    let these = all_of (λ f. f < n) (gathered item_functions l) (λ f i. all_in (λ f. f < n) (functions_in g) named.0 f (other_way (functions_in g) (gathered item_functions l) (calls_summed g l h.1) f i)) in
    (these, calls_are_named n gs ls h.2 named.1)

pub linearised_is_formed : LinearisedIsFormed
linearised_is_formed graphs program formed is =
    let many = as_many graphs.graphs program.lins is.lins in
    record {
      lins = lins_are_formed graphs.graphs program.lins is.lins formed.0.graphs formed.1;
      functions = record {
        main = subst (λ n. program.main < n) (sym many) (subst (λ m. m < length graphs.graphs) (sym is.main) formed.0.functions.main);
        called = subst (λ n. AllByRecursion (λ items. AllByRecursion (λ f. f < n) (gathered item_functions items)) program.lins) (sym many) (calls_are_named (length graphs.graphs) graphs.graphs program.lins is.lins formed.0.functions.called);
      };
      labels = still_counted (gathered labels_in graphs.graphs) (gathered (λ items. gathered item_labels items) program.lins) (labels_are_summed graphs.graphs program.lins is.lins) formed.0.labels;
    }
