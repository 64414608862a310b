-- Orderings of the functions of a program, one after the other.
use Rattle.std.proofs.Common.{◌≡◌, ℕ, zero, suc, ◌+◌, ◌<◌, List, [], ◌∷◌, ◌++◌, length, map, take, get_or, sym, ap, ◌∙◌, subst, arith, add-one}
use Rattle.std.proofs.Math.Seq.{take-suc}
use Rattle.std.proofs.lemmas.List.{map-append}
use Rattle.std.specs.List.{AllByRecursion}
use Rattle.rtl.specs.declared.graphs.Graph.{Graph as WrittenGraph}
use Rattle.rtl.specs.declared.linear.LinItem.{LinItem as WrittenItem}
use Rattle.rtl.specs.declared.locations.Place.{Place}
use Rattle.rtl.specs.Code.Views.{graph_of, item_of}
use Rattle.rtl.specs.Programs.{Graph}
use Rattle.rtl.specs.Items.{LinItem}
use Rattle.rtl.specs.Graphs.{AreSoundlyLabelled}
use Rattle.rtl.specs.WellFormed.{NamesNodes, NamesPlaces, IsGraph}
use Rattle.lin_gen.specs.Ordering.{IsOrdering}
use Rattle.lin_gen.specs.Linearised.{IsReady, AreReady, AreOrderings}

-- each of these graphs
pub ready_at : (gs : List (WrittenGraph Place)) (k : ℕ) (g : WrittenGraph Place) → AreReady (map graph_of gs) → k < length gs → g ≡ get_or gs k g → IsReady (graph_of g)
ready_at [] k g h lt is = absurd (no lt)
  where
    no : k < 0 → ⊥
    no lt = omega arith
ready_at (x ∷ xs) zero g h lt is = subst (λ z. IsReady (graph_of z)) (sym is) h.0
ready_at (x ∷ xs) (suc k) g h lt is = ready_at xs k g h.1 (omega arith) is

orderings_more : (gs : List (Graph Place)) (ls : List (List LinItem)) (g : Graph Place) (l : List LinItem) → AreOrderings gs ls → NamesNodes g → IsOrdering g l → AreOrderings (gs ++ g ∷ []) (ls ++ l ∷ [])
orderings_more [] [] g l h named o = (named, o, tt)
orderings_more [] (y ∷ ls) g l h named o = absurd h
orderings_more (x ∷ gs) [] g l h named o = absurd h
orderings_more (x ∷ gs) (y ∷ ls) g l h named o = (h.0, h.1, orderings_more gs ls g l h.2 named o)

pub orderings_on : (gs : List (WrittenGraph Place)) (k : ℕ) (g : WrittenGraph Place) (lins lins' : List (List WrittenItem)) (l : List WrittenItem) → AreReady (map graph_of gs) → k < length gs → g ≡ get_or gs k g → AreOrderings (map graph_of (take k gs)) (map (map item_of) lins) → IsOrdering (graph_of g) (map item_of l) → lins' ≡ lins ++ l ∷ [] → AreOrderings (map graph_of (take (k + 1) gs)) (map (map item_of) lins')
orderings_on gs k g lins lins' l ready lt is before o pushed =
    let one : take (k + 1) gs ≡ take k gs ++ g ∷ [] = ap (λ n. take n gs) (add-one k) ∙ take-suc gs k g lt ∙ ap (λ z. take k gs ++ z ∷ []) (sym is) in
    let e = ap (map graph_of) one ∙ map-append graph_of (take k gs) (g ∷ []) in
    let f = ap (map (map item_of)) pushed ∙ map-append (map item_of) lins (l ∷ []) in
    subst (λ z. AreOrderings z (map (map item_of) lins')) (sym e) (subst (λ z. AreOrderings (map graph_of (take k gs) ++ graph_of g ∷ []) z) (sym f)
    (orderings_more (map graph_of (take k gs)) (map (map item_of) lins) (graph_of g) (map item_of l) before (ready_at gs k g ready lt is).1.0.nodes o))

pub all_ready : (gs : List (Graph Place)) → AreSoundlyLabelled gs → AllByRecursion IsGraph gs → AllByRecursion NamesPlaces gs → AreReady gs
all_ready [] sound formed places = tt
all_ready (g ∷ gs) sound formed places = ((sound.0, (formed.0, places.0)), all_ready gs sound.1 formed.1 places.1)
