-- What holds of a program that is renamed function by function.
use Rattle.std.proofs.Common.{◌≡◌, ℕ, zero, suc, ◌+◌, ◌-◌, ◌<◌, ◌≤◌, ◌⊎◌, inl, inr, List, [], ◌∷◌, length, map, Option, Some, None, slice_get, Bool, true, false, nat_lt, if◌then◌else◌, refl, sym, ap, ◌∙◌, subst, arith, lt-ltb}
use Rattle.std.specs.Prelude.{slice_index, IsSome, is_some}
use Rattle.std.specs.List.{AllByRecursion}
use Rattle.std.proofs.lemmas.List.{length-map}
use Rattle.cerco_traces.specs.LabelledGraphs.{In}
use Rattle.cerco_traces.specs.Preservation.{Preserves}
use Rattle.rtl.specs.declared.locations.Vreg.{Vreg}
use Rattle.rtl.specs.declared.locations.Place.{Place}
use Rattle.rtl.specs.Programs.{Graph, Bytes}
use Rattle.rtl.specs.Locations.{vreg_number, place_number, argument_place}
use Rattle.rtl.specs.Effects.{Loc}
use Rattle.rtl.specs.Graphs.{renamed_graph, ops_at, graph_at}
use Rattle.rtl.specs.Meaning.{ertl, graph_system, shares_all}
use Rattle.rtl.specs.Liveness.{LiveAt}
use Rattle.rtl.specs.WellFormed.{locations_in, NamesItsVregs, IsPlace, NamesPlaces, callers_of, IsErtl}
use Rattle.rtl.specs.Interference.{Interfere, both_live, live_where_written, written_where_live, both_written, IsProperColouring}
use Rattle.rtl.specs.Lengths.{total, graph_length}
use Rattle.rtl.proofs.Points.{next_point, live_is_named, written_is_named}
use Rattle.rtl.proofs.Colourings.{live_is_of_language}
use Rattle.rtl.proofs.RenamedGraphs.{locations_renamed}
use Rattle.byte_renaming.proofs.Programs.{same_function, graph_at_renamed, numbered_renamed}
use Rattle.byte_renaming.proofs.Formed.{AreRenamed, are_renamed, counts_same, each_labels_same, callers_so, functions_so, all_labelled, still_formed}
use Rattle.byte_renaming.proofs.Lengths.{graph_less}
use Rattle.ltl_alloc.specs.declared.allocation.Allocation.{Allocation}
use Rattle.ltl_alloc.specs.declared.allocation.Spot.{Spot}
use Rattle.ltl_alloc.specs.declared.allocation.Spot.TheVariants.{Reg, Arg, Cell}
use Rattle.ltl_alloc.specs.declared.frames.Bases.{Bases}
use Rattle.ltl_alloc.specs.Allocations.{spot_of, any_place, place_or_any, place_in, IsExact}
use Rattle.ltl_alloc.specs.Allocated.{Serves, PlacesAll, EachHas, sizes_of}
use Rattle.ltl_alloc.specs.Frames.{first_of, AreBases}
use Rattle.ltl_alloc.specs.Translation.{at_base, placed, EachFits, renamed_graphs, ltl_of}
use Rattle.cerco_base.specs.CallOrder.{Called}
use Rattle.ltl_alloc.specs.Renamed.{RenamingPreserves, RenamingForms, RenamingKeeps}
use Rattle.ltl_alloc.proofs.Related.{placed_graphs, AreFramed, LivesOnlyErtl}
use Rattle.ltl_alloc.proofs.Preserved.{placing_preserves}
use Rattle.ltl_alloc.proofs.Framing.{before_largest, called_after, callers_call, caller_known, called_known, no_call_outside}

-- ---- allocations by function

-- no virtual registers
abbrev no_allocation : Allocation
no_allocation = record { spots = []; cells = 0 }

abbrev allocation_or : Option Allocation → Allocation
allocation_or None = no_allocation
allocation_or (Some a) = a

abbrev allocation_at : List Allocation → ℕ → Allocation
allocation_at allocations f = allocation_or (slice_get allocations f)

-- the place of each virtual register of each function, its cells counted from 0
abbrev places_of : List Allocation → ℕ → ℕ → Place
places_of allocations f = place_in (allocation_at allocations f)

-- the functions of a program
abbrev graphs_by_number : List (Graph Vreg) → ℕ → Graph ℕ
graphs_by_number graphs = graph_at (map (renamed_graph vreg_number) graphs)

abbrev none : List (Graph Vreg)
none = []

-- ---- a function that isn't there

nothing_named : (v w : ℕ) → Interfere (graphs_by_number none 0) v w → ⊥
nothing_named v w (both_live p ops point live live') = live_is_named 0 (graphs_by_number none 0) v p ops point live
nothing_named v w (live_where_written p op ops point live i) = live_is_named 0 (graphs_by_number none 0) v p ops (next_point (graphs_by_number none 0) p op ops point) live
nothing_named v w (written_where_live p op ops point i live) = written_is_named (graphs_by_number none 0) p op ops v point i
nothing_named v w (both_written p op ops point i j) = written_is_named (graphs_by_number none 0) p op ops v point i

any_argument : (v : ℕ) → v < 12 → any_place v ≡ argument_place v
any_argument v low = rw (lt-ltb v 12 low)

proper_outside : IsProperColouring (graphs_by_number none 0) (place_in no_allocation)
proper_outside = record {
  arguments = any_argument;
  differ = λ v w differ both e. nothing_named v w both;
  across = λ v own live. absurd (no_call_outside live.0 live.1 live.2 live.3);
}

-- ---- what is asked of each function

proper_each : (graphs : List (Graph Vreg)) (allocations : List Allocation) → EachHas Serves graphs allocations → (f : ℕ) → IsProperColouring (graphs_by_number graphs f) (places_of allocations f)
proper_each [] [] all f = proper_outside
proper_each [] (a ∷ more) all f = absurd all
proper_each (g ∷ gs) [] all f = absurd all
proper_each (g ∷ gs) (a ∷ more) all zero = all.0.proper
proper_each (g ∷ gs) (a ∷ more) all (suc f) = proper_each gs more all.1 f

no_cell_outside : (v n : ℕ) → any_place v ≡ Place.Cell n → ⊥
no_cell_outside v n e = by_test (nat_lt v 12) (nat_lt v 6) e
  where
    by_test : (t u : Bool) → (if t then (if u then Place.Reg (v + 2) else Place.Arg (v - 6)) else Place.Reg 2) ≡ Place.Cell n → ⊥
    by_test true true e = cc
    by_test true false e = cc
    by_test false true e = cc
    by_test false false e = cc

-- the number of cells bounds the cells
cell_counted : (a : Allocation) → ((v n : ℕ) → spot_of a v ≡ Some (Cell n) → n < a.cells) → (v n : ℕ) → place_in a v ≡ Place.Cell n → n < a.cells
cell_counted a counted v n e = by_spot (spot_of a v) refl e
  where
    same_cell : (m n : ℕ) → Place.Cell m ≡ Place.Cell n → m ≡ n
    same_cell m n f = cc

    no_register : (m : ℕ) → Place.Reg m ≡ Place.Cell n → ⊥
    no_register m f = cc

    no_memory : (m : ℕ) → Place.Arg m ≡ Place.Cell n → ⊥
    no_memory m f = cc

    by_spot : (spot : Option Spot) → spot_of a v ≡ spot → place_or_any v spot ≡ Place.Cell n → n < a.cells
    by_spot None is f = absurd (no_cell_outside v n f)
    by_spot (Some (Reg m)) is f = absurd (no_register m f)
    by_spot (Some (Arg m)) is f = absurd (no_memory m f)
    by_spot (Some (Cell m)) is f = let same = same_cell m n f in let lt = counted v m is in omega (arith, same, lt)

cells_each : (graphs : List (Graph Vreg)) (allocations : List Allocation) → EachHas Serves graphs allocations → (f v n : ℕ) → places_of allocations f v ≡ Place.Cell n → n < slice_index (sizes_of allocations) f
cells_each [] [] all f v n e = absurd (no_cell_outside v n e)
cells_each [] (a ∷ more) all f v n e = absurd all
cells_each (g ∷ gs) [] all f v n e = absurd all
cells_each (g ∷ gs) (a ∷ more) all zero v n e = cell_counted a all.0.cells v n e
cells_each (g ∷ gs) (a ∷ more) all (suc f) v n e = cells_each gs more all.1 f v n e

names_each : (graphs : List (Graph Vreg)) → AllByRecursion (NamesItsVregs 0) graphs → (f : ℕ) → NamesItsVregs 0 (graph_at graphs f)
names_each [] all f = tt
names_each (g ∷ gs) all zero = all.0
names_each (g ∷ gs) all (suc f) = names_each gs all.1 f

pub as_many : (P : Graph Vreg → Allocation → Type 0) (graphs : List (Graph Vreg)) (allocations : List Allocation) → EachHas P graphs allocations → length allocations ≡ length graphs
as_many P [] [] all = refl
as_many P [] (a ∷ more) all = absurd all
as_many P (g ∷ gs) [] all = absurd all
as_many P (g ∷ gs) (a ∷ more) all = ap suc (as_many P gs more all.1)

only_ertl : (graphs : List (Graph Vreg)) → AllByRecursion (NamesItsVregs 0) graphs → (f : ℕ) → LivesOnlyErtl (graphs_by_number graphs f)
only_ertl graphs all f v p live =
    by_kind (live_is_of_language 0 (graph_at graphs f) v p (ops_at (renamed_graph vreg_number (graph_at graphs f)) p) (names_each graphs all f) ([], refl) (subst (λ g. LiveAt 0 g (Loc v) p) (graph_at_renamed vreg_number graphs f) live))
  where
    by_kind : ((0 ≤ v) × (v < 12)) ⊎ (24 ≤ v) → (v < 12) ⊎ (24 ≤ v)
    by_kind (inl h) = inl h.1
    by_kind (inr h) = inr h

-- ---- frames

framed : (program : Bytes Vreg) (allocations : List Allocation) (bases : Bases) → IsErtl program → EachHas Serves program.graphs allocations → AreBases program.calls (sizes_of allocations) bases
    → AreFramed (graphs_by_number program.graphs) (places_of allocations) (first_of bases) (slice_index (sizes_of allocations))
framed program allocations bases formed each are = record {
  cells = cells_each program.graphs allocations each;
  stacked = λ f g p q e.
      let hs = map (renamed_graph vreg_number) program.graphs in
      let all = are_renamed vreg_number program.graphs in
      let caller = caller_known program.calls 0 hs f p g q (callers_so program.calls 0 program.graphs hs all formed.0.calls) e in
      let called = called_known (length program.graphs) hs f p g q (functions_so (λ k. k < length program.graphs) program.graphs hs all formed.0.functions.called) e in
      let count : length (sizes_of allocations) ≡ length program.graphs = length-map allocations (λ (a : Allocation). a.cells) ∙ as_many Serves program.graphs allocations each in
      let count' : length (map (renamed_graph vreg_number) program.graphs) ≡ length program.graphs = length-map program.graphs (renamed_graph vreg_number) in
      let lt = caller.0 in
      let known : f < length (sizes_of allocations) = omega (arith, lt, count, count') in
      let known' : g < length (sizes_of allocations) = omega (arith, called, count) in
      let same : 0 + f ≡ f = omega arith in
      called_after program.calls (sizes_of allocations) bases are f g known known' (callers_call program.calls f g (subst (λ n. In n (callers_of program.calls g)) same caller.1));
}

-- ---- the renamed program by function

renamed_at : (graphs : List (Graph Vreg)) (allocations : List Allocation) (firsts : List ℕ) → length allocations ≡ length graphs → length firsts ≡ length graphs → (f : ℕ) → graph_at (map (renamed_graph place_number) (renamed_graphs graphs allocations firsts)) f ≡ renamed_graph (λ v. place_number (at_base (slice_index firsts f) (places_of allocations f v))) (graphs_by_number graphs f)
renamed_at [] allocations firsts n m f = refl
renamed_at (g ∷ gs) [] firsts n m f = absurd (omega (arith, n))
renamed_at (g ∷ gs) (a ∷ more) [] n m f = absurd (omega (arith, m))
renamed_at (g ∷ gs) (a ∷ more) (b ∷ firsts) n m zero = numbered_renamed vreg_number place_number (placed a b) (λ v. place_number (at_base b (place_in a v))) (λ v. refl) g
renamed_at (g ∷ gs) (a ∷ more) (b ∷ firsts) n m (suc f) = renamed_at gs more firsts (omega (arith, n)) (omega (arith, m)) f

pub preserved : RenamingPreserves
preserved program allocations bases formed conv each are =
    let count = as_many Serves program.graphs allocations each in
    let firsts : length bases.firsts ≡ length program.graphs = are.functions ∙ length-map allocations (λ (a : Allocation). a.cells) ∙ count in
    let same : graph_at (map (renamed_graph place_number) (renamed_graphs program.graphs allocations bases.firsts)) ≡ placed_graphs (graphs_by_number program.graphs) (places_of allocations) (first_of bases) =
    same_function _ _ (renamed_at program.graphs allocations bases.firsts count firsts) in
    subst (λ gs. Preserves (ertl program) (graph_system shares_all gs program.main program.start)) (sym same)
    (placing_preserves (graphs_by_number program.graphs) (places_of allocations) (first_of bases) (slice_index (sizes_of allocations)) (proper_each program.graphs allocations each) conv
    (framed program allocations bases formed each are) (only_ertl program.graphs formed.1) program.main program.start)

-- ---- what stays

renamed_each : (graphs : List (Graph Vreg)) (allocations : List Allocation) (firsts : List ℕ) → length allocations ≡ length graphs → length firsts ≡ length graphs → AreRenamed graphs (renamed_graphs graphs allocations firsts)
renamed_each [] allocations firsts n m = tt
renamed_each (g ∷ gs) [] firsts n m = absurd (omega (arith, n))
renamed_each (g ∷ gs) (a ∷ more) [] n m = absurd (omega (arith, m))
renamed_each (g ∷ gs) (a ∷ more) (b ∷ firsts) n m = ((placed a b, refl), renamed_each gs more firsts (omega (arith, n)) (omega (arith, m)))

graphs_less : (graphs : List (Graph Vreg)) (allocations : List Allocation) (firsts : List ℕ) → total graph_length (map (renamed_graph place_number) (renamed_graphs graphs allocations firsts)) ≤ total graph_length (map (renamed_graph vreg_number) graphs)
graphs_less [] allocations firsts = omega arith
graphs_less (g ∷ gs) [] firsts = omega arith
graphs_less (g ∷ gs) (a ∷ more) [] = omega arith
graphs_less (g ∷ gs) (a ∷ more) (b ∷ firsts) =
    let place : ℕ → ℕ = λ v. place_number (at_base b (place_in a v)) in
    let one : graph_length (renamed_graph place_number (renamed_graph (placed a b) g)) ≤ graph_length (renamed_graph vreg_number g) =
    subst (λ h. graph_length h ≤ graph_length (renamed_graph vreg_number g)) (sym (numbered_renamed vreg_number place_number (placed a b) (λ v. place_number (at_base b (place_in a v))) (λ v. refl) g))
    (graph_less (λ v. place_number (at_base b (place_in a v))) (renamed_graph vreg_number g)) in
    let rest = graphs_less gs more firsts in
    omega (arith, one, rest)

pub kept : RenamingKeeps
kept program allocations firsts n m =
    let all = renamed_each program.graphs allocations firsts n m in (
      record {
        functions = counts_same program.graphs (renamed_graphs program.graphs allocations firsts) all;
        labels = each_labels_same program.graphs (renamed_graphs program.graphs allocations firsts) all;
        calls = refl;
        main = refl;
        start = refl;
      },
      all_labelled program.graphs (renamed_graphs program.graphs allocations firsts) all,
      let less = graphs_less program.graphs allocations firsts in omega (arith, less),
    )

-- ---- the places exist

abbrev no_spot_given : Option Spot
no_spot_given = None

module _ (a : Allocation) (base : ℕ) (exact : IsExact a) (fits : base + a.cells ≤ 112) where
  is_place : (v : ℕ) (spot : Spot) → spot_of a v ≡ Some spot → IsPlace (at_base base (place_or_any v (Some spot)))
  is_place v (Reg n) e = exact.registers v n e
  is_place v (Arg n) e = exact.arguments v n e
  is_place v (Cell n) e = let lt = exact.cells v n e in omega (arith, lt, fits)

  placed_exists : (v : Vreg) → IsSome (spot_of a v.0) → IsPlace (placed a base v)
  placed_exists v some = by_spot (spot_of a v.0) refl some
    where
      no_spot : is_some no_spot_given ≡ true → ⊥
      no_spot e = cc

      by_spot : (spot : Option Spot) → spot_of a v.0 ≡ spot → IsSome spot → IsPlace (at_base base (place_or_any v.0 spot))
      by_spot None is s = absurd (no_spot s)
      by_spot (Some spot) is s = is_place v.0 spot is

  all_exist : (vs : List Vreg) → ((v : ℕ) → In v (map vreg_number vs) → IsSome (spot_of a v)) → AllByRecursion IsPlace (map (placed a base) vs)
  all_exist [] some = tt
  all_exist (v ∷ vs) some = (placed_exists v (some v.0 (inl refl)), all_exist vs (λ w i. some w (inr i)))

  graph_places : (graph : Graph Vreg) → PlacesAll graph a → NamesPlaces (renamed_graph (placed a base) graph)
  graph_places graph some = subst (AllByRecursion IsPlace) (sym (locations_renamed (placed a base) graph)) (all_exist (locations_in graph) some)

-- each frame ends below 112
abbrev EndsBelow : List Allocation → List ℕ → Type 0
EndsBelow allocations firsts = (f : ℕ) → f < length allocations → slice_index firsts f + slice_index (sizes_of allocations) f ≤ 112

graphs_place : (graphs : List (Graph Vreg)) (allocations : List Allocation) (firsts : List ℕ) → EachHas PlacesAll graphs allocations → EachHas (λ graph a. IsExact a) graphs allocations → EndsBelow allocations firsts → AllByRecursion NamesPlaces (renamed_graphs graphs allocations firsts)
graphs_place [] allocations firsts some exact ends = tt
graphs_place (g ∷ gs) [] firsts some exact ends = absurd some
graphs_place (g ∷ gs) (a ∷ more) [] some exact ends = tt
graphs_place (g ∷ gs) (a ∷ more) (b ∷ firsts) some exact ends =
    (graph_places a b exact.0 (ends 0 (omega arith)) g some.0, graphs_place gs more firsts some.1 exact.1 (λ f lt. ends (suc f) (omega (arith, lt))))

pub places_exist : RenamingForms
places_exist program allocations bases formed some exact are few =
    let count = as_many PlacesAll program.graphs allocations some in
    let sizes : length (sizes_of allocations) ≡ length allocations = length-map allocations (λ (a : Allocation). a.cells) in
    let firsts : length bases.firsts ≡ length program.graphs = are.functions ∙ sizes ∙ count in (
      still_formed program.graphs (renamed_graphs program.graphs allocations bases.firsts) program.calls program.main program.start (renamed_each program.graphs allocations bases.firsts count firsts) formed.0,
      graphs_place program.graphs allocations bases.firsts some exact
          (λ f lt.
          let known : f < length (sizes_of allocations) = omega (arith, lt, sizes) in
          let end = before_largest (length (sizes_of allocations)) program.calls (sizes_of allocations) f (first_of bases f) bases.need (are.firsts f known) are.need in
          omega (arith, end, few)),
    )

-- ---- a program that is made of parts

cells_of : (graphs : List (Graph Vreg)) (allocations : List Allocation) → EachHas Serves graphs allocations → (f : ℕ) (a : Allocation) → slice_get allocations f ≡ Some a → ((v n : ℕ) → spot_of a v ≡ Some (Cell n) → n < a.cells) × (slice_index (sizes_of allocations) f ≡ a.cells) × (f < length allocations)
cells_of graphs [] all f a at = absurd (none_there at)
  where
    none_there : None ≡ Some a → ⊥
    none_there e = cc
cells_of [] (b ∷ more) all f a at = absurd all
cells_of (g ∷ gs) (b ∷ more) all zero a at = (subst (λ z. (v n : ℕ) → spot_of z v ≡ Some (Cell n) → n < z.cells) same all.0.cells, ap (λ (z : Allocation). z.cells) same, omega arith)
  where
    same : b ≡ a
    same = cc
cells_of (g ∷ gs) (b ∷ more) all (suc f) a at =
    let later = cells_of gs more all.1 f a at in
    let lt = later.2 in
    (later.0, later.1, omega (arith, lt))

pub fits_each : (calls : List Called) (graphs : List (Graph Vreg)) (allocations : List Allocation) (bases : Bases) → EachHas Serves graphs allocations → AreBases calls (sizes_of allocations) bases → bases.need ≤ 112 → EachFits allocations bases.firsts
fits_each calls graphs allocations bases each are few f a at v n e =
    let cells = cells_of graphs allocations each f a at in
    let size = cells.1 in
    let lt = cells.2 in
    let count : length (sizes_of allocations) ≡ length allocations = length-map allocations (λ (z : Allocation). z.cells) in
    let known : f < length (sizes_of allocations) = omega (arith, lt, count) in
    let end = before_largest (length (sizes_of allocations)) calls (sizes_of allocations) f (first_of bases f) bases.need (are.firsts f known) are.need in
    let low = cells.0 v n e in
    omega (arith, end, few, low, size)

abbrev bytes_of : List (Graph Place) → List Called → ℕ → List (ℕ × ℕ) → Bytes Place
bytes_of graphs calls main start = record { graphs = graphs; calls = calls; main = main; start = start }

-- what holds of the translation holds of a program of its parts
pub made :
    (program : Bytes Vreg) (allocations : List Allocation) (firsts : List ℕ) (P : Bytes Place → Type 0) (graphs : List (Graph Place)) (calls : List Called) (start : List (ℕ × ℕ))
    → graphs ≡ renamed_graphs program.graphs allocations firsts → calls ≡ program.calls → start ≡ program.start → P (ltl_of program allocations firsts) → P (bytes_of graphs calls program.main start)
made program allocations firsts P graphs calls start g c s law =
    subst (λ gs. P (bytes_of gs calls program.main start)) (sym g)
    (subst (λ cs. P (bytes_of (renamed_graphs program.graphs allocations firsts) cs program.main start)) (sym c)
    (subst (λ bs. P (bytes_of (renamed_graphs program.graphs allocations firsts) program.calls program.main bs)) (sym s) law))
