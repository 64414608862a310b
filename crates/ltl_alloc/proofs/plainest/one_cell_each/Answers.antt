use Rattle.std.proofs.Common.{◌≡◌, ℕ, ◌≤◌, length, map, false, sym, ap, ◌∙◌, arith}
use Rattle.std.specs.Prelude.{IfOk}
use Rattle.std.proofs.lemmas.List.{get_or_past}
use Rattle.rtl.specs.Locations.{vreg_number}
use Rattle.rtl.specs.Lengths.{stands_in, register_need}
use Rattle.rtl.specs.WellFormed.{locations_in, NamesItsVregs}
use Rattle.rtl.specs.Code.Views.{graph_of}
use Rattle.byte_renaming.proofs.Programs.{same_function}
use Rattle.ltl_alloc.specs.declared.allocation.Allocation.{Allocation}
use Rattle.ltl_alloc.specs.Allocations.{spot_of, IsExact}
use Rattle.ltl_alloc.specs.Allocated.{Serves, PlacesAll}
use Rattle.ltl_alloc.specs.OneCell.{cells_below, one_cell}
use Rattle.ltl_alloc.specs.Code.Spots.{is_marked}
use Rattle.ltl_alloc.proofs.Lists.{if_both}
use Rattle.ltl_alloc.proofs.OneCells as law
use Rattle.ltl_alloc.proofs.plainest.one_cell_each.Goals as goal

-- the marks are those of what the graph names
marked : (c : goal.After-drop-list-2) → is_marked c.in_ok-marks.marks.items ≡ (λ v. stands_in v (map vreg_number (locations_in (graph_of c.args.graph.now))))
marked c =
    same_function (is_marked c.in_ok-marks.marks.items) (λ v. stands_in v (map vreg_number (locations_in (graph_of c.args.graph.now))))
    (λ v. c.in_ok-marks.ensures.marks v ∙ ap (λ list. stands_in v (map vreg_number list)) (c.deref.ensures.value ∙ c.in_ok-list.ensures))

beyond : (c : goal.After-drop-list-2) (v : ℕ) → length c.in_ok-marks.marks.items ≤ v → stands_in v (map vreg_number (locations_in (graph_of c.args.graph.now))) ≡ false
beyond c v past = sym (ap (λ f. f v) (marked c)) ∙ get_or_past c.in_ok-marks.marks.items v false past

-- a law of the allocation from what is known of its spots and its cells
holds :
    (c : goal.After-drop-list-2) (P : Allocation → Type 0)
    → ((a : Allocation) → ((v : ℕ) → spot_of a v ≡ one_cell (λ w. stands_in w (map vreg_number (locations_in (graph_of c.args.graph.now)))) v) → a.cells ≡ cells_below (λ w. stands_in w (map vreg_number (locations_in (graph_of c.args.graph.now)))) (length c.in_ok-marks.marks.items) → P a)
    → IfOk c.spots_of.result P
holds c P law = if_both _ _ P c.spots_of.result known c.spots_of.ensures.spots c.spots_of.ensures.cells
  where
    known : (a : Allocation) → ((v : ℕ) → spot_of a v ≡ one_cell (is_marked c.deref-2.result.now) v) → a.cells ≡ cells_below (is_marked c.deref-2.result.now) (length c.deref-2.result.now) → P a
    known a spots cells =
        law a (λ v. spots v ∙ ap (λ marks. one_cell (is_marked marks) v) c.deref-2.ensures.value ∙ ap (λ f. one_cell f v) (marked c))
        (cells ∙ ap (λ marks. cells_below (is_marked marks) (length marks)) c.deref-2.ensures.value ∙ ap (λ f. cells_below f (length c.in_ok-marks.marks.items)) (marked c))

pub returns-clause-serves : goal.returns-clause-serves
returns-clause-serves c = holds c (Serves (graph_of c.args.graph.now)) (λ a spots cells. law.serves (graph_of c.args.graph.now) a (length c.in_ok-marks.marks.items) spots cells (beyond c))

pub returns-clause-places : goal.returns-clause-places
returns-clause-places c = holds c (PlacesAll (graph_of c.args.graph.now)) (λ a spots cells. law.places_all (graph_of c.args.graph.now) a (length c.in_ok-marks.marks.items) spots cells (beyond c))

pub returns-clause-exact : goal.returns-clause-exact
returns-clause-exact c = holds c IsExact (λ a spots cells. law.exact (graph_of c.args.graph.now) a (length c.in_ok-marks.marks.items) spots cells (beyond c))

pub returns-clause-need : goal.returns-clause-need
returns-clause-need c =
    holds c (λ a. NamesItsVregs 0 (graph_of c.args.graph.now) → a.cells ≤ register_need (graph_of c.args.graph.now))
    (λ a spots cells names. let need = law.need_met (graph_of c.args.graph.now) (length c.in_ok-marks.marks.items) names in omega (arith, need, cells))
