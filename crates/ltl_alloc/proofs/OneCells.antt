-- The plainest allocation is a proper colouring, exact, and needs no more cells than there are virtual registers of a call's own.
use Rattle.std.proofs.Common.{◌≡◌, ◌≢◌, ℕ, zero, suc, ◌+◌, ◌-◌, ◌<◌, ◌≤◌, ◌⊎◌, inl, inr, List, [], ◌∷◌, map, Bool, true, false, nat_eq, nat_lt, nat_le, ◌||◌, if◌then◌else◌, Some, None, refl, sym, ap, ap₂, ◌∙◌, subst, arith, eq-eqb, eqb-true, lt-ltb, le-ltb}
use Rattle.std.specs.Prelude.{IsSome, is_some}
use Rattle.std.specs.List.{AllByRecursion}
use Rattle.cerco_traces.specs.LabelledGraphs.{In}
use Rattle.rtl.specs.declared.locations.Vreg.{Vreg}
use Rattle.rtl.specs.declared.locations.Place.{Place}
use Rattle.rtl.specs.Programs.{Graph}
use Rattle.rtl.specs.Locations.{vreg_number, argument_place}
use Rattle.rtl.specs.Graphs.{renamed_graph, ops_at}
use Rattle.rtl.specs.Interference.{Interfere, both_live, live_where_written, written_where_live, both_written, IsCell}
use Rattle.rtl.specs.Lengths.{stands_in, own_count, register_need}
use Rattle.rtl.specs.WellFormed.{locations_in, IsOfLanguage, NamesItsVregs}
use Rattle.rtl.proofs.Points.{next_point, live_is_named, written_is_named}
use Rattle.rtl.proofs.RenamedGraphs.{locations_renamed}
use Rattle.ltl_alloc.specs.declared.allocation.Allocation.{Allocation}
use Rattle.ltl_alloc.specs.declared.allocation.Spot.{Spot}
use Rattle.ltl_alloc.specs.declared.allocation.Spot.TheVariants.{Reg, Arg, Cell}
use Rattle.ltl_alloc.specs.Allocations.{spot_of, place_or_any, place_in, IsExact}
use Rattle.ltl_alloc.specs.Allocated.{Serves, PlacesAll}
use Rattle.ltl_alloc.specs.OneCell.{spot_of_argument, cell_of_one, cells_below, spot_for, one_cell}
use Rattle.ltl_alloc.proofs.Marks.{cells_above, last_cell, no_cell_below}

-- ---- lists of numbers

pub in_stands : (v : ℕ) (ns : List ℕ) → In v ns → stands_in v ns ≡ true
in_stands v [] i = absurd i
in_stands v (n ∷ ns) (inl e) = ap (λ b. b || stands_in v ns) (eq-eqb n v e)
in_stands v (n ∷ ns) (inr i) = ap (λ b. nat_eq n v || b) (in_stands v ns i) ∙ or_true (nat_eq n v)
  where
    or_true : (b : Bool) → b || true ≡ true
    or_true true = refl
    or_true false = refl

-- ---- interference

both_named : (g : Graph ℕ) (v w : ℕ) → Interfere g v w → In v (locations_in g) × In w (locations_in g)
both_named g v w (both_live p ops point live live') = (live_is_named 0 g v p ops point live, live_is_named 0 g w p ops point live')
both_named g v w (live_where_written p op ops point live i) = (live_is_named 0 g v p ops (next_point g p op ops point) live, written_is_named g p op ops w point i)
both_named g v w (written_where_live p op ops point i live) = (written_is_named g p op ops v point i, live_is_named 0 g w p ops (next_point g p op ops point) live)
both_named g v w (both_written p op ops point i j) = (written_is_named g p op ops v point i, written_is_named g p op ops w point j)

-- ---- spots as places

low_or_high : (v : ℕ) → (v < 12) ⊎ (12 ≤ v)
low_or_high v = grind arith

argument_kept : (v : ℕ) → place_or_any v (Some (spot_of_argument v)) ≡ argument_place v
argument_kept v = by_test (nat_lt v 6)
  where
    by_test : (b : Bool) → place_or_any v (Some (if b then Reg (v + 2) else Arg (v - 6))) ≡ (if b then Place.Reg (v + 2) else Place.Arg (v - 6))
    by_test true = refl
    by_test false = refl

six : (v : ℕ) → (v < 6) ⊎ (6 ≤ v)
six v = grind arith

register_place : (v : ℕ) → v < 6 → argument_place v ≡ Place.Reg (v + 2)
register_place v low = rw (lt-ltb v 6 low)

memory_place : (v : ℕ) → 6 ≤ v → argument_place v ≡ Place.Arg (v - 6)
memory_place v high = rw (le-ltb v 6 high)

same_register : (m n : ℕ) → Place.Reg m ≡ Place.Reg n → m ≡ n
same_register m n e = cc

same_memory : (m n : ℕ) → Place.Arg m ≡ Place.Arg n → m ≡ n
same_memory m n e = cc

same_cell : (m n : ℕ) → Place.Cell m ≡ Place.Cell n → m ≡ n
same_cell m n e = cc

not_both : (m n : ℕ) → Place.Reg m ≡ Place.Arg n → ⊥
not_both m n e = cc

-- different argument places are different
arguments_apart : (v w : ℕ) → argument_place v ≡ argument_place w → v ≡ w
arguments_apart v w e = by_kind (six v) (six w)
  where
    by_kind : (v < 6) ⊎ (6 ≤ v) → (w < 6) ⊎ (6 ≤ w) → v ≡ w
    by_kind (inl h) (inl i) = let f = same_register (v + 2) (w + 2) (sym (register_place v h) ∙ e ∙ register_place w i) in omega (arith, f)
    by_kind (inl h) (inr i) = absurd (not_both (v + 2) (w - 6) (sym (register_place v h) ∙ e ∙ memory_place w i))
    by_kind (inr h) (inl i) = absurd (not_both (w + 2) (v - 6) (sym (register_place w i) ∙ sym e ∙ memory_place v h))
    by_kind (inr h) (inr i) = let f = same_memory (v - 6) (w - 6) (sym (memory_place v h) ∙ e ∙ memory_place w i) in omega (arith, f, h, i)

-- and none is a cell
argument_no_cell : (v n : ℕ) → argument_place v ≡ Place.Cell n → ⊥
argument_no_cell v n e = by_kind (six v)
  where
    no_register : (m : ℕ) → Place.Reg m ≡ Place.Cell n → ⊥
    no_register m f = cc

    no_memory : (m : ℕ) → Place.Arg m ≡ Place.Cell n → ⊥
    no_memory m f = cc

    by_kind : (v < 6) ⊎ (6 ≤ v) → ⊥
    by_kind (inl h) = no_register (v + 2) (sym (register_place v h) ∙ e)
    by_kind (inr h) = no_memory (v - 6) (sym (memory_place v h) ∙ e)

-- ---- the allocation

module _ (graph : Graph Vreg) (a : Allocation) (count : ℕ) where
  abbrev names : List ℕ
  names = map vreg_number (locations_in graph)

  abbrev named : ℕ → Bool
  named v = stands_in v names

  module _ (spots : (v : ℕ) → spot_of a v ≡ one_cell named v) (cells : a.cells ≡ cells_below named count) (beyond : (v : ℕ) → count ≤ v → named v ≡ false) where
    true_or_false : (b : Bool) → (b ≡ true) ⊎ (b ≡ false)
    true_or_false true = inl refl
    true_or_false false = inr refl

    not_named : (v : ℕ) → named v ≡ false → spot_of a v ≡ None
    not_named v out = spots v ∙ ap (λ b. spot_for b v (cells_below named v)) out

    argument_spot : (v : ℕ) → named v ≡ true → v < 12 → spot_of a v ≡ Some (spot_of_argument v)
    argument_spot v is low = spots v ∙ ap (λ b. spot_for b v (cells_below named v)) is ∙ ap (λ t. Some (if t then spot_of_argument v else Cell (cells_below named v))) (lt-ltb v 12 low)

    cell_spot : (v : ℕ) → named v ≡ true → 12 ≤ v → spot_of a v ≡ Some (Cell (cells_below named v))
    cell_spot v is high = spots v ∙ ap (λ b. spot_for b v (cells_below named v)) is ∙ ap (λ t. Some (if t then spot_of_argument v else Cell (cells_below named v))) (le-ltb v 12 high)

    argument_is : (v : ℕ) → v < 12 → place_in a v ≡ argument_place v
    argument_is v low = by_test (true_or_false (named v))
      where
        by_test : (named v ≡ true) ⊎ (named v ≡ false) → place_in a v ≡ argument_place v
        by_test (inl is) = ap (place_or_any v) (argument_spot v is low) ∙ argument_kept v
        by_test (inr out) = ap (place_or_any v) (not_named v out) ∙ ap (λ t. if t then argument_place v else Place.Reg 2) (lt-ltb v 12 low)

    cell_is : (v : ℕ) → named v ≡ true → 12 ≤ v → place_in a v ≡ Place.Cell (cells_below named v)
    cell_is v is high = ap (place_or_any v) (cell_spot v is high)

    abbrev numbered_graph : Graph ℕ
    numbered_graph = renamed_graph vreg_number graph

    known : (v : ℕ) → In v (locations_in numbered_graph) → named v ≡ true
    known v i = in_stands v names (subst (In v) (locations_renamed vreg_number graph) i)

    cells_differ : (v w : ℕ) → (v ≡ w → ⊥) → named v ≡ true → named w ≡ true → 12 ≤ v → 12 ≤ w → cells_below named v ≡ cells_below named w → ⊥
    cells_differ v w differ is is' high high' e = by_order (two v w)
      where
        two : (v w : ℕ) → (v < w) ⊎ ((w < v) ⊎ (v ≡ w))
        two v w = grind arith

        by_order : (v < w) ⊎ ((w < v) ⊎ (v ≡ w)) → ⊥
        by_order (inl lt) = let less = cells_above named v w lt high is in omega (arith, less, e)
        by_order (inr (inl lt)) = let less = cells_above named w v lt high' is' in omega (arith, less, e)
        by_order (inr (inr same)) = differ same

    places_differ : (v w : ℕ) → v ≢ w → Interfere numbered_graph v w → place_in a v ≢ place_in a w
    places_differ v w differ both e = by_kind (low_or_high v) (low_or_high w)
      where
        is : named v ≡ true
        is = known v (both_named numbered_graph v w both).0

        is' : named w ≡ true
        is' = known w (both_named numbered_graph v w both).1

        by_kind : (v < 12) ⊎ (12 ≤ v) → (w < 12) ⊎ (12 ≤ w) → ⊥
        by_kind (inl h) (inl i) = differ (arguments_apart v w (sym (argument_is v h) ∙ e ∙ argument_is w i))
        by_kind (inl h) (inr i) = argument_no_cell v (cells_below named w) (sym (argument_is v h) ∙ e ∙ cell_is w is' i)
        by_kind (inr h) (inl i) = argument_no_cell w (cells_below named v) (sym (argument_is w i) ∙ sym e ∙ cell_is v is h)
        by_kind (inr h) (inr i) = cells_differ v w differ is is' h i (same_cell (cells_below named v) (cells_below named w) (sym (cell_is v is h) ∙ e ∙ cell_is w is' i))

    same_spot : (m n : ℕ) → Some (Cell m) ≡ Some (Cell n) → m ≡ n
    same_spot m n e = cc

    no_spot : (s : Spot) → None ≡ Some s → ⊥
    no_spot s e = cc

    some_once : (s t : Spot) → Some s ≡ Some t → s ≡ t
    some_once s t e = cc

    register_spot : (v : ℕ) → v < 6 → spot_of_argument v ≡ Reg (v + 2)
    register_spot v low = rw (lt-ltb v 6 low)

    memory_spot : (v : ℕ) → 6 ≤ v → spot_of_argument v ≡ Arg (v - 6)
    memory_spot v high = rw (le-ltb v 6 high)

    -- what a spot tells of its virtual register
    abbrev Kinds : ℕ → Spot → Type 0
    Kinds v s = ((v < 6) × (s ≡ Reg (v + 2))) ⊎ (((6 ≤ v) × (v < 12) × (s ≡ Arg (v - 6))) ⊎ ((12 ≤ v) × (named v ≡ true) × (s ≡ Cell (cells_below named v))))

    kinds : (v : ℕ) (s : Spot) → spot_of a v ≡ Some s → Kinds v s
    kinds v s e = by_test (true_or_false (named v))
      where
        by_six : named v ≡ true → v < 12 → (v < 6) ⊎ (6 ≤ v) → Kinds v s
        by_six is low (inl h) = inl (h, some_once s (Reg (v + 2)) (sym e ∙ argument_spot v is low ∙ ap Some (register_spot v h)))
        by_six is low (inr h) = inr (inl (h, low, some_once s (Arg (v - 6)) (sym e ∙ argument_spot v is low ∙ ap Some (memory_spot v h))))

        by_twelve : named v ≡ true → (v < 12) ⊎ (12 ≤ v) → Kinds v s
        by_twelve is (inl low) = by_six is low (six v)
        by_twelve is (inr high) = inr (inr (high, is, some_once s (Cell (cells_below named v)) (sym e ∙ cell_spot v is high)))

        by_test : (named v ≡ true) ⊎ (named v ≡ false) → Kinds v s
        by_test (inl is) = by_twelve is (low_or_high v)
        by_test (inr out) = absurd (no_spot s (sym (not_named v out) ∙ e))

    below_count : (v : ℕ) → named v ≡ true → v < count
    below_count v is = by_place (low_or_past v count)
      where
        low_or_past : (v k : ℕ) → (v < k) ⊎ (k ≤ v)
        low_or_past v k = grind arith

        conflict : (b : Bool) → b ≡ true → b ≡ false → ⊥
        conflict b e f = cc

        by_place : (v < count) ⊎ (count ≤ v) → v < count
        by_place (inl lt) = lt
        by_place (inr past) = absurd (conflict (named v) is (beyond v past))

    pub cells_counted : (v n : ℕ) → spot_of a v ≡ Some (Cell n) → n < a.cells
    cells_counted v n e = by_kind (kinds v (Cell n) e)
      where
        no_register : (m : ℕ) → Cell n ≡ Reg m → ⊥
        no_register m f = cc

        no_memory : (m : ℕ) → Cell n ≡ Arg m → ⊥
        no_memory m f = cc

        number : (m : ℕ) → Cell n ≡ Cell m → n ≡ m
        number m f = cc

        by_kind : Kinds v (Cell n) → n < a.cells
        by_kind (inl h) = absurd (no_register (v + 2) h.1)
        by_kind (inr (inl h)) = absurd (no_memory (v - 6) h.2)
        by_kind (inr (inr h)) =
            let less = cells_above named v count (below_count v h.1) h.0 h.1 in
            let same = number (cells_below named v) h.2 in
            omega (arith, less, same, cells)

    pub serves : Serves graph a
    serves = record {
      proper = record {
        arguments = argument_is;
        differ = places_differ;
        across = λ v own live.
            let is = known v (live_is_named 0 numbered_graph v live.2 (ops_at numbered_graph live.2) ([], refl) live.4) in
            subst IsCell (sym (cell_is v is own)) tt;
      };
      cells = cells_counted;
    }

    pub places_all : PlacesAll graph a
    places_all v i = by_twelve (low_or_high v)
      where
        is : named v ≡ true
        is = in_stands v names i

        by_twelve : (v < 12) ⊎ (12 ≤ v) → IsSome (spot_of a v)
        by_twelve (inl low) = ap is_some (argument_spot v is low)
        by_twelve (inr high) = ap is_some (cell_spot v is high)

    pub exact : IsExact a
    exact = record {
      registers = λ v n e. registers v n (kinds v (Reg n) e);
      arguments = λ v n e. memory v n (kinds v (Arg n) e);
      cells = cells_counted;
      last = λ n e.
          let there = last_cell named count n (sym cells ∙ e) in
          (there.0, cell_spot there.0 there.1 there.2 ∙ ap (λ m. Some (Cell m)) there.3);
    }
      where
        registers : (v n : ℕ) → Kinds v (Reg n) → (2 ≤ n) × (n ≤ 7)
        registers v n (inl h) =
            let f : n ≡ v + 2 = number (v + 2) h.1 in
            let low = h.0 in
            (omega (arith, f), omega (arith, f, low))
          where
            number : (m : ℕ) → Reg n ≡ Reg m → n ≡ m
            number m f = cc
        registers v n (inr (inl h)) = absurd (none (v - 6) h.2)
          where
            none : (m : ℕ) → Reg n ≡ Arg m → ⊥
            none m f = cc
        registers v n (inr (inr h)) = absurd (none (cells_below named v) h.2)
          where
            none : (m : ℕ) → Reg n ≡ Cell m → ⊥
            none m f = cc

        memory : (v n : ℕ) → Kinds v (Arg n) → n < 6
        memory v n (inl h) = absurd (none (v + 2) h.1)
          where
            none : (m : ℕ) → Arg n ≡ Reg m → ⊥
            none m f = cc
        memory v n (inr (inl h)) =
            let f : n ≡ v - 6 = number (v - 6) h.2 in
            let low = h.1 in
            omega (arith, f, low)
          where
            number : (m : ℕ) → Arg n ≡ Arg m → n ≡ m
            number m f = cc
        memory v n (inr (inr h)) = absurd (none (cells_below named v) h.2)
          where
            none : (m : ℕ) → Arg n ≡ Cell m → ⊥
            none m f = cc

-- ---- the register need

own_or_not : (v : ℕ) → (v < 24) ⊎ (24 ≤ v)
own_or_not v = grind arith

-- one more number stands in the list, and perhaps it has a cell
abbrev stands : List ℕ → ℕ → Bool
stands ns v = stands_in v ns

abbrev none_if : Bool → ℕ
none_if b = if b then 0 else 1

other : (n v : ℕ) → (n ≡ v → ⊥) → nat_eq n v ≡ false
other n v differ = grind (arith, differ)

-- numbers that stand there already add no cell
known_adds : (n : ℕ) (ns : List ℕ) (k : ℕ) → stands_in n ns ≡ true → cells_below (stands (n ∷ ns)) k ≡ cells_below (stands ns) k
known_adds n ns zero is = refl
known_adds n ns (suc k) is = ap₂ (λ x y. x + y) (known_adds n ns k is) (ap (λ b. cell_of_one b k) same)
  where
    by_test : (b : Bool) → nat_eq n k ≡ b → b || stands_in k ns ≡ stands_in k ns
    by_test true e = sym (ap (λ m. stands_in m ns) (sym (eqb-true n k e)) ∙ is)
    by_test false e = refl

    same : nat_eq n k || stands_in k ns ≡ stands_in k ns
    same = by_test (nat_eq n k) refl

-- nor does a number below 12
low_adds : (n : ℕ) (ns : List ℕ) (k : ℕ) → n < 12 → cells_below (stands (n ∷ ns)) k ≡ cells_below (stands ns) k
low_adds n ns zero low = refl
low_adds n ns (suc k) low = ap₂ (λ x y. x + y) (low_adds n ns k low) (by_kind (low_or_high k))
  where
    by_kind : (k < 12) ⊎ (12 ≤ k) → cell_of_one (nat_eq n k || stands_in k ns) k ≡ cell_of_one (stands_in k ns) k
    by_kind (inl h) = no_cell_below (nat_eq n k || stands_in k ns) k h ∙ sym (no_cell_below (stands_in k ns) k h)
    by_kind (inr h) = ap (λ b. cell_of_one (b || stands_in k ns) k) (other n k (λ e. omega (arith, e, low, h)))

-- any other adds one at most
one_adds : (n : ℕ) (ns : List ℕ) (k : ℕ) → cells_below (stands (n ∷ ns)) k ≤ cells_below (stands ns) k + none_if (nat_le k n)
one_adds n ns zero = omega arith
one_adds n ns (suc k) = by_order (two k n) (one_adds n ns k)
  where
    two : (k n : ℕ) → (k < n) ⊎ ((k ≡ n) ⊎ (n < k))
    two k n = grind arith

    not_above : (k n : ℕ) → k ≤ n → none_if (nat_le k n) ≡ 0
    not_above k n le = rw (le_true k n le)
      where
        le_true : (k n : ℕ) → k ≤ n → nat_le k n ≡ true
        le_true k n le = grind arith

    above : (k n : ℕ) → n < k → none_if (nat_le k n) ≡ 1
    above k n lt = rw (le_false k n lt)
      where
        le_false : (k n : ℕ) → n < k → nat_le k n ≡ false
        le_false k n lt = grind arith

    at_most_one : (b : Bool) → cell_of_one b k ≤ 1
    at_most_one true = small (nat_le 12 k)
      where
        small : (b : Bool) → (if b then 1 else 0) ≤ 1
        small true = omega arith
        small false = omega arith
    at_most_one false = omega arith

    same : (k ≡ n → ⊥) → cell_of_one (nat_eq n k || stands_in k ns) k ≡ cell_of_one (stands_in k ns) k
    same differ = ap (λ b. cell_of_one (b || stands_in k ns) k) (other n k (λ e. differ (sym e)))

    by_order : (k < n) ⊎ ((k ≡ n) ⊎ (n < k)) → cells_below (stands (n ∷ ns)) k ≤ cells_below (stands ns) k + none_if (nat_le k n) → cells_below (stands (n ∷ ns)) k + cell_of_one (nat_eq n k || stands_in k ns) k ≤ (cells_below (stands ns) k + cell_of_one (stands_in k ns) k) + none_if (nat_le (suc k) n)
    by_order (inl lt) before =
        let e = same (λ f. omega (arith, f, lt)) in
        let z = not_above k n (omega (arith, lt)) in
        omega (arith, before, e, z)
    by_order (inr (inl f)) before =
        let z = not_above k n (omega (arith, f)) in
        let o = above (suc k) n (omega (arith, f)) in
        let m = at_most_one (nat_eq n k || stands_in k ns) in
        omega (arith, before, z, o, m)
    by_order (inr (inr lt)) before =
        let e = same (λ f. omega (arith, f, lt)) in
        let o = above k n lt in
        let o' = above (suc k) n (omega (arith, lt)) in
        omega (arith, before, e, o, o')

abbrev IsErtlNumber : ℕ → Type 0
IsErtlNumber v = (v < 12) ⊎ (24 ≤ v)

pub cells_needed : (ns : List ℕ) (k : ℕ) → AllByRecursion IsErtlNumber ns → cells_below (stands ns) k ≤ own_count ns
cells_needed [] k all = none k
  where
    none : (k : ℕ) → cells_below (stands []) k ≤ 0
    none zero = omega arith
    none (suc k) = let e = none k in omega (arith, e)
cells_needed (n ∷ ns) k all = by_kind all.0 (stands_in n ns) refl (cells_needed ns k all.1)
  where
    at_most_one : (b : Bool) → none_if b ≤ 1
    at_most_one true = omega arith
    at_most_one false = omega arith

    by_kind : IsErtlNumber n → (b : Bool) → stands_in n ns ≡ b → cells_below (stands ns) k ≤ own_count ns → cells_below (stands (n ∷ ns)) k ≤ none_if (nat_lt n 24 || stands_in n ns) + own_count ns
    by_kind (inl low) b is before = let e = low_adds n ns k low in omega (arith, e, before)
    by_kind (inr own) true is before = let e = known_adds n ns k is in omega (arith, e, before)
    by_kind (inr own) false is before =
        let e = one_adds n ns k in
        let m = at_most_one (nat_le k n) in
        let o : none_if (nat_lt n 24 || stands_in n ns) ≡ 1 = rw (le-ltb n 24 own) (rw is) in
        omega (arith, e, m, o, before)

of_language : (vs : List Vreg) → AllByRecursion (IsOfLanguage 0) vs → AllByRecursion IsErtlNumber (map vreg_number vs)
of_language [] all = tt
of_language (v ∷ vs) all = (by_kind all.0, of_language vs all.1)
  where
    by_kind : IsOfLanguage 0 v → IsErtlNumber v.0
    by_kind (inl h) = inl h.1
    by_kind (inr h) = inr h

pub need_met : (graph : Graph Vreg) (k : ℕ) → NamesItsVregs 0 graph → cells_below (λ v. stands_in v (map vreg_number (locations_in graph))) k ≤ register_need graph
need_met graph k names = cells_needed (map vreg_number (locations_in graph)) k (of_language (locations_in graph) names)
