-- The colours of the greedy pass over the rows of a graph are a greedy colouring of it.
use Rattle.std.proofs.Common.{◌≡◌, ◌≢◌, ℕ, suc, ◌+◌, ◌-◌, ◌<◌, ◌≤◌, ◌⊎◌, ◌↔◌, inl, inr, List, [], length, Bool, true, if◌then◌else◌, refl, sym, ap, ◌∙◌, subst, arith, lt-ltb, le-ltb}
use Rattle.cerco_traces.specs.LabelledGraphs.{In}
use Rattle.rtl.specs.declared.locations.Place.{Place}
use Rattle.rtl.specs.declared.locations.Place.TheVariants.{Reg, Arg, Cell}
use Rattle.rtl.specs.Programs.{Graph}
use Rattle.rtl.specs.Locations.{argument_place}
use Rattle.rtl.specs.Interference.{Interfere, both_live, live_where_written, written_where_live, both_written, IsLiveAcross, IsCell, IsRegister, HoldsAllRegisters, IsGreedyColouring}
use Rattle.rtl.specs.Graphs.{ops_at}
use Rattle.rtl.specs.WellFormed.{locations_in}
use Rattle.rtl.proofs.Points.{next_point, live_is_named, written_is_named}
use Rattle.colouring.specs.Colours.{place_of_colour, colour_at, place_by, CellsAreCounted}
use Rattle.colouring.specs.Code.Rows.{Holds, AreGiven}
use Rattle.colouring.specs.Code.Neighbours.{AreRowsOf}

-- ---- interference

pub mirrored : (g : Graph ℕ) (v w : ℕ) → Interfere g v w → Interfere g w v
mirrored g v w (both_live p ops point l m) = both_live p ops point m l
mirrored g v w (live_where_written p op ops point l i) = written_where_live p op ops point i l
mirrored g v w (written_where_live p op ops point i l) = live_where_written p op ops point l i
mirrored g v w (both_written p op ops point i j) = both_written p op ops point j i

pub first_named : (g : Graph ℕ) (v w : ℕ) → Interfere g v w → In v (locations_in g)
first_named g v w (both_live p ops point l m) = live_is_named 0 g v p ops point l
first_named g v w (live_where_written p op ops point l i) = live_is_named 0 g v p ops (next_point g p op ops point) l
first_named g v w (written_where_live p op ops point i l) = written_is_named g p op ops v point i
first_named g v w (both_written p op ops point i j) = written_is_named g p op ops v point i

-- ---- colours as places

three : (c : ℕ) → (c < 6) ⊎ (((6 ≤ c) × (c < 12)) ⊎ (12 ≤ c))
three c = grind arith

register_of : (c : ℕ) → c < 6 → place_of_colour c ≡ Reg (c + 2)
register_of c low =
    let twelve : c < 12 = omega (arith, low) in
    ap (λ t. if t then argument_place c else Cell (c - 12)) (lt-ltb c 12 twelve) ∙ ap (λ t. if t then Reg (c + 2) else Arg (c - 6)) (lt-ltb c 6 low)

memory_of : (c : ℕ) → 6 ≤ c → c < 12 → place_of_colour c ≡ Arg (c - 6)
memory_of c high low = ap (λ t. if t then argument_place c else Cell (c - 12)) (lt-ltb c 12 low) ∙ ap (λ t. if t then Reg (c + 2) else Arg (c - 6)) (le-ltb c 6 high)

cell_of : (c : ℕ) → 12 ≤ c → place_of_colour c ≡ Cell (c - 12)
cell_of c high = ap (λ t. if t then argument_place c else Cell (c - 12)) (le-ltb c 12 high)

argument_of : (c : ℕ) → c < 12 → place_of_colour c ≡ argument_place c
argument_of c low = ap (λ t. if t then argument_place c else Cell (c - 12)) (lt-ltb c 12 low)

-- the colour of a place
abbrev colour_of : Place → ℕ
colour_of (Reg n) = n - 2
colour_of (Arg n) = n + 6
colour_of (Cell n) = n + 12

colour_back : (c : ℕ) → colour_of (place_of_colour c) ≡ c
colour_back c = by_kind (three c)
  where
    by_kind : (c < 6) ⊎ (((6 ≤ c) × (c < 12)) ⊎ (12 ≤ c)) → colour_of (place_of_colour c) ≡ c
    by_kind (inl low) = let e : c + 2 - 2 ≡ c = omega arith in ap colour_of (register_of c low) ∙ e
    by_kind (inr (inl h)) = let high = h.0 in let e : c - 6 + 6 ≡ c = omega (arith, high) in ap colour_of (memory_of c h.0 h.1) ∙ e
    by_kind (inr (inr high)) = let e : c - 12 + 12 ≡ c = omega (arith, high) in ap colour_of (cell_of c high) ∙ e

same_colour : (c d : ℕ) → place_of_colour c ≡ place_of_colour d → c ≡ d
same_colour c d e = sym (colour_back c) ∙ ap colour_of e ∙ colour_back d

only_cells : (c : ℕ) → IsCell (place_of_colour c) → 12 ≤ c
only_cells c h = by_kind (three c)
  where
    by_kind : (c < 6) ⊎ (((6 ≤ c) × (c < 12)) ⊎ (12 ≤ c)) → 12 ≤ c
    by_kind (inl low) = absurd (subst IsCell (register_of c low) h)
    by_kind (inr (inl k)) = absurd (subst IsCell (memory_of c k.0 k.1) h)
    by_kind (inr (inr high)) = high

is_cell : (c : ℕ) → 12 ≤ c → IsCell (place_of_colour c)
is_cell c high = subst IsCell (sym (cell_of c high)) tt

-- ---- the colouring

module _ (g : Graph ℕ) (near : ℕ → List ℕ) (across : ℕ → Bool) (colours : List ℕ) (end : ℕ) (rows : AreRowsOf g near) (calls : (v : ℕ) → (across v ≡ true) ↔ IsLiveAcross g v) (within : (v : ℕ) → In v (locations_in g) → v < length colours) (given : AreGiven near across colours end) where
  known : (v w : ℕ) → Interfere g v w → v < length colours
  known v w i = within v (first_named g v w i)

  low_or_high : (v : ℕ) → (v < 12) ⊎ (12 ≤ v)
  low_or_high v = grind arith

  two : (v w : ℕ) → v ≢ w → (v < w) ⊎ (w < v)
  two v w ne = grind arith

  colours_differ : (v w : ℕ) → w < v → Interfere g v w → colour_at colours v ≢ colour_at colours w
  colours_differ v w lt i e = by_kind (low_or_high v)
    where
      by_kind : (v < 12) ⊎ (12 ≤ v) → ⊥
      by_kind (inl low) =
          let w_low : w < 12 = omega (arith, low, lt) in
          let same = sym (given.own v low) ∙ e ∙ given.own w w_low in
          omega (arith, lt, same)
      by_kind (inr high) = (given.first v high (known v w i)).free (w, rows.every v w lt i, sym e)

  places_differ : (v w : ℕ) → v ≢ w → Interfere g v w → place_by colours v ≢ place_by colours w
  places_differ v w ne i e = by_order (two v w ne)
    where
      same : colour_at colours v ≡ colour_at colours w
      same = same_colour (colour_at colours v) (colour_at colours w) e

      by_order : (v < w) ⊎ (w < v) → ⊥
      by_order (inl lt) = colours_differ w v lt (mirrored g v w i) (sym same)
      by_order (inr lt) = colours_differ v w lt i same

  kind : (v : ℕ) → 12 ≤ v → v < length colours → IsRegister (place_by colours v) ⊎ IsCell (place_by colours v)
  kind v high lt = by_kind (given.first v high lt).kind
    where
      by_kind : (colour_at colours v < 6) ⊎ (12 ≤ colour_at colours v) → IsRegister (place_by colours v) ⊎ IsCell (place_by colours v)
      by_kind (inl low) = inl (subst IsRegister (sym (register_of (colour_at colours v) low)) (omega arith, omega (arith, low)))
      by_kind (inr cell) = inr (is_cell (colour_at colours v) cell)

  all_held : (v : ℕ) → ((r : ℕ) → r < 6 → Holds colours (near v) r) → HoldsAllRegisters g (place_by colours) v
  all_held v held r least most =
      let low : r - 2 < 6 = omega (arith, least, most) in
      let h = held (r - 2) low in
      let i = rows.only v h.0 h.1 in
      let less = i.0 in
      let ne : v ≢ h.0 = λ e. (omega (arith, less, e)) in
      let same : r - 2 + 2 ≡ r = omega (arith, least) in
      (h.0, ne, i.1, ap place_of_colour h.2 ∙ register_of (r - 2) low ∙ ap Reg same)

  needed : (v : ℕ) → (across v ≡ true) ⊎ ((r : ℕ) → r < 6 → Holds colours (near v) r) → IsLiveAcross g v ⊎ HoldsAllRegisters g (place_by colours) v
  needed v (inl e) = inl ((calls v).0 e)
  needed v (inr held) = inr (all_held v held)

  in_cell : (v : ℕ) → 12 ≤ v → v < length colours → IsLiveAcross g v ⊎ HoldsAllRegisters g (place_by colours) v → IsCell (place_by colours v)
  in_cell v high lt (inl call) = is_cell (colour_at colours v) ((given.first v high lt).crossing ((calls v).1 call))
  in_cell v high lt (inr all) = by_kind (given.first v high lt).kind
    where
      by_kind : (colour_at colours v < 6) ⊎ (12 ≤ colour_at colours v) → IsCell (place_by colours v)
      by_kind (inl low) =
          let h = all (colour_at colours v + 2) (omega arith) (omega (arith, low)) in
          absurd (places_differ v h.0 h.1 h.2 (register_of (colour_at colours v) low ∙ sym h.3))
      by_kind (inr cell) = is_cell (colour_at colours v) cell

  least : (v n m : ℕ) → 12 ≤ v → v < length colours → place_by colours v ≡ Cell n → m < n → (w : ℕ) × (w < v) × Interfere g v w × (place_by colours w ≡ Cell m)
  least v n m high lt e less =
      let c : colour_at colours v ≡ n + 12 = sym (colour_back (colour_at colours v)) ∙ ap colour_of e in
      let cell : 12 ≤ m + 12 = omega arith in
      let h = (given.first v high lt).least (m + 12) cell (omega (arith, c, less)) in
      let i = rows.only v h.0 h.1 in
      let same : m + 12 - 12 ≡ m = omega arith in
      (h.0, i.0, i.1, ap place_of_colour h.2 ∙ cell_of (m + 12) cell ∙ ap Cell same)

  pub greedy : IsGreedyColouring g (place_by colours)
  greedy = record {
    arguments = λ v low. ap place_of_colour (given.own v low) ∙ argument_of v low;
    differ = places_differ;
    kinds = λ v high i. kind v high (within v i);
    cells = λ v high i. (λ cell. needed v ((given.first v high (within v i)).needed (only_cells (colour_at colours v) cell)), in_cell v high (within v i));
    least = λ v n m high i. least v n m high (within v i);
  }

  -- what has a cell is named
  cell_is_named : (v : ℕ) → IsLiveAcross g v ⊎ HoldsAllRegisters g (place_by colours) v → In v (locations_in g)
  cell_is_named v (inl call) = live_is_named 0 g v call.2 (ops_at g call.2) ([], refl) call.4
  cell_is_named v (inr all) = let h = all 2 (omega arith) (omega arith) in first_named g v h.0 h.2

  last_cell : (n : ℕ) → end ≡ 13 + n → (v : ℕ) × In v (locations_in g) × (place_by colours v ≡ Cell n)
  last_cell n e = by_case given.last
    where
      by_case : (end ≡ 12) ⊎ ((v : ℕ) × (12 ≤ v) × (v < length colours) × (suc (colour_at colours v) ≡ end)) → (v : ℕ) × In v (locations_in g) × (place_by colours v ≡ Cell n)
      by_case (inl none) = absurd (let f : 13 + n ≡ 12 = sym e ∙ none in omega (arith, f))
      by_case (inr h) =
          let last = h.3 in
          let c : colour_at colours h.0 ≡ 12 + n = omega (arith, last, e) in
          let high : 12 ≤ colour_at colours h.0 = omega (arith, c) in
          let same : 12 + n - 12 ≡ n = omega arith in
          (h.0, cell_is_named h.0 (needed h.0 ((given.first h.0 h.1 h.2).needed high)), ap place_of_colour c ∙ cell_of (12 + n) (omega arith) ∙ ap Cell same)

  -- its cells are as many as the greatest one needs
  pub counted : (cells : ℕ) → end ≡ 12 + cells → CellsAreCounted (locations_in g) colours cells
  counted cells is = record {
    below = λ v n i e.
        let c : colour_at colours v ≡ n + 12 = sym (colour_back (colour_at colours v)) ∙ ap colour_of e in
        let below = given.below v 0 (within v i) in
        omega (arith, c, below, is);
    last = λ n e. last_cell n (omega (arith, is, e));
  }
