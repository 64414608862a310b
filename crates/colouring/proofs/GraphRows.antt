-- The rows that are made of a graph and its live sets are those of the graph.
use Rattle.std.proofs.Common.{◌≡◌, ℕ, zero, suc, ◌+◌, ◌<◌, ◌≤◌, ◌⊎◌, ◌↔◌, inl, inr, List, [], ◌∷◌, ◌++◌, length, map, take, drop, get_or, Bool, true, Some, slice_get, refl, sym, ap, ◌∙◌, subst, arith}
use Rattle.std.proofs.lemmas.List.{get_or_past, take-append-drop}
use Rattle.std.proofs.lemmas.Option.{slice_get_past, slice_get_within}
use Rattle.cerco_traces.specs.LabelledGraphs.{In}
use Rattle.rtl.specs.declared.locations.Vreg.{Vreg}
use Rattle.rtl.specs.declared.graphs.Exit.{Exit}
use Rattle.rtl.specs.declared.graphs.Exit.TheVariants.{Next, Test, Call, Label, Return}
use Rattle.rtl.specs.Operations.{ByteOp}
use Rattle.rtl.specs.Programs.{Node, Graph}
use Rattle.rtl.specs.declared.live_sets.LivePoint.{LivePoint}
use Rattle.rtl.specs.declared.live_sets.LiveSets.{LiveSets}
use Rattle.rtl.specs.Locations.{vreg_number}
use Rattle.rtl.specs.Effects.{Loc}
use Rattle.rtl.specs.Graphs.{node_or, node_at, ops_at, exit_at, renamed_op, renamed_exit, renamed_graph}
use Rattle.rtl.specs.LiveSets.{points_of, nothing_live, vregs_before}
use Rattle.rtl.specs.Liveness.{GoesTo, LiveAt, AreLiveSets}
use Rattle.rtl.specs.Interference.{Interfere, IsLiveAcross, IsGreedyColouring}
use Rattle.rtl.specs.WellFormed.{locations_in}
use Rattle.rtl.proofs.Points.{live_is_named, written_is_named}
use Rattle.rtl.proofs.RenamedGraphs.{locations_renamed}
use Rattle.rtl.proofs.Renamings.{node_renamed}
use Rattle.colouring.specs.declared.greedy.Row.{Row}
use Rattle.colouring.specs.Colours.{place_by, CellsAreCounted}
use Rattle.colouring.specs.Code.Rows.{near_of, mark_at, AreEarlier, AreGiven}
use Rattle.colouring.specs.Code.Neighbours.{AreRowsOf, AreListed, AtNodes, IsCovered, IsGoneTo, IsAfterCall, IsAfterCallOf, VregsBelow, AreReady, AreRowsBy, numbers, live_at, written_by}
use Rattle.colouring.proofs.GreedyPass.{mirrored, greedy, counted}
use Rattle.colouring.proofs.NodePairs.{nothing_there}
use Rattle.colouring.proofs.Visits.{among_written, there, visited_interfere, interfering_visited}

number_in : (vs : List Vreg) (k : ℕ) (d : Vreg) → k < length vs → In (get_or vs k d).0 (numbers vs)
number_in [] k d lt = absurd (omega (arith, lt))
number_in (v ∷ vs) zero d lt = inl refl
number_in (v ∷ vs) (suc k) d lt = inr (number_in vs k d (omega (arith, lt)))

all_below : (n : ℕ) (vs : List Vreg) → ((v : ℕ) → In v (numbers vs) → v < n) → VregsBelow n vs
all_below n vs each k d lt = each (get_or vs k d).0 (number_in vs k d lt)

left_at : {A B : Type 0} (f : A → B) (xs : List A) (j : ℕ) (x : A) → slice_get xs j ≡ Some x → drop j (map f xs) ≡ f x ∷ drop (suc j) (map f xs)
left_at f [] j x e = absurd cc
left_at f (y ∷ ys) zero x e = let same : y ≡ x = cc in ap (λ z. f z ∷ map f ys) same
left_at f (y ∷ ys) (suc j) x e = left_at f ys j x e

item_at : {A : Type 0} (xs : List A) (k : ℕ) → k < length xs → (x : A) × (slice_get xs k ≡ Some x)
item_at [] k lt = absurd (omega (arith, lt))
item_at (x ∷ xs) zero lt = (x, refl)
item_at (x ∷ xs) (suc k) lt = item_at xs k (omega (arith, lt))

low_or_past : (p n : ℕ) → (p < n) ⊎ (n ≤ p)
low_or_past p n = grind arith

at_most_or_past : (p n : ℕ) → (p ≤ n) ⊎ (n < p)
at_most_or_past p n = grind arith

call_back : (f q : ℕ) (e : Exit Vreg) → renamed_exit vreg_number e ≡ Call f q → e ≡ Call f q
call_back f q (Next r) is = absurd cc
call_back f q (Test a true_arm false_arm) is = absurd cc
call_back f q (Call g r) is =
    let one : g ≡ f = cc in
    let two : r ≡ q = cc in
    ap (λ x. Call x r) one ∙ ap (Call f) two
call_back f q (Label l r) is = absurd cc
call_back f q Return is = absurd cc

module _ (graph : Graph Vreg) (sets : LiveSets) (live : AreLiveSets 0 graph sets) where
  abbrev g : Graph ℕ
  g = renamed_graph vreg_number graph

  abbrev count : ℕ
  count = length graph.nodes

  ops_are : (p : ℕ) → ops_at g p ≡ map (renamed_op vreg_number) (ops_at graph p)
  ops_are p = ap (λ (n : Node ℕ). n.ops) (node_renamed vreg_number graph p)

  exit_is : (p : ℕ) → exit_at g p ≡ renamed_exit vreg_number (exit_at graph p)
  exit_is p = ap (λ (n : Node ℕ). n.exit) (node_renamed vreg_number graph p)

  here : (p : ℕ) (node : Node Vreg) → slice_get graph.nodes p ≡ Some node → node_at graph p ≡ node
  here p node found = ap (node_or p) found

  exit_here : (p : ℕ) (node : Node Vreg) → slice_get graph.nodes p ≡ Some node → exit_at g p ≡ renamed_exit vreg_number node.exit
  exit_here p node found = exit_is p ∙ ap (λ (n : Node Vreg). renamed_exit vreg_number n.exit) (here p node found)

  no_call : (p f q : ℕ) → count ≤ p → exit_at g p ≡ Call f q → ⊥
  no_call p f q past is = not_next (sym (exit_is p ∙ ap (λ (n : Node Vreg). renamed_exit vreg_number n.exit) (ap (node_or p) (slice_get_past graph.nodes p past))) ∙ is)
    where
      not_next : renamed_exit vreg_number (Next p) ≡ Call f q → ⊥
      not_next e = cc

  live_there : (q v : ℕ) → In v (numbers (vregs_before sets q 0)) → q < count
  live_there q v i = by_place (low_or_past q count)
    where
      by_place : (q < count) ⊎ (count ≤ q) → q < count
      by_place (inl lt) = lt
      by_place (inr past) = absurd (let many = live.nodes in subst (In v) (nothing_there sets q (omega (arith, many, past))) i)

  -- ---- numbers

  module _ (n : ℕ) (named : (v : ℕ) → In v (map vreg_number (locations_in graph)) → v < n) where
    pub within : (v : ℕ) → In v (locations_in g) → v < n
    within v i = named v (subst (In v) (locations_renamed vreg_number graph) i)

    live_below : (p k v : ℕ) → In v (live_at (points_of sets p) k) → (p < count) ⊎ (count ≤ p) → (k ≤ length (ops_at graph p)) ⊎ (length (ops_at graph p) < k) → v < n
    live_below p k v i (inl lt) (inl le) = within v (live_is_named 0 g v p (drop k (ops_at g p)) (take k (ops_at g p), take-append-drop k (ops_at g p)) ((live.vregs p k v lt le).0 i))
    live_below p k v i (inl lt) (inr over) =
        let many = live.points p lt in
        absurd (subst (λ (point : LivePoint). In v (numbers point.vregs)) (get_or_past (points_of sets p) k nothing_live (omega (arith, many, over))) i)
    live_below p k v i (inr past) r =
        let many = live.nodes in
        absurd (subst (λ points. In v (live_at points k)) (get_or_past sets.nodes p [] (omega (arith, many, past))) i)

    written_below : (p j v : ℕ) (op : ByteOp Vreg) → slice_get (ops_at graph p) j ≡ Some op → In v (numbers (written_by op)) → v < n
    written_below p j v op found i =
        within v (written_is_named g p (renamed_op vreg_number op) (drop (suc j) (ops_at g p)) v (take j (ops_at g p), ap (λ ops. take j (ops_at g p) ++ ops) (sym left) ∙ take-append-drop j (ops_at g p)) (among_written op v i))
      where
        left : drop j (ops_at g p) ≡ renamed_op vreg_number op ∷ drop (suc j) (ops_at g p)
        left = ap (drop j) (ops_are p) ∙ left_at (renamed_op vreg_number) (ops_at graph p) j op found ∙ ap (λ ops. renamed_op vreg_number op ∷ drop (suc j) ops) (sym (ops_are p))

    pub ready : AreReady n graph.nodes sets
    ready = record {
      many = live.nodes;
      points = λ p node found.
          let many = live.points p (slice_get_within graph.nodes p node found) in
          let ops = ap (λ (m : Node Vreg). length m.ops) (here p node found) in
          omega (arith, many, ops);
      ops = λ p node found j op at. all_below n (written_by op) (λ v i. written_below p j v op (subst (λ (m : Node Vreg). slice_get m.ops j ≡ Some op) (sym (here p node found)) at) i);
      live = λ p k. all_below n (get_or (points_of sets p) k nothing_live).vregs (λ v i. live_below p k v i (low_or_past p count) (at_most_or_past k (length (ops_at graph p))));
      entries = λ q lt. (let nodes = live.nodes in let many = live.points q (omega (arith, nodes, lt)) in omega (arith, many));
    }

  -- ---- marks

  pub is_covered : (q : ℕ) → IsGoneTo graph.nodes count q → IsCovered g q
  is_covered q h = (h.0, h.5, subst (λ e. GoesTo e q) (sym (exit_here h.0 h.1 h.3)) h.4)

  pub across : (v : ℕ) → IsAfterCallOf graph.nodes sets count v ↔ IsLiveAcross g v
  across v = (λ h. forth h.0 h.1 h.1.exit refl h.3 h.4, λ h. back h.0 h.1 h.2 h.3 h.4 (low_or_past h.0 count))
    where
      forth : (p : ℕ) (node : Node Vreg) (e : Exit Vreg) → node.exit ≡ e → slice_get graph.nodes p ≡ Some node → IsAfterCall e sets v → IsLiveAcross g v
      forth p node (Next q) is found i = absurd i
      forth p node (Test a true_arm false_arm) is found i = absurd i
      forth p node (Call f q) is found i = (p, f, q, exit_here p node found ∙ ap (renamed_exit vreg_number) is, (live.vregs q 0 v (live_there q v i) (omega arith)).0 i)
      forth p node (Label l q) is found i = absurd i
      forth p node Return is found i = absurd i

      among : (q : ℕ) → LiveAt 0 g (Loc v) q → (q < count) ⊎ (count ≤ q) → In v (numbers (vregs_before sets q 0))
      among q l (inl lt) = (live.vregs q 0 v lt (omega arith)).1 l
      among q l (inr past) = absurd (let lt = there graph sets live [] (λ x e. absurd (no_mark x e)) q 0 v l in omega (arith, lt, past))
        where
          no_mark : (x : ℕ) → mark_at [] x ≡ true → ⊥
          no_mark x e = cc

      back : (p f q : ℕ) → exit_at g p ≡ Call f q → LiveAt 0 g (Loc v) q → (p < count) ⊎ (count ≤ p) → IsAfterCallOf graph.nodes sets count v
      back p f q is l (inl lt) =
          let node = item_at graph.nodes p lt in
          (p, node.0, lt, node.1, subst (λ e. IsAfterCall e sets v) (sym (call_back f q node.0.exit (sym (exit_here p node.0 node.1) ∙ is))) (among q l (low_or_past q count)))
      back p f q is l (inr past) = absurd (no_call p f q past is)

  -- ---- rows

  pub rows_are : (marks : List Bool) (rows : List Row) → ((q : ℕ) → mark_at marks q ≡ true → IsCovered g q) → AreRowsBy (AtNodes marks graph.nodes sets count) rows → AreRowsOf g (near_of rows)
  rows_are marks rows covered by = record { only = λ v w i. ((by.only v w i).0, sound v w (by.only v w i).1); every = λ v w lt i. complete v w lt (interfering_visited graph sets live marks covered v w i) }
    where
      sound : (v w : ℕ) → AtNodes marks graph.nodes sets count v w ⊎ AtNodes marks graph.nodes sets count w v → Interfere g v w
      sound v w (inl h) = visited_interfere graph sets live marks covered v w h
      sound v w (inr h) = mirrored g w v (visited_interfere graph sets live marks covered w v h)

      upper : (v w : ℕ) → w < v → AreListed rows v w → In w (near_of rows v)
      upper v w lt (inl i) = i
      upper v w lt (inr i) = absurd (let less = (by.only w v i).0 in omega (arith, lt, less))

      lower : (v w : ℕ) → w < v → AreListed rows w v → In w (near_of rows v)
      lower v w lt (inl i) = absurd (let less = (by.only w v i).0 in omega (arith, lt, less))
      lower v w lt (inr i) = i

      complete : (v w : ℕ) → w < v → AtNodes marks graph.nodes sets count v w ⊎ AtNodes marks graph.nodes sets count w v → In w (near_of rows v)
      complete v w lt (inl h) = upper v w lt (by.every v w h (λ e. (omega (arith, lt, e))))
      complete v w lt (inr h) = lower v w lt (by.every w v h (λ e. (omega (arith, lt, e))))

-- ---- the colouring

module _ (graph : Graph Vreg) (sets : LiveSets) (live : AreLiveSets 0 graph sets) (n : ℕ) (named : (v : ℕ) → In v (map vreg_number (locations_in graph)) → v < n) (nodes : List (Node Vreg)) (count : ℕ) (same : nodes ≡ graph.nodes) (as_many : count ≡ length graph.nodes) where
  pub ready_for : AreReady n nodes sets
  ready_for = subst (λ ns. AreReady n ns sets) (sym same) (ready graph sets live n named)

  module _ (calls marks : List Bool) (rows : List Row) (long : length rows ≡ n) (after : (v : ℕ) → (mark_at calls v ≡ true) ↔ IsAfterCallOf nodes sets count v) (gone : (q : ℕ) → mark_at marks q ≡ true → IsGoneTo nodes count q) (pairs : AreRowsBy (AtNodes marks nodes sets count) rows) where
    pub earlier : AreEarlier (near_of rows)
    earlier v w i = (pairs.only v w i).0

    crossing : (v : ℕ) → (mark_at calls v ≡ true) ↔ IsLiveAcross (renamed_graph vreg_number graph) v
    crossing v =
        let marked : (mark_at calls v ≡ true) ↔ IsAfterCallOf graph.nodes sets (length graph.nodes) v = subst (λ k. (mark_at calls v ≡ true) ↔ IsAfterCallOf graph.nodes sets k v) as_many (subst (λ ns. (mark_at calls v ≡ true) ↔ IsAfterCallOf ns sets count v) same (after v)) in
        let call = across graph sets live v in
        (λ is. call.0 (marked.0 is), λ l. marked.1 (call.1 l))

    is_gone : (q : ℕ) → mark_at marks q ≡ true → IsCovered (renamed_graph vreg_number graph) q
    is_gone q is = is_covered graph sets live q (subst (λ k. IsGoneTo graph.nodes k q) as_many (subst (λ ns. IsGoneTo ns count q) same (gone q is)))

    rows_of_graph : AreRowsOf (renamed_graph vreg_number graph) (near_of rows)
    rows_of_graph = rows_are graph sets live marks rows is_gone (subst (λ k. AreRowsBy (AtNodes marks graph.nodes sets k) rows) as_many (subst (λ ns. AreRowsBy (AtNodes marks ns sets count) rows) same pairs))

    module _ (colours : List ℕ) (cells : ℕ) (enough : length rows ≤ length colours) (given : AreGiven (near_of rows) (mark_at calls) colours (12 + cells)) where
      known : (v : ℕ) → In v (locations_in (renamed_graph vreg_number graph)) → v < length colours
      known v i = let below = within graph sets live n named v i in omega (arith, below, long, enough)

      pub coloured : IsGreedyColouring (renamed_graph vreg_number graph) (place_by colours)
      coloured = greedy (renamed_graph vreg_number graph) (near_of rows) (mark_at calls) colours (12 + cells) rows_of_graph crossing known given

      pub cells_counted : CellsAreCounted (map vreg_number (locations_in graph)) colours cells
      cells_counted =
          subst (λ names. CellsAreCounted names colours cells) (locations_renamed vreg_number graph)
          (counted (renamed_graph vreg_number graph) (near_of rows) (mark_at calls) colours (12 + cells) rows_of_graph crossing known given cells refl)
