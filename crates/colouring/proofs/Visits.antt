-- The pairs that are visited are those that interfere.
use Rattle.std.proofs.Common.{◌≡◌, ◌≢◌, ℕ, zero, suc, ◌+◌, ◌<◌, ◌≤◌, ◌⊎◌, inl, inr, List, [], ◌∷◌, ◌++◌, length, map, take, drop, Bool, true, false, Some, slice_get, refl, sym, ap, ◌∙◌, subst, arith}
use Rattle.std.proofs.lemmas.Option.{slice_get_past, slice_get_within}
use Rattle.std.proofs.lemmas.List.{drop_all, get_or_past, length-map, take-append-drop}
use Rattle.cerco_traces.specs.LabelledGraphs.{In}
use Rattle.rtl.specs.declared.locations.Vreg.{Vreg}
use Rattle.rtl.specs.declared.operations.Arith.{Arith}
use Rattle.rtl.specs.declared.operations.Arith.TheVariants.{Add, Addc, Subb, And, Or, Xor}
use Rattle.rtl.specs.Operations.{ByteOp}
use Rattle.rtl.specs.Operations.{Const, Move, Op, Mul, Div, Rem, Rlc, Rrc, Top, ClearCarry, SetCarry, FlipCarry, FromCarry, Load, Store, ReadPort, WritePort}
use Rattle.rtl.specs.declared.graphs.Exit.{Exit}
use Rattle.rtl.specs.declared.graphs.Exit.TheVariants.{Next, Test, Call, Label, Return}
use Rattle.rtl.specs.Programs.{Node, Graph}
use Rattle.rtl.specs.declared.live_sets.LiveSets.{LiveSets}
use Rattle.rtl.specs.Locations.{vreg_number}
use Rattle.rtl.specs.Effects.{Storage, Loc, Carry, writes, arith_writes}
use Rattle.rtl.specs.Graphs.{stay, node_or, node_at, ops_at, exit_at, renamed_op, renamed_exit, renamed_graph}
use Rattle.rtl.specs.LiveSets.{points_of, vregs_before}
use Rattle.rtl.specs.Liveness.{IsAmong, IsPoint, GoesTo, Uses, Overwrites, Live, used, kept, used_by_exit, onward, LiveAt, LiveBefore, AreLiveSets}
use Rattle.rtl.specs.Interference.{Interfere, both_live, live_where_written, written_where_live, both_written}
use Rattle.rtl.proofs.Renamings.{node_renamed}
use Rattle.colouring.specs.Code.Rows.{mark_at}
use Rattle.colouring.specs.Code.Neighbours.{Between, numbers, written_by, live_at, AtOperation, AfterCall, AtNode, AtNodes, IsCovered}

-- ---- what an operation writes

same_number : (v w : ℕ) → Loc v ≡ Loc w → v ≡ w
same_number v w e = cc

carry_no_location : (v : ℕ) → Carry ≡ Loc v → ⊥
carry_no_location v e = cc

located : (v : ℕ) (xs : List ℕ) → In v xs → IsAmong (Loc v) (map Loc xs)
located v [] i = absurd i
located v (x ∷ xs) (inl e) = inl (ap Loc e)
located v (x ∷ xs) (inr i) = inr (located v xs i)

unlocated : (v : ℕ) (xs : List ℕ) → IsAmong (Loc v) (map Loc xs) → In v xs
unlocated v [] i = absurd i
unlocated v (x ∷ xs) (inl e) = inl (same_number x v e)
unlocated v (x ∷ xs) (inr i) = inr (unlocated v xs i)

no_arith : (o : Arith) (v : ℕ) → IsAmong (Loc v) (arith_writes o) → ⊥
no_arith Add v (inl e) = carry_no_location v e
no_arith Add v (inr i) = i
no_arith Addc v (inl e) = carry_no_location v e
no_arith Addc v (inr i) = i
no_arith Subb v (inl e) = carry_no_location v e
no_arith Subb v (inr i) = i
no_arith And v i = i
no_arith Or v i = i
no_arith Xor v i = i

-- one location, and perhaps the carry
one_of : (v d : ℕ) (more : List Storage) → (IsAmong (Loc v) more → ⊥) → IsAmong (Loc v) (Loc d ∷ more) → In v (d ∷ [])
one_of v d more none (inl e) = inl (same_number d v e)
one_of v d more none (inr i) = absurd (none i)

none_in_nothing : (v : ℕ) → IsAmong (Loc v) [] → ⊥
none_in_nothing v i = i

none_in_carry : (v : ℕ) → IsAmong (Loc v) (Carry ∷ []) → ⊥
none_in_carry v (inl e) = carry_no_location v e
none_in_carry v (inr i) = i

one_is : (v d : ℕ) (more : List Storage) → In v (d ∷ []) → IsAmong (Loc v) (Loc d ∷ more)
one_is v d more (inl e) = inl (ap Loc e)
one_is v d more (inr i) = absurd i

pub among_written : (op : ByteOp Vreg) (v : ℕ) → In v (numbers (written_by op)) → IsAmong (Loc v) (writes (renamed_op vreg_number op))
among_written (Const d n) v i = one_is v d.0 [] i
among_written (Move d s) v i = one_is v d.0 [] i
among_written (Op o d a b) v i = one_is v d.0 (arith_writes o) i
among_written (Mul l h a b) v (inl e) = inl (ap Loc e)
among_written (Mul l h a b) v (inr (inl e)) = inr (inl (ap Loc e))
among_written (Mul l h a b) v (inr (inr i)) = absurd i
among_written (Div d a b) v i = one_is v d.0 (Carry ∷ []) i
among_written (Rem d a b) v i = one_is v d.0 (Carry ∷ []) i
among_written (Rlc d a) v i = one_is v d.0 (Carry ∷ []) i
among_written (Rrc d a) v i = one_is v d.0 (Carry ∷ []) i
among_written (Top a) v i = absurd i
among_written ClearCarry v i = absurd i
among_written SetCarry v i = absurd i
among_written FlipCarry v i = absurd i
among_written (FromCarry d) v i = one_is v d.0 (Carry ∷ []) i
among_written (Load ds l h) v i = located v (map vreg_number ds) i
among_written (Store l h ss) v i = absurd i
among_written (ReadPort d) v i = one_is v d.0 [] i
among_written (WritePort s) v i = absurd i

pub written_among : (op : ByteOp Vreg) (v : ℕ) → IsAmong (Loc v) (writes (renamed_op vreg_number op)) → In v (numbers (written_by op))
written_among (Const d n) v i = one_of v d.0 [] (none_in_nothing v) i
written_among (Move d s) v i = one_of v d.0 [] (none_in_nothing v) i
written_among (Op o d a b) v i = one_of v d.0 (arith_writes o) (no_arith o v) i
written_among (Mul l h a b) v (inl e) = inl (same_number l.0 v e)
written_among (Mul l h a b) v (inr i) = inr (one_of v h.0 (Carry ∷ []) (none_in_carry v) i)
written_among (Div d a b) v i = one_of v d.0 (Carry ∷ []) (none_in_carry v) i
written_among (Rem d a b) v i = one_of v d.0 (Carry ∷ []) (none_in_carry v) i
written_among (Rlc d a) v i = one_of v d.0 (Carry ∷ []) (none_in_carry v) i
written_among (Rrc d a) v i = one_of v d.0 (Carry ∷ []) (none_in_carry v) i
written_among (Top a) v i = absurd (none_in_carry v i)
written_among ClearCarry v i = absurd (none_in_carry v i)
written_among SetCarry v i = absurd (none_in_carry v i)
written_among FlipCarry v i = absurd (none_in_carry v i)
written_among (FromCarry d) v i = one_of v d.0 (Carry ∷ []) (none_in_carry v) i
written_among (Load ds l h) v i = unlocated v (map vreg_number ds) i
written_among (Store l h ss) v i = absurd i
written_among (ReadPort d) v i = one_of v d.0 [] (none_in_nothing v) i
written_among (WritePort s) v i = absurd i

in_or_not : (v : ℕ) (xs : List ℕ) → In v xs ⊎ (In v xs → ⊥)
in_or_not v [] = inr (λ i. i)
in_or_not v (x ∷ xs) = by_both (same_or_not x v) (in_or_not v xs)
  where
    same_or_not : (i j : ℕ) → (i ≡ j) ⊎ (i ≢ j)
    same_or_not i j = grind arith

    neither : (x ≢ v) → (In v xs → ⊥) → In v (x ∷ xs) → ⊥
    neither ne none (inl e) = ne e
    neither ne none (inr i) = none i

    by_both : (x ≡ v) ⊎ (x ≢ v) → In v xs ⊎ (In v xs → ⊥) → In v (x ∷ xs) ⊎ (In v (x ∷ xs) → ⊥)
    by_both (inl e) r = inl (inl e)
    by_both (inr ne) (inl i) = inl (inr i)
    by_both (inr ne) (inr none) = inr (neither ne none)

-- ---- places of lists

module _ {A B : Type 0} (f : A → B) where
  -- what is left before an item that is there
  left_at : (xs : List A) (j : ℕ) (x : A) → slice_get xs j ≡ Some x → drop j (map f xs) ≡ f x ∷ drop (suc j) (map f xs)
  left_at [] j x e = absurd cc
  left_at (y ∷ ys) zero x e = let same : y ≡ x = cc in ap (λ z. f z ∷ map f ys) same
  left_at (y ∷ ys) (suc j) x e = left_at ys j x e

  -- a list in two parts at an item
  split_at : (made : List B) (y : B) (more : List B) (xs : List A) → made ++ y ∷ more ≡ map f xs → (x : A) × (slice_get xs (length made) ≡ Some x) × (f x ≡ y) × (more ≡ drop (suc (length made)) (map f xs))
  split_at [] y more [] e = absurd (nothing e)
    where
      nothing : y ∷ more ≡ [] → ⊥
      nothing e = cc
  split_at [] y more (x ∷ xs) e = (x, refl, sym (first e), rest e)
    where
      first : y ∷ more ≡ f x ∷ map f xs → y ≡ f x
      first e = cc

      rest : y ∷ more ≡ f x ∷ map f xs → more ≡ map f xs
      rest e = cc
  split_at (m ∷ made) y more [] e = absurd (nothing e)
    where
      nothing : m ∷ (made ++ y ∷ more) ≡ [] → ⊥
      nothing e = cc
  split_at (m ∷ made) y more (x ∷ xs) e = split_at made y more xs (rest e)
    where
      rest : m ∷ (made ++ y ∷ more) ≡ f x ∷ map f xs → made ++ y ∷ more ≡ map f xs
      rest e = cc

-- the last part of a list at a place
last_part : {B : Type 0} (made ops all : List B) → made ++ ops ≡ all → (length made ≤ length all) × (ops ≡ drop (length made) all)
last_part [] ops all e = (omega arith, e)
last_part (m ∷ made) ops [] e = absurd (nothing e)
  where
    nothing : m ∷ (made ++ ops) ≡ [] → ⊥
    nothing e = cc
last_part (m ∷ made) ops (x ∷ all) e = let h = last_part made ops all (rest e) in let le = h.0 in (omega (arith, le), h.1)
  where
    rest : m ∷ (made ++ ops) ≡ x ∷ all → made ++ ops ≡ all
    rest e = cc

item_at : {A : Type 0} (xs : List A) (k : ℕ) → k < length xs → (x : A) × (slice_get xs k ≡ Some x)
item_at [] k lt = absurd (omega arith)
item_at (x ∷ xs) zero lt = (x, refl)
item_at (x ∷ xs) (suc k) lt = item_at xs k (omega arith)

low_or_past : (p n : ℕ) → (p < n) ⊎ (n ≤ p)
low_or_past p n = grind arith

-- ---- a graph and its live sets

module _ (graph : Graph Vreg) (sets : LiveSets) (live : AreLiveSets 0 graph sets) (marks : List Bool) (covered : (q : ℕ) → mark_at marks q ≡ true → IsCovered (renamed_graph vreg_number graph) q) where
  abbrev g : Graph ℕ
  g = renamed_graph vreg_number graph

  abbrev count : ℕ
  count = length graph.nodes

  ops_are : (p : ℕ) → ops_at g p ≡ map (renamed_op vreg_number) (ops_at graph p)
  ops_are p = ap (λ (n : Node ℕ). n.ops) (node_renamed vreg_number graph p)

  exit_is : (p : ℕ) → exit_at g p ≡ renamed_exit vreg_number (exit_at graph p)
  exit_is p = ap (λ (n : Node ℕ). n.exit) (node_renamed vreg_number graph p)

  here : (p : ℕ) (node : Node Vreg) → slice_get graph.nodes p ≡ Some node → node_at graph p ≡ node
  here p node found = ap (node_or p) found

  as_many : (p : ℕ) → length (ops_at g p) ≡ length (ops_at graph p)
  as_many p = ap length (ops_are p) ∙ length-map (ops_at graph p) (renamed_op vreg_number)

  -- ---- what is visited interferes

  is_live : (p k v : ℕ) → p < count → k ≤ length (ops_at graph p) → In v (live_at (points_of sets p) k) → LiveBefore 0 g (Loc v) p k
  is_live p k v lt le i = (live.vregs p k v lt le).0 i

  among_live : (p k v : ℕ) → p < count → k ≤ length (ops_at graph p) → LiveBefore 0 g (Loc v) p k → In v (live_at (points_of sets p) k)
  among_live p k v lt le l = (live.vregs p k v lt le).1 l

  start_sound : (p v w : ℕ) → p < count → Between (live_at (points_of sets p) 0) (live_at (points_of sets p) 0) v w → Interfere g v w
  start_sound p v w lt b = both_live p (ops_at g p) ([], refl) (is_live p 0 v lt (omega arith) b.0) (is_live p 0 w lt (omega arith) b.1)

  left : (p j : ℕ) (op : ByteOp Vreg) → slice_get (ops_at graph p) j ≡ Some op → drop j (ops_at g p) ≡ renamed_op vreg_number op ∷ drop (suc j) (ops_at g p)
  left p j op found = ap (drop j) (ops_are p) ∙ left_at (renamed_op vreg_number) (ops_at graph p) j op found ∙ ap (λ ops. renamed_op vreg_number op ∷ drop (suc j) ops) (sym (ops_are p))

  point : (p j : ℕ) (op : ByteOp Vreg) → slice_get (ops_at graph p) j ≡ Some op → IsPoint g p (renamed_op vreg_number op ∷ drop (suc j) (ops_at g p))
  point p j op found = (take j (ops_at g p), ap (λ ops. take j (ops_at g p) ++ ops) (sym (left p j op found)) ∙ take-append-drop j (ops_at g p))

  operation_sound : (p j v w : ℕ) (op : ByteOp Vreg) → p < count → slice_get (ops_at graph p) j ≡ Some op → AtOperation op (live_at (points_of sets p) (suc j)) v w → Interfere g v w
  operation_sound p j v w op lt found (inl b) =
      let within : j < length (ops_at graph p) = slice_get_within (ops_at graph p) j op found in
      written_where_live p (renamed_op vreg_number op) (drop (suc j) (ops_at g p)) (point p j op found) (among_written op v b.0) (is_live p (suc j) w lt (omega (arith, within)) b.1)
  operation_sound p j v w op lt found (inr b) = both_written p (renamed_op vreg_number op) (drop (suc j) (ops_at g p)) (point p j op found) (among_written op v b.0) (among_written op w b.1)

  call_sound : (exit : Exit Vreg) (v w : ℕ) → AfterCall exit sets v w → Interfere g v w
  call_sound (Next q) v w h = absurd h
  call_sound (Test a true_arm false_arm) v w h = absurd h
  call_sound (Call f q) v w h = by_place (low_or_past q count)
    where
      nothing : count ≤ q → numbers (vregs_before sets q 0) ≡ []
      nothing past = let many = live.nodes in let over : length sets.nodes ≤ q = omega (arith, many, past) in ap (λ points. live_at points 0) (get_or_past sets.nodes q [] over)

      by_place : (q < count) ⊎ (count ≤ q) → Interfere g v w
      by_place (inl lt) = start_sound q v w lt h.1
      by_place (inr past) = absurd (subst (In v) (nothing past) h.1.0)
  call_sound (Label l q) v w h = absurd h
  call_sound Return v w h = absurd h

  node_sound : (p v w : ℕ) (node : Node Vreg) → p < count → slice_get graph.nodes p ≡ Some node → AtNode (mark_at marks p) node (points_of sets p) sets v w → Interfere g v w
  node_sound p v w node lt found (inl h) = start_sound p v w lt h.1
  node_sound p v w node lt found (inr (inl h)) = operation_sound p h.0 v w h.1 lt (subst (λ (n : Node Vreg). slice_get n.ops h.0 ≡ Some h.1) (sym (here p node found)) h.3) h.4
  node_sound p v w node lt found (inr (inr h)) = call_sound node.exit v w h

  pub visited_interfere : (v w : ℕ) → AtNodes marks graph.nodes sets count v w → Interfere g v w
  visited_interfere v w h = node_sound h.0 v w h.1 h.2 h.3 h.4

  -- ---- what interferes is visited

  abbrev Visited : ℕ → ℕ → Type 0
  Visited v w = AtNodes marks graph.nodes sets count v w ⊎ AtNodes marks graph.nodes sets count w v

  turned : (v w : ℕ) → Visited v w → Visited w v
  turned v w (inl h) = inr h
  turned v w (inr h) = inl h

  -- nothing is live at a node that isn't there
  no_node : (p : ℕ) → count ≤ p → node_at graph p ≡ stay p
  no_node p past = ap (node_or p) (slice_get_past graph.nodes p past)

  none_live : (s : Storage) (p : ℕ) (ops : List (ByteOp ℕ)) → count ≤ p → ops ≡ [] → Live 0 g s p ops → ⊥
  none_live s p ops past none (used p' op more i) = not_nothing op more none
    where
      not_nothing : (op : ByteOp ℕ) (more : List (ByteOp ℕ)) → op ∷ more ≡ [] → ⊥
      not_nothing op more e = cc
  none_live s p ops past none (kept p' op more out l) = not_nothing op more none
    where
      not_nothing : (op : ByteOp ℕ) (more : List (ByteOp ℕ)) → op ∷ more ≡ [] → ⊥
      not_nothing op more e = cc
  none_live s p ops past none (used_by_exit p' u) = subst (λ e. Uses 0 e g p s) (exit_is p ∙ ap (λ (n : Node Vreg). renamed_exit vreg_number n.exit) (no_node p past)) u
  none_live s p ops past none (onward p' q out goes l) =
      let same : p ≡ q = subst (λ e. GoesTo e q) (exit_is p ∙ ap (λ (n : Node Vreg). renamed_exit vreg_number n.exit) (no_node p past)) goes in
      none_live s q (ops_at g q) (subst (λ n. count ≤ n) same past) (ap (λ n. ops_at g n) (sym same) ∙ ops_are p ∙ ap (λ (n : Node Vreg). map (renamed_op vreg_number) n.ops) (no_node p past)) l

  no_ops : (p : ℕ) → count ≤ p → ops_at g p ≡ []
  no_ops p past = ops_are p ∙ ap (λ (n : Node Vreg). map (renamed_op vreg_number) n.ops) (no_node p past)

  drop_nothing : {A : Type 0} (k : ℕ) (xs : List A) → xs ≡ [] → drop k xs ≡ []
  drop_nothing k xs e = drop_all k xs (let none = ap length e in omega (arith, none))

  pub there : (p k v : ℕ) → LiveBefore 0 g (Loc v) p k → p < count
  there p k v l = by_place (low_or_past p count)
    where
      by_place : (p < count) ⊎ (count ≤ p) → p < count
      by_place (inl lt) = lt
      by_place (inr past) = absurd (none_live (Loc v) p (drop k (ops_at g p)) past (drop_nothing k (ops_at g p) (no_ops p past)) l)

  -- a pair of this node
  visit : (p v w : ℕ) → p < count → ((node : Node Vreg) → node_at graph p ≡ node → AtNode (mark_at marks p) node (points_of sets p) sets v w) → AtNodes marks graph.nodes sets count v w
  visit p v w lt h = let n = item_at graph.nodes p lt in (p, n.0, lt, n.1, h n.0 (here p n.0 n.1))

  visit_operation : (p j v w : ℕ) (op : ByteOp Vreg) → p < count → slice_get (ops_at graph p) j ≡ Some op → AtOperation op (live_at (points_of sets p) (suc j)) v w → AtNodes marks graph.nodes sets count v w
  visit_operation p j v w op lt found h =
      visit p v w lt (λ node is. inr (inl (j, op, subst (λ (n : Node Vreg). j < length n.ops) is (slice_get_within (ops_at graph p) j op found), subst (λ (n : Node Vreg). slice_get n.ops j ≡ Some op) is found, h)))

  module _ (v w : ℕ) where
    -- from the first point of a node to each of its points
    from_start : (p : ℕ) → p < count → (LiveAt 0 g (Loc v) p → LiveAt 0 g (Loc w) p → Visited v w) → (k : ℕ) → k ≤ length (ops_at graph p) → LiveBefore 0 g (Loc v) p k → LiveBefore 0 g (Loc w) p k → Visited v w
    from_start p lt start zero le l m = start l m
    from_start p lt start (suc k) le l m = by_writing (in_or_not v (numbers (written_by item.0))) (in_or_not w (numbers (written_by item.0))) (from_start p lt start k (omega (arith, le)))
      where
        item : (x : ByteOp Vreg) × (slice_get (ops_at graph p) k ≡ Some x)
        item = item_at (ops_at graph p) k (omega (arith, le))

        before : (u : ℕ) → (In u (numbers (written_by item.0)) → ⊥) → LiveBefore 0 g (Loc u) p (suc k) → LiveBefore 0 g (Loc u) p k
        before u none live_after =
            subst (Live 0 g (Loc u) p) (sym (left p k item.0 item.1)) (kept p (renamed_op vreg_number item.0) (drop (suc k) (ops_at g p)) (λ i. none (written_among item.0 u i)) live_after)

        by_writing : In v (numbers (written_by item.0)) ⊎ (In v (numbers (written_by item.0)) → ⊥) → In w (numbers (written_by item.0)) ⊎ (In w (numbers (written_by item.0)) → ⊥) → (LiveBefore 0 g (Loc v) p k → LiveBefore 0 g (Loc w) p k → Visited v w) → Visited v w
        by_writing (inl i) r again = inl (visit_operation p k v w item.0 lt item.1 (inl (i, among_live p (suc k) w lt le m)))
        by_writing (inr none) (inl i) again = inr (visit_operation p k w v item.0 lt item.1 (inl (i, among_live p (suc k) v lt le l)))
        by_writing (inr none) (inr none') again = again (before v none l) (before w none' m)

    abbrev IsArgumentOf : Exit Vreg → ℕ → Type 0
    IsArgumentOf e u = (f : ℕ) × (q : ℕ) × (e ≡ Call f q) × (u < 12)

    overwritten_or_not : (u : ℕ) (e : Exit Vreg) → (Overwrites 0 (renamed_exit vreg_number e) (Loc u) → ⊥) ⊎ IsArgumentOf e u
    overwritten_or_not u (Next q) = inl (λ o. o)
    overwritten_or_not u (Test a true_arm false_arm) = inl (λ o. o)
    overwritten_or_not u (Call f q) = by_place (low_or_past u 12)
      where
        by_place : (u < 12) ⊎ (12 ≤ u) → ((0 ≤ u) × (u < 0 + 12) → ⊥) ⊎ IsArgumentOf (Call f q) u
        by_place (inl low) = inr (f, q, refl, low)
        by_place (inr high) = inl (λ o. (let low = o.1 in omega (arith, low, high)))
    overwritten_or_not u (Label l q) = inl (λ o. o)
    overwritten_or_not u Return = inl (λ o. o)

    -- an argument place and something else after a call
    after_call : (p q f u x : ℕ) → p < count → q < count → exit_at graph p ≡ Call f q → u < 12 → LiveAt 0 g (Loc u) q → LiveAt 0 g (Loc x) q → AtNodes marks graph.nodes sets count u x
    after_call p q f u x lt lt' is low l m =
        visit p u x lt (λ node same. inr (inr (subst (λ e. AfterCall e sets u x) (sym is ∙ ap (λ (n : Node Vreg). n.exit) same) (low, (among_live q 0 u lt' (omega arith) l, among_live q 0 x lt' (omega arith) m)))))

    goes_on : (p q f q' : ℕ) → exit_at graph p ≡ Call f q' → GoesTo (exit_at g p) q → q' ≡ q
    goes_on p q f q' is goes = subst (λ e. GoesTo e q) (exit_is p ∙ ap (renamed_exit vreg_number) is) goes

    listed : (fuel p : ℕ) → count ≤ p + fuel → (k : ℕ) → p < count → k ≤ length (ops_at graph p) → LiveBefore 0 g (Loc v) p k → LiveBefore 0 g (Loc w) p k → Visited v w
    listed zero p end k lt le l m = absurd (omega (arith, lt, end))
    listed (suc fuel) p end k lt le l m = from_start p lt (at_start (λ p' less lt' l m. listed fuel p' (omega (arith, end, less)) (length (ops_at graph p')) lt' (omega arith) l m) (mark_at marks p) refl) k le l m
      where
        across : ((p' : ℕ) → p < p' → p' < count → LiveBefore 0 g (Loc v) p' (length (ops_at graph p')) → LiveBefore 0 g (Loc w) p' (length (ops_at graph p')) → Visited v w) → (p' : ℕ) → p < p' → GoesTo (exit_at g p') p → LiveAt 0 g (Loc v) p → LiveAt 0 g (Loc w) p → (p' < count) ⊎ (count ≤ p') → Visited v w
        across again p' less goes l m (inr past) = absurd (let same : p' ≡ p = subst (λ e. GoesTo e p) (exit_is p' ∙ ap (λ (n : Node Vreg). renamed_exit vreg_number n.exit) (no_node p' past)) goes in omega (arith, same, less))
        across again p' less goes l m (inl lt') = by_writing (overwritten_or_not v (exit_at graph p')) (overwritten_or_not w (exit_at graph p'))
          where
            over : (u : ℕ) → (Overwrites 0 (renamed_exit vreg_number (exit_at graph p')) (Loc u) → ⊥) → LiveAt 0 g (Loc u) p → LiveBefore 0 g (Loc u) p' (length (ops_at graph p'))
            over u none at =
                let many = as_many p' in
                subst (Live 0 g (Loc u) p') (sym (drop_all (length (ops_at graph p')) (ops_at g p') (omega (arith, many))))
                (onward p' p (λ o. none (subst (λ e. Overwrites 0 e (Loc u)) (exit_is p') o)) goes at)

            by_writing :
                (Overwrites 0 (renamed_exit vreg_number (exit_at graph p')) (Loc v) → ⊥) ⊎ IsArgumentOf (exit_at graph p') v
                → (Overwrites 0 (renamed_exit vreg_number (exit_at graph p')) (Loc w) → ⊥) ⊎ IsArgumentOf (exit_at graph p') w → Visited v w
            by_writing (inr h) r = let same = goes_on p' p h.0 h.1 h.2 goes in inl (after_call p' p h.0 v w lt' lt (h.2 ∙ ap (Call h.0) same) h.3 l m)
            by_writing (inl none) (inr h) = let same = goes_on p' p h.0 h.1 h.2 goes in inr (after_call p' p h.0 w v lt' lt (h.2 ∙ ap (Call h.0) same) h.3 m l)
            by_writing (inl none) (inl none') = again p' less lt' (over v none l) (over w none' m)

        at_start : ((p' : ℕ) → p < p' → p' < count → LiveBefore 0 g (Loc v) p' (length (ops_at graph p')) → LiveBefore 0 g (Loc w) p' (length (ops_at graph p')) → Visited v w) → (b : Bool) → mark_at marks p ≡ b → LiveAt 0 g (Loc v) p → LiveAt 0 g (Loc w) p → Visited v w
        at_start again true is l m = let h = covered p is in across again h.0 h.1 h.2 l m (low_or_past h.0 count)
        at_start again false is l m = inl (visit p v w lt (λ node same. inl (is, (among_live p 0 v lt (omega arith) l, among_live p 0 w lt (omega arith) m))))

  -- what is written with what is live after it
  at_write : (p : ℕ) (op : ByteOp ℕ) (ops : List (ByteOp ℕ)) (v w : ℕ) → IsPoint g p (op ∷ ops) → IsAmong (Loc v) (writes op) → Live 0 g (Loc w) p ops ⊎ IsAmong (Loc w) (writes op) → AtNodes marks graph.nodes sets count v w
  at_write p op ops v w point i other = by_place (low_or_past p count)
    where
      found : (x : ByteOp Vreg) × (slice_get (ops_at graph p) (length point.0) ≡ Some x) × (renamed_op vreg_number x ≡ op) × (ops ≡ drop (suc (length point.0)) (map (renamed_op vreg_number) (ops_at graph p)))
      found = split_at (renamed_op vreg_number) point.0 op ops (ops_at graph p) (point.1 ∙ ops_are p)

      written : (u : ℕ) → IsAmong (Loc u) (writes op) → In u (numbers (written_by found.0))
      written u j = written_among found.0 u (subst (λ o. IsAmong (Loc u) (writes o)) (sym found.2) j)

      by_other : p < count → Live 0 g (Loc w) p ops ⊎ IsAmong (Loc w) (writes op) → AtOperation found.0 (live_at (points_of sets p) (suc (length point.0))) v w
      by_other lt (inl l) =
          let within = slice_get_within (ops_at graph p) (length point.0) found.0 found.1 in
          inl (written v i, among_live p (suc (length point.0)) w lt (omega (arith, within)) (subst (Live 0 g (Loc w) p) (found.3 ∙ ap (drop (suc (length point.0))) (sym (ops_are p))) l))
      by_other lt (inr j) = inr (written v i, written w j)

      by_place : (p < count) ⊎ (count ≤ p) → AtNodes marks graph.nodes sets count v w
      by_place (inl lt) = visit_operation p (length point.0) v w found.0 lt found.1 (by_other lt other)
      by_place (inr past) = absurd (none (point.0) (point.1 ∙ no_ops p past))
        where
          none : (made : List (ByteOp ℕ)) → made ++ op ∷ ops ≡ [] → ⊥
          none [] e = cc
          none (m ∷ made) e = cc

  pub interfering_visited : (v w : ℕ) → Interfere g v w → Visited v w
  interfering_visited v w (both_live p ops point l m) =
      let h = last_part point.0 ops (ops_at g p) point.1 in
      let le = h.0 in
      let many = as_many p in
      let l' = subst (Live 0 g (Loc v) p) h.1 l in
      let m' = subst (Live 0 g (Loc w) p) h.1 m in
      listed v w count p (omega arith) (length point.0) (there p (length point.0) v l') (omega (arith, le, many)) l' m'
  interfering_visited v w (live_where_written p op ops point l i) = inr (at_write p op ops w v point i (inl l))
  interfering_visited v w (written_where_live p op ops point i l) = inl (at_write p op ops v w point i (inl l))
  interfering_visited v w (both_written p op ops point i j) = inl (at_write p op ops v w point i (inr j))
