-- Where the nodes of soundly labelled graphs stand among the items of the selected program of their orderings, and where the ways from
-- there end.
use Rattle.std.proofs.Common.{◌≡◌, ℕ, zero, suc, ◌+◌, ◌<◌, List, [], ◌∷◌, ◌++◌, length, map, drop, Bool, true, false, Option, Some, None, inl, inr, ◌⊎◌, refl, sym, ap, ap₂, ◌∙◌, subst, arith, slice_get, append_assoc}
use Rattle.std.specs.Prelude.{nat_eq, if◌then◌else◌}
use Rattle.std.specs.List.{AllByRecursion}
use Rattle.std.proofs.lemmas.Bool.Decides.{eqb_tells}
use Rattle.std.proofs.lemmas.List.{length-map}
use Rattle.std.proofs.lemmas.Option.{slice_get-get_or, slice_get_within}
use Rattle.cerco_base.specs.declared.events.Label.{Label as LabelNumber}
use Rattle.cerco_traces.specs.LabelledGraphs.{In, LeadsTo, IsLabelNode, IsBounded, bounded}
use Rattle.cerco_traces.proofs.Bounded.{all_bounded}
use Rattle.mcs51_isa.specs.declared.instr.Instr.{Instr}
use Rattle.mcs51_isa.specs.declared.instr.Instr.TheVariants as Instruction
use Rattle.mcs51_isa.specs.declared.instr.ReturnKind.TheVariants.{FromCall}
use Rattle.sim51.specs.Straight.{AreStraight}
use Rattle.rtl.specs.declared.locations.Place.{Place}
use Rattle.rtl.specs.declared.operations.Src.TheVariants.{At}
use Rattle.rtl.specs.declared.graphs.Exit.{Exit}
use Rattle.rtl.specs.declared.graphs.Exit.TheVariants as Out
use Rattle.rtl.specs.Operations.{ByteOp}
use Rattle.rtl.specs.Programs.{Node, Graph}
use Rattle.rtl.specs.Items.{LinItem, LinProgram}
use Rattle.rtl.specs.Items as Lin
use Rattle.rtl.specs.Graphs.{stay, node_or, node_at, ops_at, exit_at, kind_of, kind_or_none, flow_of, IsSoundlyLabelled, AreSoundlyLabelled}
use Rattle.rtl.specs.Linear.{items_or, items_at}
use Rattle.asm51_select.proofs.Adding.{plains_append}
use Rattle.rtl.specs.WellFormed.{gathered, here_nodes, item_functions, item_locations, exit_nodes, op_locations, IsPlace, NamesNodes, IsLin, IsLinProgram}
use Rattle.asm51.specs.declared.items.AsmItem.{AsmItem}
use Rattle.asm51.specs.declared.items.AsmItem.TheVariants.{Plain, Mark, Enter, Here, Jump, Test, Call}
use Rattle.asm51.specs.Items.{is_here, place, target_of}
use Rattle.asm51.specs.WellFormed.{IsWellFormed}
use Rattle.asm51.specs.Ends.{IsStop, at_mark, after_place, after_entry, HasEnd, stops, returns, goes_on, passes_place, jumps, parts, calls}
use Rattle.asm51.proofs.Counting.{of_each}
use Rattle.lin_gen.specs.Ordering.{head_of, way_to, exit_items, node_items, laid, follower_of, IsFollowedBy, KeepsFollowers, IsOrdering}
use Rattle.lin_gen.specs.Linearised.{AreOrderings}
use Rattle.lin_gen.proofs.Lists.{split, in_back, head_split}
use Rattle.lin_gen.proofs.Laying.{node_more}
use Rattle.lin_gen.proofs.Named.{AreBelow, nodes_named}
use Rattle.lin_gen.proofs.Following.{follower_at}
use Rattle.lin_gen.proofs.Kept.{nodes_laid}
use Rattle.asm51_select.specs.Translation.{plains, take_code, op_code, item_code, selected}
use Rattle.asm51_select.proofs.Spares.{spare_is_straight, op_spares, test_spares}
use Rattle.asm51_select.proofs.Standing.{drop_get, drop_on, begins_at, Stands, stands_split, stands_on}
use Rattle.asm51_select.proofs.Finding.{placed, here_passes, of_one, all_front, all_back, call_goes}
use Rattle.asm51_select.proofs.Formed.{here_once}

-- ---- nodes of graphs

kinds_at : (g : Graph Place) (p : ℕ) → p < length g.nodes → flow_of g p ≡ Some (kind_of (ops_at g p) (exit_at g p))
kinds_at g p lt =
    let e = slice_get-get_or g.nodes p (stay p) lt in
    ap kind_or_none e ∙ ap (λ o. Some (kind_of (node_or p o).ops (node_or p o).exit)) (sym e)

-- a label node has no operations, and a label
pub record IsLabelAt (g : Graph Place) (q : ℕ) : Type 0 where
  pub label : LabelNumber
  pub next : ℕ
  pub ops : ops_at g q ≡ []
  pub exit : exit_at g q ≡ Out.Label label next

pub label_at : (g : Graph Place) (q : ℕ) → IsLabelNode (flow_of g q) → IsLabelAt g q
label_at g q is = by_node (slice_get g.nodes q) refl is
  where
    by_exit : (ops : List (ByteOp Place)) (e : Exit Place) → IsLabelNode (Some (kind_of ops e)) → (l : LabelNumber) × (r : ℕ) × (ops ≡ []) × (e ≡ Out.Label l r)
    by_exit [] (Out.Label l r) h = (l, r, refl, refl)
    by_exit (op ∷ ops) (Out.Label l r) h = absurd h
    by_exit ops (Out.Next r) h = absurd h
    by_exit ops (Out.Test v t o) h = absurd h
    by_exit ops (Out.Call f r) h = absurd h
    by_exit ops Out.Return h = absurd h

    by_node : (o : Option (Node Place)) → slice_get g.nodes q ≡ o → IsLabelNode (kind_or_none o) → IsLabelAt g q
    by_node None e h = absurd h
    by_node (Some n) e h =
        let a = by_exit n.ops n.exit h in
        record { label = a.0; next = a.1; ops = ap (λ o. (node_or q o).ops) e ∙ a.2; exit = ap (λ o. (node_or q o).exit) e ∙ a.3 }

-- the nodes up to a place of an order, and those from there on
pub laid_split : (g : Graph Place) (front rest : List ℕ) → (pre : List LinItem) × (laid g (front ++ rest) ≡ pre ++ laid g rest)
laid_split g [] rest = ([], refl)
laid_split g (p ∷ front) rest =
    let r = laid_split g front rest in
    let now = node_items p (node_at g p) (head_of (front ++ rest)) [] in
    (now ++ r.0, node_more p (node_at g p) (head_of (front ++ rest)) (laid g (front ++ rest)) ∙ ap (λ z. now ++ z) r.1 ∙ sym (append_assoc now r.0 (laid g rest)))

-- ---- the functions of the program

-- A function of the program, the graph that it is an ordering of, and what is known of the graph.
pub record Function (program : LinProgram) (f : ℕ) : Type 0 where
  pub its : List LinItem
  pub there : slice_get program.lins f ≡ Some its
  pub graph : Graph Place
  pub named : NamesNodes graph
  pub ordering : IsOrdering graph its
  pub sound : IsSoundlyLabelled graph

pub graph_of_function : (graphs : List (Graph Place)) (lins : List (List LinItem)) (f : ℕ) (its : List LinItem) → AreOrderings graphs lins → AreSoundlyLabelled graphs → slice_get lins f ≡ Some its → (g : Graph Place) × NamesNodes g × IsOrdering g its × IsSoundlyLabelled g
graph_of_function [] [] f its are sound there = absurd cc
graph_of_function [] (x ∷ lins) f its are sound there = absurd are
graph_of_function (g ∷ gs) [] f its are sound there = absurd are
graph_of_function (g ∷ gs) (x ∷ lins) zero its are sound there =
    let same : x ≡ its = cc in
    (g, are.0, subst (IsOrdering g) same are.1, sound.0)
graph_of_function (g ∷ gs) (x ∷ lins) (suc f) its are sound there = graph_of_function gs lins f its are.2 sound.1 there

unfoldable pub function_at : (program : LinProgram) (graphs : List (Graph Place)) (f : ℕ) (its : List LinItem) → AreOrderings graphs program.lins → AreSoundlyLabelled graphs → slice_get program.lins f ≡ Some its → Function program f
function_at program graphs f its are sound there =
    let g = graph_of_function graphs program.lins f its are sound there in
    record { its = its; there = there; graph = g.0; named = g.1; ordering = g.2; sound = g.3 }

-- ---- code that is gone through

-- the code of operations is the code of each, one after the other
pub ops_code : (f : ℕ) (ops : List (ByteOp Place)) (left : List LinItem) → gathered (item_code f) (map Lin.Op ops ++ left) ≡ plains (gathered op_code ops) ++ gathered (item_code f) left
ops_code f [] left = refl
ops_code f (op ∷ ops) left =
    ap (λ z. plains (op_code op) ++ z) (ops_code f ops left)
    ∙ sym (append_assoc (plains (op_code op)) (plains (gathered op_code ops)) (gathered (item_code f) left))
    ∙ ap (λ z. z ++ gathered (item_code f) left) (sym (plains_append (op_code op) (gathered op_code ops)))

over_plains : (items : List AsmItem) (is : List Instr) (k : ℕ) (ys : List AsmItem) → drop k items ≡ plains is ++ ys → AreStraight is → HasEnd items (k + length is) → HasEnd items k
over_plains items [] k ys e straight end = let z : k + 0 ≡ k = omega arith in subst (HasEnd items) z end
over_plains items (i ∷ is) k ys e straight end =
    let z : k + suc (length is) ≡ suc k + length is = omega arith in
    goes_on k i (drop_get items k (Plain i) (plains is ++ ys) e) straight.0
    (over_plains items is (suc k) ys (drop_on items k (Plain i) (plains is ++ ys) e) straight.1 (subst (HasEnd items) z end))

pub plains_end : (items : List AsmItem) (is : List Instr) (k : ℕ) (ys : List AsmItem) → drop k items ≡ plains is ++ ys → AreStraight is → HasEnd items (k + length is) → HasEnd items k
plains_end = over_plains

both_straight : (is js : List Instr) → AreStraight is → AreStraight js → AreStraight (is ++ js)
both_straight [] js h k = k
both_straight (i ∷ is) js h k = (h.0, both_straight is js h.1 k)

module _ (program : LinProgram) (graphs : List (Graph Place)) (are : AreOrderings graphs program.lins) (sound : AreSoundlyLabelled graphs) (formed : IsLinProgram program) (well : IsWellFormed (selected program)) where
  abbrev asm : List AsmItem
  asm = selected program

  -- where the place of a node stands
  abbrev pub spot : ℕ → ℕ → ℕ
  spot f p = place (is_here f p) asm

  lin_at : (f : ℕ) (its : List LinItem) → slice_get program.lins f ≡ Some its → IsLin its
  lin_at f its there = of_each IsLin program.lins f its formed.lins there

  pub places_left : (f : ℕ) (left : List LinItem) (k : ℕ) → Stands program f left k → AllByRecursion IsPlace (gathered item_locations left)
  places_left f left k s =
      let all = subst (λ z. AllByRecursion IsPlace (gathered item_locations z)) s.whole (lin_at f s.its s.there).places in
      past s.front all
    where
      past : (front : List LinItem) → AllByRecursion IsPlace (gathered item_locations (front ++ left)) → AllByRecursion IsPlace (gathered item_locations left)
      past [] h = h
      past (x ∷ front) h = past front (all_back IsPlace (item_locations x) (gathered item_locations (front ++ left)) h)

  pub ops_straight : (ops : List (ByteOp Place)) (left : List LinItem) → AllByRecursion IsPlace (gathered item_locations (map Lin.Op ops ++ left)) → AreStraight (gathered op_code ops)
  ops_straight [] left ok = tt
  ops_straight (op ∷ ops) left ok =
      both_straight (op_code op) (gathered op_code ops) (spare_is_straight (op_code op) (op_spares op (all_front IsPlace (op_locations op) (gathered item_locations (map Lin.Op ops ++ left)) ok)))
      (ops_straight ops left (all_back IsPlace (op_locations op) (gathered item_locations (map Lin.Op ops ++ left)) ok))

  module _ (f : ℕ) (F : Function program f) where
    abbrev g : Graph Place
    g = F.graph

    abbrev order : List ℕ
    order = F.ordering.order

    here_order : gathered here_nodes F.its ≡ order
    here_order = ap (gathered here_nodes) F.ordering.are ∙ nodes_laid g order

    -- a node of the order stands at its place
    pub spot_is : (p k : ℕ) → In p order → slice_get asm k ≡ Some (Here f p) → spot f p ≡ k
    spot_is p k i at = placed asm (is_here f p) k (Here f p) (here_once program formed f p F.its F.there (subst (In p) (sym here_order) i)) at (here_passes f p)

    pub block_stands : (p : ℕ) (front rest : List ℕ) → order ≡ front ++ p ∷ rest → Stands program f (laid g (p ∷ rest)) (spot f p)
    block_stands p front rest whole =
        let pre = laid_split g front (p ∷ rest) in
        let all : F.its ≡ pre.0 ++ laid g (p ∷ rest) = F.ordering.are ∙ ap (laid g) whole ∙ pre.1 in
        let k = suc (begins_at program f F.its F.there).at + length (gathered (item_code f) pre.0) in
        let s = stands_split program f F.its pre.0 (laid g (p ∷ rest)) F.there all in
        let there = drop_get asm k (Here f p) (gathered (item_code f) (map Lin.Op (ops_at g p) ++ exit_items (exit_at g p) (head_of rest) (laid g rest)) ++ s.more) s.is in
        subst (λ n. Stands program f (laid g (p ∷ rest)) n) (sym (spot_is p k (subst (In p) (sym whole) (in_back p front (p ∷ rest) (inl refl))) there)) s

    -- a label is a stop
    pub label_stops : (q : ℕ) (rest : List ℕ) (k : ℕ) → IsLabelNode (flow_of g q) → Stands program f (laid g (q ∷ rest)) k → IsStop asm k
    label_stops q rest k marked s =
        let l = label_at g q marked in
        let tail = way_to l.next (head_of rest) (laid g rest) in
        let left : laid g (q ∷ rest) ≡ Lin.Here q ∷ Lin.Label l.label ∷ tail = ap₂ (λ (ops : List (ByteOp Place)) (e : Exit Place). Lin.Here q ∷ (map Lin.Op ops ++ exit_items e (head_of rest) (laid g rest))) l.ops l.exit in
        let items = Mark l.label ∷ Plain Instruction.Nop ∷ (gathered (item_code f) tail ++ s.more) in
        let e : drop k asm ≡ Here f q ∷ items = s.is ∙ ap (λ z. gathered (item_code f) z ++ s.more) left in
        after_place k f q (drop_get asm k (Here f q) items e) (at_mark (suc k) l.label (drop_get asm (suc k) (Mark l.label) (Plain Instruction.Nop ∷ (gathered (item_code f) tail ++ s.more)) (drop_on asm k (Here f q) items e)))

    pub node_stops : (q : ℕ) → q < length g.nodes → IsLabelNode (flow_of g q) → IsStop asm (spot f q)
    node_stops q lt marked =
        let s = split q order (F.ordering.ordered.every q lt) in
        label_stops q s.rest (spot f q) marked (block_stands q s.front s.rest s.whole)

    -- the entry of the function is a stop
    pub entry_stops : (k : ℕ) → slice_get asm k ≡ Some (Enter f) → Stands program f F.its (suc k) → IsStop asm k
    entry_stops k at s =
        let e = head_split g.entry order F.ordering.ordered.first in
        let left : F.its ≡ laid g (g.entry ∷ e.0) = F.ordering.are ∙ ap (laid g) e.1 in
        after_entry k f at (label_stops g.entry e.0 (suc k) F.sound.entry_marked (subst (λ z. Stands program f z (suc k)) left s))

    -- every path from a node comes to a label or to an end
    pub all_end : (p : ℕ) → IsBounded (flow_of g) p
    all_end p = all_bounded (flow_of g) (length g.nodes) within F.sound.cycles p
      where
        within : (p q : ℕ) → LeadsTo (flow_of g p) q → p < length g.nodes
        within p q leads = by (slice_get g.nodes p) refl leads
          where
            by : (o : Option (Node Place)) → slice_get g.nodes p ≡ o → LeadsTo (kind_or_none o) q → p < length g.nodes
            by None e h = absurd h
            by (Some n) e h = slice_get_within g.nodes p n e

    module _ (p : ℕ) (front rest : List ℕ) (whole : order ≡ front ++ p ∷ rest) where
      pub present : p < length g.nodes
      present = F.ordering.ordered.only p (subst (In p) (sym whole) (in_back p front (p ∷ rest) (inl refl)))

      pub flow_is : (e : Exit Place) → exit_at g p ≡ e → flow_of g p ≡ Some (kind_of (ops_at g p) e)
      flow_is e is = kinds_at g p present ∙ ap (λ x. Some (kind_of (ops_at g p) x)) is

      pub exist : (e : Exit Place) → exit_at g p ≡ e → AreBelow (length g.nodes) (exit_nodes e)
      exist e is = subst (λ x. AreBelow (length g.nodes) (exit_nodes x)) is (nodes_named g F.named p present)

      pub followed : (e : Exit Place) → exit_at g p ≡ e → IsFollowedBy (follower_of e) rest
      followed e is = subst (λ z. IsFollowedBy (follower_of z) rest) is (follower_at g front p rest (subst (KeepsFollowers g) whole F.ordering.ordered.followers))

      -- the node directly after is a stop
      pub follower_stops : (q k : ℕ) → head_of rest ≡ Some q → IsLabelNode (flow_of g q) → Stands program f (laid g rest) k → IsStop asm k
      follower_stops q k next marked s =
          let h = head_split q rest next in
          label_stops q h.0 k marked (subst (λ z. Stands program f (laid g z) k) h.1 s)

    -- ---- ways

    -- the way from the end of a node: to where the way of another node ends
    way_ends : (q k : ℕ) (rest : List ℕ) → ((r : ℕ) → In r rest → In r order) → Stands program f (way_to q (head_of rest) (laid g rest)) k → HasEnd asm (spot f q) → HasEnd asm k
    way_ends q k [] among s end = jumps k f q (drop_get asm k (Jump f q) s.more s.is) end
    way_ends q k (r ∷ rest) among s end = by (eqb_tells q r)
      where
        by : ((nat_eq q r ≡ true) × (q ≡ r)) ⊎ ((nat_eq q r ≡ false) × (q ≡ r → ⊥)) → HasEnd asm k
        by (inl a) =
            let s' : Stands program f (laid g (r ∷ rest)) k = subst (λ (b : Bool). Stands program f (if b then laid g (r ∷ rest) else Lin.Jump q ∷ laid g (r ∷ rest)) k) a.0 s in
            let at = drop_get asm k (Here f r) (gathered (item_code f) (map Lin.Op (ops_at g r) ++ exit_items (exit_at g r) (head_of rest) (laid g rest)) ++ s'.more) s'.is in
            subst (HasEnd asm) (ap (spot f) a.1 ∙ spot_is r k (among r (inl refl)) at) end
        by (inr a) =
            let s' : Stands program f (Lin.Jump q ∷ laid g (r ∷ rest)) k = subst (λ (b : Bool). Stands program f (if b then laid g (r ∷ rest) else Lin.Jump q ∷ laid g (r ∷ rest)) k) a.0 s in
            jumps k f q (drop_get asm k (Jump f q) (gathered (item_code f) (laid g (r ∷ rest)) ++ s'.more) s'.is) end

    rest_among : (p : ℕ) (front rest : List ℕ) → order ≡ front ++ p ∷ rest → (r : ℕ) → In r rest → In r order
    rest_among p front rest whole r i = subst (In r) (sym whole) (in_back r front (p ∷ rest) (inr i))

    called : (h : ℕ) (k : ℕ) (left : List LinItem) → Stands program f (Lin.Call h ∷ left) k → h < length program.lins
    called h k left s =
        let all = of_each (λ items. AllByRecursion (λ n. n < length program.lins) (gathered item_functions items)) program.lins f s.its formed.functions.called s.there in
        (of_one (λ n. n < length program.lins) item_functions s.front (Lin.Call h) left (subst (λ z. AllByRecursion (λ n. n < length program.lins) (gathered item_functions z)) s.whole all)).0

  -- a call leads to a stop
  pub call_stops : (k h : ℕ) → slice_get asm k ≡ Some (Call h) → h < length program.lins → IsStop asm (target_of asm (Call h))
  unfolding function_at
  call_stops k h at lt =
      let is = slice_get-get_or program.lins h [] lt in
      let F = function_at program graphs h _ are sound is in
      let e = call_goes program well k h at lt in
      let its : items_at program.lins h ≡ F.its = ap items_or is in
      entry_stops h F (target_of asm (Call h)) e.entry (subst (λ z. Stands program h z (suc (target_of asm (Call h)))) its e.stands)

  module _ (f : ℕ) (F : Function program f) where
    exit_ends : (p : ℕ) (front rest : List ℕ) (whole : F.ordering.order ≡ front ++ p ∷ rest) (e : Exit Place) → exit_at F.graph p ≡ e → (k : ℕ) → Stands program f (exit_items e (head_of rest) (laid F.graph rest)) k
        → ((q : ℕ) → (IsLabelNode (flow_of F.graph p) → ⊥) → LeadsTo (flow_of F.graph p) q → HasEnd asm (spot f q)) → HasEnd asm k
    exit_ends p front rest whole (Out.Next q) is k s rec =
        let flow = flow_is f F p front rest whole (Out.Next q) is in
        way_ends f F q k rest (rest_among f F p front rest whole) s
        (rec q (λ m. subst (λ o. IsLabelNode o) flow m) (subst (λ o. LeadsTo o q) (sym flow) (inl refl)))
    exit_ends p front rest whole (Out.Label l q) is k s rec =
        stops k (at_mark k l (drop_get asm k (Mark l) (Plain Instruction.Nop ∷ (gathered (item_code f) (way_to q (head_of rest) (laid F.graph rest)) ++ s.more)) s.is))
    exit_ends p front rest whole (Out.Test v t o) is k s rec =
        let flow = flow_is f F p front rest whole (Out.Test v t o) is in
        let arms = F.sound.arms p t o flow in
        let below = exist f F p front rest whole (Out.Test v t o) is in
        let more = Test f t ∷ (gathered (item_code f) (laid F.graph rest) ++ s.more) in
        let ok = (places_left f (Lin.Test v t ∷ laid F.graph rest) k s).0 in
        let after = stands_on program f (Lin.Test v t) (laid F.graph rest) k s in
        let z : k + 2 ≡ suc (suc k) = omega arith in
        goes_on k (take_code (At v)) (drop_get asm k (Plain (take_code (At v))) more s.is) (test_spares v ok).0
        (parts (suc k) f t (drop_get asm (suc k) (Test f t) (gathered (item_code f) (laid F.graph rest) ++ s.more) (drop_on asm k (Plain (take_code (At v))) more s.is))
        (node_stops f F t below.0 arms.0)
        (follower_stops f F p front rest whole o (suc (suc k)) (followed f F p front rest whole (Out.Test v t o) is) arms.1 (subst (λ n. Stands program f (laid F.graph rest) n) z after)))
    exit_ends p front rest whole (Out.Call h q) is k s rec =
        let at = drop_get asm k (Call h) (gathered (item_code f) (laid F.graph rest) ++ s.more) s.is in
        calls k h at (call_stops k h at (called f F h k (laid F.graph rest) s))
    exit_ends p front rest whole Out.Return is k s rec =
        returns k FromCall (drop_get asm k (Plain (Instruction.Ret FromCall)) (gathered (item_code f) (laid F.graph rest) ++ s.more) s.is)

    ops_end : (ops : List (ByteOp Place)) (left : List LinItem) (k : ℕ) → Stands program f (map Lin.Op ops ++ left) k → ((k' : ℕ) → Stands program f left k' → HasEnd asm k') → HasEnd asm k
    ops_end [] left k s end = end k s
    ops_end (op ∷ ops) left k s end =
        let ok = places_left f (map Lin.Op (op ∷ ops) ++ left) k s in
        let is = op_code op in
        let n : k + length (plains is) ≡ k + length is = ap (λ m. k + m) (length-map is Plain) in
        let on = subst (λ m. Stands program f (map Lin.Op ops ++ left) m) n (stands_on program f (Lin.Op op) (map Lin.Op ops ++ left) k s) in
        over_plains asm is k (gathered (item_code f) (map Lin.Op ops ++ left) ++ s.more) (s.is ∙ append_assoc (plains is) (gathered (item_code f) (map Lin.Op ops ++ left)) s.more)
        (spare_is_straight is (op_spares op (all_front IsPlace (op_locations op) (gathered item_locations (map Lin.Op ops ++ left)) ok)))
        (ops_end ops left (k + length is) on end)

    pub node_ends : (p : ℕ) → IsBounded (flow_of F.graph) p → p < length F.graph.nodes → HasEnd asm (spot f p)
    node_ends p (bounded p' next) lt =
        let w = split p F.ordering.order (F.ordering.ordered.every p lt) in
        let s = block_stands f F p w.front w.rest w.whole in
        let left = map Lin.Op (ops_at F.graph p) ++ exit_items (exit_at F.graph p) (head_of w.rest) (laid F.graph w.rest) in
        let z : spot f p + 1 ≡ suc (spot f p) = omega arith in
        let on = subst (λ m. Stands program f left m) z (stands_on program f (Lin.Here p) left (spot f p) s) in
        passes_place (spot f p) f p (drop_get asm (spot f p) (Here f p) (gathered (item_code f) left ++ s.more) s.is)
        (ops_end (ops_at F.graph p) (exit_items (exit_at F.graph p) (head_of w.rest) (laid F.graph w.rest)) (suc (spot f p)) on
        (λ k' s'. exit_ends p w.front w.rest w.whole (exit_at F.graph p) refl k' s' (λ q nm leads. node_ends q (next q nm leads) (below q leads))))
      where
        below : (q : ℕ) → LeadsTo (flow_of F.graph p) q → q < length F.graph.nodes
        below q leads = by (ops_at F.graph p) (exit_at F.graph p) (nodes_named F.graph F.named p lt) (subst (λ o. LeadsTo o q) (kinds_at F.graph p lt) leads)
          where
            bound : ℕ
            bound = length F.graph.nodes

            by : (ops : List (ByteOp Place)) (e : Exit Place) → AreBelow (length F.graph.nodes) (exit_nodes e) → LeadsTo (Some (kind_of ops e)) q → q < length F.graph.nodes
            by ops (Out.Next r) all (inl e) = subst (λ n. n < length F.graph.nodes) e all.0
            by ops (Out.Next r) all (inr i) = absurd i
            by ops (Out.Test v t o) all (inl e) = subst (λ n. n < length F.graph.nodes) e all.0
            by ops (Out.Test v t o) all (inr (inl e)) = subst (λ n. n < length F.graph.nodes) e all.1.0
            by ops (Out.Test v t o) all (inr (inr i)) = absurd i
            by ops (Out.Call h r) all (inl e) = subst (λ n. n < length F.graph.nodes) e all.0
            by ops (Out.Call h r) all (inr i) = absurd i
            by [] (Out.Label l r) all (inl e) = subst (λ n. n < length F.graph.nodes) e all.0
            by [] (Out.Label l r) all (inr i) = absurd i
            by (op ∷ ops) (Out.Label l r) all (inl e) = subst (λ n. n < length F.graph.nodes) e all.0
            by (op ∷ ops) (Out.Label l r) all (inr i) = absurd i
            by ops Out.Return all i = absurd i

    -- the way that begins after the operations of a node, or after its label
    pub way_on_ends : (q : ℕ) → q < length F.graph.nodes → (p : ℕ) (front rest : List ℕ) → F.ordering.order ≡ front ++ p ∷ rest → (k : ℕ) → Stands program f (way_to q (head_of rest) (laid F.graph rest)) k → HasEnd asm k
    way_on_ends q lt p front rest whole k s = way_ends f F q k rest (rest_among f F p front rest whole) s (node_ends q (all_end f F q) lt)
