-- What is asked of each item of a selected program of soundly labelled graphs: ways from labels end, tests have labels for arms, returns
-- land at labels, and no jump is one to itself.
use Rattle.std.proofs.Common.{◌≡◌, ℕ, zero, suc, ◌+◌, ◌-◌, ◌<◌, ◌≤◌, List, [], ◌∷◌, ◌++◌, length, map, drop, take, Bool, true, false, Some, inl, inr, ◌⊎◌, refl, sym, ap, ◌∙◌, subst, arith, slice_get, append_assoc, ⊎_elim}
use Rattle.std.specs.Prelude.{nat_eq, if◌then◌else◌, count_by}
use Rattle.std.specs.List.{AllByRecursion, enumerate_from}
use Rattle.std.proofs.lemmas.Bool.Decides.{eqb_tells}
use Rattle.std.proofs.lemmas.List.{length-map}
use Rattle.std.proofs.lemmas.Option.{slice_get_within}
use Rattle.cerco_traces.specs.LabelledGraphs.{In, LeadsTo, IsLabelNode, FlowGraph, UnlabelledPath, edge}
use Rattle.cerco_traces.proofs.Bounded.{extended}
use Rattle.mcs51_isa.specs.declared.instr.Instr.{Instr}
use Rattle.mcs51_isa.specs.declared.instr.Instr.TheVariants as Instruction
use Rattle.mcs51_isa.specs.declared.instr.ReturnKind.TheVariants.{FromCall}
use Rattle.rtl.specs.declared.locations.Place.{Place}
use Rattle.rtl.specs.declared.operations.Src.TheVariants.{At}
use Rattle.rtl.specs.declared.graphs.Exit.{Exit}
use Rattle.rtl.specs.declared.graphs.Exit.TheVariants as Out
use Rattle.rtl.specs.Programs.{Graph}
use Rattle.rtl.specs.Items.{LinItem, LinProgram}
use Rattle.rtl.specs.Items as Lin
use Rattle.rtl.specs.Graphs.{ops_at, exit_at, flow_of, AreSoundlyLabelled}
use Rattle.rtl.specs.WellFormed.{gathered, IsLinProgram}
use Rattle.asm51.specs.declared.items.AsmItem.{AsmItem}
use Rattle.asm51.specs.declared.items.AsmItem.TheVariants.{Plain, Mark, Enter, Here, Jump, Test, Call}
use Rattle.asm51.specs.WellFormed.{IsWellFormed}
use Rattle.asm51.specs.Selected.{has_code, TurnsBack}
use Rattle.asm51.specs.Ends.{at_end, HasEnd, calls, LabelEnds, HasArms, LandsAtStop}
use Rattle.asm51.proofs.Counting.{counted}
use Rattle.lin_gen.specs.Ordering.{head_of, way_to, exit_items, laid}
use Rattle.lin_gen.specs.Linearised.{AreOrderings}
use Rattle.lin_gen.proofs.Lists.{split, in_cases, in_back}
use Rattle.lin_gen.proofs.Sums.{gathered_append}
use Rattle.asm51_select.specs.Translation.{plains, take_code, op_code, item_code, functions_code, byte_code, selected}
use Rattle.asm51_select.proofs.Standing.{drop_get, drop_on, drop_past, Stands, stands_on}
use Rattle.asm51_select.proofs.Preserved.{start_instrs, start_stands, start_first}
use Rattle.asm51_select.proofs.Spares.{spare_is_straight, bytes_spare}
use Rattle.asm51_select.proofs.Blocks.{laid_split, ops_code, Function, function_at, spot, spot_is, node_stops, follower_stops, flow_is, exist, followed, call_stops, way_on_ends, plains_end}

-- ---- lists

get_drop : {A : Type 0} (xs : List A) (t i : ℕ) → slice_get (drop t xs) i ≡ slice_get xs (t + i)
get_drop xs zero i = let z : i ≡ 0 + i = omega arith in ap (slice_get xs) z
get_drop [] (suc t) i = let z : suc (t + i) ≡ suc t + i = omega arith in ap (slice_get []) z
get_drop (x ∷ xs) (suc t) i = let z : suc (t + i) ≡ suc t + i = omega arith in get_drop xs t i ∙ ap (slice_get (x ∷ xs)) z

get_take : {A : Type 0} (xs : List A) (k j : ℕ) → j < k → slice_get (take k xs) j ≡ slice_get xs j
get_take xs zero j lt = absurd (omega arith)
get_take [] (suc k) j lt = refl
get_take (x ∷ xs) (suc k) zero lt = refl
get_take (x ∷ xs) (suc k) (suc j) lt = get_take xs k j (omega arith)

drop_end : {A : Type 0} (xs : List A) (k : ℕ) → drop k xs ≡ [] → length xs ≤ k
drop_end [] k e = omega arith
drop_end (x ∷ xs) zero e = absurd cc
drop_end (x ∷ xs) (suc k) e = let n = drop_end xs k e in omega arith

-- what holds at each place holds of each numbered item
pub each_numbered : (P : ℕ → AsmItem → Type 0) (i : ℕ) (xs : List AsmItem) → ((j : ℕ) (x : AsmItem) → slice_get xs j ≡ Some x → P (i + j) x) → AllByRecursion (λ p. P p.0 p.1) (enumerate_from i xs)
each_numbered P i [] h = tt
each_numbered P i (x ∷ xs) h =
    let z : i + 0 ≡ i = omega arith in
    (subst (λ n. P n x) z (h 0 x refl), each_numbered P (i + 1) xs (λ j y g. let s : i + suc j ≡ i + 1 + j = omega arith in subst (λ n. P n y) s (h (suc j) y g)))

-- code between two places of a list
pub record HasCodeIn (items : List AsmItem) (t k : ℕ) : Type 0 where
  pub at : ℕ
  pub item : AsmItem
  pub from : t ≤ at
  pub before : at < k
  pub is : slice_get items at ≡ Some item
  pub code : has_code item ≡ true

still_there : {items : List AsmItem} {t k k' : ℕ} → k ≤ k' → HasCodeIn items t k → HasCodeIn items t k'
still_there le c = record { at = c.at; item = c.item; from = c.from; before = let lt = c.before in omega arith; is = c.is; code = c.code }

code_counts : (items : List AsmItem) (t k : ℕ) → HasCodeIn items t k → 1 ≤ count_by has_code (drop t (take k items))
code_counts items t k c =
    let from = c.from in
    let z : t + (c.at - t) ≡ c.at = omega arith in
    counted has_code (drop t (take k items)) (c.at - t) c.item (get_drop (take k items) t (c.at - t) ∙ ap (slice_get (take k items)) z ∙ get_take items k c.at c.before ∙ c.is) c.code

module _ (program : LinProgram) (graphs : List (Graph Place)) (are : AreOrderings graphs program.lins) (sound : AreSoundlyLabelled graphs) (formed : IsLinProgram program) (well : IsWellFormed (selected program)) where
  abbrev asm : List AsmItem
  asm = selected program

  abbrev Fits : ℕ → AsmItem → Type 0
  Fits k item = LabelEnds asm k item × (HasArms asm k item × (LandsAtStop asm k item × TurnsBack asm k item))

  -- all items from a place on fit
  FitFrom : ℕ → Type 0
  FitFrom k = (j : ℕ) (item : AsmItem) → k ≤ j → slice_get asm j ≡ Some item → Fits j item

  fit_one : (k : ℕ) (item : AsmItem) → slice_get asm k ≡ Some item → Fits k item → FitFrom (suc k) → FitFrom k
  unfolding FitFrom
  fit_one k item there fits more j x le g = by (at_or_after k j le)
    where
      at_or_after : (k j : ℕ) → k ≤ j → (k ≡ j) ⊎ (suc k ≤ j)
      at_or_after k j le = grind arith

      by : (k ≡ j) ⊎ (suc k ≤ j) → Fits j x
      by (inl e) =
          let same : item ≡ x = one_item (sym there ∙ ap (slice_get asm) e ∙ g) in
          subst (λ n. Fits n x) e (subst (Fits k) same fits)
        where
          one_item : Some item ≡ Some x → item ≡ x
          one_item e = cc
      by (inr lt) = more j x lt g

  fit_end : (k : ℕ) → drop k asm ≡ [] → FitFrom k
  unfolding FitFrom
  fit_end k e j x le g = absurd (past (drop_end asm k e) (slice_get_within asm j x g))
    where
      past : length asm ≤ k → j < length asm → ⊥
      past a b = omega arith

  fit_plains : (is : List Instr) (k : ℕ) (ys : List AsmItem) → drop k asm ≡ plains is ++ ys → FitFrom (k + length is) → FitFrom k
  fit_plains [] k ys e more = let z : k + 0 ≡ k = omega arith in subst FitFrom z more
  fit_plains (i ∷ is) k ys e more =
      let z : k + suc (length is) ≡ suc k + length is = omega arith in
      fit_one k (Plain i) (drop_get asm k (Plain i) (plains is ++ ys) e) (tt, (tt, (tt, tt)))
      (fit_plains is (suc k) ys (drop_on asm k (Plain i) (plains is ++ ys) e) (subst FitFrom z more))

  module _ (f : ℕ) (F : Function program f) (more : List AsmItem) (ends : (k : ℕ) → drop k asm ≡ more → FitFrom k) where
    abbrev g : Graph Place
    g = F.graph

    abbrev G : FlowGraph
    G = flow_of F.graph

    abbrev order : List ℕ
    order = F.ordering.order

    abbrev at_node : ℕ → ℕ
    at_node p = spot program graphs are sound formed well f p

    -- these items of the function come here, and then more
    abbrev Comes : List LinItem → ℕ → Type 0
    Comes left k = drop k asm ≡ gathered (item_code f) left ++ more

    stands : (left front : List LinItem) (k : ℕ) → F.its ≡ front ++ left → Comes left k → Stands program f left k
    stands left front k whole e = record { its = F.its; there = F.there; front = front; whole = whole; more = more; is = e }

    -- A node that was gone through: code has been passed since, or no label has been.
    abbrev IsBehind : ℕ → ℕ → ℕ → Type 0
    IsBehind n p k = (at_node n ≤ k) × (HasCodeIn asm (at_node n) k ⊎ ((n ≡ p) ⊎ UnlabelledPath G n p))

    abbrev AreBehind : List ℕ → ℕ → ℕ → Type 0
    AreBehind seen p k = (n : ℕ) → In n seen → IsBehind n p k

    abbrev Seen : List ℕ → List ℕ → ℕ → Type 0
    Seen seen [] k = Unit {0}
    Seen seen (p ∷ rest) k = (n : ℕ) → In n seen → (at_node n ≤ k) × (HasCodeIn asm (at_node n) k ⊎ UnlabelledPath G n p)

    -- after code nothing is left to show
    all_seen : (seen rest : List ℕ) (k j : ℕ) (item : AsmItem) → slice_get asm j ≡ Some item → has_code item ≡ true → j < k → ((n : ℕ) → In n seen → at_node n ≤ j) → Seen seen rest k
    all_seen seen [] k j item is code lt low = tt
    all_seen seen (p ∷ rest) k j item is code lt low = λ n i. let le = low n i in (omega arith, inl (record { at = j; item = item; from = le; before = lt; is = is; code = code }))

    -- the order from a node on
    module _ (p : ℕ) (front : List ℕ) where
      abbrev seen : List ℕ
      seen = front ++ p ∷ []

      abbrev IsWhole : List ℕ → Type 0
      IsWhole rest = order ≡ front ++ p ∷ rest

      -- a jump back passes code
      turns : (rest : List ℕ) → IsWhole rest → (q k : ℕ) → q < length g.nodes → Comes (Lin.Jump q ∷ laid g rest) k → (In q seen → HasCodeIn asm (at_node q) k) → TurnsBack asm k (Jump f q)
      turns rest whole q k lt e pass back = by (in_cases q seen rest (subst (In q) (whole ∙ sym (append_assoc front (p ∷ []) rest)) (F.ordering.ordered.every q lt)))
        where
          by : In q seen ⊎ In q rest → 1 ≤ count_by has_code (drop (at_node q) (take k asm))
          by (inl i) = code_counts asm (at_node q) k (pass i)
          by (inr i) =
              let w = split q rest i in
              let pre = laid_split g w.front (q ∷ w.rest) in
              let left = ap (laid g) w.whole ∙ pre.1 in
              let code = ap (gathered (item_code f)) left ∙ gathered_append (item_code f) pre.0 (laid g (q ∷ w.rest)) in
              let all = ap (λ z. z ++ more) code ∙ append_assoc (gathered (item_code f) pre.0) (gathered (item_code f) (laid g (q ∷ w.rest))) more in
              let e1 = drop_on asm k (Jump f q) (gathered (item_code f) (laid g rest) ++ more) e ∙ all in
              let k' = suc k + length (gathered (item_code f) pre.0) in
              let e2 = drop_past asm (suc k) (gathered (item_code f) pre.0) (gathered (item_code f) (laid g (q ∷ w.rest)) ++ more) e1 in
              let there = drop_get asm k' (Here f q) (gathered (item_code f) (map Lin.Op (ops_at g q) ++ exit_items (exit_at g q) (head_of w.rest) (laid g w.rest)) ++ more) e2 in
              absurd (after (length (gathered (item_code f) pre.0)) (spot_is program graphs are sound formed well f F q k' (F.ordering.ordered.every q lt) there) back)
            where
              after : (n : ℕ) → at_node q ≡ suc k + n → at_node q ≤ k → ⊥
              after n e le = omega arith

      -- the way on from the end of the node: what is asked of a jump, and of the node directly after
      fit_way : (rest : List ℕ) → IsWhole rest → (q k : ℕ) → q < length g.nodes → Comes (way_to q (head_of rest) (laid g rest)) k
          → ((n : ℕ) → In n seen → at_node n ≤ k)
          → (In q seen → HasCodeIn asm (at_node q) k)
          → (head_of rest ≡ Some q → Seen seen rest k)
          → ((k' : ℕ) → Comes (laid g rest) k' → Seen seen rest k' → FitFrom k')
          → FitFrom k
      fit_way [] whole q k lt e low pass fall rec =
          fit_one k (Jump f q) (drop_get asm k (Jump f q) more e) (tt, (tt, (tt, turns [] whole q k lt e pass))) (rec (suc k) (drop_on asm k (Jump f q) more e) tt)
      fit_way (r ∷ rest) whole q k lt e low pass fall rec = by (eqb_tells q r)
        where
          by : ((nat_eq q r ≡ true) × (q ≡ r)) ⊎ ((nat_eq q r ≡ false) × (q ≡ r → ⊥)) → FitFrom k
          by (inl a) =
              rec k (subst (λ (b : Bool). Comes (if b then laid g (r ∷ rest) else Lin.Jump q ∷ laid g (r ∷ rest)) k) a.0 e) (fall (ap (λ x. Some x) (sym a.1)))
          by (inr a) =
              let e' : Comes (Lin.Jump q ∷ laid g (r ∷ rest)) k = subst (λ (b : Bool). Comes (if b then laid g (r ∷ rest) else Lin.Jump q ∷ laid g (r ∷ rest)) k) a.0 e in
              let ys = gathered (item_code f) (laid g (r ∷ rest)) ++ more in
              let there = drop_get asm k (Jump f q) ys e' in
              fit_one k (Jump f q) there (tt, (tt, (tt, turns (r ∷ rest) whole q k lt e' pass)))
              (rec (suc k) (drop_on asm k (Jump f q) ys e') (all_seen seen (r ∷ rest) (suc k) k (Jump f q) there refl (omega arith) low))

      -- a node that leads on without a label
      module _ (q : ℕ) (plain : IsLabelNode (G p) → ⊥) (leads : LeadsTo (G p) q) (k : ℕ) (behind : AreBehind seen p k) where
        no_way_back : In q seen → HasCodeIn asm (at_node q) k
        no_way_back i = by (behind q i).1
          where
            by : HasCodeIn asm (at_node q) k ⊎ ((q ≡ p) ⊎ UnlabelledPath G q p) → HasCodeIn asm (at_node q) k
            by (inl c) = c
            by (inr (inl same)) = absurd (F.sound.cycles p (edge p p plain (subst (LeadsTo (G p)) same leads)))
            by (inr (inr path)) = absurd (F.sound.cycles q (extended G q p q path plain leads))

        falls : (rest : List ℕ) → head_of rest ≡ Some q → Seen seen rest k
        falls [] next = tt
        falls (r ∷ rest) next =
            let same : q ≡ r = one_node (sym next) in
            λ n i. subst (λ x. (at_node n ≤ k) × (HasCodeIn asm (at_node n) k ⊎ UnlabelledPath G n x)) same ((behind n i).0, by n (behind n i).1)
          where
            one_node : Some q ≡ Some r → q ≡ r
            one_node e = cc

            by : (n : ℕ) → HasCodeIn asm (at_node n) k ⊎ ((n ≡ p) ⊎ UnlabelledPath G n p) → HasCodeIn asm (at_node n) k ⊎ UnlabelledPath G n q
            by n (inl c) = inl c
            by n (inr (inl e)) = inr (subst (λ x. UnlabelledPath G x q) (sym e) (edge p q plain leads))
            by n (inr (inr path)) = inr (extended G n p q path plain leads)

      fit_exit : (rest : List ℕ) (whole : IsWhole rest) (e : Exit Place) → exit_at g p ≡ e → (k : ℕ) → Comes (exit_items e (head_of rest) (laid g rest)) k → Stands program f (exit_items e (head_of rest) (laid g rest)) k → AreBehind seen p k
          → ((k' : ℕ) → Comes (laid g rest) k' → Seen seen rest k' → FitFrom k') → FitFrom k
      fit_exit rest whole (Out.Next q) is k e s behind rec =
          let flow = flow_is program graphs are sound formed well f F p front rest whole (Out.Next q) is in
          let below = exist program graphs are sound formed well f F p front rest whole (Out.Next q) is in
          let plain : IsLabelNode (G p) → ⊥ = λ m. subst (λ o. IsLabelNode o) flow m in
          let leads : LeadsTo (G p) q = subst (λ o. LeadsTo o q) (sym flow) (inl refl) in
          fit_way rest whole q k below.0 e (λ n i. (behind n i).0) (no_way_back q plain leads k behind) (falls q plain leads k behind rest) rec
      fit_exit rest whole (Out.Label l q) is k e s behind rec =
          let below = exist program graphs are sound formed well f F p front rest whole (Out.Label l q) is in
          let way = way_to q (head_of rest) (laid g rest) in
          let ys = gathered (item_code f) way ++ more in
          let there = drop_get asm k (Mark l) (Plain Instruction.Nop ∷ ys) e in
          let e1 = drop_on asm k (Mark l) (Plain Instruction.Nop ∷ ys) e in
          let nop = drop_get asm (suc k) (Plain Instruction.Nop) ys e1 in
          let e2 = drop_on asm (suc k) (Plain Instruction.Nop) ys e1 in
          let end = way_on_ends program graphs are sound formed well f F q below.0 p front rest whole (k + 2) (stands_on program f (Lin.Label l) way k s) in
          let low : (n : ℕ) → In n seen → at_node n ≤ suc k = λ n i. let le = (behind n i).0 in omega arith in
          fit_one k (Mark l) there (end, (tt, (tt, tt)))
          (fit_one (suc k) (Plain Instruction.Nop) nop (tt, (tt, (tt, tt)))
          (fit_way rest whole q (suc (suc k)) below.0 e2 (λ n i. let le = low n i in omega arith)
          (λ i. record { at = suc k; item = Plain Instruction.Nop; from = low q i; before = omega arith; is = nop; code = refl })
          (λ next. all_seen seen rest (suc (suc k)) (suc k) (Plain Instruction.Nop) nop refl (omega arith) low) rec))
      fit_exit rest whole (Out.Test v t o) is k e s behind rec =
          let flow = flow_is program graphs are sound formed well f F p front rest whole (Out.Test v t o) is in
          let below = exist program graphs are sound formed well f F p front rest whole (Out.Test v t o) is in
          let arms = F.sound.arms p t o flow in
          let ys = gathered (item_code f) (laid g rest) ++ more in
          let take_there = drop_get asm k (Plain (take_code (At v))) (Test f t ∷ ys) e in
          let e1 = drop_on asm k (Plain (take_code (At v))) (Test f t ∷ ys) e in
          let there = drop_get asm (suc k) (Test f t) ys e1 in
          let e2 = drop_on asm (suc k) (Test f t) ys e1 in
          let z : k + 2 ≡ suc (suc k) = omega arith in
          let after = subst (λ n. Stands program f (laid g rest) n) z (stands_on program f (Lin.Test v t) (laid g rest) k s) in
          let first = node_stops program graphs are sound formed well f F t below.0 arms.0 in
          let second = follower_stops program graphs are sound formed well f F p front rest whole o (suc (suc k)) (followed program graphs are sound formed well f F p front rest whole (Out.Test v t o) is) arms.1 after in
          let low : (n : ℕ) → In n seen → at_node n ≤ suc k = λ n i. let le = (behind n i).0 in omega arith in
          fit_one k (Plain (take_code (At v))) take_there (tt, (tt, (tt, tt)))
          (fit_one (suc k) (Test f t) there (tt, ((first, second), (tt, tt)))
          (rec (suc (suc k)) e2 (all_seen seen rest (suc (suc k)) (suc k) (Test f t) there refl (omega arith) low)))
      fit_exit rest whole (Out.Call h q) is k e s behind rec =
          let flow = flow_is program graphs are sound formed well f F p front rest whole (Out.Call h q) is in
          let ys = gathered (item_code f) (laid g rest) ++ more in
          let there = drop_get asm k (Call h) ys e in
          let z : k + 1 ≡ suc k = omega arith in
          let after = subst (λ n. Stands program f (laid g rest) n) z (stands_on program f (Lin.Call h) (laid g rest) k s) in
          let lands = follower_stops program graphs are sound formed well f F p front rest whole q (suc k) (followed program graphs are sound formed well f F p front rest whole (Out.Call h q) is) (F.sound.after_call p q flow).0 after in
          fit_one k (Call h) there (tt, (tt, (lands, tt)))
          (rec (suc k) (drop_on asm k (Call h) ys e) (all_seen seen rest (suc k) k (Call h) there refl (omega arith) (λ n i. (behind n i).0)))
      fit_exit rest whole Out.Return is k e s behind rec =
          let ys = gathered (item_code f) (laid g rest) ++ more in
          let there = drop_get asm k (Plain (Instruction.Ret FromCall)) ys e in
          fit_one k (Plain (Instruction.Ret FromCall)) there (tt, (tt, (tt, tt)))
          (rec (suc k) (drop_on asm k (Plain (Instruction.Ret FromCall)) ys e) (all_seen seen rest (suc k) k (Plain (Instruction.Ret FromCall)) there refl (omega arith) (λ n i. (behind n i).0)))

    fit_blocks : (rest front : List ℕ) (k : ℕ) → order ≡ front ++ rest → Comes (laid g rest) k → Seen front rest k → FitFrom k
    fit_blocks [] front k whole e before = ends k e
    fit_blocks (p ∷ rest) front k whole e before =
        let ops = ops_at g p in
        let last = exit_items (exit_at g p) (head_of rest) (laid g rest) in
        let is = gathered op_code ops in
        let ys = gathered (item_code f) (map Lin.Op ops ++ last) ++ more in
        let here = drop_get asm k (Here f p) ys e in
        let i : In p order = subst (In p) (sym whole) (in_back p front (p ∷ rest) (inl refl)) in
        let at = spot_is program graphs are sound formed well f F p k i here in
        let e1 = drop_on asm k (Here f p) ys e ∙ ap (λ z. z ++ more) (ops_code f ops last) ∙ append_assoc (plains is) (gathered (item_code f) last) more in
        let n : suc k + length (plains is) ≡ suc k + length is = ap (λ m. suc k + m) (length-map is Plain) in
        let k2 = suc k + length is in
        let e2 = ap (λ m. drop m asm) (sym n) ∙ drop_past asm (suc k) (plains is) (gathered (item_code f) last ++ more) e1 in
        let pre = laid_split g front (p ∷ rest) in
        let its_are : F.its ≡ (pre.0 ++ Lin.Here p ∷ map Lin.Op ops) ++ last = F.ordering.are ∙ ap (laid g) whole ∙ pre.1 ∙ sym (append_assoc pre.0 (Lin.Here p ∷ map Lin.Op ops) last) in
        fit_one k (Here f p) here (tt, (tt, (tt, tt)))
        (fit_plains is (suc k) (gathered (item_code f) last ++ more) e1
        (fit_exit p front rest whole (exit_at g p) refl k2 e2 (stands last (pre.0 ++ Lin.Here p ∷ map Lin.Op ops) k2 its_are e2)
        (λ m j. behind m at (in_cases m front (p ∷ []) j) (length is))
        (λ k' e' seen'. fit_blocks rest (front ++ p ∷ []) k' (whole ∙ sym (append_assoc front (p ∷ []) rest)) e' seen')))
      where
        behind : (m : ℕ) → at_node p ≡ k → In m front ⊎ In m (p ∷ []) → (n : ℕ) → IsBehind m p (suc k + n)
        behind m at (inl j) n = let b = before m j in let le = b.0 in (omega arith, ⊎_elim (λ c. inl (still_there (omega arith) c)) (λ w. inr (inr w)) b.1)
        behind m at (inr (inl same)) n = subst (λ x. IsBehind x p (suc k + n)) same (omega arith, inr (inl refl))
        behind m at (inr (inr none)) n = absurd none

  seen_none : (f : ℕ) (F : Function program f) (more : List AsmItem) (ends : (k : ℕ) → drop k asm ≡ more → FitFrom k) (rest : List ℕ) (k : ℕ) → Seen f F more ends [] rest k
  seen_none f F more ends [] k = tt
  seen_none f F more ends (p ∷ rest) k = λ n i. absurd i

  fit_functions : (base : ℕ) (lins : List (List LinItem)) (k : ℕ) → drop k asm ≡ functions_code base lins → ((i : ℕ) (its : List LinItem) → slice_get lins i ≡ Some its → slice_get program.lins (base + i) ≡ Some its) → FitFrom k
  unfolding function_at
  fit_functions base [] k e all = fit_end k e
  fit_functions base (its ∷ lins) k e all =
      let z : base + 0 ≡ base = omega arith in
      let F = function_at program graphs base its are sound (ap (slice_get program.lins) (sym z) ∙ all 0 its refl) in
      let more = functions_code (suc base) lins in
      let ys = gathered (item_code base) its ++ more in
      let next : (i : ℕ) (is : List LinItem) → slice_get lins i ≡ Some is → slice_get program.lins (suc base + i) ≡ Some is = λ i is there. let s : suc base + i ≡ base + suc i = omega arith in ap (slice_get program.lins) s ∙ all (suc i) is there in
      let ends : (k' : ℕ) → drop k' asm ≡ more → FitFrom k' = λ k' e'. fit_functions (suc base) lins k' e' next in
      let order = F.ordering.order in
      let items : gathered (item_code base) its ≡ gathered (item_code base) (laid F.graph order) = ap (gathered (item_code base)) F.ordering.are in
      fit_one k (Enter base) (drop_get asm k (Enter base) ys e) (tt, (tt, (tt, tt)))
      (fit_blocks base F more ends order [] (suc k) refl (drop_on asm k (Enter base) ys e ∙ ap (λ x. x ++ more) items) (seen_none base F more ends order (suc k)))

  first_call : slice_get asm (0 + length (start_instrs program.start)) ≡ Some (Call program.main)
  first_call =
      let z : 0 + length (start_instrs program.start) ≡ length (start_instrs program.start) = omega arith in
      ap (slice_get asm) z ∙ drop_get asm (length (start_instrs program.start)) (Call program.main) (Plain (Instruction.Sjmp 0xFE) ∷ functions_code 0 program.lins) (start_stands program)

  all_fit : FitFrom 0
  all_fit =
      let is = start_instrs program.start in
      let k = 0 + length is in
      let z : k ≡ length is = omega arith in
      let end : AsmItem = Plain (Instruction.Sjmp 0xFE) in
      let fs = functions_code 0 program.lins in
      let e = ap (λ n. drop n asm) z ∙ start_stands program in
      let e1 = drop_on asm k (Call program.main) (end ∷ fs) e in
      let there = drop_get asm (suc k) end fs e1 in
      let self : (i : ℕ) (its : List LinItem) → slice_get program.lins i ≡ Some its → slice_get program.lins (0 + i) ≡ Some its = λ i its g. let s : 0 + i ≡ i = omega arith in ap (slice_get program.lins) s ∙ g in
      fit_plains is 0 (Call program.main ∷ end ∷ fs) (start_first program)
      (fit_one k (Call program.main) first_call (tt, (tt, (at_end (suc k) there, tt)))
      (fit_one (suc k) end there (tt, (tt, (tt, tt)))
      (fit_functions 0 program.lins (suc (suc k)) (drop_on asm (suc k) end fs e1) self)))

  pub item_fits : (j : ℕ) (item : AsmItem) → slice_get asm j ≡ Some item → Fits j item
  unfolding FitFrom
  item_fits j item there = all_fit j item (omega arith) there

  pub start_ends : HasEnd asm 0
  start_ends =
      let is = start_instrs program.start in
      plains_end asm is 0 (Call program.main ∷ Plain (Instruction.Sjmp 0xFE) ∷ functions_code 0 program.lins) (start_first program) (tt, spare_is_straight (gathered byte_code program.start) (bytes_spare program.start))
      (calls (0 + length is) program.main first_call (call_stops program graphs are sound formed well (0 + length is) program.main first_call formed.functions.main))
