-- Orderings of the graphs of a program preserve its traces: a forward simulation, in which jumps and places are silent steps.
use Rattle.std.proofs.Common.{◌≡◌, ℕ, zero, suc, ◌<◌, ◌≤◌, List, [], ◌∷◌, ◌++◌, length, map, Option, Some, None, Bool, true, false, IsTrue, inl, refl, sym, ap, ◌∙◌, subst, ⊎_elim, append_assoc, arith}
use Rattle.std.specs.Prelude.{if◌then◌else◌}
use Rattle.std.proofs.lemmas.Bool.Decides.{eqb_tells}
use Rattle.cerco_base.specs.declared.events.Event.TheVariants as Shown
use Rattle.cerco_traces.specs.LabelledGraphs.{In}
use Rattle.cerco_traces.specs.Systems.{System, EachWithin, IsWithin, Run, here, onward}
use Rattle.cerco_traces.specs.Preservation.{PreservesFor}
use Rattle.cerco_traces.specs.Worlds.{World, shown, start_world}
use Rattle.cerco_base.specs.Events.{IsPrefix}
use Rattle.cerco_traces.proofs.Simulation.{joined, prefix_refl, Simulates, simulation_preserves}
use Rattle.rtl.specs.declared.locations.Place.{Place}
use Rattle.rtl.specs.declared.graphs.Exit.{Exit}
use Rattle.rtl.specs.declared.graphs.Exit.TheVariants as Out
use Rattle.rtl.specs.Operations.{ByteOp}
use Rattle.rtl.specs.Programs.{Graph}
use Rattle.rtl.specs.Items.{LinItem, LinProgram}
use Rattle.rtl.specs.Items as Item
use Rattle.rtl.specs.Locations.{place_number}
use Rattle.rtl.specs.Effects.{Storage, Loc, effect}
use Rattle.rtl.specs.Graphs.{ops_at, exit_at, graph_or, graph_at, renamed_op, renamed_exit, renamed_graph, numbered}
use Rattle.rtl.specs.Meaning.{State, OpenCall, shares_all, all_zero, state, call_at, fresh_call, branch, after_op, exit_step, call_step, graph_step, next_touched, label_comes, label_due, no_call, graph_system}
use Rattle.rtl.specs.Linear.{OpenItems, LinState, lin_state, open_items, items_from, branch_items, items_step, items_touched, label_first, lin_due, no_items, items_or, items_at, lin_system, lin}
use Rattle.rtl.specs.WellFormed.{exit_nodes, NamesNodes, NoneTwice}
use Rattle.rtl.proofs.Renamings.{node_renamed}
use Rattle.lin_gen.specs.Ordering.{head_of, way_to, exit_items, laid, follower_of, IsFollowedBy, KeepsFollowers, IsOrdering}
use Rattle.lin_gen.specs.Linearised.{AreOrderings, LinearisedPreserves}
use Rattle.lin_gen.proofs.Lists.{split, in_back, once_front, head_split}
use Rattle.lin_gen.proofs.Named.{AreBelow, nodes_named, none_named}
use Rattle.lin_gen.proofs.Following.{follower_at}
use Rattle.lin_gen.proofs.Seeking.{seek_laid}

module _ (gs : ℕ → Graph Place) (ls : ℕ → List LinItem) (main : ℕ) (bytes : List (ℕ × ℕ)) (d : ℕ) (named : (f : ℕ) → NamesNodes (gs f)) (ordering : (f : ℕ) → IsOrdering (gs f) (ls f)) where
  abbrev numbers : ℕ → Graph ℕ
  numbers f = renamed_graph place_number (gs f)

  abbrev X : System State
  X = graph_system shares_all numbers main bytes

  abbrev Y : System LinState
  Y = lin_system ls main bytes

  abbrev order : ℕ → List ℕ
  order f = (ordering f).order

  abbrev in_numbers : List (ByteOp Place) → List (ByteOp ℕ)
  in_numbers ops = map (renamed_op place_number) ops

  ops_are : (f p : ℕ) → ops_at (numbers f) p ≡ in_numbers (ops_at (gs f) p)
  ops_are f p = ap (λ n. n.ops) (node_renamed place_number (gs f) p)

  exit_is : (f p : ℕ) → exit_at (numbers f) p ≡ renamed_exit place_number (exit_at (gs f) p)
  exit_is f p = ap (λ n. n.exit) (node_renamed place_number (gs f) p)

  -- the items of a node from these operations on
  abbrev from_ops : ℕ → ℕ → List (ByteOp Place) → List ℕ → List LinItem
  from_ops f p ops rest = map Item.Op ops ++ exit_items (exit_at (gs f) p) (head_of rest) (laid (gs f) rest)

  -- a running call stands in front of what is left to do of its node
  record Runs (f p : ℕ) (todo : List (ByteOp ℕ)) (left : List LinItem) : Type 0 where
    ops : List (ByteOp Place)
    front : List ℕ
    rest : List ℕ
    whole : order f ≡ front ++ p ∷ rest
    does : todo ≡ in_numbers ops
    is : left ≡ from_ops f p ops rest

  -- a waiting call stands in front of the place of its node
  record Waits (c : OpenCall) (left : List LinItem) : Type 0 where
    front : List ℕ
    rest : List ℕ
    whole : order c.function ≡ front ++ c.node ∷ rest
    does : c.left ≡ ops_at (numbers c.function) c.node
    is : left ≡ laid (gs c.function) (c.node ∷ rest)

  abbrev Below : List OpenCall → List (List LinItem) → Type 0
  Below [] ds = Unit {0}
  Below (c ∷ cs) [] = ⊥
  Below (c ∷ cs) (l ∷ ds) = Waits c l × Below cs ds

  abbrev AllRun : List OpenCall → List (List LinItem) → Type 0
  AllRun [] ds = Unit {0}
  AllRun (c ∷ cs) [] = ⊥
  AllRun (c ∷ cs) (l ∷ ds) = Runs c.function c.node c.left l × Below cs ds

  abbrev frames : List OpenCall → List (List LinItem) → List OpenItems
  frames [] ds = []
  frames (c ∷ cs) [] = []
  frames (c ∷ cs) (l ∷ ds) = open_items c.function l ∷ frames cs ds

  few_frames : (cs : List OpenCall) (ds : List (List LinItem)) → length (frames cs ds) ≤ length cs
  few_frames [] ds = omega arith
  few_frames (c ∷ cs) [] = omega arith
  few_frames (c ∷ cs) (l ∷ ds) = let k = few_frames cs ds in omega arith

  -- from y the linear code comes to what stands for x
  record After (x : State) (y : LinState) : Type 0 where
    links : List (List LinItem)
    all : AllRun x.calls links
    run : Run Y d y (lin_state (frames x.calls links) x.shared x.world)

  before : {x : State} {y z : LinState} → Run Y d y z → After x z → After x y
  before r a = record { links = a.links; all = a.all; run = joined r a.run }

  module _ (f : ℕ) (fs : List OpenItems) (few : suc (length fs) ≤ 64) (m : Storage → ℕ) (w : World) where
    abbrev stands : List LinItem → LinState
    stands left = lin_state (open_items f left ∷ fs) m w

    -- one step of the linear code
    one : (left : List LinItem) (y : LinState) → EachWithin d (items_touched left m w) → items_step ls left f fs m w ≡ y → length y.calls ≤ 64 → Run Y d (stands left) y
    one left y ok is fits =
        let within : IsWithin Y d (stands left) = record { bytes = ok; calls = subst (λ (z : LinState). length z.calls ≤ 64) (sym is) fits } in
        onward _ _ within (subst (λ z. Run Y d z y) (sym is) (here y))

    past_here : (q : ℕ) (rest : List ℕ) → Run Y d (stands (laid (gs f) (q ∷ rest))) (stands (from_ops f q (ops_at (gs f) q) rest))
    past_here q rest = one (laid (gs f) (q ∷ rest)) (stands (from_ops f q (ops_at (gs f) q) rest)) tt refl few

    -- from these items on the code comes to the operations of q
    record Lands (q : ℕ) (left : List LinItem) : Type 0 where
      then_left : List LinItem
      runs : Runs f q (ops_at (numbers f) q) then_left
      run : Run Y d (stands left) (stands then_left)

    lands_at : (q : ℕ) (front rest : List ℕ) → order f ≡ front ++ q ∷ rest → Lands q (laid (gs f) (q ∷ rest))
    lands_at q front rest whole = record {
      then_left = from_ops f q (ops_at (gs f) q) rest;
      runs = record { ops = ops_at (gs f) q; front = front; rest = rest; whole = whole; does = ops_are f q; is = refl };
      run = past_here q rest;
    }

    lands_sought : (q : ℕ) → q < length (gs f).nodes → Lands q (items_from q (ls f))
    lands_sought q lt =
        let o = ordering f in
        let s = split q o.order (o.ordered.every q lt) in
        let out = once_front q s.front s.rest (subst NoneTwice s.whole o.ordered.once) in
        let found : items_from q (ls f) ≡ laid (gs f) (q ∷ s.rest) = ap (items_from q) (o.are ∙ ap (laid (gs f)) s.whole) ∙ seek_laid (gs f) q s.front s.rest out in
        subst (Lands q) (sym found) (lands_at q s.front s.rest s.whole)

    jumps : (q : ℕ) (more : List LinItem) → q < length (gs f).nodes → Lands q (Item.Jump q ∷ more)
    jumps q more lt =
        let a = lands_sought q lt in
        record { then_left = a.then_left; runs = a.runs; run = joined (one (Item.Jump q ∷ more) (stands (items_from q (ls f))) tt refl few) a.run }

    -- the way from a node to q
    goes : (p q : ℕ) (front rest : List ℕ) → order f ≡ front ++ p ∷ rest → q < length (gs f).nodes → Lands q (way_to q (head_of rest) (laid (gs f) rest))
    goes p q front [] whole lt = jumps q [] lt
    goes p q front (r ∷ rest) whole lt = ⊎_elim
        (λ a. subst (λ (b : Bool). Lands q (if b then laid (gs f) (r ∷ rest) else Item.Jump q ∷ laid (gs f) (r ∷ rest))) (sym a.0)
        (subst (λ z. Lands q (laid (gs f) (z ∷ rest))) a.1 (lands_at q (front ++ p ∷ []) rest (whole ∙ ap (λ z. front ++ p ∷ z ∷ rest) (sym a.1) ∙ sym (append_assoc front (p ∷ []) (q ∷ rest))))))
        (λ a. subst (λ (b : Bool). Lands q (if b then laid (gs f) (r ∷ rest) else Item.Jump q ∷ laid (gs f) (r ∷ rest))) (sym a.0)
        (jumps q (laid (gs f) (r ∷ rest)) lt))
        (eqb_tells q r)

    -- the node that comes directly after
    falls : (p q : ℕ) (front rest : List ℕ) → order f ≡ front ++ p ∷ rest → head_of rest ≡ Some q → Lands q (laid (gs f) rest)
    falls p q front rest whole next =
        let h = head_split q rest next in
        subst (λ z. Lands q (laid (gs f) z)) (sym h.1) (lands_at q (front ++ p ∷ []) h.0 (whole ∙ ap (λ z. front ++ p ∷ z) h.1 ∙ sym (append_assoc front (p ∷ []) (q ∷ h.0))))

  -- a call that waited goes on past the place of its node
  returns : (cs : List OpenCall) (ds : List (List LinItem)) → Below cs ds → length cs ≤ 64 → (m : Storage → ℕ) (w : World) → After (state cs m w) (lin_state (frames cs ds) m w)
  returns [] ds below few m w = record { links = []; all = tt; run = here _ }
  returns (c ∷ cs) [] below few m w = absurd below
  returns (c ∷ cs) (l ∷ ds) below few m w =
      let u = below.0 in
      let k = few_frames cs ds in
      let a = lands_at c.function (frames cs ds) (omega arith) m w c.node u.front u.rest u.whole in
      subst (λ z. After (state (c ∷ cs) m w) (lin_state (open_items c.function z ∷ frames cs ds) m w)) (sym u.is)
      (record { links = a.then_left ∷ ds; all = (subst (λ z. Runs c.function c.node z a.then_left) (sym u.does) a.runs, below.1); run = a.run })

  module _ (f p : ℕ) (own : Storage → ℕ) (cs : List OpenCall) (ds : List (List LinItem)) (below : Below cs ds) (few : suc (length cs) ≤ 64) (m : Storage → ℕ) where
    abbrev fs : List OpenItems
    fs = frames cs ds

    enough : suc (length fs) ≤ 64
    enough = let k = few_frames cs ds in omega arith

    -- X is at the operations of q
    onto : (q : ℕ) (w : World) (left : List LinItem) → Lands f fs enough m w q left → After (state (call_at numbers f q own ∷ cs) m w) (lin_state (open_items f left ∷ fs) m w)
    onto q w left a = record { links = a.then_left ∷ ds; all = (a.runs, below); run = a.run }

    module _ (front rest : List ℕ) (whole : order f ≡ front ++ p ∷ rest) (w : World) where
      abbrev more : List LinItem
      more = laid (gs f) rest

      abbrev now : List LinItem → LinState
      now left = lin_state (open_items f left ∷ fs) m w

      present : p < length (gs f).nodes
      present = (ordering f).ordered.only p (subst (In p) (sym whole) (in_back p front (p ∷ rest) (inl refl)))

      exist : (e : Exit Place) → exit_at (gs f) p ≡ e → AreBelow (length (gs f).nodes) (exit_nodes e)
      exist e is = subst (λ x. AreBelow (length (gs f).nodes) (exit_nodes x)) is (nodes_named (gs f) (named f) p present)

      followed : (e : Exit Place) → exit_at (gs f) p ≡ e → IsFollowedBy (follower_of e) rest
      followed e is = subst (λ z. IsFollowedBy (follower_of z) rest) is (follower_at (gs f) front p rest (subst (KeepsFollowers (gs f)) whole (ordering f).ordered.followers))

      test_case : (v : Place) (true_arm false_arm k : ℕ) → m (Loc (place_number v)) ≡ k → true_arm < length (gs f).nodes → head_of rest ≡ Some false_arm → After (state (call_at numbers f (branch k true_arm false_arm) own ∷ cs) m w) (now (Item.Test v true_arm ∷ more))
      test_case v true_arm false_arm zero is lt next =
          before (one f fs enough m w (Item.Test v true_arm ∷ more) (now more) tt (ap (λ k. now (branch_items k (items_from true_arm (ls f)) more)) is) enough)
          (onto false_arm w more (falls f fs enough m w p false_arm front rest whole next))
      test_case v true_arm false_arm (suc k) is lt next =
          before (one f fs enough m w (Item.Test v true_arm ∷ more) (now (items_from true_arm (ls f))) tt (ap (λ k. now (branch_items k (items_from true_arm (ls f)) more)) is) enough)
          (onto true_arm w (items_from true_arm (ls f)) (lands_sought f fs enough m w true_arm lt))

      call_case : (g q : ℕ) → head_of rest ≡ Some q → suc (suc (length cs)) ≤ 64 → After (state (fresh_call numbers g ∷ call_at numbers f q own ∷ cs) m w) (now (Item.Call g ∷ more))
      call_case g q next fits =
          let o = ordering g in
          let e = head_split (gs g).entry o.order o.ordered.first in
          let h = head_split q rest next in
          let fits' : suc (suc (length fs)) ≤ 64 = let k = few_frames cs ds in omega arith in
          let items : ls g ≡ laid (gs g) ((gs g).entry ∷ e.0) = o.are ∙ ap (laid (gs g)) e.1 in
          let enter = lands_at g (open_items f more ∷ fs) fits' m w (gs g).entry [] e.0 e.1 in
          before (one f fs enough m w (Item.Call g ∷ more) (lin_state (open_items g (laid (gs g) ((gs g).entry ∷ e.0)) ∷ open_items f more ∷ fs) m w) tt (ap (λ z. lin_state (open_items g z ∷ open_items f more ∷ fs) m w) items) fits')
          (record {
            links = enter.then_left ∷ more ∷ ds;
            all = (
              enter.runs,
              (
                record { front = front ++ p ∷ []; rest = h.0; whole = whole ∙ ap (λ z. front ++ p ∷ z) h.1 ∙ sym (append_assoc front (p ∷ []) (q ∷ h.0)); does = refl; is = ap (laid (gs f)) h.1 },
                below,
              ),
            );
            run = enter.run;
          })

      exit_case : (e : Exit Place) → exit_at (gs f) p ≡ e → length (exit_step shares_all numbers (renamed_exit place_number e) f own cs m w).calls ≤ 64 → After (exit_step shares_all numbers (renamed_exit place_number e) f own cs m w) (now (exit_items e (head_of rest) more))
      exit_case (Out.Next q) is fits = onto q w (way_to q (head_of rest) more) (goes f fs enough m w p q front rest whole (exist (Out.Next q) is).0)
      exit_case (Out.Test v true_arm false_arm) is fits = test_case v true_arm false_arm (m (Loc (place_number v))) refl (exist (Out.Test v true_arm false_arm) is).0 (followed (Out.Test v true_arm false_arm) is)
      exit_case (Out.Call g q) is fits = call_case g q (followed (Out.Call g q) is) fits
      exit_case (Out.Label l q) is fits =
          let w' = shown (Shown.Label l) w in
          before (one f fs enough m w (Item.Label l ∷ way_to q (head_of rest) more) (lin_state (open_items f (way_to q (head_of rest) more) ∷ fs) m w') tt refl enough)
          (onto q w' (way_to q (head_of rest) more) (goes f fs enough m w' p q front rest whole (exist (Out.Label l q) is).0))
      exit_case Out.Return is fits =
          before (one f fs enough m w (Item.Return ∷ more) (lin_state fs m w) tt refl (omega (arith, enough)))
          (returns cs ds below (omega (arith, few)) m w)

      op_case : (op : ByteOp Place) (ops : List (ByteOp Place)) → EachWithin d (effect (renamed_op place_number op) m w).touched → After (after_op shares_all (effect (renamed_op place_number op) m w) f p (in_numbers ops) own cs m) (now (from_ops f p (op ∷ ops) rest))
      op_case op ops ok = record {
        links = from_ops f p ops rest ∷ ds;
        all = (record { ops = ops; front = front; rest = rest; whole = whole; does = refl; is = refl }, below);
        run = one f fs enough m w (from_ops f p (op ∷ ops) rest) _ ok refl enough;
      }

      node_case : (ops : List (ByteOp Place)) → EachWithin d (next_touched shares_all (in_numbers ops) own m w) → length (call_step shares_all numbers (in_numbers ops) f p own cs m w).calls ≤ 64 → After (call_step shares_all numbers (in_numbers ops) f p own cs m w) (now (from_ops f p ops rest))
      node_case [] ok fits =
          let e = exit_is f p in
          subst (λ x. After (exit_step shares_all numbers x f own cs m w) (now (exit_items (exit_at (gs f) p) (head_of rest) more))) (sym e)
          (exit_case (exit_at (gs f) p) refl (subst (λ x. length (exit_step shares_all numbers x f own cs m w).calls ≤ 64) e fits))
      node_case (op ∷ ops) ok fits = op_case op ops ok

      call_step_case : (todo : List (ByteOp ℕ)) (ops : List (ByteOp Place)) → todo ≡ in_numbers ops → EachWithin d (next_touched shares_all todo own m w) → length (call_step shares_all numbers todo f p own cs m w).calls ≤ 64 → After (call_step shares_all numbers todo f p own cs m w) (now (from_ops f p ops rest))
      call_step_case todo ops does ok fits =
          subst (λ x. After (call_step shares_all numbers x f p own cs m w) (now (from_ops f p ops rest))) (sym does)
          (node_case ops (subst (λ x. EachWithin d (next_touched shares_all x own m w)) does ok) (subst (λ x. length (call_step shares_all numbers x f p own cs m w).calls ≤ 64) does fits))

  step_case : (cs : List OpenCall) (ds : List (List LinItem)) (m : Storage → ℕ) (w : World) → AllRun cs ds → length cs ≤ 64 → IsWithin X d (state cs m w) → After (graph_step shares_all numbers cs m w) (lin_state (frames cs ds) m w)
  step_case [] ds m w all few within = record { links = []; all = tt; run = here _ }
  step_case (c ∷ cs) [] m w all few within = absurd all
  step_case (c ∷ cs) (l ∷ ds) m w all few within =
      let r = all.0 in
      subst (λ z. After (graph_step shares_all numbers (c ∷ cs) m w) (lin_state (open_items c.function z ∷ frames cs ds) m w)) (sym r.is)
      (call_step_case c.function c.node c.own cs ds all.1 few m r.front r.rest r.whole w c.left r.ops r.does within.bytes within.calls)

  due_too : (cs : List OpenCall) (ds : List (List LinItem)) → AllRun cs ds → IsTrue (label_due numbers cs) → IsTrue (lin_due (frames cs ds))
  due_too [] ds all due = due
  due_too (c ∷ cs) [] all due = absurd all
  due_too (c ∷ cs) (l ∷ ds) all due =
      let r = all.0 in
      let e = exit_is c.function c.node in
      let due' = subst (λ x. IsTrue (label_comes x (renamed_exit place_number (exit_at (gs c.function) c.node)))) r.does (subst (λ x. IsTrue (label_comes c.left x)) e due) in
      subst (λ z. IsTrue (label_first z)) (sym r.is) (top r.ops (exit_at (gs c.function) c.node) (head_of r.rest) (laid (gs c.function) r.rest) due')
    where
      never : false ≡ true → ⊥
      never e = cc

      top : (ops : List (ByteOp Place)) (e : Exit Place) (next : Option ℕ) (tail : List LinItem) → IsTrue (label_comes (in_numbers ops) (renamed_exit place_number e)) → IsTrue (label_first (map Item.Op ops ++ exit_items e next tail))
      top (op ∷ ops) e next tail h = absurd (never h)
      top [] (Out.Label l q) next tail h = refl
      top [] (Out.Next q) next tail h = absurd (never h)
      top [] (Out.Test v true_arm false_arm) next tail h = absurd (never h)
      top [] (Out.Call f q) next tail h = absurd (never h)
      top [] Out.Return next tail h = absurd (never h)

  over_too : (cs : List OpenCall) (ds : List (List LinItem)) → AllRun cs ds → IsTrue (no_call cs) → IsTrue (no_items (frames cs ds))
  over_too [] ds all over = refl
  over_too (c ∷ cs) ds all over = absurd (never over)
    where
      never : false ≡ true → ⊥
      never e = cc

  record Related (x : State) (y : LinState) : Type 0 where
    links : List (List LinItem)
    all : AllRun x.calls links
    few : length x.calls ≤ 64
    is : y ≡ lin_state (frames x.calls links) x.shared x.world

  begins : (script : List ℕ) → (y : LinState) × Run Y d (Y.start script) y × Related (X.start script) y
  begins script =
      let o = ordering main in
      let entry = (gs main).entry in
      let e = head_split entry o.order o.ordered.first in
      let items : ls main ≡ laid (gs main) (entry ∷ e.0) = o.are ∙ ap (laid (gs main)) e.1 in
      let w = start_world bytes script in
      let enter = lands_at main [] (omega arith) all_zero w entry [] e.0 e.1 in (
        lin_state (open_items main enter.then_left ∷ []) all_zero w,
        subst (λ z. Run Y d (lin_state (open_items main z ∷ []) all_zero w) (lin_state (open_items main enter.then_left ∷ []) all_zero w)) (sym items) enter.run,
        record { links = enter.then_left ∷ []; all = (enter.runs, tt); few = omega arith; is = refl },
      )

  simulates : Simulates X Y d d Related
  simulates = record {
    begins = λ script ok. begins script;
    steps = λ x y rel within.
        let a = step_case x.calls rel.links x.shared x.world rel.all rel.few within in
        let x' = graph_step shares_all numbers x.calls x.shared x.world in
        let y' = lin_state (frames x'.calls a.links) x'.shared x'.world in
        (y', subst (λ z. Run Y d z y') (sym rel.is) a.run, record { links = a.links; all = a.all; few = within.calls; is = refl });
    ahead = λ x y rel. subst (λ (z : LinState). IsPrefix x.world.made z.world.made) (sym rel.is) (prefix_refl x.world.made);
    stops = λ x y rel due. (y, here _, subst (λ (z : LinState). IsTrue (lin_due z.calls)) (sym rel.is) (due_too x.calls rel.links rel.all due), ap (λ (z : LinState). z.world.made) rel.is);
    ends = λ x y rel over. (y, here _, subst (λ (z : LinState). IsTrue (no_items z.calls)) (sym rel.is) (over_too x.calls rel.links rel.all over), ap (λ (z : LinState). z.world.made) rel.is);
  }

none_ordered : IsOrdering (graph_or None) (items_or None)
none_ordered = record {
  order = 0 ∷ [];
  ordered = record {
    first = refl;
    every = λ p lt. inl (omega arith);
    only = λ p i. ⊎_elim (λ (e : 0 ≡ p). omega arith) (λ (n : ⊥). absurd n) i;
    once = (λ n. n, tt);
    followers = (tt, tt);
  };
  are = refl;
}

all_named : (gs : List (Graph Place)) (ls : List (List LinItem)) → AreOrderings gs ls → (f : ℕ) → NamesNodes (graph_at gs f)
all_named [] [] h f = none_named
all_named [] (l ∷ ls) h f = absurd h
all_named (g ∷ gs) [] h f = absurd h
all_named (g ∷ gs) (l ∷ ls) h zero = h.0
all_named (g ∷ gs) (l ∷ ls) h (suc f) = all_named gs ls h.2 f

all_ordered : (gs : List (Graph Place)) (ls : List (List LinItem)) → AreOrderings gs ls → (f : ℕ) → IsOrdering (graph_at gs f) (items_at ls f)
all_ordered [] [] h f = none_ordered
all_ordered [] (l ∷ ls) h f = absurd h
all_ordered (g ∷ gs) [] h f = absurd h
all_ordered (g ∷ gs) (l ∷ ls) h zero = h.1
all_ordered (g ∷ gs) (l ∷ ls) h (suc f) = all_ordered gs ls h.2 f

-- the functions of a program with numbers for places are its functions, with numbers
numbered_at : (gs : List (Graph Place)) (f : ℕ) → graph_at (map (renamed_graph place_number) gs) f ≡ renamed_graph place_number (graph_at gs f)
numbered_at [] f = refl
numbered_at (g ∷ gs) zero = refl
numbered_at (g ∷ gs) (suc f) = numbered_at gs f

same_function : {A B : Type 0} (f g : A → B) → ((x : A) → f x ≡ g x) → f ≡ g
same_function f g same = λ i x. same x i

pub linearised_preserves : LinearisedPreserves
linearised_preserves graphs program is d small =
    let gs = graph_at graphs.graphs in
    let ls = items_at program.lins in
    let named = all_named graphs.graphs program.lins is.lins in
    let ordered = all_ordered graphs.graphs program.lins is.lins in
    let same = same_function (graph_at (numbered place_number graphs)) (λ f. renamed_graph place_number (gs f)) (numbered_at graphs.graphs) in
    subst (λ fs. PreservesFor (graph_system shares_all fs graphs.main graphs.start) (lin program) d d) (sym same)
    (subst (λ main. PreservesFor (graph_system shares_all (λ f. renamed_graph place_number (gs f)) main graphs.start) (lin program) d d) is.main
    (subst (λ start. PreservesFor (graph_system shares_all (λ f. renamed_graph place_number (gs f)) program.main start) (lin program) d d) is.start
    (simulation_preserves _ _ d d (Related gs ls program.main program.start d named ordered) (simulates gs ls program.main program.start d named ordered))))
