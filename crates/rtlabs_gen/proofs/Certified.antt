-- The graphs of all statements have a certificate: it is carried through each part that is added.
use Rattle.std.proofs.Common.{◌≡◌, ◌≢◌, ℕ, suc, ◌+◌, ◌<◌, ◌≤◌, List, [], ◌∷◌, ◌++◌, length, true, false, Option, Some, None, inl, inr, refl, sym, ap, ◌∙◌, subst, ⊎_elim, add-one, arith, append_assoc, append-nil, length-append, length-set}
use Rattle.std.specs.Prelude.{slice_get, slice_set}
use Rattle.std.proofs.Math.Nat.{le_trans}
use Rattle.cerco_base.specs.declared.events.Label.{Label}
use Rattle.cerco_traces.specs.LabelledGraphs.{In, only}
use Rattle.cerco_middle.specs.declared.operators.Held.{Held}
use Rattle.cerco_middle.specs.declared.rtlabs.RtOp.{RtOp}
use Rattle.cerco_middle.specs.declared.rtlabs.RtOp.TheVariants as o
use Rattle.cerco_middle.specs.declared.rtlabs.RtNode.{RtNode}
use Rattle.cerco_middle.specs.Operators.{held_bytes}
use Rattle.cerco_middle.specs.Calls.{Argument}
use Rattle.cerco_middle.specs.Cminor.Trees.{CmExpr, Const, Var, Load, Neg, Complement, Narrow, Bin, Shl, Shr, CmCond, Test, Not, Both, Either, CmStmt, Seq, Set, Store, ReadPort, WritePort, Call, If, Loop, Do, Break, Continue, Return, CmStmts, NoStmts, Then, CmFunction}
use Rattle.cerco_middle.specs.Cminor.Sums.{parameters_at, result_at}
use Rattle.cerco_middle.specs.Cminor.WellFormed.{OfStmts, OfAll}
use Rattle.cerco_middle.specs.RtLabs.Graphs.{next_nodes}
use Rattle.rtlabs_gen.specs.declared.exits.Exits.{Exits}
use Rattle.rtlabs_gen.specs.Translation.{Part, added, add_expr, add_arguments, add_cond, add_cond_if_any, add_taking, add_call, add_return, in_loop, exits_at, add_stmt, add_stmts, add_end, add_body}
use Rattle.rtlabs_gen.proofs.Lists.{no_node, get_front, get_new, get_added, get_set}
use Rattle.rtlabs_gen.proofs.Grown.{and_on, new_at, cond_extends, cond_extends_if_any, stmt_extends, closes}
use Rattle.rtlabs_gen.proofs.Certificate.{Fact, Facts, plain, noted, noted_same, noted_other, needs, leaves, Orderly, Quiet, IsOwnedResult, Arms, Tied, left_with, Edge, Good, Sure, false_true, falls_any, good_on, push_sure, There, CameAt, Came, Adds, IsCertified}

-- the arguments that are handed over for parameters that are held so, from a first argument byte on
abbrev pub handed : List Held → ℕ → List CmExpr → List Argument
handed [] first es = []
handed (h ∷ hs) first [] = []
handed (h ∷ hs) first (e ∷ es) = record { held = h; first_byte = first } ∷ handed hs (first + held_bytes h) es

one_longer : (ns : List RtNode) (x : RtNode) → length (ns ++ x ∷ []) ≡ suc (length ns)
one_longer ns x = omega (arith, length-append ns (x ∷ []))

module _ (Meets : ℕ → List Argument → Type 0) (ResultOf : ℕ → Held → Type 0) where
  abbrev Adding : List RtNode → List RtNode → Facts → ℕ → List Argument → ℕ → Type 0
  Adding = Adds Meets ResultOf

  -- ---- parts one after the other

  on_from : {ns ms ls : List RtNode} {facts : Facts} {e e' w w' : ℕ} {args args' : List Argument} (a : Adding ns ms facts e args w) → Adding ms ls a.now e' args' w' → Adding ns ls facts e' args' w'
  on_from a b = record {
    now = b.now;
    sure = b.sure;
    came = λ c. b.came (a.came c);
    more = le_trans a.more b.more;
    same = λ y h. let m = a.more in let h' : y < _ = omega (arith, h, m) in b.same y h' ∙ a.same y h;
    starts = b.starts;
  }

  there_on : {ns ms : List RtNode} {facts : Facts} {e w y u : ℕ} {args bs : List Argument} (a : Adding ns ms facts e args w) → There (length ns) facts y bs u → There (length ms) a.now y bs u
  there_on a t =
      let now = a.same _ t.below in
      record {
        below = let m = a.more in let b = t.below in omega arith;
        arguments_are = ap (λ (f : Fact). f.arguments) now ∙ t.arguments_are;
        written_is = ap (λ (f : Fact). f.written) now ∙ t.written_is;
        free = ap (λ (f : Fact). f.owned) now ∙ t.free;
      }

  stays : (ns : List RtNode) (facts : Facts) → Sure Meets ns facts → (y w : ℕ) (args : List Argument) → There (length ns) facts y args w → Adding ns ns facts y args w
  stays ns facts sure y w args t = record { now = facts; sure = sure; came = λ c. c; more = omega arith; same = λ z h. refl; starts = t }

  -- ---- results

  came_at_front : (ns xs : List RtNode) (p : ℕ) (h : Held) → CameAt ResultOf ns p h → CameAt ResultOf (ns ++ xs) p h
  came_at_front ns xs p h c = record { callee = c.callee; label = c.label; calls = get_front ns xs _ _ c.calls; labels = get_front ns xs _ _ c.labels; result_of = c.result_of }

  not_result : (x : RtNode) (h : Held) (t : ℕ) (next : Option ℕ) → IsOwnedResult x.op false → x ≡ record { op = o.Result h t; next = next } → ⊥
  not_result x h t next unowned is = let P : RtNode → Type 0 = λ m. IsOwnedResult m.op false in false_true (subst P is unowned)

  came_on : (ns : List RtNode) (x : RtNode) → IsOwnedResult x.op false → Came ResultOf ns → Came ResultOf (ns ++ x ∷ [])
  came_on ns x unowned c = record {
    by = λ p h t next e. ⊎_elim
        (λ old. came_at_front ns (x ∷ []) p h (c.by p h t next old))
        (λ new. absurd (not_result x h t next unowned new.1))
        (get_added ns x p _ e);
  }

  -- ---- one node

  -- its fact is the one that was noted
  record One (ns : List RtNode) (x : RtNode) (facts : Facts) (v : Fact) : Type 0 where
    adds : Adding ns (ns ++ x ∷ []) facts (length ns) v.arguments v.written
    is : adds.now (length ns) ≡ v

  node_adds : (ns : List RtNode) (facts : Facts) → Sure Meets ns facts → (x : RtNode) (v : Fact) → IsOwnedResult x.op false → v.owned ≡ false → Good Meets (length ns) facts (length ns) v x → One ns x facts v
  node_adds ns facts sure x v unowned free good =
      let is = noted_same facts (length ns) v in
      record {
        adds = record {
          now = noted facts (length ns) v;
          sure = push_sure Meets ns facts x v sure good;
          came = came_on ns x unowned;
          more = let l = one_longer ns x in omega arith;
          same = λ y h. let ne : y ≢ length ns = omega arith in noted_other facts (length ns) y v ne;
          starts = record {
            below = let l = one_longer ns x in omega arith;
            arguments_are = ap (λ (f : Fact). f.arguments) is;
            written_is = ap (λ (f : Fact). f.written) is;
            free = ap (λ (f : Fact). f.owned) is ∙ free;
          };
        };
        is = is;
      }

  -- an edge to a node that any may lead to
  edge_to : (size : ℕ) (facts : Facts) (v : Fact) (op : RtOp) (q : ℕ) → There size facts q (left_with v.arguments op) (leaves op) → Edge size facts size v op q
  edge_to size facts v op q t = record {
    below = t.below;
    arguments = sym t.arguments_are;
    written = t.written_is;
    owned = λ is. absurd (false_true (sym t.free ∙ is));
    falls = falls_any op size q t.below;
  }

  no_label : false ≡ true → {A : Type 0} → A
  no_label e = absurd (false_true e)

  -- a node that leads to the next one alone
  plain_adds : (ns : List RtNode) (facts : Facts) → Sure Meets ns facts → (op : RtOp) (next : ℕ) (args : List Argument) → next_nodes (record { op = op; next = Some next }) ≡ next ∷ []
      → IsOwnedResult op false → Orderly op → Quiet Meets op args → Tied facts (length ns) op (Some next) → There (length ns) facts next (left_with args op) (leaves op)
      → Adding ns (added ns op (Some next)).nodes facts (length ns) args (needs op)
  plain_adds ns facts sure op next args leads unowned orderly quiet tied goes =
      let v : Fact = plain args (needs op) in
      let good : Good Meets (length ns) facts (length ns) v (record { op = op; next = Some next }) = record {
        written = refl;
        orderly = orderly;
        quiet = quiet;
        marked = λ e. no_label e;
        result = unowned;
        edges = λ q i. ⊎_elim
            (λ (e : next ≡ q). subst (λ z. Edge (length ns) facts (length ns) v op z) e (edge_to (length ns) facts v op next goes))
            (λ (none : ⊥). absurd none)
            (subst (λ l. In q l) leads i);
        tied = tied;
      } in
      (node_adds ns facts sure _ v unowned refl good).adds

  -- a return
  last_adds : (ns : List RtNode) (facts : Facts) → Sure Meets ns facts → (op : RtOp) (args : List Argument) → next_nodes (record { op = op; next = None }) ≡ []
      → IsOwnedResult op false → Orderly op → Quiet Meets op args → Tied facts (length ns) op None → Adding ns (added ns op None).nodes facts (length ns) args (needs op)
  last_adds ns facts sure op args leads unowned orderly quiet tied =
      let v : Fact = plain args (needs op) in
      let good : Good Meets (length ns) facts (length ns) v (record { op = op; next = None }) = record {
        written = refl;
        orderly = orderly;
        quiet = quiet;
        marked = λ e. no_label e;
        result = unowned;
        edges = λ q i. let none : ⊥ = subst (λ l. In q l) leads i in absurd none;
        tied = tied;
      } in
      (node_adds ns facts sure _ v unowned refl good).adds

  -- a label to which a test may lead
  record LabelThere (size : ℕ) (facts : Facts) (y : ℕ) : Type 0 where
    there : There size facts y [] 0
    label : (facts y).label ≡ true

  label_on : {ns ms : List RtNode} {facts : Facts} {e w y : ℕ} {args : List Argument} (a : Adding ns ms facts e args w) → LabelThere (length ns) facts y → LabelThere (length ms) a.now y
  label_on a l = record { there = there_on a l.there; label = ap (λ (f : Fact). f.label) (a.same _ l.there.below) ∙ l.label }

  record LabelAdds (ns ms : List RtNode) (facts : Facts) : Type 0 where
    adds : Adding ns ms facts (length ns) [] 0
    marked : (adds.now (length ns)).label ≡ true

  begins : {ns ms : List RtNode} {facts : Facts} (l : LabelAdds ns ms facts) → LabelThere (length ms) l.adds.now (length ns)
  begins l = record { there = l.adds.starts; label = l.marked }

  label_adds : (ns : List RtNode) (facts : Facts) → Sure Meets ns facts → (l : Label) (next : Option ℕ) → ((q : ℕ) → In q (only next) → There (length ns) facts q [] 0) → LabelAdds ns (added ns (o.Label l) next).nodes facts
  label_adds ns facts sure l next goes =
      let v : Fact = record { arguments = []; written = 0; owned = false; label = true } in
      let good : Good Meets (length ns) facts (length ns) v (record { op = o.Label l; next = next }) = record {
        written = refl;
        orderly = tt;
        quiet = refl;
        marked = λ e. tt;
        result = tt;
        edges = λ q i. edge_to (length ns) facts v (o.Label l) q (goes q i);
        tied = tt;
      } in
      let a = node_adds ns facts sure (record { op = o.Label l; next = next }) v tt refl good in
      record { adds = a.adds; marked = ap (λ (f : Fact). f.label) a.is }

  to_one : (size : ℕ) (facts : Facts) (n : ℕ) → There size facts n [] 0 → (q : ℕ) → In q (only (Some n)) → There size facts q [] 0
  to_one size facts n t q i = ⊎_elim (λ (e : n ≡ q). subst (λ z. There size facts z [] 0) e t) (λ (none : ⊥). absurd none) i

  test_adds : (ns : List RtNode) (facts : Facts) → Sure Meets ns facts → (on_true on_false : ℕ) → LabelThere (length ns) facts on_true → LabelThere (length ns) facts on_false → Arms on_true on_false (length ns)
      → Adding ns (added ns (o.Test 0 on_true on_false) None).nodes facts (length ns) [] 1
  test_adds ns facts sure on_true on_false t f arms =
      let v : Fact = plain [] 1 in
      let good : Good Meets (length ns) facts (length ns) v (record { op = o.Test 0 on_true on_false; next = None }) = record {
        written = refl;
        orderly = tt;
        quiet = refl;
        marked = λ e. no_label e;
        result = tt;
        edges = λ q i. ⊎_elim
            (λ (e : on_true ≡ q). subst (λ z. Edge (length ns) facts (length ns) v (o.Test 0 on_true on_false) z) e (edge_to (length ns) facts v (o.Test 0 on_true on_false) on_true t.there))
            (λ (j : In q (on_false ∷ [])). ⊎_elim
            (λ (e : on_false ≡ q). subst (λ z. Edge (length ns) facts (length ns) v (o.Test 0 on_true on_false) z) e (edge_to (length ns) facts v (o.Test 0 on_true on_false) on_false f.there))
            (λ (none : ⊥). absurd none)
            j)
            i;
        tied = (t.label, f.label, arms);
      } in
      (node_adds ns facts sure _ v tt refl good).adds

  -- a label that waited goes on
  close_adds : (ms : List RtNode) (facts : Facts) (i : ℕ) (l : Label) (e y w : ℕ) (args : List Argument) → Sure Meets ms facts → slice_get ms i ≡ Some (record { op = o.Label l; next = None }) → There (length ms) facts e [] 0 → There (length ms) facts y args w
      → Adding ms (slice_set ms i (record { op = o.Label l; next = Some e })) facts y args w
  close_adds ms facts i l e y w args sure waiting goes t =
      let x : RtNode = record { op = o.Label l; next = Some e } in
      let ls : List RtNode = slice_set ms i x in
      let size : length ls ≡ length ms = length-set ms i x in
      let keep = closes ms i l x waiting in
      let was = sure.each i _ waiting in
      let v : Fact = facts i in
      let good : Good Meets (length ls) facts i v x = record {
        written = was.written;
        orderly = tt;
        quiet = was.quiet;
        marked = λ h. tt;
        result = tt;
        edges = λ q j. ⊎_elim
            (λ (h : e ≡ q). subst (λ z. Edge (length ls) facts i v (o.Label l) z) h (record { below = let b = goes.below in omega arith; arguments = was.quiet ∙ sym goes.arguments_are; written = goes.written_is; owned = λ is. no_label (sym goes.free ∙ is); falls = tt }))
            (λ (none : ⊥). absurd none)
            j;
        tied = tt;
      } in
      record {
        now = facts;
        sure = record {
          each = λ p n found. ⊎_elim
              (λ h. let g = subst (λ m. Good Meets (length ls) facts i v m) h.1 good in subst (λ k. Good Meets (length ls) facts k (facts k) n) (sym h.0) g)
              (λ h. good_on Meets facts facts (length ms) (length ls) p (facts p) n (omega arith) (λ z lt. refl) (sure.each p n h))
              (get_set ms i p x n found);
        };
        came = λ c. record {
          by = λ p h t' next found. ⊎_elim
              (λ new. absurd (not_result x h t' next tt new.1))
              (λ old. let a = c.by p h t' next old in record { callee = a.callee; label = a.label; calls = keep.by _ _ tt a.calls; labels = keep.by _ _ tt a.labels; result_of = a.result_of })
              (get_set ms i p x _ found);
        };
        more = omega arith;
        same = λ z lt. refl;
        starts = record { below = let b = t.below in omega arith; arguments_are = t.arguments_are; written_is = t.written_is; free = t.free };
      }

  -- ---- expressions, arguments and conditions

  one_above : {size : ℕ} {facts : Facts} {y t : ℕ} {args : List Argument} → There size facts y args (t + 1) → There size facts y args (suc t)
  one_above {t = t} there = record { below = there.below; arguments_are = there.arguments_are; written_is = there.written_is ∙ add-one t; free = there.free }

  expr_adds : (e : CmExpr) (t next : ℕ) (args : List Argument) (ns : List RtNode) (facts : Facts) → Sure Meets ns facts → There (length ns) facts next args (suc t) → Adding ns (add_expr ns e t next).nodes facts (add_expr ns e t next).entry args t
  expr_adds (Const number) t next args ns facts sure goes = plain_adds ns facts sure (o.Const t number) next args refl tt tt tt tt goes
  expr_adds (Var x) t next args ns facts sure goes = plain_adds ns facts sure (o.Get t x) next args refl tt tt tt tt goes
  expr_adds (Load h e) t next args ns facts sure goes =
      let a = plain_adds ns facts sure (o.Load h t) next args refl tt tt tt tt goes in
      on_from a (expr_adds e t _ args _ a.now a.sure a.starts)
  expr_adds (Neg e) t next args ns facts sure goes =
      let a = plain_adds ns facts sure (o.Neg t) next args refl tt tt tt tt goes in
      on_from a (expr_adds e t _ args _ a.now a.sure a.starts)
  expr_adds (Complement e) t next args ns facts sure goes =
      let a = plain_adds ns facts sure (o.Not t) next args refl tt tt tt tt goes in
      on_from a (expr_adds e t _ args _ a.now a.sure a.starts)
  expr_adds (Narrow h e) t next args ns facts sure goes =
      let a = plain_adds ns facts sure (o.Narrow h t) next args refl tt tt tt tt goes in
      on_from a (expr_adds e t _ args _ a.now a.sure a.starts)
  expr_adds (Bin op a b) t next args ns facts sure goes =
      let later : t < t + 1 = omega arith in
      let x = plain_adds ns facts sure (o.Bin op t (t + 1)) next args refl tt later tt tt goes in
      let y = expr_adds b (t + 1) _ args _ x.now x.sure x.starts in
      on_from x (on_from y (expr_adds a t _ args _ y.now y.sure (one_above y.starts)))
  expr_adds (Shl k e) t next args ns facts sure goes =
      let a = plain_adds ns facts sure (o.Shl k t) next args refl tt tt tt tt goes in
      on_from a (expr_adds e t _ args _ a.now a.sure a.starts)
  expr_adds (Shr k arithmetic e) t next args ns facts sure goes =
      let a = plain_adds ns facts sure (o.Shr k arithmetic t) next args refl tt tt tt tt goes in
      on_from a (expr_adds e t _ args _ a.now a.sure a.starts)

  arguments_add : (hs : List Held) (first : ℕ) (es : List CmExpr) (next : ℕ) (args : List Argument) (ns : List RtNode) (facts : Facts) → Sure Meets ns facts → There (length ns) facts next (args ++ handed hs first es) 0
      → Adding ns (add_arguments ns hs first es next).nodes facts (add_arguments ns hs first es next).entry args 0
  arguments_add [] first es next args ns facts sure goes = stays ns facts sure next 0 args (subst (λ l. There (length ns) facts next l 0) (append-nil args) goes)
  arguments_add (h ∷ hs) first [] next args ns facts sure goes = stays ns facts sure next 0 args (subst (λ l. There (length ns) facts next l 0) (append-nil args) goes)
  arguments_add (h ∷ hs) first (e ∷ es) next args ns facts sure goes =
      let this : Argument = record { held = h; first_byte = first } in
      let x = arguments_add hs (first + held_bytes h) es next (args ++ this ∷ []) ns facts sure (subst (λ l. There (length ns) facts next l 0) (sym (append_assoc args (this ∷ []) (handed hs (first + held_bytes h) es))) goes) in
      let y = plain_adds _ x.now x.sure (o.Arg h first 0) _ args refl tt tt tt tt x.starts in
      on_from x (on_from y (expr_adds e 0 _ args _ y.now y.sure y.starts))

  -- two labels that were just added are the arms of the next test
  arms_new : (ns : List RtNode) (x y : RtNode) → Arms (length ns) (length (ns ++ x ∷ [])) (length ((ns ++ x ∷ []) ++ y ∷ []))
  arms_new ns x y = let a = one_longer ns x in let b = one_longer (ns ++ x ∷ []) y in inr (omega arith, omega arith)

  arms_turned : (t f p : ℕ) → Arms t f p → Arms f t p
  arms_turned t f p (inl a) = inr a
  arms_turned t f p (inr a) = inl a

  cond_adds : (c : CmCond) (on_true on_false : ℕ) (ns : List RtNode) (facts : Facts) → Sure Meets ns facts → LabelThere (length ns) facts on_true → LabelThere (length ns) facts on_false → Arms on_true on_false (length ns)
      → Adding ns (add_cond ns c on_true on_false).nodes facts (add_cond ns c on_true on_false).entry [] 0
  cond_adds (Test e) on_true on_false ns facts sure t f arms =
      let x = test_adds ns facts sure on_true on_false t f arms in
      on_from x (expr_adds e 0 _ [] _ x.now x.sure x.starts)
  cond_adds (Not c) on_true on_false ns facts sure t f arms = cond_adds c on_false on_true ns facts sure f t (arms_turned on_true on_false (length ns) arms)
  cond_adds (Both a l m b) on_true on_false ns facts sure t f arms =
      let bs : Part = add_cond ns b on_true on_false in
      let x = cond_adds b on_true on_false ns facts sure t f arms in
      let is : Part = added bs.nodes (o.Label l) (Some bs.entry) in
      let y = label_adds bs.nodes x.now x.sure l (Some bs.entry) (to_one _ x.now bs.entry x.starts) in
      let ks : Part = added is.nodes (o.Label m) (Some on_false) in
      let z = label_adds is.nodes y.adds.now y.adds.sure m (Some on_false) (to_one _ y.adds.now on_false (there_on y.adds (there_on x f.there))) in
      let u = cond_adds a is.entry ks.entry ks.nodes z.adds.now z.adds.sure (label_on z.adds (begins y)) (begins z) (arms_new bs.nodes _ _) in
      on_from x (on_from y.adds (on_from z.adds u))
  cond_adds (Either a l m b) on_true on_false ns facts sure t f arms =
      let bs : Part = add_cond ns b on_true on_false in
      let x = cond_adds b on_true on_false ns facts sure t f arms in
      let is : Part = added bs.nodes (o.Label l) (Some on_true) in
      let y = label_adds bs.nodes x.now x.sure l (Some on_true) (to_one _ x.now on_true (there_on x t.there)) in
      let ks : Part = added is.nodes (o.Label m) (Some bs.entry) in
      let z = label_adds is.nodes y.adds.now y.adds.sure m (Some bs.entry) (to_one _ y.adds.now bs.entry (there_on y.adds x.starts)) in
      let u = cond_adds a is.entry ks.entry ks.nodes z.adds.now z.adds.sure (label_on z.adds (begins y)) (begins z) (arms_new bs.nodes _ _) in
      on_from x (on_from y.adds (on_from z.adds u))

  cond_adds_if_any : (c : Option CmCond) (on_true on_false : ℕ) (ns : List RtNode) (facts : Facts) → Sure Meets ns facts → LabelThere (length ns) facts on_true → LabelThere (length ns) facts on_false → Arms on_true on_false (length ns)
      → Adding ns (add_cond_if_any ns c on_true on_false).nodes facts (add_cond_if_any ns c on_true on_false).entry [] 0
  cond_adds_if_any None on_true on_false ns facts sure t f arms = stays ns facts sure on_true 0 [] t.there
  cond_adds_if_any (Some c) on_true on_false ns facts sure t f arms = cond_adds c on_true on_false ns facts sure t f arms

  -- ---- calls

  -- what takes a result was added: only the node that is added next leads there
  record Takes (ns ms : List RtNode) (facts : Facts) (entry : ℕ) : Type 0 where
    now : Facts
    sure : Sure Meets ms now
    more : length ns ≤ length ms
    same : (y : ℕ) → y < length ns → now y ≡ facts y
    below : entry < length ms
    arguments : (now entry).arguments ≡ []
    written : (now entry).written ≡ 0
    owned : (now entry).owned ≡ true → length ms ≡ suc entry

  not_taken : (ns : List RtNode) (facts : Facts) → Sure Meets ns facts → (next : ℕ) → There (length ns) facts next [] 0 → Takes ns ns facts next
  not_taken ns facts sure next goes = record {
    now = facts;
    sure = sure;
    more = omega arith;
    same = λ y h. refl;
    below = goes.below;
    arguments = goes.arguments_are;
    written = goes.written_is;
    owned = λ is. no_label (sym goes.free ∙ is);
  }

  taking_adds : (result : Option Held) (target : Option ℕ) (next : ℕ) (ns : List RtNode) (facts : Facts) → Sure Meets ns facts → There (length ns) facts next [] 0 → Takes ns (add_taking ns result target next).nodes facts (add_taking ns result target next).entry
  taking_adds None target next ns facts sure goes = not_taken ns facts sure next goes
  taking_adds (Some h) None next ns facts sure goes = not_taken ns facts sure next goes
  taking_adds (Some h) (Some x) next ns facts sure goes =
      let ms : Part = added ns (o.Put x 0) (Some next) in
      let a = plain_adds ns facts sure (o.Put x 0) next [] refl tt tt tt tt goes in
      let n : RtNode = record { op = o.Result h 0; next = Some ms.entry } in
      let v : Fact = record { arguments = []; written = 0; owned = true; label = false } in
      let good : Good Meets (length ms.nodes) a.now (length ms.nodes) v n = record {
        written = refl;
        orderly = tt;
        quiet = tt;
        marked = λ e. no_label e;
        result = refl;
        edges = λ q i. ⊎_elim
            (λ (e : ms.entry ≡ q). subst (λ z. Edge (length ms.nodes) a.now (length ms.nodes) v (o.Result h 0) z) e (edge_to (length ms.nodes) a.now v (o.Result h 0) ms.entry a.starts))
            (λ (none : ⊥). absurd none)
            i;
        tied = tt;
      } in
      let is = noted_same a.now (length ms.nodes) v in
      let m = a.more in
      let l = one_longer ms.nodes n in
      record {
        now = noted a.now (length ms.nodes) v;
        sure = push_sure Meets ms.nodes a.now n v a.sure good;
        more = omega arith;
        same = λ y h. let ne : y ≢ length ms.nodes = omega arith in noted_other a.now (length ms.nodes) y v ne ∙ a.same y h;
        below = omega arith;
        arguments = ap (λ (f : Fact). f.arguments) is;
        written = ap (λ (f : Fact). f.written) is;
        owned = λ e. l;
      }

  call_came : (result : Option Held) (target : Option ℕ) (g : ℕ) (after : Label) (next : ℕ) (ns : List RtNode) → ((h : Held) → result ≡ Some h → ResultOf g h) → Came ResultOf ns
      → Came ResultOf (added (added (add_taking ns result target next).nodes (o.Label after) (Some (add_taking ns result target next).entry)).nodes (o.Call g) (Some (length (add_taking ns result target next).nodes))).nodes
  call_came None target g after next ns has c = came_on _ _ tt (came_on _ _ tt c)
  call_came (Some h) None g after next ns has c = came_on _ _ tt (came_on _ _ tt c)
  call_came (Some h) (Some x) g after next ns has c =
      let put : RtNode = record { op = o.Put x 0; next = Some next } in
      let ks : List RtNode = ns ++ put ∷ [] in
      let result : RtNode = record { op = o.Result h 0; next = Some (length ns) } in
      let is : List RtNode = ks ++ result ∷ [] in
      let label : RtNode = record { op = o.Label after; next = Some (length ks) } in
      let ls : List RtNode = is ++ label ∷ [] in
      let call : RtNode = record { op = o.Call g; next = Some (length is) } in
      let early = came_on ns put tt c in
      let l1 : length is ≡ suc (length ks) = one_longer ks result in
      let l2 : length ls ≡ suc (suc (length ks)) = one_longer is label ∙ ap suc l1 in
      let labels : slice_get (ls ++ call ∷ []) (suc (length ks)) ≡ Some label = subst (λ k. slice_get (ls ++ call ∷ []) k ≡ Some label) l1 (get_front ls (call ∷ []) (length is) label (get_new is label)) in
      let calls : slice_get (ls ++ call ∷ []) (suc (suc (length ks))) ≡ Some (record { op = o.Call g; next = Some (suc (length ks)) }) =
      subst (λ k. slice_get (ls ++ call ∷ []) (suc (suc (length ks))) ≡ Some (record { op = o.Call g; next = Some k })) l1 (subst (λ k. slice_get (ls ++ call ∷ []) k ≡ Some call) l2 (get_new ls call)) in
      let first : CameAt ResultOf (ls ++ call ∷ []) (length ks) h = record { callee = g; label = after; calls = calls; labels = labels; result_of = has h refl } in
      record {
        by = λ p h' t next' e. ⊎_elim
            (λ e1. ⊎_elim
            (λ e2. ⊎_elim
            (λ e3. came_at_front ls (call ∷ []) p h' (came_at_front is (label ∷ []) p h' (came_at_front ks (result ∷ []) p h' (early.by p h' t next' e3))))
            (λ new. let same : h ≡ h' = results h h' 0 t (Some (length ns)) next' new.1 in subst (λ k. CameAt ResultOf (ls ++ call ∷ []) k h') (sym new.0) (subst (λ z. CameAt ResultOf (ls ++ call ∷ []) (length ks) z) same first))
            (get_added ks result p _ e2))
            (λ new. absurd (not_result label h' t next' tt new.1))
            (get_added is label p _ e1))
            (λ new. absurd (not_result call h' t next' tt new.1))
            (get_added ls call p _ e);
      }
    where
      results : (h h' : Held) (t t' : ℕ) (next next' : Option ℕ) → ◌≡◌ {A = RtNode} (record { op = o.Result h t; next = next }) (record { op = o.Result h' t'; next = next' }) → h ≡ h'
      results h h' t t' next next' e = let ops : o.Result h t ≡ o.Result h' t' = ap (λ (m : RtNode). m.op) e in cc

  call_adds : (fs : List CmFunction) (target : Option ℕ) (g : ℕ) (es : List CmExpr) (after : Label) (next : ℕ) (ns : List RtNode) (facts : Facts) → ((h : Held) → result_at (slice_get fs g) ≡ Some h → ResultOf g h) → Meets g (handed (parameters_at (slice_get fs g)) 0 es)
      → Sure Meets ns facts → There (length ns) facts next [] 0 → Adding ns (add_call fs ns target g es after next).nodes facts (add_call fs ns target g es after next).entry [] 0
  call_adds fs target g es after next ns facts has meets sure goes =
      let result = result_at (slice_get fs g) in
      let hs = parameters_at (slice_get fs g) in
      let is : Part = add_taking ns result target next in
      let ks : Part = added is.nodes (o.Label after) (Some is.entry) in
      let ms : Part = added ks.nodes (o.Call g) (Some ks.entry) in
      let a = taking_adds result target next ns facts sure goes in
      let label : RtNode = record { op = o.Label after; next = Some is.entry } in
      let v : Fact = record { arguments = []; written = 0; owned = true; label = true } in
      let good_label : Good Meets (length is.nodes) a.now (length is.nodes) v label = record {
        written = refl;
        orderly = tt;
        quiet = refl;
        marked = λ e. tt;
        result = tt;
        edges = λ q i. ⊎_elim
            (λ (e : is.entry ≡ q). subst (λ z. Edge (length is.nodes) a.now (length is.nodes) v (o.Label after) z) e (record { below = a.below; arguments = sym a.arguments; written = a.written; owned = a.owned; falls = tt }))
            (λ (none : ⊥). absurd none)
            i;
        tied = tt;
      } in
      let now : Facts = noted a.now (length is.nodes) v in
      let labelled = push_sure Meets is.nodes a.now label v a.sure good_label in
      let is_v : now (length is.nodes) ≡ v = noted_same a.now (length is.nodes) v in
      let l1 = one_longer is.nodes label in
      let call : RtNode = record { op = o.Call g; next = Some ks.entry } in
      let u : Fact = plain (handed hs 0 es) 0 in
      let good_call : Good Meets (length ks.nodes) now (length ks.nodes) u call = record {
        written = refl;
        orderly = tt;
        quiet = meets;
        marked = λ e. no_label e;
        result = tt;
        edges = λ q i. ⊎_elim
            (λ (e : ks.entry ≡ q). subst (λ z. Edge (length ks.nodes) now (length ks.nodes) u (o.Call g) z) e (record { below = omega arith; arguments = ap (λ (f : Fact). f.arguments) (sym is_v); written = ap (λ (f : Fact). f.written) is_v; owned = λ owned. l1; falls = omega arith }))
            (λ (none : ⊥). absurd none)
            i;
        tied = (ap (λ (f : Fact). f.label) is_v, ap (λ (f : Fact). f.owned) is_v);
      } in
      let called = node_adds ks.nodes now labelled call u tt refl good_call in
      let m0 = a.more in
      let m1 = called.adds.more in
      let both : Adding ns ms.nodes facts ms.entry (handed hs 0 es) 0 = record {
        now = called.adds.now;
        sure = called.adds.sure;
        came = call_came result target g after next ns has;
        more = omega arith;
        same = λ y h. let h1 : y < length ks.nodes = omega arith in let ne : y ≢ length is.nodes = omega arith in called.adds.same y h1 ∙ noted_other a.now (length is.nodes) y v ne ∙ a.same y h;
        starts = called.adds.starts;
      } in
      on_from both (arguments_add hs 0 es ms.entry [] ms.nodes both.now both.sure both.starts)

  return_adds : (e : Option CmExpr) (end : ℕ) (ns : List RtNode) (facts : Facts) → Sure Meets ns facts → There (length ns) facts end [] 0 → Adding ns (add_return ns e end).nodes facts (add_return ns e end).entry [] 0
  return_adds None end ns facts sure goes = stays ns facts sure end 0 [] goes
  return_adds (Some e) end ns facts sure goes =
      let a = last_adds ns facts sure (o.ReturnValue 0) [] refl tt tt refl tt in
      on_from a (expr_adds e 0 _ [] _ a.now a.sure a.starts)

  end_adds : (result : Option Held) (ns : List RtNode) (facts : Facts) → Sure Meets ns facts → Adding ns (add_end ns result).nodes facts (add_end ns result).entry [] 0
  end_adds None ns facts sure = last_adds ns facts sure o.Return [] refl tt tt refl tt
  end_adds (Some h) ns facts sure =
      let a = last_adds ns facts sure (o.ReturnValue 0) [] refl tt tt refl tt in
      on_from a (plain_adds _ a.now a.sure (o.Const 0 0) _ [] refl tt tt tt tt a.starts)

  -- ---- statements

  -- the ways out of a statement
  record Ways (size : ℕ) (facts : Facts) (x : Exits) : Type 0 where
    on_break : There size facts x.on_break [] 0
    on_continue : There size facts x.on_continue [] 0
    on_return : There size facts x.on_return [] 0

  ways_on : {ns ms : List RtNode} {facts : Facts} {e w : ℕ} {x : Exits} {args : List Argument} (a : Adding ns ms facts e args w) → Ways (length ns) facts x → Ways (length ms) a.now x
  ways_on a x = record { on_break = there_on a x.on_break; on_continue = there_on a x.on_continue; on_return = there_on a x.on_return }

  module _ (fs : List CmFunction) (has : (g : ℕ) (h : Held) → result_at (slice_get fs g) ≡ Some h → ResultOf g h) (Holds : CmStmt → Type 0) (meets : (target : Option ℕ) (g : ℕ) (es : List CmExpr) (after : Label) → Holds (Call target g es after) → Meets g (handed (parameters_at (slice_get fs g)) 0 es)) where
    mutual
      stmt_adds : (s : CmStmt) (next : ℕ) (x : Exits) (ns : List RtNode) (facts : Facts) → OfStmts Holds s → Sure Meets ns facts → There (length ns) facts next [] 0 → Ways (length ns) facts x → Adding ns (add_stmt fs ns s next x).nodes facts (add_stmt fs ns s next x).entry [] 0
      stmt_adds (Seq statements) next x ns facts holds sure goes ways = stmts_add statements next x ns facts holds.1 sure goes ways
      stmt_adds (Set v e) next x ns facts holds sure goes ways =
          let a = plain_adds ns facts sure (o.Put v 0) next [] refl tt tt tt tt goes in
          on_from a (expr_adds e 0 _ [] _ a.now a.sure a.starts)
      stmt_adds (Store h p e) next x ns facts holds sure goes ways =
          let later : 0 < 1 = omega arith in
          let a = plain_adds ns facts sure (o.Store h 0 1) next [] refl tt later tt tt goes in
          let b = expr_adds e 1 _ [] _ a.now a.sure a.starts in
          on_from a (on_from b (expr_adds p 0 _ [] _ b.now b.sure b.starts))
      stmt_adds (ReadPort v) next x ns facts holds sure goes ways =
          let a = plain_adds ns facts sure (o.Put v 0) next [] refl tt tt tt tt goes in
          on_from a (plain_adds _ a.now a.sure (o.ReadPort 0) _ [] refl tt tt tt tt a.starts)
      stmt_adds (WritePort e) next x ns facts holds sure goes ways =
          let a = plain_adds ns facts sure (o.WritePort 0) next [] refl tt tt tt tt goes in
          on_from a (expr_adds e 0 _ [] _ a.now a.sure a.starts)
      stmt_adds (Call target g es after) next x ns facts holds sure goes ways = call_adds fs target g es after next ns facts (has g) (meets target g es after holds) sure goes
      stmt_adds (If c on_true s on_false s') next x ns facts holds sure goes ways =
          let bs : Part = add_stmt fs ns s' next x in
          let os : Part = add_stmt fs bs.nodes s next x in
          let ks : Part = added os.nodes (o.Label on_false) (Some bs.entry) in
          let is : Part = added ks.nodes (o.Label on_true) (Some os.entry) in
          let b = stmt_adds s' next x ns facts holds.2 sure goes ways in
          let a = stmt_adds s next x bs.nodes b.now holds.1 b.sure (there_on b goes) (ways_on b ways) in
          let k = label_adds os.nodes a.now a.sure on_false (Some bs.entry) (to_one _ a.now bs.entry (there_on a b.starts)) in
          let i = label_adds ks.nodes k.adds.now k.adds.sure on_true (Some os.entry) (to_one _ k.adds.now os.entry (there_on k.adds a.starts)) in
          let u = cond_adds c is.entry ks.entry is.nodes i.adds.now i.adds.sure (begins i) (label_on i.adds (begins k)) (arms_turned ks.entry is.entry _ (arms_new os.nodes _ _)) in
          on_from b (on_from a (on_from k.adds (on_from i.adds u)))
      stmt_adds (Loop c body_label body step exit_label) next x ns facts holds sure goes ways =
          let ks : Part = added ns (o.Label exit_label) (Some next) in
          let is : Part = added ks.nodes (o.Label body_label) None in
          let hs : Part = add_cond_if_any is.nodes c is.entry ks.entry in
          let ss : Part = add_stmt fs hs.nodes step hs.entry (in_loop x ks.entry hs.entry) in
          let os : Part = add_stmt fs ss.nodes body ss.entry (in_loop x ks.entry ss.entry) in
          let later = and_on (cond_extends_if_any c is.entry ks.entry is.nodes) (and_on (stmt_extends fs step hs.entry (in_loop x ks.entry hs.entry) hs.nodes) (stmt_extends fs body ss.entry (in_loop x ks.entry ss.entry) ss.nodes)) in
          let k = label_adds ns facts sure exit_label (Some next) (to_one _ facts next goes) in
          let i = label_adds ks.nodes k.adds.now k.adds.sure body_label None (λ q none. absurd none) in
          let h = cond_adds_if_any c is.entry ks.entry is.nodes i.adds.now i.adds.sure (begins i) (label_on i.adds (begins k)) (arms_turned ks.entry is.entry _ (arms_new ns _ _)) in
          let exit = there_on h (there_on i.adds k.adds.starts) in
          let end = there_on h (there_on i.adds (there_on k.adds ways.on_return)) in
          let a = stmt_adds step hs.entry (in_loop x ks.entry hs.entry) hs.nodes h.now holds.2 h.sure h.starts (record { on_break = exit; on_continue = h.starts; on_return = end }) in
          let b = stmt_adds body ss.entry (in_loop x ks.entry ss.entry) ss.nodes a.now holds.1 a.sure a.starts (record { on_break = there_on a exit; on_continue = a.starts; on_return = there_on a end }) in
          let closing = close_adds os.nodes b.now is.entry body_label os.entry hs.entry 0 [] b.sure (new_at ks.nodes (o.Label body_label) None os.nodes later) b.starts (there_on b (there_on a h.starts)) in
          on_from k.adds (on_from i.adds (on_from h (on_from a (on_from b closing))))
      stmt_adds (Do body c repeat_label exit_label) next x ns facts holds sure goes ways =
          let ks : Part = added ns (o.Label exit_label) (Some next) in
          let is : Part = added ks.nodes (o.Label repeat_label) None in
          let hs : Part = add_cond is.nodes c is.entry ks.entry in
          let os : Part = add_stmt fs hs.nodes body hs.entry (in_loop x ks.entry hs.entry) in
          let later = and_on (cond_extends c is.entry ks.entry is.nodes) (stmt_extends fs body hs.entry (in_loop x ks.entry hs.entry) hs.nodes) in
          let k = label_adds ns facts sure exit_label (Some next) (to_one _ facts next goes) in
          let i = label_adds ks.nodes k.adds.now k.adds.sure repeat_label None (λ q none. absurd none) in
          let h = cond_adds c is.entry ks.entry is.nodes i.adds.now i.adds.sure (begins i) (label_on i.adds (begins k)) (arms_turned ks.entry is.entry _ (arms_new ns _ _)) in
          let exit = there_on h (there_on i.adds k.adds.starts) in
          let end = there_on h (there_on i.adds (there_on k.adds ways.on_return)) in
          let b = stmt_adds body hs.entry (in_loop x ks.entry hs.entry) hs.nodes h.now holds.1 h.sure h.starts (record { on_break = exit; on_continue = h.starts; on_return = end }) in
          let closing = close_adds os.nodes b.now is.entry repeat_label os.entry os.entry 0 [] b.sure (new_at ks.nodes (o.Label repeat_label) None os.nodes later) b.starts b.starts in
          on_from k.adds (on_from i.adds (on_from h (on_from b closing)))
      stmt_adds Break next x ns facts holds sure goes ways = stays ns facts sure x.on_break 0 [] ways.on_break
      stmt_adds Continue next x ns facts holds sure goes ways = stays ns facts sure x.on_continue 0 [] ways.on_continue
      stmt_adds (Return e) next x ns facts holds sure goes ways = return_adds e x.on_return ns facts sure ways.on_return

      stmts_add : (statements : CmStmts) (next : ℕ) (x : Exits) (ns : List RtNode) (facts : Facts) → OfAll Holds statements → Sure Meets ns facts → There (length ns) facts next [] 0 → Ways (length ns) facts x → Adding ns (add_stmts fs ns statements next x).nodes facts (add_stmts fs ns statements next x).entry [] 0
      stmts_add NoStmts next x ns facts holds sure goes ways = stays ns facts sure next 0 [] goes
      stmts_add (Then earlier s) next x ns facts holds sure goes ways =
          let a = stmt_adds s next x ns facts holds.1 sure goes ways in
          on_from a (stmts_add earlier _ x _ a.now holds.0 a.sure a.starts (ways_on a ways))

    pub function_certified : (f : CmFunction) → OfStmts Holds f.body → IsCertified Meets ResultOf (add_body fs f).nodes (add_body fs f).entry
    function_certified f holds =
        let nothing_known : Facts = λ y. plain [] 0 in
        let empty : Sure Meets [] nothing_known = record { each = λ p n e. absurd (no_node e) } in
        let no_results : Came ResultOf [] = record { by = λ p h t next e. absurd (no_node e) } in
        let end : Part = add_end [] f.result in
        let body : Part = add_stmt fs end.nodes f.body end.entry (exits_at end.entry) in
        let a = end_adds f.result [] nothing_known empty in
        let b = stmt_adds f.body end.entry (exits_at end.entry) end.nodes a.now holds a.sure a.starts (record { on_break = a.starts; on_continue = a.starts; on_return = a.starts }) in
        let x : RtNode = record { op = o.Label f.label; next = Some body.entry } in
        let v : Fact = record { arguments = []; written = 0; owned = true; label = true } in
        let good : Good Meets (length body.nodes) b.now (length body.nodes) v x = record {
          written = refl;
          orderly = tt;
          quiet = refl;
          marked = λ e. tt;
          result = tt;
          edges = λ q i. edge_to (length body.nodes) b.now v (o.Label f.label) q (to_one _ b.now body.entry b.starts q i);
          tied = tt;
        } in
        let is = noted_same b.now (length body.nodes) v in
        record {
          facts = noted b.now (length body.nodes) v;
          sure = push_sure Meets body.nodes b.now x v b.sure good;
          came = came_on body.nodes x tt (b.came (a.came no_results));
          below = let l = one_longer body.nodes x in omega arith;
          last = one_longer body.nodes x;
          arguments_are = ap (λ (f : Fact). f.arguments) is;
          written_is = ap (λ (f : Fact). f.written) is;
          alone = ap (λ (f : Fact). f.owned) is;
          labelled = ap (λ (f : Fact). f.label) is;
        }

-- ---- with nothing asked of calls

mutual
  all_hold : (s : CmStmt) → OfStmts (λ t. Unit {0}) s
  all_hold (Seq statements) = (tt, all_hold_of statements)
  all_hold (If c on_true a on_false b) = (tt, all_hold a, all_hold b)
  all_hold (Loop c body_label body step exit_label) = (tt, all_hold body, all_hold step)
  all_hold (Do body c repeat_label exit_label) = (tt, all_hold body)
  all_hold _ = tt

  all_hold_of : (statements : CmStmts) → OfAll (λ t. Unit {0}) statements
  all_hold_of NoStmts = tt
  all_hold_of (Then earlier s) = (all_hold_of earlier, all_hold s)

pub always_certified : (fs : List CmFunction) (f : CmFunction) → IsCertified (λ g arguments. Unit {0}) (λ g h. Unit {0}) (add_body fs f).nodes (add_body fs f).entry
always_certified fs f = function_certified (λ g arguments. Unit {0}) (λ g h. Unit {0}) fs (λ g h is. tt) (λ s. Unit {0}) (λ target g es after holds. tt) f (all_hold f.body)
