-- Each label is in the graphs as often as in the program that they came from.
use Rattle.std.proofs.Common.{◌≡◌, ℕ, suc, ◌+◌, List, [], ◌∷◌, ◌++◌, map, Bool, true, false, Option, Some, None, refl, ◌∙◌, if◌then◌else◌, arith}
use Rattle.std.specs.Prelude.{slice_get, nat_eq}
use Rattle.cerco_base.specs.declared.events.Label.{Label}
use Rattle.cerco_middle.specs.declared.operators.Held.{Held}
use Rattle.cerco_middle.specs.declared.rtlabs.RtOp.{RtOp}
use Rattle.cerco_middle.specs.declared.rtlabs.RtOp.TheVariants as o
use Rattle.cerco_middle.specs.declared.rtlabs.RtNode.{RtNode}
use Rattle.cerco_middle.specs.Operators.{held_bytes}
use Rattle.cerco_middle.specs.Programs.{times_in, AreNumbered}
use Rattle.cerco_middle.specs.Cminor.Trees.{CmExpr, Const, Var, Load, Neg, Complement, Narrow, Bin, Shl, Shr, CmCond, Test, Not, Both, Either, CmStmt, Seq, Set, Store, ReadPort, WritePort, Call, If, Loop, Do, Break, Continue, Return, CmStmts, NoStmts, Then, CmFunction, cond_labels, cond_labels_if_any, stmt_labels, stmts_labels}
use Rattle.cerco_middle.specs.Cminor.Trees as cm
use Rattle.cerco_middle.specs.Cminor.Sums.{parameters_at, result_at}
use Rattle.cerco_middle.specs.RtLabs.Graphs.{label_at, labels_of_nodes}
use Rattle.cerco_middle.specs.RtLabs.Graphs as rt
use Rattle.cerco_middle.specs.RtLabs.Sums.{sum_of_nodes}
use Rattle.rtlabs_gen.specs.Translation.{add_body, translated_function}
use Rattle.rtlabs_gen.proofs.Outline.{bare_op, goes, expr_nodes, arguments_nodes, cond_nodes, cond_nodes_if_any, taking_nodes, call_nodes, return_nodes, stmt_nodes, stmts_nodes, end_nodes}
use Rattle.rtlabs_gen.proofs.Lengths.{sum-append, sum_of_body}

-- whether it is this label, as a number
seen : ℕ → ℕ → ℕ
seen l x = times_in l (x ∷ [])

counted : (b : Bool) (n : ℕ) → (if b then suc n else n) ≡ (if b then 1 else 0) + n
counted true n = omega arith
counted false n = omega arith

one_more : (l x : ℕ) (xs : List ℕ) → times_in l (x ∷ xs) ≡ seen l x + times_in l xs
unfolding seen
one_more l x xs = counted (nat_eq x l) (times_in l xs)

abbrev weight : ℕ → RtOp → ℕ
weight l (o.Label x) = seen l x.0
weight l _ = 0

module _ (l : ℕ) where
  bare_weight : (op : RtOp) → weight l (bare_op op) ≡ weight l op
  bare_weight (o.Test t one other) = refl
  bare_weight _ = refl

  at_op : (op : RtOp) (more : List ℕ) → times_in l (label_at op more) ≡ weight l op + times_in l more
  at_op (o.Label x) more = one_more l x.0 more
  at_op _ more = omega arith

  abbrev count : List RtNode → ℕ
  count = sum_of_nodes (weight l)

  count-append : (xs ys : List RtNode) → count (xs ++ ys) ≡ count xs + count ys
  count-append = sum-append (weight l)

  of_nodes : (nodes : List RtNode) (more : List ℕ) → times_in l (labels_of_nodes nodes more) ≡ count nodes + times_in l more
  of_nodes [] more = omega arith
  of_nodes (n ∷ nodes) more =
      let i = of_nodes nodes more in
      let j = at_op n.op (labels_of_nodes nodes more) in
      omega arith

  expr_count : (e : CmExpr) (t : ℕ) → count (expr_nodes e t) ≡ 0
  expr_count (Const number) t = refl
  expr_count (Var x) t = refl
  expr_count (Load h e) t = let i = expr_count e t in omega arith
  expr_count (Neg e) t = let i = expr_count e t in omega arith
  expr_count (Complement e) t = let i = expr_count e t in omega arith
  expr_count (Narrow h e) t = let i = expr_count e t in omega arith
  expr_count (Bin op a b) t =
      let i = expr_count a t in
      let j = expr_count b (t + 1) in
      let s = count-append (expr_nodes b (t + 1)) (expr_nodes a t) in
      omega arith
  expr_count (Shl k e) t = let i = expr_count e t in omega arith
  expr_count (Shr k arithmetic e) t = let i = expr_count e t in omega arith

  arguments_count : (hs : List Held) (first : ℕ) (es : List CmExpr) → count (arguments_nodes hs first es) ≡ 0
  arguments_count [] first es = refl
  arguments_count (h ∷ hs) first [] = refl
  arguments_count (h ∷ hs) first (e ∷ es) =
      let i = arguments_count hs (first + held_bytes h) es in
      let j = expr_count e 0 in
      let s = count-append (arguments_nodes hs (first + held_bytes h) es) (goes (o.Arg h first 0) ∷ expr_nodes e 0) in
      omega arith

  cond_count : (c : CmCond) (more : List ℕ) → times_in l (cond_labels c more) ≡ count (cond_nodes c) + times_in l more
  cond_count (Test e) more = let i = expr_count e 0 in omega arith
  cond_count (Not c) more = cond_count c more
  cond_count (Both a on_true on_false b) more =
      let i = cond_count a (on_true.0 ∷ on_false.0 ∷ cond_labels b more) in
      let j = cond_count b more in
      let t = one_more l on_true.0 (on_false.0 ∷ cond_labels b more) in
      let f = one_more l on_false.0 (cond_labels b more) in
      let s = count-append (cond_nodes b) (goes (o.Label on_true) ∷ goes (o.Label on_false) ∷ cond_nodes a) in
      omega arith
  cond_count (Either a on_true on_false b) more =
      let i = cond_count a (on_true.0 ∷ on_false.0 ∷ cond_labels b more) in
      let j = cond_count b more in
      let t = one_more l on_true.0 (on_false.0 ∷ cond_labels b more) in
      let f = one_more l on_false.0 (cond_labels b more) in
      let s = count-append (cond_nodes b) (goes (o.Label on_true) ∷ goes (o.Label on_false) ∷ cond_nodes a) in
      omega arith

  cond_count_if_any : (c : Option CmCond) (more : List ℕ) → times_in l (cond_labels_if_any c more) ≡ count (cond_nodes_if_any c) + times_in l more
  cond_count_if_any None more = omega arith
  cond_count_if_any (Some c) more = cond_count c more

  taking_count : (r : Option Held) (target : Option ℕ) → count (taking_nodes r target) ≡ 0
  taking_count (Some h) (Some x) = refl
  taking_count None target = refl
  taking_count (Some h) None = refl

  call_count : (hs : List Held) (r : Option Held) (target : Option ℕ) (g : ℕ) (es : List CmExpr) (after : Label) (more : List ℕ) → times_in l (after.0 ∷ more) ≡ count (call_nodes hs r target g es after) + times_in l more
  call_count hs r target g es after more =
      let i = taking_count r target in
      let j = arguments_count hs 0 es in
      let a = one_more l after.0 more in
      let s = count-append (taking_nodes r target) (goes (o.Label after) ∷ goes (o.Call g) ∷ arguments_nodes hs 0 es) in
      omega arith

  return_count : (e : Option CmExpr) → count (return_nodes e) ≡ 0
  return_count None = refl
  return_count (Some e) = let i = expr_count e 0 in omega arith

  end_count : (r : Option Held) → count (end_nodes r) ≡ 0
  end_count None = refl
  end_count (Some h) = refl

  module _ (fs : List CmFunction) where
    mutual
      stmt_count : (s : CmStmt) (more : List ℕ) → times_in l (stmt_labels s more) ≡ count (stmt_nodes fs s) + times_in l more
      stmt_count (Seq statements) more = stmts_count statements more
      stmt_count (Set x e) more = let i = expr_count e 0 in omega arith
      stmt_count (Store h a e) more =
          let i = expr_count a 0 in
          let j = expr_count e 1 in
          let s = count-append (expr_nodes e 1) (expr_nodes a 0) in
          omega arith
      stmt_count (ReadPort x) more = omega arith
      stmt_count (WritePort e) more = let i = expr_count e 0 in omega arith
      stmt_count (Call target g es after) more = call_count (parameters_at (slice_get fs g)) (result_at (slice_get fs g)) target g es after more
      stmt_count (If c on_true a on_false b) more =
          let i = cond_count c (on_true.0 ∷ stmt_labels a (on_false.0 ∷ stmt_labels b more)) in
          let j = stmt_count a (on_false.0 ∷ stmt_labels b more) in
          let k = stmt_count b more in
          let t = one_more l on_true.0 (stmt_labels a (on_false.0 ∷ stmt_labels b more)) in
          let f = one_more l on_false.0 (stmt_labels b more) in
          let rest : List RtNode = goes (o.Label on_false) ∷ goes (o.Label on_true) ∷ cond_nodes c in
          let s = count-append (stmt_nodes fs a) rest in
          let u = count-append (stmt_nodes fs b) (stmt_nodes fs a ++ rest) in
          omega arith
      stmt_count (Loop c body_label body step exit_label) more =
          let i = cond_count_if_any c (body_label.0 ∷ stmt_labels body (stmt_labels step (exit_label.0 ∷ more))) in
          let j = stmt_count body (stmt_labels step (exit_label.0 ∷ more)) in
          let k = stmt_count step (exit_label.0 ∷ more) in
          let t = one_more l body_label.0 (stmt_labels body (stmt_labels step (exit_label.0 ∷ more))) in
          let f = one_more l exit_label.0 more in
          let s = count-append (stmt_nodes fs step) (stmt_nodes fs body) in
          let u = count-append (cond_nodes_if_any c) (stmt_nodes fs step ++ stmt_nodes fs body) in
          omega arith
      stmt_count (Do body c repeat_label exit_label) more =
          let i = stmt_count body (cond_labels c (repeat_label.0 ∷ exit_label.0 ∷ more)) in
          let j = cond_count c (repeat_label.0 ∷ exit_label.0 ∷ more) in
          let t = one_more l repeat_label.0 (exit_label.0 ∷ more) in
          let f = one_more l exit_label.0 more in
          let u = count-append (cond_nodes c) (stmt_nodes fs body) in
          omega arith
      stmt_count Break more = omega arith
      stmt_count Continue more = omega arith
      stmt_count (Return e) more = let i = return_count e in omega arith

      stmts_count : (statements : CmStmts) (more : List ℕ) → times_in l (stmts_labels statements more) ≡ count (stmts_nodes fs statements) + times_in l more
      stmts_count NoStmts more = omega arith
      stmts_count (Then earlier s) more =
          let i = stmts_count earlier (stmt_labels s more) in
          let j = stmt_count s more in
          let u = count-append (stmt_nodes fs s) (stmts_nodes fs earlier) in
          omega arith

    -- in the graph of a function, before some more
    pub function_count : (f : CmFunction) (more more' : List ℕ) → times_in l more ≡ times_in l more' → times_in l (labels_of_nodes (add_body fs f).nodes more) ≡ times_in l (f.label.0 ∷ stmt_labels f.body more')
    function_count f more more' same =
        let i = of_nodes (add_body fs f).nodes more in
        let j = sum_of_body (weight l) bare_weight fs f in
        let k = end_count f.result in
        let m = stmt_count f.body more' in
        let a = one_more l f.label.0 (stmt_labels f.body more') in
        let label : List RtNode = goes (o.Label f.label) ∷ [] in
        let s = count-append (stmt_nodes fs f.body) label in
        let t = count-append (end_nodes f.result) (stmt_nodes fs f.body ++ label) in
        omega arith

    pub functions_count : (gs : List CmFunction) → times_in l (rt.labels_of (map (translated_function fs) gs)) ≡ times_in l (cm.labels_of gs)
    functions_count [] = refl
    functions_count (g ∷ gs) = function_count g (rt.labels_of (map (translated_function fs) gs)) (cm.labels_of gs) (functions_count gs)

pub labels_numbered : (fs : List CmFunction) → AreNumbered (cm.labels_of fs) → AreNumbered (rt.labels_of (map (translated_function fs) fs))
labels_numbered fs n = record { number = n.number; once = λ l lt. functions_count l fs fs ∙ n.once l lt; no_more = λ l le. functions_count l fs fs ∙ n.no_more l le }
