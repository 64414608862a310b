-- With every jump long, the code of the graphs is as long as that of the program that they came from.
use Rattle.std.proofs.Common.{◌≡◌, ℕ, ◌+◌, List, [], ◌∷◌, ◌++◌, map, Option, Some, None, refl, sym, ap, ap₂, ◌∙◌, arith}
use Rattle.std.specs.Prelude.{slice_get}
use Rattle.cerco_base.specs.declared.events.Label.{Label}
use Rattle.cerco_middle.specs.declared.operators.Held.{Held}
use Rattle.cerco_middle.specs.declared.rtlabs.RtOp.{RtOp}
use Rattle.cerco_middle.specs.declared.rtlabs.RtOp.TheVariants as o
use Rattle.cerco_middle.specs.declared.rtlabs.RtNode.{RtNode}
use Rattle.cerco_middle.specs.Operators.{held_bytes}
use Rattle.cerco_middle.specs.Cminor.Trees.{CmExpr, Const, Var, Load, Neg, Complement, Narrow, Bin, Shl, Shr, CmCond, Test, Not, Both, Either, CmStmt, Seq, Set, Store, ReadPort, WritePort, Call, If, Loop, Do, Break, Continue, Return, CmStmts, NoStmts, Then, CmFunction, Cminor}
use Rattle.cerco_middle.specs.Cminor.Sums.{parameters_at, result_at, expr_length, cond_length, cond_length_if_any, arguments_length, taking_length, return_length_of, stmt_length, stmts_length, end_length}
use Rattle.cerco_middle.specs.Cminor.Sums as cm
use Rattle.cerco_middle.specs.Lengths.{label_length, call_length, start_length}
use Rattle.cerco_middle.specs.RtLabs.Sums.{op_length, sum_of_nodes}
use Rattle.cerco_middle.specs.RtLabs.Sums as rt
use Rattle.rtlabs_gen.specs.Translation.{add_body, translated_function, translated}
use Rattle.rtlabs_gen.proofs.Outline.{bare_op, bare, expr_nodes, arguments_nodes, cond_nodes, cond_nodes_if_any, taking_nodes, call_nodes, return_nodes, stmt_nodes, stmts_nodes, end_nodes, body_nodes, body_outline}

-- ---- sums over nodes

module _ (weight : RtOp → ℕ) where
  pub sum-append : (xs ys : List RtNode) → sum_of_nodes weight (xs ++ ys) ≡ sum_of_nodes weight xs + sum_of_nodes weight ys
  sum-append [] ys = omega arith
  sum-append (x ∷ xs) ys = let h = sum-append xs ys in omega arith

  pub sum_of_bare : ((op : RtOp) → weight (bare_op op) ≡ weight op) → (ns : List RtNode) → sum_of_nodes weight (map bare ns) ≡ sum_of_nodes weight ns
  sum_of_bare same [] = refl
  sum_of_bare same (n ∷ ns) = let h = sum_of_bare same ns in let e = same n.op in omega arith

  -- a weight that doesn't look at the numbers of nodes has the same sum over a graph as over its function
  pub sum_of_body : ((op : RtOp) → weight (bare_op op) ≡ weight op) → (fs : List CmFunction) (f : CmFunction) → sum_of_nodes weight (add_body fs f).nodes ≡ sum_of_nodes weight (body_nodes fs f)
  sum_of_body same fs f = sym (sum_of_bare same (add_body fs f).nodes) ∙ ap (sum_of_nodes weight) (body_outline fs f)

-- ---- lengths

module _ (held : List Held) (result : Option Held) where
  bare_length : (op : RtOp) → op_length held result (bare_op op) ≡ op_length held result op
  bare_length (o.Test t one other) = refl
  bare_length _ = refl

  abbrev total : List RtNode → ℕ
  total = sum_of_nodes (op_length held result)

  total-append : (xs ys : List RtNode) → total (xs ++ ys) ≡ total xs + total ys
  total-append = sum-append (op_length held result)

  expr_total : (e : CmExpr) (t : ℕ) → total (expr_nodes e t) ≡ expr_length held e
  expr_total (Const number) t = omega arith
  expr_total (Var x) t = omega arith
  expr_total (Load h e) t = let i = expr_total e t in omega arith
  expr_total (Neg e) t = let i = expr_total e t in omega arith
  expr_total (Complement e) t = let i = expr_total e t in omega arith
  expr_total (Narrow h e) t = let i = expr_total e t in omega arith
  expr_total (Bin op a b) t =
      let i = expr_total a t in
      let j = expr_total b (t + 1) in
      let s = total-append (expr_nodes b (t + 1)) (expr_nodes a t) in
      omega arith
  expr_total (Shl k e) t = let i = expr_total e t in omega arith
  expr_total (Shr k arithmetic e) t = let i = expr_total e t in omega arith

  arguments_total : (hs : List Held) (first : ℕ) (es : List CmExpr) → total (arguments_nodes hs first es) ≡ arguments_length held hs es
  arguments_total [] first es = refl
  arguments_total (h ∷ hs) first [] = refl
  arguments_total (h ∷ hs) first (e ∷ es) =
      let i = arguments_total hs (first + held_bytes h) es in
      let j = expr_total e 0 in
      let s = total-append (arguments_nodes hs (first + held_bytes h) es) ((record { op = o.Arg h first 0; next = Some 0 }) ∷ expr_nodes e 0) in
      omega arith

  cond_total : (c : CmCond) → total (cond_nodes c) ≡ cond_length held c
  cond_total (Test e) = let i = expr_total e 0 in omega arith
  cond_total (Not c) = cond_total c
  cond_total (Both a on_true on_false b) =
      let i = cond_total a in
      let j = cond_total b in
      let s = total-append (cond_nodes b) ((record { op = o.Label on_true; next = Some 0 }) ∷ (record { op = o.Label on_false; next = Some 0 }) ∷ cond_nodes a) in
      omega arith
  cond_total (Either a on_true on_false b) =
      let i = cond_total a in
      let j = cond_total b in
      let s = total-append (cond_nodes b) ((record { op = o.Label on_true; next = Some 0 }) ∷ (record { op = o.Label on_false; next = Some 0 }) ∷ cond_nodes a) in
      omega arith

  cond_total_if_any : (c : Option CmCond) → total (cond_nodes_if_any c) ≡ cond_length_if_any held c
  cond_total_if_any None = refl
  cond_total_if_any (Some c) = cond_total c

  taking_total : (r : Option Held) (target : Option ℕ) → total (taking_nodes r target) ≡ taking_length held r target
  taking_total (Some h) (Some x) = omega arith
  taking_total None target = refl
  taking_total (Some h) None = refl

  call_total : (hs : List Held) (r : Option Held) (target : Option ℕ) (g : ℕ) (es : List CmExpr) (after : Label) → total (call_nodes hs r target g es after) ≡ arguments_length held hs es + call_length + label_length + taking_length held r target
  call_total hs r target g es after =
      let i = taking_total r target in
      let j = arguments_total hs 0 es in
      let s = total-append (taking_nodes r target) ((record { op = o.Label after; next = Some 0 }) ∷ (record { op = o.Call g; next = Some 0 }) ∷ arguments_nodes hs 0 es) in
      omega arith

  return_total : (e : Option CmExpr) → total (return_nodes e) ≡ return_length_of held result e
  return_total None = refl
  return_total (Some e) = let i = expr_total e 0 in omega arith

  module _ (fs : List CmFunction) where
    mutual
      stmt_total : (s : CmStmt) → total (stmt_nodes fs s) ≡ stmt_length fs held result s
      stmt_total (Seq statements) = stmts_total statements
      stmt_total (Set x e) = let i = expr_total e 0 in omega arith
      stmt_total (Store h a e) =
          let i = expr_total a 0 in
          let j = expr_total e 1 in
          let s = total-append (expr_nodes e 1) (expr_nodes a 0) in
          omega arith
      stmt_total (ReadPort x) = omega arith
      stmt_total (WritePort e) = let i = expr_total e 0 in omega arith
      stmt_total (Call target g es after) = call_total (parameters_at (slice_get fs g)) (result_at (slice_get fs g)) target g es after
      stmt_total (If c on_true a on_false b) =
          let i = stmt_total a in
          let j = stmt_total b in
          let k = cond_total c in
          let rest : List RtNode = (record { op = o.Label on_false; next = Some 0 }) ∷ (record { op = o.Label on_true; next = Some 0 }) ∷ cond_nodes c in
          let s = total-append (stmt_nodes fs a) rest in
          let t = total-append (stmt_nodes fs b) (stmt_nodes fs a ++ rest) in
          omega arith
      stmt_total (Loop c body_label body step exit_label) =
          let i = stmt_total body in
          let j = stmt_total step in
          let k = cond_total_if_any c in
          let s = total-append (stmt_nodes fs step) (stmt_nodes fs body) in
          let t = total-append (cond_nodes_if_any c) (stmt_nodes fs step ++ stmt_nodes fs body) in
          omega arith
      stmt_total (Do body c repeat_label exit_label) =
          let i = stmt_total body in
          let k = cond_total c in
          let t = total-append (cond_nodes c) (stmt_nodes fs body) in
          omega arith
      stmt_total Break = refl
      stmt_total Continue = refl
      stmt_total (Return e) = return_total e

      stmts_total : (statements : CmStmts) → total (stmts_nodes fs statements) ≡ stmts_length fs held result statements
      stmts_total NoStmts = refl
      stmts_total (Then earlier s) =
          let i = stmt_total s in
          let j = stmts_total earlier in
          let t = total-append (stmt_nodes fs s) (stmts_nodes fs earlier) in
          omega arith

end_total : (held : List Held) (result : Option Held) → total held result (end_nodes result) ≡ end_length result
end_total held None = refl
end_total held (Some h) = omega arith

function_same_length : (fs : List CmFunction) (f : CmFunction) → rt.function_length (translated_function fs f) ≡ cm.function_length fs f
function_same_length fs f =
    let all = sum_of_body (op_length f.held f.result) (bare_length f.held f.result) fs f in
    let i = stmt_total f.held f.result fs f.body in
    let j = end_total f.held f.result in
    let label : List RtNode = (record { op = o.Label f.label; next = Some 0 }) ∷ [] in
    let s = total-append f.held f.result (stmt_nodes fs f.body) label in
    let t = total-append f.held f.result (end_nodes f.result) (stmt_nodes fs f.body ++ label) in
    omega arith

functions_same_length : (fs gs : List CmFunction) → rt.functions_length (map (translated_function fs) gs) ≡ cm.functions_length fs gs
functions_same_length fs [] = refl
functions_same_length fs (g ∷ gs) = ap₂ (λ m n. m + n) (function_same_length fs g) (functions_same_length fs gs)

pub same_long_length : (p : Cminor) → rt.long_length (translated p) ≡ cm.long_length p
same_long_length p = ap (λ n. start_length p.start + n) (functions_same_length p.functions p.functions)
