-- The functions need no more bytes of registers than before: a node names no temporary beyond the depth of the evaluation stack.
use Rattle.std.proofs.Common.{◌≡◌, ℕ, ◌+◌, ◌≤◌, max, List, [], ◌∷◌, ◌++◌, map, Option, Some, None, refl, sym, ap, ◌∙◌, subst, arith}
use Rattle.std.specs.Prelude.{slice_get}
use Rattle.cerco_base.specs.declared.events.Label.{Label}
use Rattle.cerco_middle.specs.declared.operators.Held.{Held}
use Rattle.cerco_middle.specs.declared.rtlabs.RtOp.{RtOp}
use Rattle.cerco_middle.specs.declared.rtlabs.RtOp.TheVariants as o
use Rattle.cerco_middle.specs.declared.rtlabs.RtNode.{RtNode}
use Rattle.cerco_middle.specs.Operators.{held_bytes}
use Rattle.cerco_middle.specs.Cminor.Trees.{CmExpr, Const, Var, Load, Neg, Complement, Narrow, Bin, Shl, Shr, CmCond, Test, Not, Both, Either, CmStmt, Seq, Set, Store, ReadPort, WritePort, Call, If, Loop, Do, Break, Continue, Return, CmStmts, NoStmts, Then, CmFunction}
use Rattle.cerco_middle.specs.Cminor.Sums.{parameters_at, result_at, expr_temporaries, temporaries_if_any, arguments_temporaries, taking_temporaries, cond_temporaries, cond_temporaries_if_any, stmt_temporaries, stmts_temporaries, end_temporaries}
use Rattle.cerco_middle.specs.Cminor.Sums as cm
use Rattle.cerco_middle.specs.RtLabs.Graphs.{used_by, written_by}
use Rattle.cerco_middle.specs.RtLabs.Sums.{count_up_to, temporaries}
use Rattle.cerco_middle.specs.RtLabs.Sums as rt
use Rattle.rtlabs_gen.specs.Translation.{add_body, translated_function}
use Rattle.rtlabs_gen.proofs.Outline.{bare_op, bare, expr_nodes, arguments_nodes, cond_nodes, cond_nodes_if_any, taking_nodes, call_nodes, return_nodes, stmt_nodes, stmts_nodes, end_nodes, body_nodes, body_outline}

named_same : (op : RtOp) → written_by (bare_op op) ++ used_by (bare_op op) ≡ written_by op ++ used_by op
named_same (o.Test t one other) = refl
named_same _ = refl

temporaries_of_bare : (ns : List RtNode) → temporaries (map bare ns) ≡ temporaries ns
temporaries_of_bare [] = refl
temporaries_of_bare (n ∷ ns) = ap (λ l. max (count_up_to l) (temporaries (map bare ns))) (named_same n.op) ∙ ap (λ k. max (count_up_to (written_by n.op ++ used_by n.op)) k) (temporaries_of_bare ns)

both_few : (k : ℕ) (xs ys : List RtNode) → temporaries xs ≤ k → temporaries ys ≤ k → temporaries (xs ++ ys) ≤ k
both_few k [] ys a b = b
both_few k (x ∷ xs) ys a b =
    let h = both_few k xs ys (omega arith) b in
    omega arith

some_temporary : (e : CmExpr) → 1 ≤ expr_temporaries e
some_temporary (Const number) = omega arith
some_temporary (Var x) = omega arith
some_temporary (Load h e) = some_temporary e
some_temporary (Neg e) = some_temporary e
some_temporary (Complement e) = some_temporary e
some_temporary (Narrow h e) = some_temporary e
some_temporary (Bin op a b) = let i = some_temporary a in omega arith
some_temporary (Shl k e) = some_temporary e
some_temporary (Shr k arithmetic e) = some_temporary e

-- an expression at depth t names temporaries from there on, as many as it has
expr_few : (k : ℕ) (e : CmExpr) (t : ℕ) → t + expr_temporaries e ≤ k → temporaries (expr_nodes e t) ≤ k
expr_few k (Const number) t few = omega arith
expr_few k (Var x) t few = omega arith
expr_few k (Load h e) t few = let s = some_temporary e in let i = expr_few k e t few in omega arith
expr_few k (Neg e) t few = let s = some_temporary e in let i = expr_few k e t few in omega arith
expr_few k (Complement e) t few = let s = some_temporary e in let i = expr_few k e t few in omega arith
expr_few k (Narrow h e) t few = let s = some_temporary e in let i = expr_few k e t few in omega arith
expr_few k (Bin op a b) t few =
    let s = some_temporary b in
    let i = expr_few k a t (omega arith) in
    let j = expr_few k b (t + 1) (omega arith) in
    let both = both_few k (expr_nodes b (t + 1)) (expr_nodes a t) j i in
    omega arith
expr_few k (Shl bits e) t few = let s = some_temporary e in let i = expr_few k e t few in omega arith
expr_few k (Shr bits arithmetic e) t few = let s = some_temporary e in let i = expr_few k e t few in omega arith

arguments_few : (k : ℕ) (hs : List Held) (first : ℕ) (es : List CmExpr) → arguments_temporaries hs es ≤ k → temporaries (arguments_nodes hs first es) ≤ k
arguments_few k [] first es few = few
arguments_few k (h ∷ hs) first [] few = few
arguments_few k (h ∷ hs) first (e ∷ es) few =
    let s = some_temporary e in
    let i = expr_few k e 0 (omega arith) in
    let j = arguments_few k hs (first + held_bytes h) es (omega arith) in
    both_few k (arguments_nodes hs (first + held_bytes h) es) _ j (omega arith)

cond_few : (k : ℕ) (c : CmCond) → cond_temporaries c ≤ k → temporaries (cond_nodes c) ≤ k
cond_few k (Test e) few = let s = some_temporary e in let i = expr_few k e 0 (omega arith) in omega arith
cond_few k (Not c) few = cond_few k c few
cond_few k (Both a on_true on_false b) few =
    let i = cond_few k a (omega arith) in
    let j = cond_few k b (omega arith) in
    both_few k (cond_nodes b) _ j (omega arith)
cond_few k (Either a on_true on_false b) few =
    let i = cond_few k a (omega arith) in
    let j = cond_few k b (omega arith) in
    both_few k (cond_nodes b) _ j (omega arith)

cond_few_if_any : (k : ℕ) (c : Option CmCond) → cond_temporaries_if_any c ≤ k → temporaries (cond_nodes_if_any c) ≤ k
cond_few_if_any k None few = few
cond_few_if_any k (Some c) few = cond_few k c few

taking_few : (k : ℕ) (r : Option Held) (target : Option ℕ) → taking_temporaries r target ≤ k → temporaries (taking_nodes r target) ≤ k
taking_few k (Some h) (Some x) few = omega arith
taking_few k None target few = omega arith
taking_few k (Some h) None few = omega arith

call_few : (k : ℕ) (hs : List Held) (r : Option Held) (target : Option ℕ) (g : ℕ) (es : List CmExpr) (after : Label) → arguments_temporaries hs es ≤ k → taking_temporaries r target ≤ k → temporaries (call_nodes hs r target g es after) ≤ k
call_few k hs r target g es after few few' =
    let i = arguments_few k hs 0 es few in
    let j = taking_few k r target few' in
    both_few k (taking_nodes r target) _ j (omega arith)

return_few : (k : ℕ) (e : Option CmExpr) → temporaries_if_any e ≤ k → temporaries (return_nodes e) ≤ k
return_few k None few = few
return_few k (Some e) few = let s = some_temporary e in let i = expr_few k e 0 (omega arith) in omega arith

module _ (k : ℕ) (fs : List CmFunction) where
  mutual
    stmt_few : (s : CmStmt) → stmt_temporaries fs s ≤ k → temporaries (stmt_nodes fs s) ≤ k
    stmt_few (Seq statements) few = stmts_few statements few
    stmt_few (Set x e) few = let s = some_temporary e in let i = expr_few k e 0 (omega arith) in omega arith
    stmt_few (Store h a e) few =
        let s = some_temporary e in
        let i = expr_few k a 0 (omega arith) in
        let j = expr_few k e 1 (omega arith) in
        let both = both_few k (expr_nodes e 1) (expr_nodes a 0) j i in
        omega arith
    stmt_few (ReadPort x) few = omega arith
    stmt_few (WritePort e) few = let s = some_temporary e in let i = expr_few k e 0 (omega arith) in omega arith
    stmt_few (Call target g es after) few =
        call_few k (parameters_at (slice_get fs g)) (result_at (slice_get fs g)) target g es after (omega arith) (omega arith)
    stmt_few (If c on_true a on_false b) few =
        let i = stmt_few a (omega arith) in
        let j = stmt_few b (omega arith) in
        let l = cond_few k c (omega arith) in
        both_few k (stmt_nodes fs b) _ j (both_few k (stmt_nodes fs a) _ i (omega arith))
    stmt_few (Loop c body_label body step exit_label) few =
        let i = stmt_few body (omega arith) in
        let j = stmt_few step (omega arith) in
        let l = cond_few_if_any k c (omega arith) in
        let both = both_few k (cond_nodes_if_any c) _ l (both_few k (stmt_nodes fs step) (stmt_nodes fs body) j i) in
        omega arith
    stmt_few (Do body c repeat_label exit_label) few =
        let i = stmt_few body (omega arith) in
        let l = cond_few k c (omega arith) in
        let both = both_few k (cond_nodes c) (stmt_nodes fs body) l i in
        omega arith
    stmt_few Break few = few
    stmt_few Continue few = few
    stmt_few (Return e) few = return_few k e few

    stmts_few : (statements : CmStmts) → stmts_temporaries fs statements ≤ k → temporaries (stmts_nodes fs statements) ≤ k
    stmts_few NoStmts few = few
    stmts_few (Then earlier s) few =
        let i = stmt_few s (omega arith) in
        let j = stmts_few earlier (omega arith) in
        both_few k (stmt_nodes fs s) (stmts_nodes fs earlier) i j

end_few : (k : ℕ) (result : Option Held) → end_temporaries result ≤ k → temporaries (end_nodes result) ≤ k
end_few k None few = few
end_few k (Some h) few = omega arith

body_few : (fs : List CmFunction) (f : CmFunction) → temporaries (add_body fs f).nodes ≤ max (end_temporaries f.result) (stmt_temporaries fs f.body)
body_few fs f =
    let k = max (end_temporaries f.result) (stmt_temporaries fs f.body) in
    let i = end_few k f.result (omega arith) in
    let j = stmt_few k fs f.body (omega arith) in
    let label : List RtNode = (record { op = o.Label f.label; next = Some 0 }) ∷ [] in
    let all : temporaries (body_nodes fs f) ≤ k = both_few k (end_nodes f.result) _ i (both_few k (stmt_nodes fs f.body) label j (omega arith)) in
    subst (λ n. n ≤ k) (ap temporaries (sym (body_outline fs f)) ∙ temporaries_of_bare (add_body fs f).nodes) all

pub need_is_less : (fs : List CmFunction) (f : CmFunction) → rt.register_need (translated_function fs f) ≤ cm.register_need fs f
need_is_less fs f = let few = body_few fs f in omega arith
