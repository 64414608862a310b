-- The nodes of a graph but for the numbers of nodes in them: they are those that the statement tells, in this order, wherever it is.
-- All sums over a graph, and all that holds of each of its nodes alone, follow from it.
use Rattle.std.proofs.Common.{◌≡◌, ℕ, zero, suc, ◌+◌, List, [], ◌∷◌, ◌++◌, length, map, Option, Some, None, refl, sym, ap, ◌∙◌, append_assoc, append-nil}
use Rattle.std.proofs.lemmas.List.{map-append, length-map}
use Rattle.std.specs.Prelude.{slice_get, slice_set, option_map}
use Rattle.cerco_base.specs.declared.events.Label.{Label}
use Rattle.cerco_middle.specs.declared.operators.Held.{Held}
use Rattle.cerco_middle.specs.declared.rtlabs.RtOp.{RtOp}
use Rattle.cerco_middle.specs.declared.rtlabs.RtOp.TheVariants as o
use Rattle.cerco_middle.specs.declared.rtlabs.RtNode.{RtNode}
use Rattle.cerco_middle.specs.Operators.{held_bytes}
use Rattle.cerco_middle.specs.Cminor.Trees.{CmExpr, Const, Var, Load, Neg, Complement, Narrow, Bin, Shl, Shr, CmCond, Test, Not, Both, Either, CmStmt, Seq, Set, Store, ReadPort, WritePort, Call, If, Loop, Do, Break, Continue, Return, CmStmts, NoStmts, Then, CmFunction}
use Rattle.cerco_middle.specs.Cminor.Sums.{parameters_at, result_at}
use Rattle.rtlabs_gen.specs.declared.exits.Exits.{Exits}
use Rattle.rtlabs_gen.specs.Translation.{Part, added, add_expr, add_arguments, add_cond, add_cond_if_any, add_taking, add_return, in_loop, exits_at, add_stmt, add_stmts, add_end, add_body}
pub use Rattle.rtlabs_gen.specs.Outline.{bare_op, bare, goes, stops, expr_nodes, arguments_nodes, cond_nodes, cond_nodes_if_any, taking_nodes, call_nodes, return_nodes, stmt_nodes, stmts_nodes, end_nodes, body_nodes}

-- ---- these are the nodes that are added

record Has (ns ms : List RtNode) (new : List RtNode) : Type 0 where
  is : map bare ms ≡ map bare ns ++ new

map_set : (xs : List RtNode) (i : ℕ) (v : RtNode) → map bare (slice_set xs i v) ≡ slice_set (map bare xs) i (bare v)
map_set [] i v = refl
map_set (x ∷ xs) zero v = refl
map_set (x ∷ xs) (suc i) v = ap (λ l. bare x ∷ l) (map_set xs i v)

set_after : (xs : List RtNode) (y v : RtNode) (rest : List RtNode) → slice_set (xs ++ (y ∷ rest)) (length xs) v ≡ xs ++ (v ∷ rest)
set_after [] y v rest = refl
set_after (x ∷ xs) y v rest = ap (λ l. x ∷ l) (set_after xs y v rest)

has_none : (ns : List RtNode) → Has ns ns []
has_none ns = record { is = sym (append-nil (map bare ns)) }

on : {ns ms ls a b : List RtNode} → Has ns ms a → Has ms ls b → Has ns ls (a ++ b)
on {ns} {ms} {ls} {a} {b} x y = record { is = y.is ∙ ap (λ l. l ++ b) x.is ∙ append_assoc (map bare ns) a b }

one_has : (ns : List RtNode) (op : RtOp) (next : Option ℕ) → Has ns (added ns op next).nodes (bare (record { op = op; next = next }) ∷ [])
one_has ns op next = record { is = map-append bare ns _ }

-- a label that waited goes on
closing_has : {ns ms : List RtNode} {y : RtNode} {rest : List RtNode} (v : RtNode) → Has ns ms (y ∷ rest) → Has ns (slice_set ms (length ns) v) (bare v ∷ rest)
closing_has {ns} {ms} {y} {rest} v x = record {
  is = map_set ms (length ns) v
      ∙ ap (λ l. slice_set l (length ns) (bare v)) x.is
      ∙ ap (λ k. slice_set (map bare ns ++ (y ∷ rest)) k (bare v)) (sym (length-map ns bare))
      ∙ set_after (map bare ns) y (bare v) rest;
}

expr_has : (e : CmExpr) (t next : ℕ) (ns : List RtNode) → Has ns (add_expr ns e t next).nodes (expr_nodes e t)
expr_has (Const number) t next ns = one_has ns _ _
expr_has (Var x) t next ns = one_has ns _ _
expr_has (Load h e) t next ns = on (one_has ns _ _) (expr_has e t _ _)
expr_has (Neg e) t next ns = on (one_has ns _ _) (expr_has e t _ _)
expr_has (Complement e) t next ns = on (one_has ns _ _) (expr_has e t _ _)
expr_has (Narrow h e) t next ns = on (one_has ns _ _) (expr_has e t _ _)
expr_has (Bin op a b) t next ns = on (one_has ns _ _) (on (expr_has b (t + 1) _ _) (expr_has a t _ _))
expr_has (Shl k e) t next ns = on (one_has ns _ _) (expr_has e t _ _)
expr_has (Shr k arithmetic e) t next ns = on (one_has ns _ _) (expr_has e t _ _)

arguments_have : (hs : List Held) (first : ℕ) (es : List CmExpr) (next : ℕ) (ns : List RtNode) → Has ns (add_arguments ns hs first es next).nodes (arguments_nodes hs first es)
arguments_have [] first es next ns = has_none ns
arguments_have (h ∷ hs) first [] next ns = has_none ns
arguments_have (h ∷ hs) first (e ∷ es) next ns = on (arguments_have hs (first + held_bytes h) es next ns) (on (one_has _ _ _) (expr_has e 0 _ _))

cond_has : (c : CmCond) (one other : ℕ) (ns : List RtNode) → Has ns (add_cond ns c one other).nodes (cond_nodes c)
cond_has (Test e) one other ns = on (one_has ns _ _) (expr_has e 0 _ _)
cond_has (Not c) one other ns = cond_has c other one ns
cond_has (Both a on_true on_false b) one other ns = on (cond_has b one other ns) (on (one_has _ _ _) (on (one_has _ _ _) (cond_has a _ _ _)))
cond_has (Either a on_true on_false b) one other ns = on (cond_has b one other ns) (on (one_has _ _ _) (on (one_has _ _ _) (cond_has a _ _ _)))

cond_has_if_any : (c : Option CmCond) (one other : ℕ) (ns : List RtNode) → Has ns (add_cond_if_any ns c one other).nodes (cond_nodes_if_any c)
cond_has_if_any None one other ns = has_none ns
cond_has_if_any (Some c) one other ns = cond_has c one other ns

taking_has : (result : Option Held) (target : Option ℕ) (next : ℕ) (ns : List RtNode) → Has ns (add_taking ns result target next).nodes (taking_nodes result target)
taking_has (Some h) (Some x) next ns = on (one_has ns _ _) (one_has _ _ _)
taking_has None target next ns = has_none ns
taking_has (Some h) None next ns = has_none ns

return_has : (e : Option CmExpr) (end : ℕ) (ns : List RtNode) → Has ns (add_return ns e end).nodes (return_nodes e)
return_has None end ns = has_none ns
return_has (Some e) end ns = on (one_has ns _ _) (expr_has e 0 _ _)

end_has : (result : Option Held) (ns : List RtNode) → Has ns (add_end ns result).nodes (end_nodes result)
end_has None ns = one_has ns _ _
end_has (Some h) ns = on (one_has ns _ _) (one_has _ _ _)

module _ (fs : List CmFunction) where
  mutual
    stmt_has : (s : CmStmt) (next : ℕ) (x : Exits) (ns : List RtNode) → Has ns (add_stmt fs ns s next x).nodes (stmt_nodes fs s)
    stmt_has (Seq statements) next x ns = stmts_have statements next x ns
    stmt_has (Set v e) next x ns = on (one_has ns _ _) (expr_has e 0 _ _)
    stmt_has (Store h a e) next x ns = on (one_has ns _ _) (on (expr_has e 1 _ _) (expr_has a 0 _ _))
    stmt_has (ReadPort v) next x ns = on (one_has ns _ _) (one_has _ _ _)
    stmt_has (WritePort e) next x ns = on (one_has ns _ _) (expr_has e 0 _ _)
    stmt_has (Call target g es after) next x ns =
        on (taking_has (result_at (slice_get fs g)) target next ns) (on (one_has _ _ _) (on (one_has _ _ _) (arguments_have (parameters_at (slice_get fs g)) 0 es _ _)))
    stmt_has (If c on_true a on_false b) next x ns =
        on (stmt_has b next x ns) (on (stmt_has a next x _) (on (one_has _ _ _) (on (one_has _ _ _) (cond_has c _ _ _))))
    stmt_has (Loop c body_label body step exit_label) next x ns =
        let ks : Part = added ns (o.Label exit_label) (Some next) in
        let is : Part = added ks.nodes (o.Label body_label) None in
        let hs : Part = add_cond_if_any is.nodes c is.entry ks.entry in
        let ss : Part = add_stmt fs hs.nodes step hs.entry (in_loop x ks.entry hs.entry) in
        let os : Part = add_stmt fs ss.nodes body ss.entry (in_loop x ks.entry ss.entry) in
        let inner = on (one_has ks.nodes (o.Label body_label) None) (on (cond_has_if_any c is.entry ks.entry is.nodes) (on (stmt_has step hs.entry (in_loop x ks.entry hs.entry) hs.nodes) (stmt_has body ss.entry (in_loop x ks.entry ss.entry) ss.nodes))) in
        on (one_has ns (o.Label exit_label) (Some next)) (closing_has (record { op = o.Label body_label; next = Some os.entry }) inner)
    stmt_has (Do body c repeat_label exit_label) next x ns =
        let ks : Part = added ns (o.Label exit_label) (Some next) in
        let is : Part = added ks.nodes (o.Label repeat_label) None in
        let hs : Part = add_cond is.nodes c is.entry ks.entry in
        let os : Part = add_stmt fs hs.nodes body hs.entry (in_loop x ks.entry hs.entry) in
        let inner = on (one_has ks.nodes (o.Label repeat_label) None) (on (cond_has c is.entry ks.entry is.nodes) (stmt_has body hs.entry (in_loop x ks.entry hs.entry) hs.nodes)) in
        on (one_has ns (o.Label exit_label) (Some next)) (closing_has (record { op = o.Label repeat_label; next = Some os.entry }) inner)
    stmt_has Break next x ns = has_none ns
    stmt_has Continue next x ns = has_none ns
    stmt_has (Return e) next x ns = return_has e x.on_return ns

    stmts_have : (statements : CmStmts) (next : ℕ) (x : Exits) (ns : List RtNode) → Has ns (add_stmts fs ns statements next x).nodes (stmts_nodes fs statements)
    stmts_have NoStmts next x ns = has_none ns
    stmts_have (Then earlier s) next x ns = on (stmt_has s next x ns) (stmts_have earlier _ x _)

pub body_outline : (fs : List CmFunction) (f : CmFunction) → map bare (add_body fs f).nodes ≡ body_nodes fs f
body_outline fs f =
    let end : Part = add_end [] f.result in
    let whole = on (end_has f.result []) (on (stmt_has fs f.body end.entry (exits_at end.entry) end.nodes) (one_has _ (o.Label f.label) _)) in
    whole.is
