-- The nodes of each part stay where they are as more are added, so that the finished graph has them.
use Rattle.std.proofs.Common.{◌≡◌, ◌≢◌, ℕ, ◌+◌, ◌≤◌, List, [], ◌∷◌, length, Option, Some, None, refl, sym, ap, ◌∙◌, subst, ⊎_elim, arith, length-append}
use Rattle.std.specs.Prelude.{slice_get, slice_set}
use Rattle.std.proofs.lemmas.Bool.Decides.{eqb_tells}
use Rattle.cerco_base.specs.declared.events.Label.{Label}
use Rattle.cerco_middle.specs.declared.operators.Held.{Held}
use Rattle.cerco_middle.specs.declared.rtlabs.RtOp.{RtOp}
use Rattle.cerco_middle.specs.declared.rtlabs.RtOp.TheVariants as o
use Rattle.cerco_middle.specs.declared.rtlabs.RtNode.{RtNode}
use Rattle.cerco_middle.specs.Operators.{held_bytes}
use Rattle.cerco_middle.specs.Cminor.Trees.{CmExpr, Const, Var, Load, Neg, Complement, Narrow, Bin, Shl, Shr, CmCond, Test, Not, Both, Either, CmStmt, Seq, Set, Store, ReadPort, WritePort, Call, If, Loop, Do, Break, Continue, Return, CmStmts, NoStmts, Then, CmFunction}
use Rattle.cerco_middle.specs.Cminor.Sums.{parameters_at, result_at}
use Rattle.rtlabs_gen.specs.declared.exits.Exits.{Exits}
use Rattle.rtlabs_gen.specs.Translation.{Part, added, add_expr, add_arguments, add_cond, add_cond_if_any, add_taking, add_call, add_return, in_loop, add_stmt, add_stmts, add_end, exits_at, add_body}
use Rattle.rtlabs_gen.specs.Stands.{ExprStands, ArgumentsStand, CondStands, CondStandsIfAny, TakingStands, CallStands, ReturnStands, StmtStands, StmtsStand, EndStands, FunctionStands}
use Rattle.rtlabs_gen.proofs.Lists.{some_node, get_front, get_new, get_within, get_set_same, get_set_other}

-- every node stays
pub record Extends (ns ms : List RtNode) : Type 0 where
  pub by : (p : ℕ) (n : RtNode) → slice_get ns p ≡ Some n → slice_get ms p ≡ Some n

-- not a label that waits for what comes after it
abbrev pub IsWhole : Option ℕ → RtOp → Type 0
IsWhole (Some next) op = Unit {0}
IsWhole None (o.Label l) = ⊥
IsWhole None _ = Unit {0}

-- every node but such a label stays
pub record Keeps (ns ms : List RtNode) : Type 0 where
  pub by : (p : ℕ) (n : RtNode) → IsWhole n.next n.op → slice_get ns p ≡ Some n → slice_get ms p ≡ Some n

pub same_nodes : (ns : List RtNode) → Extends ns ns
same_nodes ns = record { by = λ p n e. e }

pub and_on : {ns ms ls : List RtNode} → Extends ns ms → Extends ms ls → Extends ns ls
and_on a b = record { by = λ p n e. b.by p n (a.by p n e) }

pub all_kept : (ns : List RtNode) → Keeps ns ns
all_kept ns = record { by = λ p n w e. e }

pub kept_on : {ns ms ls : List RtNode} → Extends ns ms → Keeps ms ls → Keeps ns ls
kept_on a b = record { by = λ p n w e. b.by p n w (a.by p n e) }

pub both_keep : {ns ms ls : List RtNode} → Keeps ns ms → Keeps ms ls → Keeps ns ls
both_keep a b = record { by = λ p n w e. b.by p n w (a.by p n w e) }

pub one_more : (ns : List RtNode) (op : RtOp) (next : Option ℕ) → Extends ns (added ns op next).nodes
one_more ns op next = record { by = get_front ns _ }

-- a node that was added, once more nodes have come
pub new_at : (ns : List RtNode) (op : RtOp) (next : Option ℕ) (ms : List RtNode) → Extends (added ns op next).nodes ms → slice_get ms (length ns) ≡ Some (record { op = op; next = next })
new_at ns op next ms a = a.by _ _ (get_new ns _)

-- a node that is written again came after those before
pub closed_extends : (ns ms : List RtNode) (i : ℕ) (v : RtNode) → length ns ≤ i → Extends ns ms → Extends ns (slice_set ms i v)
closed_extends ns ms i v later a = record {
  by = λ p n e.
      let within = get_within ns p n e in
      let ne : p ≢ i = omega arith in
      get_set_other ms i p v ne ∙ a.by p n e;
}

-- the waiting label is the only node that changes
pub closes : (ms : List RtNode) (i : ℕ) (l : Label) (v : RtNode) → slice_get ms i ≡ Some (record { op = o.Label l; next = None }) → Keeps ms (slice_set ms i v)
closes ms i l v waiting = record {
  by = λ p n whole e.
      ⊎_elim
      (λ same. absurd (not_whole n l whole (some_node (sym e ∙ ap (slice_get ms) same.1 ∙ waiting))))
      (λ other. get_set_other ms i p v other.1 ∙ e)
      (eqb_tells p i);
}
  where
    not_whole : (n : RtNode) (l : Label) → IsWhole n.next n.op → n ≡ record { op = o.Label l; next = None } → ⊥
    not_whole n l whole e = let P : RtNode → Type 0 = λ m. IsWhole m.next m.op in subst P e whole

-- ---- every part extends what was there

pub expr_extends : (e : CmExpr) (t next : ℕ) (ns : List RtNode) → Extends ns (add_expr ns e t next).nodes
expr_extends (Const number) t next ns = one_more ns _ _
expr_extends (Var x) t next ns = one_more ns _ _
expr_extends (Load h e) t next ns = and_on (one_more ns _ _) (expr_extends e t _ _)
expr_extends (Neg e) t next ns = and_on (one_more ns _ _) (expr_extends e t _ _)
expr_extends (Complement e) t next ns = and_on (one_more ns _ _) (expr_extends e t _ _)
expr_extends (Narrow h e) t next ns = and_on (one_more ns _ _) (expr_extends e t _ _)
expr_extends (Bin op a b) t next ns = and_on (one_more ns _ _) (and_on (expr_extends b (t + 1) _ _) (expr_extends a t _ _))
expr_extends (Shl bits e) t next ns = and_on (one_more ns _ _) (expr_extends e t _ _)
expr_extends (Shr bits arithmetic e) t next ns = and_on (one_more ns _ _) (expr_extends e t _ _)

pub arguments_extend : (hs : List Held) (first : ℕ) (es : List CmExpr) (next : ℕ) (ns : List RtNode) → Extends ns (add_arguments ns hs first es next).nodes
arguments_extend [] first es next ns = same_nodes ns
arguments_extend (h ∷ hs) first [] next ns = same_nodes ns
arguments_extend (h ∷ hs) first (e ∷ es) next ns = and_on (arguments_extend hs (first + held_bytes h) es next ns) (and_on (one_more _ _ _) (expr_extends e 0 _ _))

pub cond_extends : (c : CmCond) (one other : ℕ) (ns : List RtNode) → Extends ns (add_cond ns c one other).nodes
cond_extends (Test e) one other ns = and_on (one_more ns _ _) (expr_extends e 0 _ _)
cond_extends (Not c) one other ns = cond_extends c other one ns
cond_extends (Both a on_true on_false b) one other ns =
    and_on (cond_extends b one other ns) (and_on (one_more _ _ _) (and_on (one_more _ _ _) (cond_extends a _ _ _)))
cond_extends (Either a on_true on_false b) one other ns =
    and_on (cond_extends b one other ns) (and_on (one_more _ _ _) (and_on (one_more _ _ _) (cond_extends a _ _ _)))

pub cond_extends_if_any : (c : Option CmCond) (one other : ℕ) (ns : List RtNode) → Extends ns (add_cond_if_any ns c one other).nodes
cond_extends_if_any None one other ns = same_nodes ns
cond_extends_if_any (Some c) one other ns = cond_extends c one other ns

pub taking_extends : (result : Option Held) (target : Option ℕ) (next : ℕ) (ns : List RtNode) → Extends ns (add_taking ns result target next).nodes
taking_extends (Some h) (Some x) next ns = and_on (one_more ns _ _) (one_more _ _ _)
taking_extends None target next ns = same_nodes ns
taking_extends (Some h) None next ns = same_nodes ns

pub return_extends : (e : Option CmExpr) (end : ℕ) (ns : List RtNode) → Extends ns (add_return ns e end).nodes
return_extends None end ns = same_nodes ns
return_extends (Some e) end ns = and_on (one_more ns _ _) (expr_extends e 0 _ _)

module _ (fs : List CmFunction) where
  mutual
    pub stmt_extends : (s : CmStmt) (next : ℕ) (x : Exits) (ns : List RtNode) → Extends ns (add_stmt fs ns s next x).nodes
    stmt_extends (Seq statements) next x ns = stmts_extend statements next x ns
    stmt_extends (Set v e) next x ns = and_on (one_more ns _ _) (expr_extends e 0 _ _)
    stmt_extends (Store h a e) next x ns = and_on (one_more ns _ _) (and_on (expr_extends e 1 _ _) (expr_extends a 0 _ _))
    stmt_extends (ReadPort v) next x ns = and_on (one_more ns _ _) (one_more _ _ _)
    stmt_extends (WritePort e) next x ns = and_on (one_more ns _ _) (expr_extends e 0 _ _)
    stmt_extends (Call target g es after) next x ns =
        and_on (taking_extends (result_at (slice_get fs g)) target next ns) (and_on (one_more _ _ _) (and_on (one_more _ _ _) (arguments_extend (parameters_at (slice_get fs g)) 0 es _ _)))
    stmt_extends (If c on_true a on_false b) next x ns =
        and_on (stmt_extends b next x ns) (and_on (stmt_extends a next x _) (and_on (one_more _ _ _) (and_on (one_more _ _ _) (cond_extends c _ _ _))))
    stmt_extends (Loop c body_label body step exit_label) next x ns =
        let k = added ns (o.Label exit_label) (Some next) in
        let later : length ns ≤ length k.nodes = omega (arith, length-append ns ((record { op = o.Label exit_label; next = Some next }) ∷ [])) in
        closed_extends ns _ (length k.nodes) _ later (and_on (one_more ns _ _) (and_on (one_more _ _ _) (and_on (cond_extends_if_any c _ _ _) (and_on (stmt_extends step _ _ _) (stmt_extends body _ _ _)))))
    stmt_extends (Do body c repeat_label exit_label) next x ns =
        let k = added ns (o.Label exit_label) (Some next) in
        let later : length ns ≤ length k.nodes = omega (arith, length-append ns ((record { op = o.Label exit_label; next = Some next }) ∷ [])) in
        closed_extends ns _ (length k.nodes) _ later (and_on (one_more ns _ _) (and_on (one_more _ _ _) (and_on (cond_extends c _ _ _) (stmt_extends body _ _ _))))
    stmt_extends Break next x ns = same_nodes ns
    stmt_extends Continue next x ns = same_nodes ns
    stmt_extends (Return e) next x ns = return_extends e x.on_return ns

    pub stmts_extend : (statements : CmStmts) (next : ℕ) (x : Exits) (ns : List RtNode) → Extends ns (add_stmts fs ns statements next x).nodes
    stmts_extend NoStmts next x ns = same_nodes ns
    stmts_extend (Then earlier s) next x ns = and_on (stmt_extends s next x ns) (stmts_extend earlier _ x _)

pub end_extends : (result : Option Held) (ns : List RtNode) → Extends ns (add_end ns result).nodes
end_extends None ns = one_more ns _ _
end_extends (Some h) ns = and_on (one_more ns _ _) (one_more _ _ _)

-- ---- a graph that keeps the nodes of a part has them

module _ (G : List RtNode) where
  -- a node that was added before others
  node_stands : (ns : List RtNode) (op : RtOp) (next : Option ℕ) (ms : List RtNode) → IsWhole next op → Extends (added ns op next).nodes ms → Keeps ms G → slice_get G (length ns) ≡ Some (record { op = op; next = next })
  node_stands ns op next ms whole a k = k.by _ _ whole (new_at ns op next ms a)

  expr_stands : (e : CmExpr) (t next : ℕ) (ns : List RtNode) → Keeps (add_expr ns e t next).nodes G → ExprStands G e t (add_expr ns e t next).entry next
  expr_stands (Const number) t next ns k = node_stands ns _ _ _ tt (same_nodes _) k
  expr_stands (Var x) t next ns k = node_stands ns _ _ _ tt (same_nodes _) k
  expr_stands (Load h e) t next ns k = (length ns, node_stands ns _ _ _ tt (expr_extends e t _ _) k, expr_stands e t _ _ k)
  expr_stands (Neg e) t next ns k = (length ns, node_stands ns _ _ _ tt (expr_extends e t _ _) k, expr_stands e t _ _ k)
  expr_stands (Complement e) t next ns k = (length ns, node_stands ns _ _ _ tt (expr_extends e t _ _) k, expr_stands e t _ _ k)
  expr_stands (Narrow h e) t next ns k = (length ns, node_stands ns _ _ _ tt (expr_extends e t _ _) k, expr_stands e t _ _ k)
  expr_stands (Bin op a b) t next ns k =
      let ms : Part = added ns (o.Bin op t (t + 1)) (Some next) in
      let ks : Part = add_expr ms.nodes b (t + 1) ms.entry in
      let last = expr_extends a t ks.entry ks.nodes in
      (ms.entry, ks.entry, node_stands ns _ _ _ tt (and_on (expr_extends b (t + 1) ms.entry ms.nodes) last) k, expr_stands b (t + 1) ms.entry ms.nodes (kept_on last k), expr_stands a t ks.entry ks.nodes k)
  expr_stands (Shl bits e) t next ns k = (length ns, node_stands ns _ _ _ tt (expr_extends e t _ _) k, expr_stands e t _ _ k)
  expr_stands (Shr bits arithmetic e) t next ns k = (length ns, node_stands ns _ _ _ tt (expr_extends e t _ _) k, expr_stands e t _ _ k)

  arguments_stand : (hs : List Held) (first : ℕ) (es : List CmExpr) (next : ℕ) (ns : List RtNode) → Keeps (add_arguments ns hs first es next).nodes G → ArgumentsStand G hs first es (add_arguments ns hs first es next).entry next
  arguments_stand [] first es next ns k = refl
  arguments_stand (h ∷ hs) first [] next ns k = refl
  arguments_stand (h ∷ hs) first (e ∷ es) next ns k =
      let os : Part = add_arguments ns hs (first + held_bytes h) es next in
      let ms : Part = added os.nodes (o.Arg h first 0) (Some os.entry) in
      let last = expr_extends e 0 ms.entry ms.nodes in
      (ms.entry, os.entry, node_stands os.nodes _ _ _ tt last k, arguments_stand hs (first + held_bytes h) es next ns (kept_on (and_on (one_more os.nodes (o.Arg h first 0) (Some os.entry)) last) k), expr_stands e 0 ms.entry ms.nodes k)

  cond_stands : (c : CmCond) (one other : ℕ) (ns : List RtNode) → Keeps (add_cond ns c one other).nodes G → CondStands G c (add_cond ns c one other).entry one other
  cond_stands (Test e) one other ns k = (length ns, node_stands ns _ _ _ tt (expr_extends e 0 _ _) k, expr_stands e 0 _ _ k)
  cond_stands (Not c) one other ns k = cond_stands c other one ns k
  cond_stands (Both a on_true on_false b) one other ns k =
      let bs : Part = add_cond ns b one other in
      let is : Part = added bs.nodes (o.Label on_true) (Some bs.entry) in
      let ks : Part = added is.nodes (o.Label on_false) (Some other) in
      let last = cond_extends a is.entry ks.entry ks.nodes in
      let later = and_on (one_more is.nodes (o.Label on_false) (Some other)) last in
      let all = and_on (one_more bs.nodes (o.Label on_true) (Some bs.entry)) later in
      (is.entry, bs.entry, ks.entry, node_stands bs.nodes _ _ _ tt later k, node_stands is.nodes _ _ _ tt last k, cond_stands b one other ns (kept_on all k), cond_stands a is.entry ks.entry ks.nodes k)
  cond_stands (Either a on_true on_false b) one other ns k =
      let bs : Part = add_cond ns b one other in
      let is : Part = added bs.nodes (o.Label on_true) (Some one) in
      let ks : Part = added is.nodes (o.Label on_false) (Some bs.entry) in
      let last = cond_extends a is.entry ks.entry ks.nodes in
      let later = and_on (one_more is.nodes (o.Label on_false) (Some bs.entry)) last in
      let all = and_on (one_more bs.nodes (o.Label on_true) (Some one)) later in
      (is.entry, bs.entry, ks.entry, node_stands bs.nodes _ _ _ tt later k, node_stands is.nodes _ _ _ tt last k, cond_stands b one other ns (kept_on all k), cond_stands a is.entry ks.entry ks.nodes k)

  cond_stands_if_any : (c : Option CmCond) (one other : ℕ) (ns : List RtNode) → Keeps (add_cond_if_any ns c one other).nodes G → CondStandsIfAny G c (add_cond_if_any ns c one other).entry one other
  cond_stands_if_any None one other ns k = refl
  cond_stands_if_any (Some c) one other ns k = cond_stands c one other ns k

  taking_stands : (result : Option Held) (target : Option ℕ) (next : ℕ) (ns : List RtNode) → Keeps (add_taking ns result target next).nodes G → TakingStands G result target (add_taking ns result target next).entry next
  taking_stands (Some h) (Some x) next ns k =
      let ms : Part = added ns (o.Put x 0) (Some next) in
      (ms.entry, node_stands ns _ _ _ tt (one_more ms.nodes (o.Result h 0) (Some ms.entry)) k, node_stands ms.nodes _ _ _ tt (same_nodes _) k)
  taking_stands None target next ns k = refl
  taking_stands (Some h) None next ns k = refl

  return_stands : (e : Option CmExpr) (end : ℕ) (ns : List RtNode) → Keeps (add_return ns e end).nodes G → ReturnStands G end e (add_return ns e end).entry
  return_stands None end ns k = refl
  return_stands (Some e) end ns k = (length ns, node_stands ns _ _ _ tt (expr_extends e 0 _ _) k, expr_stands e 0 _ _ k)

  module _ (fs : List CmFunction) where
    call_stands : (target : Option ℕ) (g : ℕ) (es : List CmExpr) (after : Label) (next : ℕ) (ns : List RtNode) → Keeps (add_call fs ns target g es after next).nodes G → CallStands G (parameters_at (slice_get fs g)) (result_at (slice_get fs g)) target g es after (add_call fs ns target g es after next).entry next
    call_stands target g es after next ns k =
        let is : Part = add_taking ns (result_at (slice_get fs g)) target next in
        let ks : Part = added is.nodes (o.Label after) (Some is.entry) in
        let ms : Part = added ks.nodes (o.Call g) (Some ks.entry) in
        let last = arguments_extend (parameters_at (slice_get fs g)) 0 es ms.entry ms.nodes in
        let later = and_on (one_more ks.nodes (o.Call g) (Some ks.entry)) last in
        let all = and_on (one_more is.nodes (o.Label after) (Some is.entry)) later in
        (is.entry, ks.entry, ms.entry, taking_stands (result_at (slice_get fs g)) target next ns (kept_on all k), node_stands is.nodes _ _ _ tt later k, node_stands ks.nodes _ _ _ tt last k, arguments_stand (parameters_at (slice_get fs g)) 0 es ms.entry ms.nodes k)

    mutual
      stmt_stands : (s : CmStmt) (next : ℕ) (x : Exits) (ns : List RtNode) → Keeps (add_stmt fs ns s next x).nodes G → StmtStands fs G x.on_return s (add_stmt fs ns s next x).entry next x.on_break x.on_continue
      stmt_stands (Seq statements) next x ns k = stmts_stand statements next x ns k
      stmt_stands (Set v e) next x ns k = (length ns, node_stands ns _ _ _ tt (expr_extends e 0 _ _) k, expr_stands e 0 _ _ k)
      stmt_stands (Store h a e) next x ns k =
          let ms : Part = added ns (o.Store h 0 1) (Some next) in
          let ks : Part = add_expr ms.nodes e 1 ms.entry in
          let last = expr_extends a 0 ks.entry ks.nodes in
          (ms.entry, ks.entry, node_stands ns _ _ _ tt (and_on (expr_extends e 1 ms.entry ms.nodes) last) k, expr_stands e 1 ms.entry ms.nodes (kept_on last k), expr_stands a 0 ks.entry ks.nodes k)
      stmt_stands (ReadPort v) next x ns k =
          let ms : Part = added ns (o.Put v 0) (Some next) in
          (ms.entry, node_stands ns _ _ _ tt (one_more ms.nodes (o.ReadPort 0) (Some ms.entry)) k, node_stands ms.nodes _ _ _ tt (same_nodes _) k)
      stmt_stands (WritePort e) next x ns k = (length ns, node_stands ns _ _ _ tt (expr_extends e 0 _ _) k, expr_stands e 0 _ _ k)
      stmt_stands (Call target g es after) next x ns k = call_stands target g es after next ns k
      stmt_stands (If c on_true a on_false b) next x ns k =
          let bs : Part = add_stmt fs ns b next x in
          let os : Part = add_stmt fs bs.nodes a next x in
          let ks : Part = added os.nodes (o.Label on_false) (Some bs.entry) in
          let is : Part = added ks.nodes (o.Label on_true) (Some os.entry) in
          let a4 = cond_extends c is.entry ks.entry is.nodes in
          let a3 = and_on (one_more ks.nodes (o.Label on_true) (Some os.entry)) a4 in
          let a2 = and_on (one_more os.nodes (o.Label on_false) (Some bs.entry)) a3 in
          let a1 = and_on (stmt_extends fs a next x bs.nodes) a2 in
          (is.entry, os.entry, ks.entry, bs.entry, node_stands ks.nodes _ _ _ tt a4 k, stmt_stands a next x bs.nodes (kept_on a2 k), node_stands os.nodes _ _ _ tt a3 k, stmt_stands b next x ns (kept_on a1 k), cond_stands c is.entry ks.entry is.nodes k)
      stmt_stands (Loop c body_label body step exit_label) next x ns k =
          let ks : Part = added ns (o.Label exit_label) (Some next) in
          let is : Part = added ks.nodes (o.Label body_label) None in
          let hs : Part = add_cond_if_any is.nodes c is.entry ks.entry in
          let ss : Part = add_stmt fs hs.nodes step hs.entry (in_loop x ks.entry hs.entry) in
          let os : Part = add_stmt fs ss.nodes body ss.entry (in_loop x ks.entry ss.entry) in
          let a4 = stmt_extends fs body ss.entry (in_loop x ks.entry ss.entry) ss.nodes in
          let a3 = and_on (stmt_extends fs step hs.entry (in_loop x ks.entry hs.entry) hs.nodes) a4 in
          let a2 = and_on (cond_extends_if_any c is.entry ks.entry is.nodes) a3 in
          let a1 = and_on (one_more ks.nodes (o.Label body_label) None) a2 in
          let waiting = new_at ks.nodes (o.Label body_label) None os.nodes a2 in
          let v : RtNode = record { op = o.Label body_label; next = Some os.entry } in
          let end = both_keep (closes os.nodes is.entry body_label v waiting) k in
          (is.entry, os.entry, ks.entry, ss.entry, node_stands ns _ _ _ tt a1 end, k.by _ v tt (get_set_same os.nodes is.entry _ v waiting), stmt_stands body ss.entry (in_loop x ks.entry ss.entry) ss.nodes end, stmt_stands step hs.entry (in_loop x ks.entry hs.entry) hs.nodes (kept_on a4 end), cond_stands_if_any c is.entry ks.entry is.nodes (kept_on a3 end))
      stmt_stands (Do body c repeat_label exit_label) next x ns k =
          let ks : Part = added ns (o.Label exit_label) (Some next) in
          let is : Part = added ks.nodes (o.Label repeat_label) None in
          let hs : Part = add_cond is.nodes c is.entry ks.entry in
          let os : Part = add_stmt fs hs.nodes body hs.entry (in_loop x ks.entry hs.entry) in
          let a3 = stmt_extends fs body hs.entry (in_loop x ks.entry hs.entry) hs.nodes in
          let a2 = and_on (cond_extends c is.entry ks.entry is.nodes) a3 in
          let a1 = and_on (one_more ks.nodes (o.Label repeat_label) None) a2 in
          let waiting = new_at ks.nodes (o.Label repeat_label) None os.nodes a2 in
          let v : RtNode = record { op = o.Label repeat_label; next = Some os.entry } in
          let end = both_keep (closes os.nodes is.entry repeat_label v waiting) k in
          (is.entry, hs.entry, ks.entry, node_stands ns _ _ _ tt a1 end, k.by _ v tt (get_set_same os.nodes is.entry _ v waiting), stmt_stands body hs.entry (in_loop x ks.entry hs.entry) hs.nodes end, cond_stands c is.entry ks.entry is.nodes (kept_on a3 end))
      stmt_stands Break next x ns k = refl
      stmt_stands Continue next x ns k = refl
      stmt_stands (Return e) next x ns k = return_stands e x.on_return ns k

      stmts_stand : (statements : CmStmts) (next : ℕ) (x : Exits) (ns : List RtNode) → Keeps (add_stmts fs ns statements next x).nodes G → StmtsStand fs G x.on_return statements (add_stmts fs ns statements next x).entry next x.on_break x.on_continue
      stmts_stand NoStmts next x ns k = refl
      stmts_stand (Then earlier s) next x ns k =
          let ms : Part = add_stmt fs ns s next x in
          (ms.entry, stmts_stand earlier ms.entry x ms.nodes k, stmt_stands s next x ns (kept_on (stmts_extend fs earlier ms.entry x ms.nodes) k))

  end_stands : (result : Option Held) (ns : List RtNode) → Keeps (add_end ns result).nodes G → EndStands G result (add_end ns result).entry
  end_stands None ns k = node_stands ns _ _ _ tt (same_nodes _) k
  end_stands (Some h) ns k =
      let ms : Part = added ns (o.ReturnValue 0) None in
      (ms.entry, node_stands ns _ _ _ tt (one_more ms.nodes (o.Const 0 0) (Some ms.entry)) k, node_stands ms.nodes _ _ _ tt (same_nodes _) k)

pub function_stands : (fs : List CmFunction) (f : CmFunction) → FunctionStands fs f (add_body fs f).entry (add_body fs f).nodes
function_stands fs f =
    let end : Part = add_end [] f.result in
    let body : Part = add_stmt fs end.nodes f.body end.entry (exits_at end.entry) in
    let last = one_more body.nodes (o.Label f.label) (Some body.entry) in
    let all = all_kept (add_body fs f).nodes in
    record {
      first = body.entry;
      end = end.entry;
      entry_is = get_new body.nodes _;
      body_is = stmt_stands (add_body fs f).nodes fs f.body end.entry (exits_at end.entry) end.nodes (kept_on last all);
      end_is = end_stands (add_body fs f).nodes f.result [] (kept_on (and_on (stmt_extends fs f.body end.entry (exits_at end.entry) end.nodes) last) all);
    }
