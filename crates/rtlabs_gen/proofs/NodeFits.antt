-- What a well formed graph asks of each of its nodes alone: the variables and functions that it names are there, it returns as its function
-- does, its argument has the first bytes, and paths go on after it.
use Rattle.std.proofs.Common.{◌≡◌, ℕ, zero, suc, ◌+◌, ◌<◌, ◌≤◌, List, [], ◌∷◌, ◌++◌, map, Option, Some, None, ◌⊎◌, inl, inr, refl, sym, subst, ⊎_elim, arith}
use Rattle.std.specs.Prelude.{slice_get, option_map, Contains}
use Rattle.std.proofs.lemmas.List.Elements.{Contains-append_left, Contains-append_right, Contains-append_cases, Contains-push, Contains-push_cases}
use Rattle.cerco_base.specs.declared.events.Label.{Label}
use Rattle.cerco_traces.specs.LabelledGraphs.{In}
use Rattle.cerco_middle.specs.declared.operators.Held.{Held}
use Rattle.cerco_middle.specs.declared.rtlabs.RtOp.{RtOp}
use Rattle.cerco_middle.specs.declared.rtlabs.RtOp.TheVariants as o
use Rattle.cerco_middle.specs.declared.rtlabs.RtNode.{RtNode}
use Rattle.cerco_middle.specs.Operators.{held_bytes, all_held_bytes}
use Rattle.cerco_middle.specs.Cminor.Trees.{CmExpr, Const, Var, Load, Neg, Complement, Narrow, Bin, Shl, Shr, CmCond, Test, Not, Both, Either, CmStmt, Seq, Set, Store, ReadPort, WritePort, Call, If, Loop, Do, Break, Continue, Return, CmStmts, NoStmts, Then, CmFunction, stmt_callees, stmts_callees}
use Rattle.cerco_middle.specs.Cminor.Sums.{parameters_at, result_at}
use Rattle.cerco_middle.specs.Cminor.WellFormed.{OfStmts, OfAll, NamesBelow, AllNameBelow, CondNamesBelow, CondNamesBelowIfAny, TargetBelow, StmtNamesBelow, CallsBelow}
use Rattle.cerco_middle.specs.Cminor.WellFormed as cm
use Rattle.cerco_middle.specs.RtLabs.Graphs.{variables_at, callee_at, callees_at, callees_of}
use Rattle.cerco_middle.specs.RtLabs.WellFormed.{GoesOn, ReturnsAs, IsWithinTwelve}
use Rattle.rtlabs_gen.specs.Translation.{add_body}
use Rattle.rtlabs_gen.proofs.Lists.{some_node, no_node}
use Rattle.rtlabs_gen.proofs.Outline.{bare_op, bare, goes, expr_nodes, arguments_nodes, cond_nodes, cond_nodes_if_any, taking_nodes, return_nodes, stmt_nodes, stmts_nodes, end_nodes, body_nodes, body_outline}

-- ---- elements of lists

pub contains_cases : (x : ℕ) (xs : List ℕ) (y : ℕ) → Contains (x ∷ xs) y → (x ≡ y) ⊎ Contains xs y
contains_cases x xs y c =
    ⊎_elim
    (λ (first : Contains (x ∷ []) y). ⊎_elim (λ (none : Contains [] y). let lt = none.1 in absurd (omega (arith, lt))) (λ same. inl same) (Contains-push_cases [] x y first))
    (λ rest. inr rest)
    (Contains-append_cases (x ∷ []) xs y c)

pub contains_first : (x : ℕ) (xs : List ℕ) → Contains (x ∷ xs) x
contains_first x xs = Contains-append_left (x ∷ []) xs x (Contains-push [] x)

pub contains_rest : (x : ℕ) (xs : List ℕ) (y : ℕ) → Contains xs y → Contains (x ∷ xs) y
contains_rest x xs y c = Contains-append_right (x ∷ []) xs y c

-- ---- the functions that a statement calls

abbrev pub CallsIn : (ℕ → Type 0) → CmStmt → Type 0
CallsIn C (Call target g es after) = C g
CallsIn C _ = Unit {0}

mutual
  callees_more : (s : CmStmt) (more : List ℕ) (g : ℕ) → Contains more g → Contains (stmt_callees s more) g
  callees_more (Seq statements) more g c = all_callees_more statements more g c
  callees_more (Call target f es after) more g c = contains_rest f more g c
  callees_more (If c' on_true a on_false b) more g c = callees_more a (stmt_callees b more) g (callees_more b more g c)
  callees_more (Loop c' body_label body step exit_label) more g c = callees_more body (stmt_callees step more) g (callees_more step more g c)
  callees_more (Do body c' repeat_label exit_label) more g c = callees_more body more g c
  callees_more (Set x e) more g c = c
  callees_more (Store h a e) more g c = c
  callees_more (ReadPort x) more g c = c
  callees_more (WritePort e) more g c = c
  callees_more Break more g c = c
  callees_more Continue more g c = c
  callees_more (Return e) more g c = c

  all_callees_more : (statements : CmStmts) (more : List ℕ) (g : ℕ) → Contains more g → Contains (stmts_callees statements more) g
  all_callees_more NoStmts more g c = c
  all_callees_more (Then earlier s) more g c = all_callees_more earlier (stmt_callees s more) g (callees_more s more g c)

-- what holds of each function that is called holds at each call
module _ (C : ℕ → Type 0) where
  mutual
    pub calls_in : (s : CmStmt) (more : List ℕ) → ((g : ℕ) → Contains (stmt_callees s more) g → C g) → OfStmts (CallsIn C) s
    calls_in (Seq statements) more all = (tt, all_calls_in statements more all)
    calls_in (Call target g es after) more all = all g (contains_first g more)
    calls_in (If c on_true a on_false b) more all =
        (tt, calls_in a (stmt_callees b more) all, calls_in b more (λ g i. all g (callees_more a (stmt_callees b more) g i)))
    calls_in (Loop c body_label body step exit_label) more all =
        (tt, calls_in body (stmt_callees step more) all, calls_in step more (λ g i. all g (callees_more body (stmt_callees step more) g i)))
    calls_in (Do body c repeat_label exit_label) more all = (tt, calls_in body more all)
    calls_in (Set x e) more all = tt
    calls_in (Store h a e) more all = tt
    calls_in (ReadPort x) more all = tt
    calls_in (WritePort e) more all = tt
    calls_in Break more all = tt
    calls_in Continue more all = tt
    calls_in (Return e) more all = tt

    all_calls_in : (statements : CmStmts) (more : List ℕ) → ((g : ℕ) → Contains (stmts_callees statements more) g → C g) → OfAll (CallsIn C) statements
    all_calls_in NoStmts more all = tt
    all_calls_in (Then earlier s) more all =
        (all_calls_in earlier (stmt_callees s more) all, calls_in s more (λ g i. all g (all_callees_more earlier (stmt_callees s more) g i)))

-- ---- what a node must meet

abbrev pub VariablesFit : ℕ → RtOp → Type 0
VariablesFit count (o.Get t x) = x < count
VariablesFit count (o.Put x t) = x < count
VariablesFit count _ = Unit {0}

abbrev pub CalleeFits : (ℕ → Type 0) → RtOp → Type 0
CalleeFits C (o.Call g) = C g
CalleeFits C _ = Unit {0}

abbrev HasNone : Option Held → Type 0
HasNone None = Unit {0}
HasNone (Some h) = ⊥

abbrev HasOne : Option Held → Type 0
HasOne None = ⊥
HasOne (Some h) = Unit {0}

abbrev pub ReturnFits : Option Held → RtOp → Type 0
ReturnFits result o.Return = HasNone result
ReturnFits result (o.ReturnValue t) = HasOne result
ReturnFits result _ = Unit {0}

abbrev pub Fits : ℕ → (ℕ → Type 0) → (ℕ → Type 0) → Option Held → RtNode → Type 0
Fits count C K result n =
    VariablesFit count n.op × CalleeFits C n.op × CalleeFits K n.op × ReturnFits result n.op × IsWithinTwelve n.op × GoesOn n.op n.next

abbrev AllNodes : (RtNode → Type 0) → List RtNode → Type 0
AllNodes Q [] = Unit {0}
AllNodes Q (n ∷ ns) = Q n × AllNodes Q ns

all_both : (Q : RtNode → Type 0) (xs ys : List RtNode) → AllNodes Q xs → AllNodes Q ys → AllNodes Q (xs ++ ys)
all_both Q [] ys a b = b
all_both Q (x ∷ xs) ys a b = (a.0, all_both Q xs ys a.1 b)

each_of : (Q : RtNode → Type 0) (ns : List RtNode) → AllNodes Q (map bare ns) → (p : ℕ) (n : RtNode) → slice_get ns p ≡ Some n → Q (bare n)
each_of Q [] all p n e = absurd (no_node e)
each_of Q (m ∷ ns) all zero n e = subst (λ k. Q (bare k)) (some_node e) all.0
each_of Q (m ∷ ns) all (suc p) n e = each_of Q ns all.1 p n e

-- ---- it is met

module _ (fs : List CmFunction) (few : (g : ℕ) → all_held_bytes (parameters_at (slice_get fs g)) ≤ 12) (count : ℕ) (C K : ℕ → Type 0) (result : Option Held) where
  abbrev Q : RtNode → Type 0
  Q = Fits count C K result

  expr_fits : (e : CmExpr) (t : ℕ) → NamesBelow count e → AllNodes Q (expr_nodes e t)
  expr_fits (Const number) t names = ((tt, tt, tt, tt, tt, (0, refl)), tt)
  expr_fits (Var x) t names = ((names, tt, tt, tt, tt, (0, refl)), tt)
  expr_fits (Load h e) t names = ((tt, tt, tt, tt, tt, (0, refl)), expr_fits e t names)
  expr_fits (Neg e) t names = ((tt, tt, tt, tt, tt, (0, refl)), expr_fits e t names)
  expr_fits (Complement e) t names = ((tt, tt, tt, tt, tt, (0, refl)), expr_fits e t names)
  expr_fits (Narrow h e) t names = ((tt, tt, tt, tt, tt, (0, refl)), expr_fits e t names)
  expr_fits (Bin op a b) t names = ((tt, tt, tt, tt, tt, (0, refl)), all_both Q (expr_nodes b (t + 1)) (expr_nodes a t) (expr_fits b (t + 1) names.1) (expr_fits a t names.0))
  expr_fits (Shl k e) t names = ((tt, tt, tt, tt, tt, (0, refl)), expr_fits e t names)
  expr_fits (Shr k arithmetic e) t names = ((tt, tt, tt, tt, tt, (0, refl)), expr_fits e t names)

  arguments_fit : (hs : List Held) (first : ℕ) (es : List CmExpr) → first + all_held_bytes hs ≤ 12 → AllNameBelow count es → AllNodes Q (arguments_nodes hs first es)
  arguments_fit [] first es within names = tt
  arguments_fit (h ∷ hs) first [] within names = tt
  arguments_fit (h ∷ hs) first (e ∷ es) within names =
      let here : first + held_bytes h ≤ 12 = omega arith in
      let rest : first + held_bytes h + all_held_bytes hs ≤ 12 = omega arith in
      all_both Q (arguments_nodes hs (first + held_bytes h) es) _ (arguments_fit hs (first + held_bytes h) es rest names.1) ((tt, tt, tt, tt, here, (0, refl)), expr_fits e 0 names.0)

  label_fits : (l : Label) → Q (goes (o.Label l))
  label_fits l = (tt, tt, tt, tt, tt, (0, refl))

  cond_fits : (c : CmCond) → CondNamesBelow count c → AllNodes Q (cond_nodes c)
  cond_fits (Test e) names = ((tt, tt, tt, tt, tt, refl), expr_fits e 0 names)
  cond_fits (Not c) names = cond_fits c names
  cond_fits (Both a on_true on_false b) names = all_both Q (cond_nodes b) _ (cond_fits b names.1) (label_fits on_true, (label_fits on_false, cond_fits a names.0))
  cond_fits (Either a on_true on_false b) names = all_both Q (cond_nodes b) _ (cond_fits b names.1) (label_fits on_true, (label_fits on_false, cond_fits a names.0))

  cond_fits_if_any : (c : Option CmCond) → CondNamesBelowIfAny count c → AllNodes Q (cond_nodes_if_any c)
  cond_fits_if_any None names = tt
  cond_fits_if_any (Some c) names = cond_fits c names

  taking_fits : (r : Option Held) (target : Option ℕ) → TargetBelow count target → AllNodes Q (taking_nodes r target)
  taking_fits (Some h) (Some x) names = ((names, tt, tt, tt, tt, (0, refl)), ((tt, tt, tt, tt, tt, (0, refl)), tt))
  taking_fits None target names = tt
  taking_fits (Some h) None names = tt

  return_fits : (r : Option Held) (e : Option CmExpr) → r ≡ result → cm.NamesBelowIfAny count e → cm.ReturnsAs r (Return e) → AllNodes Q (return_nodes e)
  return_fits r None same names returns = tt
  return_fits None (Some e) same names returns = absurd returns
  return_fits (Some h) (Some e) same names returns = ((tt, tt, tt, subst HasOne same tt, tt, refl), expr_fits e 0 names)

  end_fits : (r : Option Held) → r ≡ result → AllNodes Q (end_nodes r)
  end_fits None same = ((tt, tt, tt, subst HasNone same tt, tt, refl), tt)
  end_fits (Some h) same = ((tt, tt, tt, subst HasOne same tt, tt, refl), ((tt, tt, tt, tt, tt, (0, refl)), tt))

  mutual
    stmt_fits : (s : CmStmt) → OfStmts (StmtNamesBelow count) s → OfStmts (CallsIn C) s → OfStmts (CallsIn K) s → OfStmts (cm.ReturnsAs result) s → AllNodes Q (stmt_nodes fs s)
    stmt_fits (Seq statements) names calls known returns = all_fit statements names.1 calls.1 known.1 returns.1
    stmt_fits (Set x e) names calls known returns = ((names.0, tt, tt, tt, tt, (0, refl)), expr_fits e 0 names.1)
    stmt_fits (Store h a e) names calls known returns = ((tt, tt, tt, tt, tt, (0, refl)), all_both Q (expr_nodes e 1) (expr_nodes a 0) (expr_fits e 1 names.1) (expr_fits a 0 names.0))
    stmt_fits (ReadPort x) names calls known returns = ((names, tt, tt, tt, tt, (0, refl)), ((tt, tt, tt, tt, tt, (0, refl)), tt))
    stmt_fits (WritePort e) names calls known returns = ((tt, tt, tt, tt, tt, (0, refl)), expr_fits e 0 names)
    stmt_fits (Call target g es after) names calls known returns =
        let within = few g in
        all_both Q (taking_nodes (result_at (slice_get fs g)) target) _ (taking_fits (result_at (slice_get fs g)) target names.0)
        (label_fits after, ((tt, calls, known, tt, tt, (0, refl)), arguments_fit (parameters_at (slice_get fs g)) 0 es (omega arith) names.1))
    stmt_fits (If c on_true a on_false b) names calls known returns =
        all_both Q (stmt_nodes fs b) _ (stmt_fits b names.2 calls.2 known.2 returns.2) (all_both Q (stmt_nodes fs a) _ (stmt_fits a names.1 calls.1 known.1 returns.1) (label_fits on_false, (label_fits on_true, cond_fits c names.0)))
    stmt_fits (Loop c body_label body step exit_label) names calls known returns =
        (label_fits exit_label, (label_fits body_label, all_both Q (cond_nodes_if_any c) _ (cond_fits_if_any c names.0) (all_both Q (stmt_nodes fs step) (stmt_nodes fs body) (stmt_fits step names.2 calls.2 known.2 returns.2) (stmt_fits body names.1 calls.1 known.1 returns.1))))
    stmt_fits (Do body c repeat_label exit_label) names calls known returns =
        (label_fits exit_label, (label_fits repeat_label, all_both Q (cond_nodes c) (stmt_nodes fs body) (cond_fits c names.0) (stmt_fits body names.1 calls.1 known.1 returns.1)))
    stmt_fits Break names calls known returns = tt
    stmt_fits Continue names calls known returns = tt
    stmt_fits (Return e) names calls known returns = return_fits result e refl names returns

    all_fit : (statements : CmStmts) → OfAll (StmtNamesBelow count) statements → OfAll (CallsIn C) statements → OfAll (CallsIn K) statements → OfAll (cm.ReturnsAs result) statements → AllNodes Q (stmts_nodes fs statements)
    all_fit NoStmts names calls known returns = tt
    all_fit (Then earlier s) names calls known returns =
        all_both Q (stmt_nodes fs s) (stmts_nodes fs earlier) (stmt_fits s names.1 calls.1 known.1 returns.1) (all_fit earlier names.0 calls.0 known.0 returns.0)

-- ---- from nodes without numbers to those of the graph

some_none : {n : ℕ} → Some n ≡ None → ⊥
some_none e = cc

none_some : {n : ℕ} → None ≡ Some n → ⊥
none_some e = cc

goes_back : (op : RtOp) (next : Option ℕ) → GoesOn (bare_op op) (option_map (λ q. 0) next) → GoesOn op next
goes_back (o.Test t one other) None g = refl
goes_back (o.Test t one other) (Some q) g = absurd (some_none g)
goes_back o.Return None g = refl
goes_back o.Return (Some q) g = absurd (some_none g)
goes_back (o.ReturnValue t) None g = refl
goes_back (o.ReturnValue t) (Some q) g = absurd (some_none g)
goes_back _ None g = absurd (none_some g.1)
goes_back _ (Some q) g = (q, refl)

-- what a node meets
pub record NodeFits (count : ℕ) (C K : ℕ → Type 0) (result : Option Held) (op : RtOp) (next : Option ℕ) : Type 0 where
  pub variables : (x : ℕ) → In x (variables_at op) → x < count
  pub callees : (g : ℕ) → In g (callees_at op) → C g
  pub known : CalleeFits K op
  pub returns : ReturnsAs result op
  pub within : IsWithinTwelve op
  pub goes_on : GoesOn op next

variables_back : (count : ℕ) (op : RtOp) → VariablesFit count (bare_op op) → (x : ℕ) → In x (variables_at op) → x < count
variables_back count (o.Get t y) fits x i = ⊎_elim (λ (same : y ≡ x). subst (λ z. z < count) same fits) (λ (none : ⊥). absurd none) i
variables_back count (o.Put y t) fits x i = ⊎_elim (λ (same : y ≡ x). subst (λ z. z < count) same fits) (λ (none : ⊥). absurd none) i
variables_back count _ fits x i = absurd i

callees_back : (C : ℕ → Type 0) (op : RtOp) → CalleeFits C (bare_op op) → (g : ℕ) → In g (callees_at op) → C g
callees_back C (o.Call f) fits g i = ⊎_elim (λ (same : f ≡ g). subst C same fits) (λ (none : ⊥). absurd none) i
callees_back C _ fits g i = absurd i

known_back : (K : ℕ → Type 0) (op : RtOp) → CalleeFits K (bare_op op) → CalleeFits K op
known_back K (o.Test t one other) fits = tt
known_back K (o.Call g) fits = fits
known_back K _ fits = tt

within_back : (op : RtOp) → IsWithinTwelve (bare_op op) → IsWithinTwelve op
within_back (o.Test t one other) fits = tt
within_back (o.Arg h first t) fits = fits
within_back _ fits = tt

returns_back : (result : Option Held) (op : RtOp) → ReturnFits result (bare_op op) → ReturnsAs result op
returns_back (Some h) o.Return fits = fits
returns_back None (o.ReturnValue t) fits = fits
returns_back None _ fits = tt
returns_back (Some h) _ fits = tt

node_fits : (count : ℕ) (C K : ℕ → Type 0) (result : Option Held) (n : RtNode) → Fits count C K result (bare n) → NodeFits count C K result n.op n.next
node_fits count C K result n fits = record {
  variables = variables_back count n.op fits.0;
  callees = callees_back C n.op fits.1;
  known = known_back K n.op fits.2;
  returns = returns_back result n.op fits.3;
  within = within_back n.op fits.4;
  goes_on = goes_back n.op n.next fits.5;
}

-- each node of the graph of a function
pub body_fits : (fs : List CmFunction) → ((g : ℕ) → all_held_bytes (parameters_at (slice_get fs g)) ≤ 12) → (count : ℕ) (C K : ℕ → Type 0) (f : CmFunction)
    → OfStmts (StmtNamesBelow count) f.body → OfStmts (CallsIn C) f.body → OfStmts (CallsIn K) f.body → OfStmts (cm.ReturnsAs f.result) f.body
    → (p : ℕ) (n : RtNode) → slice_get (add_body fs f).nodes p ≡ Some n → NodeFits count C K f.result n.op n.next
body_fits fs few count C K f names calls known returns p n e =
    let Q : RtNode → Type 0 = Fits count C K f.result in
    let label : Q (goes (o.Label f.label)) = (tt, tt, tt, tt, tt, (0, refl)) in
    let all : AllNodes Q (body_nodes fs f) = all_both Q (end_nodes f.result) _ (end_fits fs few count C K f.result f.result refl) (all_both Q (stmt_nodes fs f.body) _ (stmt_fits fs few count C K f.result f.body names calls known returns) (label, tt)) in
    node_fits count C K f.result n (each_of Q (add_body fs f).nodes (subst (AllNodes Q) (sym (body_outline fs f)) all) p n e)

-- what holds of each function that is called from nodes
pub callees_hold : (K : ℕ → Type 0) (nodes : List RtNode) → ((p : ℕ) (n : RtNode) → slice_get nodes p ≡ Some n → CalleeFits K n.op) → (g : ℕ) → Contains (callees_of nodes) g → K g
callees_hold K [] all g c = let lt = c.1 in absurd (omega (arith, lt))
callees_hold K (n ∷ nodes) all g c = at n.op (all 0 n refl) (callees_hold K nodes (λ p m e. all (suc p) m e)) c
  where
    at : (op : RtOp) → CalleeFits K op → ((f : ℕ) → Contains (callees_of nodes) f → K f) → Contains (callee_at op (callees_of nodes)) g → K g
    at (o.Call f) fits rest i = ⊎_elim (λ same. subst K same fits) (λ j. rest g j) (contains_cases f (callees_of nodes) g i)
    at _ fits rest i = rest g i
