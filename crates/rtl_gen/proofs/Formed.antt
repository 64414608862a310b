-- The translation of a well formed program is a well formed program of RTL.
use Rattle.std.proofs.Common.{◌≡◌, ℕ, zero, suc, ◌+◌, ◌<◌, ◌≤◌, inl, inr, ⊎_elim, List, [], ◌∷◌, ◌++◌, map, length, Option, Some, None, Bool, true, false, nat_eq, if◌then◌else◌, refl, sym, ap, ap₂, ◌∙◌, subst, arith, eq-eqb, append_assoc, append-nil, get_or}
use Rattle.std.specs.Prelude.{slice_get, Contains}
use Rattle.std.specs.List.{AllByRecursion}
use Rattle.std.proofs.lemmas.Option.{none-some, same_Some, slice_get-get_or, slice_get_within}
use Rattle.std.proofs.lemmas.Bool.{cases_lt}
use Rattle.std.proofs.lemmas.Bool.Decides.{eqb_tells}
use Rattle.cerco_base.specs.CallOrder.{Called, functions_of}
use Rattle.cerco_traces.specs.LabelledGraphs.{In, only}
use Rattle.cerco_middle.specs.declared.rtlabs.RtOp.{RtOp}
use Rattle.cerco_middle.specs.declared.rtlabs.RtOp.TheVariants as op
use Rattle.cerco_middle.specs.declared.rtlabs.RtNode.{RtNode}
use Rattle.cerco_middle.specs.Programs.{times_in}
use Rattle.cerco_middle.specs.RtLabs.Graphs.{RtFunction, RtLabs, next_nodes, labels_of_nodes, labels_of, callees_of, callees_at}
use Rattle.cerco_middle.specs.RtLabs.WellFormed.{IsWellFormed, IsAt, GoesOn, NodesExist, PathsGoOn}
use Rattle.rtl.specs.declared.locations.Vreg.{Vreg}
use Rattle.rtl.specs.Programs.{Graph}
use Rattle.rtl.specs.WellFormed.{gathered, exit_nodes, exit_functions, exit_labels, functions_in, labels_in, NoneTwice, AreCounted, IsGraph, NamesNodes, callers_of, AreCallersFrom, IsRtl, NamesItsVregs}
use Rattle.rtl.specs.WellFormed.{IsWellFormed as IsWellFormedRtl}
use Rattle.byte_sequences.specs.Words.{vreg}
use Rattle.byte_sequences.specs.Operations.{operation_exit}
use Rattle.rtl_gen.specs.Translation.{next_or, next_of, next_in, entry_next, entry_node, nodes_from, translated_function, translated}
use Rattle.rtl_gen.proofs.Nodes.{next_other, next_entry}
use Rattle.rtl_gen.proofs.Handing.{contains_none, contains_cons}
use Rattle.rtl_gen.proofs.Kept.{exit_label, exit_callee, function_kept, translation_keeps}
use Rattle.rtl_gen.proofs.Named.{all_append, taken_out, names_its_vregs}

-- ---- lists of numbers

in_of_contains : (xs : List ℕ) (x : ℕ) → Contains xs x → In x xs
in_of_contains [] x c = contains_none x c
in_of_contains (y ∷ xs) x c = ⊎_elim (λ e. inl e) (λ later. inr (in_of_contains xs x later)) (contains_cons y xs x c)

contains_of_in : (xs : List ℕ) (x : ℕ) → In x xs → Contains xs x
contains_of_in [] x i = absurd i
contains_of_in (y ∷ xs) x (inl e) = (0, omega arith, e)
contains_of_in (y ∷ xs) x (inr i) = let c = contains_of_in xs x i in let below = c.1 in (suc c.0, omega (arith, below), c.2)

-- ---- how often a number is in a list

plus_one : (b : Bool) (n : ℕ) → n ≤ (if b then suc n else n)
plus_one true n = omega arith
plus_one false n = omega arith

times_more : (l x : ℕ) (xs : List ℕ) → times_in l xs ≤ times_in l (x ∷ xs)
times_more l x xs = plus_one (nat_eq x l) (times_in l xs)

times_here : (l x : ℕ) (xs : List ℕ) → x ≡ l → times_in l (x ∷ xs) ≡ suc (times_in l xs)
times_here l x xs e = ap (λ b. if b then suc (times_in l xs) else times_in l xs) (eq-eqb x l e)

times_one : (l : ℕ) (xs : List ℕ) → In l xs → 1 ≤ times_in l xs
times_one l [] i = absurd i
times_one l (x ∷ xs) (inl e) = let here = times_here l x xs e in omega (arith, here)
times_one l (x ∷ xs) (inr i) = let rest = times_one l xs i in let more = times_more l x xs in omega (arith, rest, more)

in_of_times : (l : ℕ) (xs : List ℕ) → 1 ≤ times_in l xs → In l xs
in_of_times l [] some = absurd (omega (arith, some))
in_of_times l (x ∷ xs) some = ⊎_elim
    (λ e. inl e.1)
    (λ e. inr (in_of_times l xs (subst (λ n. 1 ≤ n) (ap (λ b. if b then suc (times_in l xs) else times_in l xs) e.0) some)))
    (eqb_tells x l)

sum_or : (b : Bool) (m n : ℕ) → (if b then suc (m + n) else m + n) ≡ (if b then suc m else m) + n
sum_or true m n = omega arith
sum_or false m n = refl

times_append : (l : ℕ) (xs ys : List ℕ) → times_in l (xs ++ ys) ≡ times_in l xs + times_in l ys
times_append l [] ys = omega arith
times_append l (x ∷ xs) ys = ap (λ n. if nat_eq x l then suc n else n) (times_append l xs ys) ∙ sum_or (nat_eq x l) (times_in l xs) (times_in l ys)

none_twice : (xs : List ℕ) → ((l : ℕ) → times_in l xs ≤ 1) → NoneTwice xs
none_twice [] few = tt
none_twice (n ∷ ns) few = (
  λ i. let one = times_one n ns i in let here = times_here n n ns refl in let most = few n in omega (arith, one, here, most),
  none_twice ns (λ l. let most = few l in let more = times_more l n ns in omega (arith, most, more)),
)

all_of_in : (P : ℕ → Type 0) (xs : List ℕ) → ((x : ℕ) → In x xs → P x) → AllByRecursion P xs
all_of_in P [] each = tt
all_of_in P (x ∷ xs) each = (each x (inl refl), all_of_in P xs (λ y i. each y (inr i)))

-- a list that has all numbers below n is no shorter
enough : (n : ℕ) (xs : List ℕ) → ((l : ℕ) → l < n → In l xs) → n ≤ length xs
enough zero xs each = omega arith
enough (suc n) xs each =
    let out = taken_out n xs (each n (omega arith)) in
    let rest = enough n out.0 (λ l below. out.2 l (λ e. omega (arith, e, below)) (each l (omega (arith, below)))) in
    let longer = out.1 in
    omega (arith, rest, longer)

-- ---- labels

labels_first : (nodes : List RtNode) (more : List ℕ) → labels_of_nodes nodes more ≡ labels_of_nodes nodes [] ++ more
labels_first [] more = refl
labels_first (node ∷ nodes) more =
    sym (exit_label node.op 0 (labels_of_nodes nodes more))
    ∙ ap (λ ls. exit_labels (operation_exit vreg node.op 0) ++ ls) (labels_first nodes more)
    ∙ sym (append_assoc (exit_labels (operation_exit vreg node.op 0)) (labels_of_nodes nodes []) more)
    ∙ ap (λ ls. ls ++ more) (exit_label node.op 0 (labels_of_nodes nodes []))

program_labels : (fs : List RtFunction) → gathered labels_in (map (translated_function vreg) fs) ≡ labels_of fs
program_labels [] = refl
program_labels (f ∷ fs) = ap₂ (λ xs ys. xs ++ ys) ((function_kept f).labels) (program_labels fs) ∙ sym (labels_first f.nodes (labels_of fs))

function_times : (fs : List RtFunction) (i : ℕ) (f : RtFunction) (l : ℕ) → slice_get fs i ≡ Some f → times_in l (labels_of_nodes f.nodes []) ≤ times_in l (labels_of fs)
function_times [] i f l is = absurd (none-some f is)
function_times (g ∷ fs) zero f l is =
    let both = ap (times_in l) (labels_first g.nodes (labels_of fs)) ∙ times_append l (labels_of_nodes g.nodes []) (labels_of fs) in
    subst (λ (h : RtFunction). times_in l (labels_of_nodes h.nodes []) ≤ times_in l (labels_of (g ∷ fs))) (same_Some g f is) (omega (arith, both))
function_times (g ∷ fs) (suc i) f l is =
    let both = ap (times_in l) (labels_first g.nodes (labels_of fs)) ∙ times_append l (labels_of_nodes g.nodes []) (labels_of fs) in
    let rest = function_times fs i f l is in
    omega (arith, both, rest)

-- ---- where nodes go on

only_in : (next : Option ℕ) (q : ℕ) → next ≡ Some q → In q (only next)
only_in next q e = subst (λ n. In q (only n)) (sym e) (inl refl)

none_next : {next : Option ℕ} {q : ℕ} → next ≡ None → next ≡ Some q → ⊥
none_next {next} {q} none some = none-some q (sym none ∙ some)

next_named : (o : RtOp) (next : Option ℕ) (q : ℕ) → GoesOn o next → next ≡ Some q → In q (next_nodes (record { op = o; next = next }))
next_named (op.Test t on_true on_false) next q g e = absurd (none_next g e)
next_named op.Return next q g e = absurd (none_next g e)
next_named (op.ReturnValue t) next q g e = absurd (none_next g e)
next_named (op.Const t n) next q g e = only_in next q e
next_named (op.Get t x) next q g e = only_in next q e
next_named (op.Put x t) next q g e = only_in next q e
next_named (op.Neg t) next q g e = only_in next q e
next_named (op.Not t) next q g e = only_in next q e
next_named (op.Narrow h t) next q g e = only_in next q e
next_named (op.Bin o t u) next q g e = only_in next q e
next_named (op.Shl n t) next q g e = only_in next q e
next_named (op.Shr n keeps_sign t) next q g e = only_in next q e
next_named (op.Load h t) next q g e = only_in next q e
next_named (op.Store h t u) next q g e = only_in next q e
next_named (op.ReadPort t) next q g e = only_in next q e
next_named (op.WritePort t) next q g e = only_in next q e
next_named (op.Arg h first t) next q g e = only_in next q e
next_named (op.Call c) next q g e = only_in next q e
next_named (op.Result h t) next q g e = only_in next q e
next_named (op.Label l) next q g e = only_in next q e

exits_below : (o : RtOp) (next : Option ℕ) (r n : ℕ) → r < n → ((q : ℕ) → In q (next_nodes (record { op = o; next = next })) → q < n) → AllByRecursion (λ q. q < n) (exit_nodes (operation_exit vreg o r))
exits_below (op.Test t on_true on_false) next r n less below = (below on_true (inl refl), (below on_false (inr (inl refl)), tt))
exits_below op.Return next r n less below = tt
exits_below (op.ReturnValue t) next r n less below = tt
exits_below (op.Const t k) next r n less below = (less, tt)
exits_below (op.Get t x) next r n less below = (less, tt)
exits_below (op.Put x t) next r n less below = (less, tt)
exits_below (op.Neg t) next r n less below = (less, tt)
exits_below (op.Not t) next r n less below = (less, tt)
exits_below (op.Narrow h t) next r n less below = (less, tt)
exits_below (op.Bin o t u) next r n less below = (less, tt)
exits_below (op.Shl k t) next r n less below = (less, tt)
exits_below (op.Shr k keeps_sign t) next r n less below = (less, tt)
exits_below (op.Load h t) next r n less below = (less, tt)
exits_below (op.Store h t u) next r n less below = (less, tt)
exits_below (op.ReadPort t) next r n less below = (less, tt)
exits_below (op.WritePort t) next r n less below = (less, tt)
exits_below (op.Arg h first t) next r n less below = (less, tt)
exits_below (op.Call c) next r n less below = (less, tt)
exits_below (op.Result h t) next r n less below = (less, tt)
exits_below (op.Label l) next r n less below = (less, tt)

-- ---- a function

module _ (f : RtFunction) (exist : NodesExist f) (goes : PathsGoOn f) where
  next_below : (at : ℕ) (node : RtNode) → IsAt f at node → next_or at node.next < length f.nodes
  next_below at node is = by node.next refl
    where
      by : (next : Option ℕ) → node.next ≡ next → next_or at next < length f.nodes
      by None e = slice_get_within f.nodes at node is
      by (Some q) e = exist.1 at node is q (next_named node.op node.next q (goes at node is) e)

  goes_below : (at : ℕ) (node : RtNode) → IsAt f at node → next_of f.entry (length f.nodes) at node.next < length f.nodes + 1
  goes_below at node is = ⊎_elim
      (λ e. let new = next_entry f.entry (length f.nodes) at node.next e.1 in omega (arith, new))
      (λ e. let other = next_other f.entry (length f.nodes) at node.next e.1 in let less = next_below at node is in omega (arith, other, less))
      (eqb_tells at f.entry)

  nodes_exits : (new p : ℕ) (nodes : List RtNode) → ((i : ℕ) (node : RtNode) → slice_get nodes i ≡ Some node → AllByRecursion (λ q. q < length f.nodes + 1) (exit_nodes (operation_exit vreg node.op (next_of f.entry new (p + i) node.next))))
      → AllByRecursion (λ n. AllByRecursion (λ q. q < length f.nodes + 1) (exit_nodes n.exit)) (nodes_from vreg f new p nodes)
  nodes_exits new p [] each = tt
  nodes_exits new p (node ∷ nodes) each =
      let e : p + 0 ≡ p = omega arith in (
        subst (λ n. AllByRecursion (λ q. q < length f.nodes + 1) (exit_nodes (operation_exit vreg node.op (next_of f.entry new n node.next)))) e (each 0 node refl),
        nodes_exits new (p + 1) nodes (λ i m is. let e' : p + suc i ≡ p + 1 + i = omega arith in subst (λ n. AllByRecursion (λ q. q < length f.nodes + 1) (exit_nodes (operation_exit vreg m.op (next_of f.entry new n m.next)))) e' (each (suc i) m is)),
      )

  entry_below : entry_next f < length f.nodes + 1
  entry_below =
      let node_is = slice_get-get_or f.nodes f.entry (record { op = op.Return; next = None }) exist.0 in
      let less = next_below f.entry _ node_is in
      let same : entry_next f ≡ next_or f.entry (get_or f.nodes f.entry (record { op = op.Return; next = None })).next = ap (λ n. next_or f.entry (next_in n)) node_is in
      omega (arith, less, same)

  graph_nodes : NamesNodes (translated_function vreg f)
  graph_nodes =
      let count = (function_kept f).nodes in
      let entry = exist.0 in
      let each : (i : ℕ) (node : RtNode) → slice_get f.nodes i ≡ Some node → AllByRecursion (λ q. q < length f.nodes + 1) (exit_nodes (operation_exit vreg node.op (next_of f.entry (length f.nodes) (0 + i) node.next))) =
      λ i node is.
      let e : i ≡ 0 + i = omega arith in
      subst (λ n. AllByRecursion (λ q. q < length f.nodes + 1) (exit_nodes (operation_exit vreg node.op (next_of f.entry (length f.nodes) n node.next)))) e
      (exits_below node.op node.next (next_of f.entry (length f.nodes) i node.next) (length f.nodes + 1) (goes_below i node is) (λ q named. let less = exist.1 i node is q named in omega (arith, less))) in
      record {
        entry = omega (arith, count, entry);
        exits = subst (λ n. AllByRecursion (λ m. AllByRecursion (λ q. q < n) (exit_nodes m.exit)) (translated_function vreg f).nodes) (sym count)
            (all_append (λ m. AllByRecursion (λ q. q < length f.nodes + 1) (exit_nodes m.exit)) (nodes_from vreg f (length f.nodes) 0 f.nodes) (entry_node vreg f.held f.params (entry_next f) ∷ []) (nodes_exits (length f.nodes) 0 f.nodes each) ((entry_below, tt), tt));
      }

-- ---- the order of calls

callers_found : (calls : List Called) (called : ℕ) → In called (functions_of calls) → (i : ℕ) × (entry : Called) × (slice_get calls i ≡ Some entry) × (entry.function ≡ called) × (callers_of calls called ≡ entry.callers)
callers_found [] called i = absurd i
callers_found (c ∷ calls) called i = ⊎_elim
    (λ e. (0, c, refl, e.1, ap (λ b. if b then c.callers else callers_of calls called) e.0))
    (λ e. ⊎_elim
    (λ same. absurd (e.1 same))
    (λ later. let rest = callers_found calls called later in (suc rest.0, rest.1, rest.2, rest.3, ap (λ b. if b then c.callers else callers_of calls called) e.0 ∙ rest.4))
    i)
    (eqb_tells c.function called)

callees_named : (P : ℕ → Type 0) (nodes : List RtNode) → ((i : ℕ) (node : RtNode) → slice_get nodes i ≡ Some node → (g : ℕ) → In g (callees_at node.op) → P g) → AllByRecursion P (callees_of nodes)
callees_named P [] each = tt
callees_named P (node ∷ nodes) each =
    subst (AllByRecursion P) (exit_callee node.op 0 (callees_of nodes))
    (all_append P (exit_functions (operation_exit vreg node.op 0)) (callees_of nodes)
    (subst (AllByRecursion P) (sym (sym (append-nil (exit_functions (operation_exit vreg node.op 0))) ∙ exit_callee node.op 0 [])) (all_of_in P (callees_at node.op) (each 0 node refl)))
    (callees_named P nodes (λ i n is. each (suc i) n is)))

module _ (p : RtLabs) (wf : IsWellFormed p) where
  in_order : (f : ℕ) → f < length p.functions → In f (functions_of p.calls)
  in_order f below = in_of_contains (functions_of p.calls) f (wf.calls_are_known.functions.all f below)

  callees_exist : (i : ℕ) (f : RtFunction) → slice_get p.functions i ≡ Some f → AllByRecursion (λ g. g < length p.functions) (callees_of f.nodes)
  callees_exist i f is = callees_named (λ g. g < length p.functions) f.nodes (λ at node is' g named. wf.functions_exist.1 i f is at node is' g named)

  callers_known : (i : ℕ) (f : RtFunction) → slice_get p.functions i ≡ Some f → AllByRecursion (λ called. In i (callers_of p.calls called)) (callees_of f.nodes)
  callers_known i f is = all_of_in (λ called. In i (callers_of p.calls called)) (callees_of f.nodes) (λ called among.
      let below = in_all (λ g. g < length p.functions) (callees_of f.nodes) (callees_exist i f is) called among in
      let there = callers_found p.calls called (in_order called below) in
      let known = wf.calls_are_known.callers i f is called (contains_of_in (callees_of f.nodes) called among) there.0 there.1 there.2 there.3 in
      subst (In i) (sym there.4) (in_of_contains there.1.callers i known))
    where
      in_all : (P : ℕ → Type 0) (xs : List ℕ) → AllByRecursion P xs → (x : ℕ) → In x xs → P x
      in_all P [] all x i = absurd i
      in_all P (y ∷ xs) all x (inl e) = subst P e all.0
      in_all P (y ∷ xs) all x (inr i) = in_all P xs all.1 x i

  callers_from : (first : ℕ) (fs : List RtFunction) → ((k : ℕ) (f : RtFunction) → slice_get fs k ≡ Some f → AllByRecursion (λ called. In (first + k) (callers_of p.calls called)) (callees_of f.nodes)) → AreCallersFrom p.calls first (map (translated_function vreg) fs)
  callers_from first [] each = tt
  callers_from first (f ∷ fs) each =
      let e : first + 0 ≡ first = omega arith in (
        subst (λ n. AllByRecursion (λ called. In n (callers_of p.calls called)) (functions_in (translated_function vreg f))) e
            (subst (AllByRecursion (λ called. In (first + 0) (callers_of p.calls called))) (sym (function_kept f).calls) (each 0 f refl)),
        callers_from (suc first) fs (λ k g is. let e' : first + suc k ≡ suc first + k = omega arith in subst (λ n. AllByRecursion (λ called. In n (callers_of p.calls called)) (callees_of g.nodes)) e' (each (suc k) g is)),
      )

  -- ---- all graphs

  of_graphs : (P : Graph Vreg → Type 0) (fs : List RtFunction) → ((i : ℕ) (f : RtFunction) → slice_get fs i ≡ Some f → P (translated_function vreg f)) → AllByRecursion P (map (translated_function vreg) fs)
  of_graphs P [] each = tt
  of_graphs P (f ∷ fs) each = (each 0 f refl, of_graphs P fs (λ i g is. each (suc i) g is))

  few_times : (l : ℕ) → times_in l (labels_of p.functions) ≤ 1
  few_times l = let numbered = wf.labels_are_numbered in ⊎_elim (λ below. let once = numbered.once l below in omega (arith, once)) (λ above. let none = numbered.no_more l above in omega (arith, none)) (cases_lt l numbered.number)

  label_below : (l : ℕ) → In l (labels_of p.functions) → l < length (labels_of p.functions)
  label_below l among =
      let numbered = wf.labels_are_numbered in
      let one = times_one l (labels_of p.functions) among in
      let all = enough numbered.number (labels_of p.functions) (λ m below. let once = numbered.once m below in in_of_times m (labels_of p.functions) (omega (arith, once))) in
      ⊎_elim (λ below. omega (arith, below, all)) (λ above. let none = numbered.no_more l above in absurd (omega (arith, one, none))) (cases_lt l numbered.number)

  count : length (translated p).graphs ≡ length p.functions
  count = (translation_keeps p).count

  is_well_formed : IsWellFormedRtl (translated p)
  is_well_formed = record {
    graphs = of_graphs IsGraph p.functions (λ i f is. let formed = wf.functions i f is in record {
      nodes = graph_nodes f formed.nodes_exist formed.paths_go_on;
      labels = subst NoneTwice (sym (function_kept f).labels) (none_twice (labels_of_nodes f.nodes []) (λ l. let here = function_times p.functions i f l is in let few = few_times l in omega (arith, here, few)));
    });
    functions = record {
      main = subst (λ n. p.main < n) (sym count) wf.functions_exist.0;
      called = subst (λ n. AllByRecursion (λ g. AllByRecursion (λ f. f < n) (functions_in g)) (translated p).graphs) (sym count)
          (of_graphs (λ g. AllByRecursion (λ f. f < length p.functions) (functions_in g)) p.functions (λ i f is. subst (AllByRecursion (λ g. g < length p.functions)) (sym (function_kept f).calls) (callees_exist i f is)));
    };
    order = λ f. (λ among. subst (λ n. f < n) (sym count) (wf.calls_are_known.functions.no_others f (contains_of_in (functions_of p.calls) f among)), λ below. in_order f (subst (λ n. f < n) count below));
    calls = callers_from 0 p.functions (λ k f is. let e : k ≡ 0 + k = omega arith in subst (λ n. AllByRecursion (λ called. In n (callers_of p.calls called)) (callees_of f.nodes)) e (callers_known k f is));
    labels = subst AreCounted (sym (program_labels p.functions)) (record {
      once = none_twice (labels_of p.functions) few_times;
      below = all_of_in (λ n. n < length (labels_of p.functions)) (labels_of p.functions) label_below;
    });
  }

-- the clause on well formed programs
pub translation_formed : (p : RtLabs) → IsWellFormed p → IsRtl (translated p)
translation_formed p wf = (is_well_formed p wf, of_graphs p wf (NamesItsVregs 12) p.functions (λ i f is. names_its_vregs p f (wf.functions i f is)))
