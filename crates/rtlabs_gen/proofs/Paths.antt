-- What holds along the paths of a graph with a certificate: calls are handed what they take, results are read after their calls, and
-- temporaries are written before they are used.
use Rattle.std.proofs.Common.{◌≡◌, ℕ, zero, suc, ◌<◌, List, [], ◌∷◌, ◌++◌, map, true, false, Option, Some, None, ◌⊎◌, inl, inr, refl, sym, ap, ◌∙◌, subst, ⊎_elim, arith}
use Rattle.std.specs.Prelude.{slice_get, option_map, Contains, IsPermutation}
use Rattle.std.proofs.lemmas.List.Elements.{Contains-append_left, Contains-push}
use Rattle.std.proofs.lemmas.List.Sorted.{IsPermutation-refl}
use Rattle.std.proofs.lemmas.Option.{slice_get-map}
use Rattle.cerco_traces.specs.LabelledGraphs.{In}
use Rattle.cerco_middle.specs.declared.operators.Held.{Held}
use Rattle.cerco_middle.specs.declared.rtlabs.RtOp.{RtOp}
use Rattle.cerco_middle.specs.declared.rtlabs.RtOp.TheVariants as o
use Rattle.cerco_middle.specs.declared.rtlabs.RtNode.{RtNode}
use Rattle.cerco_middle.specs.Calls.{Argument, arguments_from}
use Rattle.cerco_middle.specs.Cminor.Trees.{CmFunction, Cminor, held_parameters}
use Rattle.cerco_middle.specs.RtLabs.Graphs.{RtFunction, parameters_of, next_nodes, used_by, written_by}
use Rattle.cerco_middle.specs.RtLabs.WellFormed.{OfNodes, is_call, TakesExactly, ArgumentsMeetCalls, CallFreePath, edge, longer, TakesOne, IsTaken, ArgumentsAreTaken, HasCame, ResultsFollowCalls, WrittenBeforeUse}
use Rattle.cerco_middle.proofs.Each.{AllOf}
use Rattle.cerco_middle.proofs.RtLabsPaths.{PassesOn, handed_over_as, written_on_the_way}
use Rattle.cerco_middle.proofs.RtLabsPaths as path
use Rattle.rtlabs_gen.specs.Translation.{translated_function, translated}
use Rattle.rtlabs_gen.proofs.Lists.{some_node}
use Rattle.rtlabs_gen.proofs.Certificate.{needs, leaves, Orderly, Quiet, left_with, IsCertified}

-- ---- functions of the program and of what it becomes

some_function : {f g : RtFunction} → Some f ≡ Some g → f ≡ g
some_function e = cc

no_function : {f : RtFunction} → None ≡ Some f → ⊥
no_function e = cc

-- a function of the result is that of one of the program
pub translated_from : (fs gs : List CmFunction) (i : ℕ) (g : RtFunction) → slice_get (map (translated_function fs) gs) i ≡ Some g → (f : CmFunction) × (slice_get gs i ≡ Some f) × (translated_function fs f ≡ g)
translated_from fs gs i g e = by (slice_get gs i) refl (sym (slice_get-map (translated_function fs) gs i) ∙ e)
  where
    by : (f : Option CmFunction) → slice_get gs i ≡ f → option_map (translated_function fs) f ≡ Some g → (f' : CmFunction) × (slice_get gs i ≡ Some f') × (translated_function fs f' ≡ g)
    by None is e' = absurd (no_function e')
    by (Some f) is e' = (f, is, some_function e')

-- a call is handed what the function takes
abbrev pub MeetsCall : List CmFunction → ℕ → List Argument → Type 0
MeetsCall fs g arguments = (callee : CmFunction) → slice_get fs g ≡ Some callee → arguments ≡ arguments_from 0 (held_parameters callee)

-- the function has a result that is held so
abbrev pub HasResult : List CmFunction → ℕ → Held → Type 0
HasResult fs g h = (callee : CmFunction) × (slice_get fs g ≡ Some callee) × (callee.result ≡ Some h)

-- ---- temporaries

last_or : (u t : ℕ) → t < suc u → (t < u) ⊎ In t (u ∷ [])
last_or zero zero lt = inr (inl refl)
last_or zero (suc t) lt = absurd (omega (arith, lt))
last_or (suc u) zero lt = inl (omega arith)
last_or (suc u) (suc t) lt =
    ⊎_elim
    (λ (h : t < u). inl (omega (arith, h)))
    (λ (h : In t (u ∷ [])). ⊎_elim (λ (same : u ≡ t). inr (inl (ap suc same))) (λ (none : ⊥). absurd none) h)
    (last_or u t (omega (arith, lt)))

-- what is written after an operation was so before, or is written by it
leaves_or : (op : RtOp) (t : ℕ) → Orderly op → t < leaves op → (t < needs op) ⊎ In t (written_by op)
leaves_or (o.Const u number) t order lt = last_or u t lt
leaves_or (o.Get u x) t order lt = last_or u t lt
leaves_or (o.Put x u) t order lt = inl (omega (arith, lt))
leaves_or (o.Neg u) t order lt = inl lt
leaves_or (o.Not u) t order lt = inl lt
leaves_or (o.Narrow h u) t order lt = inl lt
leaves_or (o.Bin op u v) t order lt = inl (omega (arith, order, lt))
leaves_or (o.Shl k u) t order lt = inl lt
leaves_or (o.Shr k arithmetic u) t order lt = inl lt
leaves_or (o.Load h u) t order lt = inl lt
leaves_or (o.Store h u v) t order lt = inl (omega (arith, order, lt))
leaves_or (o.ReadPort u) t order lt = last_or u t lt
leaves_or (o.WritePort u) t order lt = inl (omega (arith, lt))
leaves_or (o.Arg h first u) t order lt = inl (omega (arith, lt))
leaves_or (o.Call g) t order lt = inl lt
leaves_or (o.Result h u) t order lt = last_or u t lt
leaves_or (o.Label l) t order lt = inl lt
leaves_or (o.Test u one other) t order lt = inl (omega (arith, lt))
leaves_or o.Return t order lt = inl lt
leaves_or (o.ReturnValue u) t order lt = inl (omega (arith, lt))

one_used : (u t : ℕ) → In t (u ∷ []) → t < suc u
one_used u t i = ⊎_elim (λ (same : u ≡ t). let lt : t < suc u = omega (arith, same) in lt) (λ (none : ⊥). absurd none) i

two_used : (u v t : ℕ) → u < v → In t (u ∷ v ∷ []) → t < suc v
two_used u v t order i = ⊎_elim (λ (same : u ≡ t). let lt : t < suc v = omega (arith, same, order) in lt) (λ (j : In t (v ∷ [])). one_used v t j) i

-- what an operation uses was written before it
used_before : (op : RtOp) (t : ℕ) → Orderly op → In t (used_by op) → t < needs op
used_before (o.Const u number) t order i = absurd i
used_before (o.Get u x) t order i = absurd i
used_before (o.Put x u) t order i = one_used u t i
used_before (o.Neg u) t order i = one_used u t i
used_before (o.Not u) t order i = one_used u t i
used_before (o.Narrow h u) t order i = one_used u t i
used_before (o.Bin op u v) t order i = two_used u v t order i
used_before (o.Shl k u) t order i = one_used u t i
used_before (o.Shr k arithmetic u) t order i = one_used u t i
used_before (o.Load h u) t order i = one_used u t i
used_before (o.Store h u v) t order i = two_used u v t order i
used_before (o.ReadPort u) t order i = absurd i
used_before (o.WritePort u) t order i = one_used u t i
used_before (o.Arg h first u) t order i = one_used u t i
used_before (o.Call g) t order i = absurd i
used_before (o.Result h u) t order i = absurd i
used_before (o.Label l) t order i = absurd i
used_before (o.Test u one other) t order i = one_used u t i
used_before o.Return t order i = absurd i
used_before (o.ReturnValue u) t order i = one_used u t i

-- ---- paths

all_from : (P : ℕ → Type 0) (qs : List ℕ) → ((q : ℕ) → In q qs → P q) → AllOf P qs
all_from P [] all = tt
all_from P (q ∷ qs) all = (all q (inl refl), all_from P qs (λ r i. all r (inr i)))

none_contained : (a : Argument) → Contains [] a → ⊥
none_contained a c = let lt = c.1 in omega (arith, lt)

module _ (p : Cminor) (f : RtFunction) (c : IsCertified (MeetsCall p.functions) (HasResult p.functions) f.nodes f.entry) where
  abbrev before : ℕ → List Argument
  before at = (c.facts at).arguments

  passes_arguments : PassesOn f (λ at node q. path.left_with f (before at) node.op ≡ before q)
  passes_arguments at node is = all_from (λ q. path.left_with f (before at) node.op ≡ before q) (next_nodes node) (λ q i. ((c.sure.each at node is).edges q i).arguments)

  -- what a call is handed
  takes : (arguments : List Argument) (op : RtOp) → Quiet (MeetsCall p.functions) op arguments → TakesExactly (translated p) arguments op
  takes arguments (o.Call g) quiet = λ callee is.
      let from = translated_from p.functions p.functions g callee is in
      let same : arguments ≡ parameters_of callee = quiet from.0 from.1 ∙ ap parameters_of from.2 in
      subst (λ l. IsPermutation (parameters_of callee) l) (sym same) (IsPermutation-refl (parameters_of callee))
  takes arguments _ quiet = tt

  pub arguments_meet : ArgumentsMeetCalls (translated p) f
  arguments_meet arguments at node is hands =
      let same = handed_over_as f before c.arguments_are passes_arguments at arguments hands in
      subst (λ l. TakesExactly (translated p) l node.op) (sym same) (takes (before at) node.op (c.sure.each at node is).quiet)

  -- an argument that was handed over stays so up to a call
  module _ (a : Argument) where
    abbrev Handed : ℕ → Type 0
    Handed at = Contains (before at) a

    stays_handed : (op : RtOp) (arguments : List Argument) → is_call op ≡ false → Contains arguments a → Contains (left_with arguments op) a
    stays_handed (o.Call g) arguments not_call handed = absurd (true_false not_call)
      where
        true_false : true ≡ false → ⊥
        true_false e = cc
    stays_handed (o.Arg h first t) arguments not_call handed = Contains-append_left arguments (record { held = h; first_byte = first } ∷ []) a handed
    stays_handed _ arguments not_call handed = handed

    passes_handed : PassesOn f (λ at node q. is_call node.op ≡ false → Handed at → Handed q)
    passes_handed at node is = all_from (λ q. is_call node.op ≡ false → Handed at → Handed q) (next_nodes node)
        (λ q i not_call handed. subst (λ l. Contains l a) ((c.sure.each at node is).edges q i).arguments (stays_handed node.op (before at) not_call handed))

    takes_one : (arguments : List Argument) (op : RtOp) → Quiet (MeetsCall p.functions) op arguments → Contains arguments a → TakesOne (translated p) a op
    takes_one arguments (o.Call g) quiet handed = λ callee is.
        let from = translated_from p.functions p.functions g callee is in
        subst (λ l. Contains l a) (quiet from.0 from.1 ∙ ap parameters_of from.2) handed
    takes_one arguments o.Return quiet handed = none_contained a (subst (λ l. Contains l a) quiet handed)
    takes_one arguments (o.ReturnValue t) quiet handed = none_contained a (subst (λ l. Contains l a) quiet handed)
    takes_one arguments _ quiet handed = tt

    takes_here : (at : ℕ) (node : RtNode) → slice_get f.nodes at ≡ Some node → Handed at → TakesOne (translated p) a node.op
    takes_here at node is handed = takes_one (before at) node.op (c.sure.each at node is).quiet handed

    -- after the node that hands it over
    handed_after : (at q : ℕ) (t : ℕ) (node : RtNode) → slice_get f.nodes at ≡ Some node → node.op ≡ o.Arg a.held a.first_byte t → In q (next_nodes node) → Handed q
    handed_after at q t node is hands i =
        let arguments = ((c.sure.each at node is).edges q i).arguments in
        let left : left_with (before at) node.op ≡ before at ++ a ∷ [] = ap (left_with (before at)) hands in
        subst (λ l. Contains l a) (sym left ∙ arguments) (Contains-push (before at) a)

    taken : (at t : ℕ) (node : RtNode) → slice_get f.nodes at ≡ Some node → node.op ≡ o.Arg a.held a.first_byte t → OfNodes f (λ q node'. CallFreePath f at q → TakesOne (translated p) a node'.op)
    taken at t node is hands q node' is' (edge _ _ first is1 not_call i) =
        takes_here q node' is' (handed_after at q t first is1 (ap (λ (n : RtNode). n.op) (some_node (sym is1 ∙ is)) ∙ hands) i)
    taken at t node is hands q node' is' (longer _ r _ first is1 not_call i more) =
        takes_here q node' is' (path.holds_along f Handed passes_handed r q more (handed_after at r t first is1 (ap (λ (n : RtNode). n.op) (some_node (sym is1 ∙ is)) ∙ hands) i))

  is_taken : (at : ℕ) (op : RtOp) (node : RtNode) → slice_get f.nodes at ≡ Some node → node.op ≡ op → IsTaken (translated p) f at op
  is_taken at (o.Arg h first t) node is same = taken (record { held = h; first_byte = first }) at t node is same
  is_taken at _ node is same = tt

  pub arguments_taken : ArgumentsAreTaken (translated p) f
  arguments_taken at node is = is_taken at node.op node is refl

  -- ---- results

  has_come : (at : ℕ) (op : RtOp) (next : Option ℕ) → slice_get f.nodes at ≡ Some (record { op = op; next = next }) → HasCame (translated p) f at op
  has_come at (o.Result h t) next is =
      let came = c.came.by at h t next is in
      let owned : (c.facts at).owned ≡ true = (c.sure.each at _ is).result in
      let callee = came.result_of in
      record {
        call = suc (suc at);
        callee = came.callee;
        after = suc at;
        label = came.label;
        function = translated_function p.functions callee.0;
        calls = came.calls;
        labels = came.labels;
        is_callee = slice_get-map (translated_function p.functions) p.functions came.callee ∙ ap (option_map (translated_function p.functions)) callee.1;
        held_so = callee.2;
        alone = λ q node is' i. ((c.sure.each q node is').edges at i).owned owned;
      }
  has_come at _ next is = tt

  pub results_follow : ResultsFollowCalls (translated p) f
  results_follow at node is = has_come at node.op node.next is

  -- ---- temporaries

  passes_written : (t : ℕ) → PassesOn f (λ at node q. t < (c.facts q).written → (t < (c.facts at).written) ⊎ In t (written_by node.op))
  passes_written t at node is = all_from (λ q. t < (c.facts q).written → (t < (c.facts at).written) ⊎ In t (written_by node.op)) (next_nodes node)
      (λ q i lt.
      let good = c.sure.each at node is in
      let below = subst (λ n. t < n) (good.edges q i).written lt in
      subst (λ n. (t < n) ⊎ In t (written_by node.op)) (sym good.written) (leaves_or node.op t good.orderly below))

  pub written_before : WrittenBeforeUse f
  written_before t at node is used unwritten =
      let good = c.sure.each at node is in
      let lt = subst (λ n. t < n) (sym good.written) (used_before node.op t good.orderly used) in
      written_on_the_way f (λ at t. t < (c.facts at).written) (λ t lt. let none = subst (λ n. t < n) c.written_is lt in omega (arith, none)) passes_written t at unwritten lt
