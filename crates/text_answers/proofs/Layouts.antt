-- Each typed program has a layout, or a first reason against one; and so each text is that of a sound program, or has a first reason.
use Rattle.std.proofs.Common.{◌≡◌, ℕ, zero, suc, ◌+◌, ◌<◌, ◌≤◌, ◌⊎◌, Bool, true, false, cond, List, [], ◌∷◌, ◌++◌, length, map, filter, nat_lt, get_or, set, replicate, max, refl, sym, ◌∙◌, subst, inl, inr, arith, append_assoc}
use Rattle.std.specs.Prelude.{Contains, ◌↔◌, slice_get}
use Rattle.std.proofs.lemmas.Bool.{cases_lt, ltb-true}
use Rattle.std.proofs.lemmas.List.{append-nil, length-map, length-replicate, get_or-map}
use Rattle.cerco_base.specs.declared.reasons.Reason.{Reason}
use Rattle.cerco_base.specs.declared.reasons.Reason.TheVariants.{Recursion, StackFull, DataFull}
use Rattle.cerco_base.specs.CallOrder.{Called, functions_of, callers_at, IsCallOrder}
use Rattle.call_graph.specs.CallPaths.{Calls, CallsIn, IsLargestSum, IsLargestSumBefore, IsOrderOf}
use Rattle.call_graph.specs.Code.Largest.{IsLargestWith, AreSums}
use Rattle.call_graph.proofs.Consequences.{largest_along_calls, before_along_calls}
use Rattle.call_graph.proofs.Entries.{contains_cases, contains_none}
use Rattle.call_graph.proofs.SumSteps.{with_push, sums_next, sums_before, sums_largest}
use Rattle.clight_source.specs.Trees.{Program}
use Rattle.clight_syntax.specs.TypedTrees.{Function, TypedProgram}
use Rattle.clight_layout.specs.Calls.{stmts_calls, body_calls, callees}
use Rattle.clight_layout.specs.Layout.{HasNoCycle, IsTotal, IsLayout, greatest_depth, greatest_data, global_bytes, frame_sizes, laid_out}
use Rattle.clight_layout.specs.Reasons.{IsReason, defined_at}
use Rattle.clight_check.specs.Soundness.{IsUnsound}
use Rattle.text_answers.specs.Answers.{HasTypes, LayoutsAreDecided, TextsAreAnswered}
use Rattle.text_answers.proofs.Orders.{AreBounded, cycle_or_none, some_order}
use Rattle.text_answers.proofs.Reading.{texts_are_decided}

-- ---- callees are functions of the program

kept_next : (n x : ℕ) (rest : List ℕ) (g : ℕ) → (Contains rest g → g < n) → (b : Bool) → nat_lt x n ≡ b → Contains (cond b (x ∷ rest) rest) g → g < n
kept_next n x rest g again true e c =
    elim (contains_cases x g rest c) [
      | inl same ↦ subst (λ (y : ℕ). y < n) same (ltb-true x n e)
      | inr there ↦ again there
    ]
kept_next n x rest g again false e c = again c

kept : (n : ℕ) (xs : List ℕ) (g : ℕ) → Contains (filter (λ h. nat_lt h n) xs) g → g < n
kept n [] g c = absurd (contains_none g c)
kept n (x ∷ xs) g c = kept_next n x (filter (λ h. nat_lt h n) xs) g (kept n xs g) (nat_lt x n) refl c

called_within : {L : Type 0} (n : ℕ) (functions : List (Function L)) (f g : ℕ) → Contains (get_or (map (body_calls n) functions) f []) g → g < n
called_within n [] f g c = absurd (contains_none g c)
called_within n (x ∷ xs) zero g c = kept n (stmts_calls x.body) g c
called_within n (x ∷ xs) (suc f) g c = called_within n xs f g c

bounded : {L : Type 0} (functions : List (Function L)) → AreBounded (callees functions)
bounded functions f g call =
    let lt = called_within (length functions) functions f g call in
    let e : length (callees functions) ≡ length functions = length-map functions (body_calls (length functions)) in
    omega arith

-- ---- the sums of an order

with_all : (before sizes front rest : List ℕ) (n : ℕ) → IsLargestWith front before sizes n → (m : ℕ) × IsLargestWith (front ++ rest) before sizes m
with_all before sizes front [] n w = (n, subst (λ (xs : List ℕ). IsLargestWith xs before sizes n) (sym (append-nil front)) w)
with_all before sizes front (c ∷ rest) n w =
    let r = with_all before sizes (front ++ c ∷ []) rest (max n (get_or before c 0 + get_or sizes c 0)) (with_push front before sizes n c w) in
    (r.0, subst (λ (xs : List ℕ). IsLargestWith xs before sizes r.0) (append_assoc front (c ∷ []) rest) r.1)

record Summed (order : List Called) (sizes : List ℕ) (i : ℕ) : Type 0 where
  before : List ℕ
  largest : ℕ
  are : AreSums order sizes i before largest

summed : (order : List Called) (sizes : List ℕ) → IsCallOrder order → ((f : ℕ) → Contains (functions_of order) f ↔ (f < length sizes)) → (i : ℕ) → i ≤ length order → Summed order sizes i
summed order sizes o functions zero h =
    record {
      before = replicate (length sizes) 0;
      largest = 0;
      are = record {
        before_length = length-replicate (length sizes) 0;
        sums = λ k lt. let never : ⊥ = omega arith in absurd never;
        some = ([], inr refl, refl);
        most = λ k lt. let never : ⊥ = omega arith in absurd never;
      };
    }
summed order sizes o functions (suc i) h =
    let r = summed order sizes o functions i (omega arith) in
    let f : ℕ = get_or (functions_of order) i 0 in
    let w = with_all r.before sizes [] (callers_at order i) 0 (record { some = inl refl; most = λ c there. absurd (contains_none c there) }) in
    let e : i + 1 ≡ suc i = omega arith in
    record {
      before = set r.before (get_or (functions_of order) i 0) w.0;
      largest = max r.largest (w.0 + get_or sizes (get_or (functions_of order) i 0) 0);
      are = subst (λ (n : ℕ). AreSums order sizes n (set r.before (get_or (functions_of order) i 0) w.0) (max r.largest (w.0 + get_or sizes (get_or (functions_of order) i 0) 0))) e
          (sums_next order sizes r.before i r.largest (get_or (functions_of order) i 0) w.0 o functions r.are (record { within = omega arith; is = refl }) w.1);
    }

record HasSums (calls : List (List ℕ)) (sizes : List ℕ) : Type 0 where
  before : List ℕ
  count : length before ≡ length calls
  largest : ℕ
  is_largest : IsLargestSum (length calls) (Calls calls) sizes largest
  each : (f : ℕ) → f < length calls → IsLargestSumBefore (length calls) (Calls calls) sizes f (get_or before f 0)

has_sums : (calls : List (List ℕ)) (order : List Called) (sizes : List ℕ) → IsOrderOf calls order → length sizes ≡ length calls → HasSums calls sizes
has_sums calls order sizes is len =
    let functions : (f : ℕ) → Contains (functions_of order) f ↔ (f < length sizes) = λ f. (λ c. let lt = (is.functions f).0 c in omega arith, λ h. (is.functions f).1 (omega arith)) in
    let s = summed order sizes is.in_order functions (length order) (omega arith) in
    let most : IsLargestSum (length sizes) (CallsIn order) sizes s.largest = sums_largest order sizes s.before (length order) s.largest functions s.are (omega arith) in
    record {
      before = s.before;
      count = s.are.before_length ∙ len;
      largest = s.largest;
      is_largest = subst (λ (n : ℕ). IsLargestSum n (Calls calls) sizes s.largest) len (largest_along_calls (length sizes) (CallsIn order) (Calls calls) is.calls sizes s.largest most);
      each = λ f h.
          subst (λ (n : ℕ). IsLargestSumBefore n (Calls calls) sizes f (get_or s.before f 0)) len
          (before_along_calls (length sizes) (CallsIn order) (Calls calls) is.calls sizes f (get_or s.before f 0)
          (sums_before order sizes s.before (length order) s.largest f functions s.are (omega arith) (omega arith)));
    }

-- ---- layouts

abbrev P : Type 0
P = TypedProgram (Unit {0})

abbrev Decided : P → Type 0
Decided p = ((q : P) × IsLayout p q) ⊎ ((reason : Reason) × IsReason p reason)

module _ (p : P) (none : HasNoCycle (callees p.functions)) (order : List Called) (is : IsOrderOf (callees p.functions) order) (depths : HasSums (callees p.functions) (replicate (length (callees p.functions)) 1)) (frames : HasSums (callees p.functions) (frame_sizes p)) where
  abbrev total : ℕ
  total = global_bytes p + frames.largest

  abbrev starts : List ℕ
  starts = map (λ (b : ℕ). 1 + global_bytes p + b) frames.before

  is_total : IsTotal p (global_bytes p + frames.largest)
  is_total = record { largest = frames.largest; is_largest = frames.is_largest; is = refl }

  layout : depths.largest ≤ greatest_depth → global_bytes p + frames.largest ≤ greatest_data → IsLayout p (laid_out p starts total order)
  layout shallow fits =
      let count : length (callees p.functions) ≡ length p.functions = length-map p.functions (body_calls (length p.functions)) in
      record {
        order = is;
        no_cycle = none;
        depth = (depths.largest, depths.is_largest, shallow);
        count = length-map frames.before (λ (b : ℕ). 1 + global_bytes p + b) ∙ frames.count ∙ count;
        starts = λ f h.
            let within : f < length (callees p.functions) = omega arith in
            let there : f < length frames.before = let e = frames.count in omega arith in
            record { before = get_or frames.before f 0; is_largest = frames.each f within; is = get_or-map (λ (b : ℕ). 1 + global_bytes p + b) frames.before f 0 0 there };
        total = is_total;
        fits = fits;
        program = refl;
      }

  by_sums : Decided p
  by_sums =
      elim (cases_lt greatest_depth depths.largest) [
        | inl deep ↦ inr (StackFull depths.largest, (none, depths.is_largest, deep))
        | inr shallow ↦
            elim (cases_lt greatest_data (global_bytes p + frames.largest)) [
              | inl large ↦ inr (DataFull (global_bytes p + frames.largest), (none, (depths.largest, depths.is_largest, shallow), is_total, large))
              | inr fits ↦ inl (laid_out p starts total order, layout shallow fits)
            ]
      ]

by_order : (p : P) → HasNoCycle (callees p.functions) → (order : List Called) → IsOrderOf (callees p.functions) order → Decided p
by_order p none order is =
    by_sums p none order is
    (has_sums (callees p.functions) order (replicate (length (callees p.functions)) 1) is (length-replicate (length (callees p.functions)) 1))
    (has_sums (callees p.functions) order (frame_sizes p) is (rw (length-map, length-map) refl))

pub layouts_are_decided : LayoutsAreDecided
layouts_are_decided p =
    elim (cycle_or_none (callees p.functions) (bounded p.functions)) [
      | inl found ↦ inr (Recursion (defined_at (slice_get p.functions found.0)), (found.0, found.1, refl))
      | inr none ↦ let order = some_order (callees p.functions) (bounded p.functions) none in by_order p none order.0 order.1
    ]

-- ---- texts

unsound : (tree : Program) (types : HasTypes tree) (reason : Reason) → IsReason types.typed reason → IsUnsound tree reason
unsound tree types (Recursion at) is = record { names = types.names; typed = types.typed; typing = types.typing; reason_is = is }
unsound tree types (StackFull depth) is = record { names = types.names; typed = types.typed; typing = types.typing; reason_is = is }
unsound tree types (DataFull n) is = record { names = types.names; typed = types.typed; typing = types.typing; reason_is = is }
unsound tree types reason is = absurd is

pub texts_are_answered : TextsAreAnswered
texts_are_answered text =
    elim (texts_are_decided text) [
      | inl typed ↦
          let tree = typed.0 in
          let types = typed.2 in
          elim (layouts_are_decided types.typed) [
            | inl found ↦ inl (typed.0, typed.1, (found.0, record { names = types.names; typed = types.typed; typing = types.typing; layout = found.1 }))
            | inr against ↦ inr (against.0, inr (typed.0, typed.1, unsound typed.0 types against.0 against.1))
          ]
      | inr refused ↦ inr refused
    ]
