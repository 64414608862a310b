-- The first cells of functions: a frame begins after those of its callers, and none is above the need.
use Rattle.std.proofs.Common.{◌≡◌, ℕ, zero, suc, ◌+◌, ◌<◌, ◌≤◌, List, [], ◌∷◌, ◌++◌, length, nat_eq, Bool, true, false, if◌then◌else◌, slice_get, inl, inr, refl, sym, subst, arith, eqb-true}
use Rattle.std.specs.Prelude.{Contains, slice_index}
use Rattle.std.specs.List.{AllByRecursion}
use Rattle.cerco_base.specs.CallOrder.{Called}
use Rattle.cerco_traces.specs.LabelledGraphs.{In}
use Rattle.call_graph.specs.CallPaths.{CallsIn, IsLargestSum, IsLargestSumBefore}
use Rattle.call_graph.proofs.Entries.{contains_here, contains_there}
use Rattle.call_graph.proofs.Paths.{path-push}
use Rattle.call_graph.proofs.SumSteps.{sum-end}
use Rattle.rtl.specs.declared.graphs.Exit.{Exit}
use Rattle.rtl.specs.declared.graphs.Exit.TheVariants.{Next, Call}
use Rattle.rtl.specs.Programs.{Node, Graph}
use Rattle.rtl.specs.Graphs.{node_or, exit_at, graph_at}
use Rattle.rtl.specs.WellFormed.{gathered, exit_functions, functions_in, callers_of, AreCallersFrom}
use Rattle.ltl_alloc.specs.declared.frames.Bases.{Bases}
use Rattle.ltl_alloc.specs.Frames.{first_of, AreBases}

-- ---- sums

-- what leads to a function is no more than the largest sum
pub before_largest : (functions : ℕ) (calls : List Called) (sizes : List ℕ) (f before largest : ℕ) → IsLargestSumBefore functions (CallsIn calls) sizes f before → IsLargestSum functions (CallsIn calls) sizes largest → before + slice_index sizes f ≤ largest
before_largest functions calls sizes f before largest sum most =
    let whole = most.most (sum.some.0 ++ f ∷ []) sum.some.1 in
    let e = sum-end sizes sum.some.0 f in
    let s = sum.some.2 in
    omega (arith, whole, e, s)

-- a called function begins after its caller
pub called_after : (calls : List Called) (sizes : List ℕ) (bases : Bases) → AreBases calls sizes bases → (f g : ℕ) → f < length sizes → g < length sizes → CallsIn calls f g → first_of bases f + slice_index sizes f ≤ first_of bases g
called_after calls sizes bases are f g f_known g_known call =
    let there = are.firsts f f_known in
    let path = path-push (length sizes) (CallsIn calls) there.some.0 f g there.some.1 call in
    let le = (are.firsts g g_known).most (there.some.0 ++ f ∷ []) path in
    let e = sum-end sizes there.some.0 f in
    let s = there.some.2 in
    omega (arith, le, e, s)

-- ---- calls of graphs

contains : (f : ℕ) (xs : List ℕ) → In f xs → Contains xs f
contains f [] i = absurd i
contains f (x ∷ xs) (inl e) = subst (Contains (x ∷ xs)) e (contains_here x xs)
contains f (x ∷ xs) (inr i) = contains_there x f xs (contains f xs i)

-- a caller in the order of calls calls
pub callers_call : (calls : List Called) (f g : ℕ) → In f (callers_of calls g) → CallsIn calls f g
callers_call [] f g i = absurd i
callers_call (c ∷ calls) f g i = by_test (nat_eq c.function g) refl (λ j. callers_call calls f g j) i
  where
    by_test : (b : Bool) → nat_eq c.function g ≡ b → (In f (callers_of calls g) → CallsIn calls f g) → In f (if b then c.callers else callers_of calls g) → CallsIn (c ∷ calls) f g
    by_test true e more j = (0, omega arith, eqb-true c.function g e, contains f c.callers j)
    by_test false e more j =
        let later = more j in
        let lt = later.1 in
        (suc later.0, omega (arith, lt), later.2, later.3)

in_first : (v : ℕ) (xs ys : List ℕ) → In v xs → In v (xs ++ ys)
in_first v [] ys i = absurd i
in_first v (x ∷ xs) ys (inl e) = inl e
in_first v (x ∷ xs) ys (inr i) = inr (in_first v xs ys i)

in_second : (v : ℕ) (xs ys : List ℕ) → In v ys → In v (xs ++ ys)
in_second v [] ys i = i
in_second v (x ∷ xs) ys i = inr (in_second v xs ys i)

abbrev next_exit : ℕ → Exit ℕ
next_exit p = Next p

no_call : (p g q : ℕ) → next_exit p ≡ Call g q → ⊥
no_call p g q e = cc

-- a function that a node calls is among those that the graph calls
called_in : (d k g q : ℕ) (ns : List (Node ℕ)) → (node_or d (slice_get ns k)).exit ≡ Call g q → In g (gathered (λ n. exit_functions n.exit) ns)
called_in d k g q [] e = absurd (no_call d g q e)
called_in d zero g q (n ∷ ns) e = in_first g (exit_functions n.exit) (gathered (λ n. exit_functions n.exit) ns) (subst (λ z. In g (exit_functions z)) (sym e) (inl refl))
called_in d (suc k) g q (n ∷ ns) e = in_second g (exit_functions n.exit) (gathered (λ n. exit_functions n.exit) ns) (called_in d k g q ns e)

each_of : (P : ℕ → Type 0) (v : ℕ) (xs : List ℕ) → AllByRecursion P xs → In v xs → P v
each_of P v [] all i = absurd i
each_of P v (x ∷ xs) all (inl e) = subst P e all.0
each_of P v (x ∷ xs) all (inr i) = each_of P v xs all.1 i

abbrev none : List (Graph ℕ)
none = []

pub no_call_outside : (p g q : ℕ) → exit_at (graph_at none 0) p ≡ Call g q → ⊥
no_call_outside zero g q e = no_call 0 g q e
no_call_outside (suc p) g q e = no_call (suc p) g q e

-- a function that has a call is one of the program, and among the callers of the function called
pub caller_known : (calls : List Called) (k : ℕ) (hs : List (Graph ℕ)) (f p g q : ℕ) → AreCallersFrom calls k hs → exit_at (graph_at hs f) p ≡ Call g q → (f < length hs) × In (k + f) (callers_of calls g)
caller_known calls k [] f p g q all e = absurd (no_call_outside p g q e)
caller_known calls k (h ∷ hs) zero p g q all e =
    let here : k ≡ k + 0 = omega arith in
    (omega arith, subst (λ n. In n (callers_of calls g)) here (each_of (λ called. In k (callers_of calls called)) g (functions_in h) all.0 (called_in p p g q h.nodes e)))
caller_known calls k (h ∷ hs) (suc f) p g q all e =
    let there = caller_known calls (suc k) hs f p g q all.1 e in
    let lt = there.0 in
    let same : suc k + f ≡ k + suc f = omega arith in
    (omega (arith, lt), subst (λ n. In n (callers_of calls g)) same there.1)

pub called_known : (n : ℕ) (hs : List (Graph ℕ)) (f p g q : ℕ) → AllByRecursion (λ h. AllByRecursion (λ called. called < n) (functions_in h)) hs → exit_at (graph_at hs f) p ≡ Call g q → g < n
called_known n [] f p g q all e = absurd (no_call_outside p g q e)
called_known n (h ∷ hs) zero p g q all e = each_of (λ called. called < n) g (functions_in h) all.0 (called_in p p g q h.nodes e)
called_known n (h ∷ hs) (suc f) p g q all e = called_known n hs f p g q all.1 e
