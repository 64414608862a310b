-- What a well formed program of Cminor becomes is well formed.
use Rattle.std.proofs.Common.{◌≡◌, ℕ, ◌+◌, ◌<◌, ◌≤◌, List, [], ◌∷◌, length, Option, Some, None, refl, sym, ap, ◌∙◌, subst, arith}
use Rattle.std.specs.Prelude.{slice_get, Contains}
use Rattle.std.proofs.lemmas.List.{length-map, length-take}
use Rattle.cerco_base.specs.CallOrder.{Called}
use Rattle.cerco_base.specs.declared.events.Label.{Label}
use Rattle.cerco_middle.specs.declared.operators.Held.{Held}
use Rattle.cerco_middle.specs.Operators.{held_bytes, all_held_bytes}
use Rattle.cerco_middle.specs.Calls.{arguments_from}
use Rattle.cerco_traces.specs.LabelledGraphs.{In}
use Rattle.cerco_middle.specs.Programs.{HoldsFunctions, KnowsCallers}
use Rattle.cerco_middle.specs.Cminor.Trees.{CmExpr, CmStmt, Seq, Call, If, Loop, Do, CmStmts, NoStmts, Then, CmFunction, Cminor, held_parameters}
use Rattle.cerco_middle.specs.Cminor.Sums.{parameters_at, result_at}
use Rattle.cerco_middle.specs.Cminor.WellFormed as cm
use Rattle.cerco_middle.specs.RtLabs.Graphs.{RtFunction, callees_at, callees_of}
use Rattle.cerco_middle.specs.RtLabs.WellFormed as rt
use Rattle.rtlabs_gen.specs.Translation.{translated_function, translated}
use Rattle.rtlabs_gen.proofs.Certificate.{IsCertified}
use Rattle.rtlabs_gen.proofs.Certified.{handed, function_certified}
use Rattle.rtlabs_gen.proofs.LabelCounts.{labels_numbered}
use Rattle.rtlabs_gen.proofs.NodeFits.{CallsIn, calls_in, NodeFits, body_fits, callees_hold}
use Rattle.rtlabs_gen.proofs.Paths.{translated_from, MeetsCall, HasResult, arguments_meet, arguments_taken, results_follow, written_before}

-- ---- what a call is handed

handed_all : (hs : List Held) (first : ℕ) (es : List CmExpr) → length hs ≤ length es → handed hs first es ≡ arguments_from first hs
handed_all [] first es enough = refl
handed_all (h ∷ hs) first [] enough = absurd (omega (arith, enough))
handed_all (h ∷ hs) first (e ∷ es) enough = ap (λ l. record { held = h; first_byte = first } ∷ l) (handed_all hs (first + held_bytes h) es (omega (arith, enough)))

few_parameters : (f : CmFunction) → length (held_parameters f) ≤ f.params
few_parameters f = omega (arith, length-take f.params f.held)

-- ---- calls in a statement name functions below a number

mutual
  below_in : (n : ℕ) (s : CmStmt) → cm.OfStmts (cm.CallsBelow n) s → cm.OfStmts (CallsIn (λ g. g < n)) s
  below_in n (Seq statements) h = (tt, all_below_in n statements h.1)
  below_in n (Call target g es after) h = h
  below_in n (If c on_true a on_false b) h = (tt, below_in n a h.1, below_in n b h.2)
  below_in n (Loop c body_label body step exit_label) h = (tt, below_in n body h.1, below_in n step h.2)
  below_in n (Do body c repeat_label exit_label) h = (tt, below_in n body h.1)
  below_in n _ h = tt

  all_below_in : (n : ℕ) (statements : CmStmts) → cm.OfAll (cm.CallsBelow n) statements → cm.OfAll (CallsIn (λ g. g < n)) statements
  all_below_in n NoStmts h = tt
  all_below_in n (Then earlier s) h = (all_below_in n earlier h.0, below_in n s h.1)

module _ (p : Cminor) (formed : cm.IsWellFormed p) where
  meets : (target : Option ℕ) (g : ℕ) (es : List CmExpr) (after : Label) → cm.CallFits p (Call target g es after) → MeetsCall p.functions g (handed (parameters_at (slice_get p.functions g)) 0 es)
  meets target g es after fits callee is =
      let many = (fits callee is).0 in
      let few = few_parameters callee in
      ap (λ c. handed (parameters_at c) 0 es) is ∙ handed_all (held_parameters callee) 0 es (omega arith)

  has : (g : ℕ) (h : Held) → result_at (slice_get p.functions g) ≡ Some h → HasResult p.functions g h
  has g h e = by (slice_get p.functions g) refl e
    where
      by : (c : Option CmFunction) → slice_get p.functions g ≡ c → result_at c ≡ Some h → HasResult p.functions g h
      by None is e' = absurd (none_some e')
        where
          none_some : None ≡ Some h → ⊥
          none_some e = cc
      by (Some c) is e' = (c, is, e')

  few : (g : ℕ) → all_held_bytes (parameters_at (slice_get p.functions g)) ≤ 12
  few g = by (slice_get p.functions g) refl
    where
      by : (c : Option CmFunction) → slice_get p.functions g ≡ c → all_held_bytes (parameters_at c) ≤ 12
      by None is = omega arith
      by (Some c) is = (formed.functions g c is).parameters_are_few

  -- a caller of each function that the function with number i calls is known
  abbrev Known : ℕ → ℕ → Type 0
  Known i callee = (j : ℕ) (entry : Called) → slice_get p.calls j ≡ Some entry → entry.function ≡ callee → Contains entry.callers i

  module _ (i : ℕ) (f : CmFunction) (is : slice_get p.functions i ≡ Some f) where
    of : cm.IsWellFormedFunction p f
    of = formed.functions i f is

    certificate : IsCertified (MeetsCall p.functions) (HasResult p.functions) (translated_function p.functions f).nodes (translated_function p.functions f).entry
    certificate = function_certified (MeetsCall p.functions) (HasResult p.functions) p.functions has (cm.CallFits p) meets f of.calls_fit

    known : cm.OfStmts (CallsIn (Known i)) f.body
    known = calls_in (Known i) f.body [] (formed.calls_are_known.callers i f is)

    below : cm.OfStmts (CallsIn (λ g. g < length p.functions)) f.body
    below = below_in (length p.functions) f.body (formed.functions_exist.1 i f is)

    fits : (at : ℕ) (n : _) → slice_get (translated_function p.functions f).nodes at ≡ Some n → NodeFits (length f.held) (λ g. g < length p.functions) (Known i) f.result n.op n.next
    fits = body_fits p.functions few (length f.held) (λ g. g < length p.functions) (Known i) f of.variables_exist.1 below known of.returns_fit

    function_formed : rt.IsWellFormedFunction (translated p) (translated_function p.functions f)
    function_formed =
        let c = certificate in
        let g = translated_function p.functions f in
        record {
          variables_exist = (of.variables_exist.0, λ at node found x named. (fits at node found).variables x named);
          nodes_exist = (c.below, λ at node found q next. ((c.sure.each at node found).edges q next).below);
          parameters_are_few = of.parameters_are_few;
          paths_go_on = λ at node found. (fits at node found).goes_on;
          returns_fit = λ at node found. (fits at node found).returns;
          arguments_meet_calls = arguments_meet p g c;
          arguments_are_taken = arguments_taken p g c;
          arguments_are_within_twelve = λ at node found. (fits at node found).within;
          results_follow_calls = results_follow p g c;
          written_before_use = written_before p g c;
        }

  -- what holds of what each function becomes holds of each function of the result
  of_each : (Holds : ℕ → RtFunction → Type 0) → ((i : ℕ) (f : CmFunction) → slice_get p.functions i ≡ Some f → Holds i (translated_function p.functions f)) → (i : ℕ) (g : RtFunction) → slice_get (translated p).functions i ≡ Some g → Holds i g
  of_each Holds all i g is =
      let from = translated_from p.functions p.functions i g is in
      subst (Holds i) from.2 (all i from.0 from.1)

  same_count : length (translated p).functions ≡ length p.functions
  same_count = length-map p.functions (translated_function p.functions)

  pub translation_formed : rt.IsWellFormed (translated p)
  translation_formed = record {
    functions_exist = (
      subst (λ n. p.main < n) (sym same_count) formed.functions_exist.0,
      of_each (λ i g. rt.OfNodes g (λ at node. (callee : ℕ) → In callee (callees_at node.op) → callee < length (translated p).functions)) (λ i f is at node found callee named. subst (λ n. callee < n) (sym same_count) ((fits i f is at node found).callees callee named)),
    );
    calls_are_known = record {
      functions = subst (λ n. HoldsFunctions p.calls n) (sym same_count) formed.calls_are_known.functions;
      callers = of_each (λ i g. KnowsCallers p.calls i (callees_of g.nodes)) (λ i f is. callees_hold (Known i) (translated_function p.functions f).nodes (λ at node found. (fits i f is at node found).known));
    };
    main_is_plain = λ g is. of_each (λ i g. i ≡ p.main → (g.params ≡ 0) × (g.result ≡ None)) (λ i f is main. formed.main_is_plain f (ap (slice_get p.functions) (sym main) ∙ is)) p.main g is refl;
    labels_are_numbered = labels_numbered p.functions formed.labels_are_numbered;
    starts_with_bytes = formed.starts_with_bytes;
    functions = of_each (λ i g. rt.IsWellFormedFunction (translated p) g) function_formed;
  }
