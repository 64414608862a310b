-- Graphs of the functions of a program of Cminor preserve its traces.
use Rattle.std.proofs.Common.{◌≡◌, IsTrue, ℕ, ◌≤◌, List, [], ◌∷◌, length, Option, Some, None, map, false, true, refl, sym, ap, ◌∙◌, subst, arith}
use Rattle.std.specs.Prelude.{slice_get, option_map}
use Rattle.std.proofs.lemmas.Option.{slice_get-map}
use Rattle.cerco_base.specs.Events.{IsPrefix}
use Rattle.cerco_traces.specs.Systems.{Run, here}
use Rattle.cerco_traces.specs.Preservation.{Preserves}
use Rattle.cerco_traces.specs.Worlds.{World, start_world}
use Rattle.cerco_traces.proofs.Simulation.{prefix_refl, Simulates, simulation_preserves}
use Rattle.cerco_middle.specs.declared.rtlabs.RtNode.{RtNode}
use Rattle.cerco_middle.specs.Calls.{all_zero, is_over}
use Rattle.cerco_middle.specs.Cminor.Trees.{CmFunction, Cminor}
use Rattle.cerco_middle.specs.Cminor.Meaning.{Work, Done, Execute, ExecuteAll, Pass, Take, Check, Step, Turn, Again, CmCall, work_due, due, main_call, step, cminor}
use Rattle.cerco_middle.specs.RtLabs.Meaning.{RtCall, RtState, node_due, rtlabs}
use Rattle.cerco_middle.specs.RtLabs.Meaning as graphs
use Rattle.rtlabs_gen.specs.Stands.{FunctionStands}
use Rattle.rtlabs_gen.specs.Translation.{add_body, translated}
use Rattle.rtlabs_gen.proofs.Grown.{function_stands}
use Rattle.rtlabs_gen.proofs.Related.{Leads, Link, function_of, program_of, AllLinked, calls_of, state_of, Related}
use Rattle.rtlabs_gen.proofs.Steps.{step_runs}

true_false : false ≡ true → ⊥
true_false e = cc

module _ (p : Cminor) (entry_of : CmFunction → ℕ) (nodes_of : CmFunction → List RtNode) (stands : (f : CmFunction) → FunctionStands p.functions f (entry_of f) (nodes_of f)) (d : ℕ) where
  due_too : (calls : List CmCall) (ks : List Link) → AllLinked p entry_of nodes_of calls ks → IsTrue (due calls) → IsTrue (graphs.due (calls_of p entry_of nodes_of calls ks))
  due_too [] ks all is_due = absurd (true_false is_due)
  due_too (c ∷ cs) [] all is_due = absurd all
  due_too (c ∷ cs) (k ∷ ks) all is_due = first c.work all.0.leads is_due
    where
      first : (w : Work) → Leads p.functions (nodes_of c.of) k.end w k.node k.on_break k.on_continue → IsTrue (work_due w) → IsTrue (node_due (slice_get (nodes_of c.of) k.node))
      first (Pass l w) h is_due = ap node_due h.1
      first Done h is_due = absurd (true_false is_due)
      first (Execute s w) h is_due = absurd (true_false is_due)
      first (ExecuteAll statements w) h is_due = absurd (true_false is_due)
      first (Take held x w) h is_due = absurd (true_false is_due)
      first (Check c one other) h is_due = absurd (true_false is_due)
      first (Step c l body step m w) h is_due = absurd (true_false is_due)
      first (Turn c l body step m w) h is_due = absurd (true_false is_due)
      first (Again c l body m w) h is_due = absurd (true_false is_due)

  over_too : (calls : List CmCall) (ks : List Link) → AllLinked p entry_of nodes_of calls ks → IsTrue (is_over calls) → IsTrue (is_over (calls_of p entry_of nodes_of calls ks))
  over_too [] ks all over = refl
  over_too (c ∷ cs) ks all over = absurd (true_false over)

  main_links : (o : Option CmFunction) → (ks : List Link) × AllLinked p entry_of nodes_of (main_call o) ks × (graphs.main_call (option_map (function_of p entry_of nodes_of) o) ≡ calls_of p entry_of nodes_of (main_call o) ks) × (length (main_call o) ≤ 64)
  main_links None = ([], tt, refl, omega arith)
  main_links (Some f) =
      let s = stands f in (
        (record { node = entry_of f; temporaries = all_zero; on_break = s.end; on_continue = s.end; end = s.end }) ∷ [],
        (record { ends = s.end_is; leads = (s.first, s.entry_is, (s.end, s.body_is, (refl, refl, refl))) }, tt),
        refl,
        omega arith,
      )

  simulates : Simulates (cminor p) (rtlabs (program_of p entry_of nodes_of)) d d (Related p entry_of nodes_of)
  simulates = record {
    begins = λ script ok.
        let a = main_links (slice_get p.functions p.main) in
        let w : World = start_world p.start script in
        let found : graphs.main_call (slice_get (map (function_of p entry_of nodes_of) p.functions) p.main) ≡ calls_of p entry_of nodes_of (main_call (slice_get p.functions p.main)) a.0 =
        ap graphs.main_call (slice_get-map (function_of p entry_of nodes_of) p.functions p.main) ∙ a.2 in
        ((rtlabs (program_of p entry_of nodes_of)).start script, here _, record { links = a.0; all = a.1; few = a.3; is = ap (λ (z : List RtCall). record { calls = z; slots = all_zero; result = 0; world = w }) found });
    steps = λ x y rel within.
        let a = step_runs p entry_of nodes_of stands d x.calls x.result x.world rel.links rel.all rel.few within in
        let y' = state_of p entry_of nodes_of (step p.functions x.calls x) a.links in
        (y', subst (λ z. Run (rtlabs (program_of p entry_of nodes_of)) d z y') (sym rel.is) a.run, record { links = a.links; all = a.all; few = within.calls; is = refl });
    ahead = λ x y rel. subst (λ (z : RtState). IsPrefix x.world.made z.world.made) (sym rel.is) (prefix_refl x.world.made);
    stops = λ x y rel is_due. (y, here _, subst (λ (z : RtState). IsTrue (graphs.due z.calls)) (sym rel.is) (due_too x.calls rel.links rel.all is_due), ap (λ (z : RtState). z.world.made) rel.is);
    ends = λ x y rel over. (y, here _, subst (λ (z : RtState). IsTrue (is_over z.calls)) (sym rel.is) (over_too x.calls rel.links rel.all over), ap (λ (z : RtState). z.world.made) rel.is);
  }

pub graphs_preserve : (p : Cminor) (entry_of : CmFunction → ℕ) (nodes_of : CmFunction → List RtNode) → ((f : CmFunction) → FunctionStands p.functions f (entry_of f) (nodes_of f)) → Preserves (cminor p) (rtlabs (program_of p entry_of nodes_of))
graphs_preserve p entry_of nodes_of stands d small =
    simulation_preserves (cminor p) (rtlabs (program_of p entry_of nodes_of)) d d (Related p entry_of nodes_of) (simulates p entry_of nodes_of stands d)

pub translation_preserves : (p : Cminor) → Preserves (cminor p) (rtlabs (translated p))
translation_preserves p = graphs_preserve p (λ f. (add_body p.functions f).entry) (λ f. (add_body p.functions f).nodes) (function_stands p.functions)
