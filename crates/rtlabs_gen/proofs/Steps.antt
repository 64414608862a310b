-- Each step of Cminor within bounds is matched by a run of RTLabs within the same bounds.
use Rattle.std.proofs.Common.{◌+◌, ◌≡◌, ℕ, zero, suc, ◌<◌, ◌≤◌, List, [], ◌∷◌, length, Option, Some, None, map, refl, sym, ap, ◌∙◌, subst, arith}
use Rattle.std.specs.Prelude.{slice_get, option_map}
use Rattle.std.proofs.lemmas.Option.{slice_get-map}
use Rattle.cerco_base.specs.declared.events.Label.{Label}
use Rattle.cerco_base.specs.declared.events.Event.TheVariants as event
use Rattle.cerco_base.specs.declared.events.Port.TheVariants.{P1}
use Rattle.cerco_base.specs.Events.{next_reading}
use Rattle.cerco_traces.specs.Systems.{EachWithin, IsWithin, Run, here}
use Rattle.cerco_traces.specs.Worlds.{World, update, shown, after_reading}
use Rattle.cerco_traces.proofs.Simulation.{joined, each_front, each_back}
use Rattle.cerco_traces.proofs.WorldLaws.{update_same}
use Rattle.cerco_middle.specs.declared.operators.Held.{Held}
use Rattle.cerco_middle.specs.declared.rtlabs.RtOp.{RtOp}
use Rattle.cerco_middle.specs.declared.rtlabs.RtOp.TheVariants as o
use Rattle.cerco_middle.specs.declared.rtlabs.RtNode.{RtNode}
use Rattle.cerco_middle.specs.Operators.{held_bytes, as_word, kept, held_in, held_addresses, low_byte, branch}
use Rattle.cerco_middle.specs.Calls.{Values, all_zero, handed_over, assigned, returned}
use Rattle.cerco_middle.specs.Cminor.Trees.{CmExpr, CmCond, Test, Not, Both, Either, CmStmt, Seq, Set, Store, ReadPort, WritePort, Call, If, Loop, Do, Break, Continue, Return, CmStmts, NoStmts, Then, CmFunction, Cminor, held_parameters}
use Rattle.cerco_middle.specs.Cminor.Sums.{parameters_at, result_at}
use Rattle.cerco_middle.specs.Cminor.Meaning.{value, values, reads, all_reads, Work, Done, Execute, ExecuteAll, Pass, Take, Check, Step, Turn, Again, broken, continued, CmCall, CmState, left_to_do, taken, called, returns, stmt_step, all_step, check_step, turn_step, work_step, step, stmt_touched, check_touched, work_touched, cminor}
use Rattle.cerco_middle.specs.RtLabs.Graphs.{RtFunction}
use Rattle.cerco_middle.specs.RtLabs.Meaning.{RtCall, RtState, at_node, op_step, op_touched, rtlabs}
use Rattle.cerco_middle.specs.RtLabs.Meaning as graphs
use Rattle.rtlabs_gen.specs.Stands.{At, AtLast, ExprStands, ArgumentsStand, CondStandsIfAny, TakingStands, CallStands, ReturnStands, EndStands, FunctionStands}
use Rattle.rtlabs_gen.proofs.Evaluated.{one_node, Gives, expr_runs}
use Rattle.rtlabs_gen.proofs.Related.{Leads, Link, function_of, program_of, AllLinked, calls_of, state_of, same_length, After}

-- ---- breaks and continues

module _ (fs : List CmFunction) (G : List RtNode) (end : ℕ) where
  break_leads : (w : Work) (m on_break on_continue : ℕ) → Leads fs G end w m on_break on_continue → (b c : ℕ) × Leads fs G end (broken w) on_break b c
  break_leads Done m on_break on_continue h = (end, end, (h.1, refl, refl))
  break_leads (Execute s w) m on_break on_continue h = (on_break, on_continue, (h.0, refl, h.2))
  break_leads (ExecuteAll statements w) m on_break on_continue h = (on_break, on_continue, (h.0, refl, h.2))
  break_leads (Pass l w) m on_break on_continue h = (on_break, on_continue, (h.0, refl, h.2))
  break_leads (Take held x w) m on_break on_continue h = (on_break, on_continue, (h.0, refl, h.4))
  break_leads (Check c one other) m on_break on_continue h = (on_break, on_continue, (m, refl, h))
  break_leads (Step c l body step n w) m on_break on_continue h = (h.3, h.4, (h.2, h.5.1, h.6))
  break_leads (Turn c l body step n w) m on_break on_continue h = (h.3, h.4, (h.2, h.5.1, h.6))
  break_leads (Again c l body n w) m on_break on_continue h = (h.3, h.4, (h.2, h.5, h.9))

  continue_leads : (w : Work) (m on_break on_continue : ℕ) → Leads fs G end w m on_break on_continue → (b c : ℕ) × Leads fs G end (continued w) on_continue b c
  continue_leads Done m on_break on_continue h = (end, end, (h.2, refl, refl))
  continue_leads (Execute s w) m on_break on_continue h = (on_break, on_continue, (h.0, refl, h.2))
  continue_leads (ExecuteAll statements w) m on_break on_continue h = (on_break, on_continue, (h.0, refl, h.2))
  continue_leads (Pass l w) m on_break on_continue h = (on_break, on_continue, (h.0, refl, h.2))
  continue_leads (Take held x w) m on_break on_continue h = (on_break, on_continue, (h.0, refl, h.4))
  continue_leads (Check c one other) m on_break on_continue h = (on_break, on_continue, (m, refl, h))
  continue_leads (Step c l body step n w) m on_break on_continue h =
      (on_break, on_continue, subst (λ p. Leads fs G end (Step c l body step n w) p on_break on_continue) (sym h.7) h)
  continue_leads (Turn c l body step n w) m on_break on_continue h =
      (on_break, on_continue, subst (λ p. Leads fs G end (Turn c l body step n w) p on_break on_continue) (sym h.7) h)
  continue_leads (Again c l body n w) m on_break on_continue h =
      (on_break, on_continue, subst (λ p. Leads fs G end (Again c l body n w) p on_break on_continue) (sym h.10) h)

  -- the result of a call is taken where there is one, and a target
  taking_leads : (result : Option Held) (target : Option ℕ) (w : Work) (i next b c : ℕ) → TakingStands G result target i next → Leads fs G end w next b c → Leads fs G end (taken result target w) i b c
  taking_leads (Some h) (Some x) w i next b c t leads = (next, t.0, t.2, t.1, leads)
  taking_leads None target w i next b c t leads = subst (λ n. Leads fs G end w n b c) (sym t) leads
  taking_leads (Some h) None w i next b c t leads = subst (λ n. Leads fs G end w n b c) (sym t) leads

module _ (p : Cminor) (entry_of : CmFunction → ℕ) (nodes_of : CmFunction → List RtNode) (stands : (f : CmFunction) → FunctionStands p.functions f (entry_of f) (nodes_of f)) (d : ℕ) where
  -- ---- the step of the running call f, above other calls

  module _ (f : CmFunction) (vs : Values) (cs : List CmCall) (r : ℕ) (w : World) (k : Link) (ks : List Link) (ends : EndStands (nodes_of f) f.result k.end) (all : AllLinked p entry_of nodes_of cs ks) (few : suc (length (calls_of p entry_of nodes_of cs ks)) ≤ 64) where
    abbrev others : List RtCall
    others = calls_of p entry_of nodes_of cs ks

    abbrev rt : RtFunction
    rt = function_of p entry_of nodes_of f

    abbrev starts : RtState
    starts = at_node rt k.node k.temporaries vs others all_zero r w

    abbrev LeadsHere : Work → ℕ → ℕ → ℕ → Type 0
    LeadsHere = Leads p.functions (nodes_of f) k.end

    abbrev Comes : CmState → Type 0
    Comes x = After p entry_of nodes_of d x starts

    abbrev RunTo : RtState → RtState → Type 0
    RunTo s t = Run (rtlabs (program_of p entry_of nodes_of)) d s t

    -- the running call has come to a node
    arrive : (work : Work) (at : ℕ) (ts vs' : Values) (r' : ℕ) (w' : World) (b c : ℕ) → LeadsHere work at b c → RunTo starts (at_node rt at ts vs' others all_zero r' w') → Comes (left_to_do f work vs' cs r' w')
    arrive work at ts vs' r' w' b c leads run = record {
      links = (record { node = at; temporaries = ts; on_break = b; on_continue = c; end = k.end }) ∷ ks;
      all = (record { ends = ends; leads = leads }, all);
      run = run;
    }

    -- no step of RTLabs
    stay : (work : Work) (b c : ℕ) → LeadsHere work k.node b c → Comes (left_to_do f work vs cs r w)
    stay work b c leads = arrive work k.node k.temporaries vs r w b c leads (here _)

    run_expr : (e : CmExpr) (t at next : ℕ) (ts slots : Values) → ExprStands (nodes_of f) e t at next → EachWithin d (reads e vs w) → Gives (program_of p entry_of nodes_of) d rt vs others few slots r w at next t (value e vs w) ts
    run_expr e t at next ts slots = expr_runs (program_of p entry_of nodes_of) d rt vs others few slots r w e t at next ts

    -- one node, after which the same calls are open
    node : (at : ℕ) (op : RtOp) (next : Option ℕ) (ts vs1 slots1 : Values) (r1 : ℕ) (w1 : World) (at2 : ℕ) (ts2 vs2 slots2 : Values) (r2 : ℕ) (w2 : World) → slice_get (nodes_of f) at ≡ Some (record { op = op; next = next }) → EachWithin d (op_touched op ts)
        → op_step (map (function_of p entry_of nodes_of) p.functions) op next (at_node rt at ts vs1 others slots1 r1 w1) rt ts vs1 others slots1 r1 w1 ≡ at_node rt at2 ts2 vs2 others slots2 r2 w2
        → RunTo (at_node rt at ts vs1 others slots1 r1 w1) (at_node rt at2 ts2 vs2 others slots2 r2 w2)
    node at op next ts vs1 slots1 r1 w1 at2 ts2 vs2 slots2 r2 w2 found ok e = one_node (program_of p entry_of nodes_of) d rt at op next ts vs1 others slots1 r1 w1 _ found ok e few

    -- ---- calls

    arguments_run : (hs : List Held) (first : ℕ) (es : List CmExpr) (at next : ℕ) (ts slots : Values) → ArgumentsStand (nodes_of f) hs first es at next → EachWithin d (all_reads es vs w)
        → (ts' : Values) × RunTo (at_node rt at ts vs others slots r w) (at_node rt next ts' vs others (handed_over hs first (values es vs w) slots) r w)
    arguments_run [] first es at next ts slots b ok = (ts, subst (λ n. RunTo (at_node rt at ts vs others slots r w) (at_node rt n ts vs others slots r w)) b (here _))
    arguments_run (h ∷ hs) first [] at next ts slots b ok = (ts, subst (λ n. RunTo (at_node rt at ts vs others slots r w) (at_node rt n ts vs others slots r w)) b (here _))
    arguments_run (h ∷ hs) first (e ∷ es) at next ts slots b ok =
        let g = run_expr e 0 at b.0 ts slots b.4 (each_front d (reads e vs w) _ ok) in
        let slots' = update slots first (kept h (value e vs w)) in
        let handed = node b.0 (o.Arg h first 0) (Some b.1) g.after vs slots r w b.1 g.after vs slots' r w b.2 tt (ap (λ z. at_node rt b.1 g.after vs others (update slots first (kept h z)) r w) g.value_is) in
        let more = arguments_run hs (first + held_bytes h) es b.1 next g.after slots' b.3 (each_back d (reads e vs w) _ ok) in
        (more.0, joined g.run (joined handed more.1))

    call_runs : (g : ℕ) (callee : Option CmFunction) → slice_get p.functions g ≡ callee → (target : Option ℕ) (es : List CmExpr) (after : Label) (work : Work) (next b c : ℕ) → CallStands (nodes_of f) (parameters_at callee) (result_at callee) target g es after k.node next → LeadsHere work next b c → EachWithin d (all_reads es vs w)
        → (stays : CmState) → Comes stays → length (called callee (values es vs w) target after stays f work vs cs r w).calls ≤ 64 → Comes (called callee (values es vs w) target after stays f work vs cs r w)
    call_runs g None is target es after work next b c stand leads ok stays stayed fits = stayed
    call_runs g (Some h) is target es after work next b c stand leads ok stays stayed fits =
        let hands = arguments_run (held_parameters h) 0 es k.node stand.2 k.temporaries all_zero stand.6 ok in
        let slots : Values = handed_over (held_parameters h) 0 (values es vs w) all_zero in
        let s = stands h in
        let caller : Link = record { node = stand.1; temporaries = hands.0; on_break = b; on_continue = c; end = k.end } in
        let callee : Link = record { node = entry_of h; temporaries = all_zero; on_break = s.end; on_continue = s.end; end = s.end } in
        let y : RtState = state_of p entry_of nodes_of (called (Some h) (values es vs w) target after stays f work vs cs r w) (callee ∷ caller ∷ ks) in
        let many : length y.calls ≤ 64 = subst (λ z. suc (suc z) ≤ 64) (sym (same_length p entry_of nodes_of cs ks all)) fits in
        let found : slice_get (map (function_of p entry_of nodes_of) p.functions) g ≡ Some (function_of p entry_of nodes_of h) = slice_get-map (function_of p entry_of nodes_of) p.functions g ∙ ap (option_map (function_of p entry_of nodes_of)) is in
        record {
          links = callee ∷ caller ∷ ks;
          all = (
            record { ends = s.end_is; leads = (s.first, s.entry_is, (s.end, s.body_is, (refl, refl, refl))) },
            (record { ends = ends; leads = (stand.0, stand.4, taking_leads p.functions (nodes_of f) k.end h.result target work stand.0 next b c stand.3 leads) }, all),
          );
          run = joined hands.1 (one_node (program_of p entry_of nodes_of) d rt stand.2 (o.Call g) (Some stand.1) hands.0 vs others slots r w y stand.5 tt (ap (λ z. graphs.called z (Some stand.1) (at_node rt stand.2 hands.0 vs others slots r w) rt hands.0 vs others slots r w) found) many);
        }

    -- ---- returns

    -- the call has returned
    gone : (r' : ℕ) → RunTo starts (record { calls = others; slots = all_zero; result = r'; world = w }) → Comes (record { calls = cs; result = r'; world = w })
    gone r' run = record { links = ks; all = all; run = run }

    fewer : length others ≤ 64
    fewer = omega arith

    -- the end of the function
    end_runs : (result : Option Held) → f.result ≡ result → EndStands (nodes_of f) result k.end → k.node ≡ k.end → Comes (record { calls = cs; result = returned f.result 0 r; world = w })
    end_runs None is stand at_end =
        let y : RtState = record { calls = others; slots = all_zero; result = r; world = w } in
        let found : AtLast (nodes_of f) k.node o.Return = subst (λ n. AtLast (nodes_of f) n o.Return) (sym at_end) stand in
        let same : returned f.result 0 r ≡ r = ap (λ z. returned z 0 r) is in
        subst (λ z. Comes (record { calls = cs; result = z; world = w })) (sym same) (gone r (one_node (program_of p entry_of nodes_of) d rt k.node o.Return None k.temporaries vs others all_zero r w y found tt refl fewer))
    end_runs (Some h) is stand at_end =
        let ts : Values = update k.temporaries 0 (as_word 0) in
        let y : RtState = record { calls = others; slots = all_zero; result = returned f.result 0 r; world = w } in
        let found : At (nodes_of f) k.node (o.Const 0 0) stand.0 = subst (λ n. At (nodes_of f) n (o.Const 0 0) stand.0) (sym at_end) stand.2 in
        let zero_is : ts 0 ≡ 0 = update_same k.temporaries 0 0 (as_word 0) refl in
        let sets = node k.node (o.Const 0 0) (Some stand.0) k.temporaries vs all_zero r w stand.0 ts vs all_zero r w found tt refl in
        gone _ (joined sets (one_node (program_of p entry_of nodes_of) d rt stand.0 (o.ReturnValue 0) None ts vs others all_zero r w y stand.1 tt (ap (λ (z : ℕ). record { calls = others; slots = all_zero; result = returned f.result z r; world = w }) zero_is) fewer))

    return_runs : (e : Option CmExpr) → ReturnStands (nodes_of f) k.end e k.node → EachWithin d (stmt_touched (Return e) vs w) → Comes (returns f e vs cs r w)
    return_runs None stand ok = end_runs f.result refl ends stand
    return_runs (Some e) stand ok =
        let g = run_expr e 0 k.node stand.0 k.temporaries all_zero stand.2 ok in
        let y : RtState = record { calls = others; slots = all_zero; result = returned f.result (value e vs w) r; world = w } in
        gone _ (joined g.run (one_node (program_of p entry_of nodes_of) d rt stand.0 (o.ReturnValue 0) None g.after vs others all_zero r w y stand.1 tt (ap (λ (z : ℕ). record { calls = others; slots = all_zero; result = returned f.result z r; world = w }) g.value_is) fewer))

    -- ---- statements

    stmt_runs : (s : CmStmt) (work : Work) → LeadsHere (Execute s work) k.node k.on_break k.on_continue → EachWithin d (stmt_touched s vs w) → length (stmt_step p.functions s work f vs cs r w).calls ≤ 64 → Comes (stmt_step p.functions s work f vs cs r w)
    stmt_runs (Seq statements) work h ok fits = stay (ExecuteAll statements work) k.on_break k.on_continue h
    stmt_runs (Set x e) work h ok fits =
        let g = run_expr e 0 k.node h.1.0 k.temporaries all_zero h.1.2 ok in
        let put = node h.1.0 (o.Put x 0) (Some h.0) g.after vs all_zero r w h.0 g.after (assigned f.held x (value e vs w) vs) all_zero r w h.1.1 tt (ap (λ z. at_node rt h.0 g.after (assigned f.held x z vs) others all_zero r w) g.value_is) in
        arrive work h.0 g.after _ r w k.on_break k.on_continue h.2 (joined g.run put)
    stmt_runs (Store held a e) work h ok fits =
        let g = run_expr a 0 k.node h.1.1 k.temporaries all_zero h.1.4 (each_front d (reads a vs w) _ ok) in
        let ok' = each_back d (reads a vs w) _ ok in
        let g' = run_expr e 1 h.1.1 h.1.0 g.after all_zero h.1.3 (each_front d (reads e vs w) _ ok') in
        let low : 0 < 1 = omega arith in
        let place = g'.same 0 low ∙ g.value_is in
        let in_range = subst (λ z. EachWithin d (held_addresses held z)) (sym place) (each_back d (reads e vs w) _ ok') in
        let w' : World = held_in held w (value a vs w) (value e vs w) in
        let same_world : held_in held w (g'.after 0) (g'.after 1) ≡ w' = ap (λ z. held_in held w z (g'.after 1)) place ∙ ap (held_in held w (value a vs w)) g'.value_is in
        let store = node h.1.0 (o.Store held 0 1) (Some h.0) g'.after vs all_zero r w h.0 g'.after vs all_zero r w' h.1.2 in_range (ap (λ z. at_node rt h.0 g'.after vs others all_zero r z) same_world) in
        arrive work h.0 g'.after vs r w' k.on_break k.on_continue h.2 (joined (joined g.run g'.run) store)
    stmt_runs (ReadPort x) work h ok fits =
        let v = next_reading w.script in
        let ts1 : Values = update k.temporaries 0 v in
        let got = node k.node (o.ReadPort 0) (Some h.1.0) k.temporaries vs all_zero r w h.1.0 ts1 vs all_zero r (after_reading w) h.1.2 tt refl in
        let put = node h.1.0 (o.Put x 0) (Some h.0) ts1 vs all_zero r (after_reading w) h.0 ts1 (assigned f.held x v vs) all_zero r (after_reading w) h.1.1 tt (ap (λ z. at_node rt h.0 ts1 (assigned f.held x z vs) others all_zero r (after_reading w)) (update_same k.temporaries 0 0 v refl)) in
        arrive work h.0 ts1 _ r (after_reading w) k.on_break k.on_continue h.2 (joined got put)
    stmt_runs (WritePort e) work h ok fits =
        let g = run_expr e 0 k.node h.1.0 k.temporaries all_zero h.1.2 ok in
        let w' = shown (event.Write P1 (low_byte (value e vs w))) w in
        let write = node h.1.0 (o.WritePort 0) (Some h.0) g.after vs all_zero r w h.0 g.after vs all_zero r w' h.1.1 tt (ap (λ z. at_node rt h.0 g.after vs others all_zero r (shown (event.Write P1 (low_byte z)) w)) g.value_is) in
        arrive work h.0 g.after vs r w' k.on_break k.on_continue h.2 (joined g.run write)
    stmt_runs (Call target g es after) work h ok fits =
        let stays = left_to_do f (Execute (Call target g es after) work) vs cs r w in
        call_runs g (slice_get p.functions g) refl target es after work h.0 k.on_break k.on_continue h.1 h.2 ok stays (stay (Execute (Call target g es after) work) k.on_break k.on_continue h) fits
    stmt_runs (If c on_true a on_false b) work h ok fits =
        stay (Check c (Pass on_true (Execute a work)) (Pass on_false (Execute b work))) k.on_break k.on_continue
        (h.1.0, h.1.2, k.on_break, k.on_continue, k.on_break, k.on_continue, h.1.8, (h.1.1, h.1.4, (h.0, h.1.5, h.2)), (h.1.3, h.1.6, (h.0, h.1.7, h.2)))
    stmt_runs (Loop c l body step m) work h ok fits =
        stay (Turn c l body step m work) h.1.2 k.node
        (h.1.3, h.1.0, h.0, k.on_break, k.on_continue, (h.1.1, h.1.4, h.1.5, h.1.6, h.1.7, h.1.8), h.2, refl)
    stmt_runs (Do body c l m) work h ok fits =
        stay (Execute body (Again c l body m work)) h.1.2 h.1.1
        (h.1.1, h.1.5, (h.1.0, k.node, h.0, k.on_break, k.on_continue, h.1.3, h.1.4, h.1.5, h.1.6, h.2, refl))
    stmt_runs Break work h ok fits =
        let a = break_leads p.functions (nodes_of f) k.end work h.0 k.on_break k.on_continue h.2 in
        stay (broken work) a.0 a.1 (subst (λ n. LeadsHere (broken work) n a.0 a.1) (sym h.1) a.2)
    stmt_runs Continue work h ok fits =
        let a = continue_leads p.functions (nodes_of f) k.end work h.0 k.on_break k.on_continue h.2 in
        stay (continued work) a.0 a.1 (subst (λ n. LeadsHere (continued work) n a.0 a.1) (sym h.1) a.2)
    stmt_runs (Return e) work h ok fits = return_runs e h.1 ok

    -- ---- the rest of what may be left to do

    choice : (v : ℕ) (one other : Work) (i j b1 c1 b2 c2 : ℕ) (ts : Values) → LeadsHere one i b1 c1 → LeadsHere other j b2 c2 → RunTo starts (at_node rt (branch v i j) ts vs others all_zero r w) → Comes (left_to_do f (branch v one other) vs cs r w)
    choice zero one other i j b1 c1 b2 c2 ts one_leads other_leads run = arrive other j ts vs r w b2 c2 other_leads run
    choice (suc n) one other i j b1 c1 b2 c2 ts one_leads other_leads run = arrive one i ts vs r w b1 c1 one_leads run

    check_runs : (c : CmCond) (one other : Work) → LeadsHere (Check c one other) k.node k.on_break k.on_continue → EachWithin d (check_touched c vs w) → Comes (check_step c one other f vs cs r w)
    check_runs (Test e) one other h ok =
        let g = run_expr e 0 k.node h.6.0 k.temporaries all_zero h.6.2 ok in
        let v = value e vs w in
        let test = node h.6.0 (o.Test 0 h.0 h.1) None g.after vs all_zero r w (branch v h.0 h.1) g.after vs all_zero r w h.6.1 tt (ap (λ z. at_node rt (branch z h.0 h.1) g.after vs others all_zero r w) g.value_is) in
        choice v one other h.0 h.1 h.2 h.3 h.4 h.5 g.after h.7 h.8 (joined g.run test)
    check_runs (Not c) one other h ok = stay (Check c other one) k.on_break k.on_continue (h.1, h.0, h.4, h.5, h.2, h.3, h.6, h.8, h.7)
    check_runs (Both a l m b) one other h ok =
        stay (Check a (Pass l (Check b one other)) (Pass m other)) k.on_break k.on_continue
        (h.6.0, h.6.2, 0, 0, h.4, h.5, h.6.6, (h.6.1, h.6.3, (h.0, h.1, h.2, h.3, h.4, h.5, h.6.5, h.7, h.8)), (h.1, h.6.4, h.8))
    check_runs (Either a l m b) one other h ok =
        stay (Check a (Pass l one) (Pass m (Check b one other))) k.on_break k.on_continue
        (h.6.0, h.6.2, h.2, h.3, 0, 0, h.6.6, (h.0, h.6.3, h.7), (h.6.1, h.6.4, (h.0, h.1, h.2, h.3, h.4, h.5, h.6.5, h.7, h.8)))

    all_runs : (statements : CmStmts) (work : Work) → LeadsHere (ExecuteAll statements work) k.node k.on_break k.on_continue → Comes (left_to_do f (all_step statements work) vs cs r w)
    all_runs NoStmts work h = stay work k.on_break k.on_continue (subst (λ n. LeadsHere work n k.on_break k.on_continue) (sym h.1) h.2)
    all_runs (Then earlier s) work h = stay (ExecuteAll earlier (Execute s work)) k.on_break k.on_continue (h.1.0, h.1.1, (h.0, h.1.2, h.2))

    turn_runs : (c : Option CmCond) (one other : Work) (i j b1 c1 b2 c2 : ℕ) → CondStandsIfAny (nodes_of f) c k.node i j → LeadsHere one i b1 c1 → LeadsHere other j b2 c2 → Comes (left_to_do f (turn_step c one other) vs cs r w)
    turn_runs None one other i j b1 c1 b2 c2 stand one_leads other_leads = stay one b1 c1 (subst (λ n. LeadsHere one n b1 c1) (sym stand) one_leads)
    turn_runs (Some c) one other i j b1 c1 b2 c2 stand one_leads other_leads = stay (Check c one other) 0 0 (i, j, b1, c1, b2, c2, stand, one_leads, other_leads)

    work_runs : (work : Work) → LeadsHere work k.node k.on_break k.on_continue → EachWithin d (work_touched work vs w) → length (work_step p.functions work f vs cs r w).calls ≤ 64 → Comes (work_step p.functions work f vs cs r w)
    work_runs Done h ok fits = end_runs f.result refl ends h.0
    work_runs (Execute s work) h ok fits = stmt_runs s work h ok fits
    work_runs (ExecuteAll statements work) h ok fits = all_runs statements work h
    work_runs (Pass l work) h ok fits =
        let w' = shown (event.Label l) w in
        arrive work h.0 k.temporaries vs r w' k.on_break k.on_continue h.2 (node k.node (o.Label l) (Some h.0) k.temporaries vs all_zero r w h.0 k.temporaries vs all_zero r w' h.1 tt refl)
    work_runs (Take held x work) h ok fits =
        let ts1 : Values = update k.temporaries 0 (kept held r) in
        let got = node k.node (o.Result held 0) (Some h.1) k.temporaries vs all_zero r w h.1 ts1 vs all_zero r w h.2 tt refl in
        let put = node h.1 (o.Put x 0) (Some h.0) ts1 vs all_zero r w h.0 ts1 (assigned f.held x (kept held r) vs) all_zero r w h.3 tt (ap (λ z. at_node rt h.0 ts1 (assigned f.held x z vs) others all_zero r w) (update_same k.temporaries 0 0 (kept held r) refl)) in
        arrive work h.0 ts1 _ r w k.on_break k.on_continue h.4 (joined got put)
    work_runs (Check c one other) h ok fits = check_runs c one other h ok
    work_runs (Step c l body step m work) h ok fits =
        stay (Execute step (Turn c l body step m work)) k.on_break h.0
        (h.0, h.5.4, (k.node, h.1, h.2, h.3, h.4, h.5, h.6, refl))
    work_runs (Turn c l body step m work) h ok fits =
        turn_runs c (Pass l (Execute body (Step c l body step m work))) (Pass m work) h.1 k.on_break k.on_break h.0 h.3 h.4 h.5.5
        (h.5.0, h.5.2, (h.0, h.5.3, (k.node, h.1, h.2, h.3, h.4, h.5, h.6, refl)))
        (h.2, h.5.1, h.6)
    work_runs (Again c l body m work) h ok fits =
        stay (Check c (Pass l (Execute body (Again c l body m work))) (Pass m work)) 0 0
        (h.0, k.on_break, k.on_break, k.node, h.3, h.4, h.8, (h.1, h.6, (k.node, h.7, (h.0, h.1, h.2, h.3, h.4, h.5, h.6, h.7, h.8, h.9, refl))), (h.2, h.5, h.9))

  -- ---- a step of any state

  pub step_runs : (calls : List CmCall) (r : ℕ) (w : World) (ks : List Link) → AllLinked p entry_of nodes_of calls ks → length calls ≤ 64 → IsWithin (cminor p) d (record { calls = calls; result = r; world = w })
      → After p entry_of nodes_of d (step p.functions calls (record { calls = calls; result = r; world = w })) (state_of p entry_of nodes_of (record { calls = calls; result = r; world = w }) ks)
  step_runs [] r w ks all few within = record { links = ks; all = all; run = here _ }
  step_runs (c ∷ cs) r w [] all few within = absurd all
  step_runs (c ∷ cs) r w (k ∷ ks) all few within =
      let few' : suc (length (calls_of p entry_of nodes_of cs ks)) ≤ 64 = subst (λ z. suc z ≤ 64) (sym (same_length p entry_of nodes_of cs ks all.1)) few in
      work_runs c.of c.variables cs r w k ks all.0.ends all.1 few' c.work all.0.leads within.bytes within.calls
