-- A small graph with a call that is soundly labelled, and two that aren't: a loop without a label, and a test whose arms are none.
use Rattle.std.proofs.Common.{◌≡◌, ℕ, zero, suc, ◌<◌, [], ◌∷◌, Some, inl, inr, refl, sym, subst, arith}
use Rattle.cerco_traces.specs.LabelledGraphs.{BranchNode, CallNode, LeadsTo, IsLabelNode, UnlabelledPath, edge, longer}
use Rattle.rtl.specs.declared.graphs.Exit.TheVariants.{Next, Test}
use Rattle.rtl.specs.Programs.{Graph}
use Rattle.rtl.specs.Graphs.{flow_of, IsSoundlyLabelled}
use Rattle.rtl.proofs.Samples.{node}
use Rattle.rtl.proofs.ConventionExamples.{main_graph}

-- no node is a branch
no_branch : (p a b : ℕ) → flow_of main_graph p ≡ Some (BranchNode a b) → ⊥
no_branch zero a b e = cc
no_branch (suc zero) a b e = cc
no_branch (suc (suc zero)) a b e = cc
no_branch (suc (suc (suc zero))) a b e = cc
no_branch (suc (suc (suc (suc p)))) a b e = cc

-- the call goes on at node 2
call_next : (p next : ℕ) → flow_of main_graph p ≡ Some (CallNode (Some next)) → (p ≡ 1) × (next ≡ 2)
call_next zero next e = absurd cc
call_next (suc zero) next e = (refl, cc)
call_next (suc (suc zero)) next e = absurd cc
call_next (suc (suc (suc zero))) next e = absurd cc
call_next (suc (suc (suc (suc p)))) next e = absurd cc

-- where each node leads to
leads : (p q : ℕ) → LeadsTo (flow_of main_graph p) q → q ≡ suc p
leads zero q (inl e) = sym e
leads zero q (inr i) = absurd i
leads (suc zero) q (inl e) = sym e
leads (suc zero) q (inr i) = absurd i
leads (suc (suc zero)) q (inl e) = sym e
leads (suc (suc zero)) q (inr i) = absurd i
leads (suc (suc (suc zero))) q i = absurd i
leads (suc (suc (suc (suc p)))) q i = absurd i

-- each path goes up
goes_up : (p q : ℕ) → UnlabelledPath (flow_of main_graph) p q → p < q
goes_up p q (edge p' q' label lead) = let e = leads p q lead in omega (arith, e)
goes_up p r (longer p' q r' label lead path) =
    let e = leads p q lead in
    let f = goes_up q r path in
    omega (arith, e, f)

main_is : IsSoundlyLabelled main_graph
main_is = record {
  arms = λ p a b e. absurd (no_branch p a b e);
  one_false = λ p q a a' b e e'. absurd (no_branch p a b e);
  after_call = λ p next e. let is = call_next p next e in (subst (λ n. IsLabelNode (flow_of main_graph n)) (sym is.1) tt, λ q lead. let f = leads q next lead in omega (arith, is.0, is.1, f));
  entry_marked = tt;
  entry_alone = λ q lead. let f = leads q 0 lead in omega (arith, f);
  cycles = λ p path. let f = goes_up p p path in omega (arith, f);
}

-- ---- graphs that aren't

abbrev loops : Graph ℕ
loops = record { entry = 0; nodes = node [] (Next 0) ∷ [] }

loop_without_label : IsSoundlyLabelled loops → ⊥
loop_without_label sound = sound.cycles 0 (edge 0 0 (λ label. label) (inl refl))

abbrev tests : Graph ℕ
tests = record { entry = 0; nodes = node [] (Test 24 0 0) ∷ [] }

arms_without_label : IsSoundlyLabelled tests → ⊥
arms_without_label sound = (sound.arms 0 0 0 refl).0
