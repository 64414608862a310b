-- A graph stays soundly labelled where plain nodes become labels: so it does where it has fewer operations.
use Rattle.std.proofs.Common.{◌≡◌, ℕ, zero, suc, List, [], ◌∷◌, Option, Some, slice_get, sym, subst}
use Rattle.cerco_traces.specs.LabelledGraphs.{NodeKind, LabelNode, BranchNode, CallNode, PlainNode, FlowGraph, LeadsTo, IsLabelNode, UnlabelledPath, edge, longer, SoundlyLabelled}
use Rattle.rtl.specs.declared.graphs.Exit.{Exit}
use Rattle.rtl.specs.declared.graphs.Exit.TheVariants.{Next, Test, Call, Label, Return}
use Rattle.rtl.specs.Operations.{ByteOp}
use Rattle.rtl.specs.Programs.{Node, Graph}
use Rattle.rtl.specs.Graphs.{label_kind, kind_of, kind_or_none, flow_of, IsSoundlyLabelled}
use Rattle.pruned_graphs.proofs.Fewer.{Fewer, none, one, without, AreLess, IsLessGraph}

-- the kind stays, or a plain node becomes a label
pub data Becomes : Option NodeKind → Option NodeKind → Type 0 where
  same : (kind : Option NodeKind) → Becomes kind kind
  label : (next : Option ℕ) → Becomes (Some (PlainNode next)) (Some (LabelNode next))

label_stays : (a b : Option NodeKind) → Becomes a b → IsLabelNode a → IsLabelNode b
label_stays a b (same kind) is = is
label_stays a b (label next) is = absurd is

leads_back : (a b : Option NodeKind) (q : ℕ) → Becomes a b → LeadsTo b q → LeadsTo a q
leads_back a b q (same kind) leads = leads
leads_back a b q (label next) leads = leads

branch_was : (a b : Option NodeKind) (true_arm false_arm : ℕ) → Becomes a b → b ≡ Some (BranchNode true_arm false_arm) → a ≡ Some (BranchNode true_arm false_arm)
branch_was a b true_arm false_arm (same kind) e = e
branch_was a b true_arm false_arm (label next) e = absurd (never e)
  where
    never : Some (LabelNode next) ≡ Some (BranchNode true_arm false_arm) → ⊥
    never e = cc

call_was : (a b : Option NodeKind) (next : Option ℕ) → Becomes a b → b ≡ Some (CallNode next) → a ≡ Some (CallNode next)
call_was a b next (same kind) e = e
call_was a b next (label next') e = absurd (never e)
  where
    never : Some (LabelNode next') ≡ Some (CallNode next) → ⊥
    never e = cc

module _ (F G : FlowGraph) (entry : ℕ) (each : (p : ℕ) → Becomes (F p) (G p)) where
  path_was : (p q : ℕ) → UnlabelledPath G p q → UnlabelledPath F p q
  path_was p q (edge p' q' out leads) = edge p' q' (λ is. out (label_stays (F p') (G p') (each p') is)) (leads_back (F p') (G p') q' (each p') leads)
  path_was p r (longer p' q r' out leads path) = longer p' q r' (λ is. out (label_stays (F p') (G p') (each p') is)) (leads_back (F p') (G p') q (each p') leads) (path_was q r' path)

  pub still_sound : SoundlyLabelled F entry → SoundlyLabelled G entry
  still_sound sound = record {
    arms = λ p true_arm false_arm is.
        let arms = sound.arms p true_arm false_arm (branch_was (F p) (G p) true_arm false_arm (each p) is) in
        (label_stays (F true_arm) (G true_arm) (each true_arm) arms.0, label_stays (F false_arm) (G false_arm) (each false_arm) arms.1);
    one_false = λ p q true_arm true_arm' false_arm is is'.
        sound.one_false p q true_arm true_arm' false_arm (branch_was (F p) (G p) true_arm false_arm (each p) is) (branch_was (F q) (G q) true_arm' false_arm (each q) is');
    after_call = λ p next is.
        let after = sound.after_call p next (call_was (F p) (G p) (Some next) (each p) is) in
        (label_stays (F next) (G next) (each next) after.0, λ q leads. after.1 q (leads_back (F q) (G q) next (each q) leads));
    entry_marked = label_stays (F entry) (G entry) (each entry) sound.entry_marked;
    entry_alone = λ q leads. sound.entry_alone q (leads_back (F q) (G q) entry (each q) leads);
    cycles = λ p path. sound.cycles p (path_was p p path);
  }

-- ---- fewer operations

labels_become : (ops rest : List (ByteOp ℕ)) (q : ℕ) → Fewer ops rest → Becomes (Some (label_kind ops q)) (Some (label_kind rest q))
labels_become ops rest q none = same _
labels_become ops rest q (one op ops' rest' fewer) = same _
labels_become ops [] q (without op ops' rest' fewer) = label (Some q)
labels_become ops (x ∷ xs) q (without op ops' rest' fewer) = same _

kind_becomes : (ops rest : List (ByteOp ℕ)) (e : Exit ℕ) → Fewer ops rest → Becomes (Some (kind_of ops e)) (Some (kind_of rest e))
kind_becomes ops rest (Next q) fewer = same _
kind_becomes ops rest (Test v true_arm false_arm) fewer = same _
kind_becomes ops rest (Call f q) fewer = same _
kind_becomes ops rest (Label l q) fewer = labels_become ops rest q fewer
kind_becomes ops rest Return fewer = same _

kinds_become : (ns ms : List (Node ℕ)) (p : ℕ) → AreLess ns ms → Becomes (kind_or_none (slice_get ns p)) (kind_or_none (slice_get ms p))
kinds_become [] [] p all = same _
kinds_become [] (m ∷ ms) p all = absurd all
kinds_become (n ∷ ns) [] p all = absurd all
kinds_become (n ∷ ns) (m ∷ ms) zero all = subst (λ e. Becomes (Some (kind_of n.ops n.exit)) (Some (kind_of m.ops e))) (sym all.0.exit) (kind_becomes n.ops m.ops n.exit all.0.ops)
kinds_become (n ∷ ns) (m ∷ ms) (suc p) all = kinds_become ns ms p all.1

pub still_labelled : (g h : Graph ℕ) → IsLessGraph g h → IsSoundlyLabelled g → IsSoundlyLabelled h
still_labelled g h less sound = subst (SoundlyLabelled (flow_of h)) (sym less.entry) (still_sound (flow_of g) (flow_of h) g.entry (λ p. kinds_become g.nodes h.nodes p less.nodes) sound)
