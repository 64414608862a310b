-- Which state of a program of RTLabs is that of a state of Cminor: each open call is at a node from which what is left to do is done.
use Rattle.std.proofs.Common.{◌≡◌, ℕ, suc, ◌≤◌, List, [], ◌∷◌, length, Option, map, refl, ap}
use Rattle.cerco_traces.specs.Systems.{Run}
use Rattle.cerco_base.specs.declared.events.Label.{Label}
use Rattle.cerco_middle.specs.declared.rtlabs.RtOp.TheVariants as o
use Rattle.cerco_middle.specs.declared.rtlabs.RtNode.{RtNode}
use Rattle.cerco_middle.specs.Calls.{Values, all_zero}
use Rattle.cerco_middle.specs.Cminor.Trees.{CmCond, CmStmt, CmFunction, Cminor}
use Rattle.cerco_middle.specs.Cminor.Meaning.{Work, Done, Execute, ExecuteAll, Pass, Take, Check, Step, Turn, Again, CmCall, CmState}
use Rattle.cerco_middle.specs.RtLabs.Graphs.{RtFunction, RtLabs}
use Rattle.cerco_middle.specs.RtLabs.Meaning.{RtCall, RtState, rtlabs}
use Rattle.rtlabs_gen.specs.Stands.{At, CondStands, CondStandsIfAny, StmtStands, StmtsStand, EndStands}

-- a loop with its head, its step, its exit and the label of its body, before a node
abbrev pub LoopStands : List CmFunction → List RtNode → ℕ → Option CmCond → Label → CmStmt → CmStmt → Label → ℕ → ℕ → ℕ → ℕ → ℕ → Type 0
LoopStands fs G end c body_label body step exit_label head n k next i =
    (j : ℕ) × At G k (o.Label exit_label) next × At G i (o.Label body_label) j × StmtStands fs G end body j n k n × StmtStands fs G end step n head k head × CondStandsIfAny G c head i k

-- what is left to do is done from p, where a break leads to one node and a continue to another
abbrev pub Leads : List CmFunction → List RtNode → ℕ → Work → ℕ → ℕ → ℕ → Type 0
Leads fs G end Done p on_break on_continue = (p ≡ end) × (on_break ≡ end) × (on_continue ≡ end)
Leads fs G end (Execute s w) p on_break on_continue = (m : ℕ) × StmtStands fs G end s p m on_break on_continue × Leads fs G end w m on_break on_continue
Leads fs G end (ExecuteAll statements w) p on_break on_continue = (m : ℕ) × StmtsStand fs G end statements p m on_break on_continue × Leads fs G end w m on_break on_continue
Leads fs G end (Pass l w) p on_break on_continue = (m : ℕ) × At G p (o.Label l) m × Leads fs G end w m on_break on_continue
Leads fs G end (Take h x w) p on_break on_continue = (m k : ℕ) × At G p (o.Result h 0) k × At G k (o.Put x 0) m × Leads fs G end w m on_break on_continue
Leads fs G end (Check c one other) p on_break on_continue =
    (i k b1 c1 b2 c2 : ℕ) × CondStands G c p i k × Leads fs G end one i b1 c1 × Leads fs G end other k b2 c2
Leads fs G end (Step c l body step m w) p on_break on_continue =
    (h i next b c' : ℕ) × LoopStands fs G end c l body step m h p on_break next i × Leads fs G end w next b c' × (on_continue ≡ p)
Leads fs G end (Turn c l body step m w) p on_break on_continue =
    (n i next b c' : ℕ) × LoopStands fs G end c l body step m p n on_break next i × Leads fs G end w next b c' × (on_continue ≡ p)
Leads fs G end (Again c l body m w) p on_break on_continue =
    (i j next b c' : ℕ) × At G on_break (o.Label m) next × At G i (o.Label l) j × StmtStands fs G end body j p on_break p × CondStands G c p i on_break × Leads fs G end w next b c' × (on_continue ≡ p)

-- where an open call is: its node and temporaries, and where its jumps lead
pub record Link : Type 0 where
  pub node : ℕ
  pub temporaries : Values
  pub on_break : ℕ
  pub on_continue : ℕ
  pub end : ℕ

module _ (p : Cminor) (entry_of : CmFunction → ℕ) (nodes_of : CmFunction → List RtNode) where
  -- a function with its graph
  abbrev pub function_of : CmFunction → RtFunction
  function_of f = record { held = f.held; params = f.params; result = f.result; entry = entry_of f; nodes = nodes_of f }

  abbrev pub program_of : RtLabs
  program_of = record { functions = map function_of p.functions; calls = p.calls; main = p.main; start = p.start }

  pub record Linked (c : CmCall) (k : Link) : Type 0 where
    pub ends : EndStands (nodes_of c.of) c.of.result k.end
    pub leads : Leads p.functions (nodes_of c.of) k.end c.work k.node k.on_break k.on_continue

  abbrev pub AllLinked : List CmCall → List Link → Type 0
  AllLinked [] [] = Unit {0}
  AllLinked [] (k ∷ ks) = ⊥
  AllLinked (c ∷ cs) [] = ⊥
  AllLinked (c ∷ cs) (k ∷ ks) = Linked c k × AllLinked cs ks

  abbrev pub calls_of : List CmCall → List Link → List RtCall
  calls_of [] ks = []
  calls_of (c ∷ cs) [] = []
  calls_of (c ∷ cs) (k ∷ ks) = (record { of = function_of c.of; node = k.node; temporaries = k.temporaries; variables = c.variables }) ∷ calls_of cs ks

  -- No argument is handed over between the steps of Cminor.
  abbrev pub state_of : CmState → List Link → RtState
  state_of x ks = record { calls = calls_of x.calls ks; slots = all_zero; result = x.result; world = x.world }

  pub same_length : (cs : List CmCall) (ks : List Link) → AllLinked cs ks → length (calls_of cs ks) ≡ length cs
  same_length [] [] h = refl
  same_length [] (k ∷ ks) h = absurd h
  same_length (c ∷ cs) [] h = absurd h
  same_length (c ∷ cs) (k ∷ ks) h = ap suc (same_length cs ks h.1)

  pub record Related (x : CmState) (y : RtState) : Type 0 where
    pub links : List Link
    pub all : AllLinked x.calls links
    pub few : length x.calls ≤ 64
    pub is : y ≡ state_of x links

  -- from y a run leads to a state that is that of x
  pub record After (d : ℕ) (x : CmState) (y : RtState) : Type 0 where
    pub links : List Link
    pub all : AllLinked x.calls links
    pub run : Run (rtlabs program_of) d y (state_of x links)
