-- What it means that the nodes of a finished graph are those of an expression, a condition, a statement, with no word on where they are:
-- each node is named by some number (CerCo, deliverable 3.3). The pass gives such graphs, and this is all that its preservation
-- of traces rests on.
use Rattle.std.specs.Prelude.{◌≡◌, ℕ, ◌+◌, List, [], ◌∷◌, Option, Some, None, slice_get}
use Rattle.cerco_base.specs.declared.events.Label.{Label}
use Rattle.cerco_middle.specs.declared.operators.Held.{Held}
use Rattle.cerco_middle.specs.declared.rtlabs.RtOp.{RtOp}
use Rattle.cerco_middle.specs.declared.rtlabs.RtOp.TheVariants as o
use Rattle.cerco_middle.specs.declared.rtlabs.RtNode.{RtNode}
use Rattle.cerco_middle.specs.Operators.{held_bytes}
use Rattle.cerco_middle.specs.Cminor.Trees.{CmExpr, Const, Var, Load, Neg, Complement, Narrow, Bin, Shl, Shr, CmCond, Test, Not, Both, Either, CmStmt, Seq, Set, Store, ReadPort, WritePort, Call, If, Loop, Do, Break, Continue, Return, CmStmts, NoStmts, Then, CmFunction}
use Rattle.cerco_middle.specs.Cminor.Sums.{parameters_at, result_at}

-- the operation is at this node, which goes on to the next one
abbrev pub At : List RtNode → ℕ → RtOp → ℕ → Type 0
At G p op next = slice_get G p ≡ Some (record { op = op; next = Some next })

-- the operation is at this node, which has no next one
abbrev pub AtLast : List RtNode → ℕ → RtOp → Type 0
AtLast G p op = slice_get G p ≡ Some (record { op = op; next = None })

-- from p to next the value of an expression comes into a temporary
abbrev pub ExprStands : List RtNode → CmExpr → ℕ → ℕ → ℕ → Type 0
ExprStands G (Const number) t p next = At G p (o.Const t number) next
ExprStands G (Var x) t p next = At G p (o.Get t x) next
ExprStands G (Load h e) t p next = (m : ℕ) × At G m (o.Load h t) next × ExprStands G e t p m
ExprStands G (Neg e) t p next = (m : ℕ) × At G m (o.Neg t) next × ExprStands G e t p m
ExprStands G (Complement e) t p next = (m : ℕ) × At G m (o.Not t) next × ExprStands G e t p m
ExprStands G (Narrow h e) t p next = (m : ℕ) × At G m (o.Narrow h t) next × ExprStands G e t p m
ExprStands G (Bin op a b) t p next = (m k : ℕ) × At G m (o.Bin op t (t + 1)) next × ExprStands G b (t + 1) k m × ExprStands G a t p k
ExprStands G (Shl bits e) t p next = (m : ℕ) × At G m (o.Shl bits t) next × ExprStands G e t p m
ExprStands G (Shr bits arithmetic e) t p next = (m : ℕ) × At G m (o.Shr bits arithmetic t) next × ExprStands G e t p m

-- from p to next the arguments for parameters that are held so are handed over, from a first argument byte on
abbrev pub ArgumentsStand : List RtNode → List Held → ℕ → List CmExpr → ℕ → ℕ → Type 0
ArgumentsStand G [] first es p next = p ≡ next
ArgumentsStand G (h ∷ hs) first [] p next = p ≡ next
ArgumentsStand G (h ∷ hs) first (e ∷ es) p next =
    (m k : ℕ) × At G m (o.Arg h first 0) k × ArgumentsStand G hs (first + held_bytes h) es k next × ExprStands G e 0 p m

-- from p a condition leads to the one node or to the other
abbrev pub CondStands : List RtNode → CmCond → ℕ → ℕ → ℕ → Type 0
CondStands G (Test e) p one other = (m : ℕ) × AtLast G m (o.Test 0 one other) × ExprStands G e 0 p m
CondStands G (Not c) p one other = CondStands G c p other one
CondStands G (Both a on_true on_false b) p one other =
    (i j k : ℕ) × At G i (o.Label on_true) j × At G k (o.Label on_false) other × CondStands G b j one other × CondStands G a p i k
CondStands G (Either a on_true on_false b) p one other =
    (i j k : ℕ) × At G i (o.Label on_true) one × At G k (o.Label on_false) j × CondStands G b j one other × CondStands G a p i k

abbrev pub CondStandsIfAny : List RtNode → Option CmCond → ℕ → ℕ → ℕ → Type 0
CondStandsIfAny G None p one other = p ≡ one
CondStandsIfAny G (Some c) p one other = CondStands G c p one other

-- from p to next the result of a call comes into the target, where there are both
abbrev pub TakingStands : List RtNode → Option Held → Option ℕ → ℕ → ℕ → Type 0
TakingStands G (Some h) (Some x) p next = (m : ℕ) × At G m (o.Put x 0) next × At G p (o.Result h 0) m
TakingStands G _ _ p next = p ≡ next

-- from p to next a function is called, of which this is known
abbrev pub CallStands : List RtNode → List Held → Option Held → Option ℕ → ℕ → List CmExpr → Label → ℕ → ℕ → Type 0
CallStands G parameters result target g es after p next =
    (i k m : ℕ) × TakingStands G result target i next × At G k (o.Label after) i × At G m (o.Call g) k × ArgumentsStand G parameters 0 es p m

abbrev pub ReturnStands : List RtNode → ℕ → Option CmExpr → ℕ → Type 0
ReturnStands G end None p = p ≡ end
ReturnStands G end (Some e) p = (m : ℕ) × AtLast G m (o.ReturnValue 0) × ExprStands G e 0 p m

-- From p to next a statement is done, in a function that ends at a node. Its breaks and continues lead to these nodes.
abbrev mutual
  pub StmtStands : List CmFunction → List RtNode → ℕ → CmStmt → ℕ → ℕ → ℕ → ℕ → Type 0
  StmtStands fs G end (Seq statements) p next on_break on_continue = StmtsStand fs G end statements p next on_break on_continue
  StmtStands fs G end (Set x e) p next on_break on_continue = (m : ℕ) × At G m (o.Put x 0) next × ExprStands G e 0 p m
  StmtStands fs G end (Store h a e) p next on_break on_continue =
      (m k : ℕ) × At G m (o.Store h 0 1) next × ExprStands G e 1 k m × ExprStands G a 0 p k
  StmtStands fs G end (ReadPort x) p next on_break on_continue = (m : ℕ) × At G m (o.Put x 0) next × At G p (o.ReadPort 0) m
  StmtStands fs G end (WritePort e) p next on_break on_continue = (m : ℕ) × At G m (o.WritePort 0) next × ExprStands G e 0 p m
  StmtStands fs G end (Call target g es after) p next on_break on_continue =
      CallStands G (parameters_at (slice_get fs g)) (result_at (slice_get fs g)) target g es after p next
  StmtStands fs G end (If c on_true a on_false b) p next on_break on_continue =
      (i j k n : ℕ) × At G i (o.Label on_true) j × StmtStands fs G end a j next on_break on_continue × At G k (o.Label on_false) n × StmtStands fs G end b n next on_break on_continue × CondStands G c p i k
  StmtStands fs G end (Loop c body_label body step exit_label) p next on_break on_continue =
      (i j k n : ℕ) × At G k (o.Label exit_label) next × At G i (o.Label body_label) j × StmtStands fs G end body j n k n × StmtStands fs G end step n p k p × CondStandsIfAny G c p i k
  StmtStands fs G end (Do body c repeat_label exit_label) p next on_break on_continue =
      (i h k : ℕ) × At G k (o.Label exit_label) next × At G i (o.Label repeat_label) p × StmtStands fs G end body p h k h × CondStands G c h i k
  StmtStands fs G end Break p next on_break on_continue = p ≡ on_break
  StmtStands fs G end Continue p next on_break on_continue = p ≡ on_continue
  StmtStands fs G end (Return e) p next on_break on_continue = ReturnStands G end e p

  pub StmtsStand : List CmFunction → List RtNode → ℕ → CmStmts → ℕ → ℕ → ℕ → ℕ → Type 0
  StmtsStand fs G end NoStmts p next on_break on_continue = p ≡ next
  StmtsStand fs G end (Then earlier s) p next on_break on_continue =
      (m : ℕ) × StmtsStand fs G end earlier p m on_break on_continue × StmtStands fs G end s m next on_break on_continue

-- from p a function with this result ends, with 0 where there is one
abbrev pub EndStands : List RtNode → Option Held → ℕ → Type 0
EndStands G None p = AtLast G p o.Return
EndStands G (Some h) p = (m : ℕ) × AtLast G m (o.ReturnValue 0) × At G p (o.Const 0 0) m

-- the graph of a function: its label, its body, and its end
pub record FunctionStands (fs : List CmFunction) (f : CmFunction) (entry : ℕ) (nodes : List RtNode) : Type 0 where
  pub first : ℕ
  pub end : ℕ
  pub entry_is : At nodes entry (o.Label f.label) first
  pub body_is : StmtStands fs nodes end f.body first end end end
  pub end_is : EndStands nodes f.result end
