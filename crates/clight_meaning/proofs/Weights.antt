-- What an evaluator does unseen lessens a number.
use Rattle.std.proofs.Common.{◌≡◌, Bool, true, false, ℕ, ◌+◌, ◌<◌, ◌≤◌, List, [], ◌∷◌, Option, Some, None, Result, Ok, Err, lit<, arith}
use Rattle.std.specs.Prelude.{slice_get}
use Rattle.cerco_base.specs.declared.events.Label.{Label}
use Rattle.cerco_base.specs.declared.events.FaultKind.{FaultKind}
use Rattle.clight_syntax.specs.TypedTrees as t
use Rattle.clight_syntax.specs.TypedTrees.{Cond, Truth, InParentheses, Not, Both, Either, Stmt, Empty, Block, Assign, ReadPort, WritePort, CallOf, If, IfElse, While, Do, For, Break, Continue, Return, Stmts, NoStmts, Then, Function, TypedProgram}
use Rattle.clight_values.specs.declared.value.Value.{Value}
use Rattle.clight_values.specs.declared.value.Value.TheVariants as v
use Rattle.clight_values.specs.Memory.{Answer, State}
use Rattle.clight_meaning.specs.Code.Evaluation.{Way, ByBreak, ByContinue, ByReturn, Waiting, Chooser, Negation, AndThen, OrElse, Work, Run, All, Turn', Check, Outcome', Wait, Pass, Caller, Take, Leave, Faulty, Move, Silent, Says, SaysAndFails, Fails, Ends, quietly, listed, after_read, written, called_of, called, for_turned, for_begun, given_back, ran, turned, broken, chosen, decided, comes_out, outcome_of, checked, left_by, begun, stepped}

abbrev cond_nodes : Cond Label → ℕ
cond_nodes (Truth e) = 2
cond_nodes (InParentheses l c r) = cond_nodes c + 1
cond_nodes (Not at c) = cond_nodes c + 2
cond_nodes (Both c at t f d) = cond_nodes c + 2
cond_nodes (Either c at t f d) = cond_nodes c + 2

abbrev cond_nodes_of : Option (Cond Label) → ℕ
cond_nodes_of None = 0
cond_nodes_of (Some c) = cond_nodes c

-- how much may be done for a statement before something is seen
abbrev mutual
  nodes : Stmt Label → ℕ
  nodes (Block l body r) = all_nodes body + 2
  nodes (If c one arm other) = cond_nodes c.condition + 2
  nodes (IfElse c one arm q other otherwise) = cond_nodes c.condition + 2
  nodes (While c l body after) = cond_nodes c.condition + 2
  nodes (Do q body c back a after) = nodes body + cond_nodes c.condition + 3
  nodes (For head l body after) = cond_nodes_of head.condition + 2
  nodes (Break q a) = 2
  nodes (Continue q a) = 2
  nodes (Return q e a) = 2
  nodes _ = 1

  all_nodes : Stmts Label → ℕ
  all_nodes NoStmts = 0
  all_nodes (Then ss s) = all_nodes ss + nodes s

abbrev list_nodes : List (Stmt Label) → ℕ
list_nodes [] = 0
list_nodes (s ∷ ss) = nodes s + list_nodes ss

abbrev turn_nodes : Stmt Label → ℕ
turn_nodes (While c l body after) = cond_nodes c.condition + 2
turn_nodes (Do q body c back a after) = cond_nodes c.condition + 2
turn_nodes (For head l body after) = cond_nodes_of head.condition + 2
turn_nodes _ = 1

abbrev weight : Work → ℕ
weight (Run s) = nodes s
weight (All ss) = list_nodes ss + 1
weight (Turn' s) = turn_nodes s
weight (Check c) = cond_nodes c
weight _ = 1

abbrev pub total_weight : List Work → ℕ
total_weight [] = 0
total_weight (w ∷ ws) = weight w + total_weight ws

-- the move is seen, or what is left weighs less than this
abbrev pub Lessens : Move → ℕ → Type 0
Lessens (Silent ws st) m = total_weight ws < m
Lessens (Says e ws st) m = Unit {0}
Lessens (SaysAndFails e kind) m = Unit {0}
Lessens (Fails kind) m = Unit {0}
Lessens Ends m = Unit {0}

lessens_more : (move : Move) (m n : ℕ) → m ≤ n → Lessens move m → Lessens move n
lessens_more (Silent ws st) m n le h = omega arith
lessens_more (Says e ws st) m n le h = tt
lessens_more (SaysAndFails e kind) m n le h = tt
lessens_more (Fails kind) m n le h = tt
lessens_more Ends m n le h = tt

cond_some : (c : Cond Label) → 0 < cond_nodes c
cond_some (Truth e) = lit< tt
cond_some (InParentheses l c r) = omega arith
cond_some (Not at c) = omega arith
cond_some (Both c at t f d) = omega arith
cond_some (Either c at t f d) = omega arith

nodes_some : (s : Stmt Label) → 0 < nodes s
nodes_some (Block l body r) = omega arith
nodes_some (If c one arm other) = omega arith
nodes_some (IfElse c one arm q other otherwise) = omega arith
nodes_some (While c l body after) = omega arith
nodes_some (Do q body c back a after) = omega arith
nodes_some (For head l body after) = omega arith
nodes_some (Break q a) = lit< tt
nodes_some (Continue q a) = lit< tt
nodes_some (Return q e a) = lit< tt
nodes_some _ = lit< tt

turn_some : (s : Stmt Label) → 0 < turn_nodes s
turn_some (While c l body after) = omega arith
turn_some (Do q body c back a after) = omega arith
turn_some (For head l body after) = omega arith
turn_some _ = lit< tt

weight_some : (w : Work) → 0 < weight w
weight_some (Run s) = nodes_some s
weight_some (All ss) = omega arith
weight_some (Turn' s) = turn_some s
weight_some (Check c) = cond_some c
weight_some _ = lit< tt

listed_nodes : (ss : Stmts Label) (later : List (Stmt Label)) → list_nodes (listed ss later) ≡ all_nodes ss + list_nodes later
listed_nodes NoStmts later = omega arith
listed_nodes (Then ss s) later = let h = listed_nodes ss (s ∷ later) in omega arith

module _ (p : TypedProgram Label) (ws : List Work) where
  lessens_quietly : (r : Result State FaultKind) (m : ℕ) → total_weight ws < m → Lessens (quietly ws r) m
  lessens_quietly (Err f) m lt = tt
  lessens_quietly (Ok st) m lt = lt

  lessens_read : (byte : ℕ) (r : Result State FaultKind) (m : ℕ) → Lessens (after_read byte ws r) m
  lessens_read byte (Err f) m = tt
  lessens_read byte (Ok new) m = tt

  lessens_written : (st : State) (a : Answer) (m : ℕ) → Lessens (written ws st a) m
  lessens_written st (Err f) m = tt
  lessens_written st (Ok (v.Integer n)) m = tt
  lessens_written st (Ok v.Null) m = tt
  lessens_written st (Ok (v.Pointer at)) m = tt

  lessens_begun : (f : Function Label) (vs : List Work) (r : Result State FaultKind) (m : ℕ) → Lessens (begun f vs r) m
  lessens_begun f vs (Err x) m = tt
  lessens_begun f vs (Ok st) m = tt

  lessens_called_of : (c : t.Call) (back : Label) (st : State) (xs : List Value) (o : Option (Function Label)) (m : ℕ) → Lessens (called_of p c back ws st xs o) m
  lessens_called_of c back st xs None m = tt
  lessens_called_of c back st xs (Some f) m = lessens_begun f _ _ m

  lessens_called : (c : t.Call) (back : Label) (st : State) (r : Result (List Value) FaultKind) (m : ℕ) → Lessens (called p c back ws st r) m
  lessens_called c back st (Err f) m = tt
  lessens_called c back st (Ok xs) m = lessens_called_of c back st xs (slice_get p.functions c.function) m

  lessens_given_back : (st : State) (a : Answer) (m : ℕ) → total_weight ws + 1 < m → Lessens (given_back ws st a) m
  lessens_given_back st (Err f) m lt = tt
  lessens_given_back st (Ok x) m lt = omega arith

  lessens_outcome : (st : State) (r : Result Bool FaultKind) (m : ℕ) → total_weight ws + 1 < m → Lessens (outcome_of ws st r) m
  lessens_outcome st (Err f) m lt = tt
  lessens_outcome st (Ok b) m lt = omega arith

  lessens_for_turned : (c : Option (Cond Label)) (l : Label) (body s : Stmt Label) (st : State) (m : ℕ) → total_weight ws + cond_nodes_of c + 1 < m → Lessens (for_turned c l body s ws st) m
  lessens_for_turned None l body s st m lt = tt
  lessens_for_turned (Some c) l body s st m lt = omega arith

  lessens_for : (c : Option (Cond Label)) (l : Label) (body s : Stmt Label) (r : Result State FaultKind) (m : ℕ) → total_weight ws + cond_nodes_of c + 1 < m → Lessens (for_begun c l body s ws r) m
  lessens_for c l body s (Err f) m lt = tt
  lessens_for c l body s (Ok st) m lt = lessens_for_turned c l body s st m lt

  lessens_ran : (s : Stmt Label) (st : State) → Lessens (ran p s ws st) (nodes s + total_weight ws)
  lessens_ran (Empty a) st = omega arith
  lessens_ran (Block l body r) st = let h = listed_nodes body [] in omega arith
  lessens_ran (Assign a q) st = lessens_quietly _ _ (omega arith)
  lessens_ran (ReadPort x q port a) st = lessens_read _ _ _
  lessens_ran (WritePort port q e a) st = lessens_written st _ _
  lessens_ran (CallOf c a back) st = lessens_called c back st _ _
  lessens_ran (If c one arm other) st = omega arith
  lessens_ran (IfElse c one arm q other otherwise) st = omega arith
  lessens_ran (While c l body after) st = omega arith
  lessens_ran (Do q body c back a after) st = omega arith
  lessens_ran (For head l body after) st = lessens_for _ _ _ _ _ _ (omega arith)
  lessens_ran (Break q a) st = omega arith
  lessens_ran (Continue q a) st = omega arith
  lessens_ran (Return q None a) st = omega arith
  lessens_ran (Return q (Some e) a) st = lessens_given_back st _ _ (omega arith)

  lessens_turned : (s : Stmt Label) (st : State) (m : ℕ) → total_weight ws + turn_nodes s ≤ m → Lessens (turned p s ws st) m
  lessens_turned (While c l body after) st m le = omega arith
  lessens_turned (Do q body c back a after) st m le = omega arith
  lessens_turned (For head l body after) st m le = lessens_for _ _ _ _ _ _ (omega arith)
  lessens_turned s st m le = omega arith

  lessens_chosen : (s : Stmt Label) (b : Bool) (st : State) (m : ℕ) → Lessens (chosen s b ws st) m
  lessens_chosen (If c one arm other) true st m = tt
  lessens_chosen (If c one arm other) false st m = tt
  lessens_chosen (IfElse c one arm q other otherwise) true st m = tt
  lessens_chosen (IfElse c one arm q other otherwise) false st m = tt
  lessens_chosen (While c l body after) true st m = tt
  lessens_chosen (While c l body after) false st m = tt
  lessens_chosen (Do q body c back a after) true st m = tt
  lessens_chosen (Do q body c back a after) false st m = tt
  lessens_chosen (For head l body after) true st m = tt
  lessens_chosen (For head l body after) false st m = tt
  lessens_chosen s true st m = tt
  lessens_chosen s false st m = tt

  lessens_decided : (w : Waiting) (b : Bool) (st : State) → Lessens (decided w b ws st) (1 + (1 + total_weight ws))
  lessens_decided (Chooser s) b st = lessens_chosen s b st _
  lessens_decided Negation b st = omega arith
  lessens_decided (AndThen t f c) true st = tt
  lessens_decided (AndThen t f c) false st = tt
  lessens_decided (OrElse t f c) true st = tt
  lessens_decided (OrElse t f c) false st = tt

  lessens_checked : (c : Cond Label) (st : State) → Lessens (checked p c ws st) (cond_nodes c + total_weight ws)
  lessens_checked (Truth e) st = lessens_outcome st _ _ (omega arith)
  lessens_checked (InParentheses l c r) st = omega arith
  lessens_checked (Not at c) st = omega arith
  lessens_checked (Both c at t f d) st = omega arith
  lessens_checked (Either c at t f d) st = omega arith

  lessens_comes_out : (b : Bool) (w : Work) (st : State) → Lessens (comes_out b w ws st) (1 + (weight w + total_weight ws))
  lessens_comes_out b (Wait w) st = lessens_decided w b st
  lessens_comes_out b w st = tt

  lessens_broken : (s : Stmt Label) (st : State) → Lessens (broken s ws st) (1 + (turn_nodes s + total_weight ws))
  lessens_broken (While c l body after) st = tt
  lessens_broken (Do q body c back a after) st = tt
  lessens_broken (For head l body after) st = tt
  lessens_broken s st = omega arith

  lessens_left : (way : Way) (w : Work) (st : State) → Lessens (left_by p way w ws st) (1 + (weight w + total_weight ws))
  lessens_left ByBreak (Turn' s) st = lessens_broken s st
  lessens_left ByContinue (Turn' s) st = lessens_turned s st _ (omega arith)
  lessens_left (ByReturn x) (Turn' s) st = let some = turn_some s in omega arith
  lessens_left way (Caller target R back frame) st = tt
  lessens_left way w st = let some = weight_some w in omega arith

pub lessens_step : (p : TypedProgram Label) (ws : List Work) (st : State) → Lessens (stepped p ws st) (total_weight ws)
lessens_step p [] st = tt
lessens_step p (Run s ∷ ws) st = lessens_ran p ws s st
lessens_step p (All [] ∷ ws) st = omega arith
lessens_step p (All (s ∷ ss) ∷ ws) st = lessens_more (ran p s (All ss ∷ ws) st) (nodes s + total_weight (All ss ∷ ws)) _ (omega arith) (lessens_ran p (All ss ∷ ws) s st)
lessens_step p (Turn' s ∷ ws) st = lessens_turned p ws s st _ (omega arith)
lessens_step p (Check c ∷ ws) st = lessens_checked p ws c st
lessens_step p (Outcome' b ∷ []) st = tt
lessens_step p (Outcome' b ∷ w ∷ ws) st = lessens_comes_out p ws b w st
lessens_step p (Wait w ∷ ws) st = omega arith
lessens_step p (Pass l ∷ ws) st = tt
lessens_step p (Caller target R back frame ∷ ws) st = tt
lessens_step p (Take target R x ∷ ws) st = lessens_quietly p ws _ _ (omega arith)
lessens_step p (Leave way ∷ []) st = tt
lessens_step p (Leave way ∷ w ∷ ws) st = lessens_left p ws way w st
lessens_step p (Faulty kind ∷ ws) st = tt
