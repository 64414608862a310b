-- The annotations of a program begin with that of its start, and have no other such.
use Rattle.std.proofs.Common.{ℕ, List, [], ◌∷◌, ◌++◌, Option, Some, None, refl}
use Rattle.std.specs.List.{flat_map}
use Rattle.cerco_base.specs.declared.events.Label.{Label}
use Rattle.clight_syntax.specs.declared.points.Piece.{Piece}
use Rattle.clight_syntax.specs.declared.points.Piece.TheVariants.{After, ArmOpen, ArmClose, ThenClose, BodyClose, DoOpen, DoClose, CondOpen, CondBoth, CondRepeat}
use Rattle.clight_syntax.specs.declared.points.Point.{Point}
use Rattle.clight_syntax.specs.TypedTrees.{Cond, Truth, InParentheses, Not, Both, Either, Stmt, Empty, Block, Assign, ReadPort, WritePort, CallOf, If, IfElse, While, Do, For, Break, Continue, Return, Stmts, NoStmts, Then, Function, TypedProgram}
use Rattle.clight_syntax.specs.Annotations.{IsNoStart, HaveNoStart, BeginWithStart}
use Rattle.clight_syntax.specs.Labelling.{cond_from, cond_to, stmt_from, stmt_to, point, between, operand_points, arm_points, only_arm_points, body_points, cond_points, head_points, stmt_points, stmts_points, function_points, points_of}

both_without : (points others : List Point) → HaveNoStart points → HaveNoStart others → HaveNoStart (points ++ others)
both_without [] others h k = k
both_without (p ∷ points) others h k = (h.0, both_without points others h.1 k)

wrapped : (from to : ℕ) (points : List Point) (before behind : Piece) → IsNoStart before → IsNoStart behind → HaveNoStart points → HaveNoStart (between (point from before) points (point to behind))
wrapped from to points before behind f l h = (f, both_without points (point to behind ∷ []) h (l, tt))

cond_later : (c : Cond Label) → HaveNoStart (cond_points c)
cond_later (Truth e) = tt
cond_later (InParentheses left c right) = cond_later c
cond_later (Not at c) = cond_later c
cond_later (Both l at on_true on_false r) =
    both_without (operand_points (cond_from l) (cond_points l) (cond_to l) on_true on_false) (cond_points r)
    (wrapped (cond_from l) (cond_to l) (cond_points l) CondOpen (CondBoth on_true on_false) tt tt (cond_later l)) (cond_later r)
cond_later (Either l at on_true on_false r) =
    both_without (operand_points (cond_from l) (cond_points l) (cond_to l) on_true on_false) (cond_points r)
    (wrapped (cond_from l) (cond_to l) (cond_points l) CondOpen (CondBoth on_true on_false) tt tt (cond_later l)) (cond_later r)

head_later : (c : Option (Cond Label)) → HaveNoStart (head_points c)
head_later None = tt
head_later (Some c) = cond_later c

mutual
  stmt_later : (x : Stmt Label) → HaveNoStart (stmt_points x)
  stmt_later (Empty semicolon) = tt
  stmt_later (Block left body right) = stmts_later body
  stmt_later (Assign x semicolon) = tt
  stmt_later (ReadPort target equals port semicolon) = tt
  stmt_later (WritePort port equals value semicolon) = tt
  stmt_later (CallOf call semicolon back) = (tt, tt)
  stmt_later (If test one arm other) =
      both_without (cond_points test.condition) (only_arm_points one (stmt_from arm) (stmt_points arm) (stmt_to arm) other) (cond_later test.condition)
      (wrapped (stmt_from arm) (stmt_to arm) (stmt_points arm) (ArmOpen one) (ThenClose other) tt tt (stmt_later arm))
  stmt_later (IfElse test one arm else other otherwise) =
      let front = arm_points one (stmt_from arm) (stmt_points arm) (stmt_to arm) in
      let behind = arm_points other (stmt_from otherwise) (stmt_points otherwise) (stmt_to otherwise) in
      both_without (cond_points test.condition) (front ++ behind) (cond_later test.condition)
      (both_without front behind
      (wrapped (stmt_from arm) (stmt_to arm) (stmt_points arm) (ArmOpen one) ArmClose tt tt (stmt_later arm))
      (wrapped (stmt_from otherwise) (stmt_to otherwise) (stmt_points otherwise) (ArmOpen other) ArmClose tt tt (stmt_later otherwise)))
  stmt_later (While test turn body after) =
      both_without (cond_points test.condition) (body_points turn (stmt_from body) (stmt_points body) (stmt_to body) after) (cond_later test.condition)
      (wrapped (stmt_from body) (stmt_to body) (stmt_points body) (ArmOpen turn) (BodyClose after) tt tt (stmt_later body))
  stmt_later (Do keyword body test again semicolon after) =
      let c = test.condition in
      let front = between (point (stmt_from body) DoOpen) (stmt_points body) (point (stmt_to body) DoClose) in
      let repeated = between (point (cond_from c) CondOpen) (cond_points c) (point (cond_to c) (CondRepeat again)) in
      let last = point semicolon.to (After after) ∷ [] in
      both_without front (repeated ++ last) (wrapped (stmt_from body) (stmt_to body) (stmt_points body) DoOpen DoClose tt tt (stmt_later body))
      (both_without repeated last (wrapped (cond_from c) (cond_to c) (cond_points c) CondOpen (CondRepeat again) tt tt (cond_later c)) (tt, tt))
  stmt_later (For head turn body after) =
      both_without (head_points head.condition) (body_points turn (stmt_from body) (stmt_points body) (stmt_to body) after) (head_later head.condition)
      (wrapped (stmt_from body) (stmt_to body) (stmt_points body) (ArmOpen turn) (BodyClose after) tt tt (stmt_later body))
  stmt_later (Break keyword semicolon) = tt
  stmt_later (Continue keyword semicolon) = tt
  stmt_later (Return keyword value semicolon) = tt

  stmts_later : (xs : Stmts Label) → HaveNoStart (stmts_points xs)
  stmts_later NoStmts = tt
  stmts_later (Then earlier last) = both_without (stmts_points earlier) (stmt_points last) (stmts_later earlier) (stmt_later last)

functions_later : (fs : List (Function Label)) → HaveNoStart (flat_map function_points fs)
functions_later [] = tt
functions_later (f ∷ fs) = (tt, both_without (stmts_points f.body) (flat_map function_points fs) (stmts_later f.body) (functions_later fs))

pub points_begin : (p : TypedProgram Label) → BeginWithStart (points_of p)
points_begin p = (refl, functions_later p.functions)
