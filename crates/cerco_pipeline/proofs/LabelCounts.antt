-- The annotations of a program name as many labels as its functions have.
use Rattle.std.proofs.Common.{◌≡◌, ℕ, ◌+◌, List, [], ◌∷◌, ◌++◌, length, Option, Some, None, refl, arith, length-append}
use Rattle.std.specs.List.{flat_map}
use Rattle.cerco_base.specs.declared.events.Label.{Label}
use Rattle.clight_syntax.specs.declared.points.Point.{Point}
use Rattle.clight_syntax.specs.declared.points.Piece.TheVariants.{Start, After, ArmOpen, ArmClose, ThenClose, BodyClose, DoOpen, DoClose, CondOpen, CondBoth, CondRepeat}
use Rattle.clight_syntax.specs.Annotations.{labels_of as piece_labels, labels_in}
use Rattle.clight_syntax.specs.Labelling.{point, between, operand_points, cond_points, head_points, arm_points, only_arm_points, body_points, stmt_points, stmts_points, function_points, points_of, stmt_from, stmt_to, cond_from, cond_to}
use Rattle.clight_syntax.specs.TypedTrees.{Cond, Truth, InParentheses, Not, Both, Either, Stmt, Empty, Block, Assign, ReadPort, WritePort, CallOf, If, IfElse, While, Do, For, Break, Continue, Return, Stmts, NoStmts, Then, Function, TypedProgram}
use Rattle.clight_programs.specs.Labels.{cond_labels, cond_labels_if_any, stmt_labels, stmts_labels, function_labels, labels_of}

-- how many labels annotations name
abbrev count : List Point → ℕ
count points = length (labels_in points)

count_first : (p : Point) (points : List Point) → count (p ∷ points) ≡ length (piece_labels p.piece) + count points
count_first p points = length-append (piece_labels p.piece) (labels_in points)

count_both : (one other : List Point) → count (one ++ other) ≡ count one + count other
count_both [] other = omega arith
count_both (p ∷ one) other = omega (arith, count_first p (one ++ other), count_both one other, count_first p one)

count_between : (a b : Point) (points : List Point) → count (between a points b) ≡ length (piece_labels a.piece) + count points + length (piece_labels b.piece)
count_between a b points = omega (arith, count_first a (points ++ b ∷ []), count_both points (b ∷ []), count_first b [])

-- ---- conditions

count_operand : (from : ℕ) (points : List Point) (to : ℕ) (on_true on_false : Label) → count (operand_points from points to on_true on_false) ≡ count points + 2
count_operand from points to on_true on_false = omega (arith, count_between (point from CondOpen) (point to (CondBoth on_true on_false)) points)

cond_count : (c : Cond Label) (more : List ℕ) → length (cond_labels c more) ≡ count (cond_points c) + length more
cond_count (Truth e) more = omega arith
cond_count (InParentheses left c right) more = cond_count c more
cond_count (Not at c) more = cond_count c more
cond_count (Both l at on_true on_false r) more =
    omega (arith, cond_count l (on_true.0 ∷ on_false.0 ∷ cond_labels r more), cond_count r more, count_operand (cond_from l) (cond_points l) (cond_to l) on_true on_false, count_both (operand_points (cond_from l) (cond_points l) (cond_to l) on_true on_false) (cond_points r))
cond_count (Either l at on_true on_false r) more =
    omega (arith, cond_count l (on_true.0 ∷ on_false.0 ∷ cond_labels r more), cond_count r more, count_operand (cond_from l) (cond_points l) (cond_to l) on_true on_false, count_both (operand_points (cond_from l) (cond_points l) (cond_to l) on_true on_false) (cond_points r))

head_count : (c : Option (Cond Label)) (more : List ℕ) → length (cond_labels_if_any c more) ≡ count (head_points c) + length more
head_count None more = omega arith
head_count (Some c) more = cond_count c more

-- ---- statements

body_count : (turn : Label) (from : ℕ) (points : List Point) (to : ℕ) (after : Label) → count (body_points turn from points to after) ≡ 2 + count points
body_count turn from points to after = omega (arith, count_between (point from (ArmOpen turn)) (point to (BodyClose after)) points)

mutual
  stmt_count : (s : Stmt Label) (more : List ℕ) → length (stmt_labels s more) ≡ count (stmt_points s) + length more
  stmt_count (Empty semicolon) more = omega arith
  stmt_count (Block left body right) more = stmts_count body more
  stmt_count (Assign x semicolon) more = omega arith
  stmt_count (ReadPort target equals port semicolon) more = omega arith
  stmt_count (WritePort port equals value semicolon) more = omega arith
  stmt_count (CallOf call semicolon back) more = omega arith
  stmt_count (If test one arm other) more =
      let inside = only_arm_points one (stmt_from arm) (stmt_points arm) (stmt_to arm) other in
      omega (arith, cond_count test.condition (one.0 ∷ stmt_labels arm (other.0 ∷ more)), stmt_count arm (other.0 ∷ more), count_both (cond_points test.condition) inside, count_between (point (stmt_from arm) (ArmOpen one)) (point (stmt_to arm) (ThenClose other)) (stmt_points arm))
  stmt_count (IfElse test one arm else other otherwise) more =
      let first = arm_points one (stmt_from arm) (stmt_points arm) (stmt_to arm) in
      let second = arm_points other (stmt_from otherwise) (stmt_points otherwise) (stmt_to otherwise) in
      omega (arith, cond_count test.condition (one.0 ∷ stmt_labels arm (other.0 ∷ stmt_labels otherwise more)), stmt_count arm (other.0 ∷ stmt_labels otherwise more), stmt_count otherwise more, count_both (cond_points test.condition) (first ++ second), count_both first second, count_between (point (stmt_from arm) (ArmOpen one)) (point (stmt_to arm) ArmClose) (stmt_points arm), count_between (point (stmt_from otherwise) (ArmOpen other)) (point (stmt_to otherwise) ArmClose) (stmt_points otherwise))
  stmt_count (While test turn body after) more =
      let inside = body_points turn (stmt_from body) (stmt_points body) (stmt_to body) after in
      omega (arith, cond_count test.condition (turn.0 ∷ stmt_labels body (after.0 ∷ more)), stmt_count body (after.0 ∷ more), count_both (cond_points test.condition) inside, body_count turn (stmt_from body) (stmt_points body) (stmt_to body) after)
  stmt_count (Do keyword body test again semicolon after) more =
      let inside = between (point (stmt_from body) DoOpen) (stmt_points body) (point (stmt_to body) DoClose) in
      let condition = between (point (cond_from test.condition) CondOpen) (cond_points test.condition) (point (cond_to test.condition) (CondRepeat again)) in
      let end = point semicolon.to (After after) ∷ [] in
      omega (arith, stmt_count body (cond_labels test.condition (again.0 ∷ after.0 ∷ more)), cond_count test.condition (again.0 ∷ after.0 ∷ more), count_both inside (condition ++ end), count_both condition end, count_between (point (stmt_from body) DoOpen) (point (stmt_to body) DoClose) (stmt_points body), count_between (point (cond_from test.condition) CondOpen) (point (cond_to test.condition) (CondRepeat again)) (cond_points test.condition))
  stmt_count (For head turn body after) more =
      let inside = body_points turn (stmt_from body) (stmt_points body) (stmt_to body) after in
      omega (arith, head_count head.condition (turn.0 ∷ stmt_labels body (after.0 ∷ more)), stmt_count body (after.0 ∷ more), count_both (head_points head.condition) inside, body_count turn (stmt_from body) (stmt_points body) (stmt_to body) after)
  stmt_count (Break keyword semicolon) more = omega arith
  stmt_count (Continue keyword semicolon) more = omega arith
  stmt_count (Return keyword value semicolon) more = omega arith

  stmts_count : (s : Stmts Label) (more : List ℕ) → length (stmts_labels s more) ≡ count (stmts_points s) + length more
  stmts_count NoStmts more = omega arith
  stmts_count (Then earlier last) more =
      omega (arith, stmts_count earlier (stmt_labels last more), stmt_count last more, count_both (stmts_points earlier) (stmt_points last))

-- ---- programs

pub function_count : (f : Function Label) (more : List ℕ) → length (function_labels f more) ≡ count (function_points f) + length more
function_count f more = omega (arith, stmts_count f.body more, count_first (point f.left.to (After f.label)) (stmts_points f.body))

functions_count : (fs : List (Function Label)) → length (labels_of fs) ≡ count (flat_map function_points fs)
functions_count [] = refl
functions_count (f ∷ fs) = omega (arith, function_count f (labels_of fs), functions_count fs, count_both (function_points f) (flat_map function_points fs))

pub points_count : (p : TypedProgram Label) → count (points_of p) ≡ length (labels_of p.functions)
points_count p = omega (arith, count_first (point 0 Start) (flat_map function_points p.functions), functions_count p.functions)
