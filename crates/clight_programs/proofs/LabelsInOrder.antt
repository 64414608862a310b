-- The labels of a program along its tree are those of its annotations, so they have the same order.
use Rattle.std.proofs.Common.{◌≡◌, ℕ, List, [], ◌∷◌, ◌++◌, length, map, Option, Some, None, refl, sym, ap, ◌∙◌}
use Rattle.std.specs.List.{flat_map, range_with_len}
use Rattle.std.proofs.lemmas.List.{length-map, map-append}
use Rattle.cerco_base.specs.declared.events.Label.{Label}
use Rattle.clight_syntax.specs.declared.points.Piece.{Piece}
use Rattle.clight_syntax.specs.declared.points.Piece.TheVariants.{Start, After, ArmOpen, ArmClose, ThenClose, BodyClose, DoOpen, DoClose, CondOpen, CondBoth, CondRepeat}
use Rattle.clight_syntax.specs.declared.points.Point.{Point}
use Rattle.clight_syntax.specs.Annotations.{labels_in}
use Rattle.clight_syntax.specs.Annotations as a
use Rattle.clight_syntax.specs.Labelling.{cond_from, cond_to, stmt_from, stmt_to, point, between, operand_points, arm_points, only_arm_points, body_points, cond_points, head_points, stmt_points, stmts_points, function_points, points_of, IsLabelled}
use Rattle.clight_syntax.specs.TypedTrees.{Cond, Truth, InParentheses, Not, Both, Either, Stmt, Empty, Block, Assign, ReadPort, WritePort, CallOf, If, IfElse, While, Do, For, Break, Continue, Return, Stmts, NoStmts, Then, Function, TypedProgram}
use Rattle.clight_programs.specs.Labels.{cond_labels, cond_labels_if_any, stmt_labels, stmts_labels, labels_of}

-- the numbers of an annotation's labels, before some more
abbrev named : Piece → List ℕ → List ℕ
named Start more = more
named (After l) more = l.0 ∷ more
named (ArmOpen l) more = l.0 ∷ more
named ArmClose more = more
named (ThenClose l) more = l.0 ∷ more
named (BodyClose l) more = l.0 ∷ more
named DoOpen more = more
named DoClose more = more
named CondOpen more = more
named (CondBoth l m) more = l.0 ∷ m.0 ∷ more
named (CondRepeat l) more = l.0 ∷ more

abbrev all_named : List Point → List ℕ → List ℕ
all_named [] more = more
all_named (q ∷ qs) more = named q.piece (all_named qs more)

-- ---- by parts

both : (qs rs : List Point) (more : List ℕ) → all_named (qs ++ rs) more ≡ all_named qs (all_named rs more)
both [] rs more = refl
both (q ∷ qs) rs more = ap (named q.piece) (both qs rs more)

-- a part between two annotations
part : (from to : ℕ) (before behind : Piece) (qs : List Point) (more inside : List ℕ) → all_named qs (named behind more) ≡ inside → all_named (between (point from before) qs (point to behind)) more ≡ named before inside
part from to before behind qs more inside e = ap (named before) (both qs (point to behind ∷ []) more ∙ e)

cond_in_order : (c : Cond Label) (more : List ℕ) → all_named (cond_points c) more ≡ cond_labels c more
cond_in_order (Truth e) more = refl
cond_in_order (InParentheses lf c rt) more = cond_in_order c more
cond_in_order (Not at c) more = cond_in_order c more
cond_in_order (Both l at t f r) more =
    both (operand_points (cond_from l) (cond_points l) (cond_to l) t f) (cond_points r) more
    ∙ part (cond_from l) (cond_to l) CondOpen (CondBoth t f) (cond_points l) (all_named (cond_points r) more) _ (cond_in_order l (t.0 ∷ f.0 ∷ all_named (cond_points r) more))
    ∙ ap (λ m. cond_labels l (t.0 ∷ f.0 ∷ m)) (cond_in_order r more)
cond_in_order (Either l at t f r) more =
    both (operand_points (cond_from l) (cond_points l) (cond_to l) t f) (cond_points r) more
    ∙ part (cond_from l) (cond_to l) CondOpen (CondBoth t f) (cond_points l) (all_named (cond_points r) more) _ (cond_in_order l (t.0 ∷ f.0 ∷ all_named (cond_points r) more))
    ∙ ap (λ m. cond_labels l (t.0 ∷ f.0 ∷ m)) (cond_in_order r more)

head_in_order : (c : Option (Cond Label)) (more : List ℕ) → all_named (head_points c) more ≡ cond_labels_if_any c more
head_in_order None more = refl
head_in_order (Some c) more = cond_in_order c more

mutual
  stmt_in_order : (x : Stmt Label) (more : List ℕ) → all_named (stmt_points x) more ≡ stmt_labels x more
  stmt_in_order (Empty semicolon) more = refl
  stmt_in_order (Block lf body rt) more = stmts_in_order body more
  stmt_in_order (Assign x semicolon) more = refl
  stmt_in_order (ReadPort target equals port semicolon) more = refl
  stmt_in_order (WritePort port equals e semicolon) more = refl
  stmt_in_order (CallOf c semicolon back) more = refl
  stmt_in_order (If tst one arm other) more =
      both (cond_points tst.condition) (only_arm_points one (stmt_from arm) (stmt_points arm) (stmt_to arm) other) more
      ∙ ap (all_named (cond_points tst.condition)) (part (stmt_from arm) (stmt_to arm) (ArmOpen one) (ThenClose other) (stmt_points arm) more _ (stmt_in_order arm (other.0 ∷ more)))
      ∙ cond_in_order tst.condition (one.0 ∷ stmt_labels arm (other.0 ∷ more))
  stmt_in_order (IfElse tst one arm keyword other otherwise) more =
      let rest = other.0 ∷ stmt_labels otherwise more in
      both (cond_points tst.condition) (arm_points one (stmt_from arm) (stmt_points arm) (stmt_to arm) ++ arm_points other (stmt_from otherwise) (stmt_points otherwise) (stmt_to otherwise)) more
      ∙ ap (all_named (cond_points tst.condition))
      (both (arm_points one (stmt_from arm) (stmt_points arm) (stmt_to arm)) (arm_points other (stmt_from otherwise) (stmt_points otherwise) (stmt_to otherwise)) more
      ∙ ap (all_named (arm_points one (stmt_from arm) (stmt_points arm) (stmt_to arm))) (part (stmt_from otherwise) (stmt_to otherwise) (ArmOpen other) ArmClose (stmt_points otherwise) more _ (stmt_in_order otherwise more))
      ∙ part (stmt_from arm) (stmt_to arm) (ArmOpen one) ArmClose (stmt_points arm) rest _ (stmt_in_order arm rest))
      ∙ cond_in_order tst.condition (one.0 ∷ stmt_labels arm rest)
  stmt_in_order (While tst turn body after) more =
      both (cond_points tst.condition) (body_points turn (stmt_from body) (stmt_points body) (stmt_to body) after) more
      ∙ ap (all_named (cond_points tst.condition)) (part (stmt_from body) (stmt_to body) (ArmOpen turn) (BodyClose after) (stmt_points body) more _ (stmt_in_order body (after.0 ∷ more)))
      ∙ cond_in_order tst.condition (turn.0 ∷ stmt_labels body (after.0 ∷ more))
  stmt_in_order (Do keyword body tst back semicolon after) more =
      let c = tst.condition in
      let looped = between (point (cond_from c) CondOpen) (cond_points c) (point (cond_to c) (CondRepeat back)) in
      let last = point semicolon.to (After after) ∷ [] in
      both (between (point (stmt_from body) DoOpen) (stmt_points body) (point (stmt_to body) DoClose)) (looped ++ last) more
      ∙ part (stmt_from body) (stmt_to body) DoOpen DoClose (stmt_points body) (all_named (looped ++ last) more) _ (stmt_in_order body (all_named (looped ++ last) more))
      ∙ ap (stmt_labels body) (both looped last more ∙ part (cond_from c) (cond_to c) CondOpen (CondRepeat back) (cond_points c) (after.0 ∷ more) _ (cond_in_order c (back.0 ∷ after.0 ∷ more)))
  stmt_in_order (For head turn body after) more =
      both (head_points head.condition) (body_points turn (stmt_from body) (stmt_points body) (stmt_to body) after) more
      ∙ ap (all_named (head_points head.condition)) (part (stmt_from body) (stmt_to body) (ArmOpen turn) (BodyClose after) (stmt_points body) more _ (stmt_in_order body (after.0 ∷ more)))
      ∙ head_in_order head.condition (turn.0 ∷ stmt_labels body (after.0 ∷ more))
  stmt_in_order (Break keyword semicolon) more = refl
  stmt_in_order (Continue keyword semicolon) more = refl
  stmt_in_order (Return keyword e semicolon) more = refl

  stmts_in_order : (ss : Stmts Label) (more : List ℕ) → all_named (stmts_points ss) more ≡ stmts_labels ss more
  stmts_in_order NoStmts more = refl
  stmts_in_order (Then earlier x) more =
      both (stmts_points earlier) (stmt_points x) more ∙ ap (all_named (stmts_points earlier)) (stmt_in_order x more) ∙ stmts_in_order earlier (stmt_labels x more)

functions_in_order : (fs : List (Function Label)) → all_named (flat_map function_points fs) [] ≡ labels_of fs
functions_in_order [] = refl
functions_in_order (f ∷ fs) =
    both (function_points f) (flat_map function_points fs) [] ∙ ap (λ m. f.label.0 ∷ all_named (stmts_points f.body) m) (functions_in_order fs) ∙ ap (λ m. f.label.0 ∷ m) (stmts_in_order f.body (labels_of fs))

-- ---- as the annotations have them

piece_is : (q : Piece) (more : List ℕ) → map (λ (l : Label). l.0) (a.labels_of q) ++ more ≡ named q more
piece_is Start more = refl
piece_is (After l) more = refl
piece_is (ArmOpen l) more = refl
piece_is ArmClose more = refl
piece_is (ThenClose l) more = refl
piece_is (BodyClose l) more = refl
piece_is DoOpen more = refl
piece_is DoClose more = refl
piece_is CondOpen more = refl
piece_is (CondBoth l m) more = refl
piece_is (CondRepeat l) more = refl

points_are : (qs : List Point) → map (λ (l : Label). l.0) (labels_in qs) ≡ all_named qs []
points_are [] = refl
points_are (q ∷ qs) =
    map-append (λ (l : Label). l.0) (a.labels_of q.piece) (labels_in qs)
    ∙ ap (λ m. map (λ (l : Label). l.0) (a.labels_of q.piece) ++ m) (points_are qs)
    ∙ piece_is q.piece (all_named qs [])

pub in_order : (typed : TypedProgram (Unit {0})) (p : TypedProgram Label) → IsLabelled typed p → labels_of p.functions ≡ range_with_len 0 (length (labels_of p.functions))
in_order typed p is =
    let same : map (λ (l : Label). l.0) (labels_in (points_of p)) ≡ labels_of p.functions = points_are (points_of p) ∙ functions_in_order p.functions in
    let count = sym (length-map (labels_in (points_of p)) (λ (l : Label). l.0)) ∙ ap length same in
    sym same ∙ is.numbered ∙ ap (range_with_len 0) count
