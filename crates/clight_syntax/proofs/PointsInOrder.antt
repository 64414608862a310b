-- The annotations of a program stand in the order of its text where its tokens do.
use Rattle.std.proofs.Common.{◌≡◌, ℕ, ◌≤◌, List, [], ◌∷◌, ◌++◌, Option, Some, None, option_map, map, refl, sym, ap, ap₂, ◌∙◌, subst, arith}
use Rattle.std.specs.List.{flat_map}
use Rattle.cerco_base.specs.declared.events.Label.{Label}
use Rattle.clight_source.specs.declared.span.Span.{Span}
use Rattle.clight_syntax.specs.declared.points.Piece.{Piece}
use Rattle.clight_syntax.specs.declared.points.Piece.TheVariants.{After, ArmOpen, ArmClose, ThenClose, BodyClose, DoOpen, DoClose, CondOpen, CondRepeat}
use Rattle.clight_syntax.specs.declared.points.Point.{Point}
use Rattle.clight_syntax.specs.declared.typed.ResultTarget.{ResultTarget}
use Rattle.clight_syntax.specs.TypedTrees.{Expr, Variable, Number, Parenthesis, Binary, Prefix, Cast, Index, Select, Cond, Truth, InParentheses, Not, Both, Either, Test, Call, ForHead, Stmt, Empty, Block, Assign, ReadPort, WritePort, CallOf, If, IfElse, While, Do, For, Break, Continue, Return, Stmts, NoStmts, Then, Function, TypedProgram}
use Rattle.clight_syntax.specs.TypedSpans.{words_spans, expr_spans, cond_spans, assignment_spans, optional_spans, test_spans, arguments_spans, target_spans, call_spans, head_spans, stmt_spans, stmts_spans, body_spans, code_spans, AreAscending}
use Rattle.clight_syntax.specs.Annotations.{AreInOrderFrom, AreInOrder}
use Rattle.clight_syntax.specs.Labelling.{cond_without, test_without, head_without, stmt_without, stmts_without, function_without, without_labels, expr_from, expr_to, cond_from, cond_to, target_from, stmt_from, stmt_to, point, between, arm_points, only_arm_points, body_points, cond_points, head_points, stmt_points, stmts_points, function_points, points_of}

-- ---- places one behind the other

pub ascending_within : (from to : ℕ) (spans : List Span) → AreAscending from spans to → from ≤ to
ascending_within from to [] h = h
ascending_within from to (span ∷ spans) h = let rest = ascending_within span.to to spans h.2 in omega arith

-- two lists of places, one behind the other, and where the first ends
record AreSplit (from : ℕ) (xs ys : List Span) (to : ℕ) : Type 0 where
  seam : ℕ
  front : AreAscending from xs seam
  behind : AreAscending seam ys to

split : (from to : ℕ) (xs ys : List Span) → AreAscending from (xs ++ ys) to → AreSplit from xs ys to
split from to [] ys h = record { seam = from; front = omega arith; behind = h }
split from to (span ∷ xs) ys h =
    let rest = split span.to to xs ys h.2 in
    record { seam = rest.seam; front = (h.0, h.1, rest.front); behind = rest.behind }

-- ---- annotations in order

wider : (from to wide_from wide_to : ℕ) (points : List Point) → wide_from ≤ from → to ≤ wide_to → AreInOrderFrom from to points → AreInOrderFrom wide_from wide_to points
wider from to wide_from wide_to [] f t h = omega arith
wider from to wide_from wide_to (p ∷ points) f t h = (let first = h.0 in omega arith, wider p.at to p.at wide_to points (omega arith) t h.1)

one_behind : (from middle to : ℕ) (points more : List Point) → AreInOrderFrom from middle points → AreInOrderFrom middle to more → AreInOrderFrom from to (points ++ more)
one_behind from middle to [] more h k = wider middle to from to more h (omega arith) k
one_behind from middle to (p ∷ points) more h k = (h.0, one_behind p.at middle to points more h.1 k)

in_between : (from to : ℕ) (points : List Point) (before behind : Piece) → AreInOrderFrom from to points → AreInOrderFrom from to (between (point from before) points (point to behind))
in_between from to points before behind h = (omega arith, one_behind from to to points (point to behind ∷ []) h (omega arith, omega arith))

-- a part's first and last byte lie within two offsets, and its annotations within these
record IsPlaced (low high from to : ℕ) (points : List Point) : Type 0 where
  begins : low ≤ from
  ordered : AreInOrderFrom from to points
  ends : to ≤ high

-- ---- expressions

expr_placed : (e : Expr) (low high : ℕ) → AreAscending low (expr_spans e) high → IsPlaced low high (expr_from e) (expr_to e) []
expr_placed (Variable type variable name) low high h = record { begins = h.0; ordered = h.1; ends = h.2 }
expr_placed (Number type number span) low high h = record { begins = h.0; ordered = h.1; ends = h.2 }
expr_placed (Parenthesis type left e right) low high h =
    let s = split left.to high (expr_spans e) (right ∷ []) h.2 in
    let front = ascending_within left.to s.seam (expr_spans e) s.front in
    let a = h.0 in let b = h.1 in let c = s.behind.0 in let d = s.behind.1 in let f = s.behind.2 in
    record { begins = a; ordered = omega arith; ends = f }
expr_placed (Binary type l operator at r) low high h =
    let s = split low high (expr_spans l) (at ∷ expr_spans r) h in
    let x = expr_placed l low s.seam s.front in
    let y = expr_placed r at.to high s.behind.2 in
    let a = x.begins in let b = x.ordered in let c = x.ends in let d = s.behind.0 in let e = s.behind.1 in
    let f = y.begins in let g = y.ordered in
    record { begins = a; ordered = omega arith; ends = y.ends }
expr_placed (Prefix type operator at e) low high h =
    let x = expr_placed e at.to high h.2 in
    let a = h.1 in let b = x.begins in let c = x.ordered in
    record { begins = h.0; ordered = omega arith; ends = x.ends }
expr_placed (Cast type left words right e) low high h =
    let s = split left.to high (words_spans words) (right ∷ expr_spans e) h.2 in
    let front = ascending_within left.to s.seam (words_spans words) s.front in
    let x = expr_placed e right.to high s.behind.2 in
    let a = h.1 in let b = s.behind.0 in let c = s.behind.1 in let d = x.begins in let f = x.ordered in
    record { begins = h.0; ordered = omega arith; ends = x.ends }
expr_placed (Index type base left index right) low high h =
    let s = split low high (expr_spans base) (left ∷ (expr_spans index ++ right ∷ [])) h in
    let x = expr_placed base low s.seam s.front in
    let t = split left.to high (expr_spans index) (right ∷ []) s.behind.2 in
    let inside = ascending_within left.to t.seam (expr_spans index) t.front in
    let a = x.ordered in let b = x.ends in let c = s.behind.0 in let d = s.behind.1 in let e = t.behind.0 in let f = t.behind.1 in
    record { begins = x.begins; ordered = omega arith; ends = t.behind.2 }
expr_placed (Select type e operator at member offset) low high h =
    let s = split low high (expr_spans e) (at ∷ member.span ∷ []) h in
    let x = expr_placed e low s.seam s.front in
    let a = x.ordered in let b = x.ends in let c = s.behind.0 in let d = s.behind.1 in let f = s.behind.2.0 in let g = s.behind.2.1 in
    record { begins = x.begins; ordered = omega arith; ends = s.behind.2.2 }

-- ---- conditions

operand_placed : (l r : Cond Label) (at : Span) (before behind : Piece) (seam low high : ℕ) → IsPlaced low seam (cond_from l) (cond_to l) (cond_points l) → seam ≤ at.from → at.from ≤ at.to → IsPlaced at.to high (cond_from r) (cond_to r) (cond_points r) → IsPlaced low high (cond_from l) (cond_to r) (between (point (cond_from l) before) (cond_points l) (point (cond_to l) behind) ++ cond_points r)
operand_placed l r at before behind seam low high x a b y =
    let c = x.ends in let d = y.begins in
    record {
      begins = x.begins;
      ordered = one_behind (cond_from l) (cond_to l) (cond_to r) (between (point (cond_from l) before) (cond_points l) (point (cond_to l) behind)) (cond_points r)
          (in_between (cond_from l) (cond_to l) (cond_points l) before behind x.ordered)
          (wider (cond_from r) (cond_to r) (cond_to l) (cond_to r) (cond_points r) (omega arith) (omega arith) y.ordered);
      ends = y.ends;
    }

cond_placed : (c : Cond Label) (low high : ℕ) → AreAscending low (cond_spans c) high → IsPlaced low high (cond_from c) (cond_to c) (cond_points c)
cond_placed (Truth e) low high h = expr_placed e low high h
cond_placed (InParentheses left c right) low high h =
    let s = split left.to high (cond_spans c) (right ∷ []) h.2 in
    let x = cond_placed c left.to s.seam s.front in
    let a = h.1 in let b = x.begins in let d = x.ends in let e = s.behind.0 in let f = s.behind.1 in
    record {
      begins = h.0;
      ordered = wider (cond_from c) (cond_to c) left.from right.to (cond_points c) (omega arith) (omega arith) x.ordered;
      ends = s.behind.2;
    }
cond_placed (Not at c) low high h =
    let x = cond_placed c at.to high h.2 in
    let a = h.1 in let b = x.begins in
    record { begins = h.0; ordered = wider (cond_from c) (cond_to c) at.from (cond_to c) (cond_points c) (omega arith) (omega arith) x.ordered; ends = x.ends }
cond_placed (Both l at on_true on_false r) low high h =
    let s = split low high (cond_spans l) (at ∷ cond_spans r) h in
    operand_placed l r at _ _ s.seam low high (cond_placed l low s.seam s.front) s.behind.0 s.behind.1 (cond_placed r at.to high s.behind.2)
cond_placed (Either l at on_true on_false r) low high h =
    let s = split low high (cond_spans l) (at ∷ cond_spans r) h in
    operand_placed l r at _ _ s.seam low high (cond_placed l low s.seam s.front) s.behind.0 s.behind.1 (cond_placed r at.to high s.behind.2)

-- ---- statements

-- a condition in parentheses behind its keyword
test_placed : (test : Test Label) (low high : ℕ) → AreAscending low (test_spans test) high → IsPlaced low high test.keyword.from high (cond_points test.condition)
test_placed test low high h =
    let s = split test.left.to high (cond_spans test.condition) (test.right ∷ []) h.2.2 in
    let c = test.condition in
    let x = cond_placed c test.left.to s.seam s.front in
    let a = h.1 in let b = h.2.0 in let d = h.2.1 in let e = x.begins in let f = x.ends in
    let g = s.behind.0 in let i = s.behind.1 in let j = s.behind.2 in
    record { begins = h.0; ordered = wider (cond_from c) (cond_to c) test.keyword.from high (cond_points c) (omega arith) (omega arith) x.ordered; ends = omega arith }

-- the condition of a `do`, with an annotation before it and one behind
repeat_placed : (test : Test Label) (before behind : Piece) (low high : ℕ) → AreAscending low (test_spans test) high → AreInOrderFrom low high (between (point (cond_from test.condition) before) (cond_points test.condition) (point (cond_to test.condition) behind))
repeat_placed test before behind low high h =
    let s = split test.left.to high (cond_spans test.condition) (test.right ∷ []) h.2.2 in
    let c = test.condition in
    let x = cond_placed c test.left.to s.seam s.front in
    let a = h.0 in let a' = h.1 in let b = h.2.0 in let d = h.2.1 in let e = x.begins in let f = x.ends in
    let g = s.behind.0 in let i = s.behind.1 in let j = s.behind.2 in
    wider (cond_from c) (cond_to c) low high (between (point (cond_from c) before) (cond_points c) (point (cond_to c) behind)) (omega arith) (omega arith)
    (in_between (cond_from c) (cond_to c) (cond_points c) before behind x.ordered)

optional_placed : (c : Option (Cond Label)) (low high : ℕ) → AreAscending low (optional_spans cond_spans c) high → AreInOrderFrom low high (head_points c)
optional_placed None low high h = h
optional_placed (Some c) low high h =
    let x = cond_placed c low high h in
    wider (cond_from c) (cond_to c) low high (cond_points c) x.begins x.ends x.ordered

head_placed : (head : ForHead Label) (low high : ℕ) → AreAscending low (head_spans head) high → IsPlaced low high head.keyword.from high (head_points head.condition)
head_placed head low high h =
    let s = split head.left.to high (optional_spans assignment_spans head.first) _ h.2.2 in
    let first = ascending_within head.left.to s.seam (optional_spans assignment_spans head.first) s.front in
    let t = split head.first_semicolon.to high (optional_spans cond_spans head.condition) _ s.behind.2 in
    let u = split head.second_semicolon.to high (optional_spans assignment_spans head.step) (head.right ∷ []) t.behind.2 in
    let step = ascending_within head.second_semicolon.to u.seam (optional_spans assignment_spans head.step) u.front in
    let x = optional_placed head.condition head.first_semicolon.to t.seam t.front in
    let a = h.1 in let b = h.2.0 in let c = h.2.1 in let d = s.behind.0 in let e = s.behind.1 in
    let f = t.behind.0 in let g = t.behind.1 in let i = u.behind.0 in let j = u.behind.1 in let k = u.behind.2 in
    record {
      begins = h.0;
      ordered = wider head.first_semicolon.to t.seam head.keyword.from high (head_points head.condition) (omega arith) (omega arith) x;
      ends = omega arith;
    }

-- a body with an annotation before it and one behind, as a part that begins earlier
part_placed : (x : Stmt Label) (before behind : Piece) (low high : ℕ) → IsPlaced low high (stmt_from x) (stmt_to x) (stmt_points x) → AreInOrderFrom low (stmt_to x) (between (point (stmt_from x) before) (stmt_points x) (point (stmt_to x) behind))
part_placed x before behind low high p =
    let begins = p.begins in
    wider (stmt_from x) (stmt_to x) low (stmt_to x) (between (point (stmt_from x) before) (stmt_points x) (point (stmt_to x) behind)) begins (omega arith)
    (in_between (stmt_from x) (stmt_to x) (stmt_points x) before behind p.ordered)

-- a call begins where its target or its name does
call_placed : (target : Option ResultTarget) (call : Call) (low high : ℕ) → AreAscending low (optional_spans target_spans target ++ (call.name.span ∷ (call.left ∷ (arguments_spans call.arguments ++ call.right ∷ [])))) high → (low ≤ target_from target call.name.span.from) × (target_from target call.name.span.from ≤ high)
call_placed None call low high h =
    let rest = ascending_within call.name.span.to high (call.left ∷ (arguments_spans call.arguments ++ call.right ∷ [])) h.2 in
    let a = h.1 in
    (h.0, omega arith)
call_placed (Some x) call low high h =
    let rest = ascending_within x.target.name.span.to high (x.target.equals ∷ (call.name.span ∷ (call.left ∷ (arguments_spans call.arguments ++ call.right ∷ [])))) h.2 in
    let a = h.1 in
    (h.0, omega arith)

mutual
  stmt_placed : (x : Stmt Label) (low high : ℕ) → AreAscending low (stmt_spans x) high → IsPlaced low high (stmt_from x) (stmt_to x) (stmt_points x)
  stmt_placed (Empty semicolon) low high h = record { begins = h.0; ordered = h.1; ends = h.2 }
  stmt_placed (Block left body right) low high h =
      let s = split left.to high (stmts_spans body) (right ∷ []) h.2 in
      let x = stmts_placed body left.to s.seam s.front in
      let a = h.1 in let b = s.behind.0 in let c = s.behind.1 in
      record { begins = h.0; ordered = wider left.to s.seam left.from right.to (stmts_points body) (omega arith) (omega arith) x; ends = s.behind.2 }
  stmt_placed (Assign x semicolon) low high h =
      let s = split low high (assignment_spans x) (semicolon ∷ []) h in
      let t = split low s.seam (expr_spans x.target) (x.equals ∷ expr_spans x.value) s.front in
      let target = expr_placed x.target low t.seam t.front in
      let value = ascending_within x.equals.to s.seam (expr_spans x.value) t.behind.2 in
      let a = target.ordered in let b = target.ends in let c = t.behind.0 in let d = t.behind.1 in let e = s.behind.0 in let f = s.behind.1 in
      record { begins = target.begins; ordered = omega arith; ends = s.behind.2 }
  stmt_placed (ReadPort target equals port semicolon) low high h =
      let s = split low high (expr_spans target) (equals ∷ port ∷ semicolon ∷ []) h in
      let x = expr_placed target low s.seam s.front in
      let a = x.ordered in let b = x.ends in let c = s.behind.0 in let d = s.behind.1 in
      let e = s.behind.2.0 in let f = s.behind.2.1 in let g = s.behind.2.2.0 in let i = s.behind.2.2.1 in
      record { begins = x.begins; ordered = omega arith; ends = s.behind.2.2.2 }
  stmt_placed (WritePort port equals value semicolon) low high h =
      let s = split equals.to high (expr_spans value) (semicolon ∷ []) h.2.2 in
      let inside = ascending_within equals.to s.seam (expr_spans value) s.front in
      let a = h.1 in let b = h.2.0 in let c = h.2.1 in let d = s.behind.0 in let e = s.behind.1 in
      record { begins = h.0; ordered = omega arith; ends = s.behind.2 }
  stmt_placed (CallOf call semicolon back) low high h =
      let s = split low high (call_spans call) (semicolon ∷ []) h in
      let x = call_placed call.target call low s.seam s.front in
      let a = x.1 in let b = s.behind.0 in let c = s.behind.1 in
      record { begins = x.0; ordered = (omega arith, omega arith); ends = s.behind.2 }
  stmt_placed (If test one arm other) low high h =
      let s = split low high (test_spans test) (stmt_spans arm) h in
      let t = test_placed test low s.seam s.front in
      let x = stmt_placed arm s.seam high s.behind in
      record { begins = t.begins; ordered = one_behind test.keyword.from s.seam (stmt_to arm) (cond_points test.condition) (only_arm_points one (stmt_from arm) (stmt_points arm) (stmt_to arm) other) t.ordered (part_placed arm (ArmOpen one) (ThenClose other) s.seam high x); ends = x.ends }
  stmt_placed (IfElse test one arm else other otherwise) low high h =
      let s = split low high (test_spans test) (stmt_spans arm ++ (else ∷ stmt_spans otherwise)) h in
      let t = test_placed test low s.seam s.front in
      let u = split s.seam high (stmt_spans arm) (else ∷ stmt_spans otherwise) s.behind in
      let x = stmt_placed arm s.seam u.seam u.front in
      let y = stmt_placed otherwise else.to high u.behind.2 in
      let a = x.ends in let b = u.behind.0 in let c = u.behind.1 in let d = y.begins in
      let between_arms : stmt_to arm ≤ else.to = omega arith in
      let front = arm_points one (stmt_from arm) (stmt_points arm) (stmt_to arm) in
      let behind = arm_points other (stmt_from otherwise) (stmt_points otherwise) (stmt_to otherwise) in
      record {
        begins = t.begins;
        ordered = one_behind test.keyword.from s.seam (stmt_to otherwise) (cond_points test.condition) (front ++ behind) t.ordered
            (one_behind s.seam (stmt_to arm) (stmt_to otherwise) front behind (part_placed arm (ArmOpen one) ArmClose s.seam u.seam x)
            (wider else.to (stmt_to otherwise) (stmt_to arm) (stmt_to otherwise) behind between_arms (omega arith) (part_placed otherwise (ArmOpen other) ArmClose else.to high y)));
        ends = y.ends;
      }
  stmt_placed (While test turn body after) low high h =
      let s = split low high (test_spans test) (stmt_spans body) h in
      let t = test_placed test low s.seam s.front in
      let x = stmt_placed body s.seam high s.behind in
      record { begins = t.begins; ordered = one_behind test.keyword.from s.seam (stmt_to body) (cond_points test.condition) (body_points turn (stmt_from body) (stmt_points body) (stmt_to body) after) t.ordered (part_placed body (ArmOpen turn) (BodyClose after) s.seam high x); ends = x.ends }
  stmt_placed (Do keyword body test again semicolon after) low high h =
      let s = split keyword.to high (stmt_spans body) (test_spans test ++ semicolon ∷ []) h.2 in
      let x = stmt_placed body keyword.to s.seam s.front in
      let u = split s.seam high (test_spans test) (semicolon ∷ []) s.behind in
      let t = repeat_placed test CondOpen (CondRepeat again) s.seam u.seam u.front in
      let c = test.condition in
      let inside = between (point (stmt_from body) DoOpen) (stmt_points body) (point (stmt_to body) DoClose) in
      let repeated = between (point (cond_from c) CondOpen) (cond_points c) (point (cond_to c) (CondRepeat again)) in
      let last = point semicolon.to (After after) ∷ [] in
      let a = h.1 in let b = x.begins in let f = x.ends in let d = u.behind.0 in let e = u.behind.1 in
      record {
        begins = h.0;
        ordered = one_behind keyword.from s.seam semicolon.to inside (repeated ++ last)
            (wider keyword.to (stmt_to body) keyword.from s.seam inside a x.ends (part_placed body DoOpen DoClose keyword.to s.seam x))
            (one_behind s.seam u.seam semicolon.to repeated last t (omega arith, omega arith));
        ends = u.behind.2;
      }
  stmt_placed (For head turn body after) low high h =
      let s = split low high (head_spans head) (stmt_spans body) h in
      let t = head_placed head low s.seam s.front in
      let x = stmt_placed body s.seam high s.behind in
      record { begins = t.begins; ordered = one_behind head.keyword.from s.seam (stmt_to body) (head_points head.condition) (body_points turn (stmt_from body) (stmt_points body) (stmt_to body) after) t.ordered (part_placed body (ArmOpen turn) (BodyClose after) s.seam high x); ends = x.ends }
  stmt_placed (Break keyword semicolon) low high h =
      let a = h.1 in let b = h.2.0 in let c = h.2.1 in
      record { begins = h.0; ordered = omega arith; ends = h.2.2 }
  stmt_placed (Continue keyword semicolon) low high h =
      let a = h.1 in let b = h.2.0 in let c = h.2.1 in
      record { begins = h.0; ordered = omega arith; ends = h.2.2 }
  stmt_placed (Return keyword value semicolon) low high h =
      let s = split keyword.to high (optional_spans expr_spans value) (semicolon ∷ []) h.2 in
      let inside = ascending_within keyword.to s.seam (optional_spans expr_spans value) s.front in
      let a = h.1 in let b = s.behind.0 in let c = s.behind.1 in
      record { begins = h.0; ordered = omega arith; ends = s.behind.2 }

  stmts_placed : (xs : Stmts Label) (low high : ℕ) → AreAscending low (stmts_spans xs) high → AreInOrderFrom low high (stmts_points xs)
  stmts_placed NoStmts low high h = h
  stmts_placed (Then earlier last) low high h =
      let s = split low high (stmts_spans earlier) (stmt_spans last) h in
      let x = stmt_placed last s.seam high s.behind in
      one_behind low s.seam high (stmts_points earlier) (stmt_points last) (stmts_placed earlier low s.seam s.front)
      (wider (stmt_from last) (stmt_to last) s.seam high (stmt_points last) x.begins x.ends x.ordered)

-- ---- programs

function_placed : (f : Function Label) (low high : ℕ) → AreAscending low (body_spans f) high → AreInOrderFrom low high (function_points f)
function_placed f low high h =
    let s = split f.left.to high (stmts_spans f.body) (f.right ∷ []) h.2 in
    let x = stmts_placed f.body f.left.to s.seam s.front in
    let a = h.0 in let b = h.1 in let c = s.behind.0 in let d = s.behind.1 in let e = s.behind.2 in
    (omega arith, wider f.left.to s.seam f.left.to high (stmts_points f.body) (omega arith) (omega arith) x)

functions_placed : (fs : List (Function Label)) (low high : ℕ) → AreAscending low (flat_map body_spans fs) high → AreInOrderFrom low high (flat_map function_points fs)
functions_placed [] low high h = h
functions_placed (f ∷ fs) low high h =
    let s = split low high (body_spans f) (flat_map body_spans fs) h in
    one_behind low s.seam high (function_points f) (flat_map function_points fs) (function_placed f low s.seam s.front) (functions_placed fs s.seam high s.behind)

-- where the tokens of the functions' bodies stand one behind the other in a text of this size, the annotations stand in its order
pub points_in_order : (p : TypedProgram Label) (size : ℕ) → AreAscending 0 (code_spans p) size → AreInOrder size (points_of p)
points_in_order p size h = (omega arith, functions_placed p.functions 0 size h)

-- ---- the tokens of a program stand where they stood before it got labels

cond_spans-without : (c : Cond Label) → cond_spans (cond_without c) ≡ cond_spans c
cond_spans-without (Truth e) = refl
cond_spans-without (InParentheses left c right) = ap (λ spans. left ∷ (spans ++ right ∷ [])) (cond_spans-without c)
cond_spans-without (Not at c) = ap (λ spans. at ∷ spans) (cond_spans-without c)
cond_spans-without (Both l at on_true on_false r) = ap₂ (λ s t. s ++ (at ∷ t)) (cond_spans-without l) (cond_spans-without r)
cond_spans-without (Either l at on_true on_false r) = ap₂ (λ s t. s ++ (at ∷ t)) (cond_spans-without l) (cond_spans-without r)

test_spans-without : (x : Test Label) → test_spans (test_without x) ≡ test_spans x
test_spans-without x = ap (λ spans. x.keyword ∷ (x.left ∷ (spans ++ x.right ∷ []))) (cond_spans-without x.condition)

optional_spans-without : (c : Option (Cond Label)) → optional_spans cond_spans (option_map cond_without c) ≡ optional_spans cond_spans c
optional_spans-without None = refl
optional_spans-without (Some c) = cond_spans-without c

head_spans-without : (x : ForHead Label) → head_spans (head_without x) ≡ head_spans x
head_spans-without x =
    ap (λ spans. x.keyword ∷ (x.left ∷ (optional_spans assignment_spans x.first ++ (x.first_semicolon
    ∷ (spans ++ (x.second_semicolon ∷ (optional_spans assignment_spans x.step ++ x.right ∷ []))))))) (optional_spans-without x.condition)

mutual
  stmt_spans-without : (x : Stmt Label) → stmt_spans (stmt_without x) ≡ stmt_spans x
  stmt_spans-without (Empty semicolon) = refl
  stmt_spans-without (Block left body right) = ap (λ spans. left ∷ (spans ++ right ∷ [])) (stmts_spans-without body)
  stmt_spans-without (Assign x semicolon) = refl
  stmt_spans-without (ReadPort target equals port semicolon) = refl
  stmt_spans-without (WritePort port equals value semicolon) = refl
  stmt_spans-without (CallOf call semicolon back) = refl
  stmt_spans-without (If test one arm other) = ap₂ (λ s t. s ++ t) (test_spans-without test) (stmt_spans-without arm)
  stmt_spans-without (IfElse test one arm else other otherwise) =
      ap₂ (λ s t. s ++ t) (test_spans-without test) (ap₂ (λ s t. s ++ (else ∷ t)) (stmt_spans-without arm) (stmt_spans-without otherwise))
  stmt_spans-without (While test turn body after) = ap₂ (λ s t. s ++ t) (test_spans-without test) (stmt_spans-without body)
  stmt_spans-without (Do keyword body test again semicolon after) =
      ap₂ (λ s t. keyword ∷ (s ++ (t ++ semicolon ∷ []))) (stmt_spans-without body) (test_spans-without test)
  stmt_spans-without (For head turn body after) = ap₂ (λ s t. s ++ t) (head_spans-without head) (stmt_spans-without body)
  stmt_spans-without (Break keyword semicolon) = refl
  stmt_spans-without (Continue keyword semicolon) = refl
  stmt_spans-without (Return keyword value semicolon) = refl

  stmts_spans-without : (xs : Stmts Label) → stmts_spans (stmts_without xs) ≡ stmts_spans xs
  stmts_spans-without NoStmts = refl
  stmts_spans-without (Then earlier last) = ap₂ (λ s t. s ++ t) (stmts_spans-without earlier) (stmt_spans-without last)

functions_spans-without : (fs : List (Function Label)) → flat_map body_spans (map function_without fs) ≡ flat_map body_spans fs
functions_spans-without [] = refl
functions_spans-without (f ∷ fs) = ap₂ (λ s t. (f.left ∷ (s ++ f.right ∷ [])) ++ t) (stmts_spans-without f.body) (functions_spans-without fs)

-- where the tokens of a typed program stand one behind the other, so do the annotations of its labelled program
pub labelled_in_order : (typed : TypedProgram (Unit {0})) (labelled : TypedProgram Label) (size : ℕ) → without_labels labelled ≡ typed → AreAscending 0 (code_spans typed) size → AreInOrder size (points_of labelled)
labelled_in_order typed labelled size alone h =
    let Ascending : List Span → Type 0 = λ spans. AreAscending 0 spans size in
    points_in_order labelled size (subst Ascending (ap code_spans (sym alone) ∙ functions_spans-without labelled.functions) h)
