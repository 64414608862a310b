-- A program has one labelled program: its labels are determined by their order.
use Rattle.std.proofs.Common.{◌≡◌, ℕ, ◌+◌, List, [], ◌∷◌, ◌++◌, Option, Some, None, option_map, map, refl, sym, ap, ap₂, ◌∙◌, append_assoc, append-nil, subst}
use Rattle.std.specs.List.{flat_map}
use Rattle.std.proofs.lemmas.Grind.{flat_map-append}
use Rattle.cerco_base.specs.declared.events.Label.{Label}
use Rattle.clight_syntax.specs.declared.points.Piece.{Piece}
use Rattle.clight_syntax.specs.declared.points.Piece.TheVariants.{After, ArmOpen, ArmClose, ThenClose, BodyClose, DoOpen, DoClose, CondOpen, CondBoth, CondRepeat}
use Rattle.clight_syntax.specs.declared.points.Point.{Point}
use Rattle.clight_syntax.specs.TypedTrees.{Cond, Truth, InParentheses, Not, Both, Either, Test, ForHead, Stmt, Empty, Block, Assign, ReadPort, WritePort, CallOf, If, IfElse, While, Do, For, Break, Continue, Return, Stmts, NoStmts, Then, Function, TypedProgram}
use Rattle.clight_syntax.specs.Annotations.{labels_of, labels_in, AreNumberedFrom}
use Rattle.clight_syntax.specs.Labelling.{cond_without, test_without, head_without, stmt_without, stmts_without, function_without, cond_from, cond_to, stmt_from, stmt_to, point, between, arm_points, only_arm_points, body_points, cond_points, head_points, stmt_points, stmts_points, function_points, IsLabelled}

-- ---- the labels of a part, before those of what follows it

abbrev cond_labels : Cond Label → List Label → List Label
cond_labels (Truth e) more = more
cond_labels (InParentheses left c right) more = cond_labels c more
cond_labels (Not at c) more = cond_labels c more
cond_labels (Both l at on_true on_false r) more = cond_labels l (on_true ∷ on_false ∷ cond_labels r more)
cond_labels (Either l at on_true on_false r) more = cond_labels l (on_true ∷ on_false ∷ cond_labels r more)

abbrev head_labels : Option (Cond Label) → List Label → List Label
head_labels None more = more
head_labels (Some c) more = cond_labels c more

abbrev mutual
  stmt_labels : Stmt Label → List Label → List Label
  stmt_labels (Empty semicolon) more = more
  stmt_labels (Block left body right) more = stmts_labels body more
  stmt_labels (Assign x semicolon) more = more
  stmt_labels (ReadPort target equals port semicolon) more = more
  stmt_labels (WritePort port equals value semicolon) more = more
  stmt_labels (CallOf call semicolon back) more = back ∷ more
  stmt_labels (If test one arm other) more = cond_labels test.condition (one ∷ stmt_labels arm (other ∷ more))
  stmt_labels (IfElse test one arm else other otherwise) more = cond_labels test.condition (one ∷ stmt_labels arm (other ∷ stmt_labels otherwise more))
  stmt_labels (While test turn body after) more = cond_labels test.condition (turn ∷ stmt_labels body (after ∷ more))
  stmt_labels (Do keyword body test again semicolon after) more = stmt_labels body (cond_labels test.condition (again ∷ after ∷ more))
  stmt_labels (For head turn body after) more = head_labels head.condition (turn ∷ stmt_labels body (after ∷ more))
  stmt_labels (Break keyword semicolon) more = more
  stmt_labels (Continue keyword semicolon) more = more
  stmt_labels (Return keyword value semicolon) more = more

  stmts_labels : Stmts Label → List Label → List Label
  stmts_labels NoStmts more = more
  stmts_labels (Then earlier last) more = stmts_labels earlier (stmt_labels last more)

abbrev functions_labels : List (Function Label) → List Label → List Label
functions_labels [] more = more
functions_labels (f ∷ fs) more = f.label ∷ stmts_labels f.body (functions_labels fs more)

-- ---- they are those that the annotations name

both_name : (points others : List Point) (more : List Label) → labels_in (points ++ others) ++ more ≡ labels_in points ++ (labels_in others ++ more)
both_name points others more =
    ap (λ labels. labels ++ more) (flat_map-append (λ (p : Point). labels_of p.piece) points others) ∙ append_assoc (labels_in points) (labels_in others) more

between_name : (from to : ℕ) (points : List Point) (before behind : Piece) (more : List Label) → labels_in (between (point from before) points (point to behind)) ++ more ≡ labels_of before ++ (labels_in points ++ (labels_of behind ++ more))
between_name from to points before behind more =
    append_assoc (labels_of before) (labels_in (points ++ point to behind ∷ [])) more
    ∙ ap (λ labels. labels_of before ++ labels) (both_name points (point to behind ∷ []) more ∙ ap (λ labels. labels_in points ++ (labels ++ more)) (append-nil (labels_of behind)))

-- with the labels of the part inside and those of what follows as known
part_names : (from to : ℕ) (points others : List Point) (before behind : Piece) (more rest inside : List Label) → labels_in others ++ more ≡ rest → labels_in points ++ (labels_of behind ++ rest) ≡ inside → labels_in (between (point from before) points (point to behind) ++ others) ++ more ≡ labels_of before ++ inside
part_names from to points others before behind more rest inside e f =
    both_name (between (point from before) points (point to behind)) others more
    ∙ ap (λ labels. labels_in (between (point from before) points (point to behind)) ++ labels) e
    ∙ between_name from to points before behind rest
    ∙ ap (λ labels. labels_of before ++ labels) f

last_names : (from to : ℕ) (points : List Point) (before behind : Piece) (more inside : List Label) → labels_in points ++ (labels_of behind ++ more) ≡ inside → labels_in (between (point from before) points (point to behind)) ++ more ≡ labels_of before ++ inside
last_names from to points before behind more inside f = between_name from to points before behind more ∙ ap (λ labels. labels_of before ++ labels) f

cond_names : (c : Cond Label) (more : List Label) → labels_in (cond_points c) ++ more ≡ cond_labels c more
cond_names (Truth e) more = refl
cond_names (InParentheses left c right) more = cond_names c more
cond_names (Not at c) more = cond_names c more
cond_names (Both l at on_true on_false r) more =
    part_names (cond_from l) (cond_to l) (cond_points l) (cond_points r) CondOpen (CondBoth on_true on_false) more _ _ (cond_names r more) (cond_names l (on_true ∷ on_false ∷ cond_labels r more))
cond_names (Either l at on_true on_false r) more =
    part_names (cond_from l) (cond_to l) (cond_points l) (cond_points r) CondOpen (CondBoth on_true on_false) more _ _ (cond_names r more) (cond_names l (on_true ∷ on_false ∷ cond_labels r more))

head_names : (c : Option (Cond Label)) (more : List Label) → labels_in (head_points c) ++ more ≡ head_labels c more
head_names None more = refl
head_names (Some c) more = cond_names c more

mutual
  stmt_names : (x : Stmt Label) (more : List Label) → labels_in (stmt_points x) ++ more ≡ stmt_labels x more
  stmt_names (Empty semicolon) more = refl
  stmt_names (Block left body right) more = stmts_names body more
  stmt_names (Assign x semicolon) more = refl
  stmt_names (ReadPort target equals port semicolon) more = refl
  stmt_names (WritePort port equals value semicolon) more = refl
  stmt_names (CallOf call semicolon back) more = refl
  stmt_names (If test one arm other) more =
      both_name (cond_points test.condition) (only_arm_points one (stmt_from arm) (stmt_points arm) (stmt_to arm) other) more
      ∙ ap (λ labels. labels_in (cond_points test.condition) ++ labels) (last_names (stmt_from arm) (stmt_to arm) (stmt_points arm) (ArmOpen one) (ThenClose other) more _ (stmt_names arm (other ∷ more)))
      ∙ cond_names test.condition (one ∷ stmt_labels arm (other ∷ more))
  stmt_names (IfElse test one arm else other otherwise) more =
      both_name (cond_points test.condition) (arm_points one (stmt_from arm) (stmt_points arm) (stmt_to arm) ++ arm_points other (stmt_from otherwise) (stmt_points otherwise) (stmt_to otherwise)) more
      ∙ ap (λ labels. labels_in (cond_points test.condition) ++ labels)
      (part_names (stmt_from arm) (stmt_to arm) (stmt_points arm) (arm_points other (stmt_from otherwise) (stmt_points otherwise) (stmt_to otherwise)) (ArmOpen one) ArmClose more _ _
      (last_names (stmt_from otherwise) (stmt_to otherwise) (stmt_points otherwise) (ArmOpen other) ArmClose more _ (stmt_names otherwise more))
      (stmt_names arm (other ∷ stmt_labels otherwise more)))
      ∙ cond_names test.condition (one ∷ stmt_labels arm (other ∷ stmt_labels otherwise more))
  stmt_names (While test turn body after) more =
      both_name (cond_points test.condition) (body_points turn (stmt_from body) (stmt_points body) (stmt_to body) after) more
      ∙ ap (λ labels. labels_in (cond_points test.condition) ++ labels) (last_names (stmt_from body) (stmt_to body) (stmt_points body) (ArmOpen turn) (BodyClose after) more _ (stmt_names body (after ∷ more)))
      ∙ cond_names test.condition (turn ∷ stmt_labels body (after ∷ more))
  stmt_names (Do keyword body test again semicolon after) more =
      let c = test.condition in
      part_names (stmt_from body) (stmt_to body) (stmt_points body) (between (point (cond_from c) CondOpen) (cond_points c) (point (cond_to c) (CondRepeat again)) ++ point semicolon.to (After after) ∷ []) DoOpen DoClose more _ _
      (part_names (cond_from c) (cond_to c) (cond_points c) (point semicolon.to (After after) ∷ []) CondOpen (CondRepeat again) more (after ∷ more) _ refl (cond_names c (again ∷ after ∷ more)))
      (stmt_names body (cond_labels c (again ∷ after ∷ more)))
  stmt_names (For head turn body after) more =
      both_name (head_points head.condition) (body_points turn (stmt_from body) (stmt_points body) (stmt_to body) after) more
      ∙ ap (λ labels. labels_in (head_points head.condition) ++ labels) (last_names (stmt_from body) (stmt_to body) (stmt_points body) (ArmOpen turn) (BodyClose after) more _ (stmt_names body (after ∷ more)))
      ∙ head_names head.condition (turn ∷ stmt_labels body (after ∷ more))
  stmt_names (Break keyword semicolon) more = refl
  stmt_names (Continue keyword semicolon) more = refl
  stmt_names (Return keyword value semicolon) more = refl

  stmts_names : (xs : Stmts Label) (more : List Label) → labels_in (stmts_points xs) ++ more ≡ stmts_labels xs more
  stmts_names NoStmts more = refl
  stmts_names (Then earlier last) more =
      both_name (stmts_points earlier) (stmt_points last) more
      ∙ ap (λ labels. labels_in (stmts_points earlier) ++ labels) (stmt_names last more)
      ∙ stmts_names earlier (stmt_labels last more)

functions_names : (fs : List (Function Label)) (more : List Label) → labels_in (flat_map function_points fs) ++ more ≡ functions_labels fs more
functions_names [] more = refl
functions_names (f ∷ fs) more =
    both_name (function_points f) (flat_map function_points fs) more
    ∙ ap (λ labels. f.label ∷ (labels_in (stmts_points f.body) ++ labels)) (functions_names fs more)
    ∙ ap (λ labels. f.label ∷ labels) (stmts_names f.body (functions_labels fs more))

-- ---- the tree with labels from a number on

-- a part with its labels, and the number of the next label
record Numbered (A : Type 0) : Type 0 where
  tree : A
  next : ℕ

abbrev label : ℕ → Label
label number = record { 0 = number }

abbrev cond_numbered : Cond (Unit {0}) → ℕ → Numbered (Cond Label)
cond_numbered (Truth e) n = record { tree = Truth e; next = n }
cond_numbered (InParentheses left c right) n = let x = cond_numbered c n in record { tree = InParentheses left x.tree right; next = x.next }
cond_numbered (Not at c) n = let x = cond_numbered c n in record { tree = Not at x.tree; next = x.next }
cond_numbered (Both l at on_true on_false r) n =
    let x = cond_numbered l n in let y = cond_numbered r (x.next + 1 + 1) in
    record { tree = Both x.tree at (label x.next) (label (x.next + 1)) y.tree; next = y.next }
cond_numbered (Either l at on_true on_false r) n =
    let x = cond_numbered l n in let y = cond_numbered r (x.next + 1 + 1) in
    record { tree = Either x.tree at (label x.next) (label (x.next + 1)) y.tree; next = y.next }

abbrev test_with : Test (Unit {0}) → Cond Label → Test Label
test_with x c = record { keyword = x.keyword; left = x.left; condition = c; right = x.right }

abbrev optional_numbered : Option (Cond (Unit {0})) → ℕ → Numbered (Option (Cond Label))
optional_numbered None n = record { tree = None; next = n }
optional_numbered (Some c) n = let x = cond_numbered c n in record { tree = Some x.tree; next = x.next }

abbrev head_with : ForHead (Unit {0}) → Option (Cond Label) → ForHead Label
head_with x c =
    record { keyword = x.keyword; left = x.left; first = x.first; first_semicolon = x.first_semicolon; condition = c; second_semicolon = x.second_semicolon; step = x.step; right = x.right }

abbrev mutual
  stmt_numbered : Stmt (Unit {0}) → ℕ → Numbered (Stmt Label)
  stmt_numbered (Empty semicolon) n = record { tree = Empty semicolon; next = n }
  stmt_numbered (Block left body right) n = let x = stmts_numbered body n in record { tree = Block left x.tree right; next = x.next }
  stmt_numbered (Assign x semicolon) n = record { tree = Assign x semicolon; next = n }
  stmt_numbered (ReadPort target equals port semicolon) n = record { tree = ReadPort target equals port semicolon; next = n }
  stmt_numbered (WritePort port equals value semicolon) n = record { tree = WritePort port equals value semicolon; next = n }
  stmt_numbered (CallOf call semicolon back) n = record { tree = CallOf call semicolon (label n); next = n + 1 }
  stmt_numbered (If test one arm other) n =
      let c = cond_numbered test.condition n in let x = stmt_numbered arm (c.next + 1) in
      record { tree = If (test_with test c.tree) (label c.next) x.tree (label x.next); next = x.next + 1 }
  stmt_numbered (IfElse test one arm else other otherwise) n =
      let c = cond_numbered test.condition n in let x = stmt_numbered arm (c.next + 1) in let y = stmt_numbered otherwise (x.next + 1) in
      record { tree = IfElse (test_with test c.tree) (label c.next) x.tree else (label x.next) y.tree; next = y.next }
  stmt_numbered (While test turn body after) n =
      let c = cond_numbered test.condition n in let x = stmt_numbered body (c.next + 1) in
      record { tree = While (test_with test c.tree) (label c.next) x.tree (label x.next); next = x.next + 1 }
  stmt_numbered (Do keyword body test again semicolon after) n =
      let x = stmt_numbered body n in let c = cond_numbered test.condition x.next in
      record { tree = Do keyword x.tree (test_with test c.tree) (label c.next) semicolon (label (c.next + 1)); next = c.next + 1 + 1 }
  stmt_numbered (For head turn body after) n =
      let c = optional_numbered head.condition n in let x = stmt_numbered body (c.next + 1) in
      record { tree = For (head_with head c.tree) (label c.next) x.tree (label x.next); next = x.next + 1 }
  stmt_numbered (Break keyword semicolon) n = record { tree = Break keyword semicolon; next = n }
  stmt_numbered (Continue keyword semicolon) n = record { tree = Continue keyword semicolon; next = n }
  stmt_numbered (Return keyword value semicolon) n = record { tree = Return keyword value semicolon; next = n }

  stmts_numbered : Stmts (Unit {0}) → ℕ → Numbered (Stmts Label)
  stmts_numbered NoStmts n = record { tree = NoStmts; next = n }
  stmts_numbered (Then earlier last) n =
      let xs = stmts_numbered earlier n in let x = stmt_numbered last xs.next in
      record { tree = Then xs.tree x.tree; next = x.next }

abbrev function_with : Function (Unit {0}) → Label → Stmts Label → Function Label
function_with x l body =
    record { header = x.header; result = x.result; first_variable = x.first_variable; parameters = x.parameters; left = x.left; label = l; locals = x.locals; body = body; right = x.right }

abbrev functions_numbered : List (Function (Unit {0})) → ℕ → List (Function Label)
functions_numbered [] n = []
functions_numbered (f ∷ fs) n =
    let x = stmts_numbered f.body (n + 1) in function_with f (label n) x.tree ∷ functions_numbered fs x.next

abbrev pub labelled_from : TypedProgram (Unit {0}) → TypedProgram Label
labelled_from x =
    record { names = x.names; items = x.items; span = x.span; structs = x.structs; variables = x.variables; functions = functions_numbered x.functions 0; main = x.main; frames = x.frames; data_bytes = x.data_bytes; calls = x.calls }

-- ---- a tree whose labels follow on each other is that one

-- the labels have a number and those behind it
abbrev AreNext : ℕ → List Label → Type 0
AreNext n [] = Unit {0}
AreNext n (l ∷ ls) = (l.0 ≡ n) × AreNext (n + 1) ls

are_next : (n : ℕ) (ls : List Label) → AreNumberedFrom n ls → AreNext n ls
are_next n [] e = tt
are_next n (l ∷ ls) e =
    let first : l.0 ≡ n = cc in
    let rest : AreNumberedFrom (n + 1) ls = cc in
    (first, are_next (n + 1) ls rest)

label_is : (l : Label) (n : ℕ) → l.0 ≡ n → label n ≡ l
label_is l n e = ap label (sym e)

-- a part is the numbered one, and the labels behind it follow on
record Agrees {A : Type 0} (numbered : Numbered A) (tree : A) (more : List Label) : Type 0 where
  same : numbered.tree ≡ tree
  behind : AreNext numbered.next more

cond_agrees : (c : Cond Label) (n : ℕ) (more : List Label) → AreNext n (cond_labels c more) → Agrees (cond_numbered (cond_without c) n) c more
cond_agrees (Truth e) n more h = record { same = refl; behind = h }
cond_agrees (InParentheses left c right) n more h =
    let x = cond_agrees c n more h in record { same = ap (λ t. InParentheses left t right) x.same; behind = x.behind }
cond_agrees (Not at c) n more h =
    let x = cond_agrees c n more h in record { same = ap (λ t. Not at t) x.same; behind = x.behind }
cond_agrees (Both l at on_true on_false r) n more h =
    let x = cond_agrees l n (on_true ∷ on_false ∷ cond_labels r more) h in
    let y = cond_agrees r _ more x.behind.1.1 in
    let a = x.same in let b = label_is on_true _ x.behind.0 in let c = label_is on_false _ x.behind.1.0 in let d = y.same in
    record { same = cc; behind = y.behind }
cond_agrees (Either l at on_true on_false r) n more h =
    let x = cond_agrees l n (on_true ∷ on_false ∷ cond_labels r more) h in
    let y = cond_agrees r _ more x.behind.1.1 in
    let a = x.same in let b = label_is on_true _ x.behind.0 in let c = label_is on_false _ x.behind.1.0 in let d = y.same in
    record { same = cc; behind = y.behind }

optional_agrees : (c : Option (Cond Label)) (n : ℕ) (more : List Label) → AreNext n (head_labels c more) → Agrees (optional_numbered (option_map cond_without c) n) c more
optional_agrees None n more h = record { same = refl; behind = h }
optional_agrees (Some c) n more h = let x = cond_agrees c n more h in record { same = ap (λ t. Some t) x.same; behind = x.behind }

test_same : (test : Test Label) (c : Cond Label) → c ≡ test.condition → test_with (test_without test) c ≡ test
test_same test c e = ap (test_with (test_without test)) e

head_same : (head : ForHead Label) (c : Option (Cond Label)) → c ≡ head.condition → head_with (head_without head) c ≡ head
head_same head c e = ap (head_with (head_without head)) e

mutual
  stmt_agrees : (x : Stmt Label) (n : ℕ) (more : List Label) → AreNext n (stmt_labels x more) → Agrees (stmt_numbered (stmt_without x) n) x more
  stmt_agrees (Empty semicolon) n more h = record { same = refl; behind = h }
  stmt_agrees (Block left body right) n more h =
      let x = stmts_agree body n more h in record { same = ap (λ t. Block left t right) x.same; behind = x.behind }
  stmt_agrees (Assign x semicolon) n more h = record { same = refl; behind = h }
  stmt_agrees (ReadPort target equals port semicolon) n more h = record { same = refl; behind = h }
  stmt_agrees (WritePort port equals value semicolon) n more h = record { same = refl; behind = h }
  stmt_agrees (CallOf call semicolon back) n more h = record { same = ap (λ l. CallOf call semicolon l) (label_is back n h.0); behind = h.1 }
  stmt_agrees (If test one arm other) n more h =
      let c = cond_agrees test.condition n (one ∷ stmt_labels arm (other ∷ more)) h in
      let x = stmt_agrees arm _ (other ∷ more) c.behind.1 in
      let t = test_same test _ c.same in let a = label_is one _ c.behind.0 in let b = x.same in let d = label_is other _ x.behind.0 in
      record { same = cc; behind = x.behind.1 }
  stmt_agrees (IfElse test one arm else other otherwise) n more h =
      let c = cond_agrees test.condition n (one ∷ stmt_labels arm (other ∷ stmt_labels otherwise more)) h in
      let x = stmt_agrees arm _ (other ∷ stmt_labels otherwise more) c.behind.1 in
      let y = stmt_agrees otherwise _ more x.behind.1 in
      let t = test_same test _ c.same in let a = label_is one _ c.behind.0 in let b = x.same in let d = label_is other _ x.behind.0 in let e = y.same in
      record { same = cc; behind = y.behind }
  stmt_agrees (While test turn body after) n more h =
      let c = cond_agrees test.condition n (turn ∷ stmt_labels body (after ∷ more)) h in
      let x = stmt_agrees body _ (after ∷ more) c.behind.1 in
      let t = test_same test _ c.same in let a = label_is turn _ c.behind.0 in let b = x.same in let d = label_is after _ x.behind.0 in
      record { same = cc; behind = x.behind.1 }
  stmt_agrees (Do keyword body test again semicolon after) n more h =
      let x = stmt_agrees body n (cond_labels test.condition (again ∷ after ∷ more)) h in
      let c = cond_agrees test.condition _ (again ∷ after ∷ more) x.behind in
      let t = test_same test _ c.same in let a = label_is again _ c.behind.0 in let b = x.same in let d = label_is after _ c.behind.1.0 in
      record { same = cc; behind = c.behind.1.1 }
  stmt_agrees (For head turn body after) n more h =
      let c = optional_agrees head.condition n (turn ∷ stmt_labels body (after ∷ more)) h in
      let x = stmt_agrees body _ (after ∷ more) c.behind.1 in
      let t = head_same head _ c.same in let a = label_is turn _ c.behind.0 in let b = x.same in let d = label_is after _ x.behind.0 in
      record { same = cc; behind = x.behind.1 }
  stmt_agrees (Break keyword semicolon) n more h = record { same = refl; behind = h }
  stmt_agrees (Continue keyword semicolon) n more h = record { same = refl; behind = h }
  stmt_agrees (Return keyword value semicolon) n more h = record { same = refl; behind = h }

  stmts_agree : (xs : Stmts Label) (n : ℕ) (more : List Label) → AreNext n (stmts_labels xs more) → Agrees (stmts_numbered (stmts_without xs) n) xs more
  stmts_agree NoStmts n more h = record { same = refl; behind = h }
  stmts_agree (Then earlier last) n more h =
      let xs = stmts_agree earlier n (stmt_labels last more) h in
      let x = stmt_agrees last _ more xs.behind in
      let a = xs.same in let b = x.same in
      record { same = cc; behind = x.behind }

functions_agree : (fs : List (Function Label)) (n : ℕ) → AreNext n (functions_labels fs []) → functions_numbered (map function_without fs) n ≡ fs
functions_agree [] n h = refl
functions_agree (f ∷ fs) n h =
    let x = stmts_agree f.body (n + 1) (functions_labels fs []) h.1 in
    let a = x.same in let b = label_is f.label n h.0 in let c = functions_agree fs _ x.behind in
    ap₂ (λ g gs. g ∷ gs) (ap₂ (function_with (function_without f)) b a) c

-- ---- the law

-- the labelled program of a typed one
pub labelled_is : (typed : TypedProgram (Unit {0})) (labelled : TypedProgram Label) → IsLabelled typed labelled → labelled ≡ labelled_from typed
labelled_is typed labelled is =
    let Numbers : List Label → Type 0 = λ labels. AreNumberedFrom 0 labels in
    let numbered = subst Numbers (sym (append-nil (labels_in (flat_map function_points labelled.functions))) ∙ functions_names labelled.functions []) is.numbered in
    let functions = functions_agree labelled.functions 0 (are_next 0 _ numbered) in
    ap (λ fs. record labelled { functions = fs }) (sym functions) ∙ ap labelled_from is.typed_alone

-- two labelled programs of one typed program are the same
pub labelled_once : (typed : TypedProgram (Unit {0})) (one other : TypedProgram Label) → IsLabelled typed one → IsLabelled typed other → one ≡ other
labelled_once typed one other a b = labelled_is typed one a ∙ sym (labelled_is typed other b)
