-- The levels of the nodes of expressions and statements: the depth, up to 65, the start, and the first node that is too deep.
use Rattle.std.proofs.Common.{◌≡◌, ℕ, ◌+◌, ◌≤◌, ◌<◌, min, max, Bool, true, false, List, [], ◌∷◌, ◌++◌, refl, sym, ap, ◌∙◌, arith}
use Rattle.std.specs.Prelude.{nat_lt, Option, Some, None}
use Rattle.std.specs.List.{flat_map}
use Rattle.clight_source.specs.declared.span.Span.{Span}
use Rattle.clight_source.specs.declared.tree.Name.{Name}
use Rattle.clight_source.specs.declared.tree.CallTarget.{CallTarget}
use Rattle.clight_source.specs.Trees.{Expr, Variable, Number, Parenthesis, Binary, Prefix, Cast, Index, Select, Assignment, EarlierArgument, Arguments, NoArguments, Arguments', Call, ForHead, Stmt, Empty, Block, Assign, ReadPort, WritePort, CallOf, If, IfElse, While, Do, For, Break, Continue, Return, Stmts, NoStmts, Then}
use Rattle.clight_source.specs.Depth.{depth, stmt_depth, stmts_depth, expr_start, stmt_start, Node, expr_nodes, optional_nodes, assignment_nodes, earlier_argument_nodes, for_nodes, stmt_nodes, stmts_nodes}
use Rattle.clight_nodes.specs.declared.nodes.Node.{Node as Out}
use Rattle.clight_nodes.specs.declared.nodes.Node.TheVariants as n
use Rattle.clight_nodes.specs.Code.Postfix.{onto, out_expr, add_argument, out_earlier, out_call, out_return, out_assignment, out_condition, out_head, middle_of, out_stmt, out_stmts}
use Rattle.clight_nesting.specs.declared.levels.Level.{Level}
use Rattle.clight_nesting.specs.Code.Levels.{level, Levels, levels, least, node, measure, measured}
use Rattle.clight_nesting.proofs.FirstDeep.{least_none, least_assoc, first_deep, first_deep-append, too_deep, below_is, above_is, shallow_none, deep_some}

-- ---- one node

pub least_swap : (a b : Option ℕ) → least a b ≡ least b a
least_swap None b = sym (least_none b)
least_swap (Some i) None = refl
least_swap (Some i) (Some j) = let e : min i j ≡ min j i = omega arith in ap Some e

-- a place that is found last counts as one found first
pub least_last : (m f t : Option ℕ) → least (least m f) t ≡ least m (least t f)
least_last m f t = least_assoc m f t ∙ ap (least m) (least_swap f t)

abbrev pub step : Out → Levels → Levels
step n x = measure n x.list x.deep

node_by : (b : Bool) (d s : ℕ) (k : List Level) (m : Option ℕ) → nat_lt (min d 65) 64 ≡ b → node (min d 65) s k m ≡ levels (level (min (1 + d) 65) s ∷ k) (least m (too_deep (1 + d) s))
node_by true d s k m h =
    let l = below_is (min d 65) h in
    let e : 1 + min d 65 ≡ min (1 + d) 65 = omega arith in
    let w = shallow_none (1 + d) s (omega arith) in
    rw (h, e, w) (ap (levels (level (min (1 + d) 65) s ∷ k)) (sym (least_none m)))
node_by false d s k m h =
    let l = above_is (min d 65) h in
    let e : 65 ≡ min (1 + d) 65 = omega arith in
    let w = deep_some (1 + d) s (omega arith) in
    rw (h, w) (ap (λ z. levels (level z s ∷ k) (least m (Some s))) e)

-- what a part puts there
abbrev pub push : ℕ → ℕ → Option ℕ → Levels → Levels
push d s f x = levels (level (min d 65) s ∷ x.list) (least x.deep f)

node_push : (d s : ℕ) (x : Levels) (m f : Option ℕ) → m ≡ least x.deep f → node (min d 65) s x.list m ≡ push (1 + d) s (least (too_deep (1 + d) s) f) x
node_push d s x m f h =
    ap (node (min d 65) s x.list) h
    ∙ (node_by (nat_lt (min d 65) 64) d s x.list (least x.deep f) refl
    ∙ ap (levels (level (min (1 + d) 65) s ∷ x.list)) (least_last x.deep f (too_deep (1 + d) s)))

max_capped : (a b : ℕ) → max (min a 65) (min b 65) ≡ min (max a b) 65
max_capped a b = omega arith

node_push_two : (a b s : ℕ) (x : Levels) (m f : Option ℕ) → m ≡ least x.deep f → node (max (min a 65) (min b 65)) s x.list m ≡ push (1 + max a b) s (least (too_deep (1 + max a b) s) f) x
node_push_two a b s x m f h = ap (λ z. node z s x.list m) (max_capped a b) ∙ node_push (max a b) s x m f h

leaf_push : (s : ℕ) (x : Levels) (m f : Option ℕ) → m ≡ least x.deep f → levels (level 0 s ∷ x.list) m ≡ push 0 s f x
leaf_push s x m f h = ap (levels (level 0 s ∷ x.list)) h

pub nothing_new : (m : Option ℕ) → m ≡ least m None
nothing_new m = sym (least_none m)

-- the nodes of parts, one after the other
pub join : (m : Option ℕ) (l r : List Node) → least (least m (first_deep l)) (first_deep r) ≡ least m (first_deep (l ++ r))
join m l r = least_assoc m (first_deep l) (first_deep r) ∙ ap (least m) (sym (first_deep-append l r))

pub join_three : (m : Option ℕ) (l r q : List Node) → least (least (least m (first_deep l)) (first_deep r)) (first_deep q) ≡ least m (first_deep (l ++ (r ++ q)))
join_three m l r q =
    least_assoc (least m (first_deep l)) (first_deep r) (first_deep q)
    ∙ (ap (least (least m (first_deep l))) (sym (first_deep-append r q)) ∙ join m l (r ++ q))

-- ---- expressions

abbrev pub put_expr : Expr → Levels → Levels
put_expr e x = push (depth e) (expr_start e) (first_deep (expr_nodes e)) x

pub expr_levels : (e : Expr) (z : List Out) → measured (out_expr e z) ≡ put_expr e (measured z)
expr_levels (Variable name) z = leaf_push _ (measured z) _ None (nothing_new _)
expr_levels (Number number a) z = leaf_push _ (measured z) _ None (nothing_new _)
expr_levels (Parenthesis left e right) z =
    ap (step (n.Parenthesis left right)) (expr_levels e z) ∙ node_push (depth e) left.from (measured z) _ (first_deep (expr_nodes e)) refl
expr_levels (Binary l operator a r) z =
    ap (step (n.Binary operator a)) (expr_levels r (out_expr l z) ∙ ap (put_expr r) (expr_levels l z))
    ∙ node_push_two (depth l) (depth r) (expr_start l) (measured z) _ (first_deep (expr_nodes l ++ expr_nodes r)) (join _ (expr_nodes l) (expr_nodes r))
expr_levels (Prefix operator a e) z = ap (step (n.Prefix operator a)) (expr_levels e z) ∙ node_push (depth e) a.from (measured z) _ (first_deep (expr_nodes e)) refl
expr_levels (Cast left type right e) z = ap (step (n.Cast left type right)) (expr_levels e z) ∙ node_push (depth e) left.from (measured z) _ (first_deep (expr_nodes e)) refl
expr_levels (Index e left i right) z =
    ap (step (n.Index left right)) (expr_levels i (out_expr e z) ∙ ap (put_expr i) (expr_levels e z))
    ∙ node_push_two (depth e) (depth i) (expr_start e) (measured z) _ (first_deep (expr_nodes e ++ expr_nodes i)) (join _ (expr_nodes e) (expr_nodes i))
expr_levels (Select e operator a member) z =
    ap (step (n.Select operator a member)) (expr_levels e z) ∙ node_push (depth e) (expr_start e) (measured z) _ (first_deep (expr_nodes e)) refl

-- ---- calls

abbrev pub pass : List Node → Levels → Levels
pass l x = levels x.list (least x.deep (first_deep l))

arguments_levels : (l : List EarlierArgument) (z : List Out) → measured (onto add_argument z l) ≡ pass (flat_map earlier_argument_nodes l) (measured z)
arguments_levels [] z = ap (levels (measured z).list) (nothing_new (measured z).deep)
arguments_levels (x ∷ l) z =
    arguments_levels l (add_argument z x)
    ∙ (ap (λ w. pass (flat_map earlier_argument_nodes l) (step (n.Argument x.comma) w)) (expr_levels x.value z)
    ∙ ap (levels (measured z).list) (join (measured z).deep (expr_nodes x.value) (flat_map earlier_argument_nodes l)))

abbrev put_stmt : Stmt → Levels → Levels
put_stmt x y = push (stmt_depth x) (stmt_start x) (first_deep (stmt_nodes x)) y

abbrev make_call : Option CallTarget → (function : Name) (left : Span) → Arguments → (right : Span) → Call
make_call target function left arguments right = record { target = target; function = function; left = left; arguments = arguments; right = right }

call_levels : (g : Option CallTarget) (f : Name) (left : Span) (b : Arguments) (right a : Span) (z : List Out)
    → measured (out_call (make_call g f left b right) a z) ≡ put_stmt (CallOf (make_call g f left b right) a) (measured z)
call_levels g f left NoArguments right a z = leaf_push _ (measured z) _ None (nothing_new _)
call_levels g f left (Arguments' earlier last) right a z =
    ap (step (n.Call g f left right a)) (expr_levels last (out_earlier earlier z) ∙ ap (put_expr last) (arguments_levels earlier (n.NoArguments ∷ z)))
    ∙ leaf_push _ (measured z) _ (first_deep (flat_map earlier_argument_nodes earlier ++ expr_nodes last)) (join _ (flat_map earlier_argument_nodes earlier) (expr_nodes last))

-- ---- the parts of a `for`

assignment_levels : (x : Option Assignment) (z : List Out) → measured (out_assignment x z) ≡ pass (optional_nodes assignment_nodes x) (measured z)
assignment_levels None z = ap (levels (measured z).list) (nothing_new (measured z).deep)
assignment_levels (Some x) z =
    ap (step (n.Assignment x.equals)) (expr_levels x.value (out_expr x.target z) ∙ ap (put_expr x.value) (expr_levels x.target z))
    ∙ ap (levels (measured z).list) (join (measured z).deep (expr_nodes x.target) (expr_nodes x.value))

condition_levels : (x : Option Expr) (z : List Out) → measured (out_condition x z) ≡ pass (optional_nodes expr_nodes x) (measured z)
condition_levels None z = ap (levels (measured z).list) (nothing_new (measured z).deep)
condition_levels (Some e) z = ap (step n.Condition) (expr_levels e z)

head_levels : (x : ForHead) (z : List Out) → measured (out_head x z) ≡ pass (for_nodes x) (measured z)
head_levels x z =
    assignment_levels x.step (out_condition x.condition (out_assignment x.first z))
    ∙ (ap (pass (optional_nodes assignment_nodes x.step))
    (condition_levels x.condition (out_assignment x.first z) ∙ ap (pass (optional_nodes expr_nodes x.condition)) (assignment_levels x.first z))
    ∙ ap (levels (measured z).list) (join_three (measured z).deep (optional_nodes assignment_nodes x.first) (optional_nodes expr_nodes x.condition) (optional_nodes assignment_nodes x.step)))

-- ---- statements

return_levels : (word : Span) (value : Option Expr) (a : Span) (z : List Out) → measured (out_return word value a z) ≡ put_stmt (Return word value a) (measured z)
return_levels word None a z = leaf_push _ (measured z) _ None (nothing_new _)
return_levels word (Some e) a z = ap (step (n.ReturnValue word a)) (expr_levels e z) ∙ leaf_push _ (measured z) _ (first_deep (expr_nodes e)) refl

mutual
  pub stmt_levels : (x : Stmt) (z : List Out) → measured (out_stmt x z) ≡ put_stmt x (measured z)
  stmt_levels (Empty a) z = leaf_push _ (measured z) _ None (nothing_new _)
  stmt_levels (Block left xs right) z =
      ap (step (n.Block left right)) (stmts_levels xs (n.NoStatements ∷ z) (measured z).list (measured z).deep refl) ∙ node_push (stmts_depth xs) left.from (measured z) _ (first_deep (stmts_nodes xs)) refl
  stmt_levels (Assign x a) z =
      ap (step (n.Assign x.equals a)) (expr_levels x.value (out_expr x.target z) ∙ ap (put_expr x.value) (expr_levels x.target z))
      ∙ leaf_push _ (measured z) _ (first_deep (expr_nodes x.target ++ expr_nodes x.value)) (join _ (expr_nodes x.target) (expr_nodes x.value))
  stmt_levels (ReadPort target equals port a) z = ap (step (n.ReadPort equals port a)) (expr_levels target z) ∙ leaf_push _ (measured z) _ (first_deep (expr_nodes target)) refl
  stmt_levels (WritePort port equals value a) z = ap (step (n.WritePort port equals a)) (expr_levels value z) ∙ leaf_push _ (measured z) _ (first_deep (expr_nodes value)) refl
  stmt_levels (CallOf x a) z = call_levels x.target x.function x.left x.arguments x.right a z
  stmt_levels (If t x) z =
      ap (step (n.If t.keyword t.left t.right)) (stmt_levels x (out_expr t.condition z) ∙ ap (put_stmt x) (expr_levels t.condition z))
      ∙ node_push (stmt_depth x) t.keyword.from (measured z) _ (first_deep (expr_nodes t.condition ++ stmt_nodes x)) (join _ (expr_nodes t.condition) (stmt_nodes x))
  stmt_levels (IfElse t x a y) z =
      ap (step (n.IfElse t.keyword t.left t.right a))
      (stmt_levels y (out_stmt x (out_expr t.condition z)) ∙ ap (put_stmt y) (stmt_levels x (out_expr t.condition z) ∙ ap (put_stmt x) (expr_levels t.condition z)))
      ∙ node_push_two (stmt_depth x) (stmt_depth y) t.keyword.from (measured z) _ (first_deep (expr_nodes t.condition ++ (stmt_nodes x ++ stmt_nodes y)))
      (join_three _ (expr_nodes t.condition) (stmt_nodes x) (stmt_nodes y))
  stmt_levels (While t x) z =
      ap (step (n.While t.keyword t.left t.right)) (stmt_levels x (out_expr t.condition z) ∙ ap (put_stmt x) (expr_levels t.condition z))
      ∙ node_push (stmt_depth x) t.keyword.from (measured z) _ (first_deep (expr_nodes t.condition ++ stmt_nodes x)) (join _ (expr_nodes t.condition) (stmt_nodes x))
  stmt_levels (Do k x t a) z =
      ap (step (n.Do k t.keyword t.left t.right a)) (expr_levels t.condition (out_stmt x z) ∙ ap (put_expr t.condition) (stmt_levels x z))
      ∙ node_push (stmt_depth x) k.from (measured z) _ (first_deep (stmt_nodes x ++ expr_nodes t.condition)) (join _ (stmt_nodes x) (expr_nodes t.condition))
  stmt_levels (For head x) z =
      ap (step (n.For (middle_of head) head.right)) (stmt_levels x (out_head head z) ∙ ap (put_stmt x) (head_levels head z))
      ∙ node_push (stmt_depth x) head.keyword.from (measured z) _ (first_deep (for_nodes head ++ stmt_nodes x)) (join _ (for_nodes head) (stmt_nodes x))
  stmt_levels (Break k a) z = leaf_push _ (measured z) _ None (nothing_new _)
  stmt_levels (Continue k a) z = leaf_push _ (measured z) _ None (nothing_new _)
  stmt_levels (Return k value a) z = return_levels k value a z

  -- statements that join an empty list
  pub stmts_levels : (xs : Stmts) (z : List Out) (k : List Level) (m : Option ℕ) → measured z ≡ levels (level 0 0 ∷ k) m
      → measured (out_stmts xs z) ≡ levels (level (min (stmts_depth xs) 65) 0 ∷ k) (least m (first_deep (stmts_nodes xs)))
  stmts_levels NoStmts z k m h = h ∙ ap (levels (level 0 0 ∷ k)) (nothing_new m)
  stmts_levels (Then xs x) z k m h =
      ap (step n.Then) (stmt_levels x (out_stmts xs z) ∙ ap (put_stmt x) (stmts_levels xs z k m h))
      ∙ (ap (λ d. levels (level d 0 ∷ k) (least (least m (first_deep (stmts_nodes xs))) (first_deep (stmt_nodes x)))) (max_capped (stmts_depth xs) (stmt_depth x))
      ∙ ap (levels (level (min (max (stmts_depth xs) (stmt_depth x)) 65) 0 ∷ k)) (join m (stmts_nodes xs) (stmt_nodes x)))
