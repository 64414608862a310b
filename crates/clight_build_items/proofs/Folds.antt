-- The fold over the nodes of expressions and statements gives their trees.
use Rattle.std.proofs.Common.{◌≡◌, ◌+◌, ◌<◌, ◌≤◌, List, [], ◌∷◌, ◌++◌, refl, sym, ap, ◌∙◌}
use Rattle.std.specs.Prelude.{Option, Some, None}
use Rattle.std.proofs.lemmas.List.{append_assoc, append-nil}
use Rattle.clight_source.specs.declared.span.Span.{Span}
use Rattle.clight_source.specs.declared.tree.Name.{Name}
use Rattle.clight_source.specs.declared.tree.CallTarget.{CallTarget}
use Rattle.clight_source.specs.Trees.{Expr, Variable, Number, Parenthesis, Binary, Prefix, Cast, Index, Select, Assignment, EarlierArgument, Arguments, NoArguments, Arguments', ForHead, Stmt, Empty, Block, Assign, ReadPort, WritePort, CallOf, If, IfElse, While, Do, For, Break, Continue, Return, Stmts, NoStmts, Then}
use Rattle.clight_nodes.specs.declared.nodes.Node.{Node}
use Rattle.clight_nodes.specs.declared.nodes.Node.TheVariants as n
use Rattle.clight_nodes.specs.Code.Postfix.{onto, out_expr, add_argument, out_earlier, out_call, out_return, out_assignment, out_condition, out_head, middle_of, out_stmt, out_stmts}
use Rattle.clight_build.specs.Code.Stacks.{stacks, make_call}
use Rattle.clight_build_items.specs.Code.Stacks.{Whole, whole, add, added}

-- ---- what is put on the stacks

abbrev pub push_expr : Expr → Whole → Whole
push_expr e s =
    let p = s.parts in
    whole (stacks (e ∷ p.exprs) p.stmts p.lists p.arguments p.assignments p.conditions) s.open_declarations s.items

abbrev pub push_stmt : Stmt → Whole → Whole
push_stmt x s =
    let p = s.parts in
    whole (stacks p.exprs (x ∷ p.stmts) p.lists p.arguments p.assignments p.conditions) s.open_declarations s.items

abbrev pub push_list : Stmts → Whole → Whole
push_list xs s =
    let p = s.parts in
    whole (stacks p.exprs p.stmts (xs ∷ p.lists) p.arguments p.assignments p.conditions) s.open_declarations s.items

abbrev pub push_arguments : List EarlierArgument → Whole → Whole
push_arguments l s =
    let p = s.parts in
    whole (stacks p.exprs p.stmts p.lists (l ∷ p.arguments) p.assignments p.conditions) s.open_declarations s.items

abbrev pub push_assignment : Option Assignment → Whole → Whole
push_assignment x s =
    let p = s.parts in
    whole (stacks p.exprs p.stmts p.lists p.arguments (x ∷ p.assignments) p.conditions) s.open_declarations s.items

abbrev pub push_condition : Option Expr → Whole → Whole
push_condition e s =
    let p = s.parts in
    whole (stacks p.exprs p.stmts p.lists p.arguments p.assignments (e ∷ p.conditions)) s.open_declarations s.items

-- ---- expressions

pub fold_expr : (e : Expr) (z : List Node) → added (out_expr e z) ≡ push_expr e (added z)
fold_expr (Variable name) z = refl
fold_expr (Number number a) z = refl
fold_expr (Parenthesis left e right) z = ap (add (n.Parenthesis left right)) (fold_expr e z)
fold_expr (Binary l operator a r) z = ap (add (n.Binary operator a)) (fold_expr r (out_expr l z) ∙ ap (push_expr r) (fold_expr l z))
fold_expr (Prefix operator a e) z = ap (add (n.Prefix operator a)) (fold_expr e z)
fold_expr (Cast left type right e) z = ap (add (n.Cast left type right)) (fold_expr e z)
fold_expr (Index e left i right) z = ap (add (n.Index left right)) (fold_expr i (out_expr e z) ∙ ap (push_expr i) (fold_expr e z))
fold_expr (Select e operator a member) z = ap (add (n.Select operator a member)) (fold_expr e z)

-- arguments join those before them
pub fold_arguments : (l earlier : List EarlierArgument) (z : List Node) (s : Whole) → added z ≡ push_arguments earlier s → added (onto add_argument z l) ≡ push_arguments (earlier ++ l) s
fold_arguments [] earlier z s h = h ∙ ap (λ k. push_arguments k s) (sym (append-nil earlier))
fold_arguments (x ∷ l) earlier z s h =
    fold_arguments l (earlier ++ x ∷ []) (add_argument z x) s (ap (add (n.Argument x.comma)) (fold_expr x.value z ∙ ap (push_expr x.value) h))
    ∙ ap (λ k. push_arguments k s) (append_assoc earlier (x ∷ []) l)

pub fold_earlier : (l : List EarlierArgument) (z : List Node) → added (out_earlier l z) ≡ push_arguments l (added z)
fold_earlier l z = fold_arguments l [] (n.NoArguments ∷ z) (added z) refl

pub fold_call : (g : Option CallTarget) (f : Name) (left : Span) (b : Arguments) (right a : Span) (z : List Node)
    → added (out_call (make_call g f left b right) a z) ≡ push_stmt (CallOf (make_call g f left b right) a) (added z)
fold_call g f left NoArguments right a z = refl
fold_call g f left (Arguments' earlier last) right a z =
    ap (add (n.Call g f left right a)) (fold_expr last (out_earlier earlier z) ∙ ap (push_expr last) (fold_earlier earlier z))

pub fold_return : (word : Span) (value : Option Expr) (a : Span) (z : List Node) → added (out_return word value a z) ≡ push_stmt (Return word value a) (added z)
fold_return word None a z = refl
fold_return word (Some e) a z = ap (add (n.ReturnValue word a)) (fold_expr e z)

-- ---- the parts of a `for`

pub fold_assignment : (x : Option Assignment) (z : List Node) → added (out_assignment x z) ≡ push_assignment x (added z)
fold_assignment None z = refl
fold_assignment (Some x) z = ap (add (n.Assignment x.equals)) (fold_expr x.value (out_expr x.target z) ∙ ap (push_expr x.value) (fold_expr x.target z))

pub fold_condition : (x : Option Expr) (z : List Node) → added (out_condition x z) ≡ push_condition x (added z)
fold_condition None z = refl
fold_condition (Some e) z = ap (add n.Condition) (fold_expr e z)

pub fold_head : (x : ForHead) (z : List Node) → added (out_head x z) ≡ push_assignment x.step (push_condition x.condition (push_assignment x.first (added z)))
fold_head x z =
    fold_assignment x.step (out_condition x.condition (out_assignment x.first z))
    ∙ ap (push_assignment x.step) (fold_condition x.condition (out_assignment x.first z) ∙ ap (push_condition x.condition) (fold_assignment x.first z))

-- ---- statements

mutual
  pub fold_stmt : (x : Stmt) (z : List Node) → added (out_stmt x z) ≡ push_stmt x (added z)
  fold_stmt (Empty a) z = refl
  fold_stmt (Block left xs right) z = ap (add (n.Block left right)) (fold_stmts xs (n.NoStatements ∷ z) (added z) refl)
  fold_stmt (Assign x a) z = ap (add (n.Assign x.equals a)) (fold_expr x.value (out_expr x.target z) ∙ ap (push_expr x.value) (fold_expr x.target z))
  fold_stmt (ReadPort target equals port a) z = ap (add (n.ReadPort equals port a)) (fold_expr target z)
  fold_stmt (WritePort port equals value a) z = ap (add (n.WritePort port equals a)) (fold_expr value z)
  fold_stmt (CallOf x a) z = fold_call x.target x.function x.left x.arguments x.right a z
  fold_stmt (If t x) z = ap (add (n.If t.keyword t.left t.right)) (fold_stmt x (out_expr t.condition z) ∙ ap (push_stmt x) (fold_expr t.condition z))
  fold_stmt (IfElse t x a y) z =
      ap (add (n.IfElse t.keyword t.left t.right a))
      (fold_stmt y (out_stmt x (out_expr t.condition z)) ∙ ap (push_stmt y) (fold_stmt x (out_expr t.condition z) ∙ ap (push_stmt x) (fold_expr t.condition z)))
  fold_stmt (While t x) z = ap (add (n.While t.keyword t.left t.right)) (fold_stmt x (out_expr t.condition z) ∙ ap (push_stmt x) (fold_expr t.condition z))
  fold_stmt (Do k x t a) z = ap (add (n.Do k t.keyword t.left t.right a)) (fold_expr t.condition (out_stmt x z) ∙ ap (push_expr t.condition) (fold_stmt x z))
  fold_stmt (For head x) z = ap (add (n.For (middle_of head) head.right)) (fold_stmt x (out_head head z) ∙ ap (push_stmt x) (fold_head head z))
  fold_stmt (Break k a) z = refl
  fold_stmt (Continue k a) z = refl
  fold_stmt (Return k value a) z = fold_return k value a z

  -- statements that join the newest list
  pub fold_stmts : (xs : Stmts) (z : List Node) (s : Whole) → added z ≡ push_list NoStmts s → added (out_stmts xs z) ≡ push_list xs s
  fold_stmts NoStmts z s h = h
  fold_stmts (Then xs x) z s h = ap (add n.Then) (fold_stmt x (out_stmts xs z) ∙ ap (push_stmt x) (fold_stmts xs z s h))
