-- The variables whose address is taken in a well-typed tree are those of its source.
use Rattle.std.proofs.Common.{◌≡◌, ◌∙◌, ℕ, IsTrue, List, [], ◌∷◌, ◌++◌, map, Option, Some, None, refl, sym, ap, append_assoc}
use Rattle.clight_source.specs.declared.tree.PrefixOperator.{PrefixOperator}
use Rattle.clight_source.specs.declared.tree.PrefixOperator.TheVariants as p
use Rattle.clight_source.specs.Trees as s
use Rattle.c_types.specs.Types.{CType}
use Rattle.clight_syntax.specs.TypedTrees.{Expr, Variable, Number, Parenthesis, Binary, Prefix, Cast, Index, Select, Cond, Truth, InParentheses, Not, Both, Either, Assignment, EarlierArgument, Arguments, NoArguments, Arguments', ForHead, Stmt, Empty, Block, Assign, ReadPort, WritePort, CallOf, If, IfElse, While, Do, For, Break, Continue, Return, Stmts, NoStmts, Then}
use Rattle.clight_types.specs.Scopes.{Scope, Meaning, Object}
use Rattle.clight_types.specs.Expressions.{HasType, HasValue, IsConditional}
use Rattle.clight_types.specs.Assignable.{variable_of, values_of, values_onto}
use Rattle.clight_typing.specs.Statements.{Body, in_loop, option_list, taken, addressed, cond_addressed, optional_addressed, assignment_addressed, earlier_addressed, arguments_addressed, for_addressed, stmt_addressed, stmts_addressed, IfThere, IsAssignment, HaveValues, IsForHead, IsReturn, IsTyped, AreTyped}
use Rattle.clight_typing.specs.Sources.{expr_source, cond_source, optional_source, assignment_source, earlier_argument_source, arguments_source, for_source, stmt_source, stmts_source}
use Rattle.clight_typing.specs.TypedStatements.{object_number, variable_at, taken_at, taken_in, optional_taken, assignment_taken, earlier_taken, arguments_taken, for_taken, stmt_taken, stmts_taken}

two : {a b c d : List ℕ} → a ≡ c → b ≡ d → a ++ b ≡ c ++ d
two {b} {c} left right = ap (λ x. x ++ b) left ∙ ap (λ y. c ++ y) right

same_variable : (scope : Scope) (t : Expr) → HasType scope t → variable_at scope (expr_source t) ≡ variable_of t
same_variable scope (Variable type variable name) h = ap object_number h
same_variable scope (Parenthesis type left e right) h = same_variable scope e h.0
same_variable scope (Number type number span) h = refl
same_variable scope (Binary type l operator at r) h = refl
same_variable scope (Prefix type operator at e) h = refl
same_variable scope (Cast type left words right e) h = refl
same_variable scope (Index type base left index right) h = refl
same_variable scope (Select type e operator at member offset) h = refl

same_operand : (scope : Scope) (operator : PrefixOperator) (t : Expr) → HasType scope t → taken_at scope operator (expr_source t) ≡ taken operator t
same_operand scope p.AddressOf t h = ap option_list (same_variable scope t h)
same_operand scope p.Negate t h = refl
same_operand scope p.Complement t h = refl
same_operand scope p.Not t h = refl
same_operand scope p.Dereference t h = refl

pub same_taken : (scope : Scope) (t : Expr) → HasType scope t → taken_in scope (expr_source t) ≡ addressed t
same_taken scope (Variable type variable name) h = refl
same_taken scope (Number type number span) h = refl
same_taken scope (Parenthesis type left e right) h = same_taken scope e h.0
same_taken scope (Binary type l operator at r) h = two (same_taken scope l h.0) (same_taken scope r h.2)
same_taken scope (Prefix type operator at e) h = two (same_operand scope operator e h.0) (same_taken scope e h.0)
same_taken scope (Cast type left words right e) h = same_taken scope e h.3
same_taken scope (Index type base left index right) h = two (same_taken scope base h.0) (same_taken scope index h.2)
same_taken scope (Select type e operator at member offset) h = same_taken scope e h.0

same_cond : (scope : Scope) (c : Cond (Unit {0})) → IsConditional scope c → taken_in scope (cond_source c) ≡ cond_addressed c
same_cond scope (Truth e) h = same_taken scope e h.0
same_cond scope (InParentheses left c right) h = same_cond scope c h.0
same_cond scope (Not at c) h = same_cond scope c h
same_cond scope (Both l at on_true on_false r) h = two (same_cond scope l h.0) (same_cond scope r h.1)
same_cond scope (Either l at on_true on_false r) h = two (same_cond scope l h.0) (same_cond scope r h.1)

same_assignment : (scope : Scope) (x : Assignment) → IsAssignment scope x → assignment_taken scope (assignment_source x) ≡ assignment_addressed x
same_assignment scope x h = two (same_taken scope x.target h.0) (same_taken scope x.value h.1.0)

same_optional : {A B : Type 0} (Obeys : B → Type 0) (source : B → A) (of : A → List ℕ) (typed : B → List ℕ) → ((b : B) → Obeys b → of (source b) ≡ typed b) →
    (x : Option B) → IfThere Obeys x → optional_taken of (optional_source source x) ≡ optional_addressed typed x
same_optional Obeys source of typed same None h = refl
same_optional Obeys source of typed same (Some b) h = same b h

three : (a b c d e f : List ℕ) → a ≡ d → b ++ c ≡ e ++ f → (a ++ b) ++ c ≡ (d ++ e) ++ f
three a b c d e f one others = append_assoc a b c ∙ (two one others ∙ sym (append_assoc d e f))

same_earlier : (scope : Scope) (earlier : List EarlierArgument) (last : Expr) → HaveValues scope (values_onto earlier last) →
    earlier_taken scope (map earlier_argument_source earlier) ++ taken_in scope (expr_source last) ≡ earlier_addressed earlier ++ addressed last
same_earlier scope [] last h = ap (λ x. [] ++ x) (same_taken scope last h.0.0)
same_earlier scope (x ∷ rest) last h =
    three (taken_in scope (expr_source x.value)) (earlier_taken scope (map earlier_argument_source rest)) (taken_in scope (expr_source last))
    (addressed x.value) (earlier_addressed rest) (addressed last) (same_taken scope x.value h.0.0) (same_earlier scope rest last h.1)

same_arguments : (scope : Scope) (x : Arguments) → HaveValues scope (values_of x) → arguments_taken scope (arguments_source x) ≡ arguments_addressed x
same_arguments scope NoArguments h = refl
same_arguments scope (Arguments' earlier last) h = same_earlier scope earlier last h

same_for : (scope : Scope) (x : ForHead (Unit {0})) → IsForHead scope x → for_taken scope (for_source x) ≡ for_addressed x
same_for scope x h =
    two (same_optional (IsAssignment scope) assignment_source (assignment_taken scope) assignment_addressed (same_assignment scope) x.first h.0)
    (two (same_optional (IsConditional scope) cond_source (taken_in scope) cond_addressed (same_cond scope) x.condition h.1)
    (same_optional (IsAssignment scope) assignment_source (assignment_taken scope) assignment_addressed (same_assignment scope) x.step h.2))

same_return : (body : Body) (value : Option Expr) → IsReturn body value → optional_taken (taken_in body.scope) (optional_source expr_source value) ≡ optional_addressed addressed value
same_return body None h = refl
same_return body (Some e) h = same_taken body.scope e h.0.0

mutual
  pub same_stmt : (body : Body) (x : Stmt (Unit {0})) → IsTyped body x → stmt_taken body.scope (stmt_source x) ≡ stmt_addressed x
  same_stmt body (Empty a) h = refl
  same_stmt body (Block left inner right) h = same_stmts body inner h
  same_stmt body (Assign x a) h = same_assignment body.scope x h
  same_stmt body (ReadPort target equals port a) h = same_taken body.scope target h.0
  same_stmt body (WritePort port equals value a) h = same_taken body.scope value h.0.0
  same_stmt body (CallOf x a back) h = same_arguments body.scope x.arguments h.2
  same_stmt body (If test one arm other) h = two (same_cond body.scope test.condition h.0) (same_stmt body arm h.1)
  same_stmt body (IfElse test one arm at other otherwise) h =
      two (same_cond body.scope test.condition h.0) (two (same_stmt body arm h.1) (same_stmt body otherwise h.2))
  same_stmt body (While test turn inner after) h = two (same_cond body.scope test.condition h.0) (same_stmt (in_loop body) inner h.1)
  same_stmt body (Do keyword inner test again a after) h = two (same_stmt (in_loop body) inner h.0) (same_cond body.scope test.condition h.1)
  same_stmt body (For head turn inner after) h = two (same_for body.scope head h.0) (same_stmt (in_loop body) inner h.1)
  same_stmt body (Break keyword a) h = refl
  same_stmt body (Continue keyword a) h = refl
  same_stmt body (Return keyword value a) h = same_return body value h

  pub same_stmts : (body : Body) (x : Stmts (Unit {0})) → AreTyped body x → stmts_taken body.scope (stmts_source x) ≡ stmts_addressed x
  same_stmts body NoStmts h = refl
  same_stmts body (Then earlier last) h = two (same_stmts body earlier h.0) (same_stmt body last h.1)
