-- Where the tokens of a typed program's code stand, in the order of the text.
use Rattle.std.specs.Prelude.{ℕ, ◌≤◌, List, [], ◌∷◌, ◌++◌, Option, Some, None, map}
use Rattle.std.specs.List.{flat_map}
use Rattle.clight_source.specs.declared.span.Span.{Span}
use Rattle.clight_source.specs.declared.symbol.Terminal.{Terminal}
use Rattle.clight_source.specs.declared.tree.Specifiers.{Specifiers}
use Rattle.clight_syntax.specs.declared.typed.ResultTarget.{ResultTarget}
use Rattle.clight_source.specs.Spelling.{type_terminals}
use Rattle.clight_syntax.specs.TypedTrees.{Expr, Variable, Number, Parenthesis, Binary, Prefix, Cast, Index, Select, Cond, Truth, InParentheses, Not, Both, Either, Assignment, Test, EarlierArgument, Arguments, NoArguments, Arguments', Call, ForHead, Stmt, Empty, Block, Assign, ReadPort, WritePort, CallOf, If, IfElse, While, Do, For, Break, Continue, Return, Stmts, NoStmts, Then, Function, TypedProgram}

abbrev pub words_spans : Specifiers → List Span
words_spans words = map (λ (terminal : Terminal). terminal.span) (type_terminals words)

abbrev pub expr_spans : Expr → List Span
expr_spans (Variable type variable name) = name.span ∷ []
expr_spans (Number type number span) = span ∷ []
expr_spans (Parenthesis type left e right) = left ∷ (expr_spans e ++ right ∷ [])
expr_spans (Binary type l operator at r) = expr_spans l ++ (at ∷ expr_spans r)
expr_spans (Prefix type operator at e) = at ∷ expr_spans e
expr_spans (Cast type left words right e) = left ∷ (words_spans words ++ (right ∷ expr_spans e))
expr_spans (Index type base left index right) = expr_spans base ++ (left ∷ (expr_spans index ++ right ∷ []))
expr_spans (Select type e operator at member offset) = expr_spans e ++ (at ∷ member.span ∷ [])

abbrev pub cond_spans : {L : Type 0} → Cond L → List Span
cond_spans (Truth e) = expr_spans e
cond_spans (InParentheses left c right) = left ∷ (cond_spans c ++ right ∷ [])
cond_spans (Not at c) = at ∷ cond_spans c
cond_spans (Both l at on_true on_false r) = cond_spans l ++ (at ∷ cond_spans r)
cond_spans (Either l at on_true on_false r) = cond_spans l ++ (at ∷ cond_spans r)

abbrev pub assignment_spans : Assignment → List Span
assignment_spans x = expr_spans x.target ++ (x.equals ∷ expr_spans x.value)

-- of what may be missing
abbrev pub optional_spans : {A : Type 0} → (A → List Span) → Option A → List Span
optional_spans spans None = []
optional_spans spans (Some x) = spans x

abbrev pub test_spans : {L : Type 0} → Test L → List Span
test_spans x = x.keyword ∷ (x.left ∷ (cond_spans x.condition ++ x.right ∷ []))

abbrev pub earlier_argument_spans : EarlierArgument → List Span
earlier_argument_spans x = expr_spans x.value ++ x.comma ∷ []

abbrev pub arguments_spans : Arguments → List Span
arguments_spans NoArguments = []
arguments_spans (Arguments' earlier last) = flat_map earlier_argument_spans earlier ++ expr_spans last

abbrev pub target_spans : ResultTarget → List Span
target_spans x = x.target.name.span ∷ x.target.equals ∷ []

abbrev pub call_spans : Call → List Span
call_spans x = optional_spans target_spans x.target ++ (x.name.span ∷ (x.left ∷ (arguments_spans x.arguments ++ x.right ∷ [])))

abbrev pub head_spans : {L : Type 0} → ForHead L → List Span
head_spans x =
    x.keyword ∷ (x.left ∷ (optional_spans assignment_spans x.first ++ (x.first_semicolon
    ∷ (optional_spans cond_spans x.condition ++ (x.second_semicolon
    ∷ (optional_spans assignment_spans x.step ++ x.right ∷ []))))))

abbrev mutual
  pub stmt_spans : {L : Type 0} → Stmt L → List Span
  stmt_spans (Empty semicolon) = semicolon ∷ []
  stmt_spans (Block left body right) = left ∷ (stmts_spans body ++ right ∷ [])
  stmt_spans (Assign x semicolon) = assignment_spans x ++ semicolon ∷ []
  stmt_spans (ReadPort target equals port semicolon) = expr_spans target ++ (equals ∷ port ∷ semicolon ∷ [])
  stmt_spans (WritePort port equals value semicolon) = port ∷ (equals ∷ (expr_spans value ++ semicolon ∷ []))
  stmt_spans (CallOf call semicolon back) = call_spans call ++ semicolon ∷ []
  stmt_spans (If test one arm other) = test_spans test ++ stmt_spans arm
  stmt_spans (IfElse test one arm else other otherwise) = test_spans test ++ (stmt_spans arm ++ (else ∷ stmt_spans otherwise))
  stmt_spans (While test turn body after) = test_spans test ++ stmt_spans body
  stmt_spans (Do keyword body test again semicolon after) = keyword ∷ (stmt_spans body ++ (test_spans test ++ semicolon ∷ []))
  stmt_spans (For head turn body after) = head_spans head ++ stmt_spans body
  stmt_spans (Break keyword semicolon) = keyword ∷ semicolon ∷ []
  stmt_spans (Continue keyword semicolon) = keyword ∷ semicolon ∷ []
  stmt_spans (Return keyword value semicolon) = keyword ∷ (optional_spans expr_spans value ++ semicolon ∷ [])

  pub stmts_spans : {L : Type 0} → Stmts L → List Span
  stmts_spans NoStmts = []
  stmts_spans (Then earlier last) = stmts_spans earlier ++ stmt_spans last

-- of a function's body, but its declarations
abbrev pub body_spans : {L : Type 0} → Function L → List Span
body_spans x = x.left ∷ (stmts_spans x.body ++ x.right ∷ [])

-- of the bodies of all functions, but their declarations
abbrev pub code_spans : {L : Type 0} → TypedProgram L → List Span
code_spans x = flat_map body_spans x.functions

-- the places stand one behind the other, from an offset to another one
abbrev pub AreAscending : ℕ → List Span → ℕ → Type 0
AreAscending from [] to = from ≤ to
AreAscending from (span ∷ spans) to = (from ≤ span.from) × (span.from ≤ span.to) × AreAscending span.to spans to
