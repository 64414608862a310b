-- The places of a typed part are those of the terminal symbols that its source spells.
use Rattle.std.proofs.Common.{◌≡◌, List, [], ◌∷◌, ◌++◌, Option, Some, None, map, refl, ap, ap₂, ◌∙◌}
use Rattle.std.specs.List.{flat_map}
use Rattle.std.proofs.lemmas.List.{map-append}
use Rattle.clight_source.specs.declared.span.Span.{Span}
use Rattle.clight_source.specs.declared.symbol.Symbol.{Symbol}
use Rattle.clight_source.specs.declared.symbol.Symbol.TheVariants as s
use Rattle.clight_source.specs.declared.symbol.Terminal.{Terminal}
use Rattle.clight_source.specs.Spelling.{terminal, type_terminals, expr_terminals, assignment_terminals, optional, test_terminals, earlier_argument_terminals, arguments_terminals, target_terminals, call_terminals, for_terminals, stmt_terminals, stmts_terminals}
use Rattle.clight_syntax.specs.TypedTrees.{Expr, Variable, Number, Parenthesis, Binary, Prefix, Cast, Index, Select, Cond, Truth, InParentheses, Not, Both, Either, Assignment, Test, EarlierArgument, Arguments, NoArguments, Arguments', Call, ForHead, Stmt, Empty, Block, Assign, ReadPort, WritePort, CallOf, If, IfElse, While, Do, For, Break, Continue, Return, Stmts, NoStmts, Then}
use Rattle.clight_syntax.specs.TypedSpans.{expr_spans, cond_spans, assignment_spans, optional_spans, test_spans, earlier_argument_spans, arguments_spans, target_spans, call_spans, head_spans, stmt_spans, stmts_spans}
use Rattle.clight_typing.specs.Sources.{expr_source, cond_source, optional_source, assignment_source, test_source, earlier_argument_source, arguments_source, target_source, call_source, for_source, stmt_source, stmts_source}

-- the places of terminal symbols
abbrev pub spans_of : List Terminal → List Span
spans_of terminals = map (λ (t : Terminal). t.span) terminals

-- one list after another
pub both : (xs ys : List Terminal) (ps qs : List Span) → spans_of xs ≡ ps → spans_of ys ≡ qs → spans_of (xs ++ ys) ≡ ps ++ qs
both xs ys ps qs p q = map-append (λ (t : Terminal). t.span) xs ys ∙ ap₂ (λ ps qs. ps ++ qs) p q

-- a place before others
abbrev before : (span : Span) {ps qs : List Span} → ps ≡ qs → span ∷ ps ≡ span ∷ qs
before span e = ap (λ ps. span ∷ ps) e

expr_spelled : (e : Expr) → spans_of (expr_terminals (expr_source e)) ≡ expr_spans e
expr_spelled (Variable type variable name) = refl
expr_spelled (Number type number span) = refl
expr_spelled (Parenthesis type left e right) = before left (both (expr_terminals (expr_source e)) _ _ _ (expr_spelled e) refl)
expr_spelled (Binary type l operator at r) = both (expr_terminals (expr_source l)) _ _ _ (expr_spelled l) (before at (expr_spelled r))
expr_spelled (Prefix type operator at e) = before at (expr_spelled e)
expr_spelled (Cast type left words right e) = before left (both (type_terminals words) _ _ _ refl (before right (expr_spelled e)))
expr_spelled (Index type base left index right) =
    both (expr_terminals (expr_source base)) _ _ _ (expr_spelled base) (before left (both (expr_terminals (expr_source index)) _ _ _ (expr_spelled index) refl))
expr_spelled (Select type e operator at member offset) = both (expr_terminals (expr_source e)) _ _ _ (expr_spelled e) refl

module _ {L : Type 0} where
  cond_spelled : (c : Cond L) → spans_of (expr_terminals (cond_source c)) ≡ cond_spans c
  cond_spelled (Truth e) = expr_spelled e
  cond_spelled (InParentheses left c right) = before left (both (expr_terminals (cond_source c)) _ _ _ (cond_spelled c) refl)
  cond_spelled (Not at c) = before at (cond_spelled c)
  cond_spelled (Both l at on_true on_false r) = both (expr_terminals (cond_source l)) _ _ _ (cond_spelled l) (before at (cond_spelled r))
  cond_spelled (Either l at on_true on_false r) = both (expr_terminals (cond_source l)) _ _ _ (cond_spelled l) (before at (cond_spelled r))

assignment_spelled : (x : Assignment) → spans_of (assignment_terminals (assignment_source x)) ≡ assignment_spans x
assignment_spelled x = both (expr_terminals (expr_source x.target)) _ _ _ (expr_spelled x.target) (before x.equals (expr_spelled x.value))

optional_spelled : {A B : Type 0} (source : A → B) (terminals : B → List Terminal) (spans : A → List Span) → ((x : A) → spans_of (terminals (source x)) ≡ spans x) → (o : Option A) → spans_of (optional terminals (optional_source source o)) ≡ optional_spans spans o
optional_spelled source terminals spans each None = refl
optional_spelled source terminals spans each (Some x) = each x

earlier_spelled : (xs : List EarlierArgument) → spans_of (flat_map earlier_argument_terminals (map earlier_argument_source xs)) ≡ flat_map earlier_argument_spans xs
earlier_spelled [] = refl
earlier_spelled (x ∷ xs) =
    both (earlier_argument_terminals (earlier_argument_source x)) _ _ _ (both (expr_terminals (expr_source x.value)) _ _ _ (expr_spelled x.value) refl) (earlier_spelled xs)

arguments_spelled : (x : Arguments) → spans_of (arguments_terminals (arguments_source x)) ≡ arguments_spans x
arguments_spelled NoArguments = refl
arguments_spelled (Arguments' earlier last) =
    both (flat_map earlier_argument_terminals (map earlier_argument_source earlier)) _ _ _ (earlier_spelled earlier) (expr_spelled last)

call_spelled : (x : Call) → spans_of (call_terminals (call_source x)) ≡ call_spans x
call_spelled x =
    both (optional target_terminals (optional_source target_source x.target)) _ _ _ (optional_spelled target_source target_terminals target_spans (λ t. refl) x.target)
    (before x.name.span (before x.left (both (arguments_terminals (arguments_source x.arguments)) _ _ _ (arguments_spelled x.arguments) refl)))

module _ {L : Type 0} where
  test_spelled : (keyword : Symbol) (x : Test L) → spans_of (test_terminals keyword (test_source x)) ≡ test_spans x
  test_spelled keyword x = before x.keyword (before x.left (both (expr_terminals (cond_source x.condition)) _ _ _ (cond_spelled x.condition) refl))

  head_spelled : (x : ForHead L) → spans_of (for_terminals (for_source x)) ≡ head_spans x
  head_spelled x =
      before x.keyword (before x.left
      (both (optional assignment_terminals (optional_source assignment_source x.first)) _ _ _ (optional_spelled assignment_source assignment_terminals assignment_spans assignment_spelled x.first) (before x.first_semicolon
      (both (optional expr_terminals (optional_source cond_source x.condition)) _ _ _ (optional_spelled cond_source expr_terminals cond_spans (λ c. cond_spelled c) x.condition) (before x.second_semicolon
      (both (optional assignment_terminals (optional_source assignment_source x.step)) _ _ _ (optional_spelled assignment_source assignment_terminals assignment_spans assignment_spelled x.step) refl))))))

  mutual
    pub stmt_spelled : (x : Stmt L) → spans_of (stmt_terminals (stmt_source x)) ≡ stmt_spans x
    stmt_spelled (Empty semicolon) = refl
    stmt_spelled (Block left body right) = before left (both (stmts_terminals (stmts_source body)) _ _ _ (stmts_spelled body) refl)
    stmt_spelled (Assign x semicolon) = both (assignment_terminals (assignment_source x)) _ _ _ (assignment_spelled x) refl
    stmt_spelled (ReadPort target equals port semicolon) = both (expr_terminals (expr_source target)) _ _ _ (expr_spelled target) refl
    stmt_spelled (WritePort port equals value semicolon) = before port (before equals (both (expr_terminals (expr_source value)) _ _ _ (expr_spelled value) refl))
    stmt_spelled (CallOf call semicolon back) = both (call_terminals (call_source call)) _ _ _ (call_spelled call) refl
    stmt_spelled (If test one arm other) = both (test_terminals s.If (test_source test)) _ _ _ (test_spelled s.If test) (stmt_spelled arm)
    stmt_spelled (IfElse test one arm at other otherwise) =
        both (test_terminals s.If (test_source test)) _ _ _ (test_spelled s.If test) (both (stmt_terminals (stmt_source arm)) _ _ _ (stmt_spelled arm) (before at (stmt_spelled otherwise)))
    stmt_spelled (While test turn body after) = both (test_terminals s.While (test_source test)) _ _ _ (test_spelled s.While test) (stmt_spelled body)
    stmt_spelled (Do keyword body test again semicolon after) =
        before keyword (both (stmt_terminals (stmt_source body)) _ _ _ (stmt_spelled body) (both (test_terminals s.While (test_source test)) _ _ _ (test_spelled s.While test) refl))
    stmt_spelled (For head turn body after) = both (for_terminals (for_source head)) _ _ _ (head_spelled head) (stmt_spelled body)
    stmt_spelled (Break keyword semicolon) = refl
    stmt_spelled (Continue keyword semicolon) = refl
    stmt_spelled (Return keyword value semicolon) =
        before keyword (both (optional expr_terminals (optional_source expr_source value)) _ _ _ (optional_spelled expr_source expr_terminals expr_spans expr_spelled value) refl)

    pub stmts_spelled : (x : Stmts L) → spans_of (stmts_terminals (stmts_source x)) ≡ stmts_spans x
    stmts_spelled NoStmts = refl
    stmts_spelled (Then earlier last) = both (stmts_terminals (stmts_source earlier)) _ _ _ (stmts_spelled earlier) (stmt_spelled last)
