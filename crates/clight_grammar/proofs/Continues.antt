-- Each mode that is no fault goes on to some item: what is open is closed, with the dullest rest.
use Rattle.std.proofs.Common.{◌≡◌, ℕ, ◌+◌, ◌≤◌, ◌<◌, false, List, [], ◌∷◌, ◌++◌, length, refl, sym, ap, subst, ◌∙◌, append_assoc, append-nil, arith}
use Rattle.std.specs.Prelude.{Option, Some, None, map, flat_map}
use Rattle.clight_source.specs.declared.symbol.Symbol.TheVariants as s
use Rattle.clight_source.specs.declared.symbol.Terminal.{Terminal}
use Rattle.clight_source.specs.declared.tree.Name.{Name}
use Rattle.clight_source.specs.declared.tree.Specifiers.TheVariants as t
use Rattle.clight_source.specs.Trees.{Expr, Variable, Parenthesis, Binary, Prefix, Cast, Index, Select, Assignment, Test, NoArguments, Arguments', ForHead, Stmt, Empty, Block, Assign, WritePort, CallOf, If, IfElse, While, Do, For, Return, Stmts, NoStmts, Then, Declared, Declaration, Member, NoInitialiser, Single, Listed, Parameters', NoValue, Value, Item, GlobalItem, PrototypeItem, FunctionItem}
use Rattle.clight_source.specs.Spelling.{terminal, name_terminal, binary_symbol, prefix_symbol, member_symbol, type_terminals, expr_terminals, optional, test_terminals, earlier_argument_terminals, target_terminals, call_terminals, for_terminals, stmt_terminals, stmts_terminals, declared_terminals, declaration_terminals, member_terminals, number_terminals, earlier_number_terminals, initialiser_terminals, earlier_parameter_terminals, header_terminals, local_terminals, item_terminals, level, HasLevel, IsForHead, IsStatement, AreStatements, IsLocal, IsItem}
use Rattle.clight_nodes.specs.Code.Declarations.{make_length, signed}
use Rattle.clight_nodes.specs.Code.Expressions.{make_name}
use Rattle.clight_nodes.specs.declared.modes.StructFront.{StructFront}
use Rattle.clight_grammar.specs.Code.Parts.{no_span, no_literal}
use Rattle.clight_grammar.specs.Code.Parts.{make_declared, make_local, with_local, make_head, call, struct_item, header, ForStart, ForMiddle, FunctionFront}
use Rattle.clight_grammar.specs.Code.Forms.{Place, AsStatement, AsFirst, AsStep, Form, InBinary, InPrefix, InCast, InParenthesis, InIndex, InTarget, InValue, InPortValue, InArguments, InIfTest, InWhileTest, InDoTest, InCondition, InReturn, InLocalValue, InIf, InElse, InWhile, InDo, InFor, InBlock, InLocals, InBody, Owner, InSource, InStruct, InFirstParameter, InLaterParameter, InFunction, Pending, CallPending, ReadPending, DoPending, BreakPending, ContinuePending, NumberList, Mode, Operand, AfterOperand, MemberName, CastTag, CastWords, Statement, MayElse, IfWord, WhileWord, DoBody, DoWhile, ForWord, ForFirst, ForCondition, ForStep, ReturnWord, PortWord, FirstArgument, StatementEnd, ItemStart, TypeStart, TagName, Words, Stars, Named, Lengths, LengthNumber, LengthEnd, Members, StructEnd, InitialiserStart, InitialiserNumber, InitialiserEnd, ListStart, ListNumber, ListEnd, HeaderEnd, Finished, Refused}
use Rattle.clight_grammar.specs.Code.Statements.{ended}
use Rattle.clight_grammar.specs.Code.Declarations.{without_lengths, longer}
use Rattle.clight_grammar.specs.Code.Machine.{refused}
use Rattle.clight_grammar.proofs.ReadExpressions.{weaken, level_low}
use Rattle.clight_grammar.proofs.ReadItems.{MayHaveLengths}
use Rattle.clight_grammar.proofs.OpenForms.{start_terminals, middle_terminals, place_terminals, front_terminals, spell, struct_terminals, owner_terminals, pending_terminals, list_terminals, spelled, IsStart, IsMiddle, IsPlace, IsFront, HoldsStatement, HoldsExpression, IsPending, IsOwner, IsGood}
use Rattle.clight_grammar.proofs.GrammarExpressions.{looser, All-push}
use Rattle.clight_grammar.proofs.SpellingExpressions.{front_push, head_is, else_shape, flat_map-push}
use Rattle.clight_grammar.proofs.SpellingDeclarations.{longer_is}
use Rattle.clight_grammar.proofs.SpellingStatements.{body_shape}

-- an item begins with the terminals
abbrev pub Begun : List Terminal → Type 0
Begun l = (x : Item) × (more : List Terminal) × IsItem x × (item_terminals x ≡ l ++ more)

-- an item that begins with a longer list begins with a shorter one
shorter : (l m z : List Terminal) → l ++ m ≡ z → Begun z → Begun l
shorter l m z e b = (b.0, m ++ b.1, b.2, b.3 ∙ (ap (λ x. x ++ b.1) (sym e) ∙ append_assoc l m b.1))

pub same : (l z : List Terminal) → z ≡ l → Begun z → Begun l
same l z e b = subst (λ x. Begun x) e b

-- the dullest parts
abbrev x : Name
x = make_name 0 no_span

abbrev x' : Terminal
x' = name_terminal x

abbrev name : Expr
name = Variable x

abbrev nop : Stmt
nop = Empty no_span

abbrev semicolon : Terminal
semicolon = terminal s.Semicolon no_span

abbrev right : Terminal
right = terminal s.RightParenthesis no_span

abbrev left : Terminal
left = terminal s.LeftParenthesis no_span

abbrev brace : Terminal
brace = terminal s.RightBrace no_span

abbrev equals : Terminal
equals = terminal s.Assign no_span

abbrev number : Terminal
number = terminal (s.Number no_literal) no_span

abbrev dull_test : Test
dull_test = record { keyword = no_span; left = no_span; condition = name; right = no_span }

at_most : (n : ℕ) → n ≤ n
at_most n = omega arith

-- ---- functions

-- a function may end after its statements
fill_body : (front : FunctionFront) (xs : Stmts) → IsFront front → AreStatements xs → Begun (front_terminals front ++ stmts_terminals xs)
fill_body front xs w v = (
  FunctionItem (record { header = front.header; left = front.left; locals = front.locals; body = xs; right = no_span }),
  brace ∷ [],
  (w, v),
  body_shape (header_terminals front.header) (terminal s.LeftBrace front.left) (flat_map local_terminals front.locals) (stmts_terminals xs) brace,
)

-- ---- statements

block_shape : (k y z : List Terminal) (o c : Terminal) → ((k ++ (o ∷ y)) ++ z) ++ c ∷ [] ≡ k ++ (o ∷ ((y ++ z) ++ c ∷ []))
block_shape k y z o c = simp append_assoc

-- what follows the body of a `do`
abbrev do_rest : List Terminal
do_rest = terminal s.While no_span ∷ (left ∷ (x' ∷ (right ∷ (semicolon ∷ []))))

do_shape : (k z m : List Terminal) (d : Terminal) → ((k ++ d ∷ []) ++ z) ++ m ≡ k ++ (d ∷ (z ++ m))
do_shape k z m d = simp append_assoc

pub fill_stmt : (y : Stmt) (k : List Form) → IsStatement y → HoldsStatement k → Begun (spell k ++ stmt_terminals y)
fill_stmt y [] w c = absurd c
fill_stmt y (InWhile t ∷ k) w c = same _ _ (sym (append_assoc (spell k) (test_terminals s.While t) (stmt_terminals y))) (fill_stmt (While t y) k (c.0, w) c.1)
fill_stmt y (InFor head ∷ k) w c = same _ _ (sym (append_assoc (spell k) (for_terminals head) (stmt_terminals y))) (fill_stmt (For head y) k (c.0, w) c.1)
fill_stmt y (InIf t ∷ k) w c = same _ _ (sym (append_assoc (spell k) (test_terminals s.If t) (stmt_terminals y))) (fill_stmt (If t y) k (c.0, w) c.1)
fill_stmt y (InElse t z a ∷ k) w c =
    same _ _ (else_shape (spell k) (test_terminals s.If t) (stmt_terminals z) (terminal s.Else a) (stmt_terminals y)) (fill_stmt (IfElse t z a y) k (c.0, c.1, c.2, w) c.3)
fill_stmt y (InDo word ∷ k) w c =
    shorter _ do_rest _ (do_shape (spell k) (stmt_terminals y) do_rest (terminal s.Do word)) (fill_stmt (Do word y dull_test no_span) k (w, tt) c)
fill_stmt y (InBlock o xs ∷ k) w c =
    shorter _ (brace ∷ []) _ (block_shape (spell k) (stmts_terminals xs) (stmt_terminals y) (terminal s.LeftBrace o) brace) (fill_stmt (Block o (Then xs y) no_span) k (c.0, w) c.1)
fill_stmt y (InLocals front ∷ k) w c = fill_body front (Then NoStmts y) c (tt, w)
fill_stmt y (InBody front xs ∷ k) w c = same _ _ (sym (append_assoc (front_terminals front) (stmts_terminals xs) (stmt_terminals y))) (fill_body front (Then xs y) c.0 (c.1, w))
fill_stmt y (f ∷ k) w c = absurd c

fill_head : (head : ForHead) (k : List Form) → IsForHead head → HoldsStatement k → Begun (spell k ++ for_terminals head)
fill_head head k w c = shorter _ (semicolon ∷ []) _ (append_assoc (spell k) (for_terminals head) (semicolon ∷ [])) (fill_stmt (For head nop) k (w, tt) c)

fill_middle : (middle : ForMiddle) (k : List Form) → IsMiddle middle → HoldsStatement k → Begun (spell k ++ middle_terminals middle)
fill_middle middle k w c =
    shorter _ (right ∷ []) _ (append_assoc (spell k) (middle_terminals middle) (right ∷ []) ∙ ap (λ l. spell k ++ l) (sym (head_is middle None no_span)))
    (fill_head (make_head middle None no_span) k (w.0, w.1, tt) c)

fill_start : (start : ForStart) (k : List Form) → IsStart start → HoldsStatement k → Begun (spell k ++ start_terminals start)
fill_start start k w c =
    shorter _ (semicolon ∷ []) _ (append_assoc (spell k) (start_terminals start) (semicolon ∷ []))
    (fill_middle (record { start = start; condition = None; semicolon = no_span }) k (w, tt) c)

-- ---- the rest of a statement after an expression

tail_shape : (k f e m : List Terminal) → ((k ++ f) ++ e) ++ m ≡ k ++ (f ++ (e ++ m))
tail_shape k f e m = simp append_assoc

target_shape : (k p e m : List Terminal) (q : Terminal) → ((k ++ p) ++ e) ++ (q ∷ m) ≡ ((k ++ (p ++ (e ++ q ∷ []))) ++ m)
target_shape k p e m q = simp append_assoc

assign_shape : (k g e : List Terminal) (q m : Terminal) → ((k ++ (g ++ q ∷ [])) ++ e) ++ m ∷ [] ≡ k ++ ((g ++ (q ∷ e)) ++ m ∷ [])
assign_shape k g e q m = simp append_assoc

first_shape : (k g e : List Terminal) (w o q m : Terminal) → ((k ++ (w ∷ (o ∷ (g ++ q ∷ [])))) ++ e) ++ m ∷ [] ≡ k ++ (w ∷ (o ∷ ((g ++ (q ∷ e)) ++ m ∷ [])))
first_shape k g e w o q m = simp append_assoc

step_shape : (k m g e : List Terminal) (q c : Terminal) → ((k ++ (m ++ (g ++ q ∷ []))) ++ e) ++ c ∷ [] ≡ k ++ (m ++ ((g ++ (q ∷ e)) ++ c ∷ []))
step_shape k m g e q c = simp append_assoc

-- the right side of an assignment
fill_value : (place : Place) (target : Expr) (q : _) (e : Expr) (k : List Form) → HasLevel target 12 → IsPlace place → HoldsStatement k → HasLevel e 1
    → Begun (spell (InValue place target q ∷ k) ++ expr_terminals e)
fill_value AsStatement target q e k h p c w =
    shorter _ (semicolon ∷ []) _ (assign_shape (spell k) (expr_terminals target) (expr_terminals e) (terminal s.Assign q) semicolon)
    (fill_stmt (Assign (record { target = target; equals = q; value = e }) no_span) k (h, w) c)
fill_value (AsFirst word o) target q e k h p c w =
    shorter _ (semicolon ∷ []) _ (first_shape (spell k) (expr_terminals target) (expr_terminals e) (terminal s.For word) (terminal s.LeftParenthesis o) (terminal s.Assign q) semicolon)
    (fill_start (record { keyword = word; left = o; first = Some (record { target = target; equals = q; value = e }); semicolon = no_span }) k (h, w) c)
fill_value (AsStep middle) target q e k h p c w =
    let step : Assignment = record { target = target; equals = q; value = e } in
    shorter _ (right ∷ []) _
    (step_shape (spell k) (middle_terminals middle) (expr_terminals target) (expr_terminals e) (terminal s.Assign q) right ∙ ap (λ l. spell k ++ l) (sym (head_is middle (Some step) no_span)))
    (fill_head (make_head middle (Some step) no_span) k (p.0, p.1, (h, w)) c)

args_shape : (k g y e : List Terminal) (i o : Terminal) (c m : Terminal) → ((k ++ (g ++ (i ∷ (o ∷ y)))) ++ e) ++ (c ∷ (m ∷ [])) ≡ k ++ ((g ++ (i ∷ (o ∷ ((y ++ e) ++ c ∷ [])))) ++ m ∷ [])
args_shape k g y e i o c m = simp append_assoc

cast_shape : (k z e : List Terminal) (o d : Terminal) → (k ++ (o ∷ (z ++ d ∷ []))) ++ e ≡ k ++ (o ∷ (z ++ (d ∷ e)))
cast_shape k z e o d = simp append_assoc

two_shape : (k e : List Terminal) (p q m : Terminal) → ((k ++ (p ∷ (q ∷ []))) ++ e) ++ m ∷ [] ≡ k ++ (p ∷ (q ∷ (e ++ m ∷ [])))
two_shape k e p q m = simp append_assoc

one_shape : (k e : List Terminal) (o d : Terminal) → ((k ++ o ∷ []) ++ e) ++ d ∷ [] ≡ k ++ (o ∷ (e ++ d ∷ []))
one_shape k e o d = simp append_assoc

test_shape : (k e : List Terminal) (i o d m : Terminal) → ((k ++ (i ∷ (o ∷ []))) ++ e) ++ (d ∷ (m ∷ [])) ≡ k ++ ((i ∷ (o ∷ (e ++ d ∷ []))) ++ m ∷ [])
test_shape k e i o d m = simp append_assoc

do_test_shape : (k y e : List Terminal) (d w o c m : Terminal) → ((k ++ (d ∷ (y ++ (w ∷ (o ∷ []))))) ++ e) ++ (c ∷ (m ∷ [])) ≡ k ++ (d ∷ (y ++ ((w ∷ (o ∷ (e ++ c ∷ []))) ++ m ∷ [])))
do_test_shape k y e d w o c m = simp append_assoc

index_shape : (k b e : List Terminal) (o d : Terminal) → ((k ++ (b ++ o ∷ [])) ++ e) ++ d ∷ [] ≡ k ++ (b ++ (o ∷ (e ++ d ∷ [])))
index_shape k b e o d = simp append_assoc

binary_shape : (k l e : List Terminal) (o : Terminal) → (k ++ (l ++ o ∷ [])) ++ e ≡ k ++ (l ++ (o ∷ e))
binary_shape k l e o = simp append_assoc

local_shape : (f d e : List Terminal) (q m : Terminal) → ((f ++ (d ++ q ∷ [])) ++ e) ++ m ∷ [] ≡ f ++ (d ++ (q ∷ (e ++ m ∷ [])))
local_shape f d e q m = simp append_assoc

fill_locals : (front : FunctionFront) → IsFront front → Begun (front_terminals front)
fill_locals front w = same _ _ (append-nil (front_terminals front)) (fill_body front NoStmts w tt)

pub fill_expr : (e : Expr) (n : ℕ) (k : List Form) → 1 ≤ n → HasLevel e n → HoldsExpression k n → Begun (spell k ++ expr_terminals e)
fill_expr e n [] h w c = absurd c
fill_expr e n (InBinary l operator a ∷ k) h w c =
    same _ _ (sym (binary_shape (spell k) (expr_terminals l) (expr_terminals e) (terminal (binary_symbol operator) a)))
    (fill_expr (Binary l operator a e) (level operator) k (omega (arith, level_low operator)) (at_most (level operator), c.0, weaken e n (1 + level operator) c.1 w) c.2)
fill_expr e n (InPrefix operator a ∷ k) h w c =
    same _ _ (sym (append_assoc (spell k) (terminal (prefix_symbol operator) a ∷ []) (expr_terminals e)))
    (fill_expr (Prefix operator a e) 12 k (omega arith) (at_most 12, weaken e n 12 c.0 w) c.1)
fill_expr e n (InCast o type d ∷ k) h w c =
    same _ _ (sym (cast_shape (spell k) (type_terminals type) (expr_terminals e) (terminal s.LeftParenthesis o) (terminal s.RightParenthesis d)))
    (fill_expr (Cast o type d e) 12 k (omega arith) (at_most 12, weaken e n 12 c.0 w) c.1)
fill_expr e n (InParenthesis o ∷ k) h w c =
    shorter _ (right ∷ []) _ (one_shape (spell k) (expr_terminals e) (terminal s.LeftParenthesis o) right)
    (fill_expr (Parenthesis o e no_span) 13 k (omega arith) (weaken e n 1 h w) c)
fill_expr e n (InIndex base o ∷ k) h w c =
    shorter _ (terminal s.RightBracket no_span ∷ []) _ (index_shape (spell k) (expr_terminals base) (expr_terminals e) (terminal s.LeftBracket o) (terminal s.RightBracket no_span))
    (fill_expr (Index base o e no_span) 13 k (omega arith) (c.0, weaken e n 1 h w) c.1)
fill_expr e n (InTarget place ∷ k) h w c =
    shorter _ (equals ∷ (x' ∷ [])) _ (target_shape (spell k) (place_terminals place) (expr_terminals e) (x' ∷ []) equals)
    (fill_value place e no_span name k (weaken e n 12 c.0 w) c.1 c.2 tt)
fill_expr e n (InValue place target q ∷ k) h w c = fill_value place target q e k c.0 c.1 c.2 (weaken e n 1 h w)
fill_expr e n (InPortValue port q ∷ k) h w c =
    shorter _ (semicolon ∷ []) _ (two_shape (spell k) (expr_terminals e) (terminal s.PortOne port) (terminal s.Assign q) semicolon)
    (fill_stmt (WritePort port q e no_span) k (weaken e n 1 h w) c)
fill_expr e n (InArguments g f o earlier ∷ k) h w c =
    shorter _ (right ∷ (semicolon ∷ [])) _
    (args_shape (spell k) (optional target_terminals g) (flat_map earlier_argument_terminals earlier) (expr_terminals e) (name_terminal f) (terminal s.LeftParenthesis o) right semicolon)
    (fill_stmt (CallOf (call g f o (Arguments' earlier e) no_span) no_span) k (c.0, weaken e n 1 h w) c.1)
fill_expr e n (InIfTest word o ∷ k) h w c =
    shorter _ (right ∷ (semicolon ∷ [])) _ (test_shape (spell k) (expr_terminals e) (terminal s.If word) (terminal s.LeftParenthesis o) right semicolon)
    (fill_stmt (If (record { keyword = word; left = o; condition = e; right = no_span }) nop) k (weaken e n 1 h w, tt) c)
fill_expr e n (InWhileTest word o ∷ k) h w c =
    shorter _ (right ∷ (semicolon ∷ [])) _ (test_shape (spell k) (expr_terminals e) (terminal s.While word) (terminal s.LeftParenthesis o) right semicolon)
    (fill_stmt (While (record { keyword = word; left = o; condition = e; right = no_span }) nop) k (weaken e n 1 h w, tt) c)
fill_expr e n (InDoTest word y while' o ∷ k) h w c =
    shorter _ (right ∷ (semicolon ∷ [])) _
    (do_test_shape (spell k) (stmt_terminals y) (expr_terminals e) (terminal s.Do word) (terminal s.While while') (terminal s.LeftParenthesis o) right semicolon)
    (fill_stmt (Do word y (record { keyword = while'; left = o; condition = e; right = no_span }) no_span) k (c.0, weaken e n 1 h w) c.1)
fill_expr e n (InCondition start ∷ k) h w c =
    shorter _ (semicolon ∷ []) _ (tail_shape (spell k) (start_terminals start) (expr_terminals e) (semicolon ∷ []))
    (fill_middle (record { start = start; condition = Some e; semicolon = no_span }) k (c.0, weaken e n 1 h w) c.1)
fill_expr e n (InReturn word ∷ k) h w c =
    shorter _ (semicolon ∷ []) _ (one_shape (spell k) (expr_terminals e) (terminal s.Return word) semicolon)
    (fill_stmt (Return word (Some e) no_span) k (weaken e n 1 h w) c)
fill_expr e n (InLocalValue front d q ∷ k) h w c =
    let l = make_local d (Value q e) no_span in
    shorter _ (semicolon ∷ []) _ (local_shape (front_terminals front) (declaration_terminals d) (expr_terminals e) (terminal s.Assign q) semicolon ∙ sym (front_push front l))
    (fill_locals (with_local front l) (All-push IsLocal front.locals l c (weaken e n 1 h w)))
fill_expr e n (f ∷ k) h w c = absurd c

-- ---- declarations

member_shape : (f l d : List Terminal) (m c n : Terminal) → f ++ ((l ++ (d ++ m ∷ [])) ++ (c ∷ (n ∷ []))) ≡ ((f ++ l) ++ d) ++ (m ∷ (c ∷ (n ∷ [])))
member_shape f l d m c n = simp append_assoc

some_pushed : {X : Type 0} (xs : List X) (y : X) → 0 < length (xs ++ y ∷ [])
some_pushed [] y = omega arith
some_pushed (z ∷ xs) y = omega arith

-- a declared thing may end after its name or a length
fill_declaration : (owner : Owner) (d : Declaration) → IsOwner owner → MayHaveLengths owner → Begun (owner_terminals owner ++ declaration_terminals d)
fill_declaration InSource d w v = (GlobalItem (record { declaration = d; initialiser = NoInitialiser; semicolon = no_span }), semicolon ∷ [], tt, refl)
fill_declaration (InStruct front members) d w v =
    let y : Member = record { declaration = d; semicolon = no_span } in (
      struct_item front (members ++ y ∷ []) no_span no_span,
      semicolon ∷ (brace ∷ (semicolon ∷ [])),
      some_pushed members y,
      ap (λ l. struct_terminals front ++ (l ++ (brace ∷ (semicolon ∷ [])))) (flat_map-push member_terminals members y)
          ∙ member_shape (struct_terminals front) (flat_map member_terminals members) (declaration_terminals d) semicolon brace semicolon,
    )
fill_declaration (InFirstParameter f o) d w v = absurd v
fill_declaration (InLaterParameter f o earlier) d w v = absurd v
fill_declaration (InFunction front) d w v =
    let l = make_local d NoValue no_span in
    shorter _ (semicolon ∷ []) _ (append_assoc (front_terminals front) (declaration_terminals d) (semicolon ∷ []) ∙ sym (front_push front l))
    (fill_locals (with_local front l) (All-push IsLocal front.locals l w tt))

prototype_shape : (d e p : List Terminal) (o c m : Terminal) → (d ++ (o ∷ ((e ++ p) ++ c ∷ []))) ++ m ∷ [] ≡ ((d ++ (o ∷ e)) ++ p) ++ (c ∷ (m ∷ []))
prototype_shape d e p o c m = simp append_assoc

fill_named : (owner : Owner) (d : Declared) → IsOwner owner → Begun (owner_terminals owner ++ declared_terminals d)
fill_named (InFirstParameter f o) d w = (
  PrototypeItem (record { header = header f o (Parameters' [] d) no_span; semicolon = no_span }),
  right ∷ (semicolon ∷ []),
  tt,
  prototype_shape (declared_terminals f) [] (declared_terminals d) (terminal s.LeftParenthesis o) right semicolon,
)
fill_named (InLaterParameter f o earlier) d w = (
  PrototypeItem (record { header = header f o (Parameters' earlier d) no_span; semicolon = no_span }),
  right ∷ (semicolon ∷ []),
  tt,
  prototype_shape (declared_terminals f) (flat_map earlier_parameter_terminals earlier) (declared_terminals d) (terminal s.LeftParenthesis o) right semicolon,
)
fill_named owner d w = same _ _ (ap (λ l. owner_terminals owner ++ l) (append-nil (declared_terminals d))) (fill_declaration owner (without_lengths d) w tt)

words_shape : (o z : List Terminal) (n : Terminal) → (o ++ z) ++ n ∷ [] ≡ o ++ (z ++ n ∷ [])
words_shape o z n = append_assoc o z (n ∷ [])

stars_shape : (o z y : List Terminal) (n : Terminal) → (o ++ (z ++ y)) ++ n ∷ [] ≡ o ++ (z ++ (y ++ n ∷ []))
stars_shape o z y n = simp append_assoc

length_shape : (o d : List Terminal) (b n c : Terminal) → (o ++ (d ++ b ∷ [])) ++ (n ∷ (c ∷ [])) ≡ (o ++ (d ++ (b ∷ (n ∷ [])))) ++ c ∷ []
length_shape o d b n c = simp append_assoc

two_after : (l m : List Terminal) (a : Terminal) → (l ++ a ∷ []) ++ m ≡ l ++ (a ∷ m)
two_after l m a = simp append_assoc

pair_after : (l m : List Terminal) (a b : Terminal) → (l ++ (a ∷ (b ∷ []))) ++ m ≡ l ++ (a ∷ (b ∷ m))
pair_after l m a b = simp append_assoc

list_shape : (d e n : List Terminal) (q o c m : Terminal) → (((d ++ (q ∷ (o ∷ e))) ++ n) ++ (c ∷ (m ∷ []))) ≡ d ++ ((q ∷ (o ∷ (e ++ (n ++ c ∷ [])))) ++ m ∷ [])
list_shape d e n q o c m = simp append_assoc

-- a list of numbers may end after a number
fill_list : (l : NumberList) (minus : Option _) → Begun (list_terminals l ++ number_terminals (signed minus no_literal no_span))
fill_list l minus =
    let n = signed minus no_literal no_span in (
      GlobalItem (record { declaration = l.declaration; initialiser = Listed l.equals l.left l.earlier n no_span; semicolon = no_span }),
      brace ∷ (semicolon ∷ []),
      tt,
      sym (list_shape (declaration_terminals l.declaration) (flat_map earlier_number_terminals l.earlier) (number_terminals n) (terminal s.Assign l.equals) (terminal s.LeftBrace l.left) brace semicolon),
    )

fill_initialiser : (d : Declaration) (i : _) → Begun (declaration_terminals d ++ initialiser_terminals i)
fill_initialiser d i =
    (GlobalItem (record { declaration = d; initialiser = i; semicolon = no_span }), semicolon ∷ [], tt, sym (append_assoc (declaration_terminals d) (initialiser_terminals i) (semicolon ∷ [])))

fill_members : (front : StructFront) (members : List _) → 0 < length members → Begun (struct_terminals front ++ flat_map member_terminals members)
fill_members front members w =
    (struct_item front members no_span no_span, brace ∷ (semicolon ∷ []), w, sym (append_assoc (struct_terminals front) (flat_map member_terminals members) (brace ∷ (semicolon ∷ []))))

-- ---- each mode

read_port_shape : (k e : List Terminal) (q p m : Terminal) → (k ++ (e ++ (q ∷ (p ∷ [])))) ++ m ∷ [] ≡ k ++ (e ++ (q ∷ (p ∷ (m ∷ []))))
read_port_shape k e q p m = simp append_assoc

do_end_shape : (k y z : List Terminal) (d m : Terminal) → (k ++ (d ∷ (y ++ z))) ++ m ∷ [] ≡ k ++ (d ∷ (y ++ (z ++ m ∷ [])))
do_end_shape k y z d m = simp append_assoc

fill_pending : (y : Pending) (k : List Form) → IsPending y → HoldsStatement k → Begun (spell k ++ pending_terminals y)
fill_pending (CallPending z) k w c = shorter _ (semicolon ∷ []) _ (append_assoc (spell k) (call_terminals z) (semicolon ∷ [])) (fill_stmt (ended (CallPending z) no_span) k w c)
fill_pending (ReadPending target q port) k w c =
    shorter _ (semicolon ∷ []) _ (read_port_shape (spell k) (expr_terminals target) (terminal s.Assign q) (terminal s.PortOne port) semicolon)
    (fill_stmt (ended (ReadPending target q port) no_span) k w c)
fill_pending (DoPending word y z) k w c =
    shorter _ (semicolon ∷ []) _ (do_end_shape (spell k) (stmt_terminals y) (test_terminals s.While z) (terminal s.Do word) semicolon)
    (fill_stmt (ended (DoPending word y z) no_span) k w c)
fill_pending (BreakPending word) k w c = shorter _ (semicolon ∷ []) _ (append_assoc (spell k) (terminal s.Break word ∷ []) (semicolon ∷ [])) (fill_stmt (ended (BreakPending word) no_span) k tt c)
fill_pending (ContinuePending word) k w c =
    shorter _ (semicolon ∷ []) _ (append_assoc (spell k) (terminal s.Continue word ∷ []) (semicolon ∷ [])) (fill_stmt (ended (ContinuePending word) no_span) k tt c)

member_name_shape : (k e : List Terminal) (d n : Terminal) → (k ++ (e ++ d ∷ [])) ++ n ∷ [] ≡ k ++ (e ++ (d ∷ (n ∷ [])))
member_name_shape k e d n = simp append_assoc

do_while_shape : (k y m : List Terminal) (d w : Terminal) → (k ++ (d ∷ (y ++ w ∷ []))) ++ m ≡ k ++ (d ∷ (y ++ (w ∷ m)))
do_while_shape k y m d w = simp append_assoc

no_argument_shape : (k g : List Terminal) (n o c m : Terminal) → (k ++ (g ++ (n ∷ (o ∷ [])))) ++ (c ∷ (m ∷ [])) ≡ k ++ ((g ++ (n ∷ (o ∷ (c ∷ [])))) ++ m ∷ [])
no_argument_shape k g n o c m = simp append_assoc

pub fill : (m : Mode) → refused m ≡ false → IsGood m → Begun (spelled m)
fill (Operand k) h w = shorter _ (x' ∷ []) _ refl (fill_expr name 13 k (omega arith) tt w)
fill (AfterOperand e k) h w = fill_expr e 13 k (omega arith) w.0 w.1
fill (MemberName e operator a k) h w =
    shorter _ (x' ∷ []) _ (member_name_shape (spell k) (expr_terminals e) (terminal (member_symbol operator) a) x') (fill_expr (Select e operator a x) 13 k (omega arith) w.0 w.1)
fill (CastTag o word k) h w =
    shorter _ (x' ∷ (right ∷ (x' ∷ []))) _ (append_assoc (spell k) (terminal s.LeftParenthesis o ∷ (terminal s.Struct word ∷ [])) _)
    (fill_expr (Cast o (t.Struct word x) no_span name) 12 k (omega arith) (at_most 12, tt) (looser k w))
fill (CastWords o type k) h w =
    shorter _ (right ∷ (x' ∷ [])) _ (append_assoc (spell k) (terminal s.LeftParenthesis o ∷ type_terminals type) _)
    (fill_expr (Cast o type no_span name) 12 k (omega arith) (at_most 12, tt) (looser k w))
fill (Statement k) h w = shorter _ (semicolon ∷ []) _ refl (fill_stmt nop k tt w)
fill (MayElse y k) h w = fill_stmt y k w.0 w.2
fill (IfWord word k) h w =
    shorter _ (left ∷ (x' ∷ (right ∷ (semicolon ∷ [])))) _ (append_assoc (spell k) (terminal s.If word ∷ []) _)
    (fill_stmt (If (record { keyword = word; left = no_span; condition = name; right = no_span }) nop) k (tt, tt) w)
fill (WhileWord word k) h w =
    shorter _ (left ∷ (x' ∷ (right ∷ (semicolon ∷ [])))) _ (append_assoc (spell k) (terminal s.While word ∷ []) _)
    (fill_stmt (While (record { keyword = word; left = no_span; condition = name; right = no_span }) nop) k (tt, tt) w)
fill (DoBody word y k) h w =
    shorter _ do_rest _ (append_assoc (spell k) (terminal s.Do word ∷ stmt_terminals y) _) (fill_stmt (Do word y dull_test no_span) k (w.0, tt) w.1)
fill (DoWhile word y while' k) h w =
    shorter _ (left ∷ (x' ∷ (right ∷ (semicolon ∷ [])))) _ (do_while_shape (spell k) (stmt_terminals y) _ (terminal s.Do word) (terminal s.While while'))
    (fill_stmt (Do word y (record { keyword = while'; left = no_span; condition = name; right = no_span }) no_span) k (w.0, tt) w.1)
fill (ForWord word k) h w =
    shorter _ (left ∷ (semicolon ∷ [])) _ (append_assoc (spell k) (terminal s.For word ∷ []) _)
    (fill_start (record { keyword = word; left = no_span; first = None; semicolon = no_span }) k tt w)
fill (ForFirst word o k) h w =
    shorter _ (semicolon ∷ []) _ (append_assoc (spell k) (terminal s.For word ∷ (terminal s.LeftParenthesis o ∷ [])) _)
    (fill_start (record { keyword = word; left = o; first = None; semicolon = no_span }) k tt w)
fill (ForCondition start k) h w = fill_start start k w.0 w.1
fill (ForStep middle k) h w = fill_middle middle k w.0 w.1
fill (ReturnWord word k) h w = shorter _ (semicolon ∷ []) _ (append_assoc (spell k) (terminal s.Return word ∷ []) _) (fill_stmt (Return word None no_span) k tt w)
fill (PortWord port k) h w =
    shorter _ (equals ∷ (x' ∷ (semicolon ∷ []))) _ (append_assoc (spell k) (terminal s.PortOne port ∷ []) _) (fill_stmt (WritePort port no_span name no_span) k tt w)
fill (FirstArgument g f o k) h w =
    shorter _ (right ∷ (semicolon ∷ [])) _ (no_argument_shape (spell k) (optional target_terminals g) (name_terminal f) (terminal s.LeftParenthesis o) right semicolon)
    (fill_stmt (CallOf (call g f o NoArguments no_span) no_span) k tt w)
fill (StatementEnd y k) h w = fill_pending y k w.0 w.1
fill ItemStart h w =
    let b = fill_initialiser (without_lengths (make_declared (t.Int no_span) [] x)) NoInitialiser in
    (b.0, item_terminals b.0, b.2, refl)
fill (TypeStart owner) h w = shorter _ (terminal s.Int no_span ∷ (x' ∷ [])) _ refl (fill_named owner (make_declared (t.Int no_span) [] x) w)
fill (TagName owner word) h w =
    shorter _ (x' ∷ (x' ∷ [])) _ (append_assoc (owner_terminals owner) (terminal s.Struct word ∷ []) _) (fill_named owner (make_declared (t.Struct word x) [] x) w)
fill (Words owner type) h w = shorter _ (x' ∷ []) _ (words_shape (owner_terminals owner) (type_terminals type) x') (fill_named owner (make_declared type [] x) w)
fill (Stars owner type stars) h w =
    shorter _ (x' ∷ []) _ (stars_shape (owner_terminals owner) (type_terminals type) (map (terminal s.Star) stars) x') (fill_named owner (make_declared type stars x) w)
fill (Named owner d) h w = fill_named owner d w
fill (Lengths owner d) h w = fill_declaration owner d w.0 w.1
fill (LengthNumber owner d o) h w =
    shorter _ (number ∷ (terminal s.RightBracket no_span ∷ [])) _
    (length_shape (owner_terminals owner) (declaration_terminals d) (terminal s.LeftBracket o) number (terminal s.RightBracket no_span)
    ∙ sym (longer_is (owner_terminals owner) d o no_literal no_span no_span))
    (fill_declaration owner (longer d (make_length o no_literal no_span no_span)) w.0 w.1)
fill (LengthEnd owner d o n i) h w =
    shorter _ (terminal s.RightBracket no_span ∷ []) _ (sym (longer_is (owner_terminals owner) d o n i no_span)) (fill_declaration owner (longer d (make_length o n i no_span)) w.0 w.1)
fill (Members front members) h w = fill_members front members w
fill (StructEnd front members i) h w =
    (struct_item front members i no_span, semicolon ∷ [], w, sym (two_after (struct_terminals front ++ flat_map member_terminals members) (semicolon ∷ []) (terminal s.RightBrace i) ∙ append_assoc (struct_terminals front) (flat_map member_terminals members) _))
fill (InitialiserStart d q) h w = shorter _ (number ∷ []) _ (append_assoc (declaration_terminals d) (terminal s.Assign q ∷ []) _) (fill_initialiser d (Single q (signed None no_literal no_span)))
fill (InitialiserNumber d q minus) h w =
    shorter _ (number ∷ []) _ (append_assoc (declaration_terminals d) (terminal s.Assign q ∷ (terminal s.Minus minus ∷ [])) _) (fill_initialiser d (Single q (signed (Some minus) no_literal no_span)))
fill (InitialiserEnd d i) h w = fill_initialiser d i
fill (ListStart l) h w = shorter _ (number ∷ []) _ refl (fill_list l None)
fill (ListNumber l minus) h w = shorter _ (number ∷ []) _ (append_assoc (list_terminals l) (terminal s.Minus minus ∷ []) _) (fill_list l (Some minus))
fill (ListEnd l n) h w = (
  GlobalItem (record { declaration = l.declaration; initialiser = Listed l.equals l.left l.earlier n no_span; semicolon = no_span }),
  brace ∷ (semicolon ∷ []),
  tt,
  sym (list_shape (declaration_terminals l.declaration) (flat_map earlier_number_terminals l.earlier) (number_terminals n) (terminal s.Assign l.equals) (terminal s.LeftBrace l.left) brace semicolon),
)
fill (HeaderEnd y) h w = (PrototypeItem (record { header = y; semicolon = no_span }), semicolon ∷ [], tt, refl)
fill (Finished y) h w = (y, [], w, sym (append-nil (item_terminals y)))
fill Refused h w = cc
