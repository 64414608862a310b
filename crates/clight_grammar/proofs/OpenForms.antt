-- What the machine has read of an item: what its open forms and its mode spell, and that these are parts of the grammar.
use Rattle.std.proofs.Common.{◌≡◌, ℕ, ◌+◌, ◌≤◌, ◌<◌, List, [], ◌∷◌, ◌++◌, All, length}
use Rattle.std.specs.Prelude.{map, flat_map}
use Rattle.clight_source.specs.declared.symbol.Symbol.TheVariants as s
use Rattle.clight_source.specs.declared.symbol.Terminal.{Terminal}
use Rattle.clight_source.specs.Spelling.{terminal, name_terminal, binary_symbol, prefix_symbol, member_symbol, type_terminals, expr_terminals, assignment_terminals, optional, test_terminals, earlier_argument_terminals, target_terminals, call_terminals, for_terminals, stmt_terminals, stmts_terminals, declared_terminals, declaration_terminals, member_terminals, number_terminals, earlier_number_terminals, initialiser_terminals, earlier_parameter_terminals, header_terminals, local_terminals, item_terminals, level, HasLevel, IsExpression, IsUnary, IsAssignment, IfThere, AreArguments, IsForHead, EndsClosed, IsStatement, AreStatements, IsLocal, IsItem}
use Rattle.clight_nodes.specs.declared.modes.StructFront.{StructFront}
use Rattle.clight_grammar.specs.Code.Parts.{ForStart, ForMiddle, FunctionFront}
use Rattle.clight_grammar.specs.Code.Forms.{Place, AsStatement, AsFirst, AsStep, Form, InBinary, InPrefix, InCast, InParenthesis, InIndex, InTarget, InValue, InPortValue, InArguments, InIfTest, InWhileTest, InDoTest, InCondition, InReturn, InLocalValue, InIf, InElse, InWhile, InDo, InFor, InBlock, InLocals, InBody, Owner, InSource, InStruct, InFirstParameter, InLaterParameter, InFunction, Pending, CallPending, ReadPending, DoPending, BreakPending, ContinuePending, NumberList, Mode, Operand, AfterOperand, MemberName, CastTag, CastWords, Statement, MayElse, IfWord, WhileWord, DoBody, DoWhile, ForWord, ForFirst, ForCondition, ForStep, ReturnWord, PortWord, FirstArgument, StatementEnd, ItemStart, TypeStart, TagName, Words, Stars, Named, Lengths, LengthNumber, LengthEnd, Members, StructEnd, InitialiserStart, InitialiserNumber, InitialiserEnd, ListStart, ListNumber, ListEnd, HeaderEnd, Finished, Refused}
use Rattle.clight_grammar.proofs.ReadItems.{MayHaveLengths}

-- ---- what is spelled

abbrev pub start_terminals : ForStart → List Terminal
start_terminals x = terminal s.For x.keyword ∷ (terminal s.LeftParenthesis x.left ∷ (optional assignment_terminals x.first ++ terminal s.Semicolon x.semicolon ∷ []))

abbrev pub middle_terminals : ForMiddle → List Terminal
middle_terminals x = start_terminals x.start ++ (optional expr_terminals x.condition ++ terminal s.Semicolon x.semicolon ∷ [])

abbrev pub place_terminals : Place → List Terminal
place_terminals AsStatement = []
place_terminals (AsFirst word left) = terminal s.For word ∷ (terminal s.LeftParenthesis left ∷ [])
place_terminals (AsStep middle) = middle_terminals middle

abbrev pub front_terminals : FunctionFront → List Terminal
front_terminals x = header_terminals x.header ++ (terminal s.LeftBrace x.left ∷ flat_map local_terminals x.locals)

abbrev pub form_terminals : Form → List Terminal
form_terminals (InBinary l operator a) = expr_terminals l ++ terminal (binary_symbol operator) a ∷ []
form_terminals (InPrefix operator a) = terminal (prefix_symbol operator) a ∷ []
form_terminals (InCast left type right) = terminal s.LeftParenthesis left ∷ (type_terminals type ++ terminal s.RightParenthesis right ∷ [])
form_terminals (InParenthesis left) = terminal s.LeftParenthesis left ∷ []
form_terminals (InIndex base left) = expr_terminals base ++ terminal s.LeftBracket left ∷ []
form_terminals (InTarget place) = place_terminals place
form_terminals (InValue place target equals) = place_terminals place ++ (expr_terminals target ++ terminal s.Assign equals ∷ [])
form_terminals (InPortValue port equals) = terminal s.PortOne port ∷ (terminal s.Assign equals ∷ [])
form_terminals (InArguments g f left earlier) =
    optional target_terminals g ++ (name_terminal f ∷ (terminal s.LeftParenthesis left ∷ flat_map earlier_argument_terminals earlier))
form_terminals (InIfTest word left) = terminal s.If word ∷ (terminal s.LeftParenthesis left ∷ [])
form_terminals (InWhileTest word left) = terminal s.While word ∷ (terminal s.LeftParenthesis left ∷ [])
form_terminals (InDoTest word x while' left) = terminal s.Do word ∷ (stmt_terminals x ++ (terminal s.While while' ∷ (terminal s.LeftParenthesis left ∷ [])))
form_terminals (InCondition start) = start_terminals start
form_terminals (InReturn word) = terminal s.Return word ∷ []
form_terminals (InLocalValue front x equals) = front_terminals front ++ (declaration_terminals x ++ terminal s.Assign equals ∷ [])
form_terminals (InIf t) = test_terminals s.If t
form_terminals (InElse t x a) = test_terminals s.If t ++ (stmt_terminals x ++ terminal s.Else a ∷ [])
form_terminals (InWhile t) = test_terminals s.While t
form_terminals (InDo word) = terminal s.Do word ∷ []
form_terminals (InFor head) = for_terminals head
form_terminals (InBlock left xs) = terminal s.LeftBrace left ∷ stmts_terminals xs
form_terminals (InLocals front) = front_terminals front
form_terminals (InBody front xs) = front_terminals front ++ stmts_terminals xs

-- the open forms; nothing is open around a function
abbrev pub spell : List Form → List Terminal
spell [] = []
spell (InLocalValue front x equals ∷ k) = form_terminals (InLocalValue front x equals)
spell (InLocals front ∷ k) = form_terminals (InLocals front)
spell (InBody front xs ∷ k) = form_terminals (InBody front xs)
spell (f ∷ k) = spell k ++ form_terminals f

abbrev pub struct_terminals : StructFront → List Terminal
struct_terminals x = terminal s.Struct x.keyword ∷ (name_terminal x.tag ∷ (terminal s.LeftBrace x.left ∷ []))

abbrev pub owner_terminals : Owner → List Terminal
owner_terminals InSource = []
owner_terminals (InStruct front members) = struct_terminals front ++ flat_map member_terminals members
owner_terminals (InFirstParameter f left) = declared_terminals f ++ terminal s.LeftParenthesis left ∷ []
owner_terminals (InLaterParameter f left earlier) = declared_terminals f ++ (terminal s.LeftParenthesis left ∷ flat_map earlier_parameter_terminals earlier)
owner_terminals (InFunction front) = front_terminals front

abbrev pub pending_terminals : Pending → List Terminal
pending_terminals (CallPending x) = call_terminals x
pending_terminals (ReadPending target equals port) = expr_terminals target ++ (terminal s.Assign equals ∷ (terminal s.PortOne port ∷ []))
pending_terminals (DoPending word x t) = terminal s.Do word ∷ (stmt_terminals x ++ test_terminals s.While t)
pending_terminals (BreakPending word) = terminal s.Break word ∷ []
pending_terminals (ContinuePending word) = terminal s.Continue word ∷ []

abbrev pub list_terminals : NumberList → List Terminal
list_terminals l = declaration_terminals l.declaration ++ (terminal s.Assign l.equals ∷ (terminal s.LeftBrace l.left ∷ flat_map earlier_number_terminals l.earlier))

abbrev pub spelled : Mode → List Terminal
spelled (Operand k) = spell k
spelled (AfterOperand e k) = spell k ++ expr_terminals e
spelled (MemberName e operator a k) = spell k ++ (expr_terminals e ++ terminal (member_symbol operator) a ∷ [])
spelled (CastTag left word k) = spell k ++ (terminal s.LeftParenthesis left ∷ (terminal s.Struct word ∷ []))
spelled (CastWords left type k) = spell k ++ (terminal s.LeftParenthesis left ∷ type_terminals type)
spelled (Statement k) = spell k
spelled (MayElse x k) = spell k ++ stmt_terminals x
spelled (IfWord word k) = spell k ++ terminal s.If word ∷ []
spelled (WhileWord word k) = spell k ++ terminal s.While word ∷ []
spelled (DoBody word x k) = spell k ++ (terminal s.Do word ∷ stmt_terminals x)
spelled (DoWhile word x while' k) = spell k ++ (terminal s.Do word ∷ (stmt_terminals x ++ terminal s.While while' ∷ []))
spelled (ForWord word k) = spell k ++ terminal s.For word ∷ []
spelled (ForFirst word left k) = spell k ++ (terminal s.For word ∷ (terminal s.LeftParenthesis left ∷ []))
spelled (ForCondition start k) = spell k ++ start_terminals start
spelled (ForStep middle k) = spell k ++ middle_terminals middle
spelled (ReturnWord word k) = spell k ++ terminal s.Return word ∷ []
spelled (PortWord port k) = spell k ++ terminal s.PortOne port ∷ []
spelled (FirstArgument g f left k) = spell k ++ (optional target_terminals g ++ (name_terminal f ∷ (terminal s.LeftParenthesis left ∷ [])))
spelled (StatementEnd x k) = spell k ++ pending_terminals x
spelled ItemStart = []
spelled (TypeStart owner) = owner_terminals owner
spelled (TagName owner word) = owner_terminals owner ++ terminal s.Struct word ∷ []
spelled (Words owner type) = owner_terminals owner ++ type_terminals type
spelled (Stars owner type stars) = owner_terminals owner ++ (type_terminals type ++ map (terminal s.Star) stars)
spelled (Named owner x) = owner_terminals owner ++ declared_terminals x
spelled (Lengths owner x) = owner_terminals owner ++ declaration_terminals x
spelled (LengthNumber owner x left) = owner_terminals owner ++ (declaration_terminals x ++ terminal s.LeftBracket left ∷ [])
spelled (LengthEnd owner x left number a) = owner_terminals owner ++ (declaration_terminals x ++ (terminal s.LeftBracket left ∷ (terminal (s.Number number) a ∷ [])))
spelled (Members front members) = struct_terminals front ++ flat_map member_terminals members
spelled (StructEnd front members right) = (struct_terminals front ++ flat_map member_terminals members) ++ terminal s.RightBrace right ∷ []
spelled (InitialiserStart x equals) = declaration_terminals x ++ terminal s.Assign equals ∷ []
spelled (InitialiserNumber x equals minus) = declaration_terminals x ++ (terminal s.Assign equals ∷ (terminal s.Minus minus ∷ []))
spelled (InitialiserEnd x i) = declaration_terminals x ++ initialiser_terminals i
spelled (ListStart l) = list_terminals l
spelled (ListNumber l minus) = list_terminals l ++ terminal s.Minus minus ∷ []
spelled (ListEnd l number) = list_terminals l ++ number_terminals number
spelled (HeaderEnd x) = header_terminals x
spelled (Finished x) = item_terminals x
spelled Refused = []

-- the mode has read the terminals, where it is no fault
abbrev pub HasRead : Mode → List Terminal → Type 0
HasRead Refused l = Unit {0}
HasRead m l = spelled m ≡ l

-- ---- parts of the grammar

abbrev pub IsStart : ForStart → Type 0
IsStart x = IfThere IsAssignment x.first

abbrev pub IsMiddle : ForMiddle → Type 0
IsMiddle x = IsStart x.start × IfThere IsExpression x.condition

abbrev pub IsPlace : Place → Type 0
IsPlace AsStatement = Unit {0}
IsPlace (AsFirst word left) = Unit {0}
IsPlace (AsStep middle) = IsMiddle middle

abbrev pub IsFront : FunctionFront → Type 0
IsFront x = All IsLocal x.locals

-- a statement may be in the open forms
abbrev pub HoldsStatement : List Form → Type 0
HoldsStatement (InIf t ∷ k) = IsExpression t.condition × HoldsStatement k
HoldsStatement (InElse t x a ∷ k) = IsExpression t.condition × IsStatement x × EndsClosed x × HoldsStatement k
HoldsStatement (InWhile t ∷ k) = IsExpression t.condition × HoldsStatement k
HoldsStatement (InDo word ∷ k) = HoldsStatement k
HoldsStatement (InFor head ∷ k) = IsForHead head × HoldsStatement k
HoldsStatement (InBlock left xs ∷ k) = AreStatements xs × HoldsStatement k
HoldsStatement (InLocals front ∷ k) = IsFront front
HoldsStatement (InBody front xs ∷ k) = IsFront front × AreStatements xs
HoldsStatement _ = ⊥

-- an expression of level n may be in the open forms
abbrev pub HoldsExpression : List Form → ℕ → Type 0
HoldsExpression (InBinary l operator a ∷ k) n = HasLevel l (level operator) × (1 + level operator ≤ n) × HoldsExpression k (level operator)
HoldsExpression (InPrefix operator a ∷ k) n = (12 ≤ n) × HoldsExpression k 12
HoldsExpression (InCast left type right ∷ k) n = (12 ≤ n) × HoldsExpression k 12
HoldsExpression (InParenthesis left ∷ k) n = HoldsExpression k 13
HoldsExpression (InIndex base left ∷ k) n = HasLevel base 13 × HoldsExpression k 13
HoldsExpression (InTarget place ∷ k) n = (12 ≤ n) × IsPlace place × HoldsStatement k
HoldsExpression (InValue place target equals ∷ k) n = IsUnary target × IsPlace place × HoldsStatement k
HoldsExpression (InPortValue port equals ∷ k) n = HoldsStatement k
HoldsExpression (InArguments g f left earlier ∷ k) n = All (λ x. IsExpression x.value) earlier × HoldsStatement k
HoldsExpression (InIfTest word left ∷ k) n = HoldsStatement k
HoldsExpression (InWhileTest word left ∷ k) n = HoldsStatement k
HoldsExpression (InDoTest word x while' left ∷ k) n = IsStatement x × HoldsStatement k
HoldsExpression (InCondition start ∷ k) n = IsStart start × HoldsStatement k
HoldsExpression (InReturn word ∷ k) n = HoldsStatement k
HoldsExpression (InLocalValue front x equals ∷ k) n = IsFront front
HoldsExpression _ n = ⊥

-- the same for what may be looser than the left side of an assignment
abbrev pub HoldsOperand : List Form → ℕ → Type 0
HoldsOperand (InTarget place ∷ k) n = IsPlace place × HoldsStatement k
HoldsOperand k n = HoldsExpression k n

abbrev pub IsPending : Pending → Type 0
IsPending (CallPending x) = AreArguments x.arguments
IsPending (ReadPending target equals port) = IsUnary target
IsPending (DoPending word x t) = IsStatement x × IsExpression t.condition
IsPending x = Unit {0}

abbrev pub IsOwner : Owner → Type 0
IsOwner (InFunction front) = IsFront front
IsOwner owner = Unit {0}

abbrev pub IsGood : Mode → Type 0
IsGood (Operand k) = HoldsExpression k 13
IsGood (AfterOperand e k) = HasLevel e 13 × HoldsExpression k 13
IsGood (MemberName e operator a k) = HasLevel e 13 × HoldsExpression k 13
IsGood (CastTag left word k) = HoldsExpression k 13
IsGood (CastWords left type k) = HoldsExpression k 13
IsGood (Statement k) = HoldsStatement k
IsGood (MayElse x k) = IsStatement x × EndsClosed x × HoldsStatement k
IsGood (IfWord word k) = HoldsStatement k
IsGood (WhileWord word k) = HoldsStatement k
IsGood (DoBody word x k) = IsStatement x × HoldsStatement k
IsGood (DoWhile word x while' k) = IsStatement x × HoldsStatement k
IsGood (ForWord word k) = HoldsStatement k
IsGood (ForFirst word left k) = HoldsStatement k
IsGood (ForCondition start k) = IsStart start × HoldsStatement k
IsGood (ForStep middle k) = IsMiddle middle × HoldsStatement k
IsGood (ReturnWord word k) = HoldsStatement k
IsGood (PortWord port k) = HoldsStatement k
IsGood (FirstArgument g f left k) = HoldsStatement k
IsGood (StatementEnd x k) = IsPending x × HoldsStatement k
IsGood (TypeStart owner) = IsOwner owner
IsGood (TagName owner word) = IsOwner owner
IsGood (Words owner type) = IsOwner owner
IsGood (Stars owner type stars) = IsOwner owner
IsGood (Named owner x) = IsOwner owner
IsGood (Lengths owner x) = IsOwner owner × MayHaveLengths owner
IsGood (LengthNumber owner x left) = IsOwner owner × MayHaveLengths owner
IsGood (LengthEnd owner x left number a) = IsOwner owner × MayHaveLengths owner
IsGood (Members front members) = 0 < length members
IsGood (StructEnd front members right) = 0 < length members
IsGood (Finished x) = IsItem x
IsGood _ = Unit {0}
