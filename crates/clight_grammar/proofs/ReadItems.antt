-- What a program spells is read as that program.
use Rattle.std.proofs.Common.{◌≡◌, ◌<◌, List, [], ◌∷◌, ◌++◌, All, length, refl, sym, ap, ◌∙◌, append_assoc, append-nil, arith}
use Rattle.std.specs.Prelude.{Option, Some, None, map, flat_map}
use Rattle.std.proofs.lemmas.List.Elements.{All-head, All-tail}
use Rattle.clight_source.specs.declared.span.Span.{Span}
use Rattle.clight_source.specs.declared.symbol.Literal.{Literal}
use Rattle.clight_source.specs.declared.symbol.Symbol.{Symbol}
use Rattle.clight_source.specs.declared.symbol.Symbol.TheVariants as s
use Rattle.clight_source.specs.declared.symbol.Terminal.{Terminal}
use Rattle.clight_source.specs.declared.tree.Name.{Name}
use Rattle.clight_source.specs.declared.tree.Specifiers.{Specifiers}
use Rattle.clight_source.specs.declared.tree.Specifiers.TheVariants as t
use Rattle.clight_source.specs.declared.tree.Length.{Length}
use Rattle.clight_source.specs.declared.tree.SignedNumber.{SignedNumber}
use Rattle.clight_source.specs.declared.tree.EarlierNumber.{EarlierNumber}
use Rattle.clight_source.specs.Trees.{Declared, Declaration, Member, Struct, Initialiser, NoInitialiser, Single, Listed, EarlierParameter, Parameters, NoParameters, Parameters', Header, LocalInitialiser, NoValue, Value, Local, Function, Stmts, NoStmts, Then, Item, StructItem, GlobalItem, PrototypeItem, FunctionItem}
use Rattle.clight_source.specs.Spelling.{terminal, name_terminal, type_terminals, expr_terminals, stmts_terminals, optional, length_terminals, declared_terminals, declaration_terminals, member_terminals, struct_terminals, minus_terminals, number_terminals, earlier_number_terminals, initialiser_terminals, earlier_parameter_terminals, parameters_terminals, header_terminals, local_initialiser_terminals, local_terminals, function_terminals, item_terminals, IsLocalInitialiser, IsLocal, IsFunction, IsItem}
use Rattle.clight_nodes.specs.Code.Declarations.{signed}
use Rattle.clight_nodes.specs.declared.modes.StructFront.{StructFront}
use Rattle.clight_grammar.specs.Code.Parts.{make_declared, make_local, with_local, FunctionFront, header}
use Rattle.clight_grammar.specs.Code.Forms.{Form, InLocalValue, InLocals, Owner, InSource, InStruct, InFirstParameter, InLaterParameter, InFunction, NumberList, Mode, Operand, Statement, ItemStart, TypeStart, Words, Stars, Named, Lengths, Members, InitialiserStart, InitialiserEnd, ListStart, ListEnd, HeaderEnd, Finished}
use Rattle.clight_grammar.specs.Code.Declarations.{end_declaration, begin_initialiser, longer, make_list}
use Rattle.clight_grammar.specs.Code.Machine.{next}
use Rattle.clight_grammar.proofs.ReadExpressions.{read, read_closed}
use Rattle.clight_grammar.proofs.ReadStatements.{Heads, heads_append, enter, OfBody, hole, at_heads, read_stmts}

-- ---- the type and the name

abbrev BeginsType : Symbol → Type 0
BeginsType s.Void = Unit {0}
BeginsType s.Char = Unit {0}
BeginsType s.Int = Unit {0}
BeginsType s.Signed = Unit {0}
BeginsType s.Unsigned = Unit {0}
BeginsType s.Long = Unit {0}
BeginsType s.Struct = Unit {0}
BeginsType _ = ⊥

heads_type : (type : Specifiers) → Heads BeginsType (type_terminals type)
heads_type (t.Void a) = tt
heads_type type = tt

at_local : (front : FunctionFront) (k : List Form) (y : Symbol) (a : Span) → BeginsType y
    → next (Statement (InLocals front ∷ k)) y a ≡ next (TypeStart (InFunction front)) y a
at_local front k s.Void a h = refl
at_local front k s.Char a h = refl
at_local front k s.Int a h = refl
at_local front k s.Signed a h = refl
at_local front k s.Unsigned a h = refl
at_local front k s.Long a h = refl
at_local front k s.Struct a h = refl
at_local front k y a h = absurd h

at_member : (front : StructFront) (members : List Member) (y : Symbol) (a : Span) → BeginsType y
    → next (Members front members) y a ≡ next (TypeStart (InStruct front members)) y a
at_member front members s.RightBrace a h = absurd h
at_member front members y a h = refl

read_type : (owner : Owner) (type : Specifiers) (r : List Terminal) → read (TypeStart owner) (type_terminals type ++ r) ≡ read (Words owner type) r
read_type owner (t.Void a) r = refl
read_type owner type r = refl

read_stars : (rest done : List Span) (owner : Owner) (type : Specifiers) (name : Name) (r : List Terminal)
    → read (Stars owner type done) (map (terminal s.Star) rest ++ (name_terminal name ∷ r)) ≡ read (Named owner (make_declared type (done ++ rest) name)) r
read_stars [] done owner type name r = ap (λ l. read (Named owner (make_declared type l name)) r) (sym (append-nil done))
read_stars (a ∷ rest) done owner type name r =
    read_stars rest (done ++ a ∷ []) owner type name r ∙ ap (λ l. read (Named owner (make_declared type l name)) r) (append_assoc done (a ∷ []) rest)

read_name : (stars : List Span) (owner : Owner) (type : Specifiers) (name : Name) (r : List Terminal)
    → read (Words owner type) (map (terminal s.Star) stars ++ (name_terminal name ∷ r)) ≡ read (Named owner (make_declared type stars name)) r
read_name [] owner type name r = refl
read_name (a ∷ stars) owner type name r = read_stars stars (a ∷ []) owner type name r

-- from a mode in which a type may begin
abbrev Enters : Mode → Owner → Type 0
Enters m owner = (y : Symbol) (a : Span) → BeginsType y → next m y a ≡ next (TypeStart owner) y a

read_declared : (m : Mode) (owner : Owner) (x : Declared) (r : List Terminal) → Enters m owner → read m (declared_terminals x ++ r) ≡ read (Named owner x) r
read_declared m owner x r h =
    let l = map (terminal s.Star) x.stars ++ name_terminal x.name ∷ [] in
    ap (read m) (append_assoc (type_terminals x.specifiers) l r)
    ∙ (enter BeginsType m (TypeStart owner) h (type_terminals x.specifiers ++ (l ++ r)) (heads_append BeginsType (type_terminals x.specifiers) (l ++ r) (heads_type x.specifiers))
    ∙ (read_type owner x.specifiers (l ++ r)
    ∙ (ap (read (Words owner x.specifiers)) (append_assoc (map (terminal s.Star) x.stars) (name_terminal x.name ∷ []) r)
    ∙ read_name x.stars owner x.specifiers x.name r)))

-- ---- lengths

-- what has lengths: all but a parameter
abbrev pub MayHaveLengths : Owner → Type 0
MayHaveLengths (InFirstParameter f left) = ⊥
MayHaveLengths (InLaterParameter f left earlier) = ⊥
MayHaveLengths owner = Unit {0}

abbrev with_lengths : Declared → List Length → Declaration
with_lengths x l = record { declared = x; lengths = l }

-- the mode after the name and some lengths
abbrev after_lengths : Owner → Declared → List Length → Mode
after_lengths owner x [] = Named owner x
after_lengths owner x (y ∷ l) = Lengths owner (with_lengths x (y ∷ l))

length_steps : (owner : Owner) (x : Declaration) (y : Length) (r : List Terminal) → MayHaveLengths owner
    → read (Lengths owner x) (length_terminals y ++ r) ≡ read (Lengths owner (longer x y)) r
length_steps InSource x y r w = refl
length_steps (InStruct front members) x y r w = refl
length_steps (InFirstParameter f left) x y r w = absurd w
length_steps (InLaterParameter f left earlier) x y r w = absurd w
length_steps (InFunction front) x y r w = refl

first_length : (owner : Owner) (x : Declared) (y : Length) (r : List Terminal) → MayHaveLengths owner
    → read (Named owner x) (length_terminals y ++ r) ≡ read (Lengths owner (with_lengths x (y ∷ []))) r
first_length InSource x y r w = refl
first_length (InStruct front members) x y r w = refl
first_length (InFirstParameter f left) x y r w = absurd w
first_length (InLaterParameter f left earlier) x y r w = absurd w
first_length (InFunction front) x y r w = refl

read_lengths : (rest done : List Length) (owner : Owner) (x : Declared) (r : List Terminal) → MayHaveLengths owner
    → read (Lengths owner (with_lengths x done)) (flat_map length_terminals rest ++ r) ≡ read (Lengths owner (with_lengths x (done ++ rest))) r
read_lengths [] done owner x r w = ap (λ l. read (Lengths owner (with_lengths x l)) r) (sym (append-nil done))
read_lengths (y ∷ rest) done owner x r w =
    let m = Lengths owner (with_lengths x done) in
    ap (read m) (append_assoc (length_terminals y) (flat_map length_terminals rest) r)
    ∙ (length_steps owner (with_lengths x done) y (flat_map length_terminals rest ++ r) w
    ∙ (read_lengths rest (done ++ y ∷ []) owner x r w
    ∙ ap (λ l. read (Lengths owner (with_lengths x l)) r) (append_assoc done (y ∷ []) rest)))

read_all_lengths : (l : List Length) (owner : Owner) (x : Declared) (r : List Terminal) → MayHaveLengths owner
    → read (Named owner x) (flat_map length_terminals l ++ r) ≡ read (after_lengths owner x l) r
read_all_lengths [] owner x r w = refl
read_all_lengths (y ∷ rest) owner x r w =
    ap (read (Named owner x)) (append_assoc (length_terminals y) (flat_map length_terminals rest) r)
    ∙ (first_length owner x y (flat_map length_terminals rest ++ r) w ∙ read_lengths rest (y ∷ []) owner x r w)

read_declaration : (m : Mode) (owner : Owner) (x : Declaration) (r : List Terminal) → Enters m owner → MayHaveLengths owner
    → read m (declaration_terminals x ++ r) ≡ read (after_lengths owner x.declared x.lengths) r
read_declaration m owner x r h w =
    ap (read m) (append_assoc (declared_terminals x.declared) (flat_map length_terminals x.lengths) r)
    ∙ (read_declared m owner x.declared (flat_map length_terminals x.lengths ++ r) h ∙ read_all_lengths x.lengths owner x.declared r w)

semicolon_step : (l : List Length) (owner : Owner) (x : Declared) (a : Span)
    → next (after_lengths owner x l) s.Semicolon a ≡ end_declaration owner (with_lengths x l) a
semicolon_step [] owner x a = refl
semicolon_step (y ∷ l) owner x a = refl

equals_step : (l : List Length) (owner : Owner) (x : Declared) (a : Span)
    → next (after_lengths owner x l) s.Assign a ≡ begin_initialiser owner (with_lengths x l) a
equals_step [] owner x a = refl
equals_step (y ∷ l) owner x a = refl

-- a declaration that ends at once
read_bare : (m : Mode) (owner : Owner) (x : Declaration) (a : Span) (r : List Terminal) → Enters m owner → MayHaveLengths owner
    → read m ((declaration_terminals x ++ terminal s.Semicolon a ∷ []) ++ r) ≡ read (end_declaration owner x a) r
read_bare m owner x a r h w =
    ap (read m) (append_assoc (declaration_terminals x) (terminal s.Semicolon a ∷ []) r)
    ∙ (read_declaration m owner x (terminal s.Semicolon a ∷ r) h w ∙ ap (λ z. read z r) (semicolon_step x.lengths owner x.declared a))

same_start : (owner : Owner) → Enters (TypeStart owner) owner
same_start owner y a h = refl

at_item : Enters ItemStart InSource
at_item y a h = refl

-- ---- structs

read_members : (rest done : List Member) (front : StructFront) (r : List Terminal) → read (Members front done) (flat_map member_terminals rest ++ r) ≡ read (Members front (done ++ rest)) r
read_members [] done front r = ap (λ l. read (Members front l) r) (sym (append-nil done))
read_members (x ∷ rest) done front r =
    ap (read (Members front done)) (append_assoc (member_terminals x) (flat_map member_terminals rest) r)
    ∙ (read_bare (Members front done) (InStruct front done) x.declaration x.semicolon (flat_map member_terminals rest ++ r) (at_member front done) tt
    ∙ (read_members rest (done ++ x ∷ []) front r ∙ ap (λ l. read (Members front l) r) (append_assoc done (x ∷ []) rest)))

read_all_members : (l : List Member) (front : StructFront) (r : List Terminal) → 0 < length l
    → read (TypeStart (InStruct front [])) (flat_map member_terminals l ++ r) ≡ read (Members front l) r
read_all_members [] front r h = absurd (omega arith)
read_all_members (x ∷ rest) front r h =
    ap (read (TypeStart (InStruct front []))) (append_assoc (member_terminals x) (flat_map member_terminals rest) r)
    ∙ (read_bare (TypeStart (InStruct front [])) (InStruct front []) x.declaration x.semicolon (flat_map member_terminals rest ++ r) (same_start (InStruct front [])) tt
    ∙ read_members rest (x ∷ []) front r)

read_struct : (x : Struct) → 0 < length x.members → read ItemStart (struct_terminals x) ≡ Finished (StructItem x)
read_struct x h = read_all_members x.members (record { keyword = x.keyword; tag = x.tag; left = x.left }) (terminal s.RightBrace x.right ∷ terminal s.Semicolon x.semicolon ∷ []) h

-- ---- globals

read_single : (minus : Option Span) (number : Literal) (a : Span) (x : Declaration) (equals : Span) (r : List Terminal)
    → read (InitialiserStart x equals) ((optional minus_terminals minus ++ terminal (s.Number number) a ∷ []) ++ r) ≡ read (InitialiserEnd x (Single equals (signed minus number a))) r
read_single None number a x equals r = refl
read_single (Some minus) number a x equals r = refl

read_number : (minus : Option Span) (number : Literal) (a : Span) (l : NumberList) (r : List Terminal)
    → read (ListStart l) ((optional minus_terminals minus ++ terminal (s.Number number) a ∷ []) ++ r) ≡ read (ListEnd l (signed minus number a)) r
read_number None number a l r = refl
read_number (Some minus) number a l r = refl

abbrev number_list : Declaration → (equals left : Span) → List EarlierNumber → NumberList
number_list x equals left l = record { declaration = x; equals = equals; left = left; earlier = l }

read_numbers : (rest done : List EarlierNumber) (x : Declaration) (equals left : Span) (r : List Terminal)
    → read (ListStart (number_list x equals left done)) (flat_map earlier_number_terminals rest ++ r) ≡ read (ListStart (number_list x equals left (done ++ rest))) r
read_numbers [] done x equals left r = ap (λ l. read (ListStart (number_list x equals left l)) r) (sym (append-nil done))
read_numbers (y ∷ rest) done x equals left r =
    let l = flat_map earlier_number_terminals rest ++ r in
    let m = ListStart (number_list x equals left done) in
    ap (read m) (append_assoc (earlier_number_terminals y) (flat_map earlier_number_terminals rest) r)
    ∙ (ap (read m) (append_assoc (number_terminals y.number) (terminal s.Comma y.comma ∷ []) l)
    ∙ (read_number y.number.minus y.number.number y.number.span (number_list x equals left done) (terminal s.Comma y.comma ∷ l)
    ∙ (read_numbers rest (done ++ y ∷ []) x equals left r
    ∙ ap (λ l. read (ListStart (number_list x equals left l)) r) (append_assoc done (y ∷ []) rest))))

list_group : (e l : List Terminal) (c m : Terminal) → (e ++ (l ++ c ∷ [])) ++ m ∷ [] ≡ e ++ (l ++ (c ∷ (m ∷ [])))
list_group e l c m = simp append_assoc

read_list : (earlier : List EarlierNumber) (last : SignedNumber) (x : Declaration) (equals left right a : Span)
    → read (ListStart (make_list x equals left)) ((flat_map earlier_number_terminals earlier ++ (number_terminals last ++ terminal s.RightBrace right ∷ [])) ++ terminal s.Semicolon a ∷ [])
    ≡ Finished (GlobalItem (record { declaration = x; initialiser = Listed equals left earlier last right; semicolon = a }))
read_list earlier last x equals left right a =
    let e = flat_map earlier_number_terminals earlier in
    let r = terminal s.RightBrace right ∷ (terminal s.Semicolon a ∷ []) in
    ap (read (ListStart (make_list x equals left))) (list_group e (number_terminals last) (terminal s.RightBrace right) (terminal s.Semicolon a))
    ∙ (read_numbers earlier [] x equals left (number_terminals last ++ r)
    ∙ read_number last.minus last.number last.span (number_list x equals left earlier) r)

read_initialiser : (i : Initialiser) (x : Declaration) (a : Span)
    → read (after_lengths InSource x.declared x.lengths) (initialiser_terminals i ++ terminal s.Semicolon a ∷ [])
    ≡ Finished (GlobalItem (record { declaration = x; initialiser = i; semicolon = a }))
read_initialiser NoInitialiser x a = semicolon_step x.lengths InSource x.declared a
read_initialiser (Single equals n) x a =
    ap (λ z. read z (number_terminals n ++ terminal s.Semicolon a ∷ [])) (equals_step x.lengths InSource x.declared equals)
    ∙ read_single n.minus n.number n.span x equals (terminal s.Semicolon a ∷ [])
read_initialiser (Listed equals left earlier last right) x a =
    let l = flat_map earlier_number_terminals earlier ++ (number_terminals last ++ terminal s.RightBrace right ∷ []) in
    ap (λ z. read z (terminal s.LeftBrace left ∷ (l ++ terminal s.Semicolon a ∷ []))) (equals_step x.lengths InSource x.declared equals)
    ∙ read_list earlier last x equals left right a

-- ---- the heads of functions

read_parameters : (rest done : List EarlierParameter) (f : Declared) (left : Span) (r : List Terminal)
    → read (TypeStart (InLaterParameter f left done)) (flat_map earlier_parameter_terminals rest ++ r) ≡ read (TypeStart (InLaterParameter f left (done ++ rest))) r
read_parameters [] done f left r = ap (λ l. read (TypeStart (InLaterParameter f left l)) r) (sym (append-nil done))
read_parameters (x ∷ rest) done f left r =
    let l = flat_map earlier_parameter_terminals rest ++ r in
    let m = TypeStart (InLaterParameter f left done) in
    ap (read m) (append_assoc (earlier_parameter_terminals x) (flat_map earlier_parameter_terminals rest) r)
    ∙ (ap (read m) (append_assoc (declared_terminals x.parameter) (terminal s.Comma x.comma ∷ []) l)
    ∙ (read_declared m (InLaterParameter f left done) x.parameter (terminal s.Comma x.comma ∷ l) (same_start (InLaterParameter f left done))
    ∙ (read_parameters rest (done ++ x ∷ []) f left r
    ∙ ap (λ l. read (TypeStart (InLaterParameter f left l)) r) (append_assoc done (x ∷ []) rest))))

-- the parameter that is due after some earlier ones
abbrev parameter_owner : Declared → Span → List EarlierParameter → Owner
parameter_owner f left [] = InFirstParameter f left
parameter_owner f left (x ∷ l) = InLaterParameter f left (x ∷ l)

read_earlier_parameters : (l : List EarlierParameter) (f : Declared) (left : Span) (r : List Terminal)
    → read (TypeStart (InFirstParameter f left)) (flat_map earlier_parameter_terminals l ++ r) ≡ read (TypeStart (parameter_owner f left l)) r
read_earlier_parameters [] f left r = refl
read_earlier_parameters (x ∷ rest) f left r =
    let l = flat_map earlier_parameter_terminals rest ++ r in
    let m = TypeStart (InFirstParameter f left) in
    ap (read m) (append_assoc (earlier_parameter_terminals x) (flat_map earlier_parameter_terminals rest) r)
    ∙ (ap (read m) (append_assoc (declared_terminals x.parameter) (terminal s.Comma x.comma ∷ []) l)
    ∙ (read_declared m (InFirstParameter f left) x.parameter (terminal s.Comma x.comma ∷ l) (same_start (InFirstParameter f left))
    ∙ read_parameters rest (x ∷ []) f left r))

last_parameter : (l : List EarlierParameter) (f x : Declared) (left right : Span)
    → next (Named (parameter_owner f left l) x) s.RightParenthesis right ≡ HeaderEnd (header f left (Parameters' l x) right)
last_parameter [] f x left right = refl
last_parameter (y ∷ l) f x left right = refl

read_all_parameters : (ps : Parameters) (f : Declared) (left right : Span) (r : List Terminal)
    → read (TypeStart (InFirstParameter f left)) ((parameters_terminals ps ++ terminal s.RightParenthesis right ∷ []) ++ r) ≡ read (HeaderEnd (header f left ps right)) r
read_all_parameters (NoParameters void) f left right r = refl
read_all_parameters (Parameters' earlier last) f left right r =
    let e = flat_map earlier_parameter_terminals earlier in
    let d = declared_terminals last in
    let c = terminal s.RightParenthesis right in
    let m = TypeStart (InFirstParameter f left) in
    let owner = parameter_owner f left earlier in
    ap (read m) (append_assoc (e ++ d) (c ∷ []) r)
    ∙ (ap (read m) (append_assoc e d (c ∷ r))
    ∙ (read_earlier_parameters earlier f left (d ++ (c ∷ r))
    ∙ (read_declared (TypeStart owner) owner last (c ∷ r) (same_start owner)
    ∙ ap (λ z. read z r) (last_parameter earlier f last left right))))

read_header : (x : Header) (r : List Terminal) → read ItemStart (header_terminals x ++ r) ≡ read (HeaderEnd x) r
read_header x r =
    let l = parameters_terminals x.parameters ++ terminal s.RightParenthesis x.right ∷ [] in
    ap (read ItemStart) (append_assoc (declared_terminals x.declared) (terminal s.LeftParenthesis x.left ∷ l) r)
    ∙ (read_declared ItemStart InSource x.declared (terminal s.LeftParenthesis x.left ∷ (l ++ r)) at_item
    ∙ read_all_parameters x.parameters x.declared x.left x.right r)

-- ---- locals

abbrev locals_front : Header → Span → List Local → FunctionFront
locals_front h left l = record { header = h; left = left; locals = l }

local_value : (i : LocalInitialiser) (x : Declaration) (a : Span) (front : FunctionFront) (r : List Terminal) → IsLocalInitialiser i
    → read (after_lengths (InFunction front) x.declared x.lengths) ((local_initialiser_terminals i ++ terminal s.Semicolon a ∷ []) ++ r)
    ≡ read (Statement (InLocals (with_local front (make_local x i a)) ∷ [])) r
local_value NoValue x a front r w = ap (λ z. read z r) (semicolon_step x.lengths (InFunction front) x.declared a)
local_value (Value equals e) x a front r w =
    ap (λ z. read z ((expr_terminals e ++ terminal s.Semicolon a ∷ []) ++ r)) (equals_step x.lengths (InFunction front) x.declared equals)
    ∙ (ap (read (Operand (InLocalValue front x equals ∷ []))) (append_assoc (expr_terminals e) (terminal s.Semicolon a ∷ []) r)
    ∙ read_closed e (InLocalValue front x equals) [] s.Semicolon a r refl w tt)

read_local : (x : Local) (front : FunctionFront) (r : List Terminal) → IsLocal x
    → read (Statement (InLocals front ∷ [])) (local_terminals x ++ r) ≡ read (Statement (InLocals (with_local front x) ∷ [])) r
read_local x front r w =
    let l = local_initialiser_terminals x.initialiser ++ terminal s.Semicolon x.semicolon ∷ [] in
    let m = Statement (InLocals front ∷ []) in
    ap (read m) (append_assoc (declaration_terminals x.declaration) l r)
    ∙ (read_declaration m (InFunction front) x.declaration (l ++ r) (at_local front []) tt
    ∙ local_value x.initialiser x.declaration x.semicolon front r w)

read_locals : (rest done : List Local) (h : Header) (left : Span) (r : List Terminal) → All IsLocal rest
    → read (Statement (InLocals (locals_front h left done) ∷ [])) (flat_map local_terminals rest ++ r) ≡ read (Statement (InLocals (locals_front h left (done ++ rest)) ∷ [])) r
read_locals [] done h left r w = ap (λ l. read (Statement (InLocals (locals_front h left l) ∷ [])) r) (sym (append-nil done))
read_locals (x ∷ rest) done h left r w =
    ap (read (Statement (InLocals (locals_front h left done) ∷ []))) (append_assoc (local_terminals x) (flat_map local_terminals rest) r)
    ∙ (read_local x (locals_front h left done) (flat_map local_terminals rest ++ r) (All-head IsLocal x rest w)
    ∙ (read_locals rest (done ++ x ∷ []) h left r (All-tail IsLocal x rest w)
    ∙ ap (λ l. read (Statement (InLocals (locals_front h left l) ∷ [])) r) (append_assoc done (x ∷ []) rest)))

-- ---- items

-- the `}` of a function
function_end : (xs : Stmts) (front : FunctionFront) (right : Span)
    → read (Statement (hole (OfBody front) xs ∷ [])) (terminal s.RightBrace right ∷ [])
    ≡ Finished (FunctionItem (record { header = front.header; left = front.left; locals = front.locals; body = xs; right = right }))
function_end NoStmts front right = refl
function_end (Then xs x) front right = refl

read_function : (x : Function) → IsFunction x → read ItemStart (function_terminals x) ≡ Finished (FunctionItem x)
read_function x w =
    let front = locals_front x.header x.left x.locals in
    let c = terminal s.RightBrace x.right ∷ [] in
    let l = stmts_terminals x.body ++ c in
    read_header x.header (terminal s.LeftBrace x.left ∷ (flat_map local_terminals x.locals ++ l))
    ∙ (read_locals x.locals [] x.header x.left l w.0
    ∙ (read_stmts x.body (OfBody front) [] c w.1
    ∙ (at_heads x.body (OfBody front) [] c tt ∙ function_end x.body front x.right)))

pub read_item : (x : Item) → IsItem x → read ItemStart (item_terminals x) ≡ Finished x
read_item (StructItem x) w = read_struct x w
read_item (GlobalItem x) w = read_declaration ItemStart InSource x.declaration (initialiser_terminals x.initialiser ++ terminal s.Semicolon x.semicolon ∷ []) at_item tt ∙ read_initialiser x.initialiser x.declaration x.semicolon
read_item (PrototypeItem x) w = read_header x.header (terminal s.Semicolon x.semicolon ∷ [])
read_item (FunctionItem x) w = read_function x w
