-- A program is given a typed tree exactly where there is a well-typed one of which it is the source, and then it is given that one.
use Rattle.std.proofs.Common.{◌≡◌, ◌∙◌, ℕ, zero, suc, ◌+◌, Bool, true, false, ◌&&◌, ◌||◌, IsTrue, List, [], ◌∷◌, ◌++◌, map, length, Option, Some, None, Result, Ok, Err, refl, sym, ap, subst, append_assoc, add-one, arith, length-append}
use Rattle.std.specs.Prelude.{IfOk, if◌then◌else◌, not, slice_get}
use Rattle.std.specs.List.{flat_map}
use Rattle.std.proofs.lemmas.Bool.{and_parts, and_from}
use Rattle.cerco_base.specs.declared.reasons.TypeKind.TheVariants as k
use Rattle.clight_source.specs.Trees as s
use Rattle.c_types.specs.Types.{CType, StructType}
use Rattle.clight_syntax.specs.TypedTrees.{Expr, Stmts, LocalInitialiser, NoValue, Value, Local, Function, Item, StructItem, GlobalItem, PrototypeItem, FunctionItem, Variable', TypedProgram}
use Rattle.c_types.specs.Kinds.{is_scalar}
use Rattle.clight_types.specs.Operands.{is_assignable, operand}
use Rattle.clight_types.specs.Scopes.{Scope, Meanings, visible}
use Rattle.clight_types.specs.Declarations.{declared_type, declaration_type, parameters_of, signature_of}
use Rattle.clight_typing.specs.Statements.{Body, is_among, AreTyped, addressed, stmts_addressed}
use Rattle.clight_typing.specs.Sources.{expr_source, stmts_source, initialiser_source, local_source, function_source, item_source, program_source}
use Rattle.clight_typing.specs.Functions.{File, is_struct, is_global, is_declaration, IsFirstValue, AreLocals, with_local, with_locals, locals_addressed, first_value_addressed, function_addressed, names_at_locals, first_local, body_of, IsFunction, is_header, agrees, has_few_parameters, variables_from, variables_of, own_variable, Own, has_block, counted, function_number, parameter_own, local_own}
use Rattle.clight_typing.specs.Code.HeldFile.{source_own}
use Rattle.clight_typing.specs.Programs.{after_struct, after_global, after_prototype, after_function, AreItems, over, a_struct, a_global, a_prototype, a_function, definitions, no_file, without_address, without_layout, IsWellTyped}
use Rattle.clight_names.specs.Spellings.{main_name}
use Rattle.clight_types.specs.TypedExpressions.{Checked, fault, ◌>>=◌, typed_value}
use Rattle.clight_typing.specs.TypedStatements.{taken_in, stmts_taken, typed_stmts}
use Rattle.clight_typing.specs.TypedPrograms.{asked, checked_declaration, checked_struct, checked_global, checked_prototype, checked_types, few_parameters, typed_first_value, typed_local, scope_at, typed_locals, behind_locals, first_value_taken, locals_taken, function_taken, scope_of, around, function_with, typed_function, Items, with_item, with_function, typed_items, program_with, typed_program}
use Rattle.clight_typing.proofs.Checks.{then_holds}
use Rattle.clight_typing.proofs.SoundExpressions.{IsValueOf, typed_value_right}
use Rattle.clight_typing.proofs.CompleteExpressions.{goes, typed_value_given}
use Rattle.clight_typing.proofs.SoundStatements.{AreStmtsOf, typed_stmts_right}
use Rattle.clight_typing.proofs.CompleteStatements.{typed_stmts_given}
use Rattle.clight_typing.proofs.TakenVariables.{same_taken, same_stmts}
use Rattle.clight_typing.proofs.CheckedDeclarations.{asked_right, asked_given, declared_right, declaration_given, struct_right, struct_given, global_right, global_given, prototype_right, prototype_given, are_types, types_right, types_given, header_from, header_parts}

-- ---- locals

abbrev IsFirstValueOf : Scope → CType → s.LocalInitialiser → LocalInitialiser → Type 0
IsFirstValueOf scope type x y = IsFirstValue scope type y × (initialiser_source y ≡ x)

first_value_right : (scope : Scope) (type : CType) (x : s.LocalInitialiser) → IfOk (typed_first_value scope type x) (IsFirstValueOf scope type x)
first_value_right scope type s.NoValue = (tt, refl)
first_value_right scope type (s.Value equals value) =
    then_holds (IsValueOf scope value) (IsFirstValueOf scope type (s.Value equals value)) (typed_value scope value) _ (typed_value_right scope value)
    (λ e h. then_holds (λ _. IsTrue (is_scalar type && is_assignable (operand e) type)) (IsFirstValueOf scope type (s.Value equals value))
    (asked (is_scalar type && is_assignable (operand e) type) equals.from k.Init) (λ _. Ok (Value equals e)) (asked_right _ _ _)
    (λ _ can. (((h.0, h.1), can), ap (λ value. s.Value equals value) h.2)))

first_value_given : (scope : Scope) (type : CType) (y : LocalInitialiser) → IsFirstValue scope type y → typed_first_value scope type (initialiser_source y) ≡ Ok y
first_value_given scope type NoValue h = refl
first_value_given scope type (Value equals e) h =
    goes (typed_value scope (expr_source e)) e _ (typed_value_given scope e h.0)
    ∙ goes (asked (is_scalar type && is_assignable (operand e) type) equals.from k.Init) tt (λ _. Ok (Value equals e)) (asked_given _ _ _ h.1)

abbrev IsLocalOf : Scope → s.Local → Local → Type 0
IsLocalOf scope x y =
    IsTrue (is_declaration scope.structs x.declaration) × IsFirstValue scope (declaration_type scope.structs x.declaration) y.initialiser × (local_source y ≡ x) × (y.declaration ≡ x.declaration)

local_right : (scope : Scope) (x : s.Local) → IfOk (typed_local scope x) (IsLocalOf scope x)
local_right scope x =
    then_holds Declared (IsLocalOf scope x) (checked_declaration scope.structs x.declaration) _ (declared_right scope.structs x.declaration)
    (λ type h. then_holds (IsFirstValueOf scope type x.initialiser) (IsLocalOf scope x) (typed_first_value scope type x.initialiser) _ (first_value_right scope type x.initialiser)
    (λ first g. (
      h.0,
      at_type type first h.1 g.0,
      ap (λ initialiser. let y : s.Local = record { declaration = x.declaration; initialiser = initialiser; semicolon = x.semicolon } in y) g.1,
      refl,
    )))
  where
    Declared : CType → Type 0
    Declared type = IsTrue (is_declaration scope.structs x.declaration) × (type ≡ declaration_type scope.structs x.declaration)

    at_type : (type : CType) (first : LocalInitialiser) → type ≡ declaration_type scope.structs x.declaration → IsFirstValue scope type first →
        IsFirstValue scope (declaration_type scope.structs x.declaration) first
    at_type type first is h = let P : CType → Type 0 = λ type. IsFirstValue scope type first in subst P is h

local_given : (scope : Scope) (y : Local) → IsTrue (is_declaration scope.structs y.declaration) → IsFirstValue scope (declaration_type scope.structs y.declaration) y.initialiser →
    typed_local scope (local_source y) ≡ Ok y
local_given scope y h g =
    goes (checked_declaration scope.structs y.declaration) (declaration_type scope.structs y.declaration) _ (declaration_given scope.structs y.declaration h)
    ∙ goes (typed_first_value scope (declaration_type scope.structs y.declaration) (initialiser_source y.initialiser)) y.initialiser (λ first. Ok (record y { initialiser = first }))
    (first_value_given scope (declaration_type scope.structs y.declaration) y.initialiser g)

abbrev AreLocalsOf : List StructType → ℕ → Meanings → List s.Local → List Local → Type 0
AreLocalsOf structs variable names xs ys = AreLocals structs variable names ys × (map local_source ys ≡ xs)

locals_right : (structs : List StructType) (variable : ℕ) (names : Meanings) (xs : List s.Local) → IfOk (typed_locals structs variable names xs) (AreLocalsOf structs variable names xs)
locals_right structs variable names [] = (tt, refl)
locals_right structs variable names (x ∷ rest) =
    then_holds (IsLocalOf (scope_at structs variable names x) x) (AreLocalsOf structs variable names (x ∷ rest)) (typed_local (scope_at structs variable names x) x) _
    (local_right (scope_at structs variable names x) x)
    (λ y h. then_holds (AreLocalsOf structs (suc variable) (with_local structs variable x.declaration names) rest) (AreLocalsOf structs variable names (x ∷ rest))
    (typed_locals structs (suc variable) (with_local structs variable x.declaration names) rest) _
    (locals_right structs (suc variable) (with_local structs variable x.declaration names) rest)
    (λ ys g. (at_declaration x.declaration y ys (sym h.3) h.0 h.1 g.0, ap (λ y. y ∷ map local_source ys) h.2 ∙ ap (λ ys. x ∷ ys) g.1)))
  where
    at_declaration : (d : s.Declaration) (y : Local) (ys : List Local) → d ≡ y.declaration → IsTrue (is_declaration structs d) →
        IsFirstValue (visible structs (with_local structs variable d names)) (declaration_type structs d) y.initialiser →
        AreLocals structs (suc variable) (with_local structs variable d names) ys → AreLocals structs variable names (y ∷ ys)
    at_declaration d y ys is =
        let P : s.Declaration → Type 0 = λ d. IsTrue (is_declaration structs d) →
        IsFirstValue (visible structs (with_local structs variable d names)) (declaration_type structs d) y.initialiser →
        AreLocals structs (suc variable) (with_local structs variable d names) ys → AreLocals structs variable names (y ∷ ys) in
        subst P (sym is) (λ h g f. (h, g, f))

locals_given : (structs : List StructType) (variable : ℕ) (names : Meanings) (ys : List Local) → AreLocals structs variable names ys →
    typed_locals structs variable names (map local_source ys) ≡ Ok ys
locals_given structs variable names [] h = refl
locals_given structs variable names (y ∷ rest) h =
    goes (typed_local (scope_at structs variable names (local_source y)) (local_source y)) y _ (local_given (scope_at structs variable names (local_source y)) y h.0 h.1)
    ∙ goes (typed_locals structs (suc variable) (with_local structs variable y.declaration names) (map local_source rest)) rest (λ ys. Ok (y ∷ ys))
    (locals_given structs (suc variable) (with_local structs variable y.declaration names) rest h.2)

behind_same : (structs : List StructType) (variable : ℕ) (names : Meanings) (ys : List Local) →
    behind_locals structs variable names (map local_source ys) ≡ with_locals structs variable ys names
behind_same structs variable names [] = refl
behind_same structs variable names (y ∷ rest) = behind_same structs (suc variable) (with_local structs variable y.declaration names) rest

first_value_same : (scope : Scope) (type : CType) (y : LocalInitialiser) → IsFirstValue scope type y → first_value_taken scope (initialiser_source y) ≡ first_value_addressed y
first_value_same scope type NoValue h = refl
first_value_same scope type (Value equals e) h = same_taken scope e h.0.0

joined : (a b c d : List ℕ) → a ≡ c → b ≡ d → a ++ b ≡ c ++ d
joined a b c d left right = ap (λ x. x ++ b) left ∙ ap (λ y. c ++ y) right

locals_same : (structs : List StructType) (variable : ℕ) (names : Meanings) (ys : List Local) → AreLocals structs variable names ys →
    locals_taken structs variable names (map local_source ys) ≡ locals_addressed ys
locals_same structs variable names [] h = refl
locals_same structs variable names (y ∷ rest) h =
    joined _ _ _ _ (first_value_same (scope_at structs variable names (local_source y)) (declaration_type structs y.declaration) y.initialiser h.1)
    (locals_same structs (suc variable) (with_local structs variable y.declaration names) rest h.2)

-- ---- functions

abbrev F : Type 0
F = Function (Unit {0})

scope_same : (file : File) (f : F) → scope_of file (function_source f) ≡ (body_of file f).scope
scope_same file f =
    ap (visible file.structs)
    (behind_same file.structs (first_local file f.header) (names_at_locals file f.header) f.locals)

-- what stands around a function's statements is the same by its source
around_same : (file : File) (f : F) → AreLocals file.structs (first_local file f.header) (names_at_locals file f.header) f.locals →
    (body : Body) → body.scope ≡ scope_of file (function_source f) → AreTyped body f.body → around file (function_source f) ≡ body_of file f
around_same file f locals body scope typed =
    ap (λ addressed. made (scope_of file (function_source f)) addressed)
    (joined _ _ _ _ (locals_same file.structs (first_local file f.header) (names_at_locals file f.header) f.locals locals)
    (ap (λ scope. stmts_taken scope (stmts_source f.body)) (sym scope) ∙ same_stmts body f.body typed))
    ∙ ap (λ scope. made scope (function_addressed f)) (scope_same file f)
  where
    made : Scope → List ℕ → Body
    made scope addressed = record {
      scope = scope;
      result = declared_type file.structs f.header.declared;
      first_variable = length file.variables;
      addressed = is_among addressed;
      in_loop = false;
    }

-- the variables whose address is taken are the same by the source
addressed_same : (file : File) (f : F) → AreLocals file.structs (first_local file f.header) (names_at_locals file f.header) f.locals →
    AreTyped (body_of file f) f.body → function_taken file (function_source f) ≡ function_addressed f
addressed_same file f locals typed =
    joined _ _ _ _ (locals_same file.structs (first_local file f.header) (names_at_locals file f.header) f.locals locals)
    (ap (λ scope. stmts_taken scope (stmts_source f.body)) (scope_same file f) ∙ same_stmts (body_of file f) f.body typed)

abbrev IsFunctionOf : File → s.Function → F → Type 0
IsFunctionOf file x f = IsFunction file f × (function_source f ≡ x)

function_right : (file : File) (x : s.Function) → IfOk (typed_function file x) (IsFunctionOf file x)
function_right file x =
    then_holds (λ _. IsTrue (are_types file.structs x.header)) (IsFunctionOf file x) (checked_types file.structs x.header) _ (types_right file.structs x.header)
    (λ _ types. then_holds Locals (IsFunctionOf file x) (typed_locals file.structs (first_local file x.header) (names_at_locals file x.header) x.locals) _
    (locals_right file.structs (first_local file x.header) (names_at_locals file x.header) x.locals)
    (λ locals hl. then_holds (AreStmtsOf (around file x) x.body) (IsFunctionOf file x) (typed_stmts (around file x) x.body) _ (typed_stmts_right (around file x) x.body)
    (λ body hb. then_holds (λ _. IsTrue (has_few_parameters file.structs (signature_of file.structs x.header))) (IsFunctionOf file x) (few_parameters file.structs x.header) _ (asked_right _ _ _)
    (λ _ few. then_holds (λ _. IsTrue (agrees (file.names x.header.declared.name.number) (signature_of file.structs x.header))) (IsFunctionOf file x)
    (asked (agrees (file.names x.header.declared.name.number) (signature_of file.structs x.header)) x.header.declared.name.span.from k.Prototype)
    (λ _. Ok (function_with file x locals body)) (asked_right _ _ _)
    (λ _ same. is_function locals body types hl hb few same)))))
  where
    Locals : List Local → Type 0
    Locals = AreLocalsOf file.structs (first_local file x.header) (names_at_locals file x.header) x.locals

    source_is : (locals : List Local) (body : Stmts (Unit {0})) → map local_source locals ≡ x.locals → stmts_source body ≡ x.body → function_source (function_with file x locals body) ≡ x
    source_is locals body l b =
        ap (λ locals. let y : s.Function = record { header = x.header; left = x.left; locals = locals; body = stmts_source body; right = x.right } in y) l
        ∙ ap (λ body. let y : s.Function = record { header = x.header; left = x.left; locals = x.locals; body = body; right = x.right } in y) b

    is_function : (locals : List Local) (body : Stmts (Unit {0})) → IsTrue (are_types file.structs x.header) → AreLocalsOf file.structs (first_local file x.header) (names_at_locals file x.header) x.locals locals →
        AreStmtsOf (around file x) x.body body → IsTrue (has_few_parameters file.structs (signature_of file.structs x.header)) →
        IsTrue (agrees (file.names x.header.declared.name.number) (signature_of file.structs x.header)) → IsFunctionOf file x (function_with file x locals body)
    is_function locals body types hl hb few same =
        let f : F = function_with file x locals body in
        let is : function_source f ≡ x = source_is locals body hl.1 hb.1 in
        let around_is : around file x ≡ body_of file f =
        ap (around file) (sym is) ∙ around_same file f hl.0 (around file x) (ap (scope_of file) (sym is)) hb.0 in
        let P : Body → Type 0 = λ b. AreTyped b body in (
          record {
            header = header_from file.structs x.header types few;
            agrees = same;
            result = refl;
            first_variable = refl;
            parameters = refl;
            locals = hl.0;
            body = subst P around_is hb.0;
          },
          is,
        )

owns_same : (structs : List StructType) (xs : List Local) → map (source_own structs) (map local_source xs) ≡ map (local_own structs) xs
owns_same structs [] = refl
owns_same structs (x ∷ rest) = ap (λ ys. local_own structs x ∷ ys) (owns_same structs rest)

-- the variables of a function that was given a typed tree, by its source
pub variables_same : (file : File) (x : s.Function) (f : F) → typed_function file x ≡ Ok f →
    variables_from (is_among (function_taken file x)) (length file.variables) 0 0
    (map (parameter_own file.structs) (parameters_of x.header.parameters) ++ map (source_own file.structs) x.locals)
    ≡ variables_of file f
variables_same file x f is =
    let P : Checked F → Type 0 = λ o. IfOk o (IsFunctionOf file x) in
    let right : IsFunctionOf file x f = subst P is (function_right file x) in
    let of_source : s.Function → List Variable' = λ x. variables_from (is_among (function_taken file x)) (length file.variables) 0 0
    (map (parameter_own file.structs) (parameters_of x.header.parameters) ++ map (source_own file.structs) x.locals) in
    ap of_source (sym right.1)
    ∙ (ap (λ taken. variables_from (is_among taken) (length file.variables) 0 0
    (map (parameter_own file.structs) (parameters_of f.header.parameters) ++ map (source_own file.structs) (map local_source f.locals)))
    (addressed_same file f right.0.locals right.0.body)
    ∙ ap (λ owns. variables_from (is_among (function_addressed f)) (length file.variables) 0 0 (map (parameter_own file.structs) (parameters_of f.header.parameters) ++ owns))
    (owns_same file.structs f.locals))

function_given : (file : File) (f : F) → IsFunction file f → typed_function file (function_source f) ≡ Ok f
function_given file f h =
    let parts = header_parts file.structs f.header h.header in
    let around_is : around file (function_source f) ≡ body_of file f =
    around_same file f h.locals (body_of file f) (sym (scope_same file f)) h.body in
    goes (checked_types file.structs f.header) tt _ (types_given file.structs f.header parts.0)
    ∙ (goes (typed_locals file.structs (first_local file f.header) (names_at_locals file f.header) (map local_source f.locals)) f.locals _
    (locals_given file.structs (first_local file f.header) (names_at_locals file f.header) f.locals h.locals)
    ∙ (goes (typed_stmts (around file (function_source f)) (stmts_source f.body)) f.body _
    (ap (λ b. typed_stmts b (stmts_source f.body)) around_is ∙ typed_stmts_given (body_of file f) f.body h.body)
    ∙ (goes (few_parameters file.structs f.header) tt _ (asked_given _ _ _ parts.1)
    ∙ (goes (asked (agrees (file.names f.header.declared.name.number) (signature_of file.structs f.header)) f.header.declared.name.span.from k.Prototype) tt
    (λ _. Ok (function_with file (function_source f) f.locals f.body)) (asked_given _ _ _ h.agrees)
    ∙ ap (λ f. let o : Checked F = Ok f in o) same_function))))
  where
    made : CType → ℕ → ℕ → F
    made result first_variable parameters = record f { result = result; first_variable = first_variable; parameters = parameters }

    same_function : function_with file (function_source f) f.locals f.body ≡ f
    same_function =
        ap (λ result. made result (length file.variables) (length (parameters_of f.header.parameters))) (sym h.result)
        ∙ (ap (λ first_variable. made f.result first_variable (length (parameters_of f.header.parameters))) (sym h.first_variable)
        ∙ ap (λ parameters. made f.result f.first_variable parameters) (sym h.parameters))

-- ---- items

-- the item of the list behind some others
at_length : (before : List F) (f : F) (rest : List F) → slice_get (before ++ f ∷ rest) (length before) ≡ Some f
at_length [] f rest = refl
at_length (x ∷ before) f rest = at_length before f rest

the_function : (before : List F) (f : F) (rest : List F) (number : ℕ) → length before ≡ number → slice_get (before ++ f ∷ rest) number ≡ Some f
the_function before f rest number is = let P : ℕ → Type 0 = λ n. slice_get (before ++ f ∷ rest) n ≡ Some f in subst P is (at_length before f rest)

length_one_more : (before : List F) (f : F) (number : ℕ) → length before ≡ number → length (before ++ f ∷ []) ≡ suc number
length_one_more before f number is = length-append before (f ∷ []) ∙ omega (arith, is)

abbrev AreItemsOf : File → List s.Item → Items → Type 0
AreItemsOf file xs r =
    AreItems file r.items r.functions r.end × ((before : List F) → length before ≡ file.functions → flat_map (item_source (before ++ r.functions)) r.items ≡ xs)

function_item : (before : List F) (f : F) (rest : List F) (number : ℕ) (x : s.Function) (items : List Item) (xs : List s.Item) → length before ≡ number → function_source f ≡ x →
    flat_map (item_source ((before ++ f ∷ []) ++ rest)) items ≡ xs → flat_map (item_source (before ++ f ∷ rest)) (FunctionItem number ∷ items) ≡ s.FunctionItem x ∷ xs
function_item before f rest number x items xs is source h =
    ap (λ o. (elim o [ Some f ↦ s.FunctionItem (function_source f) ∷ [] | None ↦ [] ]) ++ flat_map (item_source (before ++ f ∷ rest)) items) (the_function before f rest number is)
    ∙ (ap (λ x. s.FunctionItem x ∷ flat_map (item_source (before ++ f ∷ rest)) items) source
    ∙ ap (λ xs. s.FunctionItem x ∷ xs) (ap (λ functions. flat_map (item_source functions) items) (sym (append_assoc before (f ∷ []) rest)) ∙ h))

items_right : (file : File) (xs : List s.Item) → IfOk (typed_items file xs) (AreItemsOf file xs)
items_right file [] = (over, λ before is. refl)
items_right file (s.StructItem x ∷ rest) =
    then_holds (λ _. IsTrue (is_struct file.structs x)) (AreItemsOf file (s.StructItem x ∷ rest)) (checked_struct file.structs x) _ (struct_right file.structs x)
    (λ _ h. then_holds (AreItemsOf (after_struct file x) rest) (AreItemsOf file (s.StructItem x ∷ rest)) (typed_items (after_struct file x) rest) (λ others. Ok (with_item (StructItem x) others))
    (items_right (after_struct file x) rest)
    (λ others g. (a_struct h g.0, λ before is. ap (λ xs. s.StructItem x ∷ xs) (g.1 before is))))
items_right file (s.GlobalItem x ∷ rest) =
    then_holds (λ _. IsTrue (is_global file.structs x)) (AreItemsOf file (s.GlobalItem x ∷ rest)) (checked_global file.structs x) _ (global_right file.structs x)
    (λ _ h. then_holds (AreItemsOf (after_global file x) rest) (AreItemsOf file (s.GlobalItem x ∷ rest)) (typed_items (after_global file x) rest)
    (λ others. Ok (with_item (GlobalItem x (length file.variables)) others)) (items_right (after_global file x) rest)
    (λ others g. (a_global h g.0, λ before is. ap (λ xs. s.GlobalItem x ∷ xs) (g.1 before is))))
items_right file (s.PrototypeItem x ∷ rest) =
    then_holds (λ _. IsTrue (is_header file.structs x.header)) (AreItemsOf file (s.PrototypeItem x ∷ rest)) (checked_prototype file.structs x.header) _ (prototype_right file.structs x.header)
    (λ _ h. then_holds (AreItemsOf (after_prototype file x.header) rest) (AreItemsOf file (s.PrototypeItem x ∷ rest)) (typed_items (after_prototype file x.header) rest)
    (λ others. Ok (with_item (PrototypeItem x) others)) (items_right (after_prototype file x.header) rest)
    (λ others g. (a_prototype h g.0, λ before is. ap (λ xs. s.PrototypeItem x ∷ xs) (g.1 before is))))
items_right file (s.FunctionItem x ∷ rest) =
    then_holds (IsFunctionOf file x) (AreItemsOf file (s.FunctionItem x ∷ rest)) (typed_function file x) _ (function_right file x)
    (λ f h. then_holds (AreItemsOf (after_function file f) rest) (AreItemsOf file (s.FunctionItem x ∷ rest)) (typed_items (after_function file f) rest)
    (λ others. Ok (with_function (FunctionItem file.functions) f others)) (items_right (after_function file f) rest)
    (λ others g. (
      a_function h.0 g.0,
      λ before is.
          function_item before f others.functions file.functions x others.items rest is h.1 (g.1 (before ++ f ∷ []) (length_one_more before f file.functions is)),
    )))

abbrev result_of : List Item → List F → File → Items
result_of items functions end = record { items = items; functions = functions; end = end }

items_given : (file : File) (items : List Item) (functions : List F) (end : File) → AreItems file items functions end →
    (before : List F) → length before ≡ file.functions → typed_items file (flat_map (item_source (before ++ functions)) items) ≡ Ok (result_of items functions end)
items_given file _ _ _ over before is = refl
items_given file _ functions end (a_struct {x = x} {items = items} h g) before is =
    goes (checked_struct file.structs x) tt _ (struct_given file.structs x h)
    ∙ goes (typed_items (after_struct file x) (flat_map (item_source (before ++ functions)) items)) (result_of items functions end) (λ others. Ok (with_item (StructItem x) others))
    (items_given (after_struct file x) items functions end g before is)
items_given file _ functions end (a_global {x = x} {items = items} h g) before is =
    goes (checked_global file.structs x) tt _ (global_given file.structs x h)
    ∙ goes (typed_items (after_global file x) (flat_map (item_source (before ++ functions)) items)) (result_of items functions end) (λ others. Ok (with_item (GlobalItem x (length file.variables)) others))
    (items_given (after_global file x) items functions end g before is)
items_given file _ functions end (a_prototype {x = x} {items = items} h g) before is =
    goes (checked_prototype file.structs x.header) tt _ (prototype_given file.structs x.header h)
    ∙ goes (typed_items (after_prototype file x.header) (flat_map (item_source (before ++ functions)) items)) (result_of items functions end) (λ others. Ok (with_item (PrototypeItem x) others))
    (items_given (after_prototype file x.header) items functions end g before is)
items_given file _ _ end (a_function {f = f} {items = items} {functions = functions} h g) before is =
    ap (typed_items file) (function_item before f functions file.functions (function_source f) items _ is refl refl)
    ∙ (goes (typed_function file (function_source f)) f _ (function_given file f h)
    ∙ goes (typed_items (after_function file f) (flat_map (item_source ((before ++ f ∷ []) ++ functions)) items)) (result_of items functions end)
    (λ others. Ok (with_function (FunctionItem file.functions) f others))
    (items_given (after_function file f) items functions end g (before ++ f ∷ []) (length_one_more before f file.functions is)))

-- ---- variables before they have addresses

abbrev Unplaced : List Variable' → Type 0
Unplaced xs = map without_address xs ≡ xs

own_unplaced : (addressed : ℕ → Bool) (variable blocks scalars : ℕ) (xs : List Own) → Unplaced (variables_from addressed variable blocks scalars xs)
own_unplaced addressed variable blocks scalars [] = refl
own_unplaced addressed variable blocks scalars (x ∷ rest) =
    ap (λ xs. own_variable addressed variable blocks scalars x ∷ xs) (own_unplaced addressed (suc variable) (counted (has_block addressed variable x.type) blocks) (counted (is_scalar x.type) scalars) rest)

map_append : (xs ys : List Variable') → map without_address (xs ++ ys) ≡ map without_address xs ++ map without_address ys
map_append [] ys = refl
map_append (x ∷ xs) ys = ap (λ zs. without_address x ∷ zs) (map_append xs ys)

both_unplaced : (xs ys : List Variable') → Unplaced xs → Unplaced ys → Unplaced (xs ++ ys)
both_unplaced xs ys h g = map_append xs ys ∙ (ap (λ zs. zs ++ map without_address ys) h ∙ ap (λ zs. xs ++ zs) g)

end_unplaced : (file : File) (items : List Item) (functions : List F) (end : File) → AreItems file items functions end → Unplaced file.variables → Unplaced end.variables
end_unplaced file _ _ _ over h = h
end_unplaced file _ functions end (a_struct {x = x} {items = items} h g) u = end_unplaced (after_struct file x) items functions end g u
end_unplaced file _ functions end (a_global {x = x} {items = items} h g) u =
    end_unplaced (after_global file x) items functions end g (both_unplaced file.variables _ u refl)
end_unplaced file _ functions end (a_prototype {x = x} {items = items} h g) u = end_unplaced (after_prototype file x.header) items functions end g u
end_unplaced file _ _ end (a_function {f = f} {items = items} {functions = functions} h g) u =
    end_unplaced (after_function file f) items functions end g (both_unplaced file.variables (variables_of file f) u (own_unplaced _ _ _ _ _))

-- ---- whole programs

abbrev IsProgramOf : s.Program → TypedProgram (Unit {0}) → Type 0
IsProgramOf p t = IsWellTyped t × (program_source t ≡ p)

-- a typed program is well typed, and the program is its source
pub program_right : (p : s.Program) → IfOk (typed_program p) (IsProgramOf p)
program_right p =
    then_holds (AreItemsOf (no_file (definitions p.items)) p.items) (IsProgramOf p) (typed_items (no_file (definitions p.items)) p.items) (λ items. Ok (program_with p items))
    (items_right (no_file (definitions p.items)) p.items) (λ r h. is_program r h.0 (h.1 [] refl))
  where
    is_program : (r : Items) → AreItems (no_file (definitions p.items)) r.items r.functions r.end → flat_map (item_source r.functions) r.items ≡ p.items → IsProgramOf p (program_with p r)
    is_program r items source = (
      record {
        end = r.end;
        items =
            (let P : List s.Item → Type 0 = λ xs. AreItems (no_file (definitions xs)) r.items r.functions r.end in
            subst P (sym source) items);
        structs = refl;
        variables = end_unplaced (no_file (definitions p.items)) r.items r.functions r.end items refl;
        main = refl;
      },
      ap (λ items. let q : s.Program = record { names = p.names; items = items; span = p.span } in q) source,
    )

-- a well-typed program, with no layout, is what its source is given
pub program_given : (t : TypedProgram (Unit {0})) → IsWellTyped t → typed_program (program_source t) ≡ Ok (without_layout t)
program_given t h =
    goes (typed_items (no_file (definitions (program_source t).items)) (program_source t).items) (result_of t.items t.functions h.end) (λ items. Ok (program_with (program_source t) items))
    (items_given (no_file (definitions (program_source t).items)) t.items t.functions h.end h.items [] refl)
    ∙ ap (λ t. let o : Checked (TypedProgram (Unit {0})) = Ok t in o) same_program
  where
    made : List StructType → List Variable' → ℕ → TypedProgram (Unit {0})
    made structs variables main = record t { structs = structs; variables = variables; main = main; frames = []; data_bytes = 0; calls = [] }

    same_program : program_with (program_source t) (result_of t.items t.functions h.end) ≡ without_layout t
    same_program =
        ap (λ structs. made structs h.end.variables (function_number h.end.definitions (main_name t.names))) (sym h.structs)
        ∙ (ap (λ variables. made t.structs variables (function_number h.end.definitions (main_name t.names))) (sym h.variables)
        ∙ ap (λ main. made t.structs (map without_address t.variables) main) (sym h.main))
