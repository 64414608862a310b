-- A function is typed in its parts: its header, its locals and statements, and what is asked of it as a whole.
use Rattle.std.proofs.Common.{◌≡◌, ◌∙◌, ℕ, suc, Bool, List, ◌++◌, length, map, Result, Ok, Err, refl, sym, ap}
use Rattle.cerco_base.specs.declared.reasons.TypeKind.TheVariants as k
use Rattle.clight_source.specs.Trees as s
use Rattle.c_types.specs.Types.{CType}
use Rattle.clight_syntax.specs.TypedTrees.{Local, Stmts, Function, Variable'}
use Rattle.clight_types.specs.Declarations.{declared_type, parameters_of, signature_of}
use Rattle.clight_typing.specs.Functions.{File, agrees, first_local, names_at_locals, has_few_parameters, variables_from, variables_of, parameter_own}
use Rattle.clight_typing.specs.Code.HeldFile.{source_own}
use Rattle.clight_typing.specs.Code.HeldFunction.{U, Parts, Function', with_end, function_and_end, typed_parts, typed_and_end, taken_within}
use Rattle.clight_typing.specs.Programs.{after_function, after_prototype}
use Rattle.clight_typing.specs.Statements.{is_among}
use Rattle.clight_types.specs.TypedExpressions.{Checked, ◌>>=◌}
use Rattle.clight_typing.specs.TypedPrograms.{asked, checked_types, few_parameters, function_with, typed_function, typed_locals, around}
use Rattle.clight_typing.specs.TypedStatements.{typed_stmts}
use Rattle.clight_typing.proofs.TypedProgramLaws.{variables_same}

in_parts : {F R : Type 0} (types : Checked U) (locals : Checked (List Local)) (body : Checked (Stmts U)) (few same : Checked U)
    (made : List Local → Stmts U → F) (end : F → R) →
    (types >>= λ _. (locals >>= λ xs. body >>= λ ys. let r : Checked Parts = Ok (record { locals = xs; body = ys }) in r) >>= λ p. few >>= λ _. same >>= λ _. Ok (end (made p.locals p.body)))
    ≡ ((types >>= λ _. locals >>= λ xs. body >>= λ ys. few >>= λ _. same >>= λ _. Ok (made xs ys)) >>= λ g. Ok (end g))
in_parts (Err f) locals body few same made end = refl
in_parts (Ok _) (Err f) body few same made end = refl
in_parts (Ok _) (Ok xs) (Err f) few same made end = refl
in_parts (Ok _) (Ok xs) (Ok ys) (Err f) same made end = refl
in_parts (Ok _) (Ok xs) (Ok ys) (Ok _) (Err f) made end = refl
in_parts (Ok _) (Ok xs) (Ok ys) (Ok _) (Ok _) made end = refl

pub function_parts : (file : File) (f : s.Function) → typed_and_end file f ≡ (typed_function file f >>= λ g. Ok (with_end g (after_function file g)))
function_parts file f =
    in_parts (checked_types file.structs f.header) (typed_locals file.structs (first_local file f.header) (names_at_locals file f.header) f.locals)
    (typed_stmts (around file f) f.body) (few_parameters file.structs f.header)
    (asked (agrees (file.names f.header.declared.name.number) (signature_of file.structs f.header)) f.header.declared.name.span.from k.Prototype)
    (function_with file f) (λ g. with_end g (after_function file g))

-- ---- how the parts are joined

abbrev pub F : Type 0
F = Function U

given_function : (o : Checked F) (after : F → File) (f : F) (end : File) → (o >>= λ g. Ok (with_end g (after g))) ≡ Ok (with_end f end) → o ≡ Ok f
given_function (Ok g) after f end h = let k : with_end g (after g) ≡ with_end f end = cc in let ok : F → Checked F = λ x. Ok x in ap (λ r. ok r.function) k
given_function (Err e) after f end h = absurd cc

abbrev pub parts_in : File → File → ℕ → CType → s.Function → Checked Parts
parts_in file opened first result src =
    typed_parts opened.structs first opened.names result (parameters_of src.header.parameters) src.locals src.body

abbrev pub own_parts : File → s.Function → Checked Parts
own_parts file src = parts_in file (after_prototype file src.header) (length file.variables) (declared_type file.structs src.header.declared) src

pub same_parts : (file : File) (src : s.Function) (opened : File) (first : ℕ) (result : CType) → opened ≡ after_prototype file src.header → first ≡ length file.variables →
    result ≡ declared_type file.structs src.header.declared → own_parts file src ≡ parts_in file opened first result src
same_parts file src opened first result o f r =
    sym (ap (λ o. parts_in file o first result src) o
    ∙ (ap (λ f. parts_in file (after_prototype file src.header) f result src) f
    ∙ ap (λ r. parts_in file (after_prototype file src.header) (length file.variables) r src) r))

abbrev pub after_parts : File → s.Function → Parts → Checked Function'
after_parts file src parts =
    few_parameters file.structs src.header
    >>= λ few. asked (agrees (file.names src.header.declared.name.number) (signature_of file.structs src.header)) src.header.declared.name.span.from k.Prototype
    >>= λ same. Ok (function_and_end file src parts)

pub up_to_parts : (file : File) (src : s.Function) (p : Checked Parts) → checked_types file.structs src.header ≡ Ok tt → own_parts file src ≡ p →
    typed_and_end file src ≡ (p >>= after_parts file src)
up_to_parts file src p types parts =
    ap (λ o. o >>= λ _. own_parts file src >>= after_parts file src) types ∙ ap (λ o. o >>= after_parts file src) parts

pub up_to_few : (file : File) (src : s.Function) (p : Parts) (few : Bool) (o : Checked U) → few ≡ has_few_parameters file.structs (signature_of file.structs src.header) →
    asked few src.header.declared.name.span.from k.Params ≡ o →
    after_parts file src p
    ≡ (o >>= λ few. asked (agrees (file.names src.header.declared.name.number) (signature_of file.structs src.header)) src.header.declared.name.span.from k.Prototype
    >>= λ same. Ok (function_and_end file src p))
up_to_few file src p few o is h =
    ap (λ few. few >>= λ _. asked (agrees (file.names src.header.declared.name.number) (signature_of file.structs src.header)) src.header.declared.name.span.from k.Prototype
    >>= λ same. let r : Checked Function' = Ok (function_and_end file src p) in r)
    (ap (λ b. asked b src.header.declared.name.span.from k.Params) (sym is) ∙ h)

pub up_to_same : (file : File) (src : s.Function) (p : Parts) (same : Bool) (o : Checked U) → same ≡ agrees (file.names src.header.declared.name.number) (signature_of file.structs src.header) →
    asked same src.header.declared.name.span.from k.Prototype ≡ o →
    (asked (agrees (file.names src.header.declared.name.number) (signature_of file.structs src.header)) src.header.declared.name.span.from k.Prototype
    >>= λ same. let r : Checked Function' = Ok (function_and_end file src p) in r)
    ≡ (o >>= λ same. Ok (function_and_end file src p))
up_to_same file src p same o is h =
    ap (λ o. o >>= λ same. let r : Checked Function' = Ok (function_and_end file src p) in r) (ap (λ b. asked b src.header.declared.name.span.from k.Prototype) (sym is) ∙ h)

-- ---- a function whose parts are typed

abbrev pub made : s.Function → CType → (first parameters : ℕ) → Parts → F
made src result first parameters parts = record {
  header = src.header;
  result = result;
  first_variable = first;
  parameters = parameters;
  left = src.left;
  label = tt;
  locals = parts.locals;
  body = parts.body;
  right = src.right;
}

abbrev pub ended : File → List Variable' → File
ended opened variables = record opened { variables = variables; functions = suc opened.functions }

-- its parameters and locals
abbrev pub own_variables : File → ℕ → s.Function → List Variable'
own_variables opened first src =
    variables_from (is_among (taken_within opened.structs first opened.names (parameters_of src.header.parameters) src.locals src.body)) first 0 0
    (map (parameter_own opened.structs) (parameters_of src.header.parameters) ++ map (source_own opened.structs) src.locals)

pub function_done : (file : File) (src : s.Function) (opened : File) (first parameters : ℕ) (result : CType) (parts : Parts) (variables : List Variable') →
    typed_and_end file src ≡ Ok (function_and_end file src parts) → opened ≡ after_prototype file src.header → first ≡ length file.variables →
    result ≡ declared_type file.structs src.header.declared → parameters ≡ length (parameters_of src.header.parameters) → variables ≡ file.variables ++ own_variables opened first src →
    typed_and_end file src ≡ Ok (with_end (made src result first parameters parts) (ended opened variables))
function_done file src opened first parameters result parts variables h o f r p v =
    let ok : Function' → Checked Function' = λ x. Ok x in
    let own : File = after_prototype file src.header in
    let g : F = function_with file src parts.locals parts.body in
    let given : typed_function file src ≡ Ok g = given_function (typed_function file src) (after_function file) g (after_function file g) (sym (function_parts file src) ∙ h) in
    let lists : variables ≡ file.variables ++ variables_of file g =
    v ∙ (ap (λ opened. file.variables ++ own_variables opened first src) o
    ∙ (ap (λ first. file.variables ++ own_variables own first src) f ∙ ap (λ xs. file.variables ++ xs) (variables_same file src g given))) in
    h
    ∙ (ap (λ xs. ok (with_end g (ended own xs))) (sym lists)
    ∙ (ap (λ opened. ok (with_end g (ended opened variables))) (sym o)
    ∙ (ap (λ first. ok (with_end (made src (declared_type file.structs src.header.declared) first (length (parameters_of src.header.parameters)) parts) (ended opened variables))) (sym f)
    ∙ (ap (λ result. ok (with_end (made src result first (length (parameters_of src.header.parameters)) parts) (ended opened variables))) (sym r)
    ∙ ap (λ parameters. ok (with_end (made src result first parameters parts) (ended opened variables))) (sym p)))))
