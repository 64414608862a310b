use Rattle.std.proofs.Common.{◌≡◌, ◌∙◌, ℕ, suc, ◌++◌, List, map, nat_eq, Result, Ok, Err, refl, ap, sym, rules}
use Rattle.c_types.specs.Types.{CType, StructType, type_of}
use Rattle.clight_syntax.specs.TypedTrees.{Variable'}
use Rattle.clight_syntax.specs.Code.TypedViews.{function_of, variable_of}
use Rattle.clight_source.specs.Code.Views.{function_of as source_of}
use Rattle.clight_typing.specs.Functions.{File, variables_from}
use Rattle.clight_types.specs.Scopes.{Meanings}
use Rattle.clight_typing.specs.Code.HeldFile.{file_for}
use Rattle.clight_types.specs.Declarations.{parameters_of}
use Rattle.clight_typing.specs.Code.HeldFunction.{U, Function', parts_of, with_end, typed_parts, taken_within}
use Rattle.clight_typing.specs.Statements.{is_among}
use Rattle.clight_typing.specs.Code.HeldOwn.{own_of}
use Rattle.clight_typing.specs.Code.HeldScopes.{file_names}
use Rattle.clight_types.specs.TypedExpressions.{TypeFault, Checked, ◌>>=◌}
use Rattle.clight_typing.proofs.Gives.{faulted}
use Rattle.clight_typing.proofs.FunctionParts.{same_parts, up_to_parts, up_to_few, up_to_same, function_done, made, own_parts, after_parts, parts_in}
use Rattle.clight_source.specs.Code.Views.{stmts_of}
use Rattle.clight_typing.specs.declared.functions.Opening.{Opening}
use Rattle.clight_typing.specs.TypedPrograms.{checked_types}
use Rattle.indexmap.specs.IndexSet.{contains}
use Rattle.clight_types.specs.Code.HeldStructs.{structs_of}
use Rattle.clight_typing.proofs.files.File.typed_function.Goals as goal

pub returns-in_err-opening : goal.returns-in_err-opening
returns-in_err-opening c =
    let same : c.from_residual.result ≡ Err c.in_err-opening.field-0.0 = first_of (search rules, cc) in
    (faulted same (λ (o : Opening). tt) _ (checked_types (file_for c.args.self.now).structs (source_of c.args.f).header) _ c.in_err-opening.ensures.gives
    (λ f h. ap (λ o. o >>= λ _. own_parts (file_for c.args.self.now) (source_of c.args.f) >>= after_parts (file_for c.args.self.now) (source_of c.args.f)) h))

pub returns-in_err-parts : goal.returns-in_err-parts
returns-in_err-parts c =
    let file = file_for c.args.self.now in
    let src = source_of c.args.f in
    let o = c.in_ok-opening.ensures in
    let opening = c.in_ok-opening.opening in
    let body_is = ap stmts_of c.deref.ensures.value in
    let given : parts_in file (file_for c.open.new.self) opening.first_variable (type_of opening.result) src ≡ typed_parts (file_for c.open.new.self).structs opening.first_variable (file_for c.open.new.self).names (type_of opening.result) (parameters_of src.header.parameters) src.locals (stmts_of c.deref.result.now) =
    ap (typed_parts (file_for c.open.new.self).structs opening.first_variable (file_for c.open.new.self).names (type_of opening.result) (parameters_of src.header.parameters) src.locals) (sym body_is) in
    let same : c.from_residual-in_err-parts.result ≡ Err c.in_err-parts.field-0.0 = first_of (search rules, cc) in
    (faulted same parts_of _ _ _ c.in_err-parts.ensures.gives
    (λ f h. up_to_parts file src (Err f) o.gives (same_parts file src (file_for c.open.new.self) opening.first_variable (type_of opening.result) o.after o.first o.result_type ∙ (given ∙ h))))

pub returns-in_err-asked : goal.returns-in_err-asked
returns-in_err-asked c =
    let file = file_for c.args.self.now in
    let src = source_of c.args.f in
    let o = c.in_ok-opening.ensures in
    let opening = c.in_ok-opening.opening in
    let parts = parts_of c.in_ok-parts.parts in
    let body_is = ap stmts_of c.deref.ensures.value in
    let given : parts_in file (file_for c.open.new.self) opening.first_variable (type_of opening.result) src ≡ typed_parts (file_for c.open.new.self).structs opening.first_variable (file_for c.open.new.self).names (type_of opening.result) (parameters_of src.header.parameters) src.locals (stmts_of c.deref.result.now) =
    ap (typed_parts (file_for c.open.new.self).structs opening.first_variable (file_for c.open.new.self).names (type_of opening.result) (parameters_of src.header.parameters) src.locals) (sym body_is) in
    let same : c.from_residual-in_err-asked.result ≡ Err c.in_err-asked.field-0.0 = first_of (search rules, cc) in
    (faulted same (λ (y : Unit {0}). y) _ _ _ c.in_err-asked.ensures
    (λ f h. up_to_parts file src (Ok parts) o.gives (same_parts file src (file_for c.open.new.self) opening.first_variable (type_of opening.result) o.after o.first o.result_type ∙ (given ∙ c.in_ok-parts.ensures.gives))
    ∙ up_to_few file src parts opening.few (Err f) o.few h))

pub returns-in_err-asked-2 : goal.returns-in_err-asked-2
returns-in_err-asked-2 c =
    let file = file_for c.args.self.now in
    let src = source_of c.args.f in
    let o = c.in_ok-opening.ensures in
    let opening = c.in_ok-opening.opening in
    let parts = parts_of c.in_ok-parts.parts in
    let body_is = ap stmts_of c.deref.ensures.value in
    let given : parts_in file (file_for c.open.new.self) opening.first_variable (type_of opening.result) src ≡ typed_parts (file_for c.open.new.self).structs opening.first_variable (file_for c.open.new.self).names (type_of opening.result) (parameters_of src.header.parameters) src.locals (stmts_of c.deref.result.now) =
    ap (typed_parts (file_for c.open.new.self).structs opening.first_variable (file_for c.open.new.self).names (type_of opening.result) (parameters_of src.header.parameters) src.locals) (sym body_is) in
    let same : c.from_residual-in_err-asked-2.result ≡ Err c.in_err-asked-2.field-0.0 = first_of (search rules, cc) in
    (faulted same (λ (y : Unit {0}). y) _ _ _ c.in_err-asked-2.ensures
    (λ f h. up_to_parts file src (Ok parts) o.gives (same_parts file src (file_for c.open.new.self) opening.first_variable (type_of opening.result) o.after o.first o.result_type ∙ (given ∙ c.in_ok-parts.ensures.gives))
    ∙ (up_to_few file src parts opening.few (Ok tt) o.few c.in_ok-asked.ensures ∙ up_to_same file src parts opening.same (Err f) o.same h)))

pub returns : goal.returns
returns c =
    let file = file_for c.args.self.now in
    let src = source_of c.args.f in
    let o = c.in_ok-opening.ensures in
    let opening = c.in_ok-opening.opening in
    let p = c.in_ok-parts.ensures in
    let parts = parts_of c.in_ok-parts.parts in
    let opened = file_for c.open.new.self in
    let first = opening.first_variable in
    let result = type_of opening.result in
    let variables = map variable_of c.add_variables.new.all.items in
    let body_is = ap stmts_of c.deref.ensures.value in
    let given : parts_in file (file_for c.open.new.self) opening.first_variable (type_of opening.result) src ≡ typed_parts (file_for c.open.new.self).structs opening.first_variable (file_for c.open.new.self).names (type_of opening.result) (parameters_of src.header.parameters) src.locals (stmts_of c.deref.result.now) =
    ap (typed_parts (file_for c.open.new.self).structs opening.first_variable (file_for c.open.new.self).names (type_of opening.result) (parameters_of src.header.parameters) src.locals) (sym body_is) in
    let marked = contains nat_eq c.in_ok-parts.parts.addressed in
    let owns = map own_of c.in_ok-parts.parts.owns.items in
    let g = made src result first c.in_ok-parts.parts.parameters parts in
    let end : List StructType → Meanings → ℕ → Checked Function' = λ structs names functions.
    Ok (with_end g (record { definitions = opened.definitions; structs = structs; names = names; variables = variables; globals = opened.globals; functions = functions })) in
    function_done file src opened first c.in_ok-parts.parts.parameters result parts variables
    (up_to_parts file src (Ok parts) o.gives (same_parts file src opened first result o.after o.first o.result_type ∙ (given ∙ p.gives))
    ∙ (up_to_few file src parts opening.few (Ok tt) o.few c.in_ok-asked.ensures ∙ up_to_same file src parts opening.same (Ok tt) o.same c.in_ok-asked-2.ensures))
    o.after o.first o.result_type p.parameters
    (c.in_ok-add_variables.ensures
    ∙ (ap (λ (f : File). f.variables ++ variables_from marked first 0 0 owns) o.after
    ∙ (ap (λ marked. file.variables ++ variables_from marked first 0 0 owns) (p.addressed ∙ ap (λ b. is_among (taken_within opened.structs first opened.names (parameters_of src.header.parameters) src.locals b)) body_is)
    ∙ ap (λ owns. file.variables ++ variables_from (is_among (taken_within opened.structs first opened.names (parameters_of src.header.parameters) src.locals src.body)) first 0 0 owns) p.owns)))
    ∙ (ap (λ structs. end structs opened.names (suc opened.functions)) (sym (ap structs_of p.structs))
    ∙ (ap (λ names. end (structs_of c.typed_parts.new.self.structs) names (suc opened.functions)) (sym p.names)
    ∙ ap (λ functions. end (structs_of c.typed_parts.new.self.structs) (file_names c.typed_parts.new.self) functions) (sym c.in_ok-self.ensures)))
