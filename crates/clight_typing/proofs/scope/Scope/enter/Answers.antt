use Rattle.std.proofs.Common.{◌≡◌, ◌∙◌, List, map, ap}
use Rattle.clight_source.specs.Code.Views.{parameters_of as source_of}
use Rattle.clight_types.specs.Declarations.{parameters_of}
use Rattle.clight_typing.specs.Functions.{parameter_own}
use Rattle.clight_typing.specs.Code.HeldFile.{with_owns}
use Rattle.clight_typing.specs.Code.HeldOwn.{own_of}
use Rattle.clight_typing.specs.Code.HeldScopes.{file_names, scope_of}
use Rattle.clight_types.specs.Scopes.{Scope, visible}
use Rattle.clight_typing.proofs.Parameters.{owns_are}
use Rattle.clight_types.specs.Code.HeldStructs.{structs_of}
use Rattle.clight_typing.proofs.scope.Scope.enter.Goals as goal

pub returns-clause-scope : goal.returns-clause-scope
returns-clause-scope c =
    let structs = structs_of c.args.self.now.structs in
    let names = file_names c.args.self.now in
    let first = c.args.first in
    let parameters = parameters_of (source_of c.args.x.now) in
    let owns = map own_of c.in_ok-owns.owns.items in
    let kept : structs_of c.forget_locals.new.self.structs ≡ structs = ap structs_of c.forget_locals.ensures.structs in
    c.in_ok-declare_owns.ensures.scope
    ∙ (ap (λ (s : Scope). visible s.structs (with_owns first owns s.meaning)) c.forget_locals.ensures.scope
    ∙ (ap (λ os. visible structs (with_owns first os names)) (c.in_ok-owns.ensures ∙ ap (λ xs. map (parameter_own xs) parameters) kept)
    ∙ ap (visible structs) (owns_are structs first parameters names)))
