use Rattle.std.proofs.Common.{◌∙◌, List, map, ap}
use Rattle.c_types.specs.Types.{CType, type_of}
use Rattle.clight_source.specs.Code.Views.{header_of}
use Rattle.clight_types.specs.Declarations.{declared_type, parameters_of}
use Rattle.clight_typing.specs.Functions.{Own}
use Rattle.clight_types.specs.Scopes.{Signature}
use Rattle.clight_typing.proofs.Parameters.{own_types}
use Rattle.clight_types.specs.Code.HeldStructs.{structs_of}
use Rattle.clight_typing.proofs.scope.Scope.signature.Goals as goal

pub returns : goal.returns
returns c =
    let structs = structs_of c.args.self.now.structs in
    let x = header_of c.args.x.now in
    let of : CType → List CType → Signature = λ result parameters. record { result = result; parameters = parameters } in
    ap (λ result. of result (map type_of c.in_ok-parameters.parameters.items)) c.in_ok-ty.ensures
    ∙ ap (of (declared_type structs x.declared))
    (c.in_ok-parameters.ensures ∙ (ap (map (λ (own : Own). own.type)) c.in_ok-owns.ensures ∙ own_types structs (parameters_of x.parameters)))
