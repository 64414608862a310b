-- What stands around the statements of a function, as the checker holds it.
use Rattle.std.specs.Prelude.{nat_eq}
use Rattle.c_types.specs.Types.{type_of}
use Rattle.clight_typing.specs.Code.HeldScopes.{scope_of}
use Rattle.clight_typing.specs.Statements.{Body}
use Rattle.clight_typing.specs.declared.statements.Body.{Body as HeldBody}
use Rattle.indexmap.specs.IndexSet.{contains}

abbrev pub body_for : HeldBody → Body
body_for x = record {
  scope = scope_of x.scope.now;
  result = type_of x.result.now;
  first_variable = x.first_variable;
  addressed = contains nat_eq x.addressed.now;
  in_loop = x.in_loop;
}
