-- Parameters and locals as the checker holds them.
use Rattle.std.specs.Prelude.{List, map}
use Rattle.c_types.specs.Types.{type_of}
use Rattle.clight_source.specs.Trees.{Declared, Parameters'}
use Rattle.clight_source.specs.Code.Views.{declared_of, earlier_parameter_of}
use Rattle.clight_source.specs.declared.tree.Declared.{Declared as HeldDeclared}
use Rattle.clight_source.specs.declared.tree.EarlierParameter.{EarlierParameter}
use Rattle.clight_types.specs.Declarations.{parameters_of}
use Rattle.clight_typing.specs.Functions.{Own}
use Rattle.clight_typing.specs.declared.headers.Own.{Own as HeldOwn}

abbrev pub own_of : HeldOwn → Own
own_of x = record { name = x.name; type = type_of x.ty }

-- all parameters, where these stand before the last one
abbrev pub listed : List EarlierParameter → HeldDeclared → List Declared
listed earlier last = parameters_of (Parameters' (map earlier_parameter_of earlier) (declared_of last))
