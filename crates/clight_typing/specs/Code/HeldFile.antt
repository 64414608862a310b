-- What the checker holds of a file and of a function, as definitions speak of it.
use Rattle.std.specs.Prelude.{◌≡◌, ℕ, suc, ◌++◌, List, [], ◌∷◌, length, map, nat_eq, Result, Ok, Err, Option, Some, None}
use Rattle.clight_source.specs.Trees as s
use Rattle.c_types.specs.Types.{CType, StructType, type_of}
use Rattle.clight_syntax.specs.TypedTrees.{Function, Item, FunctionItem, Variable'}
use Rattle.clight_syntax.specs.declared.typed.Home.{Home}
use Rattle.clight_syntax.specs.Code.TypedViews.{variable_of, item_of, function_of}
use Rattle.clight_source.specs.declared.tree.Name.{Name}
use Rattle.clight_syntax.specs.declared.typed.Item.{Item as HeldItem}
use Rattle.clight_types.specs.Declarations.{declaration_type}
use Rattle.clight_typing.specs.Functions.{File, Own, object}
use Rattle.clight_typing.specs.Code.HeldOwn.{own_of}
use Rattle.clight_typing.specs.Code.HeldScopes.{file_names, scope_of}
use Rattle.clight_types.specs.Scopes.{Scope, Meanings, declare, visible}
use Rattle.clight_typing.specs.TypedPrograms.{behind_locals, locals_taken}
use Rattle.clight_typing.specs.declared.files.File.{File as HeldFile}
use Rattle.clight_typing.specs.declared.headers.Own.{Own as HeldOwn}
use Rattle.clight_types.specs.Code.HeldStructs.{structs_of}

abbrev pub file_for : HeldFile → File
file_for x = record {
  definitions = x.definitions;
  structs = structs_of x.scope.structs;
  names = file_names x.scope;
  variables = map variable_of x.variables.items;
  globals = x.globals;
  functions = x.functions;
}

-- a local by its name and type
abbrev pub source_own : List StructType → s.Local → Own
source_own structs x = record { name = x.declaration.declared.name; type = declaration_type structs x.declaration }

-- parameters and locals, whose numbers begin here, before other declarations
abbrev pub with_owns : ℕ → List Own → Meanings → Meanings
with_owns variable [] names = names
with_owns variable (x ∷ rest) names = with_owns (suc variable) rest (declare (object x.name variable x.type) names)

abbrev pub an_own : Name → CType → Own
an_own name type = record { name = name; type = type }

abbrev pub a_variable : Own → Home → Variable'
a_variable x home = record { name = x.name; type = x.type; home = home; address = 0 }
