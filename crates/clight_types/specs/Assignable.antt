-- What may be assigned to what (ISO/IEC 9899:1999, 6.5.2.2 and 6.5.16.1).
use Rattle.std.specs.Prelude.{ℕ, Bool, true, false, ◌&&◌, List, [], ◌∷◌, Option, Some, None}
use Rattle.c_types.specs.Types.{CType}
use Rattle.c_types.specs.Kinds.{is_scalar}
use Rattle.clight_syntax.specs.TypedTrees.{Expr, Variable, Parenthesis, type_at, EarlierArgument, Arguments, NoArguments, Arguments'}
use Rattle.clight_types.specs.Operands.{is_place, is_assignable, Operand, operand}

-- the variable that an expression is, in any parentheses
abbrev pub variable_of : Expr → Option ℕ
variable_of (Variable type variable name) = Some variable
variable_of (Parenthesis type left e right) = variable_of e
variable_of e = None

-- 6.5.16: a scalar place takes a value that may be assigned to it
abbrev pub takes : Expr → Expr → Bool
takes target value = is_place target && (is_scalar (type_at target) && is_assignable (operand value) (type_at target))

-- the arguments in order
abbrev pub values_onto : List EarlierArgument → Expr → List Expr
values_onto [] last = last ∷ []
values_onto (x ∷ rest) last = x.value ∷ values_onto rest last

abbrev pub values_of : Arguments → List Expr
values_of NoArguments = []
values_of (Arguments' earlier last) = values_onto earlier last

-- 6.5.2.2: as many arguments as parameters, each assignable to its parameter
abbrev pub are_assignable : List Expr → List CType → Bool
are_assignable [] [] = true
are_assignable (e ∷ rest) (type ∷ types) = is_assignable (operand e) type && are_assignable rest types
are_assignable es types = false

-- the value of a call, as an operand
abbrev pub result_operand : CType → Operand
result_operand type = record { type = type; number = None }
