-- What the checker's own values stand for.
use Rattle.std.specs.Prelude.{ℕ}
use Rattle.c_types.specs.Types.{CType}
use Rattle.c_types.specs.Kinds.{type_for}
use Rattle.clight_types.specs.Operands.{Operand}
use Rattle.clight_types.specs.declared.rows.Row.{Row}
use Rattle.clight_types.specs.declared.rows.Row.TheVariants as o

-- sizes are counted up to here
abbrev pub size_cap : ℕ
size_cap = 65536

-- the type of a binary form with these operands
abbrev pub row_type : Operand → Operand → Row → CType
row_type l r (o.Of integer) = type_for integer
row_type l r o.Left = l.type
row_type l r o.Right = r.type
