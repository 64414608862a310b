-- What the evaluator holds, as the definitions speak of it.
use Rattle.std.specs.Prelude.{◌≡◌, List, map, option_map, Option, Some, None, Result, Ok, Err}
use Rattle.std.specs.Borrow.{Bor}
use Rattle.cerco_base.specs.declared.events.FaultKind.{FaultKind}
use Rattle.c_types.specs.Types as s
use Rattle.c_types.specs.declared.structs.StructType.{StructType}
use Rattle.c_types.specs.Types.{struct_type_of}
use Rattle.clight_syntax.specs.Code.TypedViews.{variable_of}
use Rattle.clight_syntax.specs.TypedTrees.{Variable'}
use Rattle.clight_syntax.specs.declared.typed.Variable.{Variable}
use Rattle.clight_values.specs.Memory as m
use Rattle.clight_values.specs.declared.memory.Cell.{Cell}
use Rattle.clight_values.specs.declared.memory.Memory.{Memory}
use Rattle.c_types.specs.declared.types.Ty.{Ty}

abbrev pub structs_held : List StructType → List s.StructType
structs_held structs = map struct_type_of structs

abbrev pub variables_held : List Variable → List Variable'
variables_held variables = map variable_of variables

abbrev pub kind_held : Bor Ty → s.CType
kind_held ty = s.type_of ty.now

-- the type that was found
abbrev pub type_held : Option (Bor Ty) → s.CType
type_held None = s.Void
type_held (Some ty) = kind_held ty

abbrev pub cell_held : Cell → m.Cell
cell_held c = record { kind = option_map kind_held c.kind; value = c.value }

abbrev pub cells_held : List Cell → List m.Cell
cells_held cells = map cell_held cells

-- the types of the scalars that begin in some cells
abbrev pub kinds_held : List Cell → m.Kinds
kinds_held cells = map (λ (c : Cell). option_map kind_held c.kind) cells

abbrev pub memory_held : Memory → m.Memory
memory_held memory = record { cells = cells_held memory.cells.items; blocks = memory.blocks.items }

-- what is held now, once something was done with what was held before, or why it wasn't done, with what was held before
abbrev pub Becomes : {S R : Type 0} → Result S FaultKind → S → S → Result R FaultKind → Type 0
Becomes made old new (Ok r) = made ≡ Ok new
Becomes made old new (Err k) = (made ≡ Err k) × (new ≡ old)

-- the same where what is held after a fault is of no account
abbrev pub Makes : {S R : Type 0} → Result S FaultKind → S → Result R FaultKind → Type 0
Makes made new (Ok r) = made ≡ Ok new
Makes made new (Err k) = made ≡ Err k
