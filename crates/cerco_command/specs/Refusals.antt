-- The line that names the reason for which a source is refused. (The compiler's own.) Numbers are decimal.
use Rattle.std.specs.Prelude.{ℕ, List, ◌++◌, codes, decimal}
use Rattle.cerco_base.specs.declared.reasons.NameKind.{NameKind}
use Rattle.cerco_base.specs.declared.reasons.NameKind.TheVariants as n
use Rattle.cerco_base.specs.declared.reasons.TypeKind.{TypeKind}
use Rattle.cerco_base.specs.declared.reasons.TypeKind.TheVariants as t
use Rattle.cerco_base.specs.declared.reasons.Reason.{Reason}
use Rattle.cerco_base.specs.declared.reasons.Reason.TheVariants as r
use Rattle.cerco_command.specs.Messages.{line_about}
use Rattle.cerco_command.specs.declared.status.Status.{Status}
use Rattle.cerco_command.specs.declared.status.Status.TheVariants as Is

abbrev pub name_word : NameKind → List ℕ
name_word n.Reserved = codes "reserved"
name_word n.Long = codes "long"
name_word n.Twice = codes "twice"
name_word n.Unknown = codes "unknown"
name_word n.Undefined = codes "undefined"
name_word n.Main = codes "main"

abbrev pub type_word : TypeKind → List ℕ
type_word t.Long = codes "long"
type_word t.Size = codes "size"
type_word t.Void = codes "void"
type_word t.Member = codes "member"
type_word t.Operand = codes "operand"
type_word t.Division = codes "division"
type_word t.Shift = codes "shift"
type_word t.Value = codes "value"
type_word t.Condition = codes "condition"
type_word t.Assign = codes "assign"
type_word t.Init = codes "init"
type_word t.Call = codes "call"
type_word t.Params = codes "params"
type_word t.Return = codes "return"
type_word t.Jump = codes "jump"
type_word t.Port = codes "port"
type_word t.Prototype = codes "prototype"

-- a reason with its kind and its place
abbrev pub kind_at : List ℕ → List ℕ → ℕ → List ℕ
kind_at word kind at = word ++ (kind ++ (codes " at " ++ (decimal at ++ codes "\n")))

abbrev pub refused : Reason → List ℕ
refused r.TooLong = codes "refused 1 long\n"
refused (r.Byte at) = line_about (codes "refused 2 byte at ") (decimal at)
refused (r.Marker at) = line_about (codes "refused 3 marker at ") (decimal at)
refused (r.Token at) = line_about (codes "refused 4 token at ") (decimal at)
refused (r.Syntax at) = line_about (codes "refused 5 syntax at ") (decimal at)
refused (r.Nesting at) = line_about (codes "refused 6 nesting at ") (decimal at)
refused (r.Name at kind) = kind_at (codes "refused 7 name ") (name_word kind) at
refused (r.Typing at kind) = kind_at (codes "refused 8 type ") (type_word kind) at
refused (r.Recursion at) = line_about (codes "refused 9 recursion at ") (decimal at)
refused (r.StackFull depth) = line_about (codes "refused 10 stack ") (decimal depth)
refused (r.DataFull total) = line_about (codes "refused 11 data ") (decimal total)
refused (r.CellsFull need) = line_about (codes "refused 12 cells ") (decimal need)
refused (r.CodeFull len) = line_about (codes "refused 13 code ") (decimal len)

-- the status of a refusal: that of a program that is too big is its own, since no source determines it
abbrev pub status_of_refusal : Reason → Status
status_of_refusal (r.CellsFull need) = Is.NoRoom
status_of_refusal (r.CodeFull len) = Is.NoRoom
status_of_refusal reason = Is.Refused
