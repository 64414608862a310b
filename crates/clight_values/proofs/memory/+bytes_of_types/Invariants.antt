use Rattle.std.proofs.Common.{◌≡◌, ◌++◌, map, drop}
use Rattle.c_types.specs.Types.{type_of, member_of}
use Rattle.clight_values.specs.Memory.{repeated, kinds_by, kinds_of_members, nested_kinds, unset}
use Rattle.clight_values.specs.Code.Views.{cells_held, structs_held}
use Rattle.clight_values.proofs.Nesting.{type_steps, members_steps, nested_steps}
use Rattle.clight_values.proofs.memory.+bytes_of_types.Given as goal

abbrev pub decreases-push_cells : goal.decreases-push_cells
decreases-push_cells l = type_steps (nested_steps (structs_held l.structs.now) l.depth) (type_of l.ty.now)

abbrev pub decreases-push_members : goal.decreases-push_members
decreases-push_members l = members_steps (nested_steps (structs_held l.structs.now) l.depth) (map member_of l.members.now)

abbrev pub invariant-push_cells-loop : goal.invariant-push_cells-loop
invariant-push_cells-loop l =
    cells_held l.cells.items ≡ cells_held l.fn.cells.items ++ map unset (repeated l.counter (kinds_by (nested_kinds (structs_held l.structs) l.depth) (type_of l.element.value)))

abbrev pub invariant-push_members-loop-member : goal.invariant-push_members-loop-member
invariant-push_members-loop-member l =
    cells_held l.fn.cells.items ++ map unset (kinds_of_members (nested_kinds (structs_held l.structs) l.depth) (map member_of l.members))
    ≡ cells_held l.cells.items ++ map unset (kinds_of_members (nested_kinds (structs_held l.structs) l.depth) (map member_of (drop l.member-index l.members)))
