use Rattle.std.proofs.Common.{◌≡◌, ◌++◌, ◌<◌, map, ap, sym, subst, ◌∙◌, arith}
use Rattle.c_types.specs.Types.{type_of, member_of}
use Rattle.clight_values.specs.Memory.{kinds_by, kinds_of_members, nested_kinds, unset}
use Rattle.clight_values.specs.Code.Views.{cells_held, structs_held}
use Rattle.std.specs.Prelude.{OnOk}
use Rattle.clight_values.proofs.Nesting.{element_added, member_steps, type_steps, members_steps, nested_steps, struct_missing, struct_found, struct_found_steps}
use Rattle.clight_values.proofs.memory.+bytes_of_types.Goals as goal

pub push_cells-loop-preserved : goal.push_cells-loop-preserved
push_cells-loop-preserved t c =
    let f = nested_kinds (structs_held c.args.structs.now) c.args.depth in
    element_added c.loop.counter (kinds_by f (type_of c.in-Array.element.value)) (cells_held c.args.cells.now.items) (cells_held c.loop.cells.items) (cells_held c.push_cells.new.cells.items)
    c.loop.invariant (c.in_ok-push_cells-in-Array.ensures ∙ ap (λ ty. cells_held c.loop.cells.items ++ map unset (kinds_by f (type_of ty))) c.deref.ensures)

pub push_cells-push_members-requires : goal.push_cells-push_members-requires
push_cells-push_members-requires t c =
    let structs = structs_held c.args.structs.now in
    let h = struct_found_steps c.args.structs.now c.args.ty.now c.in-Struct.number c.args.depth c.in-Some.less c.in-Struct.is (let h = c.in-Some.ensures in omega (arith, h.1)) c.in-Some-item_at.found c.in-Some-item_at.ensures in
    let h' = subst (λ ms. members_steps (nested_steps structs c.in-Some.less) (map member_of ms) < type_steps (nested_steps structs c.args.depth) (type_of c.args.ty.now)) (sym c.deref-in-Some-item_at.ensures.value) h in
    (subst (λ n. members_steps (nested_steps structs c.in-Some.less) (map member_of c.deref-in-Some-item_at.result.now) < n) c.decreases h', tt)

pub push_cells-returns-in-None-item_at : goal.push_cells-returns-in-None-item_at
push_cells-returns-in-None-item_at t c =
    struct_missing c.args.structs.now c.args.ty.now c.in-Struct.number c.args.depth c.in-Some.less c.in-Struct.is (let h = c.in-Some.ensures in omega (arith, h.1))
    c.item_at.result (cells_held c.args.cells.now.items) c.in-None-item_at.is c.item_at.ensures

pub push_cells-returns-in-Some-item_at : goal.push_cells-returns-in-Some-item_at
push_cells-returns-in-Some-item_at t c =
    let f = nested_kinds (structs_held c.args.structs.now) c.in-Some.less in
    let cells = cells_held c.args.cells.now.items in
    let e = struct_found c.args.structs.now c.args.ty.now c.in-Struct.number c.args.depth c.in-Some.less c.in-Struct.is (let h = c.in-Some.ensures in omega (arith, h.1)) c.in-Some-item_at.found c.in-Some-item_at.ensures in
    subst (λ kinds. OnOk c.push_members.result (cells_held c.push_members.new.cells.items ≡ cells ++ map unset kinds))
    (ap (λ ms. kinds_of_members f (map member_of ms)) c.deref-in-Some-item_at.ensures.value ∙ e) c.push_members.ensures

pub push_members-push_cells-requires : goal.push_members-push_cells-requires
push_members-push_cells-requires t c =
    let f = nested_steps (structs_held c.args.structs.now) c.args.depth in (
      subst (λ n. type_steps f (type_of c.member-item.result.ty) < n) c.decreases
          (member_steps f c.args.members.now c.loop-member.member-index c.member-item.result c.loop-member-test.true c.member-item.is),
      tt,
    )
