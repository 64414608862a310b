use Rattle.std.proofs.Common.{◌≡◌, ℕ, ◌++◌, ◌∷◌, [], arith, map, length, sym, ap, ◌∙◌}
use Rattle.std.proofs.lemmas.List.{length-map}
use Rattle.c_types.specs.Types.{type_of, struct_type_of}
use Rattle.clight_source.specs.Code.Views.{initialiser_of}
use Rattle.clight_values.specs.Memory as m
use Rattle.clight_values.specs.Globals.{filled, numbers_of}
use Rattle.clight_values.specs.Code.Views.{cell_held, cells_held, structs_held, kinds_held}
use Rattle.clight_values.proofs.Filling.{global_is}
use Rattle.clight_values.proofs.memory.Memory.begin_global.Goals as goal

pub returns : goal.returns
returns c =
    let old = c.args.self.now in
    let kinds = m.kinds_of (structs_held c.args.structs.now) (type_of c.args.ty.now) in
    let ns = numbers_of (initialiser_of c.args.initialiser.now) in
    let unset = c.push_cells.new.cells.items in
    let structs = structs_held c.args.structs.now in
    let by = λ (depth : ℕ). map m.unset (m.kinds_by (m.nested_kinds structs depth) (type_of c.args.ty.now)) in
    let is = c.in_ok-push_cells.ensures ∙ ap (λ cs. cells_held cs ++ by (length c.args.structs.now)) c.new-unset.ensures.items ∙ ap by (sym (length-map c.args.structs.now struct_type_of)) in
    let made = ap (λ (x : m.Memory). x.cells) c.in_ok-push_filled.ensures ∙ ap (λ cs. cells_held old.cells.items ++ filled (kinds_held cs) ns 0) c.deref.ensures.value in
    let at = c.len-begin.ensures ∙ old.cells.ok.0 ∙ sym (length-map old.cells.items cell_held) in
    let many : c.in-Ok.size ≡ length unset = (let h = c.in-Ok.ensures in let f = c.push_cells.new.cells.ok.0 in omega (arith, h)) in
    ap (λ bs. record { cells = cells_held c.push_filled.new.self.cells.items; blocks = bs }) (c.in_ok-push.ensures.items ∙ ap (λ bs. bs ++ record { call = 0; begin = c.len-begin.result; size = c.in-Ok.size } ∷ []) (ap (λ (x : m.Memory). x.blocks) c.in_ok-push_filled.ensures))
    ∙ global_is old.cells.items unset c.push_filled.new.self.cells.items old.blocks.items kinds ns c.len-begin.result c.in-Ok.size is made at many
