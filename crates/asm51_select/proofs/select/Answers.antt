use Rattle.std.proofs.Common.{◌≡◌, ◌++◌, ◌<◌, ◌^◌, ap, ap₂, ◌∙◌, map, length, arith}
use Rattle.std.proofs.lemmas.Grind.{common_steps}
use Rattle.rtl.specs.Code.Views.{item_of, lin_program_of}
use Rattle.asm51_select.specs.Translation.{selected, start_code, functions_code}
use Rattle.asm51_select.proofs.Promises.{promises}
use Rattle.asm51_select.proofs.select.Goals as goal

pub returns : goal.returns
unfolding selected
returns c =
    let program = lin_program_of c.args.program.now in
    let is : c.add_functions.new.asm ≡ selected program =
    c.in_ok-add_functions.ensures
    ∙ ap₂ (λ x y. x ++ functions_code 0 (map (map item_of) y)) (c.in_ok-add_start.ensures ∙ ap₂ (λ x y. x ++ start_code y c.args.program.now.main) c.new-asm.ensures c.bytes.ensures) c.as_slice.ensures in
    let all = ap length c.as_slice-2.ensures in
    let few : length c.add_functions.new.asm < 2 ^ 28 = grind (arith, common_steps) in
    let p = promises program c.add_functions.new.asm c.requires.formed is few in
    record { is = p.is; preserves = p.preserves; formed = p.formed; object = p.object; ends = p.ends; labels = p.labels; length = p.length }
