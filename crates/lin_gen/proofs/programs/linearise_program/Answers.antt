use Rattle.std.proofs.Common.{map, subst, refl, sym, ◌∙◌}
use Rattle.rtl.specs.Code.Views.{graph_of, program_of, item_of}
use Rattle.rtl.specs.Items.{LinProgram}
use Rattle.lin_gen.specs.Linearised.{AreReady, AreOrderings, IsLinearised}
use Rattle.lin_gen.proofs.Whole.{all_ready}
use Rattle.lin_gen.proofs.Preserved.{linearised_preserves}
use Rattle.lin_gen.proofs.Formed.{linearised_is_formed}
use Rattle.lin_gen.proofs.Lengths.{linearised_is_short}
use Rattle.lin_gen.proofs.programs.linearise_program.Goals as goal

pub linearise_all-requires : goal.linearise_all-requires
linearise_all-requires c =
    let program = program_of c.args.program.now in
    subst (λ z. AreReady (map graph_of z)) (sym c.as_slice.ensures) (all_ready program.graphs c.requires.labelled c.requires.formed.0.graphs c.requires.formed.1)

pub returns : goal.returns
returns c =
    let program = program_of c.args.program.now in
    let lins : LinProgram = record { lins = map (map item_of) c.in_ok-lins.lins; main = program.main; start = c.in_ok-start.start } in
    let is : IsLinearised program lins = record {
      lins = subst (λ z. AreOrderings (map graph_of z) lins.lins) c.as_slice.ensures c.in_ok-lins.ensures;
      main = refl;
      start = c.in_ok-start.ensures ∙ c.bytes.ensures;
    } in
    record { is = is; preserves = linearised_preserves program lins is; formed = linearised_is_formed program lins c.requires.formed is; length = linearised_is_short program lins is }
