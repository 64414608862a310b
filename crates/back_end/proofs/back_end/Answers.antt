use Rattle.std.proofs.Common.{◌≡◌, Err, refl, subst, rules}
use Rattle.cerco_middle.specs.Code.Views.{cminor_of}
use Rattle.rtl.specs.Code.Views.{program_of, lin_program_of}
use Rattle.back_end.specs.declared.assembled.Assembled.{Assembled}
use Rattle.back_end.specs.Chain.{IsLinearCodeOf, IsChain}
use Rattle.back_end.proofs.Made.{each_of_slices, holds_functions, bases_of_slices, placed_of_slices, assembly_of}
use Rattle.back_end.proofs.Composed.{chain_preserves, chain_is_short, chain_labels, chain_need}
use Rattle.back_end.proofs.Refused.{refused_before, frames_refused, layout_refused, suffices_refused}
use Rattle.back_end.proofs.back_end.Goals as goal

pub frame_bases-requires : goal.frame_bases-requires
frame_bases-requires c =
    let each = each_of_slices c.in_ok-ertl.ertl.graphs c.as_slice.result.now c.in_ok-allocations.allocations c.as_slice-2.result.now c.as_slice.ensures c.as_slice-2.ensures c.in_ok-allocations.ensures in
    holds_functions (cminor_of c.args.program.now) (program_of c.in_ok-ertl.ertl) c.as_slice-2.result.now c.requires.calls_are_known.functions c.in_ok-ertl.ensures each

pub linear_code-requires-clause-allocations : goal.linear_code-requires-clause-allocations
linear_code-requires-clause-allocations c =
    each_of_slices c.in_ok-ertl.ertl.graphs c.as_slice.result.now c.in_ok-allocations.allocations c.as_slice-3.result.now c.as_slice.ensures c.as_slice-3.ensures c.in_ok-allocations.ensures

pub linear_code-requires-clause-bases : goal.linear_code-requires-clause-bases
linear_code-requires-clause-bases c =
    bases_of_slices c.in_ok-ertl.ertl.calls c.in_ok-allocations.allocations c.as_slice-2.result.now c.as_slice-3.result.now c.in_ok-bases.bases c.as_slice-2.ensures c.as_slice-3.ensures c.in_ok-bases.ensures.bases

pub returns : goal.returns
returns c =
    let source = cminor_of c.args.program.now in
    let program = program_of c.in_ok-ertl.ertl in
    let allocations = c.in_ok-allocations.allocations in
    let bases = c.in_ok-bases.bases in
    let code = lin_program_of c.in_ok-lin.lin in
    let each = each_of_slices c.in_ok-ertl.ertl.graphs c.as_slice.result.now allocations allocations c.as_slice.ensures refl c.in_ok-allocations.ensures in
    let linear = subst (λ xs. IsLinearCodeOf program xs bases code) c.as_slice-3.ensures c.in_ok-lin.ensures in
    let selection = c.in_ok-asm.ensures in
    let a : Assembled = record {
      ertl = c.in_ok-ertl.ertl;
      allocations = allocations;
      bases = bases;
      lin = c.in_ok-lin.lin;
      asm = c.in_ok-asm.asm;
      layout = c.in_ok-layout.layout;
      object = c.in_ok-object.object;
    } in
    let chain : IsChain source a = record {
      ertl = c.in_ok-ertl.ensures;
      places = placed_of_slices program allocations c.as_slice-2.result.now bases c.as_slice-2.ensures each c.in_ok-bases.ensures.bases c.in_ok-bases.ensures.enough;
      lin = linear;
      asm = assembly_of code c.in_ok-asm.asm linear.labelled
          (record { is = selection.is; preserves = selection.preserves; object = selection.object; ends = selection.ends; labels = selection.labels; length = selection.length });
      object = record { layout = c.in_ok-layout.ensures.layout; code = c.in_ok-object.ensures.code; labels = c.in_ok-object.ensures.labels };
    } in
    record {
      chain = chain;
      preserves = chain_preserves source a chain;
      length = chain_is_short source a chain;
      labels = chain_labels source a chain;
      need = chain_need source a chain;
      refused = λ reason is. absurd cc;
      complete = λ fits reason is. absurd cc;
    }

-- ---- refusals

pub returns-in_err-bases-clause-refused : goal.returns-in_err-bases-clause-refused
returns-in_err-bases-clause-refused c reason is =
    let same : c.from_residual-in_err-bases.result ≡ Err c.in_err-bases.field-0.0 = first_of (search rules, cc) in
    let each = each_of_slices c.in_ok-ertl.ertl.graphs c.as_slice.result.now c.in_ok-allocations.allocations c.as_slice-2.result.now c.as_slice.ensures c.as_slice-2.ensures c.in_ok-allocations.ensures in
    let lack = c.frame_bases.ensures.refused reason (refused_before c.frame_bases.result c.from_residual-in_err-bases.result c.in_err-bases.field-0.0 reason c.in_err-bases.was same is) in
    frames_refused (cminor_of c.args.program.now) (program_of c.in_ok-ertl.ertl) c.as_slice-2.result.now c.in_ok-ertl.ensures each reason lack

pub returns-in_err-bases-clause-complete : goal.returns-in_err-bases-clause-complete
returns-in_err-bases-clause-complete c fits reason is = suffices_refused (cminor_of c.args.program.now) fits reason (returns-in_err-bases-clause-refused c reason is)

pub returns-in_err-layout-clause-refused : goal.returns-in_err-layout-clause-refused
returns-in_err-layout-clause-refused c reason is =
    let same : c.from_residual-in_err-layout.result ≡ Err c.in_err-layout.field-0.0 = first_of (search rules, cc) in
    let program = program_of c.in_ok-ertl.ertl in
    let allocations = c.in_ok-allocations.allocations in
    let bases = c.in_ok-bases.bases in
    let code = lin_program_of c.in_ok-lin.lin in
    let each = each_of_slices c.in_ok-ertl.ertl.graphs c.as_slice.result.now allocations allocations c.as_slice.ensures refl c.in_ok-allocations.ensures in
    let placed = placed_of_slices program allocations c.as_slice-2.result.now bases c.as_slice-2.ensures each c.in_ok-bases.ensures.bases c.in_ok-bases.ensures.enough in
    let linear = subst (λ xs. IsLinearCodeOf program xs bases code) c.as_slice-3.ensures c.in_ok-lin.ensures in
    let selection = c.in_ok-asm.ensures in
    let asm = assembly_of code c.in_ok-asm.asm linear.labelled
    (record { is = selection.is; preserves = selection.preserves; object = selection.object; ends = selection.ends; labels = selection.labels; length = selection.length }) in
    let full = c.expand.ensures.full reason (refused_before c.expand.result c.from_residual-in_err-layout.result c.in_err-layout.field-0.0 reason c.in_err-layout.was same is) in
    layout_refused (cminor_of c.args.program.now) program allocations bases code c.in_ok-asm.asm c.in_ok-ertl.ensures placed linear asm reason full

pub returns-in_err-layout-clause-complete : goal.returns-in_err-layout-clause-complete
returns-in_err-layout-clause-complete c fits reason is = suffices_refused (cminor_of c.args.program.now) fits reason (returns-in_err-layout-clause-refused c reason is)
