use Rattle.std.proofs.lemmas.Result.{IfOk-weaker}
use Rattle.cerco_middle.specs.Code.Views.{cminor_of, rtlabs_of}
use Rattle.rtl.specs.Code.Views.{program_of}
use Rattle.back_end.specs.Chain.{IsErtlOf}
use Rattle.back_end.proofs.Labels.{labs_labels_of}
use Rattle.back_end.proofs.Ertl.{IsLabs, IsRtlOf, IsExchanged, is_ertl, exchanged_result}
use Rattle.back_end.proofs.graphs.to_bytes.Goals as goal

pub returns : goal.returns
returns c =
    let source = cminor_of c.args.program.now in
    let graphs = rtlabs_of c.in_ok-rtlabs.rtlabs in
    let before = program_of c.in_ok-rtl.rtl in
    let first = c.in_ok-rtlabs.ensures in
    let second = c.in_ok-rtl.ensures in
    let third = c.to_ertl.ensures in
    let formed = first.formed c.requires in
    let l : IsLabs source graphs = record { preserves = first.preserves; same = first.same; labels = labs_labels_of source graphs first.is; length = first.length; need = first.need } in
    let r : IsRtlOf graphs before = record {
      preserves = second.preserves formed first.labelled;
      formed = second.formed formed;
      labelled = second.labelled formed first.labelled;
      conventional = second.conventional formed first.labelled;
      same = second.same;
      length = second.length;
      need = second.need formed;
    } in
    IfOk-weaker c.to_ertl.result (λ x. IsExchanged before (program_of x)) (λ x. IsErtlOf source (program_of x)) (λ x e. is_ertl source graphs before (program_of x) l r e)
    (exchanged_result before c.to_ertl.result third.preserves third.formed third.labelled third.conventional third.same third.length third.need)
