use Rattle.std.proofs.Common.{ℕ, List, subst}
use Rattle.cerco_command.specs.Costs.{texts_of, PrintsCosts}
use Rattle.cerco_command.specs.Inputs.{AreObject}
use Rattle.cerco_command.specs.Words.{object_files_of}
use Rattle.cerco_command.proofs.CostTexts.{costs_meant}
use Rattle.cerco_command.proofs.costs.tell.Goals as goal

pub returns-in-Ok-clause-told : goal.returns-in-Ok-clause-told
returns-in-Ok-clause-told c =
    let texts = texts_of c.args.texts.now in
    let code = c.in_ok-object.object.code in
    let labels = c.in_ok-object.object.labels in
    let status = c.in-Ok.printed.status in
    let text = c.in-Ok.printed.text.bytes.items in
    let hex = subst (λ (h : List ℕ). AreObject h c.deref-2.result.now code labels) c.deref.ensures.value c.in_ok-object.ensures.object in
    let object = subst (λ (m : List ℕ). AreObject texts.hex m code labels) c.deref-2.ensures.value hex in
    let by_code = subst (λ (x : List ℕ). PrintsCosts x c.as_slice-2.result.now status text) c.as_slice.ensures c.in-Ok.ensures in
    let costs = subst (λ (x : List ℕ). PrintsCosts code x status text) c.as_slice-2.ensures by_code in
    costs_meant (object_files_of c.args.names.now) texts code labels status text c.in_ok-check_lengths.ensures.short object costs
