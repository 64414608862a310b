use Rattle.std.proofs.Common.{ℕ, List, IsTrue, sym, subst, inr}
use Rattle.cerco_command.specs.Inputs.{HasText}
use Rattle.cerco_command.specs.Erasing.{EraseMeans, EraseMeansFor}
use Rattle.cerco_command.proofs.Answering.{answers_by}
use Rattle.cerco_command.proofs.erasing.erase.Goals as goal

pub returns-in-Ok-clause-answers : goal.returns-in-Ok-clause-answers
returns-in-Ok-clause-answers g c =
    let s = g.F.Files.state c.args.files.now in
    let t = g.F.Files.state c.read_input.new.files in
    let name = c.args.name.now in
    let text = c.deref.result.now in
    let read : IsTrue s.known → HasText s name text = λ h. subst (λ (x : List ℕ). HasText s name x) (sym c.deref.ensures.value) (c.in-Ok.ensures.read h) in
    answers_by (EraseMeansFor name text) (EraseMeans name s t) _ _ c.erase_text.result
    (λ status line m. record { same = c.in-Ok.ensures.same; means = inr (text, read, m) }) c.erase_text.ensures
