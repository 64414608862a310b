-- What is promised of a program's graphs, from what was proved of the graph of each function.
use Rattle.std.proofs.Common.{◌≡◌, Some, refl, sym, ◌∙◌, subst}
use Rattle.std.specs.Prelude.{Result, IfOk}
use Rattle.std.proofs.lemmas.Result.{IfOk-weaker}
use Rattle.std.proofs.lemmas.List.{length-map}
use Rattle.cerco_traces.specs.LabelledGraphs.{SoundlyLabelled}
use Rattle.cerco_middle.specs.Cminor.Trees.{CmFunction, Cminor}
use Rattle.cerco_base.specs.declared.no_memory.NoMemory.{NoMemory}
use Rattle.cerco_middle.specs.declared.rtlabs.RtLabs as code
use Rattle.cerco_middle.specs.Code.Views.{rtlabs_of}
use Rattle.cerco_middle.specs.RtLabs.Graphs.{RtFunction, RtLabs, flow_graph}
use Rattle.rtlabs_gen.specs.Translation.{translated_function, translated}
use Rattle.rtlabs_gen.specs.Promises.{OfBoth, KeepsFunction, KeepsProgram, AreSoundlyLabelled, NeedNoMore, KeepsSums}
use Rattle.rtlabs_gen.proofs.Certified.{always_certified}
use Rattle.rtlabs_gen.proofs.Labelled.{certified_labelled}
use Rattle.rtlabs_gen.proofs.LabelCounts.{function_count}
use Rattle.rtlabs_gen.proofs.Needs.{need_is_less}
use Rattle.rtlabs_gen.proofs.Lengths.{sum_of_body}
use Rattle.rtlabs_gen.proofs.Paths.{translated_from}

same_function : {f g : CmFunction} → Some f ≡ Some g → f ≡ g
same_function e = cc

of_both : (p : Cminor) (Holds : CmFunction → RtFunction → Type 0) → ((f : CmFunction) → Holds f (translated_function p.functions f)) → OfBoth p (translated p) Holds
of_both p Holds all i f g is is' =
    let from = translated_from p.functions p.functions i g is' in
    subst (Holds f) from.2 (subst (λ f'. Holds f (translated_function p.functions f')) (same_function (sym is ∙ from.1)) (all f))

pub translation_keeps : (p : Cminor) → KeepsProgram p (translated p)
translation_keeps p = record {
  count = length-map p.functions (translated_function p.functions);
  functions = of_both p KeepsFunction (λ f. record { held = refl; params = refl; result = refl; labels = λ l. function_count l p.functions f _ _ refl });
  calls = refl;
  main = refl;
  start = refl;
}

pub translation_labelled : (p : Cminor) → AreSoundlyLabelled (translated p)
translation_labelled p i g is =
    let from = translated_from p.functions p.functions i g is in
    subst (λ g'. SoundlyLabelled (flow_graph g') g'.entry) from.2 (certified_labelled _ _ (translated_function p.functions from.0) (always_certified p.functions from.0))

pub translation_needs : (p : Cminor) → NeedNoMore p (translated p)
translation_needs p = of_both p _ (need_is_less p.functions)

pub translation_sums : (p : Cminor) → KeepsSums p (translated p)
translation_sums p weight same = of_both p _ (sum_of_body weight same p.functions)

-- what holds of the definition's graphs holds of those that a call answers
pub of_answer : (p : Cminor) (answer : Result code.RtLabs NoMemory) (Holds : RtLabs → Type 0) → Holds (translated p) → IfOk answer (λ r. rtlabs_of r ≡ translated p) → IfOk answer (λ r. Holds (rtlabs_of r))
of_answer p answer Holds holds is = IfOk-weaker answer (λ r. rtlabs_of r ≡ translated p) (λ r. Holds (rtlabs_of r)) (λ r same. subst Holds (sym same) holds) is
