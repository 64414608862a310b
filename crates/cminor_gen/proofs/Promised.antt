-- What is promised of a program's translation, from what was proved of the translation.
use Rattle.std.proofs.Common.{◌≡◌, sym, subst}
use Rattle.std.specs.Prelude.{Result, IfOk}
use Rattle.std.proofs.lemmas.Result.{IfOk-weaker}
use Rattle.cerco_base.specs.declared.no_memory.NoMemory.{NoMemory}
use Rattle.cerco_base.specs.declared.events.Label.{Label}
use Rattle.cerco_middle.specs.declared.cminor.Cminor as code
use Rattle.cerco_middle.specs.Code.Views.{cminor_of}
use Rattle.cerco_middle.specs.Cminor.Trees.{Cminor}
use Rattle.clight_syntax.specs.TypedTrees.{TypedProgram}
use Rattle.cminor_gen.specs.Translation.Programs.{translated}

-- what holds of the translation holds of what a call answers
pub of_answer : (p : TypedProgram Label) (answer : Result code.Cminor NoMemory) (Holds : Cminor → Type 0) → Holds (translated p) → IfOk answer (λ c. cminor_of c ≡ translated p) → IfOk answer (λ c. Holds (cminor_of c))
of_answer p answer Holds holds is = IfOk-weaker answer (λ c. cminor_of c ≡ translated p) (λ c. Holds (cminor_of c)) (λ c same. subst Holds (sym same) holds) is
