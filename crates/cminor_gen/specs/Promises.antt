-- What is promised of the translation of a labelled program, beside its traces: it keeps its functions by their numbers, its entry and its
-- calls, and the labels of each function in their order, those in unreachable code too; and no function needs more bytes of registers
-- than the source's bound (CerCo, deliverables 2.1 and 3.3).
use Rattle.std.specs.Prelude.{◌≡◌, ℕ, ◌≤◌, [], ◌∷◌, length, Some, slice_get}
use Rattle.cerco_base.specs.declared.events.Label.{Label}
use Rattle.cerco_middle.specs.Cminor.Trees.{CmFunction, Cminor, stmt_labels}
use Rattle.cerco_middle.specs.Cminor.Sums as cm
use Rattle.cerco_middle.specs.Programs.{AreNumbered}
use Rattle.clight_syntax.specs.Bounds as source
use Rattle.clight_syntax.specs.Labelling.{IsLabelled}
use Rattle.clight_syntax.specs.TypedTrees.{Function, TypedProgram}
use Rattle.clight_programs.specs.Labels.{function_labels, labels_of}

-- it holds of each function and of the one with the same number
abbrev pub OfBoth : TypedProgram Label → Cminor → (Function Label → CmFunction → Type 0) → Type 0
OfBoth p q Holds = (i : ℕ) (f : Function Label) (g : CmFunction) → slice_get p.functions i ≡ Some f → slice_get q.functions i ≡ Some g → Holds f g

-- a function with the same labels in the same order and as many parameters
pub record KeepsFunction (f : Function Label) (g : CmFunction) : Type 0 where
  pub params : g.params ≡ f.parameters
  pub labels : g.label.0 ∷ stmt_labels g.body [] ≡ function_labels f []

pub record KeepsProgram (p : TypedProgram Label) (q : Cminor) : Type 0 where
  pub count : length q.functions ≡ length p.functions
  pub functions : OfBoth p q KeepsFunction
  pub calls : q.calls ≡ p.calls
  pub main : q.main ≡ p.main

abbrev pub NeedNoMore : TypedProgram Label → Cminor → Type 0
NeedNoMore p q = OfBoth p q (λ f g. cm.register_need q.functions g ≤ source.register_need p f)

-- each label of a labelled program is at one place, as the form of its translation asks
abbrev pub LabelsAreNumbered : Type 0
LabelsAreNumbered = (typed : TypedProgram (Unit {0})) (p : TypedProgram Label) → IsLabelled typed p → AreNumbered (labels_of p.functions)
