-- Branches of the recogniser.
use Rattle.std.proofs.Common.{◌≡◌, List, [], ◌∷◌, refl, ◌∙◌, IfOk, Result, Ok, Err}
use Rattle.cerco_base.specs.declared.no_memory.NoMemory.{NoMemory}
use Rattle.clight_nodes.specs.declared.forms.Form.{Form}
use Rattle.clight_nodes.specs.declared.forms.Form.TheVariants as f
use Rattle.clight_nodes.specs.declared.modes.Mode.{Mode}
use Rattle.clight_nodes.specs.declared.nodes.Node.{Node}
use Rattle.clight_nodes.specs.Code.States.{State, now}
use Rattle.clight_nodes.specs.Code.Expressions.{is_target}
use Rattle.clight_nodes.specs.Code.Statements.{gather, finish, flush}

pub target_is : (g : Form) (k : List Form) → is_target (g ∷ k) ≡ is_target (g ∷ [])
target_is (f.Target place) k = refl
target_is g k = refl

-- an answer says the same of an equal state
pub to_state : (r : Result Mode NoMemory) (k : List Form) (z : List Node) (x y : State) → x ≡ y → IfOk r (λ v. now v k z ≡ x) → IfOk r (λ v. now v k z ≡ y)
to_state (Ok v) k z x y e h = h ∙ e
to_state (Err a) k z x y e h = h

-- what no loop, `else` or `if` ends with the statement
pub finish_other : (g : Form) (k : List Form) (z : List Node) → ((a b c : _) → g ≡ f.If a b c → ⊥) → ((a b c d : _) → g ≡ f.Else a b c d → ⊥)
    → ((a b c : _) → g ≡ f.While a b c → ⊥) → ((a b : _) → g ≡ f.For a b → ⊥) → gather (g ∷ k) z ≡ finish (g ∷ k) z
finish_other (f.If a b c) k z i e w h = absurd (i a b c refl)
finish_other (f.Else a b c d) k z i e w h = absurd (e a b c d refl)
finish_other (f.While a b c) k z i e w h = absurd (w a b c refl)
finish_other (f.For a b) k z i e w h = absurd (h a b refl)
finish_other g k z i e w h = refl

pub flush_other : (g : Form) (k : List Form) (z : List Node) → ((a b c : _) → g ≡ f.If a b c → ⊥) → ((a b c d : _) → g ≡ f.Else a b c d → ⊥)
    → ((a b c : _) → g ≡ f.While a b c → ⊥) → ((a b : _) → g ≡ f.For a b → ⊥) → gather (g ∷ k) z ≡ flush (g ∷ k) z
flush_other (f.If a b c) k z i e w h = absurd (i a b c refl)
flush_other (f.Else a b c d) k z i e w h = absurd (e a b c d refl)
flush_other (f.While a b c) k z i e w h = absurd (w a b c refl)
flush_other (f.For a b) k z i e w h = absurd (h a b refl)
flush_other g k z i e w h = refl
