-- What an address costs goes by which addresses are marked, however the list of marks is written.
use Rattle.std.proofs.Common.{◌≡◌, ℕ, zero, suc, List, [], Bool, true, false, ◌||◌, if◌then◌else◌, Option, Some, None, Ok, refl, sym, ap, ap₂, ◌∙◌}
use Rattle.mcs51_isa.specs.declared.instr.Instr.{Instr}
use Rattle.mcs51_isa.specs.Flow.{Flow, On, Branch, Back, Lost, flow_of}
use Rattle.sim51.specs.Step.{instr_at, next_address}
use Rattle.block_costs.specs.Ways.{AreMarks, is_marked, has_halt, is_closed, Way, before, goes_on, rest, from_instr, way_from, way, common, cost, start_cost}

-- the same addresses are marked
abbrev pub AreAlike : List Bool → List Bool → Type 0
AreAlike m n = (a : ℕ) → is_marked m a ≡ is_marked n a

pub marks_alike : (labels : List ℕ) (m n : List Bool) → AreMarks labels m → AreMarks labels n → AreAlike m n
marks_alike labels m n one other = λ a. one a ∙ sym (other a)

module _ (code : List ℕ) (m n : List Bool) (alike : AreAlike m n) where
  closed_alike : (a : ℕ) → is_closed code m a ≡ is_closed code n a
  closed_alike a = ap (λ b. b || has_halt code a) (alike a)

  goes_on_alike : (taken : Bool) (f g : ℕ → Way) → ((a : ℕ) → f a ≡ g a) → (a : ℕ) → goes_on code m taken f a ≡ goes_on code n taken g a
  goes_on_alike taken f g same a = ap₂ (λ b w. if b then Ok [] else w) (closed_alike a) (same a)

  rest_alike :
      (taken : Bool) (f g : Bool → ℕ → Way) → ((b : Bool) (a : ℕ) → f b a ≡ g b a)
      → (branched : Bool) (a : ℕ) (flow : Flow) → rest code m taken f branched a flow ≡ rest code n taken g branched a flow
  rest_alike taken f g same branched a (On to) = goes_on_alike taken (f branched) (g branched) (same branched) to
  rest_alike taken f g same true a (Branch next target) = refl
  rest_alike taken f g same false a (Branch next target) = goes_on_alike taken (f true) (g true) (same true) (if taken then target else next)
  rest_alike taken f g same branched a Back = refl
  rest_alike taken f g same branched a Lost = refl

  instr_alike :
      (taken : Bool) (f g : Bool → ℕ → Way) → ((b : Bool) (a : ℕ) → f b a ≡ g b a)
      → (branched : Bool) (a : ℕ) (i : Option Instr) → from_instr code m taken f branched a i ≡ from_instr code n taken g branched a i
  instr_alike taken f g same branched a None = refl
  instr_alike taken f g same branched a (Some i) = ap (before a) (rest_alike taken f g same branched a (flow_of i (next_address a i)))

  ways_alike : (taken : Bool) (most : ℕ) (branched : Bool) (a : ℕ) → way_from code m taken most branched a ≡ way_from code n taken most branched a
  unfolding way_from
  ways_alike taken zero branched a = refl
  ways_alike taken (suc most) branched a =
      instr_alike taken (way_from code m taken most) (way_from code n taken most) (ways_alike taken most) branched a (instr_at code a)

  way_alike : (taken : Bool) (a : ℕ) → way code m taken a ≡ way code n taken a
  way_alike taken a = ap (λ w. if has_halt code a then Ok [] else w) (ways_alike taken 65536 false a)

  pub cost_alike : (a : ℕ) → cost code m a ≡ cost code n a
  cost_alike a = ap₂ (common code) (way_alike false a) (way_alike true a)

  pub start_alike : start_cost code m ≡ start_cost code n
  start_alike = ap₂ (λ b c. if b then Ok 0 else c) (alike 0) (cost_alike 0)
