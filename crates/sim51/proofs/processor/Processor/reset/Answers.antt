use Rattle.std.proofs.Common.{◌≡◌, List, ℕ, ap, replicate}
use Rattle.sim51.specs.State.{Core, reset_core}
use Rattle.sim51.proofs.processor.Processor.reset.Goals as goal

reset_with : (xs script : List ℕ) → xs ≡ replicate 65536 0 → ◌≡◌ {A = Core} (record (reset_core script) { xram = xs }) (reset_core script)
reset_with xs script e = ap (λ (x : List ℕ). record (reset_core script) { xram = x }) e

pub returns : goal.returns
returns c = reset_with _ _ (c.in_ok-xram.ensures.items_if_clones_equal (λ y same. same))
