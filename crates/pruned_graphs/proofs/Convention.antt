-- A program that respects the calling convention still does without its vain operations.
use Rattle.std.proofs.Common.{ℕ, [], sym, ◌∙◌, subst}
use Rattle.rtl.specs.declared.graphs.Exit.TheVariants.{Call, Return}
use Rattle.rtl.specs.Programs.{Graph}
use Rattle.rtl.specs.Effects.{Storage, Carry}
use Rattle.rtl.specs.Graphs.{ops_at}
use Rattle.rtl.specs.Liveness.{Uses, LiveAt}
use Rattle.rtl.specs.StrongLiveness.{used_by_exit}
use Rattle.rtl.specs.CallingConvention.{RespectsConvention}
use Rattle.pruned_graphs.specs.Pruning.{IsPruned}
use Rattle.pruned_graphs.specs.Laws.{PruningKeepsCarry}
use Rattle.pruned_graphs.proofs.Strong.{strong_is_live}
use Rattle.pruned_graphs.proofs.Values.{written_on}
use Rattle.pruned_graphs.proofs.Back.{live_back, path_end_back}

-- what is live in front of a node was live there
pub live_was_live : (first : ℕ) (g h : Graph ℕ) → IsPruned first g h → (s : Storage) (p : ℕ) → LiveAt first h s p → LiveAt first g s p
live_was_live first g h pruned s p live = strong_is_live first g s p (ops_at g p) (live_back first g h pruned s p (ops_at h p) live (ops_at g p) (pruned.ops p))

pub carry_stays : PruningKeepsCarry
carry_stays first g h pruned inside p live = inside p (live_was_live first g h pruned Carry p live)

pub still_respects : (first : ℕ) (gs hs : ℕ → Graph ℕ) → RespectsConvention first gs → ((f : ℕ) → IsPruned first (gs f) (hs f)) → RespectsConvention first hs
still_respects first gs hs conv pruned = record {
  entries = λ f s live. conv.entries f s (at_old_entry f s live);
  arguments = λ f g p q s e live path'.
      let e' = sym ((pruned f).exits p) ∙ e in
      let b = path_end_back first (gs f) (hs f) (pruned f) p path' in
      let live' = at_old_entry g s live in
      let w = conv.arguments f g p q s e' live' b.0 in
      let uses : Uses first (Call g q) (gs f) p s = (conv.entries g s live', written_on (gs f) s p [] b.0 w) in
      b.1 s w (used_by_exit s p (subst (λ z. Uses first z (gs f) p s) (sym e') uses));
  results = λ f g p q r s e argument live r_is path'.
      let r_is' = sym ((pruned g).exits r) ∙ r_is in
      let b = path_end_back first (gs g) (hs g) (pruned g) r path' in
      let w = conv.results f g p q r s (sym ((pruned f).exits p) ∙ e) argument (live_before f s q live) r_is' b.0 in
      let uses : Uses first Return (gs g) r s = (argument, written_on (gs g) s r [] b.0 w) in
      b.1 s w (used_by_exit s r (subst (λ z. Uses first z (gs g) r s) (sym r_is') uses));
  carry = λ f g p q e live. conv.carry f g p q (sym ((pruned f).exits p) ∙ e) (live_before f Carry q live);
}
  where
    live_before : (f : ℕ) (s : Storage) (p : ℕ) → LiveAt first (hs f) s p → LiveAt first (gs f) s p
    live_before f = live_was_live first (gs f) (hs f) (pruned f)

    at_old_entry : (f : ℕ) (s : Storage) → LiveAt first (hs f) s (hs f).entry → LiveAt first (gs f) s (gs f).entry
    at_old_entry f s live = subst (LiveAt first (gs f) s) (pruned f).entry (live_before f s (hs f).entry live)
