-- Below a budget, a program does what is told of a run.
use Rattle.std.proofs.Common.{◌≡◌, IsTrue, ℕ, zero, suc, ◌<◌, ◌≤◌, [], ◌∷◌, ◌++◌, arith}
use Rattle.cerco_base.specs.declared.events.Event.{Event}
use Rattle.cerco_base.specs.declared.events.Event.TheVariants as event
use Rattle.cerco_base.specs.declared.events.Label.{Label}
use Rattle.cerco_base.specs.declared.events.FaultKind.{FaultKind}
use Rattle.cerco_base.specs.Events.{label_count, Ended}
use Rattle.cerco_traces.specs.Systems.{System, Run}
use Rattle.cerco_traces.specs.Preservation.{Stops, Faults, MeetsFrom}
use Rattle.cerco_traces.proofs.Sources.{due_now, ended_now, fault_now, on_run, on_silent_run}
use Rattle.clight_meaning.specs.Meaning.{Rest, only, says, passes, turns, again}

module _ {T : Type 0} (Y : System T) (d : ℕ) where
  pub record Follows (m : ℕ) (r : Rest) (y : T) : Type 0 where
    pub at : (n : ℕ) → n < m → MeetsFrom Y d y n (r n)

  pub follows_less : (j m : ℕ) (r : Rest) (y : T) → j ≤ m → Follows m r y → Follows j r y
  follows_less j m r y le h = record { at = λ n lt. h.at n (omega arith) }

  pub follows_silent : (m : ℕ) (r : Rest) (y y' : T) → Run Y d y y' → Y.events y' ≡ Y.events y → Follows m r y' → Follows m r y
  follows_silent m r y y' w same h = record { at = λ n lt. on_silent_run FaultKind Y d y y' n (r n) w same (h.at n lt) }

  pub follows_says : (m : ℕ) (e : Event) (r : Rest) (y y' : T) → label_count (e ∷ []) ≡ 0 → Run Y d y y' → Y.events y' ≡ Y.events y ++ e ∷ [] → Follows m r y' → Follows m (says e r) y
  follows_says m e r y y' none w made h = record { at = λ n lt. on_run FaultKind Y d y y' (e ∷ []) n n (r n) w made (omega arith) (h.at n lt) }

  due_at : (m : ℕ) (l : Label) (r : Rest) (y y' : T) → IsTrue (Y.due y) → Run Y d y y' → Y.events y' ≡ Y.events y ++ event.Label l ∷ [] → ((j : ℕ) → j < m → Follows j r y') → (n : ℕ) → n < m → MeetsFrom Y d y n (passes l r n)
  due_at m l r y y' due w made h zero lt = due_now FaultKind Y d y due
  due_at m l r y y' due w made h (suc n) lt = on_run FaultKind Y d y y' (event.Label l ∷ []) n (suc n) (r n) w made (omega arith) ((h (suc n) lt).at n (omega arith))

  pub follows_label : (m : ℕ) (l : Label) (r : Rest) (y y' : T) → IsTrue (Y.due y) → Run Y d y y' → Y.events y' ≡ Y.events y ++ event.Label l ∷ [] → ((j : ℕ) → j < m → Follows j r y') → Follows m (passes l r) y
  follows_label m l r y y' due w made h = record { at = due_at m l r y y' due w made h }

  pub follows_end : (m : ℕ) (y : T) → IsTrue (Y.ended y) → Follows m (only (Stops [] Ended)) y
  follows_end m y over = record { at = λ n lt. ended_now FaultKind Y d y n over }

  pub follows_fault : (m : ℕ) (k : FaultKind) (y : T) → Follows m (only (Faults [] k)) y
  follows_fault m k y = record { at = λ n lt. fault_now FaultKind Y d y n k }

  pub follows_again : {A : Type 0} (m : ℕ) (F : (A → Rest) → A → Rest) (a : A) (y : T) → ((j : ℕ) → j ≤ m → Follows j (turns F j a) y) → Follows m (again F a) y
  unfolding again
  follows_again m F a y h = record { at = λ n lt. (h (suc n) (omega arith)).at n (omega arith) }
