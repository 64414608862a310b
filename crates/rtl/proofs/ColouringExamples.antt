-- The greedy colouring of the graph whose live sets are shown: what is live after the call is in the first cell, and the other
-- virtual register in a register of the processor.
use Rattle.std.proofs.Common.{◌≡◌, ◌≢◌, ℕ, zero, suc, ◌<◌, ◌≤◌, ◌⊎◌, ◌↔◌, nat_lt, nat_eq, if◌then◌else◌, inl, inr, refl, sym, ap, ◌∙◌, subst, arith}
use Rattle.std.proofs.lemmas.Bool.Decides.{nat_tests}
use Rattle.cerco_traces.specs.LabelledGraphs.{In}
use Rattle.rtl.specs.declared.locations.Place.{Place}
use Rattle.rtl.specs.declared.locations.Place.TheVariants.{Reg, Cell}
use Rattle.rtl.specs.Locations.{argument_place}
use Rattle.rtl.specs.Effects.{Loc}
use Rattle.rtl.specs.declared.graphs.Exit.TheVariants.{Call}
use Rattle.rtl.specs.Graphs.{ops_at, exit_at}
use Rattle.rtl.specs.Liveness.{Live}
use Rattle.rtl.specs.WellFormed.{locations_in}
use Rattle.rtl.specs.Interference.{Interfere, both_live, live_where_written, written_where_live, both_written, IsLiveAcross, HoldsAllRegisters, IsCell, IsRegister, IsGreedyColouring}
use Rattle.rtl.proofs.Points.{live_is_named, written_is_named, next_point}
use Rattle.rtl.proofs.LiveExamples.{g, first_kept, before_write}

abbrev place : ℕ → Place
place v = if nat_lt v 12 then argument_place v else (if nat_eq v 24 then Cell 0 else Reg 2)

-- the graph names two
named : (v : ℕ) → In v (locations_in g) → (v ≡ 24) ⊎ (v ≡ 25)
named v i = grind arith

interfering : (v w : ℕ) → Interfere g v w → In v (locations_in g) × In w (locations_in g)
interfering v w (both_live p ops point l m) = (live_is_named 0 g v p ops point l, live_is_named 0 g w p ops point m)
interfering v w (live_where_written p op ops point l i) = (live_is_named 0 g v p ops (next_point g p op ops point) l, written_is_named g p op ops w point i)
interfering v w (written_where_live p op ops point i l) = (written_is_named g p op ops v point i, live_is_named 0 g w p ops (next_point g p op ops point) l)
interfering v w (both_written p op ops point i j) = (written_is_named g p op ops v point i, written_is_named g p op ops w point j)

argument : (v : ℕ) → v < 12 → place v ≡ argument_place v
argument v lt = grind (arith, nat_tests)

differ : (v w : ℕ) → v ≢ w → Interfere g v w → place v ≢ place w
differ v w other i = by_case (named v (interfering v w i).0) (named w (interfering v w i).1)
  where
    cell_register : Cell 0 ≡ Reg 2 → ⊥
    cell_register e = cc

    by_case : ((v ≡ 24) ⊎ (v ≡ 25)) → ((w ≡ 24) ⊎ (w ≡ 25)) → place v ≢ place w
    by_case (inl e) (inl f) = absurd (other (e ∙ sym f))
    by_case (inl e) (inr f) = λ h. cell_register (ap place (sym e) ∙ h ∙ ap place f)
    by_case (inr e) (inl f) = λ h. cell_register (ap place (sym f) ∙ sym h ∙ ap place e)
    by_case (inr e) (inr f) = absurd (other (e ∙ sym f))

across : IsLiveAcross g 24
across = (0, 1, 1, refl, first_kept)

kinds : (v : ℕ) → 12 ≤ v → In v (locations_in g) → IsRegister (place v) ⊎ IsCell (place v)
kinds v own i = by_case (named v i)
  where
    by_case : ((v ≡ 24) ⊎ (v ≡ 25)) → IsRegister (place v) ⊎ IsCell (place v)
    by_case (inl e) = subst (λ w. IsRegister (place w) ⊎ IsCell (place w)) (sym e) (inr tt)
    by_case (inr e) = subst (λ w. IsRegister (place w) ⊎ IsCell (place w)) (sym e) (inl (omega arith, omega arith))

-- the one call goes on at node 1
after_call : (p f q : ℕ) → exit_at g p ≡ Call f q → 1 ≡ q
after_call zero f q e = cc
after_call (suc zero) f q e = absurd cc
after_call (suc (suc p)) f q e = absurd cc

not_across : IsLiveAcross g 25 → ⊥
not_across h = different (before_write (Loc 25) (subst (λ q. Live 0 g (Loc 25) q (ops_at g q)) (sym (after_call h.0 h.1 h.2 h.3)) h.4))
  where
    same_number : (v w : ℕ) → Loc v ≡ Loc w → v ≡ w
    same_number v w e = cc

    different : Loc 24 ≡ Loc 25 → ⊥
    different e = let n = same_number 24 25 e in omega arith

-- no register but R2 is held
not_held : (v : ℕ) → HoldsAllRegisters g place v → ⊥
not_held v h = let held = h 7 (omega arith) (omega arith) in by_case held.0 (named held.0 (interfering v held.0 held.2).1) held.3
  where
    not_in_cell : Cell 0 ≡ Reg 7 → ⊥
    not_in_cell e = cc

    same_register : (m n : ℕ) → Reg m ≡ Reg n → m ≡ n
    same_register m n e = cc

    by_case : (w : ℕ) → ((w ≡ 24) ⊎ (w ≡ 25)) → place w ≡ Reg 7 → ⊥
    by_case w (inl e) r = not_in_cell (ap place (sym e) ∙ r)
    by_case w (inr e) r = let n = same_register 2 7 (ap place (sym e) ∙ r) in omega arith

cells : (v : ℕ) → 12 ≤ v → In v (locations_in g) → IsCell (place v) ↔ (IsLiveAcross g v ⊎ HoldsAllRegisters g place v)
cells v own i = by_case (named v i)
  where
    in_register : IsLiveAcross g 25 ⊎ HoldsAllRegisters g place 25 → IsCell (place 25)
    in_register (inl a) = absurd (not_across a)
    in_register (inr h) = absurd (not_held 25 h)

    by_case : ((v ≡ 24) ⊎ (v ≡ 25)) → IsCell (place v) ↔ (IsLiveAcross g v ⊎ HoldsAllRegisters g place v)
    by_case (inl e) = subst (λ w. IsCell (place w) ↔ (IsLiveAcross g w ⊎ HoldsAllRegisters g place w)) (sym e) ((λ c. inl across), λ h. tt)
    by_case (inr e) = subst (λ w. IsCell (place w) ↔ (IsLiveAcross g w ⊎ HoldsAllRegisters g place w)) (sym e) ((λ c. absurd c), in_register)

least : (v n m : ℕ) → 12 ≤ v → In v (locations_in g) → place v ≡ Cell n → m < n → (w : ℕ) × (w < v) × Interfere g v w × (place w ≡ Cell m)
least v n m own i c lt = absurd (by_case (named v i))
  where
    same_cell : (k l : ℕ) → Cell k ≡ Cell l → k ≡ l
    same_cell k l e = cc

    no_cell : (k : ℕ) → Reg 2 ≡ Cell k → ⊥
    no_cell k e = cc

    by_case : ((v ≡ 24) ⊎ (v ≡ 25)) → ⊥
    by_case (inl e) = let k = same_cell 0 n (ap place (sym e) ∙ c) in omega arith
    by_case (inr e) = no_cell n (ap place (sym e) ∙ c)

greedy : IsGreedyColouring g place
greedy = record { arguments = argument; differ = differ; kinds = kinds; cells = cells; least = least }
