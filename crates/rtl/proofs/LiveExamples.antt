-- The live sets of a small ERTL graph, and its greedy colouring. It reads two bytes, writes their difference, calls a function, and
-- writes the first one.
use Rattle.std.proofs.Common.{Bool, IsTrue, length, map, ◌≡◌, ◌≢◌, ℕ, zero, suc, ◌<◌, ◌≤◌, ◌⊎◌, ◌↔◌, List, [], ◌∷◌, true, false, inl, inr, refl, sym, subst, arith}
use Rattle.cerco_traces.specs.LabelledGraphs.{In}
use Rattle.rtl.specs.declared.locations.Vreg.{Vreg}
use Rattle.rtl.specs.declared.operations.Src.TheVariants.{At}
use Rattle.rtl.specs.declared.operations.Arith.TheVariants.{Subb}
use Rattle.rtl.specs.Operations.{ByteOp}
use Rattle.rtl.specs.Operations.{Op, ClearCarry, ReadPort, WritePort}
use Rattle.rtl.specs.declared.graphs.Exit.TheVariants.{Call, Return}
use Rattle.rtl.specs.Programs.{Graph}
use Rattle.rtl.specs.declared.live_sets.LivePoint.{LivePoint}
use Rattle.rtl.specs.declared.live_sets.LiveSets.{LiveSets}
use Rattle.rtl.specs.Locations.{vreg_number}
use Rattle.rtl.specs.Effects.{Storage, Loc, Carry, writes}
use Rattle.rtl.specs.Graphs.{ops_at, renamed_graph}
use Rattle.rtl.specs.LiveSets.{points_of, vregs_before, carry_before}
use Rattle.rtl.specs.Liveness.{IsAmong, IsArgument, WrittenBefore, Live, used, kept, used_by_exit, onward, LiveBefore, AreRising, AreLiveSets}
use Rattle.rtl.proofs.Samples.{vreg, node}
use Rattle.rtl.proofs.Points.{not_written}

abbrev pub shown : Graph Vreg
shown = record {
  entry = 0;
  nodes =
      node (ReadPort (vreg 24) ∷ ReadPort (vreg 25) ∷ ClearCarry ∷ Op Subb (vreg 25) (At (vreg 25)) (At (vreg 24)) ∷ WritePort (vreg 25) ∷ []) (Call 1 1)
      ∷ node (WritePort (vreg 24) ∷ []) Return
      ∷ [];
}

abbrev pub g : Graph ℕ
g = renamed_graph vreg_number shown

abbrev point : List Vreg → Bool → LivePoint
point vregs carry = record { vregs = vregs; carry = carry }

abbrev its_live_sets : LiveSets
its_live_sets = record {
  nodes =
      (point [] false ∷ point (vreg 24 ∷ []) false ∷ point (vreg 24 ∷ vreg 25 ∷ []) false ∷ point (vreg 24 ∷ vreg 25 ∷ []) true ∷ point (vreg 24 ∷ vreg 25 ∷ []) false ∷ point (vreg 24 ∷ []) false ∷ [])
      ∷ (point (vreg 24 ∷ []) false ∷ point [] false ∷ [])
      ∷ [];
}

-- no argument place is ever written
no_argument : (s : Storage) (p : ℕ) → IsArgument 0 s → WrittenBefore g s p [] → ⊥
no_argument (Loc v) p arg before = not_written g (Loc v) p [] (grind arith) before
no_argument Carry p arg before = arg

-- ---- what is live at most, from the last point on

end : (s : Storage) → Live 0 g s 1 [] → ⊥
end s (used_by_exit p u) = no_argument s 1 u.0 u.1
end s (onward p q out goes l) = goes

pub before_write : (s : Storage) → Live 0 g s 1 (ops_at g 1) → Loc 24 ≡ s
before_write s (used p op ops (inl e)) = e
before_write s (used p op ops (inr i)) = absurd i
before_write s (kept p op ops out l) = absurd (end s l)

call : (s : Storage) → Live 0 g s 0 [] → Loc 24 ≡ s
call s (used_by_exit p u) = absurd (no_argument s 0 u.0 u.1)
call s (onward p q out goes l) = before_write s (subst (λ q. Live 0 g s q (ops_at g q)) (sym goes) l)

abbrev last_op : List (ByteOp ℕ)
last_op = WritePort 25 ∷ []

abbrev from_difference : List (ByteOp ℕ)
from_difference = Op Subb 25 (At 25) (At 24) ∷ last_op

abbrev from_clear : List (ByteOp ℕ)
from_clear = ClearCarry ∷ from_difference

abbrev from_second : List (ByteOp ℕ)
from_second = ReadPort 25 ∷ from_clear

before_last : (s : Storage) → Live 0 g s 0 last_op → IsAmong s (Loc 24 ∷ Loc 25 ∷ [])
before_last s (used p op ops (inl e)) = inr (inl e)
before_last s (used p op ops (inr i)) = absurd i
before_last s (kept p op ops out l) = inl (call s l)

before_difference : (s : Storage) → Live 0 g s 0 from_difference → IsAmong s (Loc 24 ∷ Loc 25 ∷ Carry ∷ [])
before_difference s (used p op ops (inl e)) = inr (inr (inl e))
before_difference s (used p op ops (inr (inl e))) = inr (inl e)
before_difference s (used p op ops (inr (inr (inl e)))) = inl e
before_difference s (used p op ops (inr (inr (inr i)))) = absurd i
before_difference s (kept p op ops out l) = wider (before_last s l)
  where
    wider : IsAmong s (Loc 24 ∷ Loc 25 ∷ []) → IsAmong s (Loc 24 ∷ Loc 25 ∷ Carry ∷ [])
    wider (inl e) = inl e
    wider (inr (inl e)) = inr (inl e)
    wider (inr (inr i)) = absurd i

before_clear : (s : Storage) → Live 0 g s 0 from_clear → IsAmong s (Loc 24 ∷ Loc 25 ∷ [])
before_clear s (used p op ops i) = absurd i
before_clear s (kept p op ops out l) = narrower (before_difference s l)
  where
    narrower : IsAmong s (Loc 24 ∷ Loc 25 ∷ Carry ∷ []) → IsAmong s (Loc 24 ∷ Loc 25 ∷ [])
    narrower (inl e) = inl e
    narrower (inr (inl e)) = inr (inl e)
    narrower (inr (inr (inl e))) = absurd (out (inl e))
    narrower (inr (inr (inr i))) = absurd i

before_second : (s : Storage) → Live 0 g s 0 from_second → Loc 24 ≡ s
before_second s (used p op ops i) = absurd i
before_second s (kept p op ops out l) = narrower (before_clear s l)
  where
    narrower : IsAmong s (Loc 24 ∷ Loc 25 ∷ []) → Loc 24 ≡ s
    narrower (inl e) = e
    narrower (inr (inl e)) = absurd (out (inl e))
    narrower (inr (inr i)) = absurd i

before_first : (s : Storage) → Live 0 g s 0 (ops_at g 0) → ⊥
before_first s (used p op ops i) = i
before_first s (kept p op ops out l) = out (inl (before_second s l))

-- ---- what is live at least

same_number : (v w : ℕ) → Loc v ≡ Loc w → v ≡ w
same_number v w e = cc

pub first_kept : Live 0 g (Loc 24) 1 (ops_at g 1)
first_kept = used 1 (WritePort 24) [] (inl refl)

first_at_call : Live 0 g (Loc 24) 0 []
first_at_call = onward 0 1 (λ o. omega (arith, o.1)) refl first_kept

first_at_last : Live 0 g (Loc 24) 0 last_op
first_at_last = kept 0 (WritePort 25) [] (λ i. i) first_at_call

second_at_last : Live 0 g (Loc 25) 0 last_op
second_at_last = used 0 (WritePort 25) [] (inl refl)

first_at_difference : Live 0 g (Loc 24) 0 from_difference
first_at_difference = used 0 (Op Subb 25 (At 25) (At 24)) last_op (inr (inr (inl refl)))

second_at_difference : Live 0 g (Loc 25) 0 from_difference
second_at_difference = used 0 (Op Subb 25 (At 25) (At 24)) last_op (inr (inl refl))

carry_at_difference : Live 0 g Carry 0 from_difference
carry_at_difference = used 0 (Op Subb 25 (At 25) (At 24)) last_op (inl refl)

-- clearing the carry writes no location
clears_no_location : (v : ℕ) → IsAmong (Loc v) (writes ClearCarry) → ⊥
clears_no_location v (inl e) = cc
clears_no_location v (inr i) = i

first_at_clear : Live 0 g (Loc 24) 0 from_clear
first_at_clear = kept 0 ClearCarry from_difference (clears_no_location 24) first_at_difference

second_at_clear : Live 0 g (Loc 25) 0 from_clear
second_at_clear = kept 0 ClearCarry from_difference (clears_no_location 25) second_at_difference

reads_into_another : (v w : ℕ) → v ≢ w → IsAmong (Loc w) (writes (ReadPort v)) → ⊥
reads_into_another v w other (inl e) = other (same_number v w e)
reads_into_another v w other (inr i) = i

first_at_second : Live 0 g (Loc 24) 0 from_second
first_at_second = kept 0 (ReadPort 25) from_clear (reads_into_another 25 24 (λ e. omega (arith, e))) first_at_clear

-- ---- the live sets

-- what the lists of locations say of numbers
one_number : (v : ℕ) (ops : List (ByteOp ℕ)) (p : ℕ) → Live 0 g (Loc 24) p ops → (Live 0 g (Loc v) p ops → Loc 24 ≡ Loc v) → In v (24 ∷ []) ↔ Live 0 g (Loc v) p ops
one_number v ops p live most = (to, λ l. inl (same_number 24 v (most l)))
  where
    to : In v (24 ∷ []) → Live 0 g (Loc v) p ops
    to (inl e) = subst (λ w. Live 0 g (Loc w) p ops) e live
    to (inr i) = absurd i

both_numbers : (v : ℕ) (ops : List (ByteOp ℕ)) (p : ℕ) → Live 0 g (Loc 24) p ops → Live 0 g (Loc 25) p ops → (Live 0 g (Loc v) p ops → (v ≡ 24) ⊎ (v ≡ 25)) → In v (24 ∷ 25 ∷ []) ↔ Live 0 g (Loc v) p ops
both_numbers v ops p first second most = (to, λ l. from (most l))
  where
    to : In v (24 ∷ 25 ∷ []) → Live 0 g (Loc v) p ops
    to (inl e) = subst (λ w. Live 0 g (Loc w) p ops) e first
    to (inr (inl e)) = subst (λ w. Live 0 g (Loc w) p ops) e second
    to (inr (inr i)) = absurd i

    from : ((v ≡ 24) ⊎ (v ≡ 25)) → In v (24 ∷ 25 ∷ [])
    from (inl e) = inl (sym e)
    from (inr e) = inr (inl (sym e))

two_of : (v : ℕ) → IsAmong (Loc v) (Loc 24 ∷ Loc 25 ∷ []) → (v ≡ 24) ⊎ (v ≡ 25)
two_of v (inl e) = inl (sym (same_number 24 v e))
two_of v (inr (inl e)) = inr (sym (same_number 25 v e))
two_of v (inr (inr i)) = absurd i

two_of_three : (v : ℕ) → IsAmong (Loc v) (Loc 24 ∷ Loc 25 ∷ Carry ∷ []) → (v ≡ 24) ⊎ (v ≡ 25)
two_of_three v (inl e) = inl (sym (same_number 24 v e))
two_of_three v (inr (inl e)) = inr (sym (same_number 25 v e))
two_of_three v (inr (inr (inl e))) = absurd cc
two_of_three v (inr (inr (inr i))) = absurd i

vregs_are : (p k v : ℕ) → p < 2 → k ≤ length (ops_at shown p) → In v (map vreg_number (vregs_before its_live_sets p k)) ↔ LiveBefore 0 g (Loc v) p k
vregs_are zero zero v lt le = ((λ i. absurd i), λ l. absurd (before_first (Loc v) l))
vregs_are zero (suc zero) v lt le = one_number v from_second 0 first_at_second (before_second (Loc v))
vregs_are zero (suc (suc zero)) v lt le = both_numbers v from_clear 0 first_at_clear second_at_clear (λ l. two_of v (before_clear (Loc v) l))
vregs_are zero (suc (suc (suc zero))) v lt le = both_numbers v from_difference 0 first_at_difference second_at_difference (λ l. two_of_three v (before_difference (Loc v) l))
vregs_are zero (suc (suc (suc (suc zero)))) v lt le = both_numbers v last_op 0 first_at_last second_at_last (λ l. two_of v (before_last (Loc v) l))
vregs_are zero (suc (suc (suc (suc (suc zero))))) v lt le = one_number v [] 0 first_at_call (call (Loc v))
vregs_are zero (suc (suc (suc (suc (suc (suc k)))))) v lt le = absurd (omega (arith, le))
vregs_are (suc zero) zero v lt le = one_number v (ops_at g 1) 1 first_kept (before_write (Loc v))
vregs_are (suc zero) (suc zero) v lt le = ((λ i. absurd i), λ l. absurd (end (Loc v) l))
vregs_are (suc zero) (suc (suc k)) v lt le = absurd (omega (arith, le))
vregs_are (suc (suc p)) k v lt le = absurd (omega (arith, lt))

no_carry : (v : ℕ) → Loc v ≡ Carry → ⊥
no_carry v e = cc

neither : IsAmong Carry (Loc 24 ∷ Loc 25 ∷ []) → ⊥
neither (inl e) = cc
neither (inr (inl e)) = cc
neither (inr (inr i)) = i

carry_is : (p k : ℕ) → p < 2 → k ≤ length (ops_at shown p) → IsTrue (carry_before its_live_sets p k) ↔ LiveBefore 0 g Carry p k
carry_is zero zero lt le = ((λ t. absurd cc), λ l. absurd (before_first Carry l))
carry_is zero (suc zero) lt le = ((λ t. absurd cc), λ l. absurd (no_carry 24 (before_second Carry l)))
carry_is zero (suc (suc zero)) lt le = ((λ t. absurd cc), λ l. absurd (neither (before_clear Carry l)))
carry_is zero (suc (suc (suc zero))) lt le = ((λ t. carry_at_difference), λ l. refl)
carry_is zero (suc (suc (suc (suc zero)))) lt le = ((λ t. absurd cc), λ l. absurd (neither (before_last Carry l)))
carry_is zero (suc (suc (suc (suc (suc zero))))) lt le = ((λ t. absurd cc), λ l. absurd (no_carry 24 (call Carry l)))
carry_is zero (suc (suc (suc (suc (suc (suc k)))))) lt le = absurd (omega (arith, le))
carry_is (suc zero) zero lt le = ((λ t. absurd cc), λ l. absurd (no_carry 24 (before_write Carry l)))
carry_is (suc zero) (suc zero) lt le = ((λ t. absurd cc), λ l. absurd (end Carry l))
carry_is (suc zero) (suc (suc k)) lt le = absurd (omega (arith, le))
carry_is (suc (suc p)) k lt le = absurd (omega (arith, lt))

points_are : (p : ℕ) → p < 2 → length (points_of its_live_sets p) ≡ suc (length (ops_at shown p))
points_are zero lt = refl
points_are (suc zero) lt = refl
points_are (suc (suc p)) lt = absurd (omega (arith, lt))

rising : (p k : ℕ) → p < 2 → k ≤ length (ops_at shown p) → AreRising (map vreg_number (vregs_before its_live_sets p k))
rising zero zero lt le = tt
rising zero (suc zero) lt le = tt
rising zero (suc (suc zero)) lt le = (omega arith, tt)
rising zero (suc (suc (suc zero))) lt le = (omega arith, tt)
rising zero (suc (suc (suc (suc zero)))) lt le = (omega arith, tt)
rising zero (suc (suc (suc (suc (suc zero))))) lt le = tt
rising zero (suc (suc (suc (suc (suc (suc k)))))) lt le = absurd (omega (arith, le))
rising (suc zero) zero lt le = tt
rising (suc zero) (suc zero) lt le = tt
rising (suc zero) (suc (suc k)) lt le = absurd (omega (arith, le))
rising (suc (suc p)) k lt le = absurd (omega (arith, lt))

live_sets_are : AreLiveSets 0 shown its_live_sets
live_sets_are = record { nodes = refl; points = points_are; vregs = vregs_are; carry = carry_is; rising = rising }
