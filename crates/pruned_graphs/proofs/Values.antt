-- What two calls see after the same assignments; what calls share; and paths that write.
use Rattle.std.proofs.Common.{◌≡◌, ℕ, zero, suc, ◌<◌, ◌≤◌, List, [], ◌∷◌, false, if◌then◌else◌, ◌⊎◌, inl, inr, refl, sym, ◌∙◌, arith, lt-ltb, le-ltb}
use Rattle.rtl.specs.declared.graphs.Exit.TheVariants.{Test}
use Rattle.rtl.specs.Operations.{ByteOp}
use Rattle.rtl.specs.Programs.{Graph}
use Rattle.rtl.specs.Effects.{Storage, Loc, Carry, same_storage, Assignment}
use Rattle.rtl.specs.Meaning.{Sharing, with_value, seen, shared_after, own_after, shares_first, branch}
use Rattle.rtl.specs.Liveness.{IsAmong, IsArgument, GoesTo, WrittenBefore, written, past, through}
use Rattle.rtl.specs.CallingConvention.{Path, at_entry, IsWrittenOn}
use Rattle.rtl.specs.CallingConvention as On
use Rattle.rtl.proofs.Points.{path_to_point}
use Rattle.rtl.proofs.ValueLaws.{same_or_not, seen_same, seen_other, targets}

-- what Q says is seen alike after the same assignments, where what is not assigned was seen alike before
pub same_assignments :
    (is_shared : Sharing) (Q : Storage → Type 0) (xs : List Assignment) (m o n u : Storage → ℕ)
    → ((s : Storage) → Q s → (IsAmong s (targets xs) → ⊥) → seen is_shared m o s ≡ seen is_shared n u s)
    → (s : Storage) → Q s → seen is_shared (shared_after is_shared xs m) (own_after is_shared xs o) s ≡ seen is_shared (shared_after is_shared xs n) (own_after is_shared xs u) s
same_assignments is_shared Q [] m o n u before = λ s q. before s q (λ i. i)
same_assignments is_shared Q (x ∷ xs) m o n u before = same_assignments is_shared Q xs _ _ _ _ (λ s q out. by_case s q out (same_or_not s x.to))
  where
    later : (s : Storage) → (IsAmong s (targets xs) → ⊥) → (s ≡ x.to → ⊥) → IsAmong s (targets (x ∷ xs)) → ⊥
    later s out differ (inl e) = differ (sym e)
    later s out differ (inr i) = out i

    by_case :
        (s : Storage) → Q s → (IsAmong s (targets xs) → ⊥) → ((s ≡ x.to) ⊎ ((s ≡ x.to → ⊥) × (same_storage s x.to ≡ false)))
        → seen is_shared (if is_shared x.to then with_value m x.to x.value else m) (if is_shared x.to then o else with_value o x.to x.value) s
        ≡ seen is_shared (if is_shared x.to then with_value n x.to x.value else n) (if is_shared x.to then u else with_value u x.to x.value) s
    by_case s q out (inl e) = rw e (seen_same is_shared m o x.to x.value ∙ sym (seen_same is_shared n u x.to x.value))
    by_case s q out (inr h) = seen_other is_shared m o x.to x.value s h.0 ∙ before s q (later s out h.0) ∙ sym (seen_other is_shared n u x.to x.value s h.0)

-- what is not assigned is seen as before
pub unassigned : (is_shared : Sharing) (xs : List Assignment) (m o : Storage → ℕ) (s : Storage) → (IsAmong s (targets xs) → ⊥) → seen is_shared (shared_after is_shared xs m) (own_after is_shared xs o) s ≡ seen is_shared m o s
unassigned is_shared [] m o s out = refl
unassigned is_shared (x ∷ xs) m o s out = unassigned is_shared xs _ _ s (λ i. out (inr i)) ∙ seen_other is_shared m o x.to x.value s (λ e. out (inl (sym e)))

-- ---- storage that calls share

pub seen_argument : (m o : Storage → ℕ) (s : Storage) → IsArgument 0 s → seen shares_first m o s ≡ m s
seen_argument m o Carry argument = absurd argument
seen_argument m o (Loc v) argument = let low : v < 24 = omega (arith, argument.1) in rw (lt-ltb v 24 low)

pub seen_own : (m o : Storage → ℕ) (v : ℕ) → 24 ≤ v → seen shares_first m o (Loc v) ≡ o (Loc v)
seen_own m o v high = rw (le-ltb v 24 high)

-- ---- paths

pub branch_goes : (n v true_arm false_arm : ℕ) → GoesTo (Test v true_arm false_arm) (branch n true_arm false_arm)
branch_goes zero v true_arm false_arm = inr refl
branch_goes (suc n) v true_arm false_arm = inl refl

-- what is written on a path was written before its end
pub written_on : (g : Graph ℕ) (s : Storage) (p : ℕ) (ops : List (ByteOp ℕ)) (path : Path g p ops) → IsWrittenOn s path → WrittenBefore g s p ops
written_on g s p ops at_entry w = absurd w
written_on g s p ops (On.past p' op ops' path) (inl i) = written p op ops (path_to_point g p (op ∷ ops) path) i
written_on g s p ops (On.past p' op ops' path) (inr w) = past p op ops (written_on g s p (op ∷ ops) path w)
written_on g s q ops (On.through p q' goes path) w = through p q w.0 goes (written_on g s p [] path w.1)
