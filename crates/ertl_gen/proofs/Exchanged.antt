-- The exchange of argument places.
use Rattle.std.proofs.Common.{◌≡◌, ℕ, ◌+◌, ◌-◌, ◌<◌, ◌≤◌, ◌⊎◌, inl, inr, nat_lt, true, refl, sym, ap, ◌∙◌, arith, lt-ltb, le-ltb}
use Rattle.rtl.specs.Effects.{Storage, Loc, Carry}
use Rattle.rtl.specs.Meaning.{shares_first}
use Rattle.rtl.specs.Liveness.{IsArgument}
use Rattle.rtl.proofs.ValueLaws.{renamed_storage}
use Rattle.ertl_gen.specs.Translation.{exchanged_number}

-- an argument place of ERTL, of RTL, or neither
pub first_twelve : (v : ℕ) → v < 12 → exchanged_number v ≡ v + 12
first_twelve v low = rw (lt-ltb v 12 low)

pub next_twelve : (v : ℕ) → 12 ≤ v → v < 24 → exchanged_number v ≡ v - 12
next_twelve v high low = rw (le-ltb v 12 high) (rw (lt-ltb v 24 low))

pub others : (v : ℕ) → 24 ≤ v → exchanged_number v ≡ v
others v high = let over : 12 ≤ v = omega arith in rw (le-ltb v 12 over) (rw (le-ltb v 24 high))

pub which : (v : ℕ) → (v < 12) ⊎ (((12 ≤ v) × (v < 24)) ⊎ (24 ≤ v))
which v = grind arith

pub back : (v : ℕ) → exchanged_number (exchanged_number v) ≡ v
back v = by_kind (which v)
  where
    by_kind : (v < 12) ⊎ (((12 ≤ v) × (v < 24)) ⊎ (24 ≤ v)) → exchanged_number (exchanged_number v) ≡ v
    by_kind (inl low) =
        let e : exchanged_number (v + 12) ≡ (v + 12) - 12 = next_twelve (v + 12) (omega arith) (omega arith) in
        ap exchanged_number (first_twelve v low) ∙ e ∙ omega arith
    by_kind (inr (inl mid)) =
        let e : exchanged_number (v - 12) ≡ (v - 12) + 12 = first_twelve (v - 12) (let a = mid.0 in let b = mid.1 in omega (arith, a, b)) in
        ap exchanged_number (next_twelve v mid.0 mid.1) ∙ e ∙ (let a = mid.0 in omega (arith, a))
    by_kind (inr (inr high)) = ap exchanged_number (others v high) ∙ others v high

abbrev pub moved : Storage → Storage
moved = renamed_storage exchanged_number

pub moved_back : (s : Storage) → moved (moved s) ≡ s
moved_back Carry = refl
moved_back (Loc v) = ap Loc (back v)

pub moved_once : (s t : Storage) → moved s ≡ moved t → s ≡ t
moved_once s t e = sym (moved_back s) ∙ ap moved e ∙ moved_back t

-- all calls share the same storage
pub shares_same : (s : Storage) → shares_first (moved s) ≡ shares_first s
shares_same Carry = refl
shares_same (Loc v) = by_kind (which v)
  where
    low : (w : ℕ) → w < 24 → nat_lt w 24 ≡ true
    low w h = lt-ltb w 24 h

    by_kind : (v < 12) ⊎ (((12 ≤ v) × (v < 24)) ⊎ (24 ≤ v)) → nat_lt (exchanged_number v) 24 ≡ nat_lt v 24
    by_kind (inl h) = ap (λ w. nat_lt w 24) (first_twelve v h) ∙ low (v + 12) (omega arith) ∙ sym (low v (omega arith))
    by_kind (inr (inl h)) =
        let a = h.0 in let b = h.1 in
        ap (λ w. nat_lt w 24) (next_twelve v h.0 h.1) ∙ low (v - 12) (omega (arith, a, b)) ∙ sym (low v h.1)
    by_kind (inr (inr h)) = ap (λ w. nat_lt w 24) (others v h)

-- the argument places of one language are those of the other
pub argument_of_rtl : (s : Storage) → IsArgument 0 s → IsArgument 12 (moved s)
argument_of_rtl Carry arg = arg
argument_of_rtl (Loc v) arg = let b : v < 12 = omega (arith, arg.1) in rw (first_twelve v b) (omega arith, omega arith)

pub argument_of_ertl : (s : Storage) → IsArgument 12 s → IsArgument 0 (moved s)
argument_of_ertl Carry arg = arg
argument_of_ertl (Loc v) arg = let a : 12 ≤ v = arg.0 in let b : v < 24 = omega (arith, arg.1) in rw (next_twelve v a b) (omega arith, omega arith)
