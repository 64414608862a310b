-- The exchange gives no function more virtual registers of its own, and an ERTL graph names those of its language.
use Rattle.std.proofs.Common.{◌≡◌, ℕ, ◌+◌, ◌<◌, ◌≤◌, ◌⊎◌, inl, inr, List, [], ◌∷◌, map, nat_eq, nat_lt, false, Bool, ◌||◌, if◌then◌else◌, refl, sym, ap, ap₂, ◌∙◌, subst, arith, lt-ltb}
use Rattle.std.specs.List.{AllByRecursion}
use Rattle.rtl.specs.declared.locations.Vreg.{Vreg}
use Rattle.rtl.specs.Programs.{Graph}
use Rattle.rtl.specs.Locations.{vreg_number}
use Rattle.rtl.specs.Graphs.{renamed_graph}
use Rattle.rtl.specs.WellFormed.{locations_in, IsOfLanguage, NamesItsVregs}
use Rattle.rtl.specs.Lengths.{stands_in, own_count, register_need}
use Rattle.rtl.proofs.RenamedGraphs.{locations_renamed}
use Rattle.ertl_gen.specs.Translation.{exchanged_number, exchanged}
use Rattle.ertl_gen.proofs.Exchanged.{which, first_twelve, next_twelve, others}

-- a number below 24 stays below 24, and the others stay
low_stays : (v : ℕ) → v < 24 → exchanged_number v < 24
low_stays v low = by_kind (which v)
  where
    by_kind : (v < 12) ⊎ (((12 ≤ v) × (v < 24)) ⊎ (24 ≤ v)) → exchanged_number v < 24
    by_kind (inl h) = rw (first_twelve v h) (omega arith)
    by_kind (inr (inl h)) = let a = h.0 in let b = h.1 in rw (next_twelve v h.0 h.1) (omega (arith, a, b))
    by_kind (inr (inr h)) = absurd (omega (arith, h, low))

own_or_not : (v : ℕ) → (v < 24) ⊎ (24 ≤ v)
own_or_not v = grind arith

differ : (m v : ℕ) → m < 24 → 24 ≤ v → nat_eq m v ≡ false
differ m v low high = grind arith

eq_same : (m v : ℕ) → 24 ≤ v → nat_eq (exchanged_number m) v ≡ nat_eq m v
eq_same m v high = by_kind (own_or_not m)
  where
    by_kind : (m < 24) ⊎ (24 ≤ m) → nat_eq (exchanged_number m) v ≡ nat_eq m v
    by_kind (inl low) = differ (exchanged_number m) v (low_stays m low) high ∙ sym (differ m v low high)
    by_kind (inr own) = ap (λ n. nat_eq n v) (others m own)

stands_same : (v : ℕ) (vs : List ℕ) → 24 ≤ v → stands_in v (map exchanged_number vs) ≡ stands_in v vs
stands_same v [] high = refl
stands_same v (m ∷ ms) high = ap₂ (λ x y. x || y) (eq_same m v high) (stands_same v ms high)

-- one, or none where the test holds
abbrev none_if : Bool → ℕ
none_if b = if b then 0 else 1

count_same : (vs : List ℕ) → own_count (map exchanged_number vs) ≡ own_count vs
count_same [] = refl
count_same (v ∷ vs) = ap₂ (λ m n. m + n) (by_kind (own_or_not v)) (count_same vs)
  where
    by_kind : (v < 24) ⊎ (24 ≤ v) → none_if (nat_lt (exchanged_number v) 24 || stands_in (exchanged_number v) (map exchanged_number vs)) ≡ none_if (nat_lt v 24 || stands_in v vs)
    by_kind (inl low) = rw (lt-ltb (exchanged_number v) 24 (low_stays v low)) (rw (lt-ltb v 24 low))
    by_kind (inr own) = rw (others v own) (rw (stands_same v vs own))

numbers_exchanged : (vs : List Vreg) → map vreg_number (map exchanged vs) ≡ map exchanged_number (map vreg_number vs)
numbers_exchanged [] = refl
numbers_exchanged (v ∷ vs) = ap (λ xs. exchanged_number v.0 ∷ xs) (numbers_exchanged vs)

pub need_same : (g : Graph Vreg) → register_need (renamed_graph exchanged g) ≡ register_need g
need_same g =
    ap (λ vs. own_count (map vreg_number vs)) (locations_renamed exchanged g)
    ∙ ap own_count (numbers_exchanged (locations_in g))
    ∙ count_same (map vreg_number (locations_in g))

-- ---- the language

of_ertl : (v : Vreg) → IsOfLanguage 12 v → IsOfLanguage 0 (exchanged v)
of_ertl v (inl h) =
    let a : 12 ≤ v.0 = h.0 in
    let b : v.0 < 24 = omega (arith, h.1) in
    inl (rw (next_twelve v.0 a b) (omega arith, omega arith))
of_ertl v (inr h) = inr (rw (others v.0 h) h)

all_of_ertl : (vs : List Vreg) → AllByRecursion (IsOfLanguage 12) vs → AllByRecursion (IsOfLanguage 0) (map exchanged vs)
all_of_ertl [] all = tt
all_of_ertl (v ∷ vs) all = (of_ertl v all.0, all_of_ertl vs all.1)

pub names_of_ertl : (gs : List (Graph Vreg)) → AllByRecursion (NamesItsVregs 12) gs → AllByRecursion (NamesItsVregs 0) (map (renamed_graph exchanged) gs)
names_of_ertl [] all = tt
names_of_ertl (g ∷ gs) all = (subst (AllByRecursion (IsOfLanguage 0)) (sym (locations_renamed exchanged g)) (all_of_ertl (locations_in g) all.0), names_of_ertl gs all.1)
