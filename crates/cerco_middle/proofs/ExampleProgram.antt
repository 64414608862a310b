-- A program by which both languages are tried, written in each of them by hand, and what the two have in common.
--
--     unsigned char limit=3;
--     unsigned char next(unsigned char a){return a+1;}
--     void main(void){unsigned char x;x=P1;while(x<limit)x=next(x);P1=x;}
use Rattle.std.proofs.Common.{◌≡◌, ℕ, zero, suc, ◌<◌, ◌≤◌, List, [], ◌∷◌, refl, ap, ◌∙◌, ne_eqb, if◌then◌else◌, arith}
use Rattle.std.specs.Prelude.{Contains}
use Rattle.cerco_base.specs.CallOrder.{Called}
use Rattle.cerco_base.specs.Events.{label}
use Rattle.cerco_base.specs.declared.events.Event.{Event}
use Rattle.cerco_base.specs.declared.events.Event.TheVariants.{Read, Write}
use Rattle.cerco_base.specs.declared.events.Port.TheVariants.{P1}
use Rattle.cerco_middle.specs.Programs.{times_in, AreNumbered, HoldsFunctions, KnowsCallers}
use Rattle.cerco_middle.proofs.Each.{◌&◌, AllOf, each_at}

-- `next` is function 0, `main` is function 1
abbrev pub example_calls : List Called
example_calls = record { function = 1; callers = [] } ∷ record { function = 0; callers = 1 ∷ [] } ∷ []

-- what it shows on a script with the byte 1
abbrev pub example_events : List Event
example_events = label 1 ∷ Read P1 1 ∷ label 2 ∷ label 0 ∷ label 3 ∷ label 2 ∷ label 0 ∷ label 3 ∷ label 4 ∷ Write P1 3 ∷ []

pub holds_functions : HoldsFunctions example_calls 2
holds_functions = record { all = all; no_others = no_others }
  where
    all : (f : ℕ) → f < 2 → Contains (1 ∷ 0 ∷ []) f
    all zero lt = (1, omega arith, refl)
    all (suc zero) lt = (0, omega arith, refl)
    all (suc (suc f)) lt = absurd (omega (arith, lt))

    no_others : (f : ℕ) → Contains (1 ∷ 0 ∷ []) f → f < 2
    no_others f (zero, lt, is) = omega (arith, is)
    no_others f (suc zero, lt, is) = omega (arith, is)
    no_others f (suc (suc k), lt, is) = absurd (omega (arith, lt))

pub knows_of_next : KnowsCallers example_calls 0 []
knows_of_next callee (k, lt, is) i entry at same = absurd (omega (arith, lt))

pub knows_of_main : KnowsCallers example_calls 1 (0 ∷ [])
knows_of_main callee (suc k, lt, is) i entry at same = absurd (omega (arith, lt))
knows_of_main callee (zero, lt, is) i entry at same =
    each_at (λ i entry. entry.function ≡ callee → Contains {X = ℕ} entry.callers 1) example_calls (first & second & tt) i entry at same
  where
    first : 1 ≡ callee → Contains {X = ℕ} [] 1
    first same = absurd (omega (arith, same, is))

    second : 0 ≡ callee → Contains {X = ℕ} (1 ∷ []) 1
    second same = (0, omega arith, refl)

-- a number above all of a list isn't in it
pub above_all : (l : ℕ) (xs : List ℕ) → AllOf (λ x. x < l) xs → times_in l xs ≡ 0
above_all l [] all = refl
above_all l (x ∷ xs) all = ap (λ is. if is then suc (times_in l xs) else times_in l xs) (ne_eqb x l (λ same. omega (arith, same, all.0))) ∙ above_all l xs all.1

pub example_numbered : AreNumbered (0 ∷ 1 ∷ 2 ∷ 3 ∷ 4 ∷ [])
example_numbered = record { number = 5; once = once; no_more = no_more }
  where
    once : (l : ℕ) → l < 5 → times_in l (0 ∷ 1 ∷ 2 ∷ 3 ∷ 4 ∷ []) ≡ 1
    once zero lt = refl
    once (suc zero) lt = refl
    once (suc (suc zero)) lt = refl
    once (suc (suc (suc zero))) lt = refl
    once (suc (suc (suc (suc zero)))) lt = refl
    once (suc (suc (suc (suc (suc l))))) lt = absurd (omega (arith, lt))

    no_more : (l : ℕ) → 5 ≤ l → times_in l (0 ∷ 1 ∷ 2 ∷ 3 ∷ 4 ∷ []) ≡ 0
    no_more l le = above_all l (0 ∷ 1 ∷ 2 ∷ 3 ∷ 4 ∷ []) (omega (arith, le) & omega (arith, le) & omega (arith, le) & omega (arith, le) & omega (arith, le) & tt)
