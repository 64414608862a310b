-- Places in frames: different places of one frame stay different, and a frame begins at its base.
use Rattle.std.proofs.Common.{◌≡◌, ℕ, ◌+◌, ◌-◌, ◌<◌, nat_lt, Bool, true, false, if◌then◌else◌, refl, ap, arith}
use Rattle.rtl.specs.declared.locations.Place.{Place}
use Rattle.rtl.specs.declared.locations.Place.TheVariants.{Reg, Arg, Cell}
use Rattle.rtl.specs.Locations.{place_number, argument_place}
use Rattle.rtl.specs.Code.Numbering.{one_place}
use Rattle.rtl.specs.Interference.{IsCell}
use Rattle.ltl_alloc.specs.Allocations.{any_place}
use Rattle.ltl_alloc.specs.Translation.{at_base}

same_cell : (m n : ℕ) → Cell m ≡ Cell n → m ≡ n
same_cell m n e = cc

pub at_base_once : (b : ℕ) (p q : Place) → at_base b p ≡ at_base b q → p ≡ q
at_base_once b (Reg m) (Reg n) e = e
at_base_once b (Reg m) (Arg n) e = absurd cc
at_base_once b (Reg m) (Cell n) e = absurd cc
at_base_once b (Arg m) (Reg n) e = absurd cc
at_base_once b (Arg m) (Arg n) e = e
at_base_once b (Arg m) (Cell n) e = absurd cc
at_base_once b (Cell m) (Reg n) e = absurd cc
at_base_once b (Cell m) (Arg n) e = absurd cc
at_base_once b (Cell m) (Cell n) e = let f : b + m ≡ b + n = same_cell (b + m) (b + n) e in let g : m ≡ n = omega (arith, f) in ap Cell g

-- no place of a frame is a cell below its base
pub none_below : (b k : ℕ) (p : Place) → at_base b p ≡ Cell k → k < b → ⊥
none_below b k (Reg n) e low = cc
none_below b k (Arg n) e low = cc
none_below b k (Cell n) e low = let f : b + n ≡ k = same_cell (b + n) k e in omega (arith, f, low)

pub cell_number : (p : Place) → IsCell p → (n : ℕ) × (p ≡ Cell n)
cell_number (Reg n) cell = absurd cell
cell_number (Arg n) cell = absurd cell
cell_number (Cell n) cell = (n, refl)

-- an argument place is the same in each frame
pub argument_stays : (b v : ℕ) → at_base b (argument_place v) ≡ argument_place v
argument_stays b v = by_test (nat_lt v 6)
  where
    by_test : (t : Bool) → at_base b (if t then Reg (v + 2) else Arg (v - 6)) ≡ (if t then Reg (v + 2) else Arg (v - 6))
    by_test true = refl
    by_test false = refl

-- the same of numbers
pub numbers_apart : (b : ℕ) (p q : Place) → (p ≡ q → ⊥) → place_number (at_base b p) ≡ place_number (at_base b q) → ⊥
numbers_apart b p q differ e = differ (at_base_once b p q (one_place (at_base b p) (at_base b q) e))

pub number_below : (b k : ℕ) (p : Place) → place_number (at_base b p) ≡ place_number (Cell k) → k < b → ⊥
number_below b k p e low = none_below b k p (one_place (at_base b p) (Cell k) e) low

-- nor is the place of a virtual register that the function doesn't have
pub any_stays : (b v : ℕ) → at_base b (any_place v) ≡ any_place v
any_stays b v = by_test (nat_lt v 12)
  where
    by_test : (t : Bool) → at_base b (if t then argument_place v else Reg 2) ≡ (if t then argument_place v else Reg 2)
    by_test true = argument_stays b v
    by_test false = refl
