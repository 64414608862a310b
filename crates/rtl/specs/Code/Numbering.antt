-- No two locations have one number, as the trait of locations asks.
use Rattle.std.proofs.Common.{◌≡◌, ℕ, ap, arith}
use Rattle.rtl.specs.declared.locations.Vreg.{Vreg}
use Rattle.rtl.specs.declared.locations.Place.{Place}
use Rattle.rtl.specs.declared.locations.Place.TheVariants.{Reg, Arg, Cell}
use Rattle.rtl.specs.Locations.{vreg_number, place_number}

pub one_vreg : (v w : Vreg) → vreg_number v ≡ vreg_number w → v ≡ w
one_vreg v w same = ap (λ (n : ℕ). record { 0 = n }) same

pub one_place : (p q : Place) → place_number p ≡ place_number q → p ≡ q
one_place (Reg m) (Reg n) same = let e : m ≡ n = omega arith in ap Reg e
one_place (Reg m) (Arg n) same = absurd (omega arith)
one_place (Reg m) (Cell n) same = absurd (omega arith)
one_place (Arg m) (Reg n) same = absurd (omega arith)
one_place (Arg m) (Arg n) same = let e : m ≡ n = omega arith in ap Arg e
one_place (Arg m) (Cell n) same = absurd (omega arith)
one_place (Cell m) (Reg n) same = absurd (omega arith)
one_place (Cell m) (Arg n) same = absurd (omega arith)
one_place (Cell m) (Cell n) same = let e : m ≡ n = omega arith in ap Cell e
