-- What the machine holds of the places, the carry and the world of linear code.
use Rattle.std.proofs.Common.{◌≡◌, ℕ, ◌+◌, ◌<◌, List, length, Bool, true, false, slice_index, slice_set, inl, inr, ◌⊎◌, refl, sym, ap, ◌∙◌, subst, arith, length-set, nat_eq, if◌then◌else◌}
use Rattle.std.proofs.lemmas.List.{get_or-set_same, get_or-set_other}
use Rattle.std.proofs.lemmas.Bool.Decides.{eqb_tells}
use Rattle.cerco_base.specs.Bytes.{bit_value}
use Rattle.cerco_traces.specs.Worlds.{World, update}
use Rattle.sim51.specs.State.{Core}
use Rattle.rtl.specs.declared.locations.Place.{Place}
use Rattle.rtl.specs.declared.locations.Place.TheVariants.{Reg, Arg, Cell}
use Rattle.rtl.specs.Locations.{place_number, place_address}
use Rattle.rtl.specs.Effects.{Storage, Loc, Carry, is_set}
use Rattle.rtl.specs.Meaning.{with_value}
use Rattle.rtl.specs.WellFormed.{IsPlace}
use Rattle.rtl.proofs.ValueLaws.{value_same, value_other}
use Rattle.asm51_select.specs.Translation.{direct_address}

-- ---- places

-- places are bytes of internal RAM below 80H
pub address_below : (p : Place) → IsPlace p → place_address p < 128
address_below (Reg n) is = omega arith
address_below (Arg n) is = omega arith
address_below (Cell n) is = omega arith

pub direct_is : (p : Place) → IsPlace p → direct_address p ≡ place_address p
direct_is p is = let lt = address_below p is in omega arith

-- no two places have one address, nor one number
pub apart_in_ram : (p q : Place) → IsPlace p → IsPlace q → place_address p ≡ place_address q → place_number p ≡ place_number q
apart_in_ram (Reg m) (Reg n) a b e = omega arith
apart_in_ram (Reg m) (Arg n) a b e = absurd (no e)
  where
    no : m ≡ 8 + n → ⊥
    no e = omega (arith, a, b)
apart_in_ram (Reg m) (Cell n) a b e = absurd (no e)
  where
    no : m ≡ 16 + n → ⊥
    no e = omega (arith, a, b)
apart_in_ram (Arg m) (Reg n) a b e = absurd (no e)
  where
    no : 8 + m ≡ n → ⊥
    no e = omega (arith, a, b)
apart_in_ram (Arg m) (Arg n) a b e = omega arith
apart_in_ram (Arg m) (Cell n) a b e = absurd (no e)
  where
    no : 8 + m ≡ 16 + n → ⊥
    no e = omega (arith, a, b)
apart_in_ram (Cell m) (Reg n) a b e = absurd (no e)
  where
    no : 16 + m ≡ n → ⊥
    no e = omega (arith, a, b)
apart_in_ram (Cell m) (Arg n) a b e = absurd (no e)
  where
    no : 16 + m ≡ 8 + n → ⊥
    no e = omega (arith, a, b)
apart_in_ram (Cell m) (Cell n) a b e = omega arith

-- and one number is one address
pub one_address : (p q : Place) → place_number p ≡ place_number q → place_address p ≡ place_address q
one_address (Reg m) (Reg n) e = omega arith
one_address (Reg m) (Arg n) e = absurd (omega arith)
one_address (Reg m) (Cell n) e = absurd (omega arith)
one_address (Arg m) (Reg n) e = absurd (omega arith)
one_address (Arg m) (Arg n) e = omega arith
one_address (Arg m) (Cell n) e = absurd (omega arith)
one_address (Cell m) (Reg n) e = absurd (omega arith)
one_address (Cell m) (Arg n) e = absurd (omega arith)
one_address (Cell m) (Cell n) e = omega arith

-- ---- values

-- Internal RAM holds the values of the places, and CY the carry; register bank 0 is selected.
pub record Holds (iram : List ℕ) (cy rs1 rs0 : Bool) (m : Storage → ℕ) : Type 0 where
  pub long : length iram ≡ 256
  pub upper : rs1 ≡ false
  pub lower : rs0 ≡ false
  pub places : (p : Place) → IsPlace p → slice_index iram (place_address p) ≡ m (Loc (place_number p))
  pub carry : cy ≡ is_set (m Carry)

abbrev pub HoldsIn : Core → (Storage → ℕ) → Type 0
HoldsIn c m = Holds c.iram c.cy c.rs1 c.rs0 m

pub with_place : (iram : List ℕ) (cy rs1 rs0 : Bool) (m : Storage → ℕ) (d : Place) (v : ℕ) → IsPlace d → Holds iram cy rs1 rs0 m → Holds (slice_set iram (place_address d) v) cy rs1 rs0 (with_value m (Loc (place_number d)) v)
with_place iram cy rs1 rs0 m d v is h = record {
  long = length-set iram (place_address d) v ∙ h.long;
  upper = h.upper;
  lower = h.lower;
  places = λ p ok. at p ok (eqb_tells (place_number p) (place_number d));
  carry = h.carry ∙ ap is_set (sym (value_other m (Loc (place_number d)) v Carry no_carry));
}
  where
    no_carry : Carry ≡ Loc (place_number d) → ⊥
    no_carry e = cc

    same_number : (m n : ℕ) → Loc m ≡ Loc n → m ≡ n
    same_number m n e = cc

    at : (p : Place) → IsPlace p → ((nat_eq (place_number p) (place_number d) ≡ true) × (place_number p ≡ place_number d)) ⊎ ((nat_eq (place_number p) (place_number d) ≡ false) × (place_number p ≡ place_number d → ⊥)) → slice_index (slice_set iram (place_address d) v) (place_address p) ≡ with_value m (Loc (place_number d)) v (Loc (place_number p))
    at p ok (inl a) =
        let below = address_below d is in
        ap (slice_index (slice_set iram (place_address d) v)) (one_address p d a.1)
        ∙ get_or-set_same iram (place_address d) v 0 (omega (arith, below, h.long))
        ∙ sym (ap (λ n. with_value m (Loc (place_number d)) v (Loc n)) a.1 ∙ value_same m (Loc (place_number d)) v)
    at p ok (inr a) =
        get_or-set_other iram (place_address d) (place_address p) v 0 (λ e. a.1 (apart_in_ram p d ok is e))
        ∙ h.places p ok
        ∙ sym (value_other m (Loc (place_number d)) v (Loc (place_number p)) (λ e. a.1 (same_number (place_number p) (place_number d) e)))

pub with_carry : (iram : List ℕ) (cy cy' rs1 rs0 : Bool) (m : Storage → ℕ) (v : ℕ) → cy' ≡ is_set v → Holds iram cy rs1 rs0 m → Holds iram cy' rs1 rs0 (with_value m Carry v)
with_carry iram cy cy' rs1 rs0 m v is h = record {
  long = h.long;
  upper = h.upper;
  lower = h.lower;
  places = λ p ok. h.places p ok ∙ sym (value_other m Carry v (Loc (place_number p)) (no_place (place_number p)));
  carry = is ∙ ap is_set (sym (value_same m Carry v));
}
  where
    no_place : (n : ℕ) → Loc n ≡ Carry → ⊥
    no_place n e = cc

pub bit_set : (b : Bool) → b ≡ is_set (bit_value b)
bit_set true = refl
bit_set false = refl

-- ---- external RAM and the script

-- External RAM and the script are those of the world.
pub record HoldsWorld (xram script : List ℕ) (w : World) : Type 0 where
  pub long : length xram ≡ 65536
  pub bytes : (a : ℕ) → a < 65536 → slice_index xram a ≡ w.xram a
  pub left : script ≡ w.script

abbrev pub HoldsWorldIn : Core → World → Type 0
HoldsWorldIn c w = HoldsWorld c.xram c.script w

-- a byte at an address: past the last one it is nowhere
pub with_byte : (xram script : List ℕ) (w : World) (a v : ℕ) → HoldsWorld xram script w → HoldsWorld (slice_set xram a v) script (record w { xram = update w.xram a v })
unfolding update
with_byte xram script w a v h = record {
  long = length-set xram a v ∙ h.long;
  bytes = λ b below. at b below (eqb_tells b a);
  left = h.left;
}
  where
    at : (b : ℕ) → b < 65536 → ((nat_eq b a ≡ true) × (b ≡ a)) ⊎ ((nat_eq b a ≡ false) × (b ≡ a → ⊥)) → slice_index (slice_set xram a v) b ≡ (if nat_eq b a then v else w.xram b)
    at b below (inl t) =
        ap (slice_index (slice_set xram a v)) t.1
        ∙ get_or-set_same xram a v 0 (subst (λ n. n < length xram) t.1 (omega (arith, below, h.long)))
        ∙ ap (λ (x : Bool). if x then v else w.xram b) (sym t.0)
    at b below (inr t) =
        get_or-set_other xram a b v 0 t.1
        ∙ h.bytes b below
        ∙ ap (λ (x : Bool). if x then v else w.xram b) (sym t.0)
