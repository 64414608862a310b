-- The instructions of a byte operation do on the machine what the operation means.
use Rattle.std.proofs.Common.{◌≡◌, ℕ, zero, suc, ◌+◌, ◌*◌, ◌/◌, ◌%◌, ◌-◌, ◌<◌, ◌≤◌, List, [], ◌∷◌, ◌++◌, length, map, drop, Bool, true, false, slice_index, slice_set, inl, inr, ◌⊎◌, refl, sym, ap, ◌∙◌, subst, arith, append-nil}
use Rattle.std.specs.Prelude.{nat_eq, if◌then◌else◌, not, ◌&&◌}
use Rattle.std.specs.List.{AllByRecursion}
use Rattle.std.proofs.lemmas.Bool.Decides.{eqb_tells}
use Rattle.cerco_base.specs.declared.events.Event.{Event}
use Rattle.cerco_base.specs.declared.events.Event.TheVariants.{Read, Write}
use Rattle.cerco_base.specs.declared.events.Port.TheVariants.{P1}
use Rattle.cerco_base.specs.Bytes.{bit_value, sum_byte, carries, difference_byte, borrows}
use Rattle.cerco_base.specs.Events.{next_reading}
use Rattle.cerco_traces.specs.Systems.{EachWithin}
use Rattle.cerco_traces.specs.Worlds.{World, update, next_address, addresses_from}
use Rattle.mcs51_isa.specs.declared.instr.Instr.{Instr}
use Rattle.mcs51_isa.specs.declared.instr.Instr.TheVariants as Instruction
use Rattle.mcs51_isa.specs.declared.instr.SumOp.TheVariants as Sum
use Rattle.mcs51_isa.specs.declared.instr.Logic.TheVariants.{Anl, Orl, Xrl}
use Rattle.mcs51_isa.specs.declared.instr.Move.TheVariants.{IntoAcc, FromAcc}
use Rattle.mcs51_isa.specs.declared.instr.MulDiv.TheVariants.{MulAb, DivAb}
use Rattle.mcs51_isa.specs.declared.instr.Rotate.TheVariants as Turn
use Rattle.sim51.specs.State.{Core}
use Rattle.sim51.specs.Locations.{bit_of, dptr, with_dptr}
use Rattle.sim51.specs.Effect.{goes_to, arithmetic, logical, rotated, multiplied}
use Rattle.rtl.specs.declared.locations.Place.{Place}
use Rattle.rtl.specs.declared.locations.Place.TheVariants.{Reg, Arg, Cell}
use Rattle.rtl.specs.declared.operations.Src.{Src}
use Rattle.rtl.specs.declared.operations.Src.TheVariants.{At, Byte}
use Rattle.rtl.specs.declared.operations.Arith.{Arith}
use Rattle.rtl.specs.declared.operations.Arith.TheVariants.{Add, Addc, Subb, And, Or, Xor}
use Rattle.rtl.specs.Operations.{ByteOp}
use Rattle.rtl.specs.Operations.{Const, Move, Op, Mul, Div, Rem, Rlc, Rrc, Top, ClearCarry, SetCarry, FlipCarry, FromCarry, Load, Store, ReadPort, WritePort}
use Rattle.rtl.specs.Locations.{place_number, place_address}
use Rattle.rtl.specs.Effects.{Storage, Loc, Carry, same_storage, Effect, effect, is_set, carry_into, arith_sets, quotient, remainder, turned_left, turned_right, top_bit, load_sets, with_bytes}
use Rattle.rtl.specs.Graphs.{renamed_op}
use Rattle.rtl.specs.Meaning.{with_value, shared_after, shares_all}
use Rattle.rtl.specs.WellFormed.{IsPlace, operand_locations, op_locations}
use Rattle.rtl.proofs.ValueLaws.{value_same, value_other, same_or_not}
use Rattle.asm51_select.specs.Translation.{take_code, give_code, give_b_code, arith_code, copy_code, is_reg, move_code, pointer_code, loads_code, stores_code, division_code, op_code}
use Rattle.asm51_select.proofs.Steps.{Leads, IsQuiet, led, quiet, onward, joined}
use Rattle.asm51_select.proofs.Held.{Holds, HoldsIn, HoldsWorld, HoldsWorldIn, with_place, with_carry, with_byte, bit_set}
use Rattle.asm51_select.proofs.Reaching.{IsOperand, value_of, stored_at, takes, gives, sets_special, gives_b, sums, logics, sets_constant, copies}

-- These instructions do what the effect says, from a core that holds these values and this world.
pub record Does (is : List Instr) (e : Effect) (c : Core) (m : Storage → ℕ) (w : World) : Type 0 where
  pub after : Core
  pub events : List Event
  pub leads : Leads is c after events e.touched
  pub holds : HoldsIn after (shared_after shares_all e.sets m)
  pub world : HoldsWorldIn after e.world
  pub made : w.made ++ events ≡ e.world.made

abbrev pub MeansIn : ByteOp Place → (Storage → ℕ) → World → Effect
MeansIn op m w = effect (renamed_op place_number op) m w

-- ---- operands

pub first_operand : (a : Src Place) (more : List Place) → AllByRecursion IsPlace (operand_locations a ++ more) → IsOperand a
first_operand (At p) more ok = ok.0
first_operand (Byte n) more ok = tt

pub other_operand : (a : Src Place) (more : List Place) → AllByRecursion IsPlace (operand_locations a ++ more) → AllByRecursion IsPlace more
other_operand (At p) more ok = ok.1
other_operand (Byte n) more ok = ok

pub only_operand : (a : Src Place) → AllByRecursion IsPlace (operand_locations a) → IsOperand a
only_operand (At p) ok = ok.0
only_operand (Byte n) ok = tt

-- ---- bits

one_bit : (t : ℕ) → t < 2 → nat_eq t 1 ≡ is_set t
one_bit zero lt = refl
one_bit (suc zero) lt = refl
one_bit (suc (suc t)) lt = absurd (omega arith)

top_carry : (x : ℕ) → bit_of x 7 ≡ is_set (top_bit x)
top_carry x = one_bit (x / 128 % 2) (omega arith)

low_carry : (x : ℕ) → bit_of x 0 ≡ is_set (x % 2)
low_carry x =
    let e : x / 1 % 2 ≡ x % 2 = omega arith in
    ap (λ t. nat_eq t 1) e ∙ one_bit (x % 2) (omega arith)

flipped : (k : Bool) → not k ≡ is_set (1 - bit_value k)
flipped true = refl
flipped false = refl

-- ---- quotients

divided : (c : Core) (y : ℕ) → multiplied DivAb (record c { b = y }) ≡ record c { acc = quotient c.acc y; b = remainder c.acc y; cy = false; ov = nat_eq y 0 }
divided c zero = refl
divided c (suc n) =
    let other : nat_eq (suc n) 0 ≡ false = grind arith in
    ap (λ (t : Bool). if t then (record c { b = suc n; cy = false; ov = true }) else (record c { acc = c.acc / suc n; b = c.acc % suc n; cy = false; ov = false })) other
    ∙ ap (λ (t : Bool). let d : Core = record c { acc = c.acc / suc n; b = c.acc % suc n; cy = false; ov = t } in d) (sym other)

module _ (c : Core) (m : Storage → ℕ) (w : World) (h : HoldsIn c m) (hw : HoldsWorldIn c w) where
  -- what holds after a place, or a place and the carry, have been written
  place_kept : (cy : Bool) (d : Place) (v : ℕ) → IsPlace d → c.cy ≡ cy → Holds (slice_set c.iram (place_address d) v) cy c.rs1 c.rs0 (with_value m (Loc (place_number d)) v)
  place_kept cy d v ok e = subst (λ k. Holds (slice_set c.iram (place_address d) v) k c.rs1 c.rs0 (with_value m (Loc (place_number d)) v)) e (with_place c.iram c.cy c.rs1 c.rs0 m d v ok h)

  both_kept : (cy : Bool) (d : Place) (v k : ℕ) → IsPlace d → cy ≡ is_set k → Holds (slice_set c.iram (place_address d) v) cy c.rs1 c.rs0 (with_value (with_value m (Loc (place_number d)) v) Carry k)
  both_kept cy d v k ok e = with_carry (slice_set c.iram (place_address d) v) c.cy cy c.rs1 c.rs0 (with_value m (Loc (place_number d)) v) k e (with_place c.iram c.cy c.rs1 c.rs0 m d v ok h)

  carry_kept : (cy : Bool) (k : ℕ) → cy ≡ is_set k → Holds c.iram cy c.rs1 c.rs0 (with_value m Carry k)
  carry_kept cy k e = with_carry c.iram c.cy cy c.rs1 c.rs0 m k e h

  nothing_made : w.made ++ [] ≡ w.made
  nothing_made = append-nil w.made

  abbrev taken : Src Place → Core
  taken a = record c { acc = value_of a m }

  -- ---- moves

  moved_to_itself : (n : ℕ) (s : Storage) → with_value m (Loc n) (m (Loc n)) s ≡ m s
  moved_to_itself n s = by (same_or_not s (Loc n))
    where
      by : (s ≡ Loc n) ⊎ ((s ≡ Loc n → ⊥) × (same_storage s (Loc n) ≡ false)) → with_value m (Loc n) (m (Loc n)) s ≡ m s
      by (inl e) = ap (with_value m (Loc n) (m (Loc n))) e ∙ value_same m (Loc n) (m (Loc n)) ∙ ap m (sym e)
      by (inr o) = value_other m (Loc n) (m (Loc n)) s o.0

  still_held : (n : ℕ) → HoldsIn c (with_value m (Loc n) (m (Loc n)))
  still_held n = record {
    long = h.long;
    upper = h.upper;
    lower = h.lower;
    places = λ p ok. h.places p ok ∙ sym (moved_to_itself n (Loc (place_number p)));
    carry = h.carry ∙ ap is_set (sym (moved_to_itself n Carry));
  }

  copy_does : (d s : Place) → IsPlace d → IsPlace s → Does (copy_code d s ∷ []) (MeansIn (Move d s) m w) c m w
  copy_does d s ok_d ok_s =
      let v = m (Loc (place_number s)) in
      let e = stored_at c d v in
      record { after = e; events = []; leads = quiet (copy_code d s) [] c e e [] [] (copies c m h d s ok_d ok_s) (led e); holds = place_kept c.cy d v ok_d refl; world = hw; made = nothing_made }

  apart_does : (d s : Place) → IsPlace d → IsPlace s → Does (if is_reg d && is_reg s then take_code (At s) ∷ give_code d ∷ [] else copy_code d s ∷ []) (MeansIn (Move d s) m w) c m w
  apart_does (Reg n) (Reg k) ok_d ok_s =
      let c1 = taken (At (Reg k)) in
      let c2 = stored_at c1 (Reg n) c1.acc in
      record {
        after = c2;
        events = [];
        leads = quiet (take_code (At (Reg k))) (give_code (Reg n) ∷ []) c c1 c2 [] [] (takes c m h (At (Reg k)) ok_s) (quiet (give_code (Reg n)) [] c1 c2 c2 [] [] (gives c1 m h (Reg n) ok_d) (led c2));
        holds = place_kept c.cy (Reg n) c1.acc ok_d refl;
        world = hw;
        made = nothing_made;
      }
  apart_does (Reg n) (Arg k) ok_d ok_s = copy_does (Reg n) (Arg k) ok_d ok_s
  apart_does (Reg n) (Cell k) ok_d ok_s = copy_does (Reg n) (Cell k) ok_d ok_s
  apart_does (Arg n) s ok_d ok_s = copy_does (Arg n) s ok_d ok_s
  apart_does (Cell n) s ok_d ok_s = copy_does (Cell n) s ok_d ok_s

  abbrev apart_code : Place → Place → List Instr
  apart_code d s = if is_reg d && is_reg s then take_code (At s) ∷ give_code d ∷ [] else copy_code d s ∷ []

  move_does : (d s : Place) → IsPlace d → IsPlace s → Does (move_code d s) (MeansIn (Move d s) m w) c m w
  move_does d s ok_d ok_s = by (eqb_tells (place_number d) (place_number s))
    where
      by : ((nat_eq (place_number d) (place_number s) ≡ true) × (place_number d ≡ place_number s)) ⊎ ((nat_eq (place_number d) (place_number s) ≡ false) × (place_number d ≡ place_number s → ⊥)) → Does (move_code d s) (MeansIn (Move d s) m w) c m w
      by (inl a) = subst (λ (t : Bool). Does (if t then [] else apart_code d s) (MeansIn (Move d s) m w) c m w) (sym a.0)
          (record { after = c; events = []; leads = led c; holds = subst (λ n. HoldsIn c (with_value m (Loc n) (m (Loc (place_number s))))) (sym a.1) (still_held (place_number s)); world = hw; made = nothing_made })
      by (inr a) = subst (λ (t : Bool). Does (if t then [] else apart_code d s) (MeansIn (Move d s) m w) c m w) (sym a.0) (apart_does d s ok_d ok_s)

  -- ---- sums and logical operations

  arith_core : Arith → Core → ℕ → Core
  arith_core Add d y = arithmetic Sum.Add d y
  arith_core Addc d y = arithmetic Sum.Addc d y
  arith_core Subb d y = arithmetic Sum.Subb d y
  arith_core And d y = record d { acc = logical Anl d.acc y }
  arith_core Or d y = record d { acc = logical Orl d.acc y }
  arith_core Xor d y = record d { acc = logical Xrl d.acc y }

  combines : (o : Arith) (d : Core) → HoldsIn d m → (b : Src Place) → IsOperand b → IsQuiet (arith_code o b) d (arith_core o d (value_of b m))
  unfolding arith_core
  combines Add d held b ok = sums d m held Sum.Add b ok
  combines Addc d held b ok = sums d m held Sum.Addc b ok
  combines Subb d held b ok = sums d m held Sum.Subb b ok
  combines And d held b ok = logics d m held Anl b ok
  combines Or d held b ok = logics d m held Orl b ok
  combines Xor d held b ok = logics d m held Xrl b ok

  -- what is held after the result has been stored
  combined : (o : Arith) (d : Place) (x y : ℕ) → IsPlace d → let e = arith_core o (record c { acc = x }) y in HoldsIn (stored_at e d e.acc) (shared_after shares_all (arith_sets o (place_number d) x y (carry_into o m)) m)
  unfolding arith_core
  combined Add d x y ok = both_kept (carries 256 x y false) d (sum_byte x y false) (bit_value (carries 256 x y false)) ok (bit_set (carries 256 x y false))
  combined Addc d x y ok =
      subst (λ k. Holds (slice_set c.iram (place_address d) (sum_byte x y c.cy)) (carries 256 x y c.cy) c.rs1 c.rs0 (shared_after shares_all (arith_sets Addc (place_number d) x y k) m)) h.carry
      (both_kept (carries 256 x y c.cy) d (sum_byte x y c.cy) (bit_value (carries 256 x y c.cy)) ok (bit_set (carries 256 x y c.cy)))
  combined Subb d x y ok =
      subst (λ k. Holds (slice_set c.iram (place_address d) (difference_byte x y c.cy)) (borrows 256 x y c.cy) c.rs1 c.rs0 (shared_after shares_all (arith_sets Subb (place_number d) x y k) m)) h.carry
      (both_kept (borrows 256 x y c.cy) d (difference_byte x y c.cy) (bit_value (borrows 256 x y c.cy)) ok (bit_set (borrows 256 x y c.cy)))
  combined And d x y ok = place_kept c.cy d (logical Anl x y) ok refl
  combined Or d x y ok = place_kept c.cy d (logical Orl x y) ok refl
  combined Xor d x y ok = place_kept c.cy d (logical Xrl x y) ok refl

  -- sums and logical operations change registers and flags alone
  arith_world : (o : Arith) (d : Core) (y : ℕ) (v : World) → HoldsWorldIn d v → HoldsWorldIn (arith_core o d y) v
  unfolding arith_core
  arith_world Add d y v world = world
  arith_world Addc d y v world = world
  arith_world Subb d y v world = world
  arith_world And d y v world = world
  arith_world Or d y v world = world
  arith_world Xor d y v world = world

  arith_banks : (o : Arith) (d : Core) (y : ℕ) → HoldsIn d m → (n : Storage → ℕ) × HoldsIn (arith_core o d y) n
  unfolding arith_core
  arith_banks Add d y held = let k = carries 256 d.acc y false in (with_value m Carry (bit_value k), with_carry d.iram d.cy k d.rs1 d.rs0 m (bit_value k) (bit_set k) held)
  arith_banks Addc d y held = let k = carries 256 d.acc y d.cy in (with_value m Carry (bit_value k), with_carry d.iram d.cy k d.rs1 d.rs0 m (bit_value k) (bit_set k) held)
  arith_banks Subb d y held = let k = borrows 256 d.acc y d.cy in (with_value m Carry (bit_value k), with_carry d.iram d.cy k d.rs1 d.rs0 m (bit_value k) (bit_set k) held)
  arith_banks And d y held = (m, held)
  arith_banks Or d y held = (m, held)
  arith_banks Xor d y held = (m, held)

  arith_does : (o : Arith) (d : Place) (a b : Src Place) → AllByRecursion IsPlace (op_locations (Op o d a b)) → Does (op_code (Op o d a b)) (MeansIn (Op o d a b) m w) c m w
  arith_does o d a b ok =
      let x = value_of a m in
      let y = value_of b m in
      let ok_a = first_operand a (operand_locations b) ok.1 in
      let ok_b = only_operand b (other_operand a (operand_locations b) ok.1) in
      let c1 = taken a in
      let c2 = arith_core o c1 y in
      let c3 = stored_at c2 d c2.acc in
      let banks = arith_banks o c1 y h in
      record {
        after = c3;
        events = [];
        leads = quiet (take_code a) (arith_code o b ∷ give_code d ∷ []) c c1 c3 [] [] (takes c m h a ok_a)
            (quiet (arith_code o b) (give_code d ∷ []) c1 c2 c3 [] [] (combines o c1 h b ok_b)
            (quiet (give_code d) [] c2 c3 c3 [] [] (gives c2 banks.0 banks.1 d ok.0) (led c3)));
        holds = combined o d x y ok.0;
        world = arith_world o c1 y w hw;
        made = nothing_made;
      }

  -- ---- products and quotients

  mul_does : (l k : Place) (a b : Src Place) → AllByRecursion IsPlace (op_locations (Mul l k a b)) → Does (op_code (Mul l k a b)) (MeansIn (Mul l k a b) m w) c m w
  mul_does l k a b ok =
      let x = value_of a m in
      let y = value_of b m in
      let ok_a = first_operand a (operand_locations b) ok.1.1 in
      let ok_b = only_operand b (other_operand a (operand_locations b) ok.1.1) in
      let c1 : Core = record c { b = y } in
      let c2 : Core = record c1 { acc = x } in
      let c3 = multiplied MulAb c2 in
      let c4 = stored_at c3 l c3.acc in
      let c5 = stored_at c4 k c4.b in
      let cleared = carry_kept false 0 refl in
      let low = with_place c.iram false c.rs1 c.rs0 (with_value m Carry 0) l (x * y % 256) ok.0 cleared in
      let before = with_place c.iram c.cy c.rs1 c.rs0 m l (x * y % 256) ok.0 h in
      let iram4 = slice_set c.iram (place_address l) (x * y % 256) in
      let m4 = with_value m (Loc (place_number l)) (x * y % 256) in
      let high = with_place iram4 c.cy c.rs1 c.rs0 m4 k (x * y / 256) ok.1.0 before in
      record {
        after = c5;
        events = [];
        leads = quiet _ _ c c1 c5 [] [] (sets_special c m h 0xF0 tt b ok_b)
            (quiet _ _ c1 c2 c5 [] [] (takes c1 m h a ok_a)
            (quiet _ _ c2 c3 c5 [] [] (record { effect_is = refl; touches = refl })
            (quiet _ _ c3 c4 c5 [] [] (gives c3 (with_value m Carry 0) cleared l ok.0)
            (quiet _ _ c4 c5 c5 [] [] (gives_b c4 (with_value (with_value m Carry 0) (Loc (place_number l)) (x * y % 256)) low k ok.1.0) (led c5)))));
        holds = with_carry (slice_set iram4 (place_address k) (x * y / 256)) c.cy false c.rs1 c.rs0 (with_value m4 (Loc (place_number k)) (x * y / 256)) 0 refl high;
        world = hw;
        made = nothing_made;
      }

  -- after a division A holds the quotient and B the remainder
  abbrev quotients : ℕ → ℕ → Core
  quotients x y = record c { acc = quotient x y; b = remainder x y; cy = false; ov = nat_eq y 0 }

  division_leads : (a b : Place) (last : Instr) (d : Core) → IsPlace a → IsPlace b → IsQuiet last (quotients (m (Loc (place_number a))) (m (Loc (place_number b)))) d → Leads (division_code a b last) c d [] []
  division_leads a b last d ok_a ok_b ends =
      let x = m (Loc (place_number a)) in
      let y = m (Loc (place_number b)) in
      let c1 : Core = record c { b = y } in
      let c2 : Core = record c1 { acc = x } in
      let c3 = quotients x y in
      quiet _ _ c c1 d [] [] (sets_special c m h 0xF0 tt (At b) ok_b)
      (quiet _ _ c1 c2 d [] [] (takes c1 m h (At a) ok_a)
      (quiet _ _ c2 c3 d [] [] (record { effect_is = ap (goes_to 0) (divided (record c { acc = x }) y); touches = refl })
      (quiet last [] c3 d d [] [] ends (led d))))

  div_does : (d a b : Place) → IsPlace d → IsPlace a → IsPlace b → Does (op_code (Div d a b)) (MeansIn (Div d a b) m w) c m w
  div_does d a b ok_d ok_a ok_b =
      let x = m (Loc (place_number a)) in
      let y = m (Loc (place_number b)) in
      let c3 = quotients x y in
      let c4 = stored_at c3 d c3.acc in
      record {
        after = c4;
        events = [];
        leads = division_leads a b (give_code d) c4 ok_a ok_b (gives c3 (with_value m Carry 0) (carry_kept false 0 refl) d ok_d);
        holds = both_kept false d (quotient x y) 0 ok_d refl;
        world = hw;
        made = nothing_made;
      }

  rem_does : (d a b : Place) → IsPlace d → IsPlace a → IsPlace b → Does (op_code (Rem d a b)) (MeansIn (Rem d a b) m w) c m w
  rem_does d a b ok_d ok_a ok_b =
      let x = m (Loc (place_number a)) in
      let y = m (Loc (place_number b)) in
      let c3 = quotients x y in
      let c4 = stored_at c3 d c3.b in
      record {
        after = c4;
        events = [];
        leads = division_leads a b (give_b_code d) c4 ok_a ok_b (gives_b c3 (with_value m Carry 0) (carry_kept false 0 refl) d ok_d);
        holds = both_kept false d (remainder x y) 0 ok_d refl;
        world = hw;
        made = nothing_made;
      }

  -- ---- rotations and the carry

  rlc_does : (d a : Place) → IsPlace d → IsPlace a → Does (op_code (Rlc d a)) (MeansIn (Rlc d a) m w) c m w
  rlc_does d a ok_d ok_a =
      let x = m (Loc (place_number a)) in
      let c1 = taken (At a) in
      let c2 = rotated Turn.Rlc c1 in
      let c3 = stored_at c2 d c2.acc in
      record {
        after = c3;
        events = [];
        leads = quiet _ _ c c1 c3 [] [] (takes c m h (At a) ok_a)
            (quiet _ _ c1 c2 c3 [] [] (record { effect_is = refl; touches = refl })
            (quiet _ _ c2 c3 c3 [] [] (gives c2 (with_value m Carry (top_bit x)) (carry_kept (bit_of x 7) (top_bit x) (top_carry x)) d ok_d) (led c3)));
        holds = subst (λ k. Holds (slice_set c.iram (place_address d) (turned_left x c.cy)) (bit_of x 7) c.rs1 c.rs0 (with_value (with_value m (Loc (place_number d)) (turned_left x k)) Carry (top_bit x))) h.carry
            (both_kept (bit_of x 7) d (turned_left x c.cy) (top_bit x) ok_d (top_carry x));
        world = hw;
        made = nothing_made;
      }

  rrc_does : (d a : Place) → IsPlace d → IsPlace a → Does (op_code (Rrc d a)) (MeansIn (Rrc d a) m w) c m w
  rrc_does d a ok_d ok_a =
      let x = m (Loc (place_number a)) in
      let c1 = taken (At a) in
      let c2 = rotated Turn.Rrc c1 in
      let c3 = stored_at c2 d c2.acc in
      record {
        after = c3;
        events = [];
        leads = quiet _ _ c c1 c3 [] [] (takes c m h (At a) ok_a)
            (quiet _ _ c1 c2 c3 [] [] (record { effect_is = refl; touches = refl })
            (quiet _ _ c2 c3 c3 [] [] (gives c2 (with_value m Carry (x % 2)) (carry_kept (bit_of x 0) (x % 2) (low_carry x)) d ok_d) (led c3)));
        holds = subst (λ k. Holds (slice_set c.iram (place_address d) (turned_right x c.cy)) (bit_of x 0) c.rs1 c.rs0 (with_value (with_value m (Loc (place_number d)) (turned_right x k)) Carry (x % 2))) h.carry
            (both_kept (bit_of x 0) d (turned_right x c.cy) (x % 2) ok_d (low_carry x));
        world = hw;
        made = nothing_made;
      }

  top_does : (a : Place) → IsPlace a → Does (op_code (Top a)) (MeansIn (Top a) m w) c m w
  top_does a ok_a =
      let x = m (Loc (place_number a)) in
      let c1 = taken (At a) in
      let c2 = rotated Turn.Rlc c1 in
      record {
        after = c2;
        events = [];
        leads = quiet _ _ c c1 c2 [] [] (takes c m h (At a) ok_a) (quiet _ _ c1 c2 c2 [] [] (record { effect_is = refl; touches = refl }) (led c2));
        holds = carry_kept (bit_of x 7) (top_bit x) (top_carry x);
        world = hw;
        made = nothing_made;
      }

  from_carry_does : (d : Place) → IsPlace d → Does (op_code (FromCarry d)) (MeansIn (FromCarry d) m w) c m w
  from_carry_does d ok =
      let c1 : Core = record c { acc = 0 } in
      let c2 : Core = record c { acc = 0 + bit_value c.cy; cy = false } in
      let c3 = stored_at c2 d c2.acc in
      let v : 0 + bit_value c.cy ≡ bit_value (is_set (m Carry)) = let e = ap bit_value h.carry in omega arith in
      record {
        after = c3;
        events = [];
        leads = quiet _ _ c c1 c3 [] [] (record { effect_is = refl; touches = refl })
            (quiet _ _ c1 c2 c3 [] [] (record { effect_is = refl; touches = refl })
            (quiet _ _ c2 c3 c3 [] [] (gives c2 (with_value m Carry 0) (carry_kept false 0 refl) d ok) (led c3)));
        holds = subst (λ k. Holds (slice_set c.iram (place_address d) (0 + bit_value c.cy)) false c.rs1 c.rs0 (with_value (with_value m (Loc (place_number d)) k) Carry 0)) v
            (both_kept false d (0 + bit_value c.cy) 0 ok refl);
        world = hw;
        made = nothing_made;
      }

  clear_does : Does (op_code ClearCarry) (MeansIn ClearCarry m w) c m w
  clear_does = record { after = record c { cy = false }; events = []; leads = quiet _ [] c _ _ [] [] (record { effect_is = refl; touches = refl }) (led _); holds = carry_kept false 0 refl; world = hw; made = nothing_made }

  set_does : Does (op_code SetCarry) (MeansIn SetCarry m w) c m w
  set_does = record { after = record c { cy = true }; events = []; leads = quiet _ [] c _ _ [] [] (record { effect_is = refl; touches = refl }) (led _); holds = carry_kept true 1 refl; world = hw; made = nothing_made }

  flip_does : Does (op_code FlipCarry) (MeansIn FlipCarry m w) c m w
  flip_does = record {
    after = record c { cy = not c.cy };
    events = [];
    leads = quiet _ [] c _ _ [] [] (record { effect_is = refl; touches = refl }) (led _);
    holds = carry_kept (not c.cy) (1 - bit_value (is_set (m Carry))) (ap not h.carry ∙ flipped (is_set (m Carry)));
    world = hw;
    made = nothing_made;
  }

  -- ---- the port

  read_does : (d : Place) → IsPlace d → Does (op_code (ReadPort d)) (MeansIn (ReadPort d) m w) c m w
  read_does d ok =
      let n = next_reading c.script in
      let c1 : Core = record c { script = drop 1 c.script; acc = n } in
      let c2 = stored_at c1 d n in
      record {
        after = c2;
        events = Read P1 n ∷ [];
        leads = onward (Instruction.MovDirect IntoAcc 0x90) (give_code d ∷ []) c c2 [] [] (quiet (give_code d) [] c1 c2 c2 [] [] (gives c1 m h d ok) (led c2));
        holds = subst (λ v. Holds (slice_set c.iram (place_address d) n) c.cy c.rs1 c.rs0 (with_value m (Loc (place_number d)) v)) (ap next_reading hw.left) (place_kept c.cy d n ok refl);
        world = record { long = hw.long; bytes = hw.bytes; left = ap (drop 1) hw.left };
        made = ap (λ s. w.made ++ Read P1 (next_reading s) ∷ []) hw.left;
      }

  write_does : (s : Place) → IsPlace s → Does (op_code (WritePort s)) (MeansIn (WritePort s) m w) c m w
  write_does s ok =
      let v = m (Loc (place_number s)) in
      let c1 = taken (At s) in
      let c2 : Core = record c1 { ports = slice_set c.ports 1 v } in
      record {
        after = c2;
        events = Write P1 v ∷ [];
        leads = quiet (take_code (At s)) (Instruction.MovDirect FromAcc 0x90 ∷ []) c c1 c2 (Write P1 v ∷ []) [] (takes c m h (At s) ok) (onward (Instruction.MovDirect FromAcc 0x90) [] c1 c2 [] [] (led c2));
        holds = h;
        world = record { long = hw.long; bytes = hw.bytes; left = hw.left };
        made = refl;
      }

-- ---- external RAM

word_parts : (n : ℕ) → 256 * (n / 256) + n % 256 ≡ n
word_parts n = omega arith

-- DPTR has the address, or the one before it
abbrev IsAt : Bool → Core → ℕ → Type 0
IsAt false c a = dptr c ≡ a
IsAt true c a = next_address (dptr c) ≡ a

raised_core : Core → Core
raised_core c = with_dptr c ((dptr c + 1) % 65536)

module _ (bound : ℕ) (small : bound < 65536) where
  below : (a : ℕ) → a ≤ bound → a < 65536
  below a le = omega arith

  record Loads (raised : Bool) (ds : List Place) (c : Core) (m : Storage → ℕ) (w : World) (a : ℕ) : Type 0 where
    after : Core
    leads : Leads (loads_code raised ds) c after [] (addresses_from (length (map place_number ds)) a)
    holds : HoldsIn after (shared_after shares_all (load_sets (map place_number ds) w.xram a) m)
    world : HoldsWorldIn after w

  one_load : (d : Place) (ds : List Place) (c : Core) (m : Storage → ℕ) (w : World) (a : ℕ) → IsPlace d → HoldsIn c m → HoldsWorldIn c w → dptr c ≡ a → a ≤ bound
      → ((c' : Core) (m' : Storage → ℕ) → HoldsIn c' m' → HoldsWorldIn c' w → IsAt true c' (next_address a) → Loads true ds c' m' w (next_address a))
      → Loads false (d ∷ ds) c m w a
  one_load d ds c m w a ok h hw at le more =
      let v = slice_index c.xram (dptr c) in
      let c1 : Core = record c { acc = v } in
      let c2 = stored_at c1 d v in
      let m' = with_value m (Loc (place_number d)) (w.xram a) in
      let is : v ≡ w.xram a = ap (slice_index c.xram) at ∙ hw.bytes a (below a le) in
      let held : HoldsIn c2 m' = subst (λ x. Holds (slice_set c.iram (place_address d) v) c.cy c.rs1 c.rs0 (with_value m (Loc (place_number d)) x)) is (with_place c.iram c.cy c.rs1 c.rs0 m d v ok h) in
      let rest = more c2 m' held hw (ap next_address at) in
      let all = addresses_from (length (map place_number ds)) (next_address a) in
      record {
        after = rest.after;
        leads = subst (λ x. Leads (loads_code false (d ∷ ds)) c rest.after [] (x ∷ all)) at
            (onward (Instruction.MovxDptr IntoAcc) (give_code d ∷ loads_code true ds) c rest.after [] all
            (quiet (give_code d) (loads_code true ds) c1 c2 rest.after [] all (gives c1 m h d ok) rest.leads));
        holds = rest.holds;
        world = rest.world;
      }

  loads : (raised : Bool) (ds : List Place) (c : Core) (m : Storage → ℕ) (w : World) (a : ℕ) → AllByRecursion IsPlace ds → HoldsIn c m → HoldsWorldIn c w → IsAt raised c a → EachWithin bound (addresses_from (length (map place_number ds)) a) → Loads raised ds c m w a
  unfolding raised_core
  loads raised [] c m w a ok h hw at within = record { after = c; leads = led c; holds = h; world = hw }
  loads false (d ∷ ds) c m w a ok h hw at within =
      one_load d ds c m w a ok.0 h hw at within.1 (λ c' m' h' hw' at'. loads true ds c' m' w (next_address a) ok.1 h' hw' at' within.2)
  loads true (d ∷ ds) c m w a ok h hw at within =
      let c0 = raised_core c in
      let first = one_load d ds c0 m w a ok.0 h hw (word_parts ((dptr c + 1) % 65536) ∙ at) within.1 (λ c' m' h' hw' at'. loads true ds c' m' w (next_address a) ok.1 h' hw' at' within.2) in
      record {
        after = first.after;
        leads = quiet Instruction.IncDptr (loads_code false (d ∷ ds)) c c0 first.after [] (addresses_from (length (map place_number (d ∷ ds))) a) (record { effect_is = refl; touches = refl }) first.leads;
        holds = first.holds;
        world = first.world;
      }

  record Stores (raised : Bool) (ss : List Place) (c : Core) (m : Storage → ℕ) (w : World) (a : ℕ) : Type 0 where
    after : Core
    leads : Leads (stores_code raised ss) c after [] (addresses_from (length (map place_number ss)) a)
    holds : HoldsIn after m
    world : HoldsWorldIn after (record w { xram = with_bytes (map (λ s. m (Loc s)) (map place_number ss)) w.xram a })

  one_store : (s : Place) (ss : List Place) (c : Core) (m : Storage → ℕ) (w : World) (a : ℕ) → IsPlace s → HoldsIn c m → HoldsWorldIn c w → dptr c ≡ a
      → ((c' : Core) (w' : World) → HoldsIn c' m → HoldsWorldIn c' w' → IsAt true c' (next_address a) → Stores true ss c' m w' (next_address a))
      → Stores false (s ∷ ss) c m w a
  one_store s ss c m w a ok h hw at more =
      let v = m (Loc (place_number s)) in
      let c1 : Core = record c { acc = v } in
      let c2 : Core = record c1 { xram = slice_set c.xram (dptr c) v } in
      let w' : World = record w { xram = update w.xram a v } in
      let held : HoldsWorldIn c2 w' = subst (λ x. HoldsWorld (slice_set c.xram x v) c.script w') (sym at) (with_byte c.xram c.script w a v hw) in
      let rest = more c2 w' h held (ap next_address at) in
      let all = addresses_from (length (map place_number ss)) (next_address a) in
      record {
        after = rest.after;
        leads = subst (λ x. Leads (stores_code false (s ∷ ss)) c rest.after [] (x ∷ all)) at
            (quiet (take_code (At s)) (Instruction.MovxDptr FromAcc ∷ stores_code true ss) c c1 rest.after [] (dptr c ∷ all) (takes c m h (At s) ok)
            (onward (Instruction.MovxDptr FromAcc) (stores_code true ss) c1 rest.after [] all rest.leads));
        holds = rest.holds;
        world = rest.world;
      }

  stores : (raised : Bool) (ss : List Place) (c : Core) (m : Storage → ℕ) (w : World) (a : ℕ) → AllByRecursion IsPlace ss → HoldsIn c m → HoldsWorldIn c w → IsAt raised c a → Stores raised ss c m w a
  unfolding raised_core
  stores raised [] c m w a ok h hw at = record { after = c; leads = led c; holds = h; world = hw }
  stores false (s ∷ ss) c m w a ok h hw at =
      one_store s ss c m w a ok.0 h hw at (λ c' w' h' hw' at'. stores true ss c' m w' (next_address a) ok.1 h' hw' at')
  stores true (s ∷ ss) c m w a ok h hw at =
      let c0 = raised_core c in
      let first = one_store s ss c0 m w a ok.0 h hw (word_parts ((dptr c + 1) % 65536) ∙ at) (λ c' w' h' hw' at'. stores true ss c' m w' (next_address a) ok.1 h' hw' at') in
      record {
        after = first.after;
        leads = quiet Instruction.IncDptr (stores_code false (s ∷ ss)) c c0 first.after [] (addresses_from (length (map place_number (s ∷ ss))) a) (record { effect_is = refl; touches = refl }) first.leads;
        holds = first.holds;
        world = first.world;
      }

  module _ (c : Core) (m : Storage → ℕ) (w : World) (h : HoldsIn c m) (hw : HoldsWorldIn c w) where
    abbrev pointed : Place → Place → Core
    pointed l k = record c { dpl = m (Loc (place_number l)); dph = m (Loc (place_number k)) }

    pointer_leads : (l k : Place) → IsPlace l → IsPlace k → Leads (pointer_code l k) c (pointed l k) [] []
    pointer_leads l k ok_l ok_k =
        let c1 : Core = record c { dpl = m (Loc (place_number l)) } in
        let c2 = pointed l k in
        quiet _ _ c c1 c2 [] [] (sets_special c m h 0x82 tt (At l) ok_l) (quiet _ [] c1 c2 c2 [] [] (sets_special c1 m h 0x83 tt (At k) ok_k) (led c2))

    pointer_is : (l k : Place) → dptr (pointed l k) ≡ m (Loc (place_number l)) + 256 * m (Loc (place_number k))
    pointer_is l k = omega arith

    load_does : (ds : List Place) (l k : Place) → IsPlace l → IsPlace k → AllByRecursion IsPlace ds → EachWithin bound (MeansIn (Load ds l k) m w).touched → Does (op_code (Load ds l k)) (MeansIn (Load ds l k) m w) c m w
    load_does ds l k ok_l ok_k ok within =
        let a = m (Loc (place_number l)) + 256 * m (Loc (place_number k)) in
        let r = loads false ds (pointed l k) m w a ok h hw (pointer_is l k) within in
        record {
          after = r.after;
          events = [];
          leads = joined (pointer_code l k) (loads_code false ds) c (pointed l k) r.after [] [] [] (addresses_from (length (map place_number ds)) a) (pointer_leads l k ok_l ok_k) r.leads;
          holds = r.holds;
          world = r.world;
          made = append-nil w.made;
        }

    store_does : (l k : Place) (ss : List Place) → IsPlace l → IsPlace k → AllByRecursion IsPlace ss → Does (op_code (Store l k ss)) (MeansIn (Store l k ss) m w) c m w
    store_does l k ss ok_l ok_k ok =
        let a = m (Loc (place_number l)) + 256 * m (Loc (place_number k)) in
        let r = stores false ss (pointed l k) m w a ok h hw (pointer_is l k) in
        record {
          after = r.after;
          events = [];
          leads = joined (pointer_code l k) (stores_code false ss) c (pointed l k) r.after [] [] [] (addresses_from (length (map place_number ss)) a) (pointer_leads l k ok_l ok_k) r.leads;
          holds = r.holds;
          world = r.world;
          made = append-nil w.made;
        }

    -- ---- all operations

    pub op_does : (op : ByteOp Place) → AllByRecursion IsPlace (op_locations op) → EachWithin bound (MeansIn op m w).touched → Does (op_code op) (MeansIn op m w) c m w
    op_does (Const d n) ok within =
        let e = stored_at c d n in
        record { after = e; events = []; leads = quiet _ [] c e e [] [] (sets_constant c m h d n ok.0) (led e); holds = place_kept c m w h hw c.cy d n ok.0 refl; world = hw; made = append-nil w.made }
    op_does (Move d s) ok within = move_does c m w h hw d s ok.0 ok.1.0
    op_does (Op o d a b) ok within = arith_does c m w h hw o d a b ok
    op_does (Mul l k a b) ok within = mul_does c m w h hw l k a b ok
    op_does (Div d a b) ok within = div_does c m w h hw d a b ok.0 ok.1.0 ok.1.1.0
    op_does (Rem d a b) ok within = rem_does c m w h hw d a b ok.0 ok.1.0 ok.1.1.0
    op_does (Rlc d a) ok within = rlc_does c m w h hw d a ok.0 ok.1.0
    op_does (Rrc d a) ok within = rrc_does c m w h hw d a ok.0 ok.1.0
    op_does (Top a) ok within = top_does c m w h hw a ok.0
    op_does ClearCarry ok within = clear_does c m w h hw
    op_does SetCarry ok within = set_does c m w h hw
    op_does FlipCarry ok within = flip_does c m w h hw
    op_does (FromCarry d) ok within = from_carry_does c m w h hw d ok.0
    op_does (Load ds l k) ok within = load_does ds l k ok.0 ok.1.0 ok.1.1 within
    op_does (Store l k ss) ok within = store_does l k ss ok.0 ok.1.0 ok.1.1
    op_does (ReadPort d) ok within = read_does c m w h hw d ok.0
    op_does (WritePort s) ok within = write_does c m w h hw s ok.0
