-- The values of shifts: bit by bit they are shifts by all bits.
use Rattle.std.proofs.Common.{◌≡◌, ℕ, zero, suc, ◌+◌, ◌*◌, ◌-◌, ◌/◌, ◌%◌, ◌<◌, ◌^◌, List, [], ◌∷◌, length, Bool, true, false, nat_le, if◌then◌else◌, refl, sym, ap, ap₂, ◌∙◌, arith}
use Rattle.cerco_base.specs.Bytes.{bit_value, bytes_value, count_of_values, carry_value}
use Rattle.cerco_base.proofs.ByteLaws.{carry_value_suc}
use Rattle.cerco_middle.specs.Operators.{half_of_values, is_negative, shifted_left, shifted_right}
use Rattle.cerco_middle.proofs.OperatorLaws.{left_more, left_none, right_more, right_none, signed_right_more}
use Rattle.rtl.specs.Operations.{ByteOp, Rrc, Top, ClearCarry}
use Rattle.rtl.specs.Effects.{Storage, Loc, is_set}
use Rattle.rtl.specs.Effects.{turned_right as byte_turned}
use Rattle.byte_sequences.specs.Sequences.{ats, top, sum, repeated, shift_left, turned_right, half, shift_right}
use Rattle.byte_sequences.proofs.Machine.{Cpu, done, all_done, all_done_append, byte, carry, read, value, Off, read_off, read_same, carry_same, at_past, sets_both}
use Rattle.byte_sequences.proofs.Chains.{Clear, HoldBytes}
use Rattle.byte_sequences.proofs.Sums.{Gives, sum_gives}
use Rattle.byte_sequences.proofs.MoveLaws.{AllApart, top_is_negative}
use Rattle.byte_sequences.proofs.SoundBytes.{HasBytes, AreByteOps, all_done_has_bytes, sum_byte_ops, byte_ops_append}

-- ---- one bit to the right

-- the value and the carry above it are halved, and the carry is what is left
record TurnedRight (ts : List ℕ) (c : Cpu) : Type 0 where
  is : value ts (all_done (turned_right ts) c) ≡ (value ts c + carry_value (length ts) (carry c)) / 2
  carry_is : bit_value (carry (all_done (turned_right ts) c)) ≡ (value ts c + carry_value (length ts) (carry c)) % 2
  same : (r : ℕ) → Off r ts → byte (all_done (turned_right ts) c) r ≡ byte c r
  world : (all_done (turned_right ts) c).world ≡ c.world

bit_of : (m : ℕ) → m < 2 → bit_value (is_set m) ≡ m
bit_of zero less = refl
bit_of (suc m) less = omega (arith, less)

turned_right_is : (ts : List ℕ) (c : Cpu) → AllApart ts → TurnedRight ts c
turned_right_is [] c apart = record { is = none (carry c); carry_is = left (carry c); same = λ r off. refl; world = refl }
  where
    none : (k : Bool) → 0 ≡ (0 + carry_value 0 k) / 2
    none true = omega arith
    none false = omega arith

    left : (k : Bool) → bit_value k ≡ (0 + carry_value 0 k) % 2
    left true = omega arith
    left false = omega arith
turned_right_is (t ∷ ts) c apart =
    let c1 : Cpu = all_done (turned_right ts) c in
    let rest = turned_right_is ts c apart.1 in
    let b = byte c t in
    let b_is : byte c1 t ≡ b = rest.same t apart.0 in
    let both = sets_both c1.see t (byte_turned (byte c1 t) (carry c1)) (byte c1 t % 2) in
    let c2 : Cpu = done (Rrc t t) c1 in
    let joined' : all_done (turned_right (t ∷ ts)) c ≡ c2 = all_done_append (turned_right ts) (Rrc t t ∷ []) c in
    let k = carry_value (length ts) (carry c) in
    let low : byte c2 t ≡ b / 2 + 128 * bit_value (carry c1) = both.at ∙ ap (λ x. byte_turned x (carry c1)) b_is in
    let others : value ts c2 ≡ (value ts c + k) / 2 = ap bytes_value (read_off ts t c1.see c2.see both.same apart.0) ∙ rest.is in
    let parity = rest.carry_is in
    let up : carry_value (suc (length ts)) (carry c) ≡ 256 * k = carry_value_suc (length ts) (carry c) in
    let small : byte c1 t % 2 < 2 = omega arith in
    let whole : value (t ∷ ts) c2 ≡ (value (t ∷ ts) c + carry_value (suc (length ts)) (carry c)) / 2 = omega (arith, low, others, parity, up) in
    let out : bit_value (carry c2) ≡ byte c1 t % 2 = ap (λ x. bit_value (is_set x)) both.carry_is ∙ bit_of (byte c1 t % 2) small in
    let left : bit_value (carry c2) ≡ (value (t ∷ ts) c + carry_value (suc (length ts)) (carry c)) % 2 = omega (arith, out, b_is, up) in
    record {
      is = ap (value (t ∷ ts)) joined' ∙ whole;
      carry_is = ap (λ (z : Cpu). bit_value (carry z)) joined' ∙ left;
      same = λ r off. ap (λ (z : Cpu). byte z r) joined' ∙ both.same r off.0 ∙ rest.same r off.1;
      world = ap (λ (z : Cpu). z.world) joined' ∙ rest.world;
    }

-- ---- the sign

half_more : (n : ℕ) → half_of_values (suc (suc n)) ≡ 256 * half_of_values (suc n)
half_more n = omega arith

scaled : (h v b : ℕ) → b < 256 → nat_le (256 * h) (b + 256 * v) ≡ nat_le h v
scaled h v b less = grind (arith, less)

top_negative : (t : ℕ) (ts : List ℕ) (see : Storage → ℕ) → HoldBytes see → is_negative 1 (see (Loc (top t ts))) ≡ is_negative (suc (length ts)) (bytes_value (read (t ∷ ts) see))
top_negative t [] see hold = let e : see (Loc t) ≡ see (Loc t) + 256 * 0 = omega arith in ap (nat_le 128) e
top_negative t (u ∷ ts) see hold =
    top_negative u ts see hold
    ∙ sym (scaled (half_of_values (suc (length ts))) (bytes_value (read (u ∷ ts) see)) (see (Loc t)) (hold t))
    ∙ ap (λ h. nat_le h (bytes_value (read (t ∷ (u ∷ ts)) see))) (sym (half_more (length ts)))

-- a number and a carry, halved
halved_by_sign : (n x : ℕ) (negative : Bool) → x < count_of_values (suc n) → is_negative (suc n) x ≡ negative → (x + carry_value (suc n) negative) / 2 ≡ shifted_right (suc n) 1 true x
unfolding shifted_right
halved_by_sign n x true below sign =
    let value_is : (x + count_of_values (suc n)) / 2 ≡ count_of_values (suc n) - 1 - (count_of_values (suc n) - 1 - x) / 2 = omega (arith, below) in
    value_is ∙ ap (λ b. if b then count_of_values (suc n) - 1 - (count_of_values (suc n) - 1 - x) / 2 ^ 1 else x / 2 ^ 1) (sym sign)
halved_by_sign n x false below sign =
    let value_is : (x + 0) / 2 ≡ x / 2 = omega arith in
    value_is ∙ ap (λ b. if b then count_of_values (suc n) - 1 - (count_of_values (suc n) - 1 - x) / 2 ^ 1 else x / 2 ^ 1) (sym sign)

halved_plainly : (n x : ℕ) → (x + 0) / 2 ≡ shifted_right n 1 false x
unfolding shifted_right
halved_plainly n x = omega arith

pub value_lt : (ts : List ℕ) (see : Storage → ℕ) → HoldBytes see → bytes_value (read ts see) < count_of_values (length ts)
value_lt [] see hold = omega arith
value_lt (t ∷ ts) see hold = let rest = value_lt ts see hold in let first = hold t in omega (arith, rest, first)

half_gives : (keeps_sign : Bool) (s t : ℕ) (ts : List ℕ) (c : Cpu) → AllApart (t ∷ ts) → HoldBytes c.see → Gives (half keeps_sign (t ∷ ts)) s c (t ∷ ts) (shifted_right (suc (length ts)) 1 keeps_sign (value (t ∷ ts) c))
half_gives true s t ts c apart hold =
    let c1 : Cpu = done (Top (top t ts)) c in
    let x = value (t ∷ ts) c in
    let run = turned_right_is (t ∷ ts) c1 apart in
    let same_value : value (t ∷ ts) c1 ≡ x = ap bytes_value (read_same (t ∷ ts) c.see c1.see (at_past c.see _)) in
    let sign : carry c1 ≡ is_negative (suc (length ts)) x = ap is_set (carry_same c.see _) ∙ top_is_negative (byte c (top t ts)) (hold (top t ts)) ∙ top_negative t ts c.see hold in
    record {
      is = run.is ∙ ap₂ (λ y k. (y + carry_value (suc (length ts)) k) / 2) same_value sign ∙ halved_by_sign (length ts) x (is_negative (suc (length ts)) x) (value_lt (t ∷ ts) c.see hold) refl;
      same = λ r off other. run.same r off ∙ at_past c.see _ r;
      world = run.world;
    }
half_gives false s t ts c apart hold =
    let c1 : Cpu = done ClearCarry c in
    let x = value (t ∷ ts) c in
    let run = turned_right_is (t ∷ ts) c1 apart in
    let same_value : value (t ∷ ts) c1 ≡ x = ap bytes_value (read_same (t ∷ ts) c.see c1.see (at_past c.see 0)) in
    let none : carry c1 ≡ false = ap is_set (carry_same c.see 0) in
    record {
      is = run.is ∙ ap₂ (λ y k. (y + carry_value (suc (length ts)) k) / 2) same_value none ∙ halved_plainly (suc (length ts)) x;
      same = λ r off other. run.same r off ∙ at_past c.see 0 r;
      world = run.world;
    }

turned_byte_ops : (ts : List ℕ) → AreByteOps (turned_right ts)
turned_byte_ops [] = tt
turned_byte_ops (t ∷ ts) = byte_ops_append (turned_right ts) (Rrc t t ∷ []) (turned_byte_ops ts) (tt, tt)

pub half_byte_ops : (keeps_sign : Bool) (t : ℕ) (ts : List ℕ) → AreByteOps (half keeps_sign (t ∷ ts))
half_byte_ops true t ts = (tt, turned_byte_ops (t ∷ ts))
half_byte_ops false t ts = (tt, turned_byte_ops (t ∷ ts))

-- ---- several bits

-- a sequence that gives a function of the value, repeated
module _ (ops : List (ByteOp ℕ)) (s : ℕ) (ts : List ℕ) (step : ℕ → ℕ) (all_steps : ℕ → ℕ → ℕ) (bytes : AreByteOps ops)
    (gives : (c : Cpu) → HasBytes c → Gives ops s c ts (step (value ts c)))
    (none : (x : ℕ) → x < count_of_values (length ts) → x ≡ all_steps 0 x)
    (more : (k x : ℕ) → x < count_of_values (length ts) → all_steps k (step x) ≡ all_steps (suc k) x) where
  repeated_gives : (k : ℕ) (c : Cpu) → HasBytes c → Gives (repeated k ops) s c ts (all_steps k (value ts c))
  repeated_gives zero c has = record { is = none (value ts c) (value_lt ts c.see has.hold); same = λ r off other. refl; world = refl }
  repeated_gives (suc k) c has =
      let first = gives c has in
      let c1 : Cpu = all_done ops c in
      let rest = repeated_gives k c1 (all_done_has_bytes ops c bytes has) in
      let joined' = all_done_append ops (repeated k ops) c in
      record {
        is = ap (value ts) joined' ∙ rest.is ∙ ap (all_steps k) first.is ∙ more k (value ts c) (value_lt ts c.see has.hold);
        same = λ r off other. ap (λ (z : Cpu). byte z r) joined' ∙ rest.same r off other ∙ first.same r off other;
        world = ap (λ (z : Cpu). z.world) joined' ∙ rest.world ∙ first.world;
      }

doubled : (n x : ℕ) → (x + x) % count_of_values n ≡ shifted_left n 1 x
unfolding shifted_left
doubled n x = let e : x + x ≡ x * 2 = omega arith in ap (λ y. y % count_of_values n) e

pub shift_left_gives : (k s t : ℕ) (ts : List ℕ) (c : Cpu) → Clear (t ∷ ts) (ats (t ∷ ts)) (ats (t ∷ ts)) → HasBytes c → Gives (shift_left k (t ∷ ts)) s c (t ∷ ts) (shifted_left (suc (length ts)) k (value (t ∷ ts) c))
shift_left_gives k s t ts c clear has =
    repeated_gives (sum (t ∷ ts) (t ∷ ts)) s (t ∷ ts) (λ x. (x + x) % count_of_values (suc (length ts))) (shifted_left (suc (length ts))) (sum_byte_ops (t ∷ ts) (t ∷ ts))
    (λ c has. sum_gives s t ts t ts c clear has.hold)
    (λ x less. sym (left_none (suc (length ts)) x less))
    (λ k x less. ap (shifted_left (suc (length ts)) k) (doubled (suc (length ts)) x) ∙ sym (left_more (suc (length ts)) k x))
    k c has

pub shift_right_gives : (k : ℕ) (keeps_sign : Bool) (s t : ℕ) (ts : List ℕ) (c : Cpu) → AllApart (t ∷ ts) → HasBytes c
    → Gives (shift_right k keeps_sign (t ∷ ts)) s c (t ∷ ts) (shifted_right (suc (length ts)) k keeps_sign (value (t ∷ ts) c))
shift_right_gives k keeps_sign s t ts c apart has =
    repeated_gives (half keeps_sign (t ∷ ts)) s (t ∷ ts) (shifted_right (suc (length ts)) 1 keeps_sign) (λ k x. shifted_right (suc (length ts)) k keeps_sign x) (half_byte_ops keeps_sign t ts)
    (λ c has. half_gives keeps_sign s t ts c apart has.hold)
    (λ x less. sym (right_none (suc (length ts)) x keeps_sign less))
    (λ k x less. sym (more keeps_sign k x less))
    k c has
  where
    more : (keeps : Bool) (k x : ℕ) → x < count_of_values (suc (length ts)) → shifted_right (suc (length ts)) (suc k) keeps x ≡ shifted_right (suc (length ts)) k keeps (shifted_right (suc (length ts)) 1 keeps x)
    more true k x less = signed_right_more (length ts) k x less
    more false k x less = right_more (suc (length ts)) k x
