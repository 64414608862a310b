-- What the sequence of each operation on temporaries does.
use Rattle.std.proofs.Common.{◌≡◌, ◌≢◌, ℕ, zero, suc, ◌+◌, ◌*◌, ◌-◌, ◌/◌, ◌%◌, ◌<◌, List, [], ◌∷◌, length, map, Bool, true, false, not, nat_eq, if◌then◌else◌, refl, sym, ap, ap₂, ◌∙◌, arith}
use Rattle.cerco_base.specs.Bytes.{bit_value, bytes_value, count_of_values}
use Rattle.cerco_base.specs.Events.{next_reading}
use Rattle.cerco_traces.specs.Worlds.{after_reading, loaded, with_number}
use Rattle.cerco_middle.specs.declared.operators.Held.{Held}
use Rattle.cerco_middle.specs.declared.operators.Held.TheVariants.{U8, I8, W16}
use Rattle.cerco_middle.specs.declared.operators.CmOp.{CmOp}
use Rattle.cerco_middle.specs.declared.operators.CmOp.TheVariants as o
use Rattle.cerco_middle.specs.Operators.{word_bytes, as_word, held_bytes, is_negative, extended, read_from, kept, held_at, held_in, low_byte, operator_value, negated, complement, shifted_left, shifted_right}
use Rattle.cerco_middle.specs.Operators.{quotient as quotient_value, remainder as remainder_value}
use Rattle.rtl.specs.Operations.{ByteOp, Div, Rem, Load, ReadPort}
use Rattle.rtl.specs.Effects.{Loc, Carry, pointer, with_bytes}
use Rattle.rtl.specs.Effects.{quotient as byte_quotient, remainder as byte_remainder}
use Rattle.rtl.specs.Meaning.{with_value}
use Rattle.byte_sequences.specs.Words.{word_from}
use Rattle.byte_sequences.specs.Sequences.{ats, literals, held_part, constants, zeros, moves, extension, reading, load, store, port_reading, difference, product, quotient, remainder, shift_left, shift_right}
use Rattle.byte_sequences.specs.Operations.{operator_code}
use Rattle.byte_sequences.proofs.Machine.{Cpu, done, all_done, all_done_append, byte, value, Off, AlikeBut, at_same, at_other, at_past, sets_both}
use Rattle.byte_sequences.proofs.Chains.{Clear, operands_ats, ats_bytes}
use Rattle.byte_sequences.proofs.Sums.{Gives, sum_gives, difference_gives, negative_gives, complement_gives, and_gives, or_gives, xor_gives}
use Rattle.byte_sequences.proofs.MoveLaws.{AllApart, Puts, sign_value, zeros_put, constants_put, moves_put, signs_give, loads, stores}
use Rattle.byte_sequences.proofs.SoundBytes.{HasBytes, AreByteOps, all_done_has_bytes}
use Rattle.byte_sequences.proofs.ComparisonLaws.{order_gives, inequality_gives, signed_less_gives, signed_up_to_gives, clear_turned}
use Rattle.byte_sequences.proofs.ShiftLaws.{shift_left_gives, shift_right_gives}

-- locations by their numbers
abbrev pub number : ℕ → ℕ
number n = n

-- two words of which the bytes of one don't come before those of the other
pub record AreWords (a b : ℕ) : Type 0 where
  pub low_high : a ≢ b + 1
  pub high_low : a + 1 ≢ b

-- the word itself
pub one_word : (a : ℕ) → AreWords a a
one_word a = record { low_high = λ e. omega (arith, e); high_low = λ e. omega (arith, e) }

pub word_apart : (a : ℕ) → AllApart (word_from number a)
word_apart a = ((λ e. omega (arith, e), tt), (tt, tt))

words_clear : (a b : ℕ) → AreWords a b → Clear (word_from number a) (ats (word_from number a)) (ats (word_from number b))
words_clear a b words = ((λ e. omega (arith, e), tt), (λ e. omega (arith, e), tt), (words.low_high, tt), (tt, tt, tt, tt))

-- ---- products and quotients

low_of : (b more : ℕ) → b < 256 → low_byte (b + 256 * more) ≡ b
low_of b more less = omega (arith, less)

digits : (p : ℕ) → p % 256 + 256 * (p / 256 + 256 * 0) ≡ p
digits p = omega arith

pub product_gives : (s a b : ℕ) (c : Cpu) → HasBytes c → Gives (product (word_from number a) (word_from number b)) s c (word_from number a) (low_byte (value (word_from number a) c) * low_byte (value (word_from number b) c))
product_gives s a b c has =
    let x = byte c a in
    let y = byte c b in
    let apart : a ≢ a + 1 = λ e. omega (arith, e) in
    let see1 = with_value c.see (Loc a) (x * y % 256) in
    let see2 = with_value see1 (Loc (a + 1)) (x * y / 256) in
    let low : with_value see2 Carry 0 (Loc a) ≡ x * y % 256 = at_past see2 0 a ∙ at_other see1 (a + 1) (x * y / 256) a apart ∙ at_same c.see a (x * y % 256) in
    let high : with_value see2 Carry 0 (Loc (a + 1)) ≡ x * y / 256 = at_past see2 0 (a + 1) ∙ at_same see1 (a + 1) (x * y / 256) in
    record {
      is = ap₂ (λ p q. p + 256 * (q + 256 * 0)) low high ∙ digits (x * y) ∙ sym (ap₂ (λ p q. p * q) (low_of x _ (has.hold a)) (low_of y _ (has.hold b)));
      same = λ r off other. at_past see2 0 r ∙ at_other see1 (a + 1) (x * y / 256) r off.1.0 ∙ at_other c.see a (x * y % 256) r off.0;
      world = refl;
    }

quotient_same : (x y : ℕ) → byte_quotient x y ≡ quotient_value x y
quotient_same x zero = refl
quotient_same x (suc y) = refl

remainder_same : (x y : ℕ) → byte_remainder x y ≡ remainder_value x y
remainder_same x zero = refl
remainder_same x (suc y) = refl

-- a byte at the low place, and 0 above it
low_alone : (s a v : ℕ) (c c1 : Cpu) → byte c1 a ≡ v → AlikeBut a c.see c1.see → c1.world ≡ c.world → Gives (zeros ((a + 1) ∷ [])) s c1 (a ∷ (a + 1) ∷ []) v
low_alone s a v c c1 at alike world =
    let apart : a ≢ a + 1 = λ e. omega (arith, e) in
    let rest = zeros_put ((a + 1) ∷ []) c1 (tt, tt) in
    let low : byte (all_done (zeros ((a + 1) ∷ [])) c1) a ≡ v = rest.same a (apart, tt) ∙ at in
    let high = rest.is in
    record { is = omega (arith, low, high); same = λ r off other. rest.same r off.1; world = rest.world }

pub quotient_gives : (s a b : ℕ) (c : Cpu) → HasBytes c → Gives (quotient (word_from number a) (word_from number b)) s c (word_from number a) (quotient_value (low_byte (value (word_from number a) c)) (low_byte (value (word_from number b) c)))
quotient_gives s a b c has =
    let c1 : Cpu = done (Div a a b) c in
    let both = sets_both c.see a (byte_quotient (byte c a) (byte c b)) 0 in
    let rest = low_alone s a (byte_quotient (byte c a) (byte c b)) c c1 both.at both.same refl in
    record {
      is = rest.is ∙ quotient_same (byte c a) (byte c b) ∙ sym (ap₂ quotient_value (low_of (byte c a) _ (has.hold a)) (low_of (byte c b) _ (has.hold b)));
      same = λ r off other. rest.same r off other ∙ both.same r off.0;
      world = rest.world;
    }

pub remainder_gives : (s a b : ℕ) (c : Cpu) → HasBytes c → Gives (remainder (word_from number a) (word_from number b)) s c (word_from number a) (remainder_value (low_byte (value (word_from number a) c)) (low_byte (value (word_from number b) c)))
remainder_gives s a b c has =
    let c1 : Cpu = done (Rem a a b) c in
    let both = sets_both c.see a (byte_remainder (byte c a) (byte c b)) 0 in
    let rest = low_alone s a (byte_remainder (byte c a) (byte c b)) c c1 both.at both.same refl in
    record {
      is = rest.is ∙ remainder_same (byte c a) (byte c b) ∙ sym (ap₂ remainder_value (low_of (byte c a) _ (has.hold a)) (low_of (byte c b) _ (has.hold b)));
      same = λ r off other. rest.same r off other ∙ both.same r off.0;
      world = rest.world;
    }

-- ---- operators

-- s is no byte of the word
abbrev pub IsOff : ℕ → ℕ → Type 0
IsOff s a = Off s (word_from number a)

twice_not : (b : Bool) → not (not b) ≡ b
twice_not true = refl
twice_not false = refl

pub operator_gives : (s : ℕ) (o : CmOp) (a b : ℕ) (c : Cpu) → AreWords a b → IsOff s a → IsOff s b → HasBytes c
    → Gives (operator_code s o (word_from number a) (word_from number b)) s c (word_from number a) (operator_value word_bytes o (value (word_from number a) c) (value (word_from number b) c))
unfolding operator_value
operator_gives s o.Add a b c words off off' has = sum_gives s a ((a + 1) ∷ []) b ((b + 1) ∷ []) c (words_clear a b words) has.hold
operator_gives s o.Sub a b c words off off' has = difference_gives s (word_from number a) (word_from number b) c (words_clear a b words) has.hold
operator_gives s o.Mul a b c words off off' has = product_gives s a b c has
operator_gives s o.Div a b c words off off' has = quotient_gives s a b c has
operator_gives s o.Rem a b c words off off' has = remainder_gives s a b c has
operator_gives s o.And a b c words off off' has = and_gives s (word_from number a) (word_from number b) c (words_clear a b words) has.hold
operator_gives s o.Or a b c words off off' has = or_gives s (word_from number a) (word_from number b) c (words_clear a b words) has.hold
operator_gives s o.Xor a b c words off off' has = xor_gives s (word_from number a) (word_from number b) c (words_clear a b words) has.hold
operator_gives s o.Eq a b c words off off' has =
    let g = inequality_gives true s a ((a + 1) ∷ []) (word_from number b) c (word_apart a) (words_clear a b words) has in
    record { is = g.is ∙ ap bit_value (twice_not (nat_eq (value (word_from number a) c) (value (word_from number b) c))); same = g.same; world = g.world }
operator_gives s o.Ne a b c words off off' has = inequality_gives false s a ((a + 1) ∷ []) (word_from number b) c (word_apart a) (words_clear a b words) has
operator_gives s o.LtS a b c words off off' has = signed_less_gives s a ((a + 1) ∷ []) b ((b + 1) ∷ []) c (word_apart a) (words_clear a b words) off off' (words.high_low, tt) has
operator_gives s o.LtU a b c words off off' has =
    order_gives false s a ((a + 1) ∷ []) (ats (word_from number a)) (ats (word_from number b)) c _ _ (ap bytes_value (operands_ats (word_from number a) c.see)) (ap bytes_value (operands_ats (word_from number b) c.see))
    (word_apart a) (words_clear a b words) (ats_bytes (word_from number a)) (ats_bytes (word_from number b)) has.hold
operator_gives s o.LeS a b c words off off' has = signed_up_to_gives s a ((a + 1) ∷ []) b ((b + 1) ∷ []) c (word_apart a) (words_clear a b words) off off' (words.high_low, tt) has
operator_gives s o.LeU a b c words off off' has =
    order_gives true s a ((a + 1) ∷ []) (ats (word_from number b)) (ats (word_from number a)) c _ _ (ap bytes_value (operands_ats (word_from number b) c.see)) (ap bytes_value (operands_ats (word_from number a) c.see))
    (word_apart a) (clear_turned (word_from number a) (ats (word_from number a)) (ats (word_from number b)) (words_clear a b words)) (ats_bytes (word_from number b)) (ats_bytes (word_from number a)) has.hold

pub negated_gives : (s a : ℕ) (c : Cpu) → HasBytes c → Gives (difference (word_from number a) (literals 0 (word_from number a)) (ats (word_from number a))) s c (word_from number a) (negated word_bytes (value (word_from number a) c))
negated_gives s a c has = negative_gives s (word_from number a) c ((λ e. omega (arith, e), tt), (tt, tt), (λ e. omega (arith, e), tt), (tt, tt, tt, tt)) has.hold

pub complemented_gives : (s a : ℕ) (c : Cpu) → HasBytes c → Gives (difference (word_from number a) (literals 255 (word_from number a)) (ats (word_from number a))) s c (word_from number a) (complement word_bytes (value (word_from number a) c))
complemented_gives s a c has = complement_gives s (word_from number a) c ((λ e. omega (arith, e), tt), (tt, tt), (λ e. omega (arith, e), tt), (tt, tt, tt, tt)) has.hold

pub constant_gives : (s a n : ℕ) (c : Cpu) → Gives (constants (word_from number a) n) s c (word_from number a) (as_word n)
constant_gives s a n c = let p = constants_put (word_from number a) n c (word_apart a) in record { is = p.is; same = λ r off other. p.same r off; world = p.world }

pub shifted_left_gives : (s k a : ℕ) (c : Cpu) → HasBytes c → Gives (shift_left k (word_from number a)) s c (word_from number a) (shifted_left word_bytes k (value (word_from number a) c))
shifted_left_gives s k a c has = shift_left_gives k s a ((a + 1) ∷ []) c (words_clear a a (one_word a)) has

pub shifted_right_gives : (s k : ℕ) (keeps_sign : Bool) (a : ℕ) (c : Cpu) → HasBytes c → Gives (shift_right k keeps_sign (word_from number a)) s c (word_from number a) (shifted_right word_bytes k keeps_sign (value (word_from number a) c))
shifted_right_gives s k keeps_sign a c has = shift_right_gives k keeps_sign s a ((a + 1) ∷ []) c (word_apart a) has

-- ---- scalars

-- what a word holds of a scalar, as it is read
abbrev pub scalar : Held → ℕ → Cpu → ℕ
scalar h a c = read_from h (value (held_part h (word_from number a)) c)

-- the part of a value that a scalar holds
pub part_value : (h : Held) (a : ℕ) (c : Cpu) → HasBytes c → value (held_part h (word_from number a)) c ≡ value (word_from number a) c % count_of_values (held_bytes h)
part_value U8 a c has = let low = has.hold a in omega (arith, low)
part_value I8 a c has = let low = has.hold a in omega (arith, low)
part_value W16 a c has = let low = has.hold a in let high = has.hold (a + 1) in omega (arith, low, high)

signed_value : (b : ℕ) (sign : Bool) → is_negative 1 b ≡ sign → b + 256 * sign_value 1 sign ≡ extended true 1 2 b
signed_value b true e = let v : b + 256 * (256 * 1 - 1) ≡ b + (65536 - 256) = omega arith in v ∙ ap (λ k. if k then b + (65536 - 256) else b) (sym e)
signed_value b false e = let v : b + 256 * 0 ≡ b = omega arith in v ∙ ap (λ k. if k then b + (65536 - 256) else b) (sym e)

pub extension_gives : (s : ℕ) (h : Held) (a : ℕ) (c : Cpu) → HasBytes c → Gives (extension h (word_from number a)) s c (word_from number a) (scalar h a c)
extension_gives s U8 a c has =
    let p = low_alone s a (byte c a) c c refl (λ r other. refl) refl in
    let e : byte c a ≡ byte c a + 256 * 0 = omega arith in
    record { is = p.is ∙ e; same = p.same; world = p.world }
extension_gives s I8 a c has =
    let apart : a ≢ a + 1 = λ e. omega (arith, e) in
    let p = signs_give a ((a + 1) ∷ []) c (apart, tt) (tt, tt) has.hold in
    let e : byte c a ≡ byte c a + 256 * 0 = omega arith in
    record {
      is = ap₂ (λ x y. x + 256 * y) (p.1 a (apart, tt)) p.0 ∙ signed_value (byte c a) (is_negative 1 (byte c a)) refl ∙ ap (extended true 1 2) e;
      same = λ r off other. p.1 r off.1;
      world = p.2;
    }
extension_gives s W16 a c has = record { is = refl; same = λ r off other. refl; world = refl }

pub narrowed_gives : (s : ℕ) (h : Held) (a : ℕ) (c : Cpu) → HasBytes c → Gives (extension h (word_from number a)) s c (word_from number a) (kept h (value (word_from number a) c))
unfolding kept
narrowed_gives s h a c has = let g = extension_gives s h a c has in record { is = g.is ∙ ap (read_from h) (part_value h a c has); same = g.same; world = g.world }

-- the moves of a scalar
moved : (h : Held) (a b : ℕ) (c : Cpu) → AreWords a b → a ≢ b → Puts (moves (held_part h (word_from number a)) (held_part h (word_from number b))) c (held_part h (word_from number a)) (value (held_part h (word_from number b)) c)
moved U8 a b c words other = moves_put (a ∷ []) (b ∷ []) c tt (tt, tt) ((other, tt), tt)
moved I8 a b c words other = moves_put (a ∷ []) (b ∷ []) c tt (tt, tt) ((other, tt), tt)
moved W16 a b c words other = moves_put (word_from number a) (word_from number b) c tt (word_apart a) ((other, (words.low_high, tt)), ((words.high_low, (λ e. other (omega (arith, e)), tt)), tt))

moved_byte_ops : (h : Held) (a b : ℕ) → AreByteOps (moves (held_part h (word_from number a)) (held_part h (word_from number b)))
moved_byte_ops U8 a b = (tt, tt)
moved_byte_ops I8 a b = (tt, tt)
moved_byte_ops W16 a b = (tt, (tt, tt))

-- the moves of a scalar between words that share no location
pub moves_move : (h : Held) (a b : ℕ) (c : Cpu) → a ≢ b → a ≢ b + 1 → a + 1 ≢ b
    → (value (held_part h (word_from number a)) (all_done (moves (held_part h (word_from number a)) (held_part h (word_from number b))) c) ≡ value (held_part h (word_from number b)) c)
    × ((r : ℕ) → Off r (held_part h (word_from number a)) → byte (all_done (moves (held_part h (word_from number a)) (held_part h (word_from number b))) c) r ≡ byte c r)
    × ((all_done (moves (held_part h (word_from number a)) (held_part h (word_from number b))) c).world ≡ c.world)
moves_move h a b c other low_high high_low = let p = moved h a b c (record { low_high = low_high; high_low = high_low }) other in (p.is, p.same, p.world)

-- a scalar's locations are some of the word's
pub off_part : (h : Held) (r a : ℕ) → Off r (word_from number a) → Off r (held_part h (word_from number a))
off_part U8 r a off = (off.0, tt)
off_part I8 r a off = (off.0, tt)
off_part W16 r a off = off

pub moves_give : (h : Held) (a b : ℕ) (c : Cpu) → AreWords a b → a ≢ b → HasBytes c
    → (value (held_part h (word_from number a)) (all_done (moves (held_part h (word_from number a)) (held_part h (word_from number b))) c) ≡ value (word_from number b) c % count_of_values (held_bytes h))
    × ((r : ℕ) → Off r (held_part h (word_from number a)) → byte (all_done (moves (held_part h (word_from number a)) (held_part h (word_from number b))) c) r ≡ byte c r)
    × ((all_done (moves (held_part h (word_from number a)) (held_part h (word_from number b))) c).world ≡ c.world)
moves_give h a b c words other has = let p = moved h a b c words other in (p.is ∙ part_value h b c has, p.same, p.world)

pub reading_gives : (s : ℕ) (h : Held) (a b : ℕ) (c : Cpu) → AreWords a b → a ≢ b → HasBytes c → Gives (reading h (word_from number a) (word_from number b)) s c (word_from number a) (scalar h b c)
reading_gives s h a b c words other has =
    let first : List (ByteOp ℕ) = moves (held_part h (word_from number a)) (held_part h (word_from number b)) in
    let p = moved h a b c words other in
    let c1 : Cpu = all_done first c in
    let rest = extension_gives s h a c1 (all_done_has_bytes first c (moved_byte_ops h a b) has) in
    let joined' = all_done_append first (extension h (word_from number a)) c in
    record {
      is = ap (value (word_from number a)) joined' ∙ rest.is ∙ ap (read_from h) p.is;
      same = λ r off not_s. ap (λ (z : Cpu). byte z r) joined' ∙ rest.same r off not_s ∙ p.same r (off_part h r a off);
      world = ap (λ (z : Cpu). z.world) joined' ∙ rest.world ∙ p.world;
    }

-- ---- external RAM and the port

-- the address that a word holds
pub pointer_is : (a : ℕ) (c : Cpu) → pointer a (a + 1) c.see ≡ value (word_from number a) c
pointer_is a c = omega arith

part_apart : (h : Held) (a : ℕ) → AllApart (held_part h (word_from number a))
part_apart U8 a = (tt, tt)
part_apart I8 a = (tt, tt)
part_apart W16 a = word_apart a

pub length_part : (h : Held) (a : ℕ) → length (held_part h (word_from number a)) ≡ held_bytes h
length_part U8 a = refl
length_part I8 a = refl
length_part W16 a = refl

pub load_gives : (s : ℕ) (h : Held) (a : ℕ) (c : Cpu) → HasBytes c → Gives (load h (word_from number a)) s c (word_from number a) (held_at h c.world (value (word_from number a) c))
unfolding held_at
load_gives s h a c has =
    let part = held_part h (word_from number a) in
    let c1 : Cpu = done (Load part a (a + 1)) c in
    let l = loads part c.world.xram (pointer a (a + 1) c.see) c.see (part_apart h a) in
    let rest = extension_gives s h a c1 (all_done_has_bytes (Load part a (a + 1) ∷ []) c (tt, tt) has) in
    let part_is : value part c1 ≡ loaded (held_bytes h) c.world (value (word_from number a) c) = ap bytes_value l.0 ∙ ap₂ (λ n p. loaded n c.world p) (length_part h a) (pointer_is a c) in
    record {
      is = rest.is ∙ ap (read_from h) part_is;
      same = λ r off not_s. rest.same r off not_s ∙ l.1 r (off_part h r a off);
      world = rest.world;
    }

pub store_gives : (h : Held) (a b : ℕ) (c : Cpu) → HasBytes c
    → ((all_done (store h (word_from number a) (word_from number b)) c).world ≡ held_in h c.world (value (word_from number a) c) (value (word_from number b) c))
    × ((r : ℕ) → byte (all_done (store h (word_from number a) (word_from number b)) c) r ≡ byte c r)
store_gives h a b c has =
    (ap (λ (x : ℕ → ℕ). record c.world { xram = x }) (by h), λ r. refl)
  where
    by : (k : Held) → with_bytes (map (λ s. c.see (Loc s)) (held_part k (word_from number b))) c.world.xram (pointer a (a + 1) c.see) ≡ with_number (held_bytes k) c.world.xram (value (word_from number a) c) (value (word_from number b) c)
    by U8 = stores (byte c b ∷ []) (byte c (b + 1) ∷ []) c.world.xram (pointer a (a + 1) c.see) (has.hold b, tt) ∙ ap (λ p. with_number 1 c.world.xram p (value (word_from number b) c)) (pointer_is a c)
    by I8 = stores (byte c b ∷ []) (byte c (b + 1) ∷ []) c.world.xram (pointer a (a + 1) c.see) (has.hold b, tt) ∙ ap (λ p. with_number 1 c.world.xram p (value (word_from number b) c)) (pointer_is a c)
    by W16 = stores (byte c b ∷ byte c (b + 1) ∷ []) [] c.world.xram (pointer a (a + 1) c.see) (has.hold b, (has.hold (b + 1), tt)) ∙ ap (λ p. with_number 2 c.world.xram p (value (word_from number b) c)) (pointer_is a c)

pub port_reading_gives : (s a : ℕ) (c : Cpu)
    → (value (word_from number a) (all_done (port_reading (word_from number a)) c) ≡ next_reading c.world.script)
    × ((r : ℕ) → Off r (word_from number a) → byte (all_done (port_reading (word_from number a)) c) r ≡ byte c r)
    × ((all_done (port_reading (word_from number a)) c).world ≡ after_reading c.world)
port_reading_gives s a c =
    let c1 : Cpu = done (ReadPort a) c in
    let rest = low_alone 0 a (next_reading c.world.script) c1 c1 (at_same c.see a (next_reading c.world.script)) (λ r other. refl) refl in
    let put = zeros_put ((a + 1) ∷ []) c1 (tt, tt) in
    (rest.is, λ r off. put.same r off.1 ∙ at_other c.see a (next_reading c.world.script) r off.0, rest.world)
