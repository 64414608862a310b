-- The values of constants, moves and extensions, and of what is read from external RAM and written to it.
use Rattle.std.proofs.Common.{◌≡◌, ℕ, suc, ◌+◌, ◌*◌, ◌-◌, ◌/◌, ◌%◌, ◌<◌, List, [], ◌∷◌, ◌++◌, length, map, Bool, true, false, refl, sym, ap, ap₂, ◌∙◌, arith}
use Rattle.cerco_base.specs.Bytes.{bit_value, difference_byte, bytes_value, count_of_values}
use Rattle.cerco_traces.specs.Worlds.{update, next_address, bytes_at, with_number}
use Rattle.cerco_middle.specs.Operators.{is_negative}
use Rattle.cerco_middle.proofs.MemoryLaws.{low_byte_first, some_values}
use Rattle.rtl.specs.declared.operations.Src.TheVariants.{At}
use Rattle.rtl.specs.declared.operations.Arith.TheVariants.{Subb}
use Rattle.rtl.specs.Operations.{ByteOp, Const, Move, Op, Top}
use Rattle.rtl.specs.Effects.{Storage, Loc, is_set, top_bit, load_sets, with_bytes}
use Rattle.rtl.specs.Meaning.{with_value, shared_after, shares_all}
use Rattle.byte_sequences.specs.Sequences.{constants, zeros, moves, copies, signs}
use Rattle.byte_sequences.proofs.Machine.{Cpu, done, all_done, byte, carry, read, value, Off, read_off, at_same, at_other, carry_past, carry_same, at_past, made}
use Rattle.byte_sequences.proofs.Chains.{HoldBytes}

-- ---- constants

-- each of these locations is another one
abbrev pub AllApart : List ℕ → Type 0
AllApart [] = Unit {0}
AllApart (t ∷ ts) = Off t ts × AllApart ts

-- The sequence puts the number v at ts, and changes nothing else, nor the carry.
pub record Puts (ops : List (ByteOp ℕ)) (c : Cpu) (ts : List ℕ) (v : ℕ) : Type 0 where
  pub is : value ts (all_done ops c) ≡ v
  pub same : (r : ℕ) → Off r ts → byte (all_done ops c) r ≡ byte c r
  pub carry_is : carry (all_done ops c) ≡ carry c
  pub world : (all_done ops c).world ≡ c.world

puts_nothing : (c : Cpu) → Puts [] c [] 0
puts_nothing c = record { is = refl; same = λ r off. refl; carry_is = refl; world = refl }

pub zeros_put : (ts : List ℕ) (c : Cpu) → AllApart ts → Puts (zeros ts) c ts 0
zeros_put [] c apart = puts_nothing c
zeros_put (t ∷ ts) c apart =
    let c1 : Cpu = done (Const t 0) c in
    let rest = zeros_put ts c1 apart.1 in
    let first : byte (all_done (zeros ts) c1) t ≡ 0 = rest.same t apart.0 ∙ at_same c.see t 0 in
    let others = rest.is in
    record {
      is = omega (arith, first, others);
      same = λ r off. rest.same r off.1 ∙ at_other c.see t 0 r off.0;
      carry_is = rest.carry_is ∙ ap is_set (carry_past c.see t 0);
      world = rest.world;
    }

pub constants_put : (ts : List ℕ) (number : ℕ) (c : Cpu) → AllApart ts → Puts (constants ts number) c ts (number % count_of_values (length ts))
constants_put [] number c apart = let none : 0 ≡ number % 1 = omega arith in record { is = none; same = λ r off. refl; carry_is = refl; world = refl }
constants_put (t ∷ ts) number c apart =
    let c1 : Cpu = done (Const t (number % 256)) c in
    let rest = constants_put ts (number / 256) c1 apart.1 in
    let first : byte (all_done (constants ts (number / 256)) c1) t ≡ number % 256 = rest.same t apart.0 ∙ at_same c.see t (number % 256) in
    record {
      is = ap₂ (λ b more. b + 256 * more) first rest.is ∙ low_byte_first number (count_of_values (length ts)) (some_values (length ts));
      same = λ r off. rest.same r off.1 ∙ at_other c.see t (number % 256) r off.0;
      carry_is = rest.carry_is ∙ ap is_set (carry_past c.see t (number % 256));
      world = rest.world;
    }

-- ---- moves

-- these are none of those
abbrev pub AllOff : List ℕ → List ℕ → Type 0
AllOff [] ss = Unit {0}
AllOff (t ∷ ts) ss = Off t ss × AllOff ts ss

-- as many
abbrev pub SameLength : List ℕ → List ℕ → Type 0
SameLength [] [] = Unit {0}
SameLength (t ∷ ts) (s ∷ ss) = SameLength ts ss
SameLength _ _ = ⊥

pub moves_put : (ts ss : List ℕ) (c : Cpu) → SameLength ts ss → AllApart ts → AllOff ts ss → Puts (moves ts ss) c ts (value ss c)
moves_put [] [] c long apart off = puts_nothing c
moves_put (t ∷ ts) (s ∷ ss) c long apart off =
    let c1 : Cpu = done (Move t s) c in
    let rest = moves_put ts ss c1 long apart.1 (less ts off.1) in
    let first : byte (all_done (moves ts ss) c1) t ≡ byte c s = rest.same t apart.0 ∙ at_same c.see t (byte c s) in
    record {
      is = ap₂ (λ b more. b + 256 * more) first (rest.is ∙ ap bytes_value (read_off ss t c.see c1.see (at_other c.see t (byte c s)) off.0.1));
      same = λ r out. rest.same r out.1 ∙ at_other c.see t (byte c s) r out.0;
      carry_is = rest.carry_is ∙ ap is_set (carry_past c.see t (byte c s));
      world = rest.world;
    }
  where
    less : (rs : List ℕ) → AllOff rs (s ∷ ss) → AllOff rs ss
    less [] h = tt
    less (r ∷ rs) h = (h.0.1, less rs h.1)
moves_put [] (s ∷ ss) c long apart off = absurd long
moves_put (t ∷ ts) [] c long apart off = absurd long

-- ---- signs

-- the sign of a byte, as the number of so many bytes
abbrev pub sign_value : ℕ → Bool → ℕ
sign_value n true = count_of_values n - 1
sign_value n false = 0

copies_put : (s : ℕ) (ts : List ℕ) (c : Cpu) (b : ℕ) (sign : Bool) → byte c s ≡ b → b ≡ 255 * bit_value sign → Off s ts → AllApart ts → Puts (copies s ts) c ts (sign_value (length ts) sign)
copies_put s [] c b true is all off apart = puts_nothing c
copies_put s [] c b false is all off apart = puts_nothing c
copies_put s (t ∷ ts) c b sign is all off apart =
    let c1 : Cpu = done (Move t s) c in
    let rest = copies_put s ts c1 b sign (at_other c.see t (byte c s) s off.0 ∙ is) all off.1 apart.1 in
    let first : byte (all_done (copies s ts) c1) t ≡ b = rest.same t apart.0 ∙ at_same c.see t (byte c s) ∙ is in
    record {
      is = ap₂ (λ x more. x + 256 * more) (first ∙ all) rest.is ∙ one_more (length ts) sign;
      same = λ r out. rest.same r out.1 ∙ at_other c.see t (byte c s) r out.0;
      carry_is = rest.carry_is ∙ ap is_set (carry_past c.see t (byte c s));
      world = rest.world;
    }
  where
    one_more : (n : ℕ) (k : Bool) → 255 * bit_value k + 256 * sign_value n k ≡ sign_value (suc n) k
    one_more n true = let some = some_values n in omega (arith, some)
    one_more n false = omega arith

-- the highest bit of a byte
pub top_is_negative : (a : ℕ) → a < 256 → is_set (top_bit a) ≡ is_negative 1 a
top_is_negative a less = grind (arith, less)

taken_from_itself : (a : ℕ) (k : Bool) → a < 256 → difference_byte a a k ≡ 255 * bit_value k
unfolding difference_byte
taken_from_itself a true less = omega (arith, less)
taken_from_itself a false less = omega (arith, less)

pub signs_give : (a : ℕ) (ts : List ℕ) (c : Cpu) → Off a ts → AllApart ts → HoldBytes c.see
    → (value ts (all_done (signs a ts) c) ≡ sign_value (length ts) (is_negative 1 (byte c a)))
    × ((r : ℕ) → Off r ts → byte (all_done (signs a ts) c) r ≡ byte c r)
    × ((all_done (signs a ts) c).world ≡ c.world)
signs_give a [] c off apart hold = (none (is_negative 1 (byte c a)), λ r out. refl, refl)
  where
    none : (k : Bool) → 0 ≡ sign_value 0 k
    none true = refl
    none false = refl
signs_give a (t ∷ ts) c off apart hold =
    let c1 : Cpu = done (Top a) c in
    let sign = is_negative 1 (byte c a) in
    let sign_is : carry c1 ≡ sign = ap is_set (carry_same c.see (top_bit (byte c a))) ∙ top_is_negative (byte c a) (hold a) in
    let a_is : byte c1 a ≡ byte c a = at_past c.see (top_bit (byte c a)) a in
    let one = made Subb t (At a) (At a) c1 in
    let c2 : Cpu = done (Op Subb t (At a) (At a)) c1 in
    let t_is : byte c2 t ≡ 255 * bit_value sign = one.at ∙ ap₂ (λ x k. difference_byte x x k) a_is sign_is ∙ taken_from_itself (byte c a) sign (hold a) in
    let rest = copies_put t ts c2 (255 * bit_value sign) sign t_is refl apart.0 apart.1 in
    let first : byte (all_done (copies t ts) c2) t ≡ 255 * bit_value sign = rest.same t apart.0 ∙ t_is in
    (ap₂ (λ x more. x + 256 * more) first rest.is ∙ one_more (length ts) sign, λ r out. rest.same r out.1 ∙ one.same r out.0 ∙ at_past c.see (top_bit (byte c a)) r, rest.world)
  where
    one_more : (n : ℕ) (k : Bool) → 255 * bit_value k + 256 * sign_value n k ≡ sign_value (suc n) k
    one_more n true = let some = some_values n in omega (arith, some)
    one_more n false = omega arith

-- ---- external RAM

-- the locations hold the bytes from an address on
pub loads : (ts : List ℕ) (xram : ℕ → ℕ) (a : ℕ) (see : Storage → ℕ) → AllApart ts
    → (read ts (shared_after shares_all (load_sets ts xram a) see) ≡ bytes_at (length ts) xram a) × ((r : ℕ) → Off r ts → shared_after shares_all (load_sets ts xram a) see (Loc r) ≡ see (Loc r))
loads [] xram a see apart = (refl, λ r off. refl)
loads (t ∷ ts) xram a see apart =
    let see1 = with_value see (Loc t) (xram a) in
    let rest = loads ts xram (next_address a) see1 apart.1 in
    (ap₂ (λ b bs. b ∷ bs) (rest.1 t apart.0 ∙ at_same see t (xram a)) rest.0, λ r off. rest.1 r off.1 ∙ at_other see t (xram a) r off.0)

abbrev pub AllBytes : List ℕ → Type 0
AllBytes [] = Unit {0}
AllBytes (b ∷ bs) = (b < 256) × AllBytes bs

pub read_all_bytes : (ts : List ℕ) (see : Storage → ℕ) → HoldBytes see → AllBytes (read ts see)
read_all_bytes [] see hold = tt
read_all_bytes (t ∷ ts) see hold = (hold t, read_all_bytes ts see hold)

pub read_as_map : (ts : List ℕ) (see : Storage → ℕ) → map (λ s. see (Loc s)) ts ≡ read ts see
read_as_map [] see = refl
read_as_map (t ∷ ts) see = ap (λ bs. see (Loc t) ∷ bs) (read_as_map ts see)

-- external RAM with bytes is that with the number that they, and perhaps more bytes, stand for
pub stores : (bs more : List ℕ) (xram : ℕ → ℕ) (a : ℕ) → AllBytes bs → with_bytes bs xram a ≡ with_number (length bs) xram a (bytes_value (bs ++ more))
stores [] more xram a all = refl
stores (b ∷ bs) more xram a all =
    let first = all.0 in
    let low : (b + 256 * bytes_value (bs ++ more)) % 256 ≡ b = omega (arith, first) in
    let high : (b + 256 * bytes_value (bs ++ more)) / 256 ≡ bytes_value (bs ++ more) = omega (arith, first) in
    stores bs more (update xram a b) (next_address a) all.1
    ∙ ap₂ (λ x y. with_number (length bs) (update xram a x) (next_address a) y) (sym low) (sym high)
