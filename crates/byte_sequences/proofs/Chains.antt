-- What a chain of operations over the bytes of a value does.
use Rattle.std.proofs.Common.{◌≡◌, ℕ, suc, ◌<◌, List, [], ◌∷◌, length, refl, ap, ap₂, ◌∙◌}
use Rattle.cerco_base.specs.Bytes.{AreBytes}
use Rattle.rtl.specs.declared.operations.Src.{Src}
use Rattle.rtl.specs.declared.operations.Src.TheVariants.{At, Byte}
use Rattle.rtl.specs.declared.operations.Arith.{Arith}
use Rattle.rtl.specs.Operations.{Op}
use Rattle.rtl.specs.Effects.{Storage, Loc, operand}
use Rattle.byte_sequences.specs.Sequences.{ats, literals, chain}
use Rattle.byte_sequences.proofs.Machine.{Cpu, done, all_done, byte, carry, read, operands, Off, OffAll, operands_off, made, results, last_carry}

-- no byte is written before it is read
abbrev pub Clear : List ℕ → List (Src ℕ) → List (Src ℕ) → Type 0
Clear [] [] [] = Unit {0}
Clear (t ∷ ts) (x ∷ xs) (y ∷ ys) = Off t ts × OffAll t xs × OffAll t ys × Clear ts xs ys
Clear _ _ _ = ⊥

pub record Chained (o : Arith) (ts : List ℕ) (xs ys : List (Src ℕ)) (c : Cpu) : Type 0 where
  pub values : read ts (all_done (chain o ts xs ys) c).see ≡ results o (operands xs c.see) (operands ys c.see) (carry c)
  pub carry_is : carry (all_done (chain o ts xs ys) c) ≡ last_carry o (operands xs c.see) (operands ys c.see) (carry c)
  pub same : (r : ℕ) → Off r ts → byte (all_done (chain o ts xs ys) c) r ≡ byte c r
  pub world : (all_done (chain o ts xs ys) c).world ≡ c.world

pub chained : (o : Arith) (ts : List ℕ) (xs ys : List (Src ℕ)) (c : Cpu) → Clear ts xs ys → Chained o ts xs ys c
chained o [] [] [] c h = record { values = refl; carry_is = refl; same = λ r off. refl; world = refl }
chained o (t ∷ ts) (x ∷ xs) (y ∷ ys) c h =
    let c1 : Cpu = done (Op o t x y) c in
    let one = made o t x y c in
    let rest = chained o ts xs ys c1 h.3 in
    let left = operands_off xs t c.see c1.see one.same h.1 in
    let right = operands_off ys t c.see c1.see one.same h.2 in
    record {
      values = ap₂ (λ b bs. b ∷ bs) (rest.same t h.0 ∙ one.at) (rest.values ∙ ap₂ (λ as' bs. results o as' bs (carry c1)) left right ∙ ap (results o (operands xs c.see) (operands ys c.see)) one.carry_is);
      carry_is = rest.carry_is ∙ ap₂ (λ as' bs. last_carry o as' bs (carry c1)) left right ∙ ap (last_carry o (operands xs c.see) (operands ys c.see)) one.carry_is;
      same = λ r off. rest.same r off.1 ∙ one.same r off.0;
      world = rest.world;
    }
chained o [] [] (y ∷ ys) c h = absurd h
chained o [] (x ∷ xs) ys c h = absurd h
chained o (t ∷ ts) [] ys c h = absurd h
chained o (t ∷ ts) (x ∷ xs) [] c h = absurd h

-- ---- operands

pub operands_ats : (ts : List ℕ) (see : Storage → ℕ) → operands (ats ts) see ≡ read ts see
operands_ats [] see = refl
operands_ats (t ∷ ts) see = ap (λ bs. see (Loc t) ∷ bs) (operands_ats ts see)

pub length_operands : (ts : List ℕ) (xs ys : List (Src ℕ)) (see : Storage → ℕ) → Clear ts xs ys → length (operands xs see) ≡ length ts
length_operands [] [] [] see h = refl
length_operands (t ∷ ts) (x ∷ xs) (y ∷ ys) see h = ap suc (length_operands ts xs ys see h.3)
length_operands [] [] (y ∷ ys) see h = absurd h
length_operands [] (x ∷ xs) ys see h = absurd h
length_operands (t ∷ ts) [] ys see h = absurd h
length_operands (t ∷ ts) (x ∷ xs) [] see h = absurd h

pub length_read : (ts : List ℕ) (see : Storage → ℕ) → length (read ts see) ≡ length ts
length_read [] see = refl
length_read (t ∷ ts) see = ap suc (length_read ts see)

-- locations hold bytes
abbrev pub HoldBytes : (Storage → ℕ) → Type 0
HoldBytes see = (r : ℕ) → see (Loc r) < 256

abbrev pub IsByteSource : Src ℕ → Type 0
IsByteSource (At a) = Unit {0}
IsByteSource (Byte b) = b < 256

abbrev pub AreByteSources : List (Src ℕ) → Type 0
AreByteSources [] = Unit {0}
AreByteSources (x ∷ xs) = IsByteSource x × AreByteSources xs

pub operand_byte : (x : Src ℕ) (see : Storage → ℕ) → IsByteSource x → HoldBytes see → operand x see < 256
operand_byte (At a) see is hold = hold a
operand_byte (Byte b) see is hold = is

pub operand_bytes : (ts : List ℕ) (xs ys : List (Src ℕ)) (see : Storage → ℕ) → Clear ts xs ys → AreByteSources xs → AreByteSources ys → HoldBytes see → AreBytes (operands xs see) (operands ys see)
operand_bytes [] [] [] see h f g hold = tt
operand_bytes (t ∷ ts) (x ∷ xs) (y ∷ ys) see h f g hold = (operand_byte x see f.0 hold, operand_byte y see g.0 hold, operand_bytes ts xs ys see h.3 f.1 g.1 hold)
operand_bytes [] [] (y ∷ ys) see h f g hold = absurd h
operand_bytes [] (x ∷ xs) ys see h f g hold = absurd h
operand_bytes (t ∷ ts) [] ys see h f g hold = absurd h
operand_bytes (t ∷ ts) (x ∷ xs) [] see h f g hold = absurd h

pub ats_bytes : (ts : List ℕ) → AreByteSources (ats ts)
ats_bytes [] = tt
ats_bytes (t ∷ ts) = (tt, ats_bytes ts)

pub literals_bytes : (b : ℕ) (ts : List ℕ) → b < 256 → AreByteSources (literals b ts)
literals_bytes b [] is = tt
literals_bytes b (t ∷ ts) is = (is, literals_bytes b ts is)
