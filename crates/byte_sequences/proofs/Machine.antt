-- What sequences of byte operations do, where one map holds all values.
use Rattle.std.proofs.Common.{◌≡◌, ◌≢◌, ℕ, List, [], ◌∷◌, ◌++◌, Bool, true, false, refl, sym, ap, ap₂, ◌∙◌}
use Rattle.cerco_base.specs.Bytes.{bit_value, carries, borrows, bytes_value}
use Rattle.cerco_traces.specs.Worlds.{World}
use Rattle.rtl.specs.declared.operations.Src.{Src}
use Rattle.rtl.specs.declared.operations.Src.TheVariants.{At, Byte}
use Rattle.rtl.specs.declared.operations.Arith.{Arith}
use Rattle.rtl.specs.declared.operations.Arith.TheVariants.{Add, Addc, Subb, And, Or, Xor}
use Rattle.rtl.specs.Operations.{ByteOp, Op}
use Rattle.rtl.specs.Effects.{Storage, Loc, Carry, is_set, operand, arith_byte, effect}
use Rattle.rtl.specs.Meaning.{with_value, shared_after, shares_all}
use Rattle.rtl.proofs.ValueLaws.{value_same, value_other}

pub record Cpu : Type 0 where
  pub see : Storage → ℕ
  pub world : World

abbrev pub done : ByteOp ℕ → Cpu → Cpu
done op c = record { see = shared_after shares_all (effect op c.see c.world).sets c.see; world = (effect op c.see c.world).world }

abbrev pub all_done : List (ByteOp ℕ) → Cpu → Cpu
all_done [] c = c
all_done (op ∷ ops) c = all_done ops (done op c)

pub all_done_append : (ops more : List (ByteOp ℕ)) (c : Cpu) → all_done (ops ++ more) c ≡ all_done more (all_done ops c)
all_done_append [] more c = refl
all_done_append (op ∷ ops) more c = all_done_append ops more (done op c)

-- ---- what is held

abbrev pub byte : Cpu → ℕ → ℕ
byte c r = c.see (Loc r)

abbrev pub carry : Cpu → Bool
carry c = is_set (c.see Carry)

abbrev pub read : List ℕ → (Storage → ℕ) → List ℕ
read [] see = []
read (t ∷ ts) see = see (Loc t) ∷ read ts see

abbrev pub operands : List (Src ℕ) → (Storage → ℕ) → List ℕ
operands [] see = []
operands (x ∷ xs) see = operand x see ∷ operands xs see

-- the number at these locations
abbrev pub value : List ℕ → Cpu → ℕ
value ts c = bytes_value (read ts c.see)

-- r is none of these
abbrev pub Off : ℕ → List ℕ → Type 0
Off r [] = Unit {0}
Off r (t ∷ ts) = (r ≢ t) × Off r ts

abbrev pub OffOne : ℕ → Src ℕ → Type 0
OffOne r (At a) = r ≢ a
OffOne r (Byte b) = Unit {0}

abbrev pub OffAll : ℕ → List (Src ℕ) → Type 0
OffAll r [] = Unit {0}
OffAll r (x ∷ xs) = OffOne r x × OffAll r xs

-- all locations but t are seen alike
abbrev pub AlikeBut : ℕ → (Storage → ℕ) → (Storage → ℕ) → Type 0
AlikeBut t see see' = (r : ℕ) → r ≢ t → see' (Loc r) ≡ see (Loc r)

pub read_off : (ts : List ℕ) (r : ℕ) (see see' : Storage → ℕ) → AlikeBut r see see' → Off r ts → read ts see' ≡ read ts see
read_off [] r see see' alike off = refl
read_off (t ∷ ts) r see see' alike off = ap₂ (λ b bs. b ∷ bs) (alike t (λ e. off.0 (sym e))) (read_off ts r see see' alike off.1)

pub operand_off : (x : Src ℕ) (r : ℕ) (see see' : Storage → ℕ) → AlikeBut r see see' → OffOne r x → operand x see' ≡ operand x see
operand_off (At a) r see see' alike off = alike a (λ e. off (sym e))
operand_off (Byte b) r see see' alike off = refl

pub operands_off : (xs : List (Src ℕ)) (r : ℕ) (see see' : Storage → ℕ) → AlikeBut r see see' → OffAll r xs → operands xs see' ≡ operands xs see
operands_off [] r see see' alike off = refl
operands_off (x ∷ xs) r see see' alike off = ap₂ (λ b bs. b ∷ bs) (operand_off x r see see' alike off.0) (operands_off xs r see see' alike off.1)

-- locations that are seen alike
pub read_same : (ts : List ℕ) (see see' : Storage → ℕ) → ((r : ℕ) → see' (Loc r) ≡ see (Loc r)) → read ts see' ≡ read ts see
read_same [] see see' alike = refl
read_same (t ∷ ts) see see' alike = ap₂ (λ b bs. b ∷ bs) (alike t) (read_same ts see see' alike)

operand_same : (x : Src ℕ) (see see' : Storage → ℕ) → ((r : ℕ) → see' (Loc r) ≡ see (Loc r)) → operand x see' ≡ operand x see
operand_same (At a) see see' alike = alike a
operand_same (Byte b) see see' alike = refl

pub operands_same : (xs : List (Src ℕ)) (see see' : Storage → ℕ) → ((r : ℕ) → see' (Loc r) ≡ see (Loc r)) → operands xs see' ≡ operands xs see
operands_same [] see see' alike = refl
operands_same (x ∷ xs) see see' alike = ap₂ (λ b bs. b ∷ bs) (operand_same x see see' alike) (operands_same xs see see' alike)

-- ---- one value more

-- where a location gets a value
pub at_same : (see : Storage → ℕ) (t v : ℕ) → with_value see (Loc t) v (Loc t) ≡ v
at_same see t v = value_same see (Loc t) v

number_of : {r t : ℕ} → Loc r ≡ Loc t → r ≡ t
number_of e = cc

no_carry : {t : ℕ} → Loc t ≡ Carry → ⊥
no_carry e = cc

no_location : {t : ℕ} → Carry ≡ Loc t → ⊥
no_location e = cc

pub at_other : (see : Storage → ℕ) (t v : ℕ) → AlikeBut t see (with_value see (Loc t) v)
at_other see t v r other = value_other see (Loc t) v (Loc r) (λ e. other (number_of e))

pub carry_past : (see : Storage → ℕ) (t v : ℕ) → with_value see (Loc t) v Carry ≡ see Carry
carry_past see t v = value_other see (Loc t) v Carry (λ e. no_location e)

-- where the carry gets one
pub carry_same : (see : Storage → ℕ) (v : ℕ) → with_value see Carry v Carry ≡ v
carry_same see v = value_same see Carry v

pub at_past : (see : Storage → ℕ) (v r : ℕ) → with_value see Carry v (Loc r) ≡ see (Loc r)
at_past see v r = value_other see Carry v (Loc r) (λ e. no_carry e)

pub bit_is_set : (b : Bool) → is_set (bit_value b) ≡ b
bit_is_set true = refl
bit_is_set false = refl

-- a location and then the carry get values
pub record SetsBoth (see : Storage → ℕ) (t v k : ℕ) (see' : Storage → ℕ) : Type 0 where
  pub at : see' (Loc t) ≡ v
  pub carry_is : see' Carry ≡ k
  pub same : AlikeBut t see see'

pub sets_both : (see : Storage → ℕ) (t v k : ℕ) → SetsBoth see t v k (with_value (with_value see (Loc t) v) Carry k)
sets_both see t v k = record {
  at = at_past _ k t ∙ at_same see t v;
  carry_is = carry_same _ k;
  same = λ r other. at_past _ k r ∙ at_other see t v r other;
}

-- ---- operations on two bytes

-- the carry that is used of this one, and the one after
abbrev pub used : Arith → Bool → Bool
used Addc c = c
used Subb c = c
used _ c = false

abbrev pub carry_after : Arith → ℕ → ℕ → Bool → Bool
carry_after Add a b c = carries 256 a b false
carry_after Addc a b c = carries 256 a b c
carry_after Subb a b c = borrows 256 a b c
carry_after _ a b c = c

pub record Made (o : Arith) (t : ℕ) (x y : Src ℕ) (c : Cpu) : Type 0 where
  pub at : byte (done (Op o t x y) c) t ≡ arith_byte o (operand x c.see) (operand y c.see) (used o (carry c))
  pub carry_is : carry (done (Op o t x y) c) ≡ carry_after o (operand x c.see) (operand y c.see) (carry c)
  pub same : AlikeBut t c.see (done (Op o t x y) c).see

pub made : (o : Arith) (t : ℕ) (x y : Src ℕ) (c : Cpu) → Made o t x y c
made Add t x y c = let both = sets_both c.see t _ _ in record { at = both.at; carry_is = ap is_set both.carry_is ∙ bit_is_set _; same = both.same }
made Addc t x y c = let both = sets_both c.see t _ _ in record { at = both.at; carry_is = ap is_set both.carry_is ∙ bit_is_set _; same = both.same }
made Subb t x y c = let both = sets_both c.see t _ _ in record { at = both.at; carry_is = ap is_set both.carry_is ∙ bit_is_set _; same = both.same }
made And t x y c = record { at = at_same c.see t _; carry_is = ap is_set (carry_past c.see t _); same = at_other c.see t _ }
made Or t x y c = record { at = at_same c.see t _; carry_is = ap is_set (carry_past c.see t _); same = at_other c.see t _ }
made Xor t x y c = record { at = at_same c.see t _; carry_is = ap is_set (carry_past c.see t _); same = at_other c.see t _ }

-- ---- chains of them

abbrev pub results : Arith → List ℕ → List ℕ → Bool → List ℕ
results o [] bs c = []
results o (a ∷ as') [] c = []
results o (a ∷ as') (b ∷ bs) c = arith_byte o a b (used o c) ∷ results o as' bs (carry_after o a b c)

abbrev pub last_carry : Arith → List ℕ → List ℕ → Bool → Bool
last_carry o [] bs c = c
last_carry o (a ∷ as') [] c = c
last_carry o (a ∷ as') (b ∷ bs) c = last_carry o as' bs (carry_after o a b c)
