-- Bytes stay bytes: those at locations, in external RAM and in the port script.
use Rattle.std.proofs.Common.{◌≡◌, ℕ, zero, suc, ◌*◌, ◌/◌, ◌%◌, ◌<◌, List, [], ◌∷◌, ◌++◌, map, drop, Bool, false, ⊎_elim, sym, subst, arith}
use Rattle.std.proofs.lemmas.Nat.{and_le_l, or_of_8, xor_of_8, mul-le}
use Rattle.std.proofs.lemmas.Bool.Decides.{eqb_tells}
use Rattle.std.proofs.Math.Nat.{mod-lt, div-le_self}
use Rattle.cerco_base.specs.Bytes.{bit_value}
use Rattle.cerco_base.specs.Events.{next_reading}
use Rattle.cerco_base.proofs.ByteLaws.{bit_value_le, sum_byte_lt, difference_byte_lt}
use Rattle.cerco_traces.specs.Worlds.{World, update, next_address}
use Rattle.cerco_traces.proofs.WorldLaws.{update_same, update_other}
use Rattle.rtl.specs.declared.operations.Src.{Src}
use Rattle.rtl.specs.declared.operations.Arith.{Arith}
use Rattle.rtl.specs.declared.operations.Arith.TheVariants.{Add, Addc, Subb, And, Or, Xor}
use Rattle.rtl.specs.Operations.{ByteOp, Const, Move, Op, Mul, Div, Rem, Rlc, Rrc, Top, ClearCarry, SetCarry, FlipCarry, FromCarry, Load, Store, ReadPort, WritePort}
use Rattle.rtl.specs.Effects.{Storage, Loc, Carry, is_set, operand, arith_byte, quotient, remainder, turned_left, turned_right, load_sets, with_bytes, pointer}
use Rattle.rtl.specs.Meaning.{with_value, shared_after, shares_all}
use Rattle.byte_sequences.specs.Sequences.{ats, chain, sum, joins, repeated}
use Rattle.byte_sequences.proofs.Machine.{Cpu, done, all_done, byte, at_same, at_other, at_past}
use Rattle.byte_sequences.proofs.Chains.{HoldBytes, IsByteSource, AreByteSources, operand_byte, ats_bytes}
use Rattle.byte_sequences.proofs.MoveLaws.{AllBytes, read_all_bytes, read_as_map}

-- external RAM has bytes, and so has the script
pub record IsByteWorld (w : World) : Type 0 where
  pub xram : (a : ℕ) → w.xram a < 256
  pub script : AllBytes w.script

pub record HasBytes (c : Cpu) : Type 0 where
  pub hold : HoldBytes c.see
  pub world : IsByteWorld c.world

abbrev pub IsByteOp : ByteOp ℕ → Type 0
IsByteOp (Const d n) = n < 256
IsByteOp (Op o d a b) = IsByteSource a × IsByteSource b
IsByteOp (Mul l h a b) = IsByteSource a × IsByteSource b
IsByteOp _ = Unit {0}

abbrev pub AreByteOps : List (ByteOp ℕ) → Type 0
AreByteOps [] = Unit {0}
AreByteOps (op ∷ ops) = IsByteOp op × AreByteOps ops

-- ---- one value more

pub with_byte : (see : Storage → ℕ) (t v : ℕ) → v < 256 → HoldBytes see → HoldBytes (with_value see (Loc t) v)
with_byte see t v small hold r =
    ⊎_elim
    (λ a. let e = subst (λ p. with_value see (Loc t) v (Loc p) ≡ v) (sym a.1) (at_same see t v) in subst (λ x. x < 256) (sym e) small)
    (λ a. subst (λ x. x < 256) (sym (at_other see t v r a.1)) (hold r))
    (eqb_tells r t)

pub with_carry : (see : Storage → ℕ) (k : ℕ) → HoldBytes see → HoldBytes (with_value see Carry k)
with_carry see k hold r = subst (λ x. x < 256) (sym (at_past see k r)) (hold r)

-- ---- results

arith_lt : (o : Arith) (a b : ℕ) (c : Bool) → a < 256 → b < 256 → arith_byte o a b c < 256
arith_lt Add a b c h h' = sum_byte_lt a b c
arith_lt Addc a b c h h' = sum_byte_lt a b c
arith_lt Subb a b c h h' = difference_byte_lt a b c
arith_lt And a b c h h' = let l = and_le_l a b in omega (arith, l, h)
arith_lt Or a b c h h' = or_of_8 a b h h'
arith_lt Xor a b c h h' = xor_of_8 a b h h'

product_lt : (a b : ℕ) → a < 256 → b < 256 → a * b / 256 < 256
product_lt a b h h' = let l = mul-le a b 255 255 (omega (arith, h)) (omega (arith, h')) in omega (arith, l)

quotient_lt : (a b : ℕ) → a < 256 → quotient a b < 256
quotient_lt a zero h = h
quotient_lt a (suc b) h = let l = div-le_self a (suc b) in omega (arith, l, h)

remainder_lt : (a b : ℕ) → b < 256 → remainder a b < 256
remainder_lt a zero h = omega arith
remainder_lt a (suc b) h = let l : a % suc b < suc b = mod-lt a (omega arith) in omega (arith, l, h)

half_lt : (a : ℕ) (b : Bool) → a < 256 → turned_right a b < 256
half_lt a b h = let l = bit_value_le b in omega (arith, l, h)

twice_lt : (a : ℕ) (b : Bool) → turned_left a b < 256
twice_lt a b = let l = bit_value_le b in omega (arith, l)

bit_lt : (b : Bool) → bit_value b < 256
bit_lt b = let l = bit_value_le b in omega (arith, l)

-- ---- external RAM and the script

loads_hold : (ds : List ℕ) (xram : ℕ → ℕ) (a : ℕ) (see : Storage → ℕ) → ((b : ℕ) → xram b < 256) → HoldBytes see → HoldBytes (shared_after shares_all (load_sets ds xram a) see)
loads_hold [] xram a see bytes hold = hold
loads_hold (d ∷ ds) xram a see bytes hold = loads_hold ds xram (next_address a) _ bytes (with_byte see d (xram a) (bytes a) hold)

update_lt : (xram : ℕ → ℕ) (a v : ℕ) → v < 256 → ((b : ℕ) → xram b < 256) → (b : ℕ) → update xram a v b < 256
update_lt xram a v small bytes b =
    ⊎_elim
    (λ e. subst (λ x. x < 256) (sym (update_same xram a b v e.1)) small)
    (λ e. subst (λ x. x < 256) (sym (update_other xram a b v e.1)) (bytes b))
    (eqb_tells b a)

with_bytes_lt : (bs : List ℕ) (xram : ℕ → ℕ) (a : ℕ) → AllBytes bs → ((b : ℕ) → xram b < 256) → (b : ℕ) → with_bytes bs xram a b < 256
with_bytes_lt [] xram a all bytes = bytes
with_bytes_lt (v ∷ bs) xram a all bytes = with_bytes_lt bs (update xram a v) (next_address a) all.1 (update_lt xram a v all.0 bytes)

pub reading_lt : (script : List ℕ) → AllBytes script → next_reading script < 256
reading_lt [] all = omega arith
reading_lt (b ∷ bs) all = all.0

pub rest_bytes : (script : List ℕ) → AllBytes script → AllBytes (drop 1 script)
rest_bytes [] all = tt
rest_bytes (b ∷ bs) all = all.1

-- ---- all operations

arith_holds : (o : Arith) (d : ℕ) (x y : Src ℕ) (c : Cpu) → IsByteSource x → IsByteSource y → HasBytes c → HasBytes (done (Op o d x y) c)
arith_holds Add d x y c h h' has = record { hold = with_carry _ _ (with_byte c.see d _ (arith_lt Add (operand x c.see) (operand y c.see) false (operand_byte x c.see h has.hold) (operand_byte y c.see h' has.hold)) has.hold); world = has.world }
arith_holds Addc d x y c h h' has = record { hold = with_carry _ _ (with_byte c.see d _ (arith_lt Addc (operand x c.see) (operand y c.see) (is_set (c.see Carry)) (operand_byte x c.see h has.hold) (operand_byte y c.see h' has.hold)) has.hold); world = has.world }
arith_holds Subb d x y c h h' has = record { hold = with_carry _ _ (with_byte c.see d _ (arith_lt Subb (operand x c.see) (operand y c.see) (is_set (c.see Carry)) (operand_byte x c.see h has.hold) (operand_byte y c.see h' has.hold)) has.hold); world = has.world }
arith_holds And d x y c h h' has = record { hold = with_byte c.see d _ (arith_lt And (operand x c.see) (operand y c.see) false (operand_byte x c.see h has.hold) (operand_byte y c.see h' has.hold)) has.hold; world = has.world }
arith_holds Or d x y c h h' has = record { hold = with_byte c.see d _ (arith_lt Or (operand x c.see) (operand y c.see) false (operand_byte x c.see h has.hold) (operand_byte y c.see h' has.hold)) has.hold; world = has.world }
arith_holds Xor d x y c h h' has = record { hold = with_byte c.see d _ (arith_lt Xor (operand x c.see) (operand y c.see) false (operand_byte x c.see h has.hold) (operand_byte y c.see h' has.hold)) has.hold; world = has.world }

pub done_has_bytes : (op : ByteOp ℕ) (c : Cpu) → IsByteOp op → HasBytes c → HasBytes (done op c)
done_has_bytes (Const d n) c f has = record { hold = with_byte c.see d n f has.hold; world = has.world }
done_has_bytes (Move d s) c f has = record { hold = with_byte c.see d (byte c s) (has.hold s) has.hold; world = has.world }
done_has_bytes (Op o d x y) c f has = arith_holds o d x y c f.0 f.1 has
done_has_bytes (Mul l h x y) c f has =
    let p = product_lt (operand x c.see) (operand y c.see) (operand_byte x c.see f.0 has.hold) (operand_byte y c.see f.1 has.hold) in
    let low : operand x c.see * operand y c.see % 256 < 256 = omega arith in
    record { hold = with_carry _ 0 (with_byte _ h _ p (with_byte c.see l _ low has.hold)); world = has.world }
done_has_bytes (Div d a b) c f has = record { hold = with_carry _ 0 (with_byte c.see d _ (quotient_lt (byte c a) (byte c b) (has.hold a)) has.hold); world = has.world }
done_has_bytes (Rem d a b) c f has = record { hold = with_carry _ 0 (with_byte c.see d _ (remainder_lt (byte c a) (byte c b) (has.hold b)) has.hold); world = has.world }
done_has_bytes (Rlc d a) c f has = record { hold = with_carry _ _ (with_byte c.see d _ (twice_lt (byte c a) (is_set (c.see Carry))) has.hold); world = has.world }
done_has_bytes (Rrc d a) c f has = record { hold = with_carry _ _ (with_byte c.see d _ (half_lt (byte c a) (is_set (c.see Carry)) (has.hold a)) has.hold); world = has.world }
done_has_bytes (Top a) c f has = record { hold = with_carry c.see _ has.hold; world = has.world }
done_has_bytes ClearCarry c f has = record { hold = with_carry c.see 0 has.hold; world = has.world }
done_has_bytes SetCarry c f has = record { hold = with_carry c.see 1 has.hold; world = has.world }
done_has_bytes FlipCarry c f has = record { hold = with_carry c.see _ has.hold; world = has.world }
done_has_bytes (FromCarry d) c f has = record { hold = with_carry _ 0 (with_byte c.see d _ (bit_lt (is_set (c.see Carry))) has.hold); world = has.world }
done_has_bytes (Load ds l h) c f has = record { hold = loads_hold ds c.world.xram (pointer l h c.see) c.see has.world.xram has.hold; world = has.world }
done_has_bytes (Store l h ss) c f has =
    let bytes = subst AllBytes (sym (read_as_map ss c.see)) (read_all_bytes ss c.see has.hold) in
    record { hold = has.hold; world = record { xram = with_bytes_lt (map (λ s. c.see (Loc s)) ss) c.world.xram (pointer l h c.see) bytes has.world.xram; script = has.world.script } }
done_has_bytes (ReadPort d) c f has = record { hold = with_byte c.see d _ (reading_lt c.world.script has.world.script) has.hold; world = record { xram = has.world.xram; script = rest_bytes c.world.script has.world.script } }
done_has_bytes (WritePort s) c f has = record { hold = has.hold; world = record { xram = has.world.xram; script = has.world.script } }

pub all_done_has_bytes : (ops : List (ByteOp ℕ)) (c : Cpu) → AreByteOps ops → HasBytes c → HasBytes (all_done ops c)
all_done_has_bytes [] c f has = has
all_done_has_bytes (op ∷ ops) c f has = all_done_has_bytes ops (done op c) f.1 (done_has_bytes op c f.0 has)

-- ---- lists of operations

pub chain_byte_ops : (o : Arith) (ts : List ℕ) (xs ys : List (Src ℕ)) → AreByteSources xs → AreByteSources ys → AreByteOps (chain o ts xs ys)
chain_byte_ops o [] xs ys f g = tt
chain_byte_ops o (t ∷ ts) [] ys f g = tt
chain_byte_ops o (t ∷ ts) (x ∷ xs) [] f g = tt
chain_byte_ops o (t ∷ ts) (x ∷ xs) (y ∷ ys) f g = ((f.0, g.0), chain_byte_ops o ts xs ys f.1 g.1)

pub sum_byte_ops : (ts us : List ℕ) → AreByteOps (sum ts us)
sum_byte_ops [] us = tt
sum_byte_ops (t ∷ ts) [] = tt
sum_byte_ops (t ∷ ts) (u ∷ us) = ((tt, tt), chain_byte_ops Addc ts (ats ts) (ats us) (ats_bytes ts) (ats_bytes us))

pub joins_byte_ops : (t : ℕ) (us : List ℕ) → AreByteOps (joins t us)
joins_byte_ops t [] = tt
joins_byte_ops t (u ∷ us) = ((tt, tt), joins_byte_ops t us)

pub byte_ops_append : (ops more : List (ByteOp ℕ)) → AreByteOps ops → AreByteOps more → AreByteOps (ops ++ more)
byte_ops_append [] more f g = g
byte_ops_append (op ∷ ops) more f g = (f.0, byte_ops_append ops more f.1 g)

pub byte_ops_repeated : (k : ℕ) (ops : List (ByteOp ℕ)) → AreByteOps ops → AreByteOps (repeated k ops)
byte_ops_repeated zero ops f = tt
byte_ops_repeated (suc k) ops f = byte_ops_append ops (repeated k ops) f (byte_ops_repeated k ops f)
