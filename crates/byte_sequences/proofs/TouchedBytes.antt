-- Which bytes of external RAM sequences touch, and that they work on bytes.
use Rattle.std.proofs.Common.{◌≡◌, ℕ, zero, suc, ◌+◌, ◌*◌, ◌<◌, List, [], ◌∷◌, ◌++◌, length, Bool, true, false, Option, Some, None, refl, ap, ap₂, ◌∙◌, arith, append-nil}
use Rattle.cerco_traces.specs.Worlds.{addresses_from}
use Rattle.cerco_middle.specs.declared.operators.Held.{Held}
use Rattle.cerco_middle.specs.declared.operators.Held.TheVariants.{U8, I8, W16}
use Rattle.cerco_middle.specs.declared.operators.CmOp.{CmOp}
use Rattle.cerco_middle.specs.declared.operators.CmOp.TheVariants as o
use Rattle.cerco_middle.specs.declared.rtlabs.RtOp.{RtOp}
use Rattle.cerco_middle.specs.declared.rtlabs.RtOp.TheVariants as op
use Rattle.cerco_middle.specs.Operators.{held_addresses}
use Rattle.cerco_middle.specs.Calls.{variable_held}
use Rattle.rtl.specs.Operations.{ByteOp, Const, Move, Op, Mul, Div, Rem, Rlc, Rrc, Top, ClearCarry, SetCarry, FlipCarry, FromCarry, Load, Store, ReadPort, WritePort}
use Rattle.rtl.specs.Effects.{effect, pointer}
use Rattle.byte_sequences.specs.Words.{word_from, temporary}
use Rattle.byte_sequences.specs.Sequences.{held_part, moves, extension, reading, sum, repeated, load, store, half}
use Rattle.byte_sequences.specs.Operations.{operator_code, operation_code, result_code}
use Rattle.byte_sequences.proofs.Machine.{Cpu, done, value}
use Rattle.byte_sequences.proofs.Chains.{IsByteSource}
use Rattle.byte_sequences.proofs.SoundBytes.{IsByteOp, AreByteOps}
use Rattle.byte_sequences.proofs.OperationLaws.{number, pointer_is, length_part}

-- the addresses that operations touch in turn
abbrev pub all_touched : List (ByteOp ℕ) → Cpu → List ℕ
all_touched [] c = []
all_touched (op ∷ ops) c = (effect op c.see c.world).touched ++ all_touched ops (done op c)

-- an operation on bytes that touches none
abbrev pub IsCalm : ByteOp ℕ → Type 0
IsCalm (Const d n) = n < 256
IsCalm (Op o d a b) = IsByteSource a × IsByteSource b
IsCalm (Mul l h a b) = IsByteSource a × IsByteSource b
IsCalm (Load ds l h) = ⊥
IsCalm (Store l h ss) = ⊥
IsCalm _ = Unit {0}

abbrev pub AreCalm : List (ByteOp ℕ) → Type 0
AreCalm [] = Unit {0}
AreCalm (op ∷ ops) = IsCalm op × AreCalm ops

calm_touches : (op : ByteOp ℕ) (c : Cpu) → IsCalm op → (effect op c.see c.world).touched ≡ []
calm_touches (Load ds l h) c calm = absurd calm
calm_touches (Store l h ss) c calm = absurd calm
calm_touches (Const d n) c calm = refl
calm_touches (Move d s) c calm = refl
calm_touches (Op o d a b) c calm = refl
calm_touches (Mul l h a b) c calm = refl
calm_touches (Div d a b) c calm = refl
calm_touches (Rem d a b) c calm = refl
calm_touches (Rlc d a) c calm = refl
calm_touches (Rrc d a) c calm = refl
calm_touches (Top a) c calm = refl
calm_touches ClearCarry c calm = refl
calm_touches SetCarry c calm = refl
calm_touches FlipCarry c calm = refl
calm_touches (FromCarry d) c calm = refl
calm_touches (ReadPort d) c calm = refl
calm_touches (WritePort s) c calm = refl

calm_byte : (op : ByteOp ℕ) → IsCalm op → IsByteOp op
calm_byte (Load ds l h) calm = absurd calm
calm_byte (Store l h ss) calm = absurd calm
calm_byte (Const d n) calm = calm
calm_byte (Move d s) calm = calm
calm_byte (Op o d a b) calm = calm
calm_byte (Mul l h a b) calm = calm
calm_byte (Div d a b) calm = calm
calm_byte (Rem d a b) calm = calm
calm_byte (Rlc d a) calm = calm
calm_byte (Rrc d a) calm = calm
calm_byte (Top a) calm = calm
calm_byte ClearCarry calm = calm
calm_byte SetCarry calm = calm
calm_byte FlipCarry calm = calm
calm_byte (FromCarry d) calm = calm
calm_byte (ReadPort d) calm = calm
calm_byte (WritePort s) calm = calm

pub calm_bytes : (ops : List (ByteOp ℕ)) → AreCalm ops → AreByteOps ops
calm_bytes [] calm = tt
calm_bytes (op ∷ ops) calm = (calm_byte op calm.0, calm_bytes ops calm.1)

pub calm_none : (ops : List (ByteOp ℕ)) (c : Cpu) → AreCalm ops → all_touched ops c ≡ []
calm_none [] c calm = refl
calm_none (op ∷ ops) c calm = ap₂ (λ xs ys. xs ++ ys) (calm_touches op c calm.0) (calm_none ops (done op c) calm.1)

pub calm_append : (ops more : List (ByteOp ℕ)) → AreCalm ops → AreCalm more → AreCalm (ops ++ more)
calm_append [] more f g = g
calm_append (op ∷ ops) more f g = (f.0, calm_append ops more f.1 g)

calm_repeated : (k : ℕ) (ops : List (ByteOp ℕ)) → AreCalm ops → AreCalm (repeated k ops)
calm_repeated zero ops f = tt
calm_repeated (suc k) ops f = calm_append ops (repeated k ops) f (calm_repeated k ops f)

-- ---- the sequences, over words

pub calm_extension : (h : Held) (a : ℕ) → AreCalm (extension h (word_from number a))
calm_extension U8 a = (omega arith, tt)
calm_extension I8 a = (tt, ((tt, tt), tt))
calm_extension W16 a = tt

pub calm_moves : (h : Held) (a b : ℕ) → AreCalm (moves (held_part h (word_from number a)) (held_part h (word_from number b)))
calm_moves U8 a b = (tt, tt)
calm_moves I8 a b = (tt, tt)
calm_moves W16 a b = (tt, (tt, tt))

calm_reading : (h : Held) (a b : ℕ) → AreCalm (reading h (word_from number a) (word_from number b))
calm_reading h a b = calm_append (moves (held_part h (word_from number a)) (held_part h (word_from number b))) (extension h (word_from number a)) (calm_moves h a b) (calm_extension h a)

calm_operator : (s : ℕ) (o : CmOp) (a b : ℕ) → AreCalm (operator_code s o (word_from number a) (word_from number b))
calm_operator s o.Add a b = ((tt, tt), ((tt, tt), tt))
calm_operator s o.Sub a b = (tt, ((tt, tt), ((tt, tt), tt)))
calm_operator s o.Mul a b = ((tt, tt), tt)
calm_operator s o.Div a b = (tt, (omega arith, tt))
calm_operator s o.Rem a b = (tt, (omega arith, tt))
calm_operator s o.And a b = ((tt, tt), ((tt, tt), tt))
calm_operator s o.Or a b = ((tt, tt), ((tt, tt), tt))
calm_operator s o.Xor a b = ((tt, tt), ((tt, tt), tt))
calm_operator s o.Eq a b = (tt, ((tt, tt), ((tt, tt), ((tt, tt), ((tt, omega arith), (tt, (tt, (omega arith, tt))))))))
calm_operator s o.Ne a b = (tt, ((tt, tt), ((tt, tt), ((tt, tt), ((tt, omega arith), (tt, (omega arith, tt)))))))
calm_operator s o.LtS a b = ((tt, omega arith), ((tt, omega arith), (tt, ((tt, tt), ((tt, tt), (tt, (omega arith, tt)))))))
calm_operator s o.LtU a b = (tt, ((tt, tt), ((tt, tt), (tt, (omega arith, tt)))))
calm_operator s o.LeS a b = ((tt, omega arith), ((tt, omega arith), (tt, ((tt, tt), ((tt, tt), (tt, (tt, (omega arith, tt))))))))
calm_operator s o.LeU a b = (tt, ((tt, tt), ((tt, tt), (tt, (tt, (omega arith, tt))))))

calm_half : (keeps_sign : Bool) (a : ℕ) → AreCalm (half keeps_sign (word_from number a))
calm_half true a = (tt, (tt, (tt, tt)))
calm_half false a = (tt, (tt, (tt, tt)))

calm_result : (result : Option Held) (a b : ℕ) → AreCalm (result_code (word_from number a) result (word_from number b))
calm_result None a b = tt
calm_result (Some h) a b = calm_moves h a b

-- an operation that neither loads nor stores
abbrev pub LeavesMemory : RtOp → Type 0
LeavesMemory (op.Load h t) = ⊥
LeavesMemory (op.Store h t u) = ⊥
LeavesMemory _ = Unit {0}

pub calm_code : (held : List Held) (result : Option Held) (o : RtOp) → LeavesMemory o → AreCalm (operation_code number held result o)
calm_code held result (op.Load h t) leaves = absurd leaves
calm_code held result (op.Store h t u) leaves = absurd leaves
calm_code held result (op.Const t n) leaves = (omega arith, (omega arith, tt))
calm_code held result (op.Get t x) leaves = calm_reading (variable_held held x) (27 + 4 * t) (25 + 4 * x)
calm_code held result (op.Put x t) leaves = calm_moves (variable_held held x) (25 + 4 * x) (27 + 4 * t)
calm_code held result (op.Neg t) leaves = (tt, ((omega arith, tt), ((omega arith, tt), tt)))
calm_code held result (op.Not t) leaves = (tt, ((omega arith, tt), ((omega arith, tt), tt)))
calm_code held result (op.Narrow h t) leaves = calm_extension h (27 + 4 * t)
calm_code held result (op.Bin o t u) leaves = calm_operator 24 o (27 + 4 * t) (27 + 4 * u)
calm_code held result (op.Shl k t) leaves = calm_repeated k (sum (temporary number t) (temporary number t)) ((tt, tt), ((tt, tt), tt))
calm_code held result (op.Shr k keeps_sign t) leaves = calm_repeated k (half keeps_sign (temporary number t)) (calm_half keeps_sign (27 + 4 * t))
calm_code held result (op.ReadPort t) leaves = (tt, (omega arith, tt))
calm_code held result (op.WritePort t) leaves = (tt, tt)
calm_code held result (op.Arg h first_byte t) leaves = calm_moves h (12 + first_byte) (27 + 4 * t)
calm_code held result (op.Call g) leaves = tt
calm_code held result (op.Result h t) leaves = calm_reading h (27 + 4 * t) (12 + 0)
calm_code held result (op.Label l) leaves = tt
calm_code held result (op.Test t on_true on_false) leaves = ((tt, tt), tt)
calm_code held result op.Return leaves = tt
calm_code held result (op.ReturnValue t) leaves = calm_result result (12 + 0) (27 + 4 * t)

-- ---- external RAM

pub load_bytes : (h : Held) (a : ℕ) → AreByteOps (load h (word_from number a))
load_bytes h a = (tt, calm_bytes (extension h (word_from number a)) (calm_extension h a))

pub load_touches : (h : Held) (a : ℕ) (c : Cpu) → all_touched (load h (word_from number a)) c ≡ held_addresses h (value (word_from number a) c)
load_touches h a c =
    let part = held_part h (word_from number a) in
    ap (λ more. addresses_from (length part) (pointer a (a + 1) c.see) ++ more) (calm_none (extension h (word_from number a)) (done (Load part a (a + 1)) c) (calm_extension h a))
    ∙ append-nil (addresses_from (length part) (pointer a (a + 1) c.see))
    ∙ ap₂ addresses_from (length_part h a) (pointer_is a c)

pub store_touches : (h : Held) (a b : ℕ) (c : Cpu) → all_touched (store h (word_from number a) (word_from number b)) c ≡ held_addresses h (value (word_from number a) c)
store_touches h a b c =
    append-nil (addresses_from (length (held_part h (word_from number b))) (pointer a (a + 1) c.see)) ∙ ap₂ addresses_from (length_part h b) (pointer_is a c)
