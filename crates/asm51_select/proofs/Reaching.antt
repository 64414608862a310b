-- What the instructions do that reach places: one lemma for each way to reach them.
use Rattle.std.proofs.Common.{◌≡◌, ℕ, zero, suc, ◌<◌, [], slice_index, slice_set, refl, sym, ap, ◌∙◌, subst, arith}
use Rattle.mcs51_isa.specs.declared.instr.Instr.TheVariants as Instruction
use Rattle.mcs51_isa.specs.declared.instr.SumOp.{SumOp}
use Rattle.mcs51_isa.specs.declared.instr.Logic.{Logic}
use Rattle.mcs51_isa.specs.Operands.{reg_number, reg_of}
use Rattle.sim51.specs.State.{Core}
use Rattle.sim51.specs.Locations.{location_of, held, written, register, with_register}
use Rattle.sim51.specs.Effect.{effect, goes_to, arithmetic, logical}
use Rattle.sim51.proofs.Laws.{location_of-ram}
use Rattle.sim51.proofs.Cells.{IsQuiet as IsNoPort, mov_acc_direct, mov_direct_acc, mov_direct_immediate, mov_register_direct, mov_direct_register, arith_direct, logic_direct, mov_direct_direct, register_bank_0, with_register_bank_0}
use Rattle.rtl.specs.declared.locations.Place.{Place}
use Rattle.rtl.specs.declared.locations.Place.TheVariants.{Reg, Arg, Cell}
use Rattle.rtl.specs.declared.operations.Src.{Src}
use Rattle.rtl.specs.declared.operations.Src.TheVariants.{Byte}
use Rattle.rtl.specs.Locations.{place_number, place_address}
use Rattle.rtl.specs.Effects.{Storage, Loc, operand}
use Rattle.rtl.specs.Graphs.{renamed_operand}
use Rattle.rtl.specs.WellFormed.{IsPlace}
use Rattle.asm51_select.specs.Translation.{direct_address, take_code, give_code, special_code, give_b_code, sum_code, logic_code, constant_code, copy_code}
use Rattle.asm51_select.proofs.Steps.{IsQuiet}
use Rattle.asm51_select.proofs.Held.{address_below, direct_is, HoldsIn}

-- the operand is a byte, or at a place that the processor has
abbrev pub IsOperand : Src Place → Type 0
IsOperand (Src.At p) = IsPlace p
IsOperand (Byte n) = Unit {0}

abbrev pub value_of : Src Place → (Storage → ℕ) → ℕ
value_of a m = operand (renamed_operand place_number a) m

-- the core with another byte at a place
abbrev pub stored_at : Core → Place → ℕ → Core
stored_at c d v = record c { iram = slice_set c.iram (place_address d) v }

reg_there : (n : ℕ) → n < 8 → reg_number (reg_of n) ≡ n
reg_there zero lt = refl
reg_there (suc zero) lt = refl
reg_there (suc (suc zero)) lt = refl
reg_there (suc (suc (suc zero))) lt = refl
reg_there (suc (suc (suc (suc zero)))) lt = refl
reg_there (suc (suc (suc (suc (suc zero))))) lt = refl
reg_there (suc (suc (suc (suc (suc (suc zero)))))) lt = refl
reg_there (suc (suc (suc (suc (suc (suc (suc zero))))))) lt = refl
reg_there (suc (suc (suc (suc (suc (suc (suc (suc n)))))))) lt = absurd (omega arith)

module _ (c : Core) (m : Storage → ℕ) (h : HoldsIn c m) where
  -- the direct address of a place names its byte of internal RAM
  quiet_at : (p : Place) → IsPlace p → IsNoPort (location_of (direct_address p))
  quiet_at p ok = subst IsNoPort (sym (ap location_of (direct_is p ok) ∙ location_of-ram (place_address p) (address_below p ok))) tt

  held_at : (p : Place) → IsPlace p → held c (location_of (direct_address p)) ≡ m (Loc (place_number p))
  held_at p ok = ap (held c) (ap location_of (direct_is p ok) ∙ location_of-ram (place_address p) (address_below p ok)) ∙ h.places p ok

  written_at : (p : Place) (v : ℕ) → IsPlace p → written c (location_of (direct_address p)) v ≡ stored_at c p v
  written_at p v ok = ap (λ l. written c l v) (ap location_of (direct_is p ok) ∙ location_of-ram (place_address p) (address_below p ok))

  register_holds : (n : ℕ) → IsPlace (Reg n) → register c (reg_of n) ≡ m (Loc (place_number (Reg n)))
  register_holds n ok = register_bank_0 c h.upper h.lower (reg_of n) ∙ ap (slice_index c.iram) (reg_there n (omega (arith, ok.1))) ∙ h.places (Reg n) ok

  register_takes : (n v : ℕ) → IsPlace (Reg n) → with_register c (reg_of n) v ≡ stored_at c (Reg n) v
  register_takes n v ok = with_register_bank_0 c h.upper h.lower (reg_of n) v ∙ ap (λ k. record c { iram = slice_set c.iram k v }) (reg_there n (omega (arith, ok.1)))

  pub takes : (a : Src Place) → IsOperand a → IsQuiet (take_code a) c (record c { acc = value_of a m })
  takes (Src.At (Reg n)) ok = record { effect_is = ap (λ v. goes_to 0 (record c { acc = v })) (register_holds n ok); touches = refl }
  takes (Src.At (Arg n)) ok = record { effect_is = mov_acc_direct [] 0 c (direct_address (Arg n)) _ refl (quiet_at (Arg n) ok) ∙ ap (λ v. goes_to 0 (record c { acc = v })) (held_at (Arg n) ok); touches = refl }
  takes (Src.At (Cell n)) ok = record { effect_is = mov_acc_direct [] 0 c (direct_address (Cell n)) _ refl (quiet_at (Cell n) ok) ∙ ap (λ v. goes_to 0 (record c { acc = v })) (held_at (Cell n) ok); touches = refl }
  takes (Byte n) ok = record { effect_is = refl; touches = refl }

  pub gives : (d : Place) → IsPlace d → IsQuiet (give_code d) c (stored_at c d c.acc)
  gives (Reg n) ok = record { effect_is = ap (goes_to 0) (register_takes n c.acc ok); touches = refl }
  gives (Arg n) ok = record { effect_is = mov_direct_acc [] 0 c (direct_address (Arg n)) _ refl (quiet_at (Arg n) ok) ∙ ap (goes_to 0) (written_at (Arg n) c.acc ok); touches = refl }
  gives (Cell n) ok = record { effect_is = mov_direct_acc [] 0 c (direct_address (Cell n)) _ refl (quiet_at (Cell n) ok) ∙ ap (goes_to 0) (written_at (Cell n) c.acc ok); touches = refl }

  -- a special register other than a port
  pub sets_special : (x : ℕ) → IsNoPort (location_of x) → (a : Src Place) → IsOperand a → IsQuiet (special_code x a) c (written c (location_of x) (value_of a m))
  sets_special x quiet (Src.At (Reg n)) ok = record { effect_is = mov_direct_register [] 0 c x _ refl quiet (reg_of n) ∙ ap (λ v. goes_to 0 (written c (location_of x) v)) (register_holds n ok); touches = refl }
  sets_special x quiet (Src.At (Arg n)) ok = record { effect_is = mov_direct_direct [] 0 c (direct_address (Arg n)) _ refl (quiet_at (Arg n) ok) x _ refl quiet ∙ ap (λ v. goes_to 0 (written c (location_of x) v)) (held_at (Arg n) ok); touches = refl }
  sets_special x quiet (Src.At (Cell n)) ok = record { effect_is = mov_direct_direct [] 0 c (direct_address (Cell n)) _ refl (quiet_at (Cell n) ok) x _ refl quiet ∙ ap (λ v. goes_to 0 (written c (location_of x) v)) (held_at (Cell n) ok); touches = refl }
  sets_special x quiet (Byte n) ok = record { effect_is = mov_direct_immediate [] 0 c x _ refl quiet n; touches = refl }

  pub gives_b : (d : Place) → IsPlace d → IsQuiet (give_b_code d) c (stored_at c d c.b)
  gives_b (Reg n) ok = record { effect_is = mov_register_direct [] 0 c 0xF0 _ refl tt (reg_of n) ∙ ap (goes_to 0) (register_takes n c.b ok); touches = refl }
  gives_b (Arg n) ok = record { effect_is = mov_direct_direct [] 0 c 0xF0 _ refl tt (direct_address (Arg n)) _ refl (quiet_at (Arg n) ok) ∙ ap (goes_to 0) (written_at (Arg n) c.b ok); touches = refl }
  gives_b (Cell n) ok = record { effect_is = mov_direct_direct [] 0 c 0xF0 _ refl tt (direct_address (Cell n)) _ refl (quiet_at (Cell n) ok) ∙ ap (goes_to 0) (written_at (Cell n) c.b ok); touches = refl }

  pub sums : (op : SumOp) (a : Src Place) → IsOperand a → IsQuiet (sum_code op a) c (arithmetic op c (value_of a m))
  sums op (Src.At (Reg n)) ok = record { effect_is = ap (λ v. goes_to 0 (arithmetic op c v)) (register_holds n ok); touches = refl }
  sums op (Src.At (Arg n)) ok = record { effect_is = arith_direct [] 0 c (direct_address (Arg n)) _ refl (quiet_at (Arg n) ok) op ∙ ap (λ v. goes_to 0 (arithmetic op c v)) (held_at (Arg n) ok); touches = refl }
  sums op (Src.At (Cell n)) ok = record { effect_is = arith_direct [] 0 c (direct_address (Cell n)) _ refl (quiet_at (Cell n) ok) op ∙ ap (λ v. goes_to 0 (arithmetic op c v)) (held_at (Cell n) ok); touches = refl }
  sums op (Byte n) ok = record { effect_is = refl; touches = refl }

  pub logics : (op : Logic) (a : Src Place) → IsOperand a → IsQuiet (logic_code op a) c (record c { acc = logical op c.acc (value_of a m) })
  logics op (Src.At (Reg n)) ok = record { effect_is = ap (λ v. goes_to 0 (record c { acc = logical op c.acc v })) (register_holds n ok); touches = refl }
  logics op (Src.At (Arg n)) ok = record { effect_is = logic_direct [] 0 c (direct_address (Arg n)) _ refl (quiet_at (Arg n) ok) op ∙ ap (λ v. goes_to 0 (record c { acc = logical op c.acc v })) (held_at (Arg n) ok); touches = refl }
  logics op (Src.At (Cell n)) ok = record { effect_is = logic_direct [] 0 c (direct_address (Cell n)) _ refl (quiet_at (Cell n) ok) op ∙ ap (λ v. goes_to 0 (record c { acc = logical op c.acc v })) (held_at (Cell n) ok); touches = refl }
  logics op (Byte n) ok = record { effect_is = refl; touches = refl }

  pub sets_constant : (d : Place) (n : ℕ) → IsPlace d → IsQuiet (constant_code d n) c (stored_at c d n)
  sets_constant (Reg k) n ok = record { effect_is = ap (goes_to 0) (register_takes k n ok); touches = refl }
  sets_constant (Arg k) n ok = record { effect_is = mov_direct_immediate [] 0 c (direct_address (Arg k)) _ refl (quiet_at (Arg k) ok) n ∙ ap (goes_to 0) (written_at (Arg k) n ok); touches = refl }
  sets_constant (Cell k) n ok = record { effect_is = mov_direct_immediate [] 0 c (direct_address (Cell k)) _ refl (quiet_at (Cell k) ok) n ∙ ap (goes_to 0) (written_at (Cell k) n ok); touches = refl }

  -- a copy between two places of which one is no register
  abbrev copied : Place → Place → Core
  copied d s = stored_at c d (m (Loc (place_number s)))

  direct_copied : (d s : Place) → IsPlace d → IsPlace s → effect [] (Instruction.MovDirectDirect (direct_address s) (direct_address d)) 0 c ≡ goes_to 0 (copied d s)
  direct_copied d s ok_d ok_s =
      mov_direct_direct [] 0 c (direct_address s) _ refl (quiet_at s ok_s) (direct_address d) _ refl (quiet_at d ok_d)
      ∙ ap (goes_to 0) (written_at d (held c (location_of (direct_address s))) ok_d)
      ∙ ap (λ v. goes_to 0 (stored_at c d v)) (held_at s ok_s)

  register_copied : (n : ℕ) (s : Place) → IsPlace (Reg n) → IsPlace s → effect [] (Instruction.MovRegisterDirect (reg_of n) (direct_address s)) 0 c ≡ goes_to 0 (copied (Reg n) s)
  register_copied n s ok_d ok_s =
      mov_register_direct [] 0 c (direct_address s) _ refl (quiet_at s ok_s) (reg_of n)
      ∙ ap (goes_to 0) (register_takes n (held c (location_of (direct_address s))) ok_d)
      ∙ ap (λ v. goes_to 0 (stored_at c (Reg n) v)) (held_at s ok_s)

  from_register : (d : Place) (n : ℕ) → IsPlace d → IsPlace (Reg n) → effect [] (Instruction.MovDirectRegister (direct_address d) (reg_of n)) 0 c ≡ goes_to 0 (copied d (Reg n))
  from_register d n ok_d ok_s =
      mov_direct_register [] 0 c (direct_address d) _ refl (quiet_at d ok_d) (reg_of n)
      ∙ ap (goes_to 0) (written_at d (register c (reg_of n)) ok_d)
      ∙ ap (λ v. goes_to 0 (stored_at c d v)) (register_holds n ok_s)

  pub copies : (d s : Place) → IsPlace d → IsPlace s → IsQuiet (copy_code d s) c (copied d s)
  copies (Reg k) s ok_d ok_s = record { effect_is = register_copied k s ok_d ok_s; touches = refl }
  copies (Arg k) (Reg n) ok_d ok_s = record { effect_is = from_register (Arg k) n ok_d ok_s; touches = refl }
  copies (Arg k) (Arg n) ok_d ok_s = record { effect_is = direct_copied (Arg k) (Arg n) ok_d ok_s; touches = refl }
  copies (Arg k) (Cell n) ok_d ok_s = record { effect_is = direct_copied (Arg k) (Cell n) ok_d ok_s; touches = refl }
  copies (Cell k) (Reg n) ok_d ok_s = record { effect_is = from_register (Cell k) n ok_d ok_s; touches = refl }
  copies (Cell k) (Arg n) ok_d ok_s = record { effect_is = direct_copied (Cell k) (Arg n) ok_d ok_s; touches = refl }
  copies (Cell k) (Cell n) ok_d ok_s = record { effect_is = direct_copied (Cell k) (Cell n) ok_d ok_s; touches = refl }
