-- The sample runs to its end in each language, with the same events; and single operations do what the processor does.
use Rattle.std.proofs.Common.{◌≡◌, ℕ, List, [], ◌∷◌, true, refl}
use Rattle.cerco_base.specs.Bytes.{sum_byte, carries, difference_byte, borrows}
use Rattle.cerco_traces.specs.Worlds.{World, update, start_world}
use Rattle.cerco_traces.specs.Systems.{System}
use Rattle.cerco_traces.specs.Headline.{after}
use Rattle.rtl.specs.declared.operations.Src.TheVariants.{At, Byte}
use Rattle.rtl.specs.declared.operations.Arith.TheVariants.{Addc, Subb, Xor}
use Rattle.rtl.specs.Operations.{ByteOp}
use Rattle.rtl.specs.Operations.{Const, Op, Mul, Div, Rem, Rlc, Rrc, Top, SetCarry, FlipCarry, FromCarry, Load, Store}
use Rattle.rtl.specs.Effects.{Storage, Loc, Carry, same_storage, effect}
use Rattle.rtl.specs.Meaning.{with_value, all_zero, shared_after, shares_all, rtl, ertl, ltl}
use Rattle.rtl.specs.Linear.{lin}
use Rattle.rtl.proofs.Samples.{rtl_sample, ertl_sample, ltl_sample, lin_sample, sample_events}

-- on the script of one byte 2 the program has ended after k steps, with these events
abbrev EndsAfter : {S : Type 0} → ℕ → System S → Type 0
EndsAfter k X = (X.ended (after X k (X.start (2 ∷ []))) ≡ true) × (X.events (after X k (X.start (2 ∷ []))) ≡ sample_events)

rtl_ends : EndsAfter 40 (rtl rtl_sample)
unfolding with_value same_storage difference_byte borrows
rtl_ends = (refl, refl)

ertl_ends : EndsAfter 40 (ertl ertl_sample)
unfolding with_value same_storage difference_byte borrows
ertl_ends = (refl, refl)

ltl_ends : EndsAfter 40 (ltl ltl_sample)
unfolding with_value same_storage difference_byte borrows
ltl_ends = (refl, refl)

lin_ends : EndsAfter 56 (lin lin_sample)
unfolding with_value same_storage difference_byte borrows
lin_ends = (refl, refl)

-- a label is due before the first step, and one call is open
begins : ((rtl rtl_sample).due ((rtl rtl_sample).start []) ≡ true) × ((lin lin_sample).opened ((lin lin_sample).start []) ≡ 1)
begins = (refl, refl)

-- ---- single operations

-- what is held and the world
record Held : Type 0 where
  values : Storage → ℕ
  world : World

-- after operations that share everything
abbrev all_made : List (ByteOp ℕ) → Held → Held
all_made [] h = h
all_made (op ∷ ops) h = all_made ops (record { values = shared_after shares_all (effect op h.values h.world).sets h.values; world = (effect op h.values h.world).world })

abbrev made : List (ByteOp ℕ) → Held
made ops = all_made ops (record { values = all_zero; world = start_world [] [] })

sums : (made (Const 1 200 ∷ SetCarry ∷ Op Addc 2 (At 1) (Byte 55) ∷ FromCarry 3 ∷ [])).values (Loc 2) ≡ 0
unfolding with_value same_storage sum_byte carries
sums = refl

carries_out : (made (Const 1 200 ∷ SetCarry ∷ Op Addc 2 (At 1) (Byte 55) ∷ FromCarry 3 ∷ [])).values (Loc 3) ≡ 1
unfolding with_value same_storage sum_byte carries
carries_out = refl

borrows_out : (made (SetCarry ∷ Op Subb 2 (Byte 0) (Byte 0) ∷ [])).values (Loc 2) ≡ 255
unfolding with_value same_storage difference_byte borrows
borrows_out = refl

differs : (made (Op Xor 2 (Byte 0x0f) (Byte 0x3c) ∷ [])).values (Loc 2) ≡ 0x33
unfolding with_value same_storage
differs = refl

multiplies : (made (Mul 1 2 (Byte 255) (Byte 255) ∷ [])).values (Loc 2) ≡ 254
unfolding with_value same_storage
multiplies = refl

-- a division by 0 leaves both
divides_by_zero : (made (Const 1 7 ∷ Div 3 1 2 ∷ [])).values (Loc 3) ≡ 7
unfolding with_value same_storage
divides_by_zero = refl

remains_by_zero : (made (Const 1 7 ∷ Rem 3 1 2 ∷ [])).values (Loc 3) ≡ 0
unfolding with_value same_storage
remains_by_zero = refl

turns : (made (Const 1 0x81 ∷ Rlc 2 1 ∷ Rrc 3 1 ∷ [])).values (Loc 3) ≡ 0xc0
unfolding with_value same_storage
turns = refl

tops : (made (Const 1 0x80 ∷ Top 1 ∷ FlipCarry ∷ [])).values Carry ≡ 0
unfolding with_value same_storage
tops = refl

-- a value goes to external RAM and back, low byte first, past the last address to the first one
stores : (made (Const 1 0xff ∷ Const 2 0xff ∷ Const 3 0x34 ∷ Const 4 0x12 ∷ Store 1 2 (3 ∷ 4 ∷ []) ∷ [])).world.xram 0 ≡ 0x12
unfolding with_value same_storage update
stores = refl

loads : (made (Const 1 0xff ∷ Const 2 0xff ∷ Const 3 0x34 ∷ Const 4 0x12 ∷ Store 1 2 (3 ∷ 4 ∷ []) ∷ Load (1 ∷ 2 ∷ []) 1 2 ∷ [])).values (Loc 2) ≡ 0x12
unfolding with_value same_storage update
loads = refl

touches : (effect (Load (3 ∷ 4 ∷ []) 1 2) (made (Const 1 0xff ∷ Const 2 0xff ∷ [])).values (start_world [] [])).touched ≡ 65535 ∷ 0 ∷ []
unfolding with_value same_storage
touches = refl
