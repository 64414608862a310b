-- Straight-line code among the items of an assembly program, and what its run comes to (Intel, MCS-51 family: instruction set).
use Rattle.std.specs.Prelude.{◌≡◌, ℕ, suc, ◌+◌, List, [], ◌∷◌, ◌++◌, length, slice_get, Some}
use Rattle.mcs51_isa.specs.declared.instr.Instr.{Instr}
use Rattle.sim51.specs.State.{Core}
use Rattle.sim51.specs.Effect.{effect}
use Rattle.sim51.specs.Straight.{core_after, port_events}
use Rattle.asm51.specs.declared.items.AsmItem.{AsmItem}
use Rattle.asm51.specs.declared.items.AsmItem.TheVariants.{Plain}
use Rattle.asm51.specs.Meaning.{AsmState, item_touches}

-- these instructions are the items from item k on
abbrev pub StandAt : List AsmItem → ℕ → List Instr → Type 0
StandAt items k [] = Unit {0}
StandAt items k (i ∷ is) = (slice_get items k ≡ Some (Plain i)) × StandAt items (suc k) is

-- the addresses of the bytes of external RAM that they read or write
abbrev pub touched_by : List Instr → Core → List ℕ
touched_by [] c = []
touched_by (i ∷ is) c = item_touches (Some (Plain i)) c ++ touched_by is (effect [] i 0 c).core

-- the state after them
abbrev pub passed : List Instr → AsmState → AsmState
passed is s = record s { core = core_after is s.core; at = s.at + length is; made = s.made ++ port_events is s.core }
