-- The meaning of an assembly program, as a system whose runs make events. Instructions do to registers and memories what they do on the
-- machine (Intel, MCS-51 family: instruction set); the program counter is a place among the items, and return addresses are places
-- in a list of their own (after CerCo, deliverable 4.1).
use Rattle.std.specs.Prelude.{ℕ, suc, ◌+◌, List, [], ◌∷◌, ◌++◌, length, slice_get, Option, Some, None, Bool, false, nat_eq, if◌then◌else◌}
use Rattle.cerco_base.specs.declared.events.Event.{Event}
use Rattle.cerco_base.specs.Events.{label}
use Rattle.cerco_traces.specs.Systems.{System}
use Rattle.mcs51_isa.specs.declared.instr.Instr.{Instr}
use Rattle.mcs51_isa.specs.declared.instr.Instr.TheVariants.{Sjmp, Ret, MovxDptr, MovxIndirect}
use Rattle.mcs51_isa.specs.declared.instr.FlagTest.TheVariants.{Jnz}
use Rattle.sim51.specs.State.{Core, reset_core}
use Rattle.sim51.specs.Locations.{dptr, external_pointer}
use Rattle.sim51.specs.Effect.{effect, flag_holds}
use Rattle.sim51.specs.Runs.{read_events, write_events}
use Rattle.asm51.specs.declared.items.AsmItem.{AsmItem}
use Rattle.asm51.specs.declared.items.AsmItem.TheVariants.{Plain, Mark, Enter, Here, Jump, Test, Call}
use Rattle.asm51.specs.Items.{is_mark, target_of}

-- A state: what the machine holds, the number of the item that comes next, the numbers of the items to return to, the newest first, and
-- the events so far, oldest first.
pub record AsmState : Type 0 where
  pub core : Core
  pub at : ℕ
  pub returns : List ℕ
  pub made : List Event

-- Other items come next: the one after this, and the one with this number.
abbrev pub onward : AsmState → AsmState
onward s = record s { at = suc s.at }

abbrev pub gone_to : ℕ → AsmState → AsmState
gone_to k s = record s { at = k }

-- An instruction has its effect. The items have no addresses and no code: a jump or call with an address leads to the next item, and the
-- bytes that MOVC reads are 0.
abbrev pub executed : Instr → AsmState → AsmState
executed i s =
    let e = effect [] i 0 s.core in
    record s { core = e.core; at = suc s.at; made = s.made ++ (read_events e.read ++ write_events e.write) }

-- A return leads to the newest place to return to; where there is none, nothing changes.
abbrev pub returned : List ℕ → AsmState → AsmState
returned [] s = s
returned (k ∷ ks) s = record s { at = k; returns = ks }

-- An SJMP to itself, two bytes back, ends the program.
abbrev pub is_end : AsmItem → Bool
is_end (Plain (Sjmp offset)) = nat_eq offset 0xFE
is_end item = false

abbrev pub plain_step : Instr → AsmState → AsmState
plain_step (Ret kind) s = returned s.returns s
plain_step i s = if is_end (Plain i) then s else executed i s

-- What an item does. A mark passes its label, and the NOP after it goes with it. A jump, a test or a call leads to the item of what it
-- names, and the place after a call is one to return to.
abbrev pub item_step : (AsmItem → ℕ) → AsmItem → AsmState → AsmState
item_step target (Plain i) s = plain_step i s
item_step target (Mark l) s = record s { at = s.at + 2; made = s.made ++ label l.0 ∷ [] }
item_step target (Enter f) s = onward s
item_step target (Here f n) s = onward s
item_step target (Jump f n) s = gone_to (target (Jump f n)) s
item_step target (Test f n) s = gone_to (if flag_holds Jnz s.core then target (Test f n) else suc s.at) s
item_step target (Call f) s = record s { at = target (Call f); returns = suc s.at ∷ s.returns }

-- after the last item nothing changes
abbrev pub step_by : (AsmItem → ℕ) → Option AsmItem → AsmState → AsmState
step_by target None s = s
step_by target (Some item) s = item_step target item s

-- there is an item, and it passes the test
abbrev pub passes : (AsmItem → Bool) → Option AsmItem → Bool
passes test None = false
passes test (Some item) = test item

-- the addresses of the bytes of external RAM that an item reads or writes
abbrev pub item_touches : Option AsmItem → Core → List ℕ
item_touches (Some (Plain (MovxDptr move))) c = dptr c ∷ []
item_touches (Some (Plain (MovxIndirect move pointer))) c = external_pointer c pointer ∷ []
item_touches item c = []

-- Which bytes count: what runs while no call is open is the start of the program, and its writes aren't counted.
abbrev pub counted : List ℕ → List ℕ → List ℕ
counted [] bytes = []
counted (k ∷ ks) bytes = bytes

-- The runs of these items. They begin at the first one, in a machine that was reset; they stand before a label at its mark.
abbrev pub assembly : List AsmItem → System AsmState
assembly items =
    record {
      start = λ script. record { core = reset_core script; at = 0; returns = []; made = [] };
      step = λ s. step_by (target_of items) (slice_get items s.at) s;
      events = λ s. s.made;
      due = λ s. passes is_mark (slice_get items s.at);
      ended = λ s. passes is_end (slice_get items s.at);
      touched = λ s. counted s.returns (item_touches (slice_get items s.at) s.core);
      opened = λ s. length s.returns;
    }
