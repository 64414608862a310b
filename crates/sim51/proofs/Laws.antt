-- What direct addresses name, and what a write to a port and a jump to itself do.
use Rattle.std.proofs.Common.{◌≡◌, ℕ, ◌+◌, ◌%◌, ◌<◌, List, Some, None, true, cond, refl, ap, arith, slice_set}
use Rattle.std.proofs.lemmas.Bool.{eq-eqb, lt-ltb}
use Rattle.cerco_base.specs.declared.events.Port.{Port}
use Rattle.cerco_base.specs.declared.events.Port.TheVariants.{P0, P1, P2, P3}
use Rattle.cerco_base.specs.Ports.{port_number}
use Rattle.mcs51_isa.specs.declared.instr.Instr.TheVariants.{MovDirectImmediate, Sjmp}
use Rattle.mcs51_isa.specs.Operands.{relative_target}
use Rattle.sim51.specs.declared.location.Location.TheVariants.{Ram, Latch}
use Rattle.sim51.specs.State.{Core}
use Rattle.sim51.specs.Locations.{location_of, special_at, port_address}
use Rattle.sim51.specs.Effect.{effect}
use Rattle.sim51.specs.Step.{halts, next_address}

-- a direct address below 128 names a byte of internal RAM
pub location_of-ram : (a : ℕ) → a < 128 → location_of a ≡ Ram a
location_of-ram a low = ap (λ b. cond b (Ram a) (special_at a)) (lt-ltb a 128 low)

pub location_of-port : (p : Port) → location_of (port_address p) ≡ Latch p
location_of-port P0 = refl
location_of-port P1 = refl
location_of-port P2 = refl
location_of-port P3 = refl

-- MOV dir,#d with the address of a port writes its latch, which is an event, and changes nothing else
pub mov_port : (code : List ℕ) (p : Port) (byte next : ℕ) (c : Core) → effect code (MovDirectImmediate (port_address p) byte) next c ≡ record { core = record c { ports = slice_set c.ports (port_number p) byte }; pc = next; read = None; write = Some (p, byte) }
mov_port code P0 byte next c = refl
mov_port code P1 byte next c = refl
mov_port code P2 byte next c = refl
mov_port code P3 byte next c = refl

-- SJMP to its own address halts
pub halts-sjmp_self : (a : ℕ) → a < 65536 → halts (Sjmp 0xFE) a ≡ true
halts-sjmp_self a low =
    let here : ((a + 2) % 65536 + (0xFE + 0xFF00)) % 65536 ≡ a = omega arith in eq-eqb (relative_target (next_address a (Sjmp 0xFE)) 0xFE) a here
