-- The meaning of a program of graphs of byte operations, as a transition system. It is one meaning for RTL, ERTL and LTL, which
-- differ in the locations that all calls share: over virtual registers those below 24, over places all of them (CerCo, deliverable
-- 4.2 and 4.3: one semantics for the languages of the back end, with the locals of a call as a parameter). A step makes one
-- operation, or leaves a node.
use Rattle.std.specs.Prelude.{ℕ, zero, suc, List, [], ◌∷◌, length, Bool, true, false, nat_lt, if◌then◌else◌}
use Rattle.cerco_base.specs.declared.events.Event.TheVariants as Event
use Rattle.cerco_traces.specs.Systems.{System}
use Rattle.cerco_traces.specs.Worlds.{World, shown, start_world}
use Rattle.rtl.specs.declared.locations.Vreg.{Vreg}
use Rattle.rtl.specs.declared.locations.Place.{Place}
use Rattle.rtl.specs.Operations.{ByteOp}
use Rattle.rtl.specs.declared.graphs.Exit.{Exit}
use Rattle.rtl.specs.declared.graphs.Exit.TheVariants.{Next, Test, Call, Label, Return}
use Rattle.rtl.specs.Programs.{Graph}
use Rattle.rtl.specs.Programs.{Bytes}
use Rattle.rtl.specs.Locations.{vreg_number, place_number}
use Rattle.rtl.specs.Effects.{Storage, Loc, Carry, same_storage, Assignment, Effect, effect}
use Rattle.rtl.specs.Graphs.{ops_at, exit_at, graph_at, numbered}

-- ---- what holds values

-- the same with another value in one place
unfoldable pub with_value : (Storage → ℕ) → Storage → ℕ → (Storage → ℕ)
with_value values s value = λ t. if same_storage t s then value else values t

abbrev pub all_zero : Storage → ℕ
all_zero s = 0

-- which storage all calls share
abbrev pub Sharing : Type 0
Sharing = Storage → Bool

-- what a call sees: the shared values, and its own
abbrev pub seen : Sharing → (Storage → ℕ) → (Storage → ℕ) → (Storage → ℕ)
seen is_shared shared own s = if is_shared s then shared s else own s

-- the shared values after these assignments, and a call's own ones
abbrev pub shared_after : Sharing → List Assignment → (Storage → ℕ) → (Storage → ℕ)
shared_after is_shared [] shared = shared
shared_after is_shared (x ∷ xs) shared = shared_after is_shared xs (if is_shared x.to then with_value shared x.to x.value else shared)

abbrev pub own_after : Sharing → List Assignment → (Storage → ℕ) → (Storage → ℕ)
own_after is_shared [] own = own
own_after is_shared (x ∷ xs) own = own_after is_shared xs (if is_shared x.to then own else with_value own x.to x.value)

-- ---- states

-- An open call: its function, the node it is in, the operations of that node still to be made, and its own values.
pub record OpenCall : Type 0 where
  pub function : ℕ
  pub node : ℕ
  pub left : List (ByteOp ℕ)
  pub own : Storage → ℕ

-- The open calls, the running one first; none is left when `main` has returned. The shared values, and the world.
pub record State : Type 0 where
  pub calls : List OpenCall
  pub shared : Storage → ℕ
  pub world : World

abbrev pub state : List OpenCall → (Storage → ℕ) → World → State
state calls shared w = record { calls = calls; shared = shared; world = w }

-- a call in front of a node
abbrev pub call_at : (ℕ → Graph ℕ) → ℕ → ℕ → (Storage → ℕ) → OpenCall
call_at graphs f p own = record { function = f; node = p; left = ops_at (graphs f) p; own = own }

-- a call of a function in front of its entry, with its own values 0
abbrev pub fresh_call : (ℕ → Graph ℕ) → ℕ → OpenCall
fresh_call graphs f = call_at graphs f (graphs f).entry all_zero

-- ---- steps

abbrev pub branch : ℕ → ℕ → ℕ → ℕ
branch zero true_arm false_arm = false_arm
branch (suc n) true_arm false_arm = true_arm

-- after an operation, with these left in the node p
abbrev pub after_op : Sharing → Effect → ℕ → ℕ → List (ByteOp ℕ) → (Storage → ℕ) → List OpenCall → (Storage → ℕ) → State
after_op is_shared e f p ops own calls shared =
    state ((record { function = f; node = p; left = ops; own = own_after is_shared e.sets own }) ∷ calls) (shared_after is_shared e.sets shared) e.world

-- a node is left by its exit
abbrev pub exit_step : Sharing → (ℕ → Graph ℕ) → Exit ℕ → ℕ → (Storage → ℕ) → List OpenCall → (Storage → ℕ) → World → State
exit_step is_shared graphs (Next q) f own calls shared w = state (call_at graphs f q own ∷ calls) shared w
exit_step is_shared graphs (Test v true_arm false_arm) f own calls shared w = state (call_at graphs f (branch (seen is_shared shared own (Loc v)) true_arm false_arm) own ∷ calls) shared w
exit_step is_shared graphs (Call g q) f own calls shared w = state (fresh_call graphs g ∷ call_at graphs f q own ∷ calls) shared w
exit_step is_shared graphs (Label l q) f own calls shared w = state (call_at graphs f q own ∷ calls) shared (shown (Event.Label l) w)
exit_step is_shared graphs Return f own calls shared w = state calls shared w

-- the next operation of the node p is made, or the node is left
abbrev pub call_step : Sharing → (ℕ → Graph ℕ) → List (ByteOp ℕ) → ℕ → ℕ → (Storage → ℕ) → List OpenCall → (Storage → ℕ) → World → State
call_step is_shared graphs [] f p own calls shared w = exit_step is_shared graphs (exit_at (graphs f) p) f own calls shared w
call_step is_shared graphs (op ∷ ops) f p own calls shared w = after_op is_shared (effect op (seen is_shared shared own) w) f p ops own calls shared

abbrev pub graph_step : Sharing → (ℕ → Graph ℕ) → List OpenCall → (Storage → ℕ) → World → State
graph_step is_shared graphs [] shared w = state [] shared w
graph_step is_shared graphs (c ∷ calls) shared w = call_step is_shared graphs c.left c.function c.node c.own calls shared w

-- ---- what is seen of a state

abbrev pub next_touched : Sharing → List (ByteOp ℕ) → (Storage → ℕ) → (Storage → ℕ) → World → List ℕ
next_touched is_shared [] own shared w = []
next_touched is_shared (op ∷ ops) own shared w = (effect op (seen is_shared shared own) w).touched

abbrev pub calls_touched : Sharing → List OpenCall → (Storage → ℕ) → World → List ℕ
calls_touched is_shared [] shared w = []
calls_touched is_shared (c ∷ calls) shared w = next_touched is_shared c.left c.own shared w

abbrev pub is_label : Exit ℕ → Bool
is_label (Label l q) = true
is_label _ = false

abbrev pub label_comes : List (ByteOp ℕ) → Exit ℕ → Bool
label_comes [] exit = is_label exit
label_comes (op ∷ ops) exit = false

abbrev pub label_due : (ℕ → Graph ℕ) → List OpenCall → Bool
label_due graphs [] = false
label_due graphs (c ∷ calls) = label_comes c.left (exit_at (graphs c.function) c.node)

abbrev pub no_call : List OpenCall → Bool
no_call [] = true
no_call (c ∷ calls) = false

-- ---- the meaning

-- a program of these functions, in which calls share this storage, from `main` on with these bytes in external RAM
abbrev pub graph_system : Sharing → (ℕ → Graph ℕ) → ℕ → List (ℕ × ℕ) → System State
graph_system is_shared graphs main bytes = record {
  start = λ script. state (fresh_call graphs main ∷ []) all_zero (start_world bytes script);
  step = λ s. graph_step is_shared graphs s.calls s.shared s.world;
  events = λ s. s.world.made;
  due = λ s. label_due graphs s.calls;
  ended = λ s. no_call s.calls;
  touched = λ s. calls_touched is_shared s.calls s.shared s.world;
  opened = λ s. length s.calls;
}

-- all calls share the virtual registers below 24, and the carry
abbrev pub shares_first : Sharing
shares_first (Loc v) = nat_lt v 24
shares_first Carry = true

-- all calls share everything
abbrev pub shares_all : Sharing
shares_all s = true

abbrev pub vreg_system : Bytes Vreg → System State
vreg_system program = graph_system shares_first (graph_at (numbered vreg_number program)) program.main program.start

-- The meaning of a program of RTL, of ERTL, and of LTL. In RTL the virtual registers 12 to 23 hand over arguments and results, in
-- ERTL those from 0 to 11: that is how these programs are made, and no matter of the meaning.
abbrev pub rtl : Bytes Vreg → System State
rtl = vreg_system

abbrev pub ertl : Bytes Vreg → System State
ertl = vreg_system

abbrev pub ltl : Bytes Place → System State
ltl program = graph_system shares_all (graph_at (numbered place_number program)) program.main program.start
