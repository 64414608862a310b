-- The meaning of a program of linear code, LIN, as a transition system. The place of a call in its function is the rest of the list
-- of items from there on (CerCo, deliverable 4.2: LIN is LTL with jumps in place of the graph). Operations have the effects that
-- they have in graphs, and all calls share all locations. A step goes through one item.
use Rattle.std.specs.Prelude.{ℕ, zero, suc, List, [], ◌∷◌, length, nat_eq, slice_get, Option, Some, None, Bool, true, false, if◌then◌else◌}
use Rattle.cerco_base.specs.declared.events.Event.TheVariants as Event
use Rattle.cerco_traces.specs.Systems.{System}
use Rattle.cerco_traces.specs.Worlds.{World, shown, start_world}
use Rattle.rtl.specs.Items.{LinItem}
use Rattle.rtl.specs.Items.{Here, Op, Label, Jump, Test, Call, Return}
use Rattle.rtl.specs.Items.{LinProgram}
use Rattle.rtl.specs.Locations.{place_number}
use Rattle.rtl.specs.Effects.{Storage, Loc, Effect, effect}
use Rattle.rtl.specs.Graphs.{renamed_op}
use Rattle.rtl.specs.Meaning.{shared_after, shares_all, all_zero}

-- An open call: its function, and the items from its place on.
pub record OpenItems : Type 0 where
  pub function : ℕ
  pub left : List LinItem

-- The open calls, the running one first; none is left when `main` has returned. What the places hold, and the world.
pub record LinState : Type 0 where
  pub calls : List OpenItems
  pub shared : Storage → ℕ
  pub world : World

abbrev pub lin_state : List OpenItems → (Storage → ℕ) → World → LinState
lin_state calls shared w = record { calls = calls; shared = shared; world = w }

abbrev pub open_items : ℕ → List LinItem → OpenItems
open_items f left = record { function = f; left = left }

-- ---- steps

-- the item is the place of node n
abbrev pub is_here : ℕ → LinItem → Bool
is_here n (Here m) = nat_eq m n
is_here n _ = false

-- the items from the place of node n on
abbrev pub items_from : ℕ → List LinItem → List LinItem
items_from n [] = []
items_from n (item ∷ items) = if is_here n item then item ∷ items else items_from n items

abbrev pub branch_items : ℕ → List LinItem → List LinItem → List LinItem
branch_items zero true_arm false_arm = false_arm
branch_items (suc n) true_arm false_arm = true_arm

abbrev pub after_item : Effect → ℕ → List LinItem → List OpenItems → (Storage → ℕ) → LinState
after_item e f more calls shared = lin_state (open_items f more ∷ calls) (shared_after shares_all e.sets shared) e.world

-- an item of function f is gone through, with more items after it
abbrev pub item_step : (ℕ → List LinItem) → LinItem → List LinItem → ℕ → List OpenItems → (Storage → ℕ) → World → LinState
item_step lins (Here n) more f calls shared w = lin_state (open_items f more ∷ calls) shared w
item_step lins (Op op) more f calls shared w = after_item (effect (renamed_op place_number op) shared w) f more calls shared
item_step lins (Label l) more f calls shared w = lin_state (open_items f more ∷ calls) shared (shown (Event.Label l) w)
item_step lins (Jump n) more f calls shared w = lin_state (open_items f (items_from n (lins f)) ∷ calls) shared w
item_step lins (Test p n) more f calls shared w = lin_state (open_items f (branch_items (shared (Loc (place_number p))) (items_from n (lins f)) more) ∷ calls) shared w
item_step lins (Call g) more f calls shared w = lin_state (open_items g (lins g) ∷ open_items f more ∷ calls) shared w
item_step lins Return more f calls shared w = lin_state calls shared w

-- past its last item a call stays where it is
abbrev pub items_step : (ℕ → List LinItem) → List LinItem → ℕ → List OpenItems → (Storage → ℕ) → World → LinState
items_step lins [] f calls shared w = lin_state (open_items f [] ∷ calls) shared w
items_step lins (item ∷ more) f calls shared w = item_step lins item more f calls shared w

abbrev pub lin_step : (ℕ → List LinItem) → List OpenItems → (Storage → ℕ) → World → LinState
lin_step lins [] shared w = lin_state [] shared w
lin_step lins (c ∷ calls) shared w = items_step lins c.left c.function calls shared w

-- ---- what is seen of a state

abbrev pub items_touched : List LinItem → (Storage → ℕ) → World → List ℕ
items_touched (Op op ∷ more) shared w = (effect (renamed_op place_number op) shared w).touched
items_touched _ shared w = []

abbrev pub lin_touched : List OpenItems → (Storage → ℕ) → World → List ℕ
lin_touched [] shared w = []
lin_touched (c ∷ calls) shared w = items_touched c.left shared w

abbrev pub label_first : List LinItem → Bool
label_first (Label l ∷ more) = true
label_first _ = false

abbrev pub lin_due : List OpenItems → Bool
lin_due [] = false
lin_due (c ∷ calls) = label_first c.left

abbrev pub no_items : List OpenItems → Bool
no_items [] = true
no_items (c ∷ calls) = false

-- ---- the meaning

-- a function that isn't there jumps to itself
abbrev pub items_or : Option (List LinItem) → List LinItem
items_or None = Here 0 ∷ Jump 0 ∷ []
items_or (Some items) = items

abbrev pub items_at : List (List LinItem) → ℕ → List LinItem
items_at lins f = items_or (slice_get lins f)

abbrev pub lin_system : (ℕ → List LinItem) → ℕ → List (ℕ × ℕ) → System LinState
lin_system lins main bytes = record {
  start = λ script. lin_state (open_items main (lins main) ∷ []) all_zero (start_world bytes script);
  step = λ s. lin_step lins s.calls s.shared s.world;
  events = λ s. s.world.made;
  due = λ s. lin_due s.calls;
  ended = λ s. no_items s.calls;
  touched = λ s. lin_touched s.calls s.shared s.world;
  opened = λ s. length s.calls;
}

-- The meaning of a program of LIN.
abbrev pub lin : LinProgram → System LinState
lin program = lin_system (items_at program.lins) program.main program.start
