-- One small program in each of the byte languages, for examples. It reads a number from the port, and as long as the number isn't 0
-- it hands it to a function, which writes it to the port and gives back one less.
use Rattle.std.proofs.Common.{ℕ, List, [], ◌∷◌}
use Rattle.cerco_base.specs.declared.events.Event.{Event}
use Rattle.cerco_base.specs.declared.events.Port.TheVariants.{P1}
use Rattle.cerco_base.specs.declared.events.Event.TheVariants.{Read, Write}
use Rattle.cerco_base.specs.Events.{label}
use Rattle.cerco_base.specs.CallOrder.{Called}
use Rattle.rtl.specs.declared.locations.Vreg.{Vreg}
use Rattle.rtl.specs.declared.locations.Place.{Place}
use Rattle.rtl.specs.declared.locations.Place.TheVariants.{Reg, Cell}
use Rattle.rtl.specs.declared.operations.Src.TheVariants.{At, Byte}
use Rattle.rtl.specs.declared.operations.Arith.TheVariants.{Subb}
use Rattle.rtl.specs.Operations.{ByteOp}
use Rattle.rtl.specs.Operations.{Move, Op, ClearCarry, ReadPort, WritePort}
use Rattle.rtl.specs.declared.graphs.Exit.{Exit}
use Rattle.rtl.specs.Programs.{Node}
use Rattle.rtl.specs.Programs.{Graph}
use Rattle.rtl.specs.Programs.{Bytes}
use Rattle.rtl.specs.Items.{LinItem}
use Rattle.rtl.specs.Items as Item
use Rattle.rtl.specs.Items.{LinProgram}

abbrev pub vreg : ℕ → Vreg
vreg n = record { 0 = n }

abbrev pub node : {L : Type 0} → List (ByteOp L) → Exit L → Node L
node ops exit = record { ops = ops; exit = exit }

-- past label l to the node q
abbrev pub passes : {L : Type 0} → ℕ → ℕ → Node L
passes l q = node [] (Exit.Label (record { 0 = l }) q)

-- `main`, with the number at one location, and the argument place at another
abbrev pub main_graph : {L : Type 0} → L → L → Graph L
main_graph number argument = record {
  entry = 0;
  nodes =
      passes 0 1
      ∷ node (ReadPort number ∷ []) (Exit.Next 2)
      ∷ node [] (Exit.Test number 3 6)
      ∷ passes 1 4
      ∷ node (Move argument number ∷ []) (Exit.Call 1 5)
      ∷ passes 2 7
      ∷ passes 3 8
      ∷ node (Move number argument ∷ []) (Exit.Next 2)
      ∷ node [] Exit.Return
      ∷ [];
}

-- the function that it calls
abbrev pub less_graph : {L : Type 0} → L → L → Graph L
less_graph number argument = record {
  entry = 0;
  nodes =
      passes 4 1
      ∷ node (Move number argument ∷ WritePort number ∷ []) (Exit.Next 2)
      ∷ node (ClearCarry ∷ Op Subb argument (At number) (Byte 1) ∷ []) Exit.Return
      ∷ [];
}

abbrev pub sample_calls : List Called
sample_calls = (record { function = 0; callers = [] }) ∷ (record { function = 1; callers = 0 ∷ [] }) ∷ []

abbrev pub sample : {L : Type 0} → L → L → L → Bytes L
sample number other argument = record { graphs = main_graph number argument ∷ less_graph other argument ∷ []; calls = sample_calls; main = 0; start = (1, 7) ∷ [] }

abbrev pub rtl_sample : Bytes Vreg
rtl_sample = sample (vreg 24) (vreg 24) (vreg 12)

abbrev pub ertl_sample : Bytes Vreg
ertl_sample = sample (vreg 24) (vreg 24) (vreg 0)

abbrev pub ltl_sample : Bytes Place
ltl_sample = sample (Cell 0) (Reg 3) (Reg 2)

abbrev pub main_items : List LinItem
main_items =
    Item.Here 0 ∷ Item.Label (record { 0 = 0 })
    ∷ Item.Here 1 ∷ Item.Op (ReadPort (Cell 0))
    ∷ Item.Here 2 ∷ Item.Test (Cell 0) 3
    ∷ Item.Here 6 ∷ Item.Label (record { 0 = 3 })
    ∷ Item.Here 8 ∷ Item.Return
    ∷ Item.Here 3 ∷ Item.Label (record { 0 = 1 })
    ∷ Item.Here 4 ∷ Item.Op (Move (Reg 2) (Cell 0)) ∷ Item.Call 1
    ∷ Item.Here 5 ∷ Item.Label (record { 0 = 2 })
    ∷ Item.Here 7 ∷ Item.Op (Move (Cell 0) (Reg 2)) ∷ Item.Jump 2
    ∷ []

abbrev pub less_items : List LinItem
less_items =
    Item.Here 0 ∷ Item.Label (record { 0 = 4 })
    ∷ Item.Here 1 ∷ Item.Op (Move (Reg 3) (Reg 2)) ∷ Item.Op (WritePort (Reg 3))
    ∷ Item.Here 2 ∷ Item.Op ClearCarry ∷ Item.Op (Op Subb (Reg 2) (At (Reg 3)) (Byte 1)) ∷ Item.Return
    ∷ []

abbrev pub lin_sample : LinProgram
lin_sample = record { lins = main_items ∷ less_items ∷ []; main = 0; start = (1, 7) ∷ [] }

-- what each of them shows where the port shows 2
abbrev pub sample_events : List Event
sample_events =
    label 0 ∷ Read P1 2
    ∷ label 1 ∷ label 4 ∷ Write P1 2 ∷ label 2
    ∷ label 1 ∷ label 4 ∷ Write P1 1 ∷ label 2
    ∷ label 3 ∷ []
