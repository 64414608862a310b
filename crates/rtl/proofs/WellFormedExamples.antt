-- The sample is well formed in each language, and for each condition there is a program that doesn't meet it.
use Rattle.std.proofs.Common.{ℕ, ◌↔◌, ◌<◌, List, [], ◌∷◌, arith}
use Rattle.cerco_base.specs.CallOrder.{Called}
use Rattle.cerco_traces.specs.LabelledGraphs.{In}
use Rattle.rtl.specs.declared.locations.Vreg.{Vreg}
use Rattle.rtl.specs.declared.locations.Place.{Place}
use Rattle.rtl.specs.declared.locations.Place.TheVariants.{Reg, Arg, Cell}
use Rattle.rtl.specs.Operations.{Const, ReadPort}
use Rattle.rtl.specs.declared.graphs.Exit.TheVariants as Exit
use Rattle.rtl.specs.Programs.{Node}
use Rattle.rtl.specs.Programs.{Graph}
use Rattle.rtl.specs.Programs.{Bytes}
use Rattle.rtl.specs.Items.{LinItem}
use Rattle.rtl.specs.Items as Item
use Rattle.rtl.specs.Items.{LinProgram}
use Rattle.rtl.specs.WellFormed.{NamesNodes, LabelsStandOnce, NamesItsVregs, NamesPlaces, NamesFunctions, OrdersItsFunctions, OrdersItsCalls, CountsItsLabels, IsRtl, IsErtl, IsLtl, NodesStandOnce, GoesToNodes, ItemLabelsStandOnce, ItemsNamePlaces, LinNamesFunctions, LinCountsItsLabels, IsLinProgram}
use Rattle.rtl.proofs.Samples.{vreg, node, passes, main_graph, sample_calls, rtl_sample, ertl_sample, ltl_sample, lin_sample}

rtl_is : IsRtl rtl_sample
rtl_is = grind arith

ertl_is : IsErtl ertl_sample
ertl_is = grind arith

ltl_is : IsLtl ltl_sample
ltl_is = grind arith

lin_is : IsLinProgram lin_sample
lin_is = grind arith

-- ---- graphs

abbrev graph : List (Node Vreg) → Graph Vreg
graph nodes = record { entry = 0; nodes = nodes }

entry_missing : NamesNodes (graph []) → ⊥
entry_missing h = grind arith

arm_missing : NamesNodes (graph (node [] (Exit.Test (vreg 24) 0 1) ∷ [])) → ⊥
arm_missing h = grind arith

label_twice : LabelsStandOnce (graph (passes 0 1 ∷ passes 0 0 ∷ [])) → ⊥
label_twice h = grind arith

-- the argument places of RTL are none of ERTL, and the other way round
rtl_in_ertl : NamesItsVregs 0 (main_graph (vreg 24) (vreg 12)) → ⊥
rtl_in_ertl h = grind arith

ertl_in_rtl : NamesItsVregs 12 (main_graph (vreg 24) (vreg 0)) → ⊥
ertl_in_rtl h = grind arith

abbrev reads_into : Place → Graph Place
reads_into p = record { entry = 0; nodes = node (ReadPort p ∷ []) Exit.Return ∷ [] }

scratch_register : NamesPlaces (reads_into (Reg 1)) → ⊥
scratch_register h = grind arith

seventh_argument : NamesPlaces (reads_into (Arg 6)) → ⊥
seventh_argument h = grind arith

cell_too_many : NamesPlaces (reads_into (Cell 112)) → ⊥
cell_too_many h = grind arith

-- ---- programs

abbrev program : List (Graph Vreg) → List Called → ℕ → Bytes Vreg
program graphs calls main = record { graphs = graphs; calls = calls; main = main; start = [] }

-- a function that calls function 1, with its label 0
abbrev caller : Graph Vreg
caller = graph (passes 0 1 ∷ node [] (Exit.Call 1 2) ∷ passes 1 3 ∷ node [] Exit.Return ∷ [])

-- a function that calls none, with this label
abbrev leaf : ℕ → Graph Vreg
leaf l = graph (passes l 1 ∷ node [] Exit.Return ∷ [])

main_missing : NamesFunctions (program (leaf 0 ∷ []) [] 1) → ⊥
main_missing h = grind arith

called_missing : NamesFunctions (program (caller ∷ []) [] 0) → ⊥
called_missing h = grind arith

function_unordered : OrdersItsFunctions (program (caller ∷ leaf 2 ∷ []) ((record { function = 0; callers = [] }) ∷ []) 0) → ⊥
function_unordered h = absurd_in (h 1)
  where
    absurd_in : In 1 (0 ∷ []) ↔ (1 < 2) → ⊥
    absurd_in both = grind arith

function_too_many : OrdersItsFunctions (program (leaf 0 ∷ []) sample_calls 0) → ⊥
function_too_many h = absurd_in (h 1)
  where
    absurd_in : In 1 (0 ∷ 1 ∷ []) ↔ (1 < 1) → ⊥
    absurd_in both = grind arith

caller_unknown : OrdersItsCalls (program (caller ∷ leaf 2 ∷ []) ((record { function = 0; callers = [] }) ∷ (record { function = 1; callers = [] }) ∷ []) 0) → ⊥
caller_unknown h = grind arith

label_in_two_functions : CountsItsLabels (program (leaf 0 ∷ leaf 0 ∷ []) [] 0) → ⊥
label_in_two_functions h = grind arith

label_left_out : CountsItsLabels (program (leaf 0 ∷ leaf 2 ∷ []) [] 0) → ⊥
label_left_out h = grind arith

-- ---- linear code

node_twice : NodesStandOnce (Item.Here 0 ∷ Item.Here 0 ∷ []) → ⊥
node_twice h = grind arith

node_missing : GoesToNodes (Item.Here 0 ∷ Item.Jump 1 ∷ []) → ⊥
node_missing h = grind arith

item_label_twice : ItemLabelsStandOnce (Item.Label (record { 0 = 0 }) ∷ Item.Label (record { 0 = 0 }) ∷ []) → ⊥
item_label_twice h = grind arith

no_such_place : ItemsNamePlaces (Item.Op (Const (Cell 112) 0) ∷ Item.Test (Reg 2) 0 ∷ []) → ⊥
no_such_place h = grind arith

abbrev lin_program : List (List LinItem) → LinProgram
lin_program lins = record { lins = lins; main = 0; start = [] }

lin_called_missing : LinNamesFunctions (lin_program ((Item.Call 1 ∷ Item.Return ∷ []) ∷ [])) → ⊥
lin_called_missing h = grind arith

lin_label_left_out : LinCountsItsLabels (lin_program ((Item.Label (record { 0 = 1 }) ∷ Item.Return ∷ []) ∷ [])) → ⊥
lin_label_left_out h = grind arith
