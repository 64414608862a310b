-- Which programs of the byte languages are well formed, each condition by a name of its own (CerCo, deliverable 4.2: the invariants
-- of the languages of the back end). A meaning asks for none of them: they say what a pass may take and what it gives.
use Rattle.std.specs.Prelude.{ℕ, suc, ◌+◌, ◌<◌, ◌≤◌, ◌⊎◌, ◌↔◌, List, [], ◌∷◌, ◌++◌, length, nat_eq, if◌then◌else◌}
use Rattle.std.specs.List.{AllByRecursion}
use Rattle.cerco_base.specs.CallOrder.{Called, functions_of}
use Rattle.cerco_traces.specs.LabelledGraphs.{In}
use Rattle.rtl.specs.declared.locations.Vreg.{Vreg}
use Rattle.rtl.specs.declared.locations.Place.{Place}
use Rattle.rtl.specs.declared.locations.Place.TheVariants.{Reg, Arg, Cell}
use Rattle.rtl.specs.declared.operations.Src.{Src}
use Rattle.rtl.specs.declared.operations.Src.TheVariants.{At, Byte}
use Rattle.rtl.specs.Operations.{ByteOp}
use Rattle.rtl.specs.Operations.{Const, Move, Op, Mul, Div, Rem, Rlc, Rrc, Top, ClearCarry, SetCarry, FlipCarry, FromCarry, Load, Store, ReadPort, WritePort}
use Rattle.rtl.specs.declared.graphs.Exit.{Exit}
use Rattle.rtl.specs.declared.graphs.Exit.TheVariants.{Next, Test, Call, Label, Return}
use Rattle.rtl.specs.Programs.{Node}
use Rattle.rtl.specs.Programs.{Graph}
use Rattle.rtl.specs.Programs.{Bytes}
use Rattle.rtl.specs.Items.{LinItem}
use Rattle.rtl.specs.Items as Item
use Rattle.rtl.specs.Items.{LinProgram}

-- ---- what a graph names

-- of each of these, in order
abbrev pub gathered : {A B : Type 0} → (A → List B) → List A → List B
gathered f [] = []
gathered f (x ∷ xs) = f x ++ gathered f xs

-- the nodes that come directly after an exit
abbrev pub exit_nodes : {L : Type 0} → Exit L → List ℕ
exit_nodes (Next q) = q ∷ []
exit_nodes (Test a true_arm false_arm) = true_arm ∷ false_arm ∷ []
exit_nodes (Call f q) = q ∷ []
exit_nodes (Label l q) = q ∷ []
exit_nodes Return = []

abbrev pub exit_functions : {L : Type 0} → Exit L → List ℕ
exit_functions (Call f q) = f ∷ []
exit_functions _ = []

abbrev pub exit_labels : {L : Type 0} → Exit L → List ℕ
exit_labels (Label l q) = l.0 ∷ []
exit_labels _ = []

-- the functions that a graph calls
abbrev pub functions_in : {L : Type 0} → Graph L → List ℕ
functions_in g = gathered (λ n. exit_functions n.exit) g.nodes

abbrev pub labels_in : {L : Type 0} → Graph L → List ℕ
labels_in g = gathered (λ n. exit_labels n.exit) g.nodes

abbrev pub operand_locations : {L : Type 0} → Src L → List L
operand_locations (At a) = a ∷ []
operand_locations (Byte n) = []

abbrev pub op_locations : {L : Type 0} → ByteOp L → List L
op_locations (Const d n) = d ∷ []
op_locations (Move d s) = d ∷ s ∷ []
op_locations (Op o d a b) = d ∷ (operand_locations a ++ operand_locations b)
op_locations (Mul l h a b) = l ∷ h ∷ (operand_locations a ++ operand_locations b)
op_locations (Div d a b) = d ∷ a ∷ b ∷ []
op_locations (Rem d a b) = d ∷ a ∷ b ∷ []
op_locations (Rlc d a) = d ∷ a ∷ []
op_locations (Rrc d a) = d ∷ a ∷ []
op_locations (Top a) = a ∷ []
op_locations ClearCarry = []
op_locations SetCarry = []
op_locations FlipCarry = []
op_locations (FromCarry d) = d ∷ []
op_locations (Load ds l h) = l ∷ h ∷ ds
op_locations (Store l h ss) = l ∷ h ∷ ss
op_locations (ReadPort d) = d ∷ []
op_locations (WritePort s) = s ∷ []

abbrev pub exit_locations : {L : Type 0} → Exit L → List L
exit_locations (Test a true_arm false_arm) = a ∷ []
exit_locations _ = []

abbrev pub node_locations : {L : Type 0} → Node L → List L
node_locations n = gathered op_locations n.ops ++ exit_locations n.exit

-- the locations that a graph names
abbrev pub locations_in : {L : Type 0} → Graph L → List L
locations_in g = gathered node_locations g.nodes

-- ---- conditions on numbers

-- no number stands here twice
abbrev pub NoneTwice : List ℕ → Type 0
NoneTwice [] = Unit {0}
NoneTwice (n ∷ ns) = (In n ns → ⊥) × NoneTwice ns

-- Each number stands here once, and they are those below some number: below how many there are.
pub record AreCounted (ns : List ℕ) : Type 0 where
  pub once : NoneTwice ns
  pub below : AllByRecursion (λ n. n < length ns) ns

-- ---- a graph alone

-- Each node that the graph names exists.
pub record NamesNodes {L : Type 0} (g : Graph L) : Type 0 where
  pub entry : g.entry < length g.nodes
  pub exits : AllByRecursion (λ n. AllByRecursion (λ q. q < length g.nodes) (exit_nodes n.exit)) g.nodes

-- Each label of the graph stands at one place in it.
abbrev pub LabelsStandOnce : {L : Type 0} → Graph L → Type 0
LabelsStandOnce g = NoneTwice (labels_in g)

-- a virtual register of the language whose argument places are the twelve from the first one on: one of these, or one of a call's own
abbrev pub IsOfLanguage : ℕ → Vreg → Type 0
IsOfLanguage first v = ((first ≤ v.0) × (v.0 < first + 12)) ⊎ (24 ≤ v.0)

-- Of the virtual registers below 24 the graph names argument places alone.
abbrev pub NamesItsVregs : ℕ → Graph Vreg → Type 0
NamesItsVregs first g = AllByRecursion (IsOfLanguage first) (locations_in g)

-- a place that the processor has for values: R2 to R7, the six bytes from 08H on, the 112 cells from 10H on
abbrev pub IsPlace : Place → Type 0
IsPlace (Reg n) = (2 ≤ n) × (n ≤ 7)
IsPlace (Arg n) = n < 6
IsPlace (Cell n) = n < 112

-- The graph names places that the processor has.
abbrev pub NamesPlaces : Graph Place → Type 0
NamesPlaces g = AllByRecursion IsPlace (locations_in g)

-- A graph is well formed.
pub record IsGraph {L : Type 0} (g : Graph L) : Type 0 where
  pub nodes : NamesNodes g
  pub labels : LabelsStandOnce g

-- ---- a program of graphs

-- Each function that the program names exists.
pub record NamesFunctions {L : Type 0} (program : Bytes L) : Type 0 where
  pub main : program.main < length program.graphs
  pub called : AllByRecursion (λ g. AllByRecursion (λ f. f < length program.graphs) (functions_in g)) program.graphs

-- The order of calls holds exactly the functions of the program.
abbrev pub OrdersItsFunctions : {L : Type 0} → Bytes L → Type 0
OrdersItsFunctions program = (f : ℕ) → In f (functions_of program.calls) ↔ (f < length program.graphs)

-- the callers of a function in the order of calls
abbrev pub callers_of : List Called → ℕ → List ℕ
callers_of [] f = []
callers_of (c ∷ calls) f = if nat_eq c.function f then c.callers else callers_of calls f

-- each of these functions, of which the first one has this number, is among the callers of those that it calls
abbrev pub AreCallersFrom : {L : Type 0} → List Called → ℕ → List (Graph L) → Type 0
AreCallersFrom calls f [] = Unit {0}
AreCallersFrom calls f (g ∷ gs) = AllByRecursion (λ called. In f (callers_of calls called)) (functions_in g) × AreCallersFrom calls (suc f) gs

-- A function that calls another one is among its callers in the order of calls.
abbrev pub OrdersItsCalls : {L : Type 0} → Bytes L → Type 0
OrdersItsCalls program = AreCallersFrom program.calls 0 program.graphs

-- Each label of the program stands at one place in it, and the labels are those below some number.
abbrev pub CountsItsLabels : {L : Type 0} → Bytes L → Type 0
CountsItsLabels program = AreCounted (gathered labels_in program.graphs)

-- A program of graphs is well formed.
pub record IsWellFormed {L : Type 0} (program : Bytes L) : Type 0 where
  pub graphs : AllByRecursion IsGraph program.graphs
  pub functions : NamesFunctions program
  pub order : OrdersItsFunctions program
  pub calls : OrdersItsCalls program
  pub labels : CountsItsLabels program

-- A program of RTL, of ERTL, or of LTL is well formed: its virtual registers are those of the language, or its places exist.
abbrev pub IsRtl : Bytes Vreg → Type 0
IsRtl program = IsWellFormed program × AllByRecursion (NamesItsVregs 12) program.graphs

abbrev pub IsErtl : Bytes Vreg → Type 0
IsErtl program = IsWellFormed program × AllByRecursion (NamesItsVregs 0) program.graphs

abbrev pub IsLtl : Bytes Place → Type 0
IsLtl program = IsWellFormed program × AllByRecursion NamesPlaces program.graphs

-- ---- linear code

-- the nodes whose places stand among the items
abbrev pub here_nodes : LinItem → List ℕ
here_nodes (Item.Here n) = n ∷ []
here_nodes _ = []

abbrev pub item_nodes : LinItem → List ℕ
item_nodes (Item.Jump n) = n ∷ []
item_nodes (Item.Test p n) = n ∷ []
item_nodes _ = []

abbrev pub item_functions : LinItem → List ℕ
item_functions (Item.Call f) = f ∷ []
item_functions _ = []

abbrev pub item_labels : LinItem → List ℕ
item_labels (Item.Label l) = l.0 ∷ []
item_labels _ = []

abbrev pub item_locations : LinItem → List Place
item_locations (Item.Op op) = op_locations op
item_locations (Item.Test p n) = p ∷ []
item_locations _ = []

-- Each node has one place.
abbrev pub NodesStandOnce : List LinItem → Type 0
NodesStandOnce items = NoneTwice (gathered here_nodes items)

-- Each node that is gone to has a place.
abbrev pub GoesToNodes : List LinItem → Type 0
GoesToNodes items = AllByRecursion (λ n. In n (gathered here_nodes items)) (gathered item_nodes items)

-- Each label of the items stands at one place.
abbrev pub ItemLabelsStandOnce : List LinItem → Type 0
ItemLabelsStandOnce items = NoneTwice (gathered item_labels items)

-- The items name places that the processor has.
abbrev pub ItemsNamePlaces : List LinItem → Type 0
ItemsNamePlaces items = AllByRecursion IsPlace (gathered item_locations items)

-- A function of linear code is well formed.
pub record IsLin (items : List LinItem) : Type 0 where
  pub nodes_once : NodesStandOnce items
  pub nodes : GoesToNodes items
  pub labels : ItemLabelsStandOnce items
  pub places : ItemsNamePlaces items

-- Each function that the program names exists.
pub record LinNamesFunctions (program : LinProgram) : Type 0 where
  pub main : program.main < length program.lins
  pub called : AllByRecursion (λ items. AllByRecursion (λ f. f < length program.lins) (gathered item_functions items)) program.lins

-- Each label of the program stands at one place in it, and the labels are those below some number.
abbrev pub LinCountsItsLabels : LinProgram → Type 0
LinCountsItsLabels program = AreCounted (gathered (λ items. gathered item_labels items) program.lins)

-- A program of linear code is well formed.
pub record IsLinProgram (program : LinProgram) : Type 0 where
  pub lins : AllByRecursion IsLin program.lins
  pub functions : LinNamesFunctions program
  pub labels : LinCountsItsLabels program
