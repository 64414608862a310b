-- Which pairs of virtual registers the rows get: at the first point of a node where no later node leads to it, all that are live; at
-- each operation, what it writes with what is live after it and with what else it writes; and after a call, the argument places with
-- what is live there.
use Rattle.std.specs.Prelude.{◌≡◌, ◌≢◌, ℕ, suc, ◌<◌, ◌⊎◌, List, [], ◌∷◌, length, map, Bool, false, Some, slice_get, slice_index_or, All, ◌++◌}
use Rattle.cerco_traces.specs.LabelledGraphs.{In}
use Rattle.rtl.specs.declared.locations.Vreg.{Vreg}
use Rattle.rtl.specs.Operations.{ByteOp}
use Rattle.rtl.specs.Operations.{Const, Move, Op, Mul, Div, Rem, Rlc, Rrc, Top, ClearCarry, SetCarry, FlipCarry, FromCarry, Load, Store, ReadPort, WritePort}
use Rattle.rtl.specs.declared.graphs.Exit.{Exit}
use Rattle.rtl.specs.declared.graphs.Exit.TheVariants.{Call}
use Rattle.rtl.specs.Programs.{Node, Graph}
use Rattle.rtl.specs.declared.live_sets.LivePoint.{LivePoint}
use Rattle.rtl.specs.declared.live_sets.LiveSets.{LiveSets}
use Rattle.rtl.specs.Locations.{vreg_number}
use Rattle.rtl.specs.LiveSets.{points_of, nothing_live, vregs_before}
use Rattle.rtl.specs.Liveness.{GoesTo}
use Rattle.rtl.specs.Graphs.{exit_at, renamed_exit}
use Rattle.rtl.specs.Interference.{Interfere}
use Rattle.colouring.specs.declared.greedy.Row.{Row}
use Rattle.colouring.specs.Code.Rows.{near_of, mark_at}

-- The rows are those of the graph: of each virtual register, its neighbours that have smaller numbers.
pub record AreRowsOf (g : Graph ℕ) (near : ℕ → List ℕ) : Type 0 where
  pub only : (v w : ℕ) → In w (near v) → (w < v) × Interfere g v w
  pub every : (v w : ℕ) → w < v → Interfere g v w → In w (near v)

-- one of two is in the row of the other
abbrev pub AreListed : List Row → ℕ → ℕ → Type 0
AreListed rows v w = In w (near_of rows v) ⊎ In v (near_of rows w)

-- The rows got these pairs, and nothing else.
pub record HasAdded (P : ℕ → ℕ → Type 0) (old new : List Row) : Type 0 where
  pub long : length new ≡ length old
  pub kept : (v w : ℕ) → In w (near_of old v) → In w (near_of new v)
  pub only : (v w : ℕ) → In w (near_of new v) → In w (near_of old v) ⊎ ((w < v) × (P v w ⊎ P w v))
  pub every : (v w : ℕ) → P v w → v ≢ w → AreListed new v w

-- The row of v has w as one more.
pub record HasMore (v w : ℕ) (old new : List Row) : Type 0 where
  pub long : length new ≡ length old
  pub here : near_of new v ≡ near_of old v ++ w ∷ []
  pub elsewhere : (x : ℕ) → x ≢ v → near_of new x ≡ near_of old x

-- each one of these with each one of those
abbrev pub Between : List ℕ → List ℕ → ℕ → ℕ → Type 0
Between xs ys v w = In v xs × In w ys

abbrev pub numbers : List Vreg → List ℕ
numbers vs = map vreg_number vs

-- the locations that an operation writes
abbrev pub written_by : {L : Type 0} → ByteOp L → List L
written_by (Const d n) = d ∷ []
written_by (Move d s) = d ∷ []
written_by (Op o d a b) = d ∷ []
written_by (Mul l h a b) = l ∷ h ∷ []
written_by (Div d a b) = d ∷ []
written_by (Rem d a b) = d ∷ []
written_by (Rlc d a) = d ∷ []
written_by (Rrc d a) = d ∷ []
written_by (Top a) = []
written_by ClearCarry = []
written_by SetCarry = []
written_by FlipCarry = []
written_by (FromCarry d) = d ∷ []
written_by (Load ds l h) = ds
written_by (Store l h ss) = []
written_by (ReadPort d) = d ∷ []
written_by (WritePort s) = []

-- what is live at one of the points of a node
abbrev pub live_at : List LivePoint → ℕ → List ℕ
live_at points k = numbers (slice_index_or points k nothing_live).vregs

-- these have numbers below n; so have those that are live at the points, and those that the operations write
abbrev pub VregsBelow : ℕ → List Vreg → Type 0
VregsBelow n vs = All (λ v. v.0 < n) vs

abbrev pub PointsBelow : ℕ → List LivePoint → Type 0
PointsBelow n points = (k : ℕ) → VregsBelow n (slice_index_or points k nothing_live).vregs

abbrev pub OpsBelow : ℕ → List (ByteOp Vreg) → Type 0
OpsBelow n ops = (j : ℕ) (op : ByteOp Vreg) → slice_get ops j ≡ Some op → VregsBelow n (written_by op)

-- of an operation, by what is live after it
abbrev pub AtOperation : ByteOp Vreg → List ℕ → ℕ → ℕ → Type 0
AtOperation op after v w = Between (numbers (written_by op)) after v w ⊎ Between (numbers (written_by op)) (numbers (written_by op)) v w

-- of the first k operations of a node
abbrev pub AtOperations : List (ByteOp Vreg) → List LivePoint → ℕ → ℕ → ℕ → Type 0
AtOperations ops points k v w = (j : ℕ) × (op : ByteOp Vreg) × (j < k) × (slice_get ops j ≡ Some op) × AtOperation op (live_at points (suc j)) v w

-- each argument place of these with each one of those; with all that are live beside it
abbrev pub ArgumentsBetween : List ℕ → List ℕ → ℕ → ℕ → Type 0
ArgumentsBetween xs ys v w = (v < 12) × Between xs ys v w

abbrev pub WithArgument : List ℕ → ℕ → ℕ → Type 0
WithArgument live = ArgumentsBetween live live

abbrev pub AfterCall : Exit Vreg → LiveSets → ℕ → ℕ → Type 0
AfterCall (Call f q) sets v w = WithArgument (numbers (vregs_before sets q 0)) v w
AfterCall _ sets v w = ⊥

-- at the first point of a node that isn't covered
abbrev pub AtStart : Bool → List ℕ → ℕ → ℕ → Type 0
AtStart covered live v w = (covered ≡ false) × Between live live v w

abbrev pub AtNode : Bool → Node Vreg → List LivePoint → LiveSets → ℕ → ℕ → Type 0
AtNode covered node points sets v w = AtStart covered (live_at points 0) v w ⊎ (AtOperations node.ops points (length node.ops) v w ⊎ AfterCall node.exit sets v w)

-- of the first k nodes
abbrev pub AtNodes : List Bool → List (Node Vreg) → LiveSets → ℕ → ℕ → ℕ → Type 0
AtNodes marks nodes sets k v w = (p : ℕ) × (node : Node Vreg) × (p < k) × (slice_get nodes p ≡ Some node) × AtNode (mark_at marks p) node (points_of sets p) sets v w

-- a node with a greater number leads to q
abbrev pub IsCovered : Graph ℕ → ℕ → Type 0
IsCovered g q = (p : ℕ) × (q < p) × GoesTo (exit_at g p) q

abbrev pub IsGoneTo : List (Node Vreg) → ℕ → ℕ → Type 0
IsGoneTo nodes k q = (p : ℕ) × (node : Node Vreg) × (p < k) × (slice_get nodes p ≡ Some node) × GoesTo (renamed_exit vreg_number node.exit) q × (q < p)

-- v is live where the exit goes on, if it is a call; so at one of the first k nodes
abbrev pub IsAfterCall : Exit Vreg → LiveSets → ℕ → Type 0
IsAfterCall (Call f q) sets v = In v (numbers (vregs_before sets q 0))
IsAfterCall _ sets v = ⊥

abbrev pub IsAfterCallOf : List (Node Vreg) → LiveSets → ℕ → ℕ → Type 0
IsAfterCallOf nodes sets k v = (p : ℕ) × (node : Node Vreg) × (p < k) × (slice_get nodes p ≡ Some node) × IsAfterCall node.exit sets v

-- ---- what the code needs to know of graphs and live sets

-- what is live where nodes begin has numbers below n; each node that has points has a first one
abbrev pub EntriesBelow : ℕ → LiveSets → Type 0
EntriesBelow n sets = (q : ℕ) → VregsBelow n (vregs_before sets q 0)

abbrev pub HasEntries : LiveSets → Type 0
HasEntries sets = (q : ℕ) → q < length sets.nodes → 0 < length (points_of sets q)

pub record AreReady (n : ℕ) (nodes : List (Node Vreg)) (sets : LiveSets) : Type 0 where
  pub many : length sets.nodes ≡ length nodes
  pub points : (p : ℕ) (node : Node Vreg) → slice_get nodes p ≡ Some node → length node.ops < length (points_of sets p)
  pub ops : (p : ℕ) (node : Node Vreg) → slice_get nodes p ≡ Some node → OpsBelow n node.ops
  pub live : (p : ℕ) → PointsBelow n (points_of sets p)
  pub entries : HasEntries sets

-- ---- rows from nothing

abbrev pub IsEmpty : List Row → Type 0
IsEmpty rows = (v : ℕ) → near_of rows v ≡ []

-- The rows have these pairs, and nothing else.
pub record AreRowsBy (P : ℕ → ℕ → Type 0) (rows : List Row) : Type 0 where
  pub only : (v w : ℕ) → In w (near_of rows v) → (w < v) × (P v w ⊎ P w v)
  pub every : (v w : ℕ) → P v w → v ≢ w → AreListed rows v w
