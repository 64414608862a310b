-- Control flow graphs whose nodes may be cost labels, and which of them are soundly labelled: then each path from a label to the
-- next one is of bounded length, and the label alone tells which nodes it visits (the sound and precise labellings of CerCo,
-- deliverable 2.1). Some labels have one way in at most, too, so that code can be laid out with them directly behind it.
-- A graph is seen by the kinds of its nodes, and so every language of graphs shares these definitions.
use Rattle.std.specs.Prelude.{◌≡◌, ℕ, List, [], ◌∷◌, Option, Some, None, ◌⊎◌, nat_eq, if◌then◌else◌}

-- A node is a label, a branch with its two arms, a call, or a plain one. The others have the node that they go on to, if any.
pub data NodeKind : Type 0 where
  LabelNode : (next : Option ℕ) → NodeKind
  BranchNode : (true_arm false_arm : ℕ) → NodeKind
  CallNode : (next : Option ℕ) → NodeKind
  PlainNode : (next : Option ℕ) → NodeKind

-- the node of each number, where there is one
abbrev pub FlowGraph : Type 0
FlowGraph = ℕ → Option NodeKind

-- the node that comes next, if any
abbrev pub only : Option ℕ → List ℕ
only None = []
only (Some q) = q ∷ []

-- the nodes that come after a node
abbrev pub successors : NodeKind → List ℕ
successors (LabelNode next) = only next
successors (BranchNode true_arm false_arm) = true_arm ∷ false_arm ∷ []
successors (CallNode next) = only next
successors (PlainNode next) = only next

-- q is one of these nodes
abbrev pub In : ℕ → List ℕ → Type 0
In q [] = ⊥
In q (x ∷ xs) = (x ≡ q) ⊎ In q xs

-- q comes directly after the node
abbrev pub LeadsTo : Option NodeKind → ℕ → Type 0
LeadsTo None q = ⊥
LeadsTo (Some kind) q = In q (successors kind)

-- the node is a label
abbrev pub IsLabelNode : Option NodeKind → Type 0
IsLabelNode (Some (LabelNode next)) = Unit {0}
IsLabelNode _ = ⊥

-- A path of one edge or more on which no node but the last may be a label.
pub data UnlabelledPath (G : FlowGraph) : ℕ → ℕ → Type 0 where
  edge : (p q : ℕ) → (IsLabelNode (G p) → ⊥) → LeadsTo (G p) q → UnlabelledPath G p q
  longer : (p q r : ℕ) → (IsLabelNode (G p) → ⊥) → LeadsTo (G p) q → UnlabelledPath G q r → UnlabelledPath G p r

-- The two arms of each branch are labels. No node is the false arm of two branches. The node after a call is a label that
-- nothing else leads to. The entry is a label that nothing leads to. Every cycle passes a label, in unreachable code too.
pub record SoundlyLabelled (G : FlowGraph) (entry : ℕ) : Type 0 where
  pub arms : (p true_arm false_arm : ℕ) → G p ≡ Some (BranchNode true_arm false_arm) → IsLabelNode (G true_arm) × IsLabelNode (G false_arm)
  pub one_false : (p q true_arm true_arm' false_arm : ℕ) → G p ≡ Some (BranchNode true_arm false_arm) → G q ≡ Some (BranchNode true_arm' false_arm) → p ≡ q
  pub after_call : (p next : ℕ) → G p ≡ Some (CallNode (Some next)) → IsLabelNode (G next) × ((q : ℕ) → LeadsTo (G q) next → q ≡ p)
  pub entry_marked : IsLabelNode (G entry)
  pub entry_alone : (q : ℕ) → LeadsTo (G q) entry → ⊥
  pub cycles : (p : ℕ) → UnlabelledPath G p p → ⊥

-- the graph with a plain node between the entry, a label, and the node after it
unfoldable pub inserted : FlowGraph → ℕ → ℕ → ℕ → FlowGraph
inserted G entry new next = λ p. if nat_eq p entry then Some (LabelNode (Some new)) else (if nat_eq p new then Some (PlainNode (Some next)) else G p)

-- Every path from the node on comes to a label or to an end.
pub data IsBounded (G : FlowGraph) : ℕ → Type 0 where
  bounded : (p : ℕ) → ((q : ℕ) → (IsLabelNode (G p) → ⊥) → LeadsTo (G p) q → IsBounded G q) → IsBounded G p
