-- What holds along all paths of a graph of RTLabs, from what holds at each of its nodes. A value for each node is what a path brings
-- there, and each node must pass on what its next nodes await.
use Rattle.std.proofs.Common.{◌≡◌, ◌⊎◌, inl, inr, ℕ, List, [], Some, false, sym, ap, ◌∙◌, if◌then◌else◌}
use Rattle.std.specs.Prelude.{slice_get}
use Rattle.cerco_traces.specs.LabelledGraphs.{In}
use Rattle.cerco_middle.specs.declared.rtlabs.RtOp.{RtOp}
use Rattle.cerco_middle.specs.declared.rtlabs.RtNode.{RtNode}
use Rattle.cerco_middle.specs.Calls.{Argument}
use Rattle.cerco_middle.specs.RtLabs.Graphs.{RtFunction, next_nodes, written_by}
use Rattle.cerco_middle.proofs.Each.{Each, each_at, AllOf, all_of}
use Rattle.cerco_middle.specs.RtLabs.WellFormed.{OfNodes, is_call, and_argument, HandsOver, at_entry, after_call, onward, CallFreePath, edge, longer, Unwritten, at_start, passing}

-- it holds of all the numbers in a list of each node
pub each_all : (nodes : List RtNode) (list : RtNode → List ℕ) (Holds : ℕ → RtNode → ℕ → Type 0) → Each (λ at node. AllOf (Holds at node) (list node)) nodes
    → (at : ℕ) (node : RtNode) → slice_get nodes at ≡ Some node → (x : ℕ) → In x (list node) → Holds at node x
each_all nodes list Holds all at node is = all_of (Holds at node) (list node) (each_at (λ at node. AllOf (Holds at node) (list node)) nodes all at node is)

module _ (f : RtFunction) where
  -- each node passes this on to each of its next nodes
  abbrev pub PassesOn : (ℕ → RtNode → ℕ → Type 0) → Type 0
  PassesOn Edge = OfNodes f (λ at node. AllOf (Edge at node) (next_nodes node))

  -- ---- what is handed over on the way

  -- the arguments with which a node is left, where it is reached with these
  abbrev pub left_with : List Argument → RtOp → List Argument
  left_with arguments o = if is_call o then [] else and_argument arguments o

  pub handed_over_as : (at_node : ℕ → List Argument) → at_node f.entry ≡ [] → PassesOn (λ at node q. left_with (at_node at) node.op ≡ at_node q)
      → (at : ℕ) (arguments : List Argument) → HandsOver f at arguments → arguments ≡ at_node at
  handed_over_as at_node empty passes at arguments at_entry = sym empty
  handed_over_as at_node empty passes at arguments (after_call before _ node is calls next) =
      ap (λ c. if c then [] else and_argument (at_node before) node.op) (sym calls) ∙ all_of (λ q. left_with (at_node before) node.op ≡ at_node q) (next_nodes node) (passes before node is) at next
  handed_over_as at_node empty passes at arguments (onward before _ node earlier path is calls next) =
      ap (λ as'. and_argument as' node.op) (handed_over_as at_node empty passes before earlier path)
      ∙ ap (λ c. if c then [] else and_argument (at_node before) node.op) (sym calls)
      ∙ all_of (λ q. left_with (at_node before) node.op ≡ at_node q) (next_nodes node) (passes before node is) at next

  -- what holds before a node that is no call holds before its next nodes, and so at the end of a path
  pub holds_along : (Holds : ℕ → Type 0) → PassesOn (λ at node q. is_call node.op ≡ false → Holds at → Holds q) → (at q : ℕ) → CallFreePath f at q → Holds at → Holds q
  holds_along Holds passes at q (edge _ _ node is calls next) holds =
      all_of (λ r. is_call node.op ≡ false → Holds at → Holds r) (next_nodes node) (passes at node is) q next calls holds
  holds_along Holds passes at q (longer _ r _ node is calls next path) holds =
      holds_along Holds passes r q path (all_of (λ r. is_call node.op ≡ false → Holds at → Holds r) (next_nodes node) (passes at node is) r next calls holds)

  -- ---- temporaries

  -- Where each node passes on no more than the temporaries that were written, those are written on each path.
  pub written_on_the_way : (Written : ℕ → ℕ → Type 0) → ((t : ℕ) → Written f.entry t → ⊥) → ((t : ℕ) → PassesOn (λ at node q. Written q t → Written at t ⊎ In t (written_by node.op)))
      → (t at : ℕ) → Unwritten f t at → Written at t → ⊥
  written_on_the_way Written none passes t at at_start w = none t w
  written_on_the_way Written none passes t at (passing before _ node path is not_here next) w =
      by (λ earlier. written_on_the_way Written none passes t before path earlier) (all_of (λ q. Written q t → Written before t ⊎ In t (written_by node.op)) (next_nodes node) (passes t before node is) at next w)
    where
      by : (Written before t → ⊥) → (Written before t ⊎ In t (written_by node.op)) → ⊥
      by not_before (inl earlier) = not_before earlier
      by not_before (inr now) = not_here now
