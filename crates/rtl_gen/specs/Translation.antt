-- What a program of RTLabs becomes in RTL (CerCo, deliverable 4.2: from RTLabs to RTL): each node the node with the byte operations of its
-- operation, under the same number. A new node comes last. It stands between the entry and what came after it, takes the parameters
-- from their argument places, and sets the other variables to 0.
use Rattle.std.specs.Prelude.{ℕ, ◌+◌, List, [], ◌∷◌, ◌++◌, length, map, take, drop, Option, Some, None, slice_get, nat_eq, if◌then◌else◌}
use Rattle.cerco_middle.specs.declared.operators.Held.{Held}
use Rattle.cerco_middle.specs.declared.rtlabs.RtOp.{RtOp}
use Rattle.cerco_middle.specs.declared.rtlabs.RtNode.{RtNode}
use Rattle.cerco_middle.specs.Operators.{held_bytes}
use Rattle.cerco_middle.specs.RtLabs.Graphs.{RtFunction, RtLabs}
use Rattle.rtl.specs.declared.locations.Vreg.{Vreg}
use Rattle.rtl.specs.declared.graphs.Exit.TheVariants.{Next}
use Rattle.rtl.specs.Operations.{ByteOp}
use Rattle.rtl.specs.Programs.{Node, Graph, Bytes}
use Rattle.byte_sequences.specs.Words.{vreg, variable, argument}
use Rattle.byte_sequences.specs.Sequences.{held_part, moves, zeros}
use Rattle.byte_sequences.specs.Operations.{operation_node}

-- ---- where nodes go on

-- a node without a next one goes on at itself
abbrev pub next_or : ℕ → Option ℕ → ℕ
next_or p None = p
next_or p (Some q) = q

-- the entry goes on at the new node
abbrev pub next_of : ℕ → ℕ → ℕ → Option ℕ → ℕ
next_of entry new p next = if nat_eq p entry then new else next_or p next

abbrev pub next_in : Option RtNode → Option ℕ
next_in None = None
next_in (Some node) = node.next

-- the node after the entry
abbrev pub entry_next : RtFunction → ℕ
entry_next f = next_or f.entry (next_in (slice_get f.nodes f.entry))

-- ---- nodes, over locations with these numbers

module _ {L : Type 0} (at : ℕ → L) where
  -- the parameters from number x on take what is handed over from a first byte on
  abbrev pub taken : List Held → ℕ → ℕ → List (ByteOp L)
  taken [] x first = []
  taken (h ∷ hs) x first = moves (held_part h (variable at x)) (held_part h (argument at first)) ++ taken hs (x + 1) (first + held_bytes h)

  -- the variables from number x on become 0
  abbrev pub cleared : List Held → ℕ → List (ByteOp L)
  cleared [] x = []
  cleared (h ∷ hs) x = zeros (held_part h (variable at x)) ++ cleared hs (x + 1)

  abbrev pub entry_code : List Held → ℕ → List (ByteOp L)
  entry_code held params = taken (take params held) 0 0 ++ cleared (drop params held) params

  abbrev pub entry_node : List Held → ℕ → ℕ → Node L
  entry_node held params next = record { ops = entry_code held params; exit = Next next }

  abbrev pub one_node : List Held → Option Held → RtOp → ℕ → List (Node L)
  one_node held result o next = operation_node at held result o next ∷ []

  -- the nodes of a function from number p on, where the new node has this number
  abbrev pub nodes_from : RtFunction → ℕ → ℕ → List RtNode → List (Node L)
  nodes_from f new p [] = []
  nodes_from f new p (node ∷ nodes) = operation_node at f.held f.result node.op (next_of f.entry new p node.next) ∷ nodes_from f new (p + 1) nodes

  abbrev pub all_nodes : RtFunction → List (Node L)
  all_nodes f = nodes_from f (length f.nodes) 0 f.nodes ++ entry_node f.held f.params (entry_next f) ∷ []

  abbrev pub translated_function : RtFunction → Graph L
  translated_function f = record { entry = f.entry; nodes = all_nodes f }

-- ---- the program

abbrev pub translated : RtLabs → Bytes Vreg
translated p = record { graphs = map (translated_function vreg) p.functions; calls = p.calls; main = p.main; start = p.start }
