-- Linear code as an ordering of a graph: each node stands there once, as its place, its operations and its exit (A. W. Appel, Modern
-- Compiler Implementation: traces of basic blocks; CerCo, deliverable 4.2: LIN from LTL). What is strict about it is this project's
-- own: nothing stands in place of a jump exactly where the node gone to comes next.
use Rattle.std.specs.Prelude.{◌≡◌, ℕ, ◌<◌, List, [], ◌∷◌, ◌++◌, length, map, nat_eq, Option, Some, None, if◌then◌else◌}
use Rattle.cerco_traces.specs.LabelledGraphs.{In}
use Rattle.rtl.specs.declared.locations.Place.{Place}
use Rattle.rtl.specs.declared.graphs.Exit.{Exit}
use Rattle.rtl.specs.declared.graphs.Exit.TheVariants as Out
use Rattle.rtl.specs.Programs.{Node, Graph}
use Rattle.rtl.specs.Items.{LinItem}
use Rattle.rtl.specs.Items as Item
use Rattle.rtl.specs.Graphs.{node_at, exit_at}
use Rattle.rtl.specs.WellFormed.{NoneTwice}

-- ---- the items

abbrev pub head_of : List ℕ → Option ℕ
head_of [] = None
head_of (p ∷ ps) = Some p

-- the way from a node to q: nothing where q comes next, else a jump
abbrev pub way_to : ℕ → Option ℕ → List LinItem → List LinItem
way_to q None more = Item.Jump q ∷ more
way_to q (Some next) more = if nat_eq q next then more else Item.Jump q ∷ more

-- the items of an exit, where the node `next` comes after it, and then more
abbrev pub exit_items : Exit Place → Option ℕ → List LinItem → List LinItem
exit_items (Out.Next q) next more = way_to q next more
exit_items (Out.Test v true_arm false_arm) next more = Item.Test v true_arm ∷ more
exit_items (Out.Call f q) next more = Item.Call f ∷ more
exit_items (Out.Label l q) next more = Item.Label l ∷ way_to q next more
exit_items Out.Return next more = Item.Return ∷ more

abbrev pub node_items : ℕ → Node Place → Option ℕ → List LinItem → List LinItem
node_items p n next more = Item.Here p ∷ (map Item.Op n.ops ++ exit_items n.exit next more)

-- the nodes of the graph in this order
abbrev pub laid : Graph Place → List ℕ → List LinItem
laid g [] = []
laid g (p ∷ ps) = node_items p (node_at g p) (head_of ps) (laid g ps)

-- ---- the order

-- the node that has to come directly after an exit: the false arm of a test, the node after a call
abbrev pub follower_of : Exit Place → Option ℕ
follower_of (Out.Test v true_arm false_arm) = Some false_arm
follower_of (Out.Call f q) = Some q
follower_of _ = None

abbrev pub IsFollowedBy : Option ℕ → List ℕ → Type 0
IsFollowedBy None ps = Unit {0}
IsFollowedBy (Some q) ps = head_of ps ≡ Some q

-- the false arm of each test and the node after each call come directly after it
abbrev pub KeepsFollowers : Graph Place → List ℕ → Type 0
KeepsFollowers g [] = Unit {0}
KeepsFollowers g (p ∷ ps) = IsFollowedBy (follower_of (exit_at g p)) ps × KeepsFollowers g ps

-- An order of the nodes of a graph: each stands there once, the entry first, and the followers directly after their nodes.
pub record IsOrder (g : Graph Place) (order : List ℕ) : Type 0 where
  pub first : head_of order ≡ Some g.entry
  pub every : (p : ℕ) → p < length g.nodes → In p order
  pub only : (p : ℕ) → In p order → p < length g.nodes
  pub once : NoneTwice order
  pub followers : KeepsFollowers g order

-- The items are the nodes of the graph in some order.
pub record IsOrdering (g : Graph Place) (items : List LinItem) : Type 0 where
  pub order : List ℕ
  pub ordered : IsOrder g order
  pub are : items ≡ laid g order
