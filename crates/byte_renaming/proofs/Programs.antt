-- The functions of a program under other names for locations.
use Rattle.std.proofs.Common.{◌≡◌, ℕ, zero, suc, List, [], ◌∷◌, map, refl, sym, ap, ◌∙◌}
use Rattle.rtl.specs.Programs.{Node, Graph}
use Rattle.rtl.specs.Graphs.{renamed_op, renamed_exit, renamed_graph, ops_at, exit_at, graph_at}
use Rattle.rtl.proofs.Renamings.{graph_twice, node_renamed}

-- functions that agree everywhere are one
pub same_function : {A B : Type 0} (f g : A → B) → ((x : A) → f x ≡ g x) → f ≡ g
same_function f g same = λ i x. same x i

module _ {L M : Type 0} (f : L → M) where
  pub graph_at_renamed : (gs : List (Graph L)) (k : ℕ) → graph_at (map (renamed_graph f) gs) k ≡ renamed_graph f (graph_at gs k)
  graph_at_renamed [] k = refl
  graph_at_renamed (g ∷ gs) zero = refl
  graph_at_renamed (g ∷ gs) (suc k) = graph_at_renamed gs k

  pub ops_renamed : (g : Graph L) (p : ℕ) → ops_at (renamed_graph f g) p ≡ map (renamed_op f) (ops_at g p)
  ops_renamed g p = ap (λ (n : Node M). n.ops) (node_renamed f g p)

  pub exit_renamed : (g : Graph L) (p : ℕ) → exit_at (renamed_graph f g) p ≡ renamed_exit f (exit_at g p)
  exit_renamed g p = ap (λ (n : Node M). n.exit) (node_renamed f g p)

-- new names f are, by number, the new names h
pub numbered_renamed :
    {L M : Type 0} (number : L → ℕ) (number' : M → ℕ) (f : L → M) (h : ℕ → ℕ) → ((l : L) → number' (f l) ≡ h (number l))
    → (g : Graph L) → renamed_graph number' (renamed_graph f g) ≡ renamed_graph h (renamed_graph number g)
numbered_renamed number number' f h same g =
    graph_twice number' f g
    ∙ ap (λ k. renamed_graph k g) (same_function (λ l. number' (f l)) (λ l. h (number l)) same)
    ∙ sym (graph_twice h number g)
