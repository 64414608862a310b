-- In a program no node is too deep, or one of those that are is the first, and it has one place.
use Rattle.std.proofs.Common.{◌≡◌, ◌⊎◌, inl, inr, ℕ, ◌≤◌, ◌<◌, List, refl, arith}
use Rattle.std.specs.Prelude.{Option, Some, None}
use Rattle.std.proofs.lemmas.List.Elements.{All-contains}
use Rattle.clight_source.specs.Trees.{Item}
use Rattle.clight_source.specs.Depth.{node, nodes, depth_limit, IsShallow, IsFirstDeep}
use Rattle.clight_nesting.specs.Code.Nesting.{IsNesting}
use Rattle.clight_nesting.proofs.FirstDeep.{first_deep, nesting_by}

-- no node that is too deep begins before the first one
not_before : (items : List Item) (i j : ℕ) → IsFirstDeep items i → IsFirstDeep items j → i ≤ j
not_before items i j a b = All-contains (λ n. depth_limit < n.depth → i ≤ n.start) (nodes items) (node j b.deep.0) a.least b.deep.2 b.deep.1

pub one_nesting : (items : List Item) (i j : ℕ) → IsFirstDeep items i → IsFirstDeep items j → i ≡ j
one_nesting items i j a b = let h = not_before items i j a b in let g = not_before items j i b a in omega arith

pub not_shallow : (items : List Item) (at : ℕ) → IsShallow items → IsFirstDeep items at → ⊥
not_shallow items at w a = let h = All-contains (λ n. n.depth ≤ depth_limit) (nodes items) (node at a.deep.0) w a.deep.2 in let g = a.deep.1 in omega arith

by_answer : (items : List Item) (o : Option ℕ) → IsNesting items o → IsShallow items ⊎ ((at : ℕ) × IsFirstDeep items at)
by_answer items None h = inl h
by_answer items (Some at) h = inr (at, h)

pub shallow_or_nested : (items : List Item) → IsShallow items ⊎ ((at : ℕ) × IsFirstDeep items at)
shallow_or_nested items = by_answer items (first_deep (nodes items)) (nesting_by items (first_deep (nodes items)) refl)
