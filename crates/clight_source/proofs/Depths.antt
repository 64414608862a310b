-- An expression is less deep than it is large.
use Rattle.std.proofs.Common.{arith, ℕ, ◌+◌, ◌<◌, max}
use Rattle.clight_source.specs.Trees.{Expr, Variable, Number, Parenthesis, Binary, Prefix, Cast, Index, Select}
use Rattle.clight_source.specs.Depth.{depth, size}

-- one more than the deeper of two parts is below one more than their sizes together
parts_below : (a b m n : ℕ) → a < m → b < n → 1 + max a b < 1 + (m + n)
parts_below a b m n h k = omega arith

pub depth_below_size : (e : Expr) → depth e < size e
depth_below_size (Variable name) = omega arith
depth_below_size (Number number a) = omega arith
depth_below_size (Parenthesis o e c) = let h = depth_below_size e in omega arith
depth_below_size (Binary l operator a r) = parts_below (depth l) (depth r) (size l) (size r) (depth_below_size l) (depth_below_size r)
depth_below_size (Prefix operator a e) = let h = depth_below_size e in omega arith
depth_below_size (Cast o type c e) = let h = depth_below_size e in omega arith
depth_below_size (Index e o i c) = parts_below (depth e) (depth i) (size e) (size i) (depth_below_size e) (depth_below_size i)
depth_below_size (Select e operator a member) = let h = depth_below_size e in omega arith
