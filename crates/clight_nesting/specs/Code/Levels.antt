-- How deep postfix nodes are, without their tree: the levels of what is whole and joins nothing yet, the newest first, and the
-- least start of a node that is too deep. One stack serves expressions, statements, lists of statements and what is declared.
use Rattle.std.specs.Prelude.{ℕ, ◌+◌, min, max, cond, nat_lt, nat_le, List, [], ◌∷◌, Option, Some, None}
use Rattle.clight_source.specs.declared.tree.Name.{Name}
use Rattle.clight_source.specs.declared.tree.CallTarget.{CallTarget}
use Rattle.clight_source.specs.Depth.{depth_limit}
use Rattle.clight_nodes.specs.declared.nodes.Node.{Node}
use Rattle.clight_nodes.specs.declared.nodes.Node.TheVariants as n
use Rattle.clight_nesting.specs.declared.levels.Level.{Level}

abbrev pub level : ℕ → ℕ → Level
level depth start = record { depth = depth; start = start }

pub record Levels : Type 0 where
  pub list : List Level
  pub deep : Option ℕ

abbrev pub levels : List Level → Option ℕ → Levels
levels list deep = record { list = list; deep = deep }

-- the lesser of two places
abbrev pub least : Option ℕ → Option ℕ → Option ℕ
least None m = m
least (Some i) None = Some i
least (Some i) (Some j) = Some (min i j)

abbrev pub top : List Level → Level
top [] = level 0 0
top (x ∷ k) = x

abbrev pub below : List Level → List Level
below [] = []
below (x ∷ k) = k

-- something without parts that count
abbrev pub leaf : ℕ → List Level → Option ℕ → Levels
leaf start k deep = levels (level 0 start ∷ k) deep

-- a node over parts of which the deepest has this depth
abbrev pub node : ℕ → ℕ → List Level → Option ℕ → Levels
node depth start k deep = cond (nat_lt depth depth_limit) (levels (level (1 + depth) start ∷ k) deep) (levels (level (1 + depth_limit) start ∷ k) (least deep (Some start)))

-- over the newest one
abbrev pub over : ℕ → List Level → Option ℕ → Levels
over start k deep = node (top k).depth start (below k) deep

-- over the newest two
abbrev pub over_two : ℕ → List Level → Option ℕ → Levels
over_two start k deep = node (max (top (below k)).depth (top k).depth) start (below (below k)) deep

abbrev pub call_start : Option CallTarget → Name → ℕ
call_start target function = elim target [ None ↦ function.span.from | Some t ↦ t.name.span.from ]

-- ---- what is declared has the depth of its stars and lengths

-- one more, up to 65
abbrev pub more : ℕ → ℕ
more depth = cond (nat_lt depth (1 + depth_limit)) (1 + depth) depth

-- where it begins: at its first star, or at its name
abbrev pub begun : ℕ → Level → ℕ
begun start x = cond (nat_lt x.depth 1) start x.start

abbrev pub star : ℕ → List Level → Option ℕ → Levels
star start k deep = levels (level (more (top k).depth) (begun start (top k)) ∷ below k) deep

abbrev pub declared : ℕ → List Level → Option ℕ → Levels
declared start k deep = levels (level (top k).depth (begun start (top k)) ∷ below k) deep

abbrev pub one_length : List Level → Option ℕ → Levels
one_length k deep = levels (level (more (top k).depth) (top k).start ∷ below k) deep

-- the place, where it is too deep
abbrev pub note : Level → Option ℕ → Option ℕ
note x deep = cond (nat_le x.depth depth_limit) deep (least deep (Some x.start))

-- the newest one is a node
abbrev pub noted : List Level → Option ℕ → Levels
noted k deep = levels (below k) (note (top k) deep)

-- ---- the fold

-- a node that needs no memory
abbrev pub settle : Node → List Level → Option ℕ → Levels
settle (n.Argument a) k d = levels (below k) d
settle (n.Assignment equals) k d = levels (below (below k)) d
settle n.Condition k d = levels (below k) d
settle (n.Member a) k d = noted k d
settle (n.Global a) k d = noted k d
settle n.NoParameters k d = noted k d
settle (n.Parameter a) k d = noted k d
settle (n.Header left right) k d = noted k d
settle (n.Local a) k d = noted k d
settle (n.LocalValue equals a) k d = noted (below k) d
settle (n.Function left right) k d = levels (below k) d
settle _ k d = levels k d

-- a node of an expression, or of what is declared
abbrev pub measure_expression : Node → List Level → Option ℕ → Levels
measure_expression (n.Name name) k d = leaf name.span.from k d
measure_expression (n.Number number a) k d = leaf a.from k d
measure_expression (n.Parenthesis left right) k d = over left.from k d
measure_expression (n.Binary operator a) k d = over_two (top (below k)).start k d
measure_expression (n.Prefix operator a) k d = over a.from k d
measure_expression (n.Cast left type right) k d = over left.from k d
measure_expression (n.Index left right) k d = over_two (top (below k)).start k d
measure_expression (n.Select operator a member) k d = over (top k).start k d
measure_expression n.NoStars k d = leaf 0 k d
measure_expression (n.Star a) k d = star a.from k d
measure_expression (n.Declared type name) k d = declared name.span.from k d
measure_expression (n.Length length) k d = one_length k d
measure_expression x k d = settle x k d

-- a simple statement
abbrev pub measure_simple : Node → List Level → Option ℕ → Levels
measure_simple (n.Empty a) k d = leaf a.from k d
measure_simple (n.Assign equals a) k d = leaf (top (below k)).start (below (below k)) d
measure_simple (n.ReadPort equals port a) k d = leaf (top k).start (below k) d
measure_simple (n.WritePort port equals a) k d = leaf port.from (below k) d
measure_simple (n.CallAlone target function left right a) k d = leaf (call_start target function) k d
measure_simple (n.Call target function left right a) k d = leaf (call_start target function) (below k) d
measure_simple (n.Break word a) k d = leaf word.from k d
measure_simple (n.Continue word a) k d = leaf word.from k d
measure_simple (n.Return word a) k d = leaf word.from k d
measure_simple (n.ReturnValue word a) k d = leaf word.from (below k) d
measure_simple x k d = measure_expression x k d

-- any node
abbrev pub measure : Node → List Level → Option ℕ → Levels
measure n.NoStatements k d = leaf 0 k d
measure n.Then k d = levels (level (max (top (below k)).depth (top k).depth) 0 ∷ below (below k)) d
measure (n.Block left right) k d = over left.from k d
measure (n.If word left right) k d = node (top k).depth word.from (below (below k)) d
measure (n.IfElse word left right a) k d = node (max (top (below k)).depth (top k).depth) word.from (below (below (below k))) d
measure (n.While word left right) k d = node (top k).depth word.from (below (below k)) d
measure (n.Do word while' left right a) k d = over word.from (below k) d
measure (n.For middle right) k d = over middle.start.keyword.from k d
measure x k d = measure_simple x k d

-- of nodes, the newest first
abbrev pub measured : List Node → Levels
measured [] = levels [] None
measured (n ∷ z) = measure n (measured z).list (measured z).deep
