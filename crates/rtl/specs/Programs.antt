-- Functions as graphs of nodes, and programs of them, as values (CerCo, deliverable 4.2: the graph languages of the back end).
use Rattle.std.specs.Prelude.{ℕ, List}
use Rattle.cerco_base.specs.CallOrder.{Called}
use Rattle.rtl.specs.declared.graphs.Exit.{Exit}
use Rattle.rtl.specs.Operations.{ByteOp}

-- Operations that are made one after the other, and where to go on then.
pub record Node (L : Type 0) : Type 0 where
  pub ops : List (ByteOp L)
  pub exit : Exit L

-- The nodes of a function by number, and the one at which it begins.
pub record Graph (L : Type 0) : Type 0 where
  pub entry : ℕ
  pub nodes : List (Node L)

-- The functions of a program by number, their order of calls, the number of `main`, and the bytes that external RAM holds at the
-- start, with their addresses.
pub record Bytes (L : Type 0) : Type 0 where
  pub graphs : List (Graph L)
  pub calls : List Called
  pub main : ℕ
  pub start : List (ℕ × ℕ)
