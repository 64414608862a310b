-- The byte operations as values: each as the code has it, with lists of locations and without the memory that holds them (CerCo,
-- deliverable 4.2: the operations of the back end). A value of several bytes has its low byte first.
use Rattle.std.specs.Prelude.{ℕ, List}
use Rattle.rtl.specs.declared.operations.Src.{Src}
use Rattle.rtl.specs.declared.operations.Arith.{Arith}

pub data ByteOp (L : Type 0) : Type 0 where
  Const : (d : L) (n : ℕ) → ByteOp L
  Move : (d s : L) → ByteOp L
  Op : (o : Arith) (d : L) (a b : Src L) → ByteOp L
  Mul : (l h : L) (a b : Src L) → ByteOp L
  Div : (d a b : L) → ByteOp L
  Rem : (d a b : L) → ByteOp L
  Rlc : (d a : L) → ByteOp L
  Rrc : (d a : L) → ByteOp L
  Top : (a : L) → ByteOp L
  ClearCarry : ByteOp L
  SetCarry : ByteOp L
  FlipCarry : ByteOp L
  FromCarry : (d : L) → ByteOp L
  Load : (ds : List L) (l h : L) → ByteOp L
  Store : (l h : L) (ss : List L) → ByteOp L
  ReadPort : (d : L) → ByteOp L
  WritePort : (s : L) → ByteOp L
