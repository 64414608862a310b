-- What an operation reads and writes under other names.
use Rattle.std.proofs.Common.{◌≡◌, ℕ, List, [], ◌∷◌, ◌++◌, map, inl, inr, refl, ap}
use Rattle.rtl.specs.declared.operations.Src.{Src}
use Rattle.rtl.specs.declared.operations.Src.TheVariants.{At, Byte}
use Rattle.rtl.specs.declared.operations.Arith.{Arith}
use Rattle.rtl.specs.declared.operations.Arith.TheVariants.{Add, Addc, Subb, And, Or, Xor}
use Rattle.rtl.specs.Operations.{ByteOp}
use Rattle.rtl.specs.Operations.{Const, Move, Op, Mul, Div, Rem, Rlc, Rrc, Top, ClearCarry, SetCarry, FlipCarry, FromCarry, Load, Store, ReadPort, WritePort}
use Rattle.rtl.specs.Effects.{Storage, Loc, Carry, operand_reads, arith_reads, reads, writes}
use Rattle.rtl.specs.Graphs.{renamed_operand, renamed_op}
use Rattle.rtl.specs.Liveness.{IsAmong}
use Rattle.rtl.proofs.ValueLaws.{renamed_storage}

-- storages under other names are among the renamed ones
pub among_renamed : (g : Storage → Storage) (s : Storage) (xs : List Storage) → IsAmong s xs → IsAmong (g s) (map g xs)
among_renamed g s [] i = absurd i
among_renamed g s (x ∷ xs) (inl e) = inl (ap g e)
among_renamed g s (x ∷ xs) (inr i) = inr (among_renamed g s xs i)

pub among_before : (g : Storage → Storage) → ((s t : Storage) → g s ≡ g t → s ≡ t) → (s : Storage) (xs : List Storage) → IsAmong (g s) (map g xs) → IsAmong s xs
among_before g one s [] i = absurd i
among_before g one s (x ∷ xs) (inl e) = inl (one x s e)
among_before g one s (x ∷ xs) (inr i) = inr (among_before g one s xs i)

module _ (f : ℕ → ℕ) where
  abbrev names : List Storage → List Storage
  names = map (renamed_storage f)

  locations_named : (ds : List ℕ) → map Loc (map f ds) ≡ names (map Loc ds)
  locations_named [] = refl
  locations_named (d ∷ ds) = ap (λ xs. Loc (f d) ∷ xs) (locations_named ds)

  operands_named : (a b : Src ℕ) → operand_reads (renamed_operand f a) ++ operand_reads (renamed_operand f b) ≡ names (operand_reads a ++ operand_reads b)
  operands_named (At v) (At w) = refl
  operands_named (At v) (Byte n) = refl
  operands_named (Byte m) (At w) = refl
  operands_named (Byte m) (Byte n) = refl

  with_carry : (o : Arith) (xs ys : List Storage) → xs ≡ names ys → arith_reads o ++ xs ≡ names (arith_reads o ++ ys)
  with_carry Add xs ys e = e
  with_carry Addc xs ys e = ap (λ zs. Carry ∷ zs) e
  with_carry Subb xs ys e = ap (λ zs. Carry ∷ zs) e
  with_carry And xs ys e = e
  with_carry Or xs ys e = e
  with_carry Xor xs ys e = e

  pub reads_renamed : (op : ByteOp ℕ) → reads (renamed_op f op) ≡ names (reads op)
  reads_renamed (Const d n) = refl
  reads_renamed (Move d s) = refl
  reads_renamed (Op o d a b) = with_carry o _ _ (operands_named a b)
  reads_renamed (Mul l h a b) = operands_named a b
  reads_renamed (Div d a b) = refl
  reads_renamed (Rem d a b) = refl
  reads_renamed (Rlc d a) = refl
  reads_renamed (Rrc d a) = refl
  reads_renamed (Top a) = refl
  reads_renamed ClearCarry = refl
  reads_renamed SetCarry = refl
  reads_renamed FlipCarry = refl
  reads_renamed (FromCarry d) = refl
  reads_renamed (Load ds l h) = refl
  reads_renamed (Store l h ss) = ap (λ xs. Loc (f l) ∷ Loc (f h) ∷ xs) (locations_named ss)
  reads_renamed (ReadPort d) = refl
  reads_renamed (WritePort s) = refl

  pub writes_renamed : (op : ByteOp ℕ) → writes (renamed_op f op) ≡ names (writes op)
  writes_renamed (Const d n) = refl
  writes_renamed (Move d s) = refl
  writes_renamed (Op Add d a b) = refl
  writes_renamed (Op Addc d a b) = refl
  writes_renamed (Op Subb d a b) = refl
  writes_renamed (Op And d a b) = refl
  writes_renamed (Op Or d a b) = refl
  writes_renamed (Op Xor d a b) = refl
  writes_renamed (Mul l h a b) = refl
  writes_renamed (Div d a b) = refl
  writes_renamed (Rem d a b) = refl
  writes_renamed (Rlc d a) = refl
  writes_renamed (Rrc d a) = refl
  writes_renamed (Top a) = refl
  writes_renamed ClearCarry = refl
  writes_renamed SetCarry = refl
  writes_renamed FlipCarry = refl
  writes_renamed (FromCarry d) = refl
  writes_renamed (Load ds l h) = locations_named ds
  writes_renamed (Store l h ss) = refl
  writes_renamed (ReadPort d) = refl
  writes_renamed (WritePort s) = refl
