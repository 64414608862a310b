-- What is not live: what holds in front of each node that a path comes to shows that no use is reached.
use Rattle.std.proofs.Common.{◌≡◌, ◌≢◌, ℕ, ◌⊎◌, inl, inr, ⊎_elim, List, [], ◌∷◌, ◌++◌, map}
use Rattle.std.specs.List.{AllByRecursion}
use Rattle.rtl.specs.declared.operations.Src.{Src}
use Rattle.rtl.specs.declared.operations.Src.TheVariants.{At, Byte}
use Rattle.rtl.specs.declared.operations.Arith.{Arith}
use Rattle.rtl.specs.declared.operations.Arith.TheVariants.{Add, Addc, Subb, And, Or, Xor}
use Rattle.rtl.specs.Operations.{ByteOp, Const, Move, Op, Mul, Div, Rem, Rlc, Rrc, Top, ClearCarry, SetCarry, FlipCarry, FromCarry, Load, Store, ReadPort, WritePort}
use Rattle.rtl.specs.Programs.{Graph}
use Rattle.rtl.specs.Effects.{Storage, Loc, Carry, reads, writes, operand_reads, arith_reads, arith_writes}
use Rattle.rtl.specs.Graphs.{ops_at, exit_at}
use Rattle.rtl.specs.Liveness.{IsAmong, Uses, Overwrites, GoesTo, Live, used, kept, used_by_exit, onward, LiveAt}
use Rattle.rtl.specs.WellFormed.{gathered, op_locations, operand_locations}

-- ---- what an operation reads and writes is named by it

same_location : {r t : ℕ} → Loc r ≡ Loc t → r ≡ t
same_location e = cc

no_location : {t : ℕ} → Carry ≡ Loc t → ⊥
no_location e = cc

-- v isn't one of these
abbrev pub NoneIs : ℕ → List ℕ → Type 0
NoneIs v = AllByRecursion (λ w. w ≢ v)

split : (s : Storage) (xs ys : List Storage) → IsAmong s (xs ++ ys) → IsAmong s xs ⊎ IsAmong s ys
split s [] ys i = inr i
split s (x ∷ xs) ys (inl e) = inl (inl e)
split s (x ∷ xs) ys (inr i) = ⊎_elim (λ a. inl (inr a)) (λ b. inr b) (split s xs ys i)

pub none_first : (v : ℕ) (xs ys : List ℕ) → NoneIs v (xs ++ ys) → NoneIs v xs
none_first v [] ys none = tt
none_first v (x ∷ xs) ys none = (none.0, none_first v xs ys none.1)

pub none_second : (v : ℕ) (xs ys : List ℕ) → NoneIs v (xs ++ ys) → NoneIs v ys
none_second v [] ys none = none
none_second v (x ∷ xs) ys none = none_second v xs ys none.1

operand_none : (v : ℕ) (a : Src ℕ) → NoneIs v (operand_locations a) → IsAmong (Loc v) (operand_reads a) → ⊥
operand_none v (At w) none (inl e) = none.0 (same_location e)
operand_none v (At w) none (inr n) = n
operand_none v (Byte b) none i = i

arith_none : (v : ℕ) (o : Arith) → IsAmong (Loc v) (arith_reads o) → ⊥
arith_none v Addc (inl e) = no_location e
arith_none v Addc (inr n) = n
arith_none v Subb (inl e) = no_location e
arith_none v Subb (inr n) = n
arith_none v Add n = n
arith_none v And n = n
arith_none v Or n = n
arith_none v Xor n = n

arith_writes_none : (v : ℕ) (o : Arith) → IsAmong (Loc v) (arith_writes o) → ⊥
arith_writes_none v Add (inl e) = no_location e
arith_writes_none v Add (inr n) = n
arith_writes_none v Addc (inl e) = no_location e
arith_writes_none v Addc (inr n) = n
arith_writes_none v Subb (inl e) = no_location e
arith_writes_none v Subb (inr n) = n
arith_writes_none v And n = n
arith_writes_none v Or n = n
arith_writes_none v Xor n = n

locs_none : (v : ℕ) (ws : List ℕ) → NoneIs v ws → IsAmong (Loc v) (map Loc ws) → ⊥
locs_none v [] none i = i
locs_none v (w ∷ ws) none (inl e) = none.0 (same_location e)
locs_none v (w ∷ ws) none (inr i) = locs_none v ws none.1 i

operands_none : (v : ℕ) (a b : Src ℕ) → NoneIs v (operand_locations a ++ operand_locations b) → IsAmong (Loc v) (operand_reads a ++ operand_reads b) → ⊥
operands_none v a b none i = ⊎_elim
    (operand_none v a (none_first v (operand_locations a) (operand_locations b) none))
    (operand_none v b (none_second v (operand_locations a) (operand_locations b) none))
    (split (Loc v) (operand_reads a) (operand_reads b) i)

pub not_read : (v : ℕ) (op : ByteOp ℕ) → NoneIs v (op_locations op) → IsAmong (Loc v) (reads op) → ⊥
not_read v (Const d n) none i = i
not_read v (Move d s) none (inl e) = none.1.0 (same_location e)
not_read v (Move d s) none (inr n) = n
not_read v (Op o d a b) none i = ⊎_elim (arith_none v o) (operands_none v a b none.1) (split (Loc v) (arith_reads o) (operand_reads a ++ operand_reads b) i)
not_read v (Mul l h a b) none i = operands_none v a b none.1.1 i
not_read v (Div d a b) none i = locs_none v (a ∷ b ∷ []) none.1 i
not_read v (Rem d a b) none i = locs_none v (a ∷ b ∷ []) none.1 i
not_read v (Rlc d a) none (inl e) = no_location e
not_read v (Rlc d a) none (inr i) = locs_none v (a ∷ []) none.1 i
not_read v (Rrc d a) none (inl e) = no_location e
not_read v (Rrc d a) none (inr i) = locs_none v (a ∷ []) none.1 i
not_read v (Top a) none i = locs_none v (a ∷ []) none i
not_read v ClearCarry none i = i
not_read v SetCarry none i = i
not_read v FlipCarry none (inl e) = no_location e
not_read v FlipCarry none (inr n) = n
not_read v (FromCarry d) none (inl e) = no_location e
not_read v (FromCarry d) none (inr n) = n
not_read v (Load ds l h) none i = locs_none v (l ∷ h ∷ []) (none.0, (none.1.0, tt)) i
not_read v (Store l h ss) none i = locs_none v (l ∷ h ∷ ss) none i
not_read v (ReadPort d) none i = i
not_read v (WritePort s) none i = locs_none v (s ∷ []) none i

pub not_written : (v : ℕ) (op : ByteOp ℕ) → NoneIs v (op_locations op) → IsAmong (Loc v) (writes op) → ⊥
not_written v (Const d n) none i = locs_none v (d ∷ []) none i
not_written v (Move d s) none i = locs_none v (d ∷ []) (none.0, tt) i
not_written v (Op o d a b) none (inl e) = none.0 (same_location e)
not_written v (Op o d a b) none (inr i) = arith_writes_none v o i
not_written v (Mul l h a b) none (inl e) = none.0 (same_location e)
not_written v (Mul l h a b) none (inr (inl e)) = none.1.0 (same_location e)
not_written v (Mul l h a b) none (inr (inr (inl e))) = no_location e
not_written v (Mul l h a b) none (inr (inr (inr n))) = n
not_written v (Div d a b) none (inl e) = none.0 (same_location e)
not_written v (Div d a b) none (inr (inl e)) = no_location e
not_written v (Div d a b) none (inr (inr n)) = n
not_written v (Rem d a b) none (inl e) = none.0 (same_location e)
not_written v (Rem d a b) none (inr (inl e)) = no_location e
not_written v (Rem d a b) none (inr (inr n)) = n
not_written v (Rlc d a) none (inl e) = none.0 (same_location e)
not_written v (Rlc d a) none (inr (inl e)) = no_location e
not_written v (Rlc d a) none (inr (inr n)) = n
not_written v (Rrc d a) none (inl e) = none.0 (same_location e)
not_written v (Rrc d a) none (inr (inl e)) = no_location e
not_written v (Rrc d a) none (inr (inr n)) = n
not_written v (Top a) none (inl e) = no_location e
not_written v (Top a) none (inr n) = n
not_written v ClearCarry none (inl e) = no_location e
not_written v ClearCarry none (inr n) = n
not_written v SetCarry none (inl e) = no_location e
not_written v SetCarry none (inr n) = n
not_written v FlipCarry none (inl e) = no_location e
not_written v FlipCarry none (inr n) = n
not_written v (FromCarry d) none (inl e) = none.0 (same_location e)
not_written v (FromCarry d) none (inr (inl e)) = no_location e
not_written v (FromCarry d) none (inr (inr n)) = n
not_written v (Load ds l h) none i = locs_none v ds none.1.1 i
not_written v (Store l h ss) none i = i
not_written v (ReadPort d) none i = locs_none v (d ∷ []) none i
not_written v (WritePort s) none i = i

-- ---- guards

-- These operations name v nowhere.
abbrev pub Free : ℕ → List (ByteOp ℕ) → Type 0
Free v ops = NoneIs v (gathered op_locations ops)

-- s isn't read before it is written, and E holds where it isn't written.
abbrev pub Guarded : Storage → List (ByteOp ℕ) → Type 0 → Type 0
Guarded s [] E = E
Guarded s (op ∷ ops) E = (IsAmong s (reads op) → ⊥) × (IsAmong s (writes op) ⊎ Guarded s ops E)

pub free_guarded : (v : ℕ) (ops : List (ByteOp ℕ)) (E : Type 0) → Free v ops → E → Guarded (Loc v) ops E
free_guarded v [] E free e = e
free_guarded v (op ∷ ops) E free e =
    (not_read v op (none_first v (op_locations op) (gathered op_locations ops) free), inr (free_guarded v ops E (none_second v (op_locations op) (gathered op_locations ops) free) e))

-- ---- the graph

module _ (g : Graph ℕ) (s : Storage) (Inv : ℕ → Type 0) where
  -- no use at the exit, and the same at the next nodes
  pub record Ends (p : ℕ) : Type 0 where
    pub unused : Uses 12 (exit_at g p) g p s → ⊥
    pub next : (q : ℕ) → (Overwrites 12 (exit_at g p) s → ⊥) → GoesTo (exit_at g p) q → Inv q

  module _ (each : (p : ℕ) → Inv p → Guarded s (ops_at g p) (Ends p)) where
    not_live : (p : ℕ) (ops : List (ByteOp ℕ)) → Live 12 g s p ops → Guarded s ops (Ends p) → ⊥
    not_live p ops (used _ op rest among) guard = guard.0 among
    not_live p ops (kept _ op rest not_among live) guard = ⊎_elim (λ among. not_among among) (λ later. not_live p rest live later) guard.1
    not_live p ops (used_by_exit _ uses) ends = ends.unused uses
    not_live p ops (onward _ q not_over goes live) ends = not_live q (ops_at g q) live (each q (ends.next q not_over goes))

    pub never_live : (p : ℕ) → Inv p → LiveAt 12 g s p → ⊥
    never_live p inv live = not_live p (ops_at g p) live (each p inv)
