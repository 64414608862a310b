-- A small graph and the same without its vain operations. It reads a byte, makes two others of which the second one alone uses the first
-- one, and writes the byte; so the first of these is not dead, but vain. A node with a vain operation before its label becomes a label.
use Rattle.std.proofs.Common.{◌≡◌, ℕ, zero, suc, List, [], ◌∷◌, Some, inl, inr, refl, sym, ◌∙◌, subst, arith}
use Rattle.cerco_traces.specs.LabelledGraphs.{LabelNode, PlainNode}
use Rattle.rtl.specs.declared.locations.Vreg.{Vreg}
use Rattle.rtl.specs.declared.graphs.Exit.{Exit}
use Rattle.rtl.specs.Operations.{ByteOp}
use Rattle.rtl.specs.Operations.{Const, Move, ReadPort, WritePort}
use Rattle.rtl.specs.Programs.{Graph}
use Rattle.rtl.specs.Locations.{vreg_number}
use Rattle.rtl.specs.Effects.{Storage, Loc, Carry}
use Rattle.rtl.specs.Graphs.{ops_at, exit_at, renamed_graph, flow_of}
use Rattle.rtl.specs.Liveness.{IsAmong, IsArgument, WrittenBefore, used, IsDead}
use Rattle.rtl.specs.StrongLiveness.{StronglyLive, used_in_deed, used_for, kept, used_by_exit, onward}
use Rattle.rtl.specs.Lengths.{graph_length, register_need}
use Rattle.rtl.proofs.Samples.{vreg, node, passes}
use Rattle.rtl.proofs.Points.{not_written}
use Rattle.pruned_graphs.specs.Pruning.{IsVain, Pruned, nothing, keep, drop, IsPrunedGraph}

-- past the operations and label l to the node q
abbrev shown : Graph Vreg
shown = record {
  entry = 0;
  nodes =
      passes 0 1
      ∷ node (ReadPort (vreg 24) ∷ Const (vreg 25) 5 ∷ Move (vreg 26) (vreg 25) ∷ WritePort (vreg 24) ∷ []) (Exit.Label (record { 0 = 1 }) 2)
      ∷ node (Move (vreg 27) (vreg 24) ∷ []) (Exit.Label (record { 0 = 2 }) 3)
      ∷ node [] Exit.Return
      ∷ [];
}

abbrev without_vain : Graph Vreg
without_vain = record {
  entry = 0;
  nodes =
      passes 0 1
      ∷ node (ReadPort (vreg 24) ∷ WritePort (vreg 24) ∷ []) (Exit.Label (record { 0 = 1 }) 2)
      ∷ passes 2 3
      ∷ node [] Exit.Return
      ∷ [];
}

abbrev g : Graph ℕ
g = renamed_graph vreg_number shown

abbrev h : Graph ℕ
h = renamed_graph vreg_number without_vain

-- ---- what is strongly live at most, from the last point on

-- no argument place is ever written
no_argument : (s : Storage) (p : ℕ) → IsArgument 0 s → WrittenBefore g s p [] → ⊥
no_argument (Loc v) p arg before = not_written g (Loc v) p [] (grind arith) before
no_argument Carry p arg before = arg

at_return : (s : Storage) → StronglyLive 0 g s 3 [] → ⊥
at_return s (used_by_exit s' p u) = no_argument s 3 u.0 u.1
at_return s (onward s' p q out goes l) = goes

at_last_label : (s : Storage) → StronglyLive 0 g s 2 [] → ⊥
at_last_label s (used_by_exit s' p u) = u
at_last_label s (onward s' p q out goes l) = at_return s (subst (λ q. StronglyLive 0 g s q (ops_at g q)) (sym goes) l)

before_last_move : (s : Storage) → StronglyLive 0 g s 2 (Move 27 24 ∷ []) → ⊥
before_last_move s (used_in_deed s' p op ops i deed) = deed tt
before_last_move s (used_for s' t p op ops i j l) = at_last_label t l
before_last_move s (kept s' p op ops out l) = at_last_label s l

at_label : (s : Storage) → StronglyLive 0 g s 1 [] → ⊥
at_label s (used_by_exit s' p u) = u
at_label s (onward s' p q out goes l) = before_last_move s (subst (λ q. StronglyLive 0 g s q (ops_at g q)) (sym goes) l)

abbrev last_op : List (ByteOp ℕ)
last_op = WritePort 24 ∷ []

abbrev from_move : List (ByteOp ℕ)
from_move = Move 26 25 ∷ last_op

before_write : (s : Storage) → StronglyLive 0 g s 1 last_op → Loc 24 ≡ s
before_write s (used_in_deed s' p op ops (inl e) deed) = e
before_write s (used_in_deed s' p op ops (inr i) deed) = absurd i
before_write s (used_for s' t p op ops i j l) = absurd j
before_write s (kept s' p op ops out l) = absurd (at_label s l)

same_number : (v w : ℕ) → Loc v ≡ Loc w → v ≡ w
same_number v w e = cc

not_second : (s : Storage) → IsAmong s (Loc 26 ∷ []) → Loc 24 ≡ s → ⊥
not_second s (inl e) is = let n = same_number 24 26 (is ∙ sym e) in omega (arith, n)
not_second s (inr i) is = i

not_first : (s : Storage) → IsAmong s (Loc 25 ∷ []) → Loc 24 ≡ s → ⊥
not_first s (inl e) is = let n = same_number 24 25 (is ∙ sym e) in omega (arith, n)
not_first s (inr i) is = i

before_move : (s : Storage) → StronglyLive 0 g s 1 from_move → Loc 24 ≡ s
before_move s (used_in_deed s' p op ops i deed) = absurd (deed tt)
before_move s (used_for s' t p op ops i j l) = absurd (not_second t j (before_write t l))
before_move s (kept s' p op ops out l) = before_write s l

-- ---- the graph without vain operations

move_is_vain : IsVain 0 g 1 (Move 26 25) last_op
move_is_vain = record { quiet = tt; unused = λ s i l. not_second s i (before_write s l) }

const_is_vain : IsVain 0 g 1 (Const 25 5) from_move
const_is_vain = record { quiet = tt; unused = λ s i l. not_first s i (before_move s l) }

last_move_is_vain : IsVain 0 g 2 (Move 27 24) []
last_move_is_vain = record { quiet = tt; unused = λ s i l. at_last_label s l }

const_is_not_dead : IsDead 0 g 1 (Const 25 5) from_move → ⊥
const_is_not_dead dead = dead.unused (Loc 25) (inl refl) (used 1 (Move 26 25) last_op (inl refl))

exits : (p : ℕ) → exit_at h p ≡ exit_at g p
exits zero = refl
exits (suc zero) = refl
exits (suc (suc zero)) = refl
exits (suc (suc (suc zero))) = refl
exits (suc (suc (suc (suc p)))) = refl

each : (p : ℕ) → Pruned 0 g p (ops_at g p) (ops_at h p)
each zero = nothing
each (suc zero) =
    keep (ReadPort 24) (Const 25 5 ∷ from_move) last_op (inl (λ quiet. quiet))
    (drop (Const 25 5) from_move last_op const_is_vain (drop (Move 26 25) last_op last_op move_is_vain (keep (WritePort 24) [] [] (inl (λ quiet. quiet)) nothing)))
each (suc (suc zero)) = drop (Move 27 24) [] [] last_move_is_vain nothing
each (suc (suc (suc zero))) = nothing
each (suc (suc (suc (suc p)))) = nothing

it_is_pruned : IsPrunedGraph shown without_vain
it_is_pruned = record { entry = refl; nodes = refl; exits = exits; ops = each }

-- ---- what it has

lengths : (graph_length g ≡ 30) × (graph_length h ≡ 21)
lengths = (refl, refl)

needs : (register_need shown ≡ 4) × (register_need without_vain ≡ 1)
needs = (refl, refl)

kinds : (flow_of g 2 ≡ Some (PlainNode (Some 3))) × (flow_of h 2 ≡ Some (LabelNode (Some 3)))
kinds = (refl, refl)
