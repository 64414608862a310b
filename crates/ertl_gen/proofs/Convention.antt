-- What is live, and the calling convention, under the exchanged numbers.
use Rattle.std.proofs.Common.{◌≡◌, ℕ, List, [], ◌∷◌, map, ◌⊎◌, inl, inr, sym, ap, ◌∙◌, subst}
use Rattle.std.proofs.lemmas.List.{map-append}
use Rattle.rtl.specs.Operations.{ByteOp}
use Rattle.rtl.specs.declared.graphs.Exit.{Exit}
use Rattle.rtl.specs.declared.graphs.Exit.TheVariants.{Next, Test, Call, Label, Return}
use Rattle.rtl.specs.Programs.{Graph}
use Rattle.rtl.specs.Effects.{Storage, Loc, Carry, reads, writes}
use Rattle.rtl.specs.Graphs.{renamed_op, renamed_exit, renamed_graph, ops_at, exit_at}
use Rattle.rtl.specs.Liveness.{IsAmong, IsArgument, IsPoint, GoesTo, IsCall, WrittenBefore, written, past, through, Uses, Overwrites, Live, used, kept, used_by_exit, onward, LiveAt}
use Rattle.rtl.specs.CallingConvention.{Path, at_entry, IsWrittenOn, RespectsConvention, CarryStaysInside}
use Rattle.rtl.specs.CallingConvention as On
use Rattle.rtl.proofs.Renamings.{graph_twice}
use Rattle.byte_renaming.proofs.Programs.{same_function, ops_renamed, exit_renamed}
use Rattle.byte_renaming.proofs.Storages.{among_renamed, among_before, reads_renamed, writes_renamed}
use Rattle.byte_renaming.proofs.Unchanged.{graph_same}
use Rattle.ertl_gen.specs.Translation.{exchanged_number}
use Rattle.ertl_gen.proofs.Exchanged.{back, moved, moved_back, moved_once, argument_of_rtl, argument_of_ertl}

abbrev ops_to : List (ByteOp ℕ) → List (ByteOp ℕ)
ops_to = map (renamed_op exchanged_number)

abbrev graph_to : Graph ℕ → Graph ℕ
graph_to = renamed_graph exchanged_number

read_to : (s : Storage) (op : ByteOp ℕ) → IsAmong s (reads op) → IsAmong (moved s) (reads (renamed_op exchanged_number op))
read_to s op i = subst (IsAmong (moved s)) (sym (reads_renamed exchanged_number op)) (among_renamed moved s (reads op) i)

written_to : (s : Storage) (op : ByteOp ℕ) → IsAmong s (writes op) → IsAmong (moved s) (writes (renamed_op exchanged_number op))
written_to s op i = subst (IsAmong (moved s)) (sym (writes_renamed exchanged_number op)) (among_renamed moved s (writes op) i)

written_from : (s : Storage) (op : ByteOp ℕ) → IsAmong (moved s) (writes (renamed_op exchanged_number op)) → IsAmong s (writes op)
written_from s op i = among_before moved moved_once s (writes op) (subst (IsAmong (moved s)) (writes_renamed exchanged_number op) i)

goes_same : (e : Exit ℕ) (q : ℕ) → GoesTo e q → GoesTo (renamed_exit exchanged_number e) q
goes_same (Next p) q goes = goes
goes_same (Test v true_arm false_arm) q goes = goes
goes_same (Call f p) q goes = goes
goes_same (Label l p) q goes = goes
goes_same Return q goes = goes

call_from : (e : Exit ℕ) → IsCall (renamed_exit exchanged_number e) → IsCall e
call_from (Next p) call = call
call_from (Test v true_arm false_arm) call = call
call_from (Call f p) call = call
call_from (Label l p) call = call
call_from Return call = call

module _ (g : Graph ℕ) where
  goes_to : (p q : ℕ) → GoesTo (exit_at g p) q → GoesTo (exit_at (graph_to g) p) q
  goes_to p q goes = subst (λ e. GoesTo e q) (sym (exit_renamed exchanged_number g p)) (goes_same (exit_at g p) q goes)

  no_call_to : (p : ℕ) → (IsCall (exit_at g p) → ⊥) → IsCall (exit_at (graph_to g) p) → ⊥
  no_call_to p none call = none (call_from (exit_at g p) (subst IsCall (exit_renamed exchanged_number g p) call))

  point_to : (p : ℕ) (ops : List (ByteOp ℕ)) → IsPoint g p ops → IsPoint (graph_to g) p (ops_to ops)
  point_to p ops point = (ops_to point.0, sym (map-append (renamed_op exchanged_number) point.0 ops) ∙ ap ops_to point.1 ∙ sym (ops_renamed exchanged_number g p))

  before_to : (s : Storage) (p : ℕ) (ops : List (ByteOp ℕ)) → WrittenBefore g s p ops → WrittenBefore (graph_to g) (moved s) p (ops_to ops)
  before_to s p ops (written p' op ops' point i) = written p (renamed_op exchanged_number op) (ops_to ops) (point_to p (op ∷ ops) point) (written_to s op i)
  before_to s p ops (past p' op ops' before) = past p (renamed_op exchanged_number op) (ops_to ops) (before_to s p (op ∷ ops) before)
  before_to s q ops (through p q' none goes before) =
      subst (WrittenBefore (graph_to g) (moved s) q) (ops_renamed exchanged_number g q) (through p q (no_call_to p none) (goes_to p q goes) (before_to s p [] before))

  module _ (a b : ℕ) (arguments : (s : Storage) → IsArgument a s → IsArgument b (moved s)) (arguments_back : (s : Storage) → IsArgument b (moved s) → IsArgument a s) where
    uses_same : (e : Exit ℕ) (p : ℕ) (s : Storage) → Uses a e g p s → Uses b (renamed_exit exchanged_number e) (graph_to g) p (moved s)
    uses_same (Next q) p s u = u
    uses_same (Test v true_arm false_arm) p s u = ap moved u
    uses_same (Call f q) p s u = (arguments s u.0, before_to s p [] u.1)
    uses_same (Label l q) p s u = u
    uses_same Return p s u = (arguments s u.0, before_to s p [] u.1)

    overwrites_from : (e : Exit ℕ) (s : Storage) → Overwrites b (renamed_exit exchanged_number e) (moved s) → Overwrites a e s
    overwrites_from (Next q) s o = o
    overwrites_from (Test v true_arm false_arm) s o = o
    overwrites_from (Call f q) Carry o = o
    overwrites_from (Call f q) (Loc v) o = arguments_back (Loc v) o
    overwrites_from (Label l q) s o = o
    overwrites_from Return s o = o

    live_to : (s : Storage) (p : ℕ) (ops : List (ByteOp ℕ)) → Live a g s p ops → Live b (graph_to g) (moved s) p (ops_to ops)
    live_to s p ops (used p' op ops' i) = used p (renamed_op exchanged_number op) (ops_to ops') (read_to s op i)
    live_to s p ops (kept p' op ops' out live) = kept p (renamed_op exchanged_number op) (ops_to ops') (λ i. out (written_from s op i)) (live_to s p ops' live)
    live_to s p ops (used_by_exit p' u) = used_by_exit p (subst (λ e. Uses b e (graph_to g) p (moved s)) (sym (exit_renamed exchanged_number g p)) (uses_same (exit_at g p) p s u))
    live_to s p ops (onward p' q out goes live) =
        onward p q (λ o. out (overwrites_from (exit_at g p) s (subst (λ e. Overwrites b e (moved s)) (exit_renamed exchanged_number g p) o))) (goes_to p q goes)
        (subst (Live b (graph_to g) (moved s) q) (sym (ops_renamed exchanged_number g q)) (live_to s q (ops_at g q) live))

    live_at_to : (s : Storage) (p : ℕ) → LiveAt a g s p → LiveAt b (graph_to g) (moved s) p
    live_at_to s p live = subst (Live b (graph_to g) (moved s) p) (sym (ops_renamed exchanged_number g p)) (live_to s p (ops_at g p) live)

  -- a path of the graph is one under the other numbers, and what is written on that is written on it
  abbrev Carried : (s : Storage) (p : ℕ) (ops : List (ByteOp ℕ)) → Path g p ops → List (ByteOp ℕ) → Type 0
  Carried s p ops path ops' = (path' : Path (graph_to g) p ops') × (IsWrittenOn (moved s) path' → IsWrittenOn s path)

  path_to : (s : Storage) (p : ℕ) (ops : List (ByteOp ℕ)) (path : Path g p ops) → Carried s p ops path (ops_to ops)
  path_to s p ops at_entry = subst (Carried s g.entry (ops_at g g.entry) at_entry) (ops_renamed exchanged_number g g.entry) (at_entry, λ w. w)
  path_to s p ops (On.past p' op ops' path) =
      let before = path_to s p (op ∷ ops) path in
      (On.past p (renamed_op exchanged_number op) (ops_to ops) before.0, λ w. first before.1 w)
    where
      first : {A B : Type 0} → (A → B) → (IsAmong (moved s) (writes (renamed_op exchanged_number op)) ⊎ A) → IsAmong s (writes op) ⊎ B
      first f (inl i) = inl (written_from s op i)
      first f (inr w) = inr (f w)
  path_to s p ops (On.through p' q goes path) =
      let before = path_to s p' [] path in
      subst (Carried s q (ops_at g q) (On.through p' q goes path)) (ops_renamed exchanged_number g q)
      (On.through p' q (goes_to p' q goes) before.0, λ w. ((λ call. w.0 (subst IsCall (sym (exit_renamed exchanged_number g p')) (call_to (exit_at g p') call))), before.1 w.1))
    where
      call_to : (e : Exit ℕ) → IsCall e → IsCall (renamed_exit exchanged_number e)
      call_to (Next p) call = call
      call_to (Test v true_arm false_arm) call = call
      call_to (Call f p) call = call
      call_to (Label l p) call = call
      call_to Return call = call

-- a program respects the convention where it does so under the other numbers
module _ (gs : ℕ → Graph ℕ) (a b : ℕ) (arguments : (s : Storage) → IsArgument a s → IsArgument b (moved s)) (arguments_back : (s : Storage) → IsArgument b (moved s) → IsArgument a s) where
  exit_to : (k p : ℕ) (e : Exit ℕ) → exit_at (gs k) p ≡ e → exit_at (graph_to (gs k)) p ≡ renamed_exit exchanged_number e
  exit_to k p e is = exit_renamed exchanged_number (gs k) p ∙ ap (renamed_exit exchanged_number) is

  live_in : (k : ℕ) (s : Storage) (p : ℕ) → LiveAt a (gs k) s p → LiveAt b (graph_to (gs k)) (moved s) p
  live_in k s p live = live_at_to (gs k) a b arguments arguments_back s p live

  convention_back : RespectsConvention b (λ k. graph_to (gs k)) → RespectsConvention a gs
  convention_back conv = record {
    entries = λ f s live. arguments_back s (conv.entries f (moved s) (live_in f s (gs f).entry live));
    arguments = λ f g p q s e live path.
        let carried = path_to (gs f) s p [] path in
        carried.1 (conv.arguments f g p q (moved s) (exit_to f p (Call g q) e) (live_in g s (gs g).entry live) carried.0);
    results = λ f g p q r s e arg live ret path.
        let carried = path_to (gs g) s r [] path in
        carried.1 (conv.results f g p q r (moved s) (exit_to f p (Call g q) e) (arguments s arg) (live_in f s q live) (exit_to g r Return ret) carried.0);
    carry = λ f g p q e live. conv.carry f g p q (exit_to f p (Call g q) e) (live_in f Carry q live);
  }

-- ---- from RTL to ERTL

-- exchanged twice, a graph is as it was
pub graph_back : (g : Graph ℕ) → graph_to (graph_to g) ≡ g
graph_back g = graph_twice exchanged_number exchanged_number g ∙ ap (λ f. renamed_graph f g) (same_function (λ v. exchanged_number (exchanged_number v)) (λ v. v) back) ∙ graph_same g

argument_back : (s : Storage) → IsArgument 12 (moved s) → IsArgument 0 s
argument_back s arg = subst (IsArgument 0) (moved_back s) (argument_of_ertl (moved s) arg)

pub convention_kept : (gs : ℕ → Graph ℕ) → RespectsConvention 12 gs → RespectsConvention 0 (λ k. graph_to (gs k))
convention_kept gs conv =
    convention_back (λ k. graph_to (gs k)) 0 12 argument_of_rtl argument_back
    (subst (RespectsConvention 12) (sym (same_function (λ k. graph_to (graph_to (gs k))) gs (λ k. graph_back (gs k)))) conv)

pub carry_kept : (g : Graph ℕ) → CarryStaysInside 12 g → CarryStaysInside 0 (graph_to g)
carry_kept g inside p live =
    inside p (subst (λ h. LiveAt 12 h Carry p) (graph_back g) (live_at_to (graph_to g) 0 12 argument_of_rtl argument_back Carry p live))
