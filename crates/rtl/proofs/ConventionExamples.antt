-- A small ERTL program that respects the calling convention, and one that doesn't: `main` calls a function that writes its argument
-- to the port, with and without handing it over.
use Rattle.std.proofs.Common.{◌≡◌, ℕ, zero, suc, ◌⊎◌, List, [], ◌∷◌, ◌++◌, inl, inr, refl, sym, ap, ◌∙◌, subst, arith}
use Rattle.rtl.specs.Operations.{ByteOp}
use Rattle.rtl.specs.Operations.{Const, WritePort}
use Rattle.rtl.specs.declared.graphs.Exit.TheVariants.{Call, Return}
use Rattle.rtl.specs.Programs.{Graph}
use Rattle.rtl.specs.Effects.{Storage, Loc, Carry, writes}
use Rattle.rtl.specs.Graphs.{ops_at, exit_at, graph_at}
use Rattle.rtl.specs.Liveness.{IsAmong, IsArgument, IsPoint, WrittenBefore, written, past as passed_by, through as came_through, Live, LiveAt, used, kept, used_by_exit, onward}
use Rattle.rtl.specs.CallingConvention.{Path, at_entry, past, through, IsWrittenOn, RespectsConvention}
use Rattle.rtl.proofs.Samples.{node, passes}
use Rattle.rtl.proofs.Points.{not_written, path_to_point}

-- `main`, which makes these operations before its call
abbrev pub main_with : List (ByteOp ℕ) → Graph ℕ
main_with ops = record { entry = 0; nodes = passes 0 1 ∷ node ops (Call 1 2) ∷ passes 1 3 ∷ node [] Return ∷ [] }

abbrev shows_argument : Graph ℕ
shows_argument = record { entry = 0; nodes = passes 2 1 ∷ node (WritePort 0 ∷ []) Return ∷ [] }

abbrev program_with : List (ByteOp ℕ) → ℕ → Graph ℕ
program_with ops = graph_at (main_with ops ∷ shows_argument ∷ [])

abbrev pub main_graph : Graph ℕ
main_graph = main_with (Const 0 5 ∷ [])

abbrev program : ℕ → Graph ℕ
program = program_with (Const 0 5 ∷ [])

-- ---- what is live

-- in a function that isn't there nothing is
abbrev missing : Graph ℕ
missing = graph_at [] 0

idle : (s : Storage) (p : ℕ) (ops : List (ByteOp ℕ)) → ops ≡ [] → Live 0 missing s p ops → ⊥
idle s p ops none (used p' op ops' i) = cc
idle s p ops none (kept p' op ops' out l) = cc
idle s zero ops none (used_by_exit p' u) = u
idle s (suc p) ops none (used_by_exit p' u) = u
idle s p ops none (onward p' zero out goes l) = idle s zero [] refl l
idle s p ops none (onward p' (suc q) out goes l) = idle s (suc q) [] refl l

last_in_main : (s : Storage) → Live 0 main_graph s 3 [] → IsArgument 0 s
last_in_main s (used_by_exit p u) = u.0
last_in_main s (onward p q out goes l) = absurd goes

after_call : (s : Storage) → Live 0 main_graph s 2 [] → IsArgument 0 s
after_call s (used_by_exit p u) = absurd u
after_call s (onward p q out goes l) = last_in_main s (subst (λ q. Live 0 main_graph s q (ops_at main_graph q)) (sym goes) l)

at_call : (s : Storage) → Live 0 main_graph s 1 [] → IsArgument 0 s
at_call s (used_by_exit p u) = u.0
at_call s (onward p q out goes l) = after_call s (subst (λ q. Live 0 main_graph s q (ops_at main_graph q)) (sym goes) l)

before_call : (s : Storage) → Live 0 main_graph s 1 (ops_at main_graph 1) → IsArgument 0 s
before_call s (used p op ops i) = absurd i
before_call s (kept p op ops out l) = at_call s l

main_entry : (s : Storage) → LiveAt 0 main_graph s 0 → IsArgument 0 s
main_entry s (used_by_exit p u) = absurd u
main_entry s (onward p q out goes l) = before_call s (subst (λ q. Live 0 main_graph s q (ops_at main_graph q)) (sym goes) l)

at_return : (s : Storage) → Live 0 shows_argument s 1 [] → ⊥
at_return s (used_by_exit p u) = not_written shows_argument s 1 [] (grind arith) u.1
at_return s (onward p q out goes l) = goes

at_write : (s : Storage) → Live 0 shows_argument s 1 (ops_at shows_argument 1) → Loc 0 ≡ s
at_write s (used p op ops (inl e)) = e
at_write s (used p op ops (inr i)) = absurd i
at_write s (kept p op ops out l) = absurd (at_return s l)

shown_entry : (s : Storage) → LiveAt 0 shows_argument s 0 → Loc 0 ≡ s
shown_entry s (used_by_exit p u) = absurd u
shown_entry s (onward p q out goes l) = at_write s (subst (λ q. Live 0 shows_argument s q (ops_at shows_argument q)) (sym goes) l)

argument_zero : IsArgument 0 (Loc 0)
argument_zero = (omega arith, omega arith)

entries : (f : ℕ) (s : Storage) → LiveAt 0 (program f) s (program f).entry → IsArgument 0 s
entries zero s l = main_entry s l
entries (suc zero) s l = subst (IsArgument 0) (shown_entry s l) argument_zero
entries (suc (suc f)) s l = absurd (idle s 0 [] refl l)

-- ---- what is handed over

-- the program has one call
one_call : (f p h q : ℕ) → exit_at (program f) p ≡ Call h q → (f ≡ 0) × (p ≡ 1) × (1 ≡ h) × (2 ≡ q)
one_call zero zero h q e = absurd cc
one_call zero (suc zero) h q e = (refl, refl, cc, cc)
one_call zero (suc (suc zero)) h q e = absurd cc
one_call zero (suc (suc (suc zero))) h q e = absurd cc
one_call zero (suc (suc (suc (suc p)))) h q e = absurd cc
one_call (suc zero) zero h q e = absurd cc
one_call (suc zero) (suc zero) h q e = absurd cc
one_call (suc zero) (suc (suc p)) h q e = absurd cc
one_call (suc (suc f)) zero h q e = absurd cc
one_call (suc (suc f)) (suc p) h q e = absurd cc

-- the last operation before the call
last_op : (op : ByteOp ℕ) (made : List (ByteOp ℕ)) → made ++ op ∷ [] ≡ Const 0 5 ∷ [] → op ≡ Const 0 5
last_op op [] e = cc
last_op op (x ∷ []) e = absurd cc
last_op op (x ∷ (y ∷ made)) e = absurd cc

-- the argument is written on each path to the call
written_on : (p : ℕ) (ops : List (ByteOp ℕ)) (path : Path main_graph p ops) → p ≡ 1 → ops ≡ [] → IsWrittenOn (Loc 0) path
written_on p ops at_entry e none = absurd (omega (arith, e))
written_on p ops (past p' op ops' path) e none = inl (subst (λ o. IsAmong (Loc 0) (writes o)) (sym is) (inl refl))
  where
    point : IsPoint main_graph p (op ∷ ops)
    point = path_to_point main_graph p (op ∷ ops) path

    is : op ≡ Const 0 5
    is = last_op op point.0 (ap (λ xs. point.0 ++ op ∷ xs) (sym none) ∙ point.1 ∙ ap (ops_at main_graph) e)
written_on q ops (through p q' goes path) e none = absurd (some (Const 0 5) (sym (ap (ops_at main_graph) e) ∙ none))
  where
    some : (op : ByteOp ℕ) → op ∷ [] ≡ [] → ⊥
    some op f = cc

abbrev HandsOver : ℕ → ℕ → ℕ → Storage → Type 0
HandsOver f p h s = LiveAt 0 (program h) s (program h).entry → (path : Path (program f) p []) → IsWrittenOn s path

hands_over : (s : Storage) → HandsOver 0 1 1 s
hands_over s live path = subst (λ t. IsWrittenOn t path) (shown_entry s live) (written_on 1 [] path refl refl)

arguments : (f h p q : ℕ) (s : Storage) → exit_at (program f) p ≡ Call h q → HandsOver f p h s
arguments f h p q s call =
    let is = one_call f p h q call in
    subst (λ f'. HandsOver f' p h s) (sym is.0) (subst (λ p'. HandsOver 0 p' h s) (sym is.1) (subst (λ h'. HandsOver 0 1 h' s) is.2 (hands_over s)))

-- ---- what is live after the call

-- nothing is written after it
not_written_after : (s : Storage) (p : ℕ) (ops : List (ByteOp ℕ)) → (p ≡ 2) ⊎ (p ≡ 3) → WrittenBefore main_graph s p ops → ⊥
not_written_after s p ops late (written p' op ops' point i) = no_ops late
  where
    none : (q : ℕ) → p ≡ q → ops_at main_graph q ≡ [] → ⊥
    none q e n = empty point.0 (point.1 ∙ (ap (ops_at main_graph) e ∙ n))
      where
        empty : (made : List (ByteOp ℕ)) → made ++ op ∷ ops ≡ [] → ⊥
        empty [] f = cc
        empty (x ∷ made) f = cc

    no_ops : (p ≡ 2) ⊎ (p ≡ 3) → ⊥
    no_ops (inl e) = none 2 e refl
    no_ops (inr e) = none 3 e refl
not_written_after s p ops late (passed_by p' op ops' before) = not_written_after s p (op ∷ ops) late before
not_written_after s q ops late (came_through zero q' call goes before) = grind arith
not_written_after s q ops late (came_through (suc zero) q' call goes before) = call tt
not_written_after s q ops late (came_through (suc (suc zero)) q' call goes before) = not_written_after s 2 [] (inl refl) before
not_written_after s q ops late (came_through (suc (suc (suc zero))) q' call goes before) = goes
not_written_after s q ops late (came_through (suc (suc (suc (suc p)))) q' call goes before) = grind arith

not_at_end : (s : Storage) → Live 0 main_graph s 3 [] → ⊥
not_at_end s (used_by_exit p u) = not_written_after s 3 [] (inr refl) u.1
not_at_end s (onward p q out goes l) = goes

not_after_call : (s : Storage) → LiveAt 0 main_graph s 2 → ⊥
not_after_call s (used_by_exit p u) = u
not_after_call s (onward p q out goes l) = not_at_end s (subst (λ q. Live 0 main_graph s q (ops_at main_graph q)) (sym goes) l)

nothing_across : (f h p q : ℕ) (s : Storage) → exit_at (program f) p ≡ Call h q → LiveAt 0 (program f) s q → ⊥
nothing_across f h p q s call live =
    let is = one_call f p h q call in
    not_after_call s (subst (λ q'. LiveAt 0 main_graph s q') (sym is.3) (subst (λ f'. LiveAt 0 (program f') s q) is.0 live))

respects : RespectsConvention 0 program
respects = record {
  entries = entries;
  arguments = λ f h p q s call live path. arguments f h p q s call live path;
  results = λ f h p q r s call arg live ends path. absurd (nothing_across f h p q s call live);
  carry = λ f h p q call live. nothing_across f h p q Carry call live;
}

-- ---- without the argument

forgets : RespectsConvention 0 (program_with []) → ⊥
forgets respects = (respects.arguments 0 1 1 2 (Loc 0) refl (onward 0 1 (λ o. o) refl (used 1 (WritePort 0) [] (inl refl))) (through 0 1 refl at_entry)).1
