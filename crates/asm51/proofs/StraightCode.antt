-- Steps of an assembly program, and that straight-line code runs through.
use Rattle.std.proofs.Common.{◌≡◌, ℕ, suc, ◌+◌, ◌≤◌, List, [], ◌∷◌, ◌++◌, Option, Some, refl, sym, ap, ap₂, subst, ◌∙◌, arith, length, slice_get, append_assoc, append-nil}
use Rattle.cerco_base.specs.declared.events.Event.{Event}
use Rattle.cerco_traces.specs.Systems.{EachWithin, Run, here, onward}
use Rattle.mcs51_isa.specs.declared.instr.Instr.{Instr}
use Rattle.mcs51_isa.specs.declared.instr.Instr.TheVariants.{Nop, Ret, Sjmp}
use Rattle.sim51.specs.Effect.{effect}
use Rattle.sim51.specs.Runs.{read_events, write_events}
use Rattle.sim51.specs.Straight.{IsStraight, AreStraight, core_after, port_events}
use Rattle.asm51.specs.declared.items.AsmItem.{AsmItem}
use Rattle.asm51.specs.declared.items.AsmItem.TheVariants.{Plain}
use Rattle.asm51.specs.Items.{target_of}
use Rattle.asm51.specs.Meaning.{AsmState, executed, plain_step, item_step, step_by, item_touches, counted, assembly}
use Rattle.asm51.specs.StraightCode.{StandAt, touched_by, passed}
use Rattle.asm51.specs.Laws.{StraightCodeRuns}

-- a step does what the item at its place does
pub step_of : (items : List AsmItem) (s : AsmState) (item : AsmItem) → slice_get items s.at ≡ Some item → (assembly items).step s ≡ item_step (target_of items) item s
step_of items s item there = ap (λ o. step_by (target_of items) o s) there

pub straight_executes : (i : Instr) (s : AsmState) → IsStraight i → plain_step i s ≡ executed i s
straight_executes Nop s h = refl
straight_executes (Ret kind) s h = absurd h
straight_executes (Sjmp offset) s h = absurd h
straight_executes _ s h = refl

each_front : (d : ℕ) (xs ys : List ℕ) → EachWithin d (xs ++ ys) → EachWithin d xs
each_front d [] ys h = tt
each_front d (x ∷ xs) ys h = (h.0, h.1, each_front d xs ys h.2)

each_back : (d : ℕ) (xs ys : List ℕ) → EachWithin d (xs ++ ys) → EachWithin d ys
each_back d [] ys h = h
each_back d (x ∷ xs) ys h = each_back d xs ys h.2

counted_front : (d : ℕ) (returns xs ys : List ℕ) → EachWithin d (counted returns (xs ++ ys)) → EachWithin d (counted returns xs)
counted_front d [] xs ys h = tt
counted_front d (k ∷ ks) xs ys h = each_front d xs ys h

counted_back : (d : ℕ) (returns xs ys : List ℕ) → EachWithin d (counted returns (xs ++ ys)) → EachWithin d (counted returns ys)
counted_back d [] xs ys h = tt
counted_back d (k ∷ ks) xs ys h = each_back d xs ys h

module _ (items : List AsmItem) (d : ℕ) where
  -- one straight instruction
  straight_step : (i : Instr) (s t : AsmState) → slice_get items s.at ≡ Some (Plain i) → IsStraight i → EachWithin d (counted s.returns (item_touches (Some (Plain i)) s.core)) → length s.returns ≤ 64 → Run (assembly items) d (executed i s) t → Run (assembly items) d s t
  straight_step i s t there straight bytes few rest =
      let goes = step_of items s (Plain i) there ∙ straight_executes i s straight in
      onward s t
      (record {
        bytes = subst (λ (o : Option AsmItem). EachWithin d (counted s.returns (item_touches o s.core))) (sym there) bytes;
        calls = subst (λ (x : AsmState). length x.returns ≤ 64) (sym goes) few;
      })
      (subst (λ x. Run (assembly items) d x t) (sym goes) rest)

  nothing_more : (s : AsmState) → s ≡ passed [] s
  nothing_more s =
      let n : s.at ≡ s.at + 0 = omega arith in
      ap₂ (λ (k : ℕ) (es : List Event). let q : AsmState = record s { at = k; made = es } in q) n (sym (append-nil s.made))

  one_more : (i : Instr) (is : List Instr) (s : AsmState) → passed is (executed i s) ≡ passed (i ∷ is) s
  one_more i is s =
      let e = effect [] i 0 s.core in
      let n : suc s.at + length is ≡ s.at + suc (length is) = omega arith in
      ap₂ (λ (k : ℕ) (es : List Event). let q : AsmState = record s { core = core_after is e.core; at = k; made = es } in q)
      n (append_assoc s.made (read_events e.read ++ write_events e.write) (port_events is e.core))

  runs : (is : List Instr) (s : AsmState) → StandAt items s.at is → AreStraight is → EachWithin d (counted s.returns (touched_by is s.core)) → length s.returns ≤ 64 → Run (assembly items) d s (passed is s)
  runs [] s there straight bytes few = subst (λ x. Run (assembly items) d s x) (nothing_more s) (here s)
  runs (i ∷ is) s there straight bytes few =
      let touched = item_touches (Some (Plain i)) s.core in
      let more = touched_by is (effect [] i 0 s.core).core in
      straight_step i s (passed (i ∷ is) s) there.0 straight.0 (counted_front d s.returns touched more bytes) few
      (subst (λ x. Run (assembly items) d (executed i s) x) (one_more i is s)
      (runs is (executed i s) there.1 straight.1 (counted_back d s.returns touched more bytes) few))

pub straight_code_runs : StraightCodeRuns
straight_code_runs items d is s = runs items d is s
