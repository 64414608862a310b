-- A selected program preserves the traces of its linear code: a forward simulation, in which each item is matched by the items of its
-- code.
use Rattle.std.proofs.Common.{◌≡◌, ℕ, zero, suc, ◌+◌, ◌*◌, ◌/◌, ◌%◌, ◌<◌, ◌≤◌, List, [], ◌∷◌, ◌++◌, length, drop, Bool, true, false, IsTrue, Some, refl, sym, ap, ap₂, ◌∙◌, subst, arith, slice_get, slice_index, slice_set, replicate, append_assoc, append-nil}
use Rattle.std.specs.Prelude.{nat_eq, if◌then◌else◌, not}
use Rattle.std.specs.List.{AllByRecursion}
use Rattle.std.proofs.lemmas.List.{length-map, length-replicate}
use Rattle.cerco_base.specs.declared.events.Event.{Event}
use Rattle.cerco_base.specs.declared.events.Event.TheVariants as Shown
use Rattle.cerco_base.specs.declared.events.Label.{Label as LabelNumber}
use Rattle.cerco_base.specs.Events.{IsPrefix}
use Rattle.cerco_traces.specs.LabelledGraphs.{In}
use Rattle.cerco_traces.specs.Systems.{System, EachWithin, IsWithin, Run, here, onward}
use Rattle.cerco_traces.specs.Preservation.{PreservesFor, Preserves}
use Rattle.cerco_traces.specs.Worlds.{World, update, shown, started_from, start_world}
use Rattle.cerco_traces.proofs.Simulation.{joined, prefix_refl, Simulates, simulation_preserves}
use Rattle.mcs51_isa.specs.declared.instr.Instr.{Instr}
use Rattle.mcs51_isa.specs.declared.instr.Instr.TheVariants as Instruction
use Rattle.mcs51_isa.specs.declared.instr.Move.TheVariants.{FromAcc}
use Rattle.mcs51_isa.specs.declared.instr.ReturnKind.TheVariants.{FromCall}
use Rattle.sim51.specs.State.{Core, reset_core}
use Rattle.sim51.specs.Locations.{dptr, with_dptr}
use Rattle.rtl.specs.declared.locations.Place.{Place}
use Rattle.rtl.specs.declared.operations.Src.TheVariants.{At}
use Rattle.rtl.specs.Operations.{ByteOp}
use Rattle.rtl.specs.Items.{LinItem, LinProgram}
use Rattle.rtl.specs.Items as Lin
use Rattle.rtl.specs.Locations.{place_number, place_address}
use Rattle.rtl.specs.Effects.{Storage, Loc, effect}
use Rattle.rtl.specs.Graphs.{renamed_op}
use Rattle.rtl.specs.Meaning.{all_zero, shared_after, shares_all}
use Rattle.rtl.specs.Linear.{OpenItems, LinState, lin_state, open_items, items_from, branch_items, item_step as lin_item_step, items_step, lin_step, items_touched, lin_touched, label_first, lin_due, no_items, items_at, lin}
use Rattle.rtl.specs.WellFormed.{gathered, here_nodes, item_nodes, item_functions, item_locations, IsPlace, op_locations, IsLin, IsLinProgram}
use Rattle.asm51.specs.declared.items.AsmItem.{AsmItem}
use Rattle.asm51.specs.declared.items.AsmItem.TheVariants.{Plain, Mark, Enter, Here, Jump, Test, Call}
use Rattle.asm51.specs.Items.{is_mark, target_of}
use Rattle.asm51.specs.Meaning.{AsmState, gone_to, is_end, returned, item_step, passes, item_touches, counted, assembly}
use Rattle.asm51.specs.StraightCode.{passed}
use Rattle.asm51.specs.WellFormed.{IsWellFormed}
use Rattle.asm51.proofs.Counting.{of_each}
use Rattle.asm51.proofs.StraightCode.{step_of, straight_code_runs}
use Rattle.asm51_select.specs.Translation.{plains, take_code, op_code, item_code, byte_code, functions_code, selected}
use Rattle.asm51_select.proofs.Steps.{Leads, led, quiet, onward as then_on}
use Rattle.asm51_select.proofs.Held.{HoldsIn, HoldsWorld, HoldsWorldIn, with_byte}
use Rattle.asm51_select.proofs.Reaching.{takes}
use Rattle.asm51_select.proofs.Does.{op_does}
use Rattle.asm51_select.proofs.Spares.{spare_is_straight, op_spares, test_spares, bytes_spare}
use Rattle.asm51_select.proofs.Standing.{drop_get, drop_on, drop_past, plains_stand, Stands, stands_on}
use Rattle.asm51_select.proofs.Finding.{of_one, jump_goes, test_goes, call_goes}

-- ---- the start

-- the start's instructions up to the call of `main`
abbrev pub start_instrs : List (ℕ × ℕ) → List Instr
start_instrs bytes = Instruction.MovDirectImmediate 0x81 0x7F ∷ gathered byte_code bytes

pub start_stands : (program : LinProgram) → drop (length (start_instrs program.start)) (selected program) ≡ Call program.main ∷ Plain (Instruction.Sjmp 0xFE) ∷ functions_code 0 program.lins
unfolding selected
start_stands program =
    let is = start_instrs program.start in
    let more = Call program.main ∷ Plain (Instruction.Sjmp 0xFE) ∷ functions_code 0 program.lins in
    let whole : selected program ≡ plains is ++ more = append_assoc (plains is) (Call program.main ∷ Plain (Instruction.Sjmp 0xFE) ∷ []) (functions_code 0 program.lins) in
    let same = length-map is Plain in
    let z : 0 + length (plains is) ≡ length is = omega arith in
    ap (λ n. drop n (selected program)) (sym z) ∙ drop_past (selected program) 0 (plains is) more whole

pub start_first : (program : LinProgram) → drop 0 (selected program) ≡ plains (start_instrs program.start) ++ Call program.main ∷ Plain (Instruction.Sjmp 0xFE) ∷ functions_code 0 program.lins
unfolding selected
start_first program = append_assoc (plains (start_instrs program.start)) (Call program.main ∷ Plain (Instruction.Sjmp 0xFE) ∷ []) (functions_code 0 program.lins)

record Started (bytes : List (ℕ × ℕ)) (c : Core) (m : Storage → ℕ) (w : World) : Type 0 where
  after : Core
  touched : List ℕ
  leads : Leads (gathered byte_code bytes) c after [] touched
  holds : HoldsIn after m
  world : HoldsWorldIn after (record w { xram = started_from bytes w.xram })

starts : (bytes : List (ℕ × ℕ)) (c : Core) (m : Storage → ℕ) (w : World) → HoldsIn c m → HoldsWorldIn c w → Started bytes c m w
starts [] c m w h hw = record { after = c; touched = []; leads = led c; holds = h; world = hw }
starts (byte ∷ bytes) c m w h hw =
    let c1 = with_dptr c byte.0 in
    let c2 : Core = record c1 { acc = byte.1 } in
    let c3 : Core = record c2 { xram = slice_set c.xram (dptr c2) byte.1 } in
    let at : dptr c2 ≡ byte.0 = parts byte.0 in
    let w' : World = record w { xram = update w.xram byte.0 byte.1 } in
    let held : HoldsWorldIn c3 w' = subst (λ x. HoldsWorld (slice_set c.xram x byte.1) c.script w') (sym at) (with_byte c.xram c.script w byte.0 byte.1 hw) in
    let rest = starts bytes c3 m w' h held in
    record {
      after = rest.after;
      touched = dptr c2 ∷ rest.touched;
      leads = quiet (Instruction.MovDptr byte.0) (Instruction.MovAccImmediate byte.1 ∷ Instruction.MovxDptr FromAcc ∷ gathered byte_code bytes) c c1 rest.after [] (dptr c2 ∷ rest.touched) (record { effect_is = refl; touches = refl })
          (quiet (Instruction.MovAccImmediate byte.1) (Instruction.MovxDptr FromAcc ∷ gathered byte_code bytes) c1 c2 rest.after [] (dptr c2 ∷ rest.touched) (record { effect_is = refl; touches = refl })
          (then_on (Instruction.MovxDptr FromAcc) (gathered byte_code bytes) c2 rest.after [] rest.touched rest.leads));
      holds = rest.holds;
      world = rest.world;
    }
  where
    parts : (n : ℕ) → 256 * (n / 256) + n % 256 ≡ n
    parts n = omega arith

-- a machine that was reset holds zeros
zeros : (n a : ℕ) → slice_index (replicate n 0) a ≡ 0
zeros zero a = refl
zeros (suc n) zero = refl
zeros (suc n) (suc a) = zeros n a

reset_holds : (script : List ℕ) → HoldsIn (reset_core script) all_zero
reset_holds script = record { long = length-replicate {A = ℕ} 256 0; upper = refl; lower = refl; places = λ p ok. zeros 256 (place_address p); carry = refl }

reset_world : (script : List ℕ) → HoldsWorldIn (reset_core script) (start_world [] script)
reset_world script = record { long = length-replicate {A = ℕ} 65536 0; bytes = λ a below. zeros 65536 a; left = refl }

module _ (program : LinProgram) (d : ℕ) (small : d < 65536) (formed : IsLinProgram program) (well : IsWellFormed (selected program)) where
  abbrev asm : List AsmItem
  asm = selected program

  abbrev lins : ℕ → List LinItem
  lins = items_at program.lins

  abbrev X : System LinState
  X = lin program

  abbrev Y : System AsmState
  Y = assembly asm

  -- where the start's jump to itself stands
  abbrev finish : ℕ
  finish = suc (length (start_instrs program.start))

  abbrev Backs : List OpenItems → List ℕ → Type 0
  Backs [] rs = rs ≡ finish ∷ []
  Backs (c ∷ cs) [] = ⊥
  Backs (c ∷ cs) (r ∷ rs) = Stands program c.function c.left r × Backs cs rs

  abbrev AllStand : List OpenItems → ℕ → List ℕ → Type 0
  AllStand [] at rs = (at ≡ finish) × (rs ≡ [])
  AllStand (c ∷ cs) at rs = Stands program c.function c.left at × Backs cs rs

  as_many : (cs : List OpenItems) (rs : List ℕ) → Backs cs rs → length rs ≡ suc (length cs)
  as_many [] rs e = ap length e
  as_many (c ∷ cs) [] e = absurd e
  as_many (c ∷ cs) (r ∷ rs) e = ap suc (as_many cs rs e.1)

  record Related (x : LinState) (y : AsmState) : Type 0 where
    stands : AllStand x.calls y.at y.returns
    holds : HoldsIn y.core x.shared
    world : HoldsWorldIn y.core x.world
    made : y.made ≡ x.world.made

  -- from y the items come to what stands for x
  record After (x : LinState) (y : AsmState) : Type 0 where
    state : AsmState
    run : Run Y d y state
    rel : Related x state

  before : {x : LinState} {y z : AsmState} → Run Y d y z → After x z → After x y
  before r a = record { state = a.state; run = joined r a.run; rel = a.rel }

  none_counted : (rs : List ℕ) → EachWithin d (counted rs [])
  none_counted [] = tt
  none_counted (r ∷ rs) = tt

  all_counted : (rs ts : List ℕ) → EachWithin d ts → EachWithin d (counted rs ts)
  all_counted [] ts h = tt
  all_counted (r ∷ rs) ts h = h

  -- one step
  one : (y z : AsmState) (item : AsmItem) → slice_get asm y.at ≡ Some item → item_touches (Some item) y.core ≡ [] → item_step (target_of asm) item y ≡ z → length z.returns ≤ 64 → Run Y d y z
  one y z item there untouched is few =
      let goes : Y.step y ≡ z = step_of asm y item there ∙ is in
      let bytes : EachWithin d (counted y.returns (item_touches (slice_get asm y.at) y.core)) = subst (λ (ts : List ℕ). EachWithin d (counted y.returns ts)) (sym (ap (λ o. item_touches o y.core) there ∙ untouched)) (none_counted y.returns) in
      onward y z (record { bytes = bytes; calls = subst (λ (s : AsmState). length s.returns ≤ 64) (sym goes) few }) (subst (λ s. Run Y d s z) (sym goes) (here z))

  -- the function of a call
  module _ (f : ℕ) (cs : List OpenItems) (shared : Storage → ℕ) (w : World) (y : AsmState) (backs : Backs cs y.returns) (few : suc (length cs) ≤ 64) (holds : HoldsIn y.core shared) (world : HoldsWorldIn y.core w) (made : y.made ≡ w.made) where
    enough : length y.returns ≤ 64
    enough = let k = as_many cs y.returns backs in omega arith

    -- the call goes on at other items, and nothing else has changed
    goes_on : (left : List LinItem) (k : ℕ) → Stands program f left k → Related (lin_state (open_items f left ∷ cs) shared w) (gone_to k y)
    goes_on left k s = record { stands = (s, backs); holds = holds; world = world; made = made }

    module _ (left : List LinItem) where
      here_case : (n : ℕ) → Stands program f (Lin.Here n ∷ left) y.at → After (lin_state (open_items f left ∷ cs) shared w) y
      here_case n s =
          let next = stands_on program f (Lin.Here n) left y.at s in
          let z : y.at + 1 ≡ suc y.at = omega arith in
          record {
            state = gone_to (suc y.at) y;
            run = one y (gone_to (suc y.at) y) (Here f n) (drop_get asm y.at (Here f n) (gathered (item_code f) left ++ s.more) s.is) refl refl enough;
            rel = goes_on left (suc y.at) (subst (λ k. Stands program f left k) z next);
          }

      label_case : (l : LabelNumber) → Stands program f (Lin.Label l ∷ left) y.at → After (lin_state (open_items f left ∷ cs) shared (shown (Shown.Label l) w)) y
      label_case l s =
          let y' : AsmState = record y { at = y.at + 2; made = y.made ++ Shown.Label l ∷ [] } in
          record {
            state = y';
            run = one y y' (Mark l) (drop_get asm y.at (Mark l) (Plain Instruction.Nop ∷ (gathered (item_code f) left ++ s.more)) s.is) refl refl enough;
            rel = record {
              stands = (stands_on program f (Lin.Label l) left y.at s, backs);
              holds = holds;
              world = record { long = world.long; bytes = world.bytes; left = world.left };
              made = ap (λ es. es ++ Shown.Label l ∷ []) made;
            };
          }

      op_case : (op : ByteOp Place) → Stands program f (Lin.Op op ∷ left) y.at → AllByRecursion IsPlace (op_locations op) → (let e = effect (renamed_op place_number op) shared w in EachWithin d e.touched → After (lin_state (open_items f left ∷ cs) (shared_after shares_all e.sets shared) e.world) y)
      op_case op s ok within =
          let is = op_code op in
          let r = op_does d small y.core shared w holds world op ok within in
          let e = effect (renamed_op place_number op) shared w in
          let y' = passed is y in
          let stand = plains_stand asm y.at is (gathered (item_code f) left ++ s.more) (s.is ∙ append_assoc (plains is) (gathered (item_code f) left) s.more) in
          let bytes = subst (λ (ts : List ℕ). EachWithin d (counted y.returns ts)) (sym r.leads.touched) (all_counted y.returns e.touched within) in
          let n : y.at + length (plains is) ≡ y.at + length is = ap (λ k. y.at + k) (length-map is Plain) in
          record {
            state = y';
            run = straight_code_runs asm d is y stand (spare_is_straight is (op_spares op ok)) bytes enough;
            rel = record {
              stands = (subst (λ k. Stands program f left k) n (stands_on program f (Lin.Op op) left y.at s), backs);
              holds = subst (λ c. HoldsIn c (shared_after shares_all e.sets shared)) (sym r.leads.core) r.holds;
              world = subst (λ c. HoldsWorldIn c e.world) (sym r.leads.core) r.world;
              made = ap₂ (λ (xs ys : List Event). xs ++ ys) made r.leads.events ∙ r.made;
            };
          }

      jump_case : (n : ℕ) → Stands program f (Lin.Jump n ∷ left) y.at → ((its : List LinItem) → slice_get program.lins f ≡ Some its → In n (gathered here_nodes its) → After (lin_state (open_items f (items_from n (lins f)) ∷ cs) shared w) y)
      jump_case n s its there i =
          let at = drop_get asm y.at (Jump f n) (gathered (item_code f) left ++ s.more) s.is in
          record {
            state = gone_to (target_of asm (Jump f n)) y;
            run = one y (gone_to (target_of asm (Jump f n)) y) (Jump f n) at refl refl enough;
            rel = goes_on (items_from n (lins f)) (target_of asm (Jump f n)) (jump_goes program well y.at f n its at there i);
          }

      return_case : Stands program f (Lin.Return ∷ left) y.at → After (lin_state cs shared w) y
      return_case s =
          let at = drop_get asm y.at (Plain (Instruction.Ret FromCall)) (gathered (item_code f) left ++ s.more) s.is in
          by cs y.returns refl backs few
        where
          by : (ds : List OpenItems) (rs : List ℕ) → y.returns ≡ rs → Backs ds rs → suc (length ds) ≤ 64 → After (lin_state ds shared w) y
          by [] rs is e small' =
              let all : y.returns ≡ finish ∷ [] = is ∙ e in
              let y' : AsmState = record y { at = finish; returns = [] } in
              record {
                state = y';
                run = one y y' (Plain (Instruction.Ret FromCall)) (drop_get asm y.at (Plain (Instruction.Ret FromCall)) (gathered (item_code f) left ++ s.more) s.is) refl (ap (λ ks. returned ks y) all) (omega arith);
                rel = record { stands = (refl, refl); holds = holds; world = world; made = made };
              }
          by (c ∷ ds) [] is e small' = absurd e
          by (c ∷ ds) (r ∷ rs) is e small' =
              let y' : AsmState = record y { at = r; returns = rs } in
              let k = as_many ds rs e.1 in
              record {
                state = y';
                run = one y y' (Plain (Instruction.Ret FromCall)) (drop_get asm y.at (Plain (Instruction.Ret FromCall)) (gathered (item_code f) left ++ s.more) s.is) refl (ap (λ ks. returned ks y) is) (omega arith);
                rel = record { stands = (e.0, e.1); holds = holds; world = world; made = made };
              }

      call_case : (g : ℕ) → Stands program f (Lin.Call g ∷ left) y.at → g < length program.lins → suc (suc (length cs)) ≤ 64 → After (lin_state (open_items g (lins g) ∷ open_items f left ∷ cs) shared w) y
      call_case g s lt fits =
          let at = drop_get asm y.at (Call g) (gathered (item_code f) left ++ s.more) s.is in
          let t = target_of asm (Call g) in
          let enters = call_goes program well y.at g at lt in
          let y1 : AsmState = record y { at = t; returns = suc y.at ∷ y.returns } in
          let y2 : AsmState = record y1 { at = suc t } in
          let n : y.at + 1 ≡ suc y.at = omega arith in
          let k = as_many cs y.returns backs in
          let fits' : suc (length y.returns) ≤ 64 = omega arith in
          let back = subst (λ k. Stands program f left k) n (stands_on program f (Lin.Call g) left y.at s) in
          record {
            state = y2;
            run = joined (one y y1 (Call g) at refl refl fits') (one y1 y2 (Enter g) enters.entry refl refl fits');
            rel = record { stands = (enters.stands, (back, backs)); holds = holds; world = world; made = made };
          }

      -- the second step of a test, where A holds the byte
      parts : (n : ℕ) → slice_get asm y.at ≡ Some (Test f n) → Stands program f (items_from n (lins f)) (target_of asm (Test f n)) → Stands program f left (suc y.at) → (k : ℕ) → y.core.acc ≡ k
          → After (lin_state (open_items f (branch_items k (items_from n (lins f)) left) ∷ cs) shared w) y
      parts n at goes falls zero e =
          let t = target_of asm (Test f n) in
          record {
            state = gone_to (suc y.at) y;
            run = one y (gone_to (suc y.at) y) (Test f n) at refl (ap (λ k. gone_to (if not (nat_eq k 0) then t else suc y.at) y) e) enough;
            rel = goes_on left (suc y.at) falls;
          }
      parts n at goes falls (suc k) e =
          let t = target_of asm (Test f n) in
          let other : nat_eq (suc k) 0 ≡ false = grind arith in
          record {
            state = gone_to t y;
            run = one y (gone_to t y) (Test f n) at refl (ap (λ k. gone_to (if not (nat_eq k 0) then t else suc y.at) y) e ∙ ap (λ (b : Bool). gone_to (if not b then t else suc y.at) y) other) enough;
            rel = goes_on (items_from n (lins f)) t goes;
          }

  module _ (f : ℕ) (cs : List OpenItems) (shared : Storage → ℕ) (w : World) (y : AsmState) (backs : Backs cs y.returns) (few : suc (length cs) ≤ 64) (holds : HoldsIn y.core shared) (world : HoldsWorldIn y.core w) (made : y.made ≡ w.made) where
    module _ (left : List LinItem) where
      test_case : (p : Place) (n : ℕ) → Stands program f (Lin.Test p n ∷ left) y.at → IsPlace p → (its : List LinItem) → slice_get program.lins f ≡ Some its → In n (gathered here_nodes its)
          → After (lin_state (open_items f (branch_items (shared (Loc (place_number p))) (items_from n (lins f)) left) ∷ cs) shared w) y
      test_case p n s ok its there i =
          let take = take_code (At p) in
          let v = shared (Loc (place_number p)) in
          let rest = Test f n ∷ (gathered (item_code f) left ++ s.more) in
          let c1 : Core = record y.core { acc = v } in
          let leads = quiet take [] y.core c1 c1 [] [] (takes y.core shared holds (At p) ok) (led c1) in
          let y1 = passed (take ∷ []) y in
          let bytes = subst (λ (ts : List ℕ). EachWithin d (counted y.returns ts)) (sym leads.touched) (none_counted y.returns) in
          let run1 = straight_code_runs asm d (take ∷ []) y (plains_stand asm y.at (take ∷ []) rest s.is) (spare_is_straight (take ∷ []) (test_spares p ok, tt)) bytes (enough f cs shared w y backs few holds world made) in
          let one_on : y.at + 1 ≡ suc y.at = omega arith in
          let at = ap (slice_get asm) one_on ∙ drop_get asm (suc y.at) (Test f n) (gathered (item_code f) left ++ s.more) (drop_on asm y.at (Plain take) rest s.is) in
          let goes = test_goes program well y1.at f n its at there i in
          let two : y.at + 2 ≡ suc y1.at = omega arith in
          let falls = subst (λ k. Stands program f left k) two (stands_on program f (Lin.Test p n) left y.at s) in
          let holds1 = subst (λ c. HoldsIn c shared) (sym leads.core) holds in
          let world1 = subst (λ c. HoldsWorldIn c w) (sym leads.core) world in
          let made1 = ap (λ (es : List Event). y.made ++ es) leads.events ∙ append-nil y.made ∙ made in
          before run1 (parts f cs shared w y1 backs few holds1 world1 made1 left n at goes falls v (ap (λ (c : Core). c.acc) leads.core))

      -- ---- a step of the linear code

      -- what is asked of the items of a function, of one of them
      module _ (its : List LinItem) (lin_ok : IsLin its) (calls_ok : AllByRecursion (λ g. g < length program.lins) (gathered item_functions its)) (there : slice_get program.lins f ≡ Some its) where
        item_case : (item : LinItem) → Stands program f (item ∷ left) y.at → (front : List LinItem) → its ≡ front ++ item ∷ left
            → EachWithin d (items_touched (item ∷ left) shared w) → length (lin_item_step lins item left f cs shared w).calls ≤ 64
            → After (lin_item_step lins item left f cs shared w) y
        item_case (Lin.Here n) s front whole within fits = here_case f cs shared w y backs few holds world made left n s
        item_case (Lin.Op op) s front whole within fits =
            let ok = of_one IsPlace item_locations front (Lin.Op op) left (subst (λ z. AllByRecursion IsPlace (gathered item_locations z)) whole lin_ok.places) in
            op_case f cs shared w y backs few holds world made left op s ok within
        item_case (Lin.Label l) s front whole within fits = label_case f cs shared w y backs few holds world made left l s
        item_case (Lin.Jump n) s front whole within fits =
            let named = of_one (λ n. In n (gathered here_nodes its)) item_nodes front (Lin.Jump n) left (subst (λ z. AllByRecursion (λ n. In n (gathered here_nodes its)) (gathered item_nodes z)) whole lin_ok.nodes) in
            jump_case f cs shared w y backs few holds world made left n s its there named.0
        item_case (Lin.Test p n) s front whole within fits =
            let named = of_one (λ n. In n (gathered here_nodes its)) item_nodes front (Lin.Test p n) left (subst (λ z. AllByRecursion (λ n. In n (gathered here_nodes its)) (gathered item_nodes z)) whole lin_ok.nodes) in
            let ok = of_one IsPlace item_locations front (Lin.Test p n) left (subst (λ z. AllByRecursion IsPlace (gathered item_locations z)) whole lin_ok.places) in
            test_case p n s ok.0 its there named.0
        item_case (Lin.Call g) s front whole within fits =
            let named = of_one (λ g. g < length program.lins) item_functions front (Lin.Call g) left (subst (λ z. AllByRecursion (λ g. g < length program.lins) (gathered item_functions z)) whole calls_ok) in
            call_case f cs shared w y backs few holds world made left g s named.0 fits
        item_case Lin.Return s front whole within fits = return_case f cs shared w y backs few holds world made left s

  -- what is asked of each function
  lin_at : (f : ℕ) (its : List LinItem) → slice_get program.lins f ≡ Some its → IsLin its
  lin_at f its there = of_each IsLin program.lins f its formed.lins there

  calls_at : (f : ℕ) (its : List LinItem) → slice_get program.lins f ≡ Some its → AllByRecursion (λ g. g < length program.lins) (gathered item_functions its)
  calls_at f its there = of_each (λ items. AllByRecursion (λ g. g < length program.lins) (gathered item_functions items)) program.lins f its formed.functions.called there

  left_case : (f : ℕ) (left : List LinItem) (cs : List OpenItems) (shared : Storage → ℕ) (w : World) (y : AsmState) → Stands program f left y.at → Backs cs y.returns → suc (length cs) ≤ 64 → HoldsIn y.core shared → HoldsWorldIn y.core w → y.made ≡ w.made
      → EachWithin d (items_touched left shared w) → length (items_step lins left f cs shared w).calls ≤ 64 → After (items_step lins left f cs shared w) y
  left_case f [] cs shared w y s backs few holds world made within fits = record { state = y; run = here y; rel = record { stands = (s, backs); holds = holds; world = world; made = made } }
  left_case f (item ∷ left) cs shared w y s backs few holds world made within fits =
      item_case f cs shared w y backs few holds world made left s.its (lin_at f s.its s.there) (calls_at f s.its s.there) s.there item s s.front s.whole within fits

  step_case : (x : LinState) (y : AsmState) → Related x y → length x.calls ≤ 64 → IsWithin X d x → After (X.step x) y
  step_case x y rel few within = by x.calls rel.stands few within.bytes within.calls
    where
      by : (cs : List OpenItems) → AllStand cs y.at y.returns → length cs ≤ 64 → EachWithin d (lin_touched cs x.shared x.world) → length (lin_step lins cs x.shared x.world).calls ≤ 64 → After (lin_step lins cs x.shared x.world) y
      by [] stands few' bytes fits = record { state = y; run = here y; rel = record { stands = stands; holds = rel.holds; world = rel.world; made = rel.made } }
      by (c ∷ cs) stands few' bytes fits = left_case c.function c.left cs x.shared x.world y stands.0 stands.1 few' rel.holds rel.world rel.made bytes fits

  -- ---- stops and ends

  due_too : (cs : List OpenItems) (at : ℕ) (rs : List ℕ) → AllStand cs at rs → IsTrue (lin_due cs) → IsTrue (passes is_mark (slice_get asm at))
  due_too [] at rs stands due = absurd (never due)
    where
      never : false ≡ true → ⊥
      never e = cc
  due_too (c ∷ cs) at rs stands due = by c.left stands.0 due
    where
      never : false ≡ true → ⊥
      never e = cc

      by : (left : List LinItem) → Stands program c.function left at → IsTrue (label_first left) → IsTrue (passes is_mark (slice_get asm at))
      by [] s h = absurd (never h)
      by (Lin.Label l ∷ left) s h = ap (passes is_mark) (drop_get asm at (Mark l) (Plain Instruction.Nop ∷ (gathered (item_code c.function) left ++ s.more)) s.is)
      by (Lin.Here n ∷ left) s h = absurd (never h)
      by (Lin.Op op ∷ left) s h = absurd (never h)
      by (Lin.Jump n ∷ left) s h = absurd (never h)
      by (Lin.Test p n ∷ left) s h = absurd (never h)
      by (Lin.Call g ∷ left) s h = absurd (never h)
      by (Lin.Return ∷ left) s h = absurd (never h)

  finish_is : slice_get asm finish ≡ Some (Plain (Instruction.Sjmp 0xFE))
  finish_is = drop_get asm finish (Plain (Instruction.Sjmp 0xFE)) (functions_code 0 program.lins) (drop_on asm (length (start_instrs program.start)) (Call program.main) (Plain (Instruction.Sjmp 0xFE) ∷ functions_code 0 program.lins) (start_stands program))

  over_too : (cs : List OpenItems) (at : ℕ) (rs : List ℕ) → AllStand cs at rs → IsTrue (no_items cs) → IsTrue (passes is_end (slice_get asm at))
  over_too [] at rs stands over = ap (λ k. passes is_end (slice_get asm k)) stands.0 ∙ ap (passes is_end) finish_is
  over_too (c ∷ cs) at rs stands over = absurd (never over)
    where
      never : false ≡ true → ⊥
      never e = cc

  -- ---- the start

  begins : (script : List ℕ) → After (X.start script) (Y.start script)
  begins script =
      let y0 = Y.start script in
      let is = start_instrs program.start in
      let c0 : Core = record (reset_core script) { sp = 0x7F } in
      let r = starts program.start c0 all_zero (start_world [] script) (reset_holds script) (reset_world script) in
      let leads = then_on (Instruction.MovDirectImmediate 0x81 0x7F) (gathered byte_code program.start) (reset_core script) r.after [] r.touched r.leads in
      let y1 = passed is y0 in
      let run1 = straight_code_runs asm d is y0 (plains_stand asm 0 is (Call program.main ∷ Plain (Instruction.Sjmp 0xFE) ∷ functions_code 0 program.lins) (start_first program)) (tt, spare_is_straight (gathered byte_code program.start) (bytes_spare program.start)) tt (omega arith) in
      let z : 0 + length is ≡ length is = omega arith in
      let at = ap (slice_get asm) z ∙ drop_get asm (length is) (Call program.main) (Plain (Instruction.Sjmp 0xFE) ∷ functions_code 0 program.lins) (start_stands program) in
      let enters = call_goes program well y1.at program.main at formed.functions.main in
      let t = target_of asm (Call program.main) in
      let y2 : AsmState = record y1 { at = t; returns = suc y1.at ∷ [] } in
      let y3 : AsmState = record y2 { at = suc t } in
      let end_at : suc y1.at ≡ finish = ap suc z in
      record {
        state = y3;
        run = joined run1 (joined (one y1 y2 (Call program.main) at refl refl (omega arith)) (one y2 y3 (Enter program.main) enters.entry refl refl (omega arith)));
        rel = record {
          stands = (enters.stands, ap (λ k. k ∷ []) end_at);
          holds = subst (λ c. HoldsIn c all_zero) (sym leads.core) r.holds;
          world = subst (λ c. HoldsWorldIn c (start_world program.start script)) (sym leads.core) r.world;
          made = leads.events;
        };
      }

  abbrev Bounded : LinState → AsmState → Type 0
  Bounded x y = Related x y × (length x.calls ≤ 64)

  simulates : Simulates X Y d d Bounded
  simulates = record {
    begins = λ script ok. let a = begins script in (a.state, a.run, (a.rel, omega arith));
    steps = λ x y rel within. let a = step_case x y rel.0 rel.1 within in (a.state, a.run, (a.rel, within.calls));
    ahead = λ x y rel. subst (λ es. IsPrefix x.world.made es) (sym rel.0.made) (prefix_refl x.world.made);
    stops = λ x y rel due. (y, here y, due_too x.calls y.at y.returns rel.0.stands due, rel.0.made);
    ends = λ x y rel over. (y, here y, over_too x.calls y.at y.returns rel.0.stands over, rel.0.made);
  }

  pub preserves_for : PreservesFor X Y d d
  preserves_for = simulation_preserves X Y d d Bounded simulates

pub selected_preserves : (program : LinProgram) → IsLinProgram program → IsWellFormed (selected program) → Preserves (lin program) (assembly (selected program))
selected_preserves program formed well d small = preserves_for program d small formed well
