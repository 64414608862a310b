-- Calls, and the whole program.
use Rattle.std.proofs.Common.{◌≡◌, ℕ, zero, suc, ◌+◌, ◌<◌, ◌≤◌, List, [], ◌∷◌, ◌++◌, length, take, drop, Some, None, refl, sym, ap, ◌∙◌, subst, arith, ◌⊎◌, inl, inr}
use Rattle.std.specs.Prelude.{slice_get}
use Rattle.std.proofs.lemmas.Option.{none-some}
use Rattle.cerco_base.specs.declared.events.Label.{Label}
use Rattle.cerco_base.specs.declared.events.FaultKind.{FaultKind}
use Rattle.cerco_base.specs.declared.events.Event.TheVariants as event
use Rattle.cerco_base.specs.Events.{IsScript, Ended}
use Rattle.cerco_traces.specs.Systems.{here, onward, IsWithin}
use Rattle.cerco_traces.specs.Preservation.{Stops, PreservesSource}
use Rattle.cerco_traces.specs.Worlds.{World, shown, started_from, start_world}
use Rattle.cerco_traces.proofs.Sources.{meets}
use Rattle.cerco_middle.specs.Calls.{Values, all_zero, handed_over, first_variables}
use Rattle.cerco_middle.specs.Cminor.Trees.{held_parameters}
use Rattle.cerco_middle.specs.Cminor.Meaning.{Done, Execute, CmCall, CmState, left_to_do, first_call, main_call, cminor}
use Rattle.c_types.specs.Types.{CType, Void, Integer, Pointer, Array, Struct}
use Rattle.clight_syntax.specs.TypedTrees.{Function, TypedProgram, own_variables}
use Rattle.clight_values.specs.declared.value.Value.{Value}
use Rattle.clight_values.specs.Memory.{Memory, State, with_blocks, left}
use Rattle.clight_meaning.specs.Meaning.{Rest, only, turns, again, with_state, prepared, entered, run_all, body_goes, call_of, call, calls, Calling, beginning, source}
use Rattle.clight_programs.specs.Scopes.{function_scalars}
use Rattle.clight_programs.specs.Statements.{Paths}
use Rattle.clight_programs.specs.Programs.{FunctionFits, GlobalsAreBetween, GlobalsFit, IsChecked}
use Rattle.flat_memory.proofs.Shapes.{Shape, Fits, Keeps, keeps_later, reps_later}
use Rattle.flat_memory.proofs.Blocks.{rising_ends, Extends, forget_reps, keep_reps, left_keeps, Enters, enters}
use Rattle.cminor_gen.specs.Translation.Statements as s
use Rattle.cminor_gen.specs.Translation.Start.{items_bytes}
use Rattle.cminor_gen.specs.Translation.Programs.{translated}
use Rattle.cminor_gen.proofs.Following.{follows_less, follows_label, follows_end}
use Rattle.cminor_gen.proofs.Scalars.{held_is, Stand, Arguments', arguments_many, arguments_map, initials_of, initials_are, scalars_many, length_taken, new_variables}
use Rattle.cminor_gen.proofs.Values.{Located}
use Rattle.cminor_gen.proofs.Runs.{Mem, Left, ResultIs, get_map, GlobalsAt, Fol, CallsFollow, asked, opening, parameter_types, few_parameters, body_run}
use Rattle.cerco_middle.specs.declared.operators.Held.{Held}
use Rattle.cminor_gen.proofs.Starts.{global_placed, global_placed_cells, global_placed_at, global_placed_rise, global_placed_start}
use Rattle.cminor_gen.proofs.Entry.{placed, placed_cells, placed_at, placed_rise, placed_start, rising_lower}

forget_result : (d call : ℕ) (S S' : Shape) → Fits d S → Extends call S S' → (made : ℕ) (T : CType) (y : Value) (k : ℕ) → ResultIs T S' made y k → ResultIs T S made y k
forget_result d call S S' fits x made Void y k h = tt
forget_result d call S S' fits x made (Integer sz g) y k h = h
forget_result d call S S' fits x made (Pointer T) y k h = forget_reps d call S S' fits x made (Pointer T) y k h
forget_result d call S S' fits x made (Array T i) y k h = h
forget_result d call S S' fits x made (Struct i) y k h = h

-- a call of the function with these words of arguments
abbrev at_call : TypedProgram Label → Function Label → List ℕ → Values
at_call p G ns = first_variables (s.held_scalars (own_variables G p.variables)) G.parameters (handed_over (take G.parameters (s.held_scalars (own_variables G p.variables))) 0 ns all_zero)

module _ (p : TypedProgram Label) (paths : Paths) (d : ℕ) (d_is : d ≡ p.data_bytes) (functions : (h : ℕ) (f : Function Label) → slice_get p.functions h ≡ Some f → FunctionFits p paths h f) where
  globals_later : (call : ℕ) (S S' : Shape) → Fits d S → Extends call S S' → 1 ≤ call → GlobalsAt p paths d functions S → GlobalsAt p paths d functions S'
  globals_later call S S' fits x some globals b a is bl at zero' =
      by (x.fresh b bl at)
    where
      by : (slice_get S.blocks b ≡ Some bl) ⊎ (bl.call ≡ call) → S'.address bl.begin ≡ a
      by (inl old) =
          let w = fits.block b bl old in
          let size = w.some in
          let ends = w.ends in
          x.address bl.begin (omega arith) ∙ globals b a is bl old zero'
      by (inr new) = absurd (omega arith)

  -- where what goes on after a call is followed
  abbrev BackFrom : ℕ → Function Label → Shape → List CmCall → State → (Value → State → Rest) → Type 0
  BackFrom j G S cs st ret = (y : Value) (st' : State) (k : ℕ) (w' : World) → Left S st.made st' w' → ResultIs G.result S st'.made y k → Fol p paths d functions j (ret y st') (record { calls = cs; result = k; world = w' })

  body_ok : (m : ℕ) (calls : Calling → Rest) → CallsFollow p paths d functions m calls → (g : ℕ) (G : Function Label) → slice_get p.functions g ≡ Some G
      → (S : Shape) → Fits d S → S.top ≤ paths.begin g → GlobalsAt p paths d functions S
      → (cs : List CmCall) → suc (length cs) ≤ paths.depth g
      → (st : State) (w : World) → Mem S st.made st w → 1 ≤ st.made
      → (ws : List Value) (ns : List ℕ) → Arguments' S st.made (parameter_types p paths d functions G) ws ns
      → (ret : Value → State → Rest) → BackFrom m G S cs st ret
      → (r : ℕ) → Fol p paths d functions m (with_state (prepared p G (entered p G ws st)) (run_all p calls G.body (body_goes ret))) (left_to_do (s.function p G) (Execute (s.body p G) Done) (at_call p G ns) cs r w)
  body_ok m calls cf g G is S fits le globals cs deep st w mem some ws ns hargs ret back r =
      let fit = functions g G is in
      let ends = fit.ends in
      let own = own_variables G p.variables in
      let Ts = function_scalars p G in
      let made = st.made in
      let bs = placed p.structs own in
      let e = enters d made made (omega arith) bs (paths.end g) (omega arith) S fits st.memory w.xram mem.keeps (rising_lower S.top (paths.begin g) bs (paths.end g) le (placed_rise p.structs own (paths.begin g) (paths.end g) fit.frame)) (placed_start w.xram p.structs own) in
      let S1 = e.shape in
      let st1 = entered p G ws st in
      let many = ap length mem.keeps.blocks in
      let cells = mem.keeps.count in
      let globals1 = globals_later made S S1 fits e.extends some globals in
      let params = few_parameters p paths d functions G fit.parameters G.parameters refl in
      let taken_many = length_taken Ts G.parameters params in
      let ws_many = (arguments_many S made (parameter_types p paths d functions G) ws ns hargs).0 in
      let located : Located p G S1 (length st.memory.blocks) made (suc made) = record {
        global = globals1;
        own = λ b a at bl blis same. let y = placed_at p.structs own b a at in e.stands b y.0 y.1 bl (ap (λ k. slice_get S1.blocks (k + b)) (sym many) ∙ blis) ∙ y.2;
        some = omega arith;
        mine = omega arith;
      } in
      let newer = arguments_map S S1 made (suc made) (λ T u k hr. reps_later S1 made (suc made) (omega arith) T u k (keep_reps d made S S1 fits e.extends made (omega arith) T u k hr)) (parameter_types p paths d functions G) ws ns hargs in
      body_run p paths d functions g G is S1 e.fits (length st.memory.blocks) (length st.memory.cells) made (suc made) located globals1 e.top cs deep (omega arith) m ret
      (λ y st' i wd mem' framed ry.
      let later = mem'.later in
      back y st' i wd (record {
        keeps = subst (λ k. Keeps S st'.made (left k st'.frame.cells st'.memory) wd.xram) (sym (framed.blocks_is ∙ many))
            (subst (λ k. Keeps S st'.made (left (length S.blocks) k st'.memory) wd.xram) (sym (framed.cells_is ∙ cells)) (left_keeps d made S S1 fits e.extends st'.made st'.memory wd.xram mem'.keeps));
        script = mem'.script;
        readings = mem'.readings;
        later = omega arith;
      }) (forget_result d made S S1 fits e.extends st'.made G.result y i ry))
      calls cf st1 (at_call p G ns) r w
      (record {
        mem = record {
          keeps = keeps_later S1 made (suc made) (omega arith) st1.memory w.xram (subst (λ bl. Keeps S1 made (with_blocks made bl st.memory) w.xram) (placed_cells p.structs own) e.keeps);
          script = mem.script;
          readings = mem.readings;
          later = omega arith;
        };
        framed = record {
          blocks_is = refl;
          cells_is = refl;
          call_is = refl;
          result_is = refl;
          many = ap (λ l. length (ws ++ drop (length ws) l)) (initials_are own) ∙ scalars_many Ts ws (omega arith);
        };
        scalars = subst (λ l. Stand S1 (suc made) Ts (ws ++ drop (length ws) l) (at_call p G ns)) (sym (initials_are own))
            (subst (λ hs. Stand S1 (suc made) Ts (ws ++ drop (length ws) (initials_of Ts)) (first_variables hs G.parameters (handed_over (take G.parameters hs) 0 ns all_zero))) (sym (held_is own))
            (new_variables S1 (suc made) Ts G.parameters ws ns fit.scalars params newer));
      })

  at_budget : (m j k : ℕ) → j ≤ m → j ≤ k → (g : ℕ) (G : Function Label) → slice_get p.functions g ≡ Some G
      → (S : Shape) → Fits d S → S.top ≤ paths.begin g → GlobalsAt p paths d functions S
      → (cs : List CmCall) → suc (length cs) ≤ paths.depth g
      → (st : State) (w : World) → Mem S st.made st w → 1 ≤ st.made
      → (ws : List Value) (ns : List ℕ) → Arguments' S st.made (parameter_types p paths d functions G) ws ns
      → (ret : Value → State → Rest) → BackFrom j G S cs st ret
      → (r : ℕ) → Fol p paths d functions j (turns (call p) k (asked p paths d functions g ws st ret)) (record { calls = opening p paths d functions G ns ∷ cs; result = r; world = w })
  at_budget m zero k a b g G is S fits le globals cs deep st w mem some ws ns hargs ret back r = record { at = λ n lt. absurd (omega arith) }
  at_budget zero (suc j) k a b g G is S fits le globals cs deep st w mem some ws ns hargs ret back r = absurd (omega arith)
  at_budget (suc m) (suc j) zero a b g G is S fits le globals cs deep st w mem some ws ns hargs ret back r = absurd (omega arith)
  at_budget (suc m) (suc j) (suc k) a b g G is S fits le globals cs deep st w mem some ws ns hargs ret back r =
      let limit = (functions g G is).depth.1 in
      let few : suc (length cs) ≤ 64 = omega arith in
      let y : CmState = record { calls = opening p paths d functions G ns ∷ cs; result = r; world = w } in
      let within : IsWithin (cminor (translated p)) d y = record { bytes = tt; calls = few } in
      subst (λ o. Fol p paths d functions (suc j) (call_of p o (turns (call p) k) (asked p paths d functions g ws st ret)) y) (sym is)
      (follows_label (cminor (translated p)) d (suc j) G.label _ y _ refl (onward y _ within (here _)) refl (λ i lt.
      body_ok i (turns (call p) k) (record { at = λ q le'. at_budget m q k (omega arith) (omega arith) }) g G is S fits le globals cs deep st (shown (event.Label G.label) w)
      (record { keeps = mem.keeps; script = mem.script; readings = mem.readings; later = mem.later }) some ws ns hargs ret
      (λ u st' i' w' lf ru. follows_less (cminor (translated p)) d i (suc j) _ _ (omega arith) (back u st' i' w' lf ru)) r))

  -- ---- the start

  abbrev empty : Shape
  empty = record { kind = λ i. None; count = 0; blocks = []; address = λ i. 0; top = 1 }

  abbrev no_memory : Memory
  no_memory = record { cells = []; blocks = [] }

  module _ (main : Function Label) (main_is : slice_get p.functions p.main ≡ Some main) (main_plain : main.parameters ≡ 0) (between : GlobalsAreBetween p 1 p.items (paths.begin p.main)) (few_bytes : suc d < 65536) (fit : GlobalsFit p p.items) where
    main_begins : paths.begin p.main ≤ suc d
    main_begins =
        let f = functions p.main main main_is in
        let own = own_variables main p.variables in
        let rise = rising_ends (paths.begin p.main) (placed p.structs own) (paths.end p.main) (placed_rise p.structs own (paths.begin p.main) (paths.end p.main) f.frame) in
        let ends = f.ends in
        omega arith

    empty_fits : Fits d empty
    empty_fits = record {
      low = λ i lt. absurd (omega arith);
      high = λ i lt. absurd (omega arith);
      apart = λ i j lt lt' e. absurd (omega arith);
      first = omega arith;
      bound = omega arith;
      small = few_bytes;
      wide = λ i T lt is wide. absurd (omega arith);
      block = λ b bl is. absurd (none-some bl is);
      others = λ b b' bl bl' ne is is' o o' l l' e. absurd (none-some bl is);
    }

    abbrev first_ram : ℕ → ℕ
    first_ram = started_from (items_bytes p p.items) (λ a. 0)

    globals_in : Enters d 0 0 empty no_memory first_ram (global_placed p p.items) (paths.begin p.main)
    globals_in =
        let low = main_begins in
        enters d 0 0 (omega arith) (global_placed p p.items) (paths.begin p.main) main_begins empty empty_fits no_memory first_ram
        (record { blocks = refl; count = refl; cell = λ i c is. absurd (none-some c is) }) (global_placed_rise p p.items 1 (paths.begin p.main) between)
        (global_placed_start p p.items 1 (paths.begin p.main) between fit (omega arith) (λ a. 0) (λ b le. refl)).0

    none_over : (hs : List Held) (slots : Values) → handed_over hs 0 [] slots ≡ slots
    none_over [] slots = refl
    none_over (h ∷ hs) slots = refl

    take_none : (Ts : List CType) → take 0 Ts ≡ []
    take_none [] = refl
    take_none (T ∷ Ts) = refl

    begun : (script : List ℕ) → IsScript script → (m : ℕ) → Fol p paths d functions m (source p script) ((cminor (translated p)).start script)
    unfolding calls again
    begun script ok m =
        let e = globals_in in
        let deep = (functions p.main main main_is).depth in
        let deep0 = deep.0 in
        let w = start_world (items_bytes p p.items) script in
        let st = beginning p script in
        let no_types = ap (λ n. take n (function_scalars p main)) main_plain ∙ take_none (function_scalars p main) in
        subst (λ o. Fol p paths d functions m (source p script) (record { calls = main_call o; result = 0; world = w })) (sym (get_map (s.function p) p.functions p.main main main_is))
        (subst (λ slots. Fol p paths d functions m (source p script) (record { calls = first_call (s.function p main) slots ∷ []; result = 0; world = w })) (none_over (held_parameters (s.function p main)) all_zero)
        (record {
          at = λ n lt. (at_budget (suc n) (suc n) (suc n) (omega arith) (omega arith) p.main main main_is e.shape e.fits e.top
              (λ b a is bl at zero'. let y = global_placed_at p p.items b a is in let z : 0 + b ≡ b = omega arith in e.stands b y.0 y.1 bl (ap (slice_get e.shape.blocks) z ∙ at) ∙ y.2) [] (omega arith) st w
              (record {
                keeps = keeps_later e.shape 0 1 (omega arith) st.memory first_ram (subst (λ bl. Keeps e.shape 0 (with_blocks 0 bl no_memory) first_ram) (global_placed_cells p p.items) e.keeps);
                script = refl;
                readings = ok;
                later = omega arith;
              }) (omega arith) [] [] (subst (λ Ts. Arguments' e.shape 1 Ts [] []) (sym no_types) tt) (λ u st. only (Stops [] Ended))
              (λ u st' i w' lf ru. follows_end (cminor (translated p)) d (suc n) _ refl) 0).at n (omega arith);
        }))

-- The translation of a checked program behaves as the program.
pub preserves : (p : TypedProgram Label) → IsChecked p → PreservesSource (source p) (cminor (translated p)) p.data_bytes
preserves p ok = record {
  meets = λ script is n. meets FaultKind (cminor (translated p)) p.data_bytes script n (source p script n) refl
      ((begun p ok.paths p.data_bytes refl ok.functions ok.main ok.main_is ok.main_plain.0 ok.globals ok.few_bytes ok.first_values script is (suc n)).at n (omega arith));
}
