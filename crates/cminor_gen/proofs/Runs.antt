-- Statements: below each budget the code does what the meaning tells.
use Rattle.std.proofs.Common.{◌≡◌, ◌≢◌, ℕ, zero, suc, ◌+◌, ◌^◌, ◌<◌, ◌≤◌, List, [], ◌∷◌, ◌++◌, length, map, take, drop, Option, Some, None, Result, Ok, Err, Bool, true, false, not, refl, sym, ap, ◌∙◌, subst, arith, ne_eqb}
use Rattle.std.specs.Prelude.{slice_get, nat_eq, nat_le, unwrap_or, option_map, if◌then◌else◌}
use Rattle.std.proofs.lemmas.Option.{slice_get_within, none-some, same_Some}
use Rattle.std.proofs.lemmas.List.Elements.{All-head, All-tail}
use Rattle.cerco_base.specs.declared.events.Event.TheVariants as event
use Rattle.cerco_base.specs.declared.events.Port.TheVariants.{P1}
use Rattle.cerco_base.specs.declared.events.Label.{Label}
use Rattle.cerco_base.specs.declared.events.FaultKind.{FaultKind}
use Rattle.cerco_base.specs.declared.events.FaultKind.TheVariants.{Outside}
use Rattle.cerco_base.specs.Events.{IsScript, next_reading}
use Rattle.cerco_traces.specs.Systems.{here, onward, EachWithin, IsWithin}
use Rattle.cerco_traces.specs.Worlds.{World, update, shown}
use Rattle.cerco_traces.specs.Worlds as world
use Rattle.cerco_middle.specs.declared.operators.Held.{Held}
use Rattle.cerco_middle.specs.Operators.{kept, held_in, held_addresses, branch, low_byte}
use Rattle.cerco_middle.specs.Calls.{Values, all_zero, handed_over, assigned as held_assigned, returned as held_returned, variable_held}
use Rattle.cerco_middle.specs.Cminor.Trees as cm
use Rattle.cerco_middle.specs.Cminor.Trees.{CmExpr, CmCond, CmStmt, CmStmts, CmFunction, held_parameters}
use Rattle.cerco_middle.specs.Cminor.Meaning as c
use Rattle.cerco_middle.specs.Cminor.Meaning.{Work, Done, Execute, ExecuteAll, Pass, Take, Check, Step, Turn, Again, CmCall, CmState, left_to_do, first_call, cminor}
use Rattle.c_types.specs.declared.integers.Size.{Size}
use Rattle.c_types.specs.declared.integers.Size.TheVariants.{One, Two, Four}
use Rattle.c_types.specs.Types.{CType, Void, Integer, Pointer, Array, Struct}
use Rattle.c_types.specs.Kinds.{value_type, is_scalar}
use Rattle.c_types.specs.Conversions.{unsigned_char}
use Rattle.clight_source.specs.declared.tree.PrefixOperator.TheVariants.{Negate, Complement, Not as NotPrefix, Dereference, AddressOf}
use Rattle.clight_source.specs.declared.tree.MemberOperator.TheVariants.{Dot, Arrow}
use Rattle.clight_syntax.specs.declared.typed.Home.{Home}
use Rattle.clight_syntax.specs.declared.typed.Home.TheVariants as home
use Rattle.clight_syntax.specs.declared.typed.ResultTarget.{ResultTarget}
use Rattle.clight_syntax.specs.TypedTrees.{Expr, Variable, Number, Parenthesis, Binary, Prefix, Cast, Index, Select, type_at, Cond, Truth, InParentheses, Not, Both, Either, Assignment, Call, Stmt, Empty, Block, Assign, ReadPort, WritePort, CallOf, If, IfElse, While, Do, For, Break, Continue, Return, Stmts, NoStmts, Then, LocalInitialiser, NoValue, Value as LocalValue, Local, Function, Variable', TypedProgram, variable_address, address_at, own_variables}
use Rattle.clight_values.specs.declared.value.Value.{Value}
use Rattle.clight_values.specs.declared.value.Value.TheVariants as v
use Rattle.clight_values.specs.declared.value.Block.{Block as Slot}
use Rattle.clight_values.specs.Memory.{Answer, Memory, Frame, State, initial, is_true, stored, left}
use Rattle.clight_values.specs.Operators.{assigned_value}
use Rattle.clight_meaning.specs.Expressions as e
use Rattle.clight_meaning.specs.Expressions.{Position, InCall, Behind, behind, set_scalar, with_memory, stored_in, position}
use Rattle.clight_meaning.specs.Meaning as n
use Rattle.clight_meaning.specs.Meaning.{Rest, only, says, passes, turns, again, with_value, with_values, with_state, with_truth, with_byte, then_state, truth_of, test, test_if_any, stored_value, converted_answer, assigned_to, assigned, assigned_if_any, variable_type, assigned_variable, argument_list, argument_values, joined, first_parameter, parameter_in, returned, homed_in, homed, initialised_by, initialised, prepared, body_goes, taken, result_type, result_in, Calling, Goes, loop_goes, until, next_of_for, run, run_all}
use Rattle.clight_programs.specs.Scopes.{IsShort, IsShortScalar, IsAtHome, IsVariable, global_addresses, function_blocks, function_scalars, scalar_types}
use Rattle.clight_programs.specs.Expressions.{IsTyped, IsTypedCond}
use Rattle.clight_programs.specs.Statements.{Paths, IsOwnScalar, IsScalarIn, IsScalarPlace, AssignmentFits, AssignmentFitsIfAny, AllTyped, TargetFitsIfAny, CallFits, CondFitsIfAny, StmtFits, StmtsFit}
use Rattle.clight_programs.specs.Programs.{ResultFits, InitialiserFits, InitialisersFit, FunctionFits}
use Rattle.flat_memory.specs.HeldTypes.{held_of}
use Rattle.flat_memory.proofs.Lists.{get_take, length_set}
use Rattle.flat_memory.proofs.Ram.{put_ram, put_kept}
use Rattle.flat_memory.proofs.Shapes.{Shape, Points, Counts, Reps, Fits, Keeps, Means, reps_later, kept_reps}
use Rattle.flat_memory.proofs.Loads.{StoreOk, store_ok}
use Rattle.flat_memory.proofs.Pointers.{Decides, pointer_true_ok}
use Rattle.cminor_gen.specs.Translation.Expressions as x
use Rattle.cminor_gen.specs.Translation.Statements as s
use Rattle.cminor_gen.specs.Translation.Programs.{translated}
use Rattle.cminor_gen.proofs.Words.{each_join}
use Rattle.cminor_gen.proofs.Values.{then_ok, assigned_ok, Located, PlaceIs, place_ok, value_ok, variable_place, home_place}
use Rattle.cminor_gen.proofs.Following.{Follows, follows_less, follows_silent, follows_says, follows_label, follows_fault, follows_again}
use Rattle.cminor_gen.proofs.Scalars.{held_is, held_at_type, Stand, set_stand, Arguments', length_taken, initial_reps}

-- ---- what stands between calls

-- a memory, with the rest of a state and of a world
pub record Mem (S : Shape) (since : ℕ) (st : State) (w : World) : Type 0 where
  pub keeps : Keeps S st.made st.memory w.xram
  pub script : w.script ≡ st.script
  pub readings : IsScript st.script
  pub later : since ≤ st.made

-- the same once the call of a state has returned
pub record Left (S : Shape) (since : ℕ) (st : State) (w : World) : Type 0 where
  pub keeps : Keeps S st.made (left st.frame.blocks st.frame.cells st.memory) w.xram
  pub script : w.script ≡ st.script
  pub readings : IsScript st.script
  pub later : since ≤ st.made

-- a result of a type, if there is one
abbrev pub ResultIs : CType → Shape → ℕ → Value → ℕ → Type 0
ResultIs Void S made y k = Unit {0}
ResultIs (Integer s g) S made y k = Reps S made (Integer s g) y k
ResultIs (Pointer T) S made y k = Reps S made (Pointer T) y k
ResultIs (Array T i) S made y k = ⊥
ResultIs (Struct i) S made y k = ⊥

pub get_map : {A B : Type 0} (f : A → B) (xs : List A) (i : ℕ) (a : A) → slice_get xs i ≡ Some a → slice_get (map f xs) i ≡ Some (f a)
get_map f [] i a is = absurd (none-some a is)
get_map f (y ∷ ys) zero a is = ap (λ z. Some (f z)) (same_Some _ _ is)
get_map f (y ∷ ys) (suc i) a is = get_map f ys i a is

-- values of arguments and their words
abbrev pub MeansAll : Shape → ℕ → ℕ → List CType → Result (List Value) FaultKind → List ℕ → List ℕ → Type 0
MeansAll S made d Ts (Err k) ns rs = Unit {0}
MeansAll S made d Ts (Ok ws) ns rs = Arguments' S made Ts ws ns × EachWithin d rs

joined_ok : (S : Shape) (made d : ℕ) (T : CType) (Ts : List CType) (q : Answer) (r : Result (List Value) FaultKind) (k : ℕ) (ks rs rs' : List ℕ) → Means S made d T q (kept (held_of T) k) rs → MeansAll S made d Ts r ks rs'
    → MeansAll S made d (T ∷ Ts) (joined q r) (k ∷ ks) (rs ++ rs')
joined_ok S made d T Ts (Err i) r k ks rs rs' a b = tt
joined_ok S made d T Ts (Ok y) (Err i) k ks rs rs' a b = tt
joined_ok S made d T Ts (Ok y) (Ok ys) k ks rs rs' a b = ((a.0, b.0), each_join d rs rs' a.1 b.1)

module _ (p : TypedProgram Label) (paths : Paths) (d : ℕ) (functions : (h : ℕ) (f : Function Label) → slice_get p.functions h ≡ Some f → FunctionFits p paths h f) where
  abbrev pub fs : List CmFunction
  fs = map (s.function p) p.functions

  abbrev pub Fol : ℕ → Rest → CmState → Type 0
  Fol m r y = Follows (cminor (translated p)) d m r y

  abbrev pub GlobalsAt : Shape → Type 0
  GlobalsAt S = (b a : ℕ) → slice_get (global_addresses p p.items) b ≡ Some a → (bl : Slot) → slice_get S.blocks b ≡ Some bl → bl.call ≡ 0 → S.address bl.begin ≡ a

  abbrev pub asked : ℕ → List Value → State → (Value → State → Rest) → Calling
  asked g ws st ret = record { function = g; arguments = ws; from = st; return = ret }

  -- a new call of a function with these words of arguments
  abbrev pub opening : Function Label → List ℕ → CmCall
  opening G ns = first_call (s.function p G) (handed_over (held_parameters (s.function p G)) 0 ns all_zero)

  abbrev pub parameter_types : Function Label → List CType
  parameter_types G = take G.parameters (function_scalars p G)

  -- what calls do is followed below each budget up to m where what goes on after them is
  pub record CallsFollow (m : ℕ) (calls : Calling → Rest) : Type 0 where
    pub at : (j : ℕ) → j ≤ m → (g : ℕ) (G : Function Label) → slice_get p.functions g ≡ Some G
        → (S : Shape) → Fits d S → S.top ≤ paths.begin g → GlobalsAt S
        → (cs : List CmCall) → suc (length cs) ≤ paths.depth g
        → (st : State) (w : World) → Mem S st.made st w → 1 ≤ st.made
        → (ws : List Value) (ns : List ℕ) → Arguments' S st.made (parameter_types G) ws ns
        → (ret : Value → State → Rest)
        → ((y : Value) (st' : State) (k : ℕ) (w' : World) → Left S st.made st' w' → ResultIs G.result S st'.made y k → Fol j (ret y st') (record { calls = cs; result = k; world = w' }))
        → (r : ℕ) → Fol j (calls (asked g ws st ret)) (record { calls = opening G ns ∷ cs; result = r; world = w })

  pub calls_less : (j m : ℕ) (calls : Calling → Rest) → j ≤ m → CallsFollow m calls → CallsFollow j calls
  calls_less j m calls le h = record { at = λ i lt. h.at i (omega arith) }

  -- one step that shows nothing
  pub quiet : (m : ℕ) (r : Rest) (y : CmState) → EachWithin d (c.touched y.calls y.world) → length (c.step fs y.calls y).calls ≤ 64 → (c.step fs y.calls y).world.made ≡ y.world.made → Fol m r (c.step fs y.calls y) → Fol m r y
  quiet m r y touched few same h =
      let within : IsWithin (cminor (translated p)) d y = record { bytes = touched; calls = few } in
      follows_silent (cminor (translated p)) d m r y _ (onward y _ within (here _)) same h

  pub few_parameters : (G : Function Label) → ((i : ℕ) → i < G.parameters → slice_get (function_scalars p G) i ≡ Some (variable_type p (G.first_variable + i))) → (n : ℕ) → n ≡ G.parameters → n ≤ length (function_scalars p G)
  few_parameters G at zero e' = omega arith
  few_parameters G at (suc n) e' = let w' = slice_get_within (function_scalars p G) n _ (at n (omega arith)) in omega arith

  module _ (h : ℕ) (f : Function Label) (f_is : slice_get p.functions h ≡ Some f) (S : Shape) (fits : Fits d S) (blocks cells call since : ℕ) (located : Located p f S blocks call since) (globals : GlobalsAt S) (top : S.top ≤ paths.end h)
      (cs : List CmCall) (deep : suc (length cs) ≤ paths.depth h) where
    abbrev F : CmFunction
    F = s.function p f

    few : suc (length cs) ≤ 64
    few = let q = (functions h f f_is).depth in let q1 = q.1 in omega arith

    -- the frame of the running call
    pub record Framed (frame : Frame) : Type 0 where
      pub blocks_is : frame.blocks ≡ blocks
      pub cells_is : frame.cells ≡ cells
      pub call_is : frame.call ≡ call
      pub result_is : frame.result ≡ f.result
      pub many : length frame.scalars ≡ length (function_scalars p f)

    -- the running call stands so
    pub record Stands (st : State) (vs : Values) (w : World) : Type 0 where
      pub mem : Mem S since st w
      pub framed : Framed st.frame
      pub scalars : Stand S st.made (function_scalars p f) st.frame.scalars vs

    abbrev pub Arm : ℕ → State → Rest → Work → Type 0
    Arm m st q work = (vs : Values) (r : ℕ) (w : World) → Stands st vs w → Fol m q (left_to_do F work vs cs r w)

    -- what goes on is followed by the work
    pub record Goings (m : ℕ) (k : Goes) (work : Work) : Type 0 where
      pub next : (st : State) → Arm m st (k.next st) work
      pub break : (st : State) → Arm m st (k.break st) (Execute cm.Break work)
      pub continue : (st : State) → Arm m st (k.continue st) (Execute cm.Continue work)
      pub return : (y : Value) (st : State) (i : ℕ) (w : World) → Mem S since st w → Framed st.frame → ResultIs f.result S st.made y i → Fol m (k.return y st) (record { calls = cs; result = i; world = w })

    arm_less : (j m : ℕ) (st : State) (q : Rest) (work : Work) → j ≤ m → Arm m st q work → Arm j st q work
    arm_less j m st q work le a vs r w st' = follows_less (cminor (translated p)) d j m q _ le (a vs r w st')

    goings_less : (j m : ℕ) (k : Goes) (work : Work) → j ≤ m → Goings m k work → Goings j k work
    goings_less j m k work le g = record {
      next = λ st. arm_less j m st _ _ le (g.next st);
      break = λ st. arm_less j m st _ _ le (g.break st);
      continue = λ st. arm_less j m st _ _ le (g.continue st);
      return = λ y st i w mem framed ry. follows_less (cminor (translated p)) d j m _ _ le (g.return y st i w mem framed ry);
    }

    -- ---- values

    here_located : (st : State) (vs : Values) (w : World) → Stands st vs w → Located p f S st.frame.blocks st.frame.call st.made
    here_located st vs w s' =
        let later = s'.mem.later in
        let some = located.some in
        let mine = located.mine in
        let bi = s'.framed.blocks_is in
        let ci = s'.framed.call_is in
        record {
          global = located.global;
          own = λ b a is bl at own. located.own b a is bl (ap (λ k. slice_get S.blocks (k + b)) (sym bi) ∙ at) (own ∙ ci);
          some = omega arith;
          mine = omega arith;
        }

    val : (st : State) (vs : Values) (w : World) → Stands st vs w → (a : Expr) → IsTyped p f a → Means S st.made d (value_type (type_at a)) (e.value p a st) (c.value (x.value p a) vs w) (c.reads (x.value p a) vs w)
    val st vs w s' a ty = value_ok p f S d fits st vs w s'.mem.keeps s'.scalars (here_located st vs w s') a ty

    pla : (st : State) (vs : Values) (w : World) (s' : Stands st vs w) (a : Expr) → IsTyped p f a → PlaceIs p f S d fits st vs w s'.mem.keeps s'.scalars (here_located st vs w s') (position p a st) (x.place p a)
    pla st vs w s' a ty = place_ok p f S d fits st vs w s'.mem.keeps s'.scalars (here_located st vs w s') a ty

    with_ok : (made : ℕ) (T : CType) (m : ℕ) (r : Answer) (go : Value → Rest) (y : CmState) (k : ℕ) (rs : List ℕ) → Means S made d T r k rs → ((u : Value) → Reps S made T u k → EachWithin d rs → Fol m (go u) y) → Fol m (with_value r go) y
    with_ok made T m (Ok u) go y k rs a b = b u a.0 a.1
    with_ok made T m (Err i) go y k rs a b = follows_fault (cminor (translated p)) d m i y

    -- ---- labels

    pass_at : (m : ℕ) (l : Label) (st : State) (q : Rest) (work : Work) (vs : Values) (r : ℕ) (w : World) → Stands st vs w → ((j : ℕ) → j < m → (w' : World) → Stands st vs w' → Fol j q (left_to_do F work vs cs r w'))
        → Fol m (passes l q) (left_to_do F (Pass l work) vs cs r w)
    pass_at m l st q work vs r w s' a =
        let within : IsWithin (cminor (translated p)) d (left_to_do F (Pass l work) vs cs r w) = record { bytes = tt; calls = few } in
        follows_label (cminor (translated p)) d m l q (left_to_do F (Pass l work) vs cs r w) _ refl (onward _ _ within (here _)) refl (λ j lt. a j lt (shown (event.Label l) w) (record {
          mem = record { keeps = s'.mem.keeps; script = s'.mem.script; readings = s'.mem.readings; later = s'.mem.later };
          framed = s'.framed;
          scalars = s'.scalars;
        }))

    pass_arm : (m : ℕ) (l : Label) (st : State) (q : Rest) (work : Work) → ((j : ℕ) → j < m → Arm j st q work) → Arm m st (passes l q) (Pass l work)
    pass_arm m l st q work a vs r w s' = pass_at m l st q work vs r w s' (λ j lt w' s''. a j lt vs r w' s'')

    -- ---- conditions

    chosen : (m : ℕ) (r : Result Bool FaultKind) (k : ℕ) (one other : Rest) (so oth : Work) (vs : Values) (i : ℕ) (w : World) → Decides r (k ≢ 0) (k ≡ 0) → Fol m one (left_to_do F so vs cs i w) → Fol m other (left_to_do F oth vs cs i w)
        → Fol m (with_truth r one other) (left_to_do F (branch k so oth) vs cs i w)
    chosen m (Err i') k one other so oth vs i w h' a b = follows_fault (cminor (translated p)) d m i' _
    chosen m (Ok true) zero one other so oth vs i w h' a b = absurd (h' refl)
    chosen m (Ok true) (suc k) one other so oth vs i w h' a b = a
    chosen m (Ok false) zero one other so oth vs i w h' a b = b
    chosen m (Ok false) (suc k) one other so oth vs i w h' a b = absurd cc

    not_zero : (y k : ℕ) → (k ≡ 0 → y ≡ 0) → (y ≡ 0 → k ≡ 0) → Decides (Ok (not (nat_eq y 0))) (k ≢ 0) (k ≡ 0)
    not_zero zero k f' g' = g' refl
    not_zero (suc y) k f' g' = subst (λ t. Decides (Ok (not t)) (k ≢ 0) (k ≡ 0)) (sym (ne_eqb (suc y) 0 (λ z. omega arith))) (λ z. let e' = f' z in omega arith)

    extended_zero : (y k : ℕ) → k ≡ (if nat_le 128 y then y + 65280 else y) → k ≡ 0 → y ≡ 0
    extended_zero y k is z = grind arith

    integer_true : (sz : Size) (g : Bool) (u : Value) (k : ℕ) (mem : Memory) → Counts sz g u k → Decides (is_true mem u) (k ≢ 0) (k ≡ 0)
    integer_true One true (v.Integer y) k mem hc = not_zero y k (extended_zero y k hc.1) (λ z. hc.1 ∙ ap (λ (q : ℕ). if nat_le 128 q then q + 65280 else q) z)
    integer_true One false (v.Integer y) k mem hc = not_zero y k (λ z. sym hc.1 ∙ z) (λ z. hc.1 ∙ z)
    integer_true Two g (v.Integer y) k mem hc = not_zero y k (λ z. sym hc.1 ∙ z) (λ z. hc.1 ∙ z)
    integer_true Four g u k mem hc = absurd hc
    integer_true One g v.Null k mem hc = absurd hc
    integer_true One g (v.Pointer at) k mem hc = absurd hc
    integer_true Two g v.Null k mem hc = absurd hc
    integer_true Two g (v.Pointer at) k mem hc = absurd hc

    truth_ok : (st : State) (vs : Values) (w : World) → Stands st vs w → (T : CType) (u : Value) (k : ℕ) → Reps S st.made (value_type T) u k → Decides (is_true st.memory u) (k ≢ 0) (k ≡ 0)
    truth_ok st vs w s' Void u k r = absurd r
    truth_ok st vs w s' (Integer sz g) u k r = integer_true sz g u k st.memory r
    truth_ok st vs w s' (Pointer T) u k r = pointer_true_ok S st.made d fits st.memory s'.mem.keeps.blocks u k r
    truth_ok st vs w s' (Array T i) u k r = pointer_true_ok S st.made d fits st.memory s'.mem.keeps.blocks u k r
    truth_ok st vs w s' (Struct i) u k r = absurd r

    pub cond_ok : (cond : Cond Label) (m : ℕ) → IsTypedCond p f cond → (st : State) (one other : Rest) (so oth : Work) → Arm m st one so → Arm m st other oth → Arm m st (test p cond st one other) (Check (x.condition p cond) so oth)
    cond_ok (Truth a) m ty st one other so oth f' g' vs r w s' =
        by (e.value p a st) (val st vs w s' a ty)
      where
        by : (q : Answer) → Means S st.made d (value_type (type_at a)) q (c.value (x.value p a) vs w) (c.reads (x.value p a) vs w) → Fol m (with_truth (truth_of st.memory q) one other) (left_to_do F (Check (cm.Test (x.value p a)) so oth) vs cs r w)
        by (Err k) hv = follows_fault (cminor (translated p)) d m k _
        by (Ok u) hv = quiet m _ (left_to_do F (Check (cm.Test (x.value p a)) so oth) vs cs r w) hv.1 few refl (chosen m (is_true st.memory u) _ one other so oth vs r w (truth_ok st vs w s' (type_at a) u _ hv.0) (f' vs r w s') (g' vs r w s'))
    cond_ok (InParentheses lf cond rt) m ty st one other so oth f' g' vs r w s' = cond_ok cond m ty st one other so oth f' g' vs r w s'
    cond_ok (Not at cond) m ty st one other so oth f' g' vs r w s' =
        quiet m _ (left_to_do F (Check (cm.Not (x.condition p cond)) so oth) vs cs r w) tt few refl (cond_ok cond m ty st other one oth so g' f' vs r w s')
    cond_ok (Both lf at l l' rt) m ty st one other so oth f' g' vs r w s' =
        quiet m _ (left_to_do F (Check (cm.Both (x.condition p lf) l l' (x.condition p rt)) so oth) vs cs r w) tt few refl
        (cond_ok lf m ty.0 st (passes l (test p rt st one other)) (passes l' other) (Pass l (Check (x.condition p rt) so oth)) (Pass l' oth)
        (pass_arm m l st (test p rt st one other) (Check (x.condition p rt) so oth) (λ j lt. arm_less j m st _ _ (omega arith) (cond_ok rt m ty.1 st one other so oth f' g')))
        (pass_arm m l' st other oth (λ j lt. arm_less j m st _ _ (omega arith) g')) vs r w s')
    cond_ok (Either lf at l l' rt) m ty st one other so oth f' g' vs r w s' =
        quiet m _ (left_to_do F (Check (cm.Either (x.condition p lf) l l' (x.condition p rt)) so oth) vs cs r w) tt few refl
        (cond_ok lf m ty.0 st (passes l one) (passes l' (test p rt st one other)) (Pass l so) (Pass l' (Check (x.condition p rt) so oth))
        (pass_arm m l st one so (λ j lt. arm_less j m st _ _ (omega arith) f'))
        (pass_arm m l' st (test p rt st one other) (Check (x.condition p rt) so oth) (λ j lt. arm_less j m st _ _ (omega arith) (cond_ok rt m ty.1 st one other so oth f' g'))) vs r w s')

    -- ---- assignments

    -- a place that is assigned to: a variable of this number and type, or an address
    abbrev pub AimsAt : State → Values → World → CType → Result Position FaultKind → Option ℕ → CmExpr → Type 0
    AimsAt st vs w T pos (Some i) A = (pos ≡ Ok (InCall i)) × (slice_get (function_scalars p f) i ≡ Some T)
    AimsAt st vs w T (Err k) None A = Unit {0}
    AimsAt st vs w T (Ok (InCall i)) None A = ⊥
    AimsAt st vs w T (Ok (Behind q)) None A = Points S st.made q (c.value A vs w) × EachWithin d (c.reads A vs w)

    held_of_variable : (i : ℕ) (T : CType) → slice_get (function_scalars p f) i ≡ Some T → variable_held F.held i ≡ held_of T
    held_of_variable i T is = ap (λ hs. variable_held hs i) (held_is (own_variables f p.variables)) ∙ held_at_type (function_scalars p f) i T is

    set_stands : (st : State) (vs : Values) (w : World) (i : ℕ) (T : CType) (u : Value) (k : ℕ) → Stands st vs w → slice_get (function_scalars p f) i ≡ Some T → Reps S st.made T u k → Stands (set_scalar i u st) (update vs i k) w
    set_stands st vs w i T u k s' is r =
        let length_same = length_set st.frame.scalars i u in
        let many = s'.framed.many in
        record {
          mem = record { keeps = s'.mem.keeps; script = s'.mem.script; readings = s'.mem.readings; later = s'.mem.later };
          framed = record { blocks_is = s'.framed.blocks_is; cells_is = s'.framed.cells_is; call_is = s'.framed.call_is; result_is = s'.framed.result_is; many = length_same ∙ many };
          scalars = set_stand S st.made (function_scalars p f) st.frame.scalars vs i T u k many is s'.scalars r;
        }

    -- what is kept of a word goes into a variable
    set_now : (m : ℕ) (st : State) (vs : Values) (r : ℕ) (w : World) → Stands st vs w → (i : ℕ) (T : CType) → slice_get (function_scalars p f) i ≡ Some T → (q : Answer) (k : ℕ) → Means S st.made d T q (kept (held_of T) k) []
        → (go : State → Rest) (work : Work) → ((st' : State) → Arm m st' (go st') work) → Fol m (with_state (stored_value T (InCall i) q st) go) (left_to_do F work (held_assigned F.held i k vs) cs r w)
    set_now m st vs r w s' i T is (Err k') k hq go work arm = follows_fault (cminor (translated p)) d m k' _
    set_now m st vs r w s' i T is (Ok u) k hq go work arm =
        subst (λ hd. Fol m (go (set_scalar i u st)) (left_to_do F work (update vs i (kept hd k)) cs r w)) (sym (held_of_variable i T is))
        (arm (set_scalar i u st) (update vs i (kept (held_of T) k)) r w (set_stands st vs w i T u _ s' is hq.0))

    stored_stands : (st : State) (vs : Values) (w : World) (mem : Memory) (T : CType) (a k : ℕ) → Stands st vs w → Keeps S st.made mem (put_ram (held_of T) w.xram a k) → Stands (record st { memory = mem }) vs (held_in (held_of T) w a k)
    stored_stands st vs w mem T a k s' keeps = record {
      mem = record { keeps = keeps; script = s'.mem.script; readings = s'.mem.readings; later = s'.mem.later };
      framed = s'.framed;
      scalars = s'.scalars;
    }

    memory_now : (m : ℕ) (st : State) (vs : Values) (r : ℕ) (w : World) (s' : Stands st vs w) (T : CType) (a k : ℕ) (res : Result Memory FaultKind) → StoreOk S st.made d fits st.memory w.xram s'.mem.keeps T a k res → (A E : CmExpr) → c.value A vs w ≡ a
        → EachWithin d (c.reads A vs w) → EachWithin d (c.reads E vs w) → (put_ram (held_of T) w.xram a k ≡ put_ram (held_of T) w.xram a (c.value E vs w)) → (go : State → Rest) (work : Work) → ((st' : State) → Arm m st' (go st') work)
        → Fol m (with_state (with_memory res st) go) (left_to_do F (Execute (cm.Store (held_of T) A E) work) vs cs r w)
    memory_now m st vs r w s' T a k (Err i) ok A E at ra re same go work arm = follows_fault (cminor (translated p)) d m i _
    memory_now m st vs r w s' T a k (Ok mem) ok A E at ra re same go work arm =
        quiet m _ (left_to_do F (Execute (cm.Store (held_of T) A E) work) vs cs r w)
        (each_join d _ _ ra (each_join d _ _ re (subst (λ z. EachWithin d (held_addresses (held_of T) z)) (sym at) ok.1))) few refl
        (subst (λ z. Fol m (go (record st { memory = mem })) (left_to_do F work vs cs r (held_in (held_of T) w z (c.value E vs w)))) (sym at)
        (arm (record st { memory = mem }) vs r (held_in (held_of T) w a (c.value E vs w)) (stored_stands st vs w mem T a (c.value E vs w) s' (subst (Keeps S st.made mem) same ok.0))))

    store_now : (m : ℕ) (st : State) (vs : Values) (r : ℕ) (w : World) → Stands st vs w → (T : CType) (ptr : Value) (q : Answer) (A E : CmExpr) → Points S st.made ptr (c.value A vs w) → EachWithin d (c.reads A vs w) → EachWithin d (c.reads E vs w)
        → Means S st.made d T q (kept (held_of T) (c.value E vs w)) [] → (go : State → Rest) (work : Work) → ((st' : State) → Arm m st' (go st') work)
        → Fol m (with_state (stored_value T (Behind ptr) q st) go) (left_to_do F (Execute (cm.Store (held_of T) A E) work) vs cs r w)
    store_now m st vs r w s' T ptr (Err k) A E hp ra re hq go work arm = follows_fault (cminor (translated p)) d m k _
    store_now m st vs r w s' T ptr (Ok u) A E hp ra re hq go work arm =
        memory_now m st vs r w s' T (c.value A vs w) (kept (held_of T) (c.value E vs w)) (stored st.memory T ptr u)
        (store_ok S st.made d fits st.memory w.xram s'.mem.keeps T ptr u (c.value A vs w) _ hp hq.0) A E refl ra re (put_kept (held_of T) w.xram (c.value A vs w) (c.value E vs w)) go work arm

    assign_now : (m : ℕ) (T U : CType) → IsShort T → (st : State) (vs : Values) (r : ℕ) (w : World) → Stands st vs w → (pos : Result Position FaultKind) (q : Answer) (sc : Option ℕ) (A E : CmExpr) → AimsAt st vs w T pos sc A
        → Means S st.made d (value_type U) q (c.value E vs w) (c.reads E vs w) → (go : State → Rest) (work : Work) → ((st' : State) → Arm m st' (go st') work)
        → Fol m (with_state (assigned_to T pos U q st) go) (left_to_do F (Execute (s.set_or_store sc (held_of T) A E) work) vs cs r w)
    assign_now m T U short st vs r w s' pos q (Some i) A E aims hq go work arm =
        subst (λ z. Fol m (with_state (assigned_to T z U q st) go) (left_to_do F (Execute (cm.Set i E) work) vs cs r w)) (sym aims.0) (by q hq)
      where
        by : (q : Answer) → Means S st.made d (value_type U) q (c.value E vs w) (c.reads E vs w) → Fol m (with_state (stored_value T (InCall i) (converted_answer U T q) st) go) (left_to_do F (Execute (cm.Set i E) work) vs cs r w)
        by (Err k) hq = follows_fault (cminor (translated p)) d m k _
        by (Ok u) hq =
            quiet m _ (left_to_do F (Execute (cm.Set i E) work) vs cs r w) hq.1 few refl
            (set_now m st vs r w s' i T aims.1 (assigned_value U T u) (c.value E vs w) (assigned_ok d S fits st.made U T short u (c.value E vs w) hq.0) go work arm)
    assign_now m T U short st vs r w s' (Err k) q None A E aims hq go work arm = follows_fault (cminor (translated p)) d m k _
    assign_now m T U short st vs r w s' (Ok (InCall i)) q None A E aims hq go work arm = absurd aims
    assign_now m T U short st vs r w s' (Ok (Behind ptr)) (Err k) None A E aims hq go work arm = follows_fault (cminor (translated p)) d m k _
    assign_now m T U short st vs r w s' (Ok (Behind ptr)) (Ok u) None A E aims hq go work arm =
        store_now m st vs r w s' T ptr (assigned_value U T u) A E aims.0 aims.1 hq.1 (assigned_ok d S fits st.made U T short u (c.value E vs w) hq.0) go work arm

    -- ---- places that are assigned to

    aims_home : (st : State) (vs : Values) (w : World) (s' : Stands st vs w) (home : Home) (T : CType) (a : ℕ) → IsAtHome p f home T a
        → PlaceIs p f S d fits st vs w s'.mem.keeps s'.scalars (here_located st vs w s') (Ok (e.home_position home st.frame)) (cm.Const a) → AimsAt st vs w T (Ok (e.home_position home st.frame)) (x.scalar_of home) (cm.Const a)
    aims_home st vs w s' (home.Global b) T a is pl = pl
    aims_home st vs w s' (home.Block b) T a is pl = pl
    aims_home st vs w s' (home.Scalar i) T a is pl = (refl, is)

    aims_variable : (st : State) (vs : Values) (w : World) → Stands st vs w → (i : ℕ) (T : CType) → IsVariable p f i T → AimsAt st vs w T (Ok (e.variable_position p i st.frame)) (x.scalar_in (slice_get p.variables i)) (cm.Const (address_at p i))
    aims_variable st vs w s' i T ty =
        subst (λ z. AimsAt st vs w T (Ok (e.position_in z st.frame)) (x.scalar_in z) (cm.Const (variable_address z))) (sym ty.is)
        (subst (λ U. AimsAt st vs w U (Ok (e.home_position ty.variable.home st.frame)) (x.scalar_of ty.variable.home) (cm.Const ty.variable.address)) ty.typed
        (aims_home st vs w s' ty.variable.home ty.variable.type ty.variable.address ty.home
        (subst (λ z. PlaceIs p f S d fits st vs w s'.mem.keeps s'.scalars (here_located st vs w s') (Ok (e.position_in z st.frame)) (cm.Const (variable_address z))) ty.is
        (variable_place p f S d fits st vs w s'.mem.keeps s'.scalars (here_located st vs w s') i T ty))))

    aims_behind : (st : State) (vs : Values) (w : World) (s' : Stands st vs w) (T : CType) (q : Answer) (A : CmExpr) → PlaceIs p f S d fits st vs w s'.mem.keeps s'.scalars (here_located st vs w s') (behind q) A → AimsAt st vs w T (behind q) None A
    aims_behind st vs w s' T (Err k) A pl = tt
    aims_behind st vs w s' T (Ok u) A pl = pl

    aims_place : (st : State) (vs : Values) (w : World) → Stands st vs w → (a : Expr) → IsTyped p f a → AimsAt st vs w (type_at a) (position p a st) (x.scalar_at p a) (x.place p a)
    aims_place st vs w s' (Variable T i name) ty = aims_variable st vs w s' i T ty
    aims_place st vs w s' (Number T number span) ty = tt
    aims_place st vs w s' (Parenthesis T lf a rt) ty = subst (λ U. AimsAt st vs w U (position p a st) (x.scalar_at p a) (x.place p a)) (sym ty.0) (aims_place st vs w s' a ty.1)
    aims_place st vs w s' (Binary T l operator at r) ty = tt
    aims_place st vs w s' (Prefix T Negate at a) ty = tt
    aims_place st vs w s' (Prefix T Complement at a) ty = tt
    aims_place st vs w s' (Prefix T Dereference at a) ty = aims_behind st vs w s' T _ _ (pla st vs w s' (Prefix T Dereference at a) ty)
    aims_place st vs w s' (Prefix T AddressOf at a) ty = tt
    aims_place st vs w s' (Prefix T NotPrefix at a) ty = tt
    aims_place st vs w s' (Cast T lf words rt a) ty = tt
    aims_place st vs w s' (Index T base lf index rt) ty = aims_behind st vs w s' T _ _ (pla st vs w s' (Index T base lf index rt) ty)
    aims_place st vs w s' (Select T a Dot at name offset) ty = aims_behind st vs w s' T _ _ (pla st vs w s' (Select T a Dot at name offset) ty)
    aims_place st vs w s' (Select T a Arrow at name offset) ty = aims_behind st vs w s' T _ _ (pla st vs w s' (Select T a Arrow at name offset) ty)

    assignment_ok : (a : Assignment) → AssignmentFits p f a → (m : ℕ) (go : State → Rest) (work : Work) → ((st : State) → Arm m st (go st) work) → (st : State) → Arm m st (with_state (assigned p a st) go) (Execute (s.assignment p a) work)
    assignment_ok a fit m go work arm st vs r w s' =
        assign_now m (type_at a.target) (type_at a.value) fit.2 st vs r w s' (position p a.target st) (e.value p a.value st) (x.scalar_at p a.target) (x.place p a.target) (x.value p a.value)
        (aims_place st vs w s' a.target fit.0) (val st vs w s' a.value fit.1) go work arm

    assignment_if_any_ok : (a : Option Assignment) → AssignmentFitsIfAny p f a → (m : ℕ) (go : State → Rest) (work : Work) → ((st : State) → Arm m st (go st) work) → (st : State) → Arm m st (with_state (assigned_if_any p a st) go) (Execute (s.assignment_if_any p a) work)
    assignment_if_any_ok (Some a) fit m go work arm st vs r w s' = assignment_ok a fit m go work arm st vs r w s'
    assignment_if_any_ok None fit m go work arm st vs r w s' = quiet m _ (left_to_do F (Execute s.nothing work) vs cs r w) tt few refl (quiet m _ (left_to_do F (ExecuteAll cm.NoStmts work) vs cs r w) tt few refl (arm st vs r w s'))

    -- ---- loops

    -- what is proved of a statement
    abbrev pub IsFollowed : Stmt Label → Type 0
    IsFollowed a = (m : ℕ) (calls : Calling → Rest) (k : Goes) (work : Work) → CallsFollow m calls → Goings m k work → (st : State) → Arm m st (run p calls a k st) (Execute (s.statement p a) work)

    in_loop : (j all : ℕ) (after : Label) (k : Goes) (work u : Work) (turn : State → Rest) → j ≤ all → Goings all k work → c.broken u ≡ Pass after work → c.continued u ≡ u → ((st : State) → Arm j st (turn st) u) → Goings j (loop_goes k after turn) u
    in_loop j all after k work u turn le g broken continued arm = record {
      next = arm;
      continue = λ st vs r w s'. quiet j (turn st) (left_to_do F (Execute cm.Continue u) vs cs r w) tt few refl (subst (λ z. Fol j (turn st) (left_to_do F z vs cs r w)) (sym continued) (arm st vs r w s'));
      break = λ st vs r w s'. quiet j (passes after (k.next st)) (left_to_do F (Execute cm.Break u) vs cs r w) tt few refl
          (subst (λ z. Fol j (passes after (k.next st)) (left_to_do F z vs cs r w)) (sym broken) (pass_arm j after st (k.next st) work (λ i lt. arm_less i all st (k.next st) work (omega arith) (g.next st)) vs r w s'));
      return = λ y st i w mem framed ry. follows_less (cminor (translated p)) d j all _ _ le (g.return y st i w mem framed ry);
    }

    abbrev C' : Option (Cond Label) → Option CmCond
    C' cond = option_map (x.condition p) cond

    abbrev B' : Stmt Label → CmStmt
    B' a = s.statement p a

    abbrev A' : Option Assignment → CmStmt
    A' a = s.assignment_if_any p a

    abbrev for_turn : (Calling → Rest) → Option (Cond Label) → Option Assignment → Label → Stmt Label → Label → Goes → (State → Rest) → State → Rest
    for_turn calls cond stp l body after k turn st = test_if_any p cond st (passes l (run p calls body (loop_goes k after (next_of_for p stp turn)) st)) (passes after (k.next st))

    one_turn : (j all : ℕ) (calls : Calling → Rest) (cond : Option (Cond Label)) (stp : Option Assignment) (l : Label) (body : Stmt Label) (after : Label) (k : Goes) (work : Work) (turn : State → Rest) → j ≤ all
        → CondFitsIfAny p f cond → AssignmentFitsIfAny p f stp → CallsFollow all calls → Goings all k work → IsFollowed body
        → ((i : ℕ) → i < j → (st : State) → Arm i st (turn st) (Turn (C' cond) l (B' body) (A' stp) after work))
        → (st : State) → Arm j st (for_turn calls cond stp l body after k turn st) (Turn (C' cond) l (B' body) (A' stp) after work)
    one_turn j all calls cond stp l body after k work turn le ct at cf g follows next st vs r w s' =
        quiet j (for_turn calls cond stp l body after k turn st) (left_to_do F (Turn (C' cond) l (B' body) (A' stp) after work) vs cs r w) tt few refl (tested cond ct)
      where
        step_arm : (i : ℕ) → i < j → (st : State) → Arm i st (next_of_for p stp turn st) (Step (C' cond) l (B' body) (A' stp) after work)
        step_arm i lt st vs r w s' = quiet i (next_of_for p stp turn st) (left_to_do F (Step (C' cond) l (B' body) (A' stp) after work) vs cs r w) tt few refl (assignment_if_any_ok stp at i turn (Turn (C' cond) l (B' body) (A' stp) after work) (λ st. next i lt st) st vs r w s')

        body_arm : (i : ℕ) → i < j → (st : State) → Arm i st (run p calls body (loop_goes k after (next_of_for p stp turn)) st) (Execute (B' body) (Step (C' cond) l (B' body) (A' stp) after work))
        body_arm i lt st = follows i calls (loop_goes k after (next_of_for p stp turn)) (Step (C' cond) l (B' body) (A' stp) after work) (calls_less i all calls (omega arith) cf)
            (in_loop i all after k work (Step (C' cond) l (B' body) (A' stp) after work) (next_of_for p stp turn) (omega arith) g refl refl (λ st. step_arm i lt st)) st

        one_arm : Arm j st (passes l (run p calls body (loop_goes k after (next_of_for p stp turn)) st)) (Pass l (Execute (B' body) (Step (C' cond) l (B' body) (A' stp) after work)))
        one_arm = pass_arm j l st (run p calls body (loop_goes k after (next_of_for p stp turn)) st) (Execute (B' body) (Step (C' cond) l (B' body) (A' stp) after work)) (λ i lt. body_arm i lt st)

        end_arm : Arm j st (passes after (k.next st)) (Pass after work)
        end_arm = pass_arm j after st (k.next st) work (λ i lt. arm_less i all st (k.next st) work (omega arith) (g.next st))

        tested : (cond' : Option (Cond Label)) → CondFitsIfAny p f cond' → Fol j (test_if_any p cond' st (passes l (run p calls body (loop_goes k after (next_of_for p stp turn)) st)) (passes after (k.next st)))
            (left_to_do F (c.turn_step (C' cond') (Pass l (Execute (B' body) (Step (C' cond) l (B' body) (A' stp) after work))) (Pass after work)) vs cs r w)
        tested None ct' = one_arm vs r w s'
        tested (Some cc') ct' = cond_ok cc' j ct' st _ _ (Pass l (Execute (B' body) (Step (C' cond) l (B' body) (A' stp) after work))) (Pass after work) one_arm end_arm vs r w s'

    loop_ok : (cond : Option (Cond Label)) (stp : Option Assignment) (l : Label) (body : Stmt Label) (after : Label) → CondFitsIfAny p f cond → AssignmentFitsIfAny p f stp → IsFollowed body → (calls : Calling → Rest) (k : Goes) (work : Work) (all : ℕ) → CallsFollow all calls → Goings all k work
        → (m j n : ℕ) → j ≤ all → j ≤ m → j ≤ n → (st : State) → Arm j st (turns (for_turn calls cond stp l body after k) n st) (Turn (C' cond) l (B' body) (A' stp) after work)
    loop_ok cond stp l body after ct at follows calls k work all cf g m zero n a b z st vs r w s' = record { at = λ n lt. absurd (omega arith) }
    loop_ok cond stp l body after ct at follows calls k work all cf g zero (suc j) n a b z st vs r w s' = absurd (omega arith)
    loop_ok cond stp l body after ct at follows calls k work all cf g (suc m) (suc j) zero a b z st vs r w s' = absurd (omega arith)
    loop_ok cond stp l body after ct at follows calls k work all cf g (suc m) (suc j) (suc n) a b z st vs r w s' =
        one_turn (suc j) all calls cond stp l body after k work (turns (for_turn calls cond stp l body after k) n) a ct at cf g follows
        (λ i lt. loop_ok cond stp l body after ct at follows calls k work all cf g m i n (omega arith) (omega arith) (omega arith)) st vs r w s'

    loop_arm : (cond : Option (Cond Label)) (stp : Option Assignment) (l : Label) (body : Stmt Label) (after : Label) → CondFitsIfAny p f cond → AssignmentFitsIfAny p f stp → IsFollowed body → (calls : Calling → Rest) (k : Goes) (work : Work) (m : ℕ) → CallsFollow m calls → Goings m k work
        → (st : State) → Arm m st (again (for_turn calls cond stp l body after k) st) (Execute (cm.Loop (C' cond) l (B' body) (A' stp) after) work)
    loop_arm cond stp l body after ct at follows calls k work m cf g st vs r w s' =
        quiet m (again (for_turn calls cond stp l body after k) st) (left_to_do F (Execute (cm.Loop (C' cond) l (B' body) (A' stp) after) work) vs cs r w) tt few refl
        (follows_again (cminor (translated p)) d m (for_turn calls cond stp l body after k) st _ (λ j le. loop_ok cond stp l body after ct at follows calls k work m cf g j j j le (omega arith) (omega arith) st vs r w s'))

    abbrev do_turn : (Calling → Rest) → Stmt Label → Cond Label → Label → Label → Goes → (State → Rest) → State → Rest
    do_turn calls body cond back after k turn st = run p calls body (loop_goes k after (until p cond back after k turn)) st

    abbrev D' : Cond Label → CmCond
    D' cond = x.condition p cond

    one_do : (j all : ℕ) (calls : Calling → Rest) (body : Stmt Label) (cond : Cond Label) (back after : Label) (k : Goes) (work : Work) (turn : State → Rest) → j ≤ all → IsTypedCond p f cond → CallsFollow all calls → Goings all k work → IsFollowed body
        → ((i : ℕ) → i < j → (st : State) → Arm i st (turn st) (Execute (B' body) (Again (D' cond) back (B' body) after work)))
        → (st : State) → Arm j st (do_turn calls body cond back after k turn st) (Execute (B' body) (Again (D' cond) back (B' body) after work))
    one_do j all calls body cond back after k work turn le ct cf g follows next st vs r w s' =
        follows j calls (loop_goes k after (until p cond back after k turn)) (Again (D' cond) back (B' body) after work) (calls_less j all calls le cf)
        (in_loop j all after k work (Again (D' cond) back (B' body) after work) (until p cond back after k turn) le g refl refl (λ st vs r w s'.
        quiet j (until p cond back after k turn st) (left_to_do F (Again (D' cond) back (B' body) after work) vs cs r w) tt few refl
        (cond_ok cond j ct st (passes back (turn st)) (passes after (k.next st)) (Pass back (Execute (B' body) (Again (D' cond) back (B' body) after work))) (Pass after work)
        (pass_arm j back st (turn st) (Execute (B' body) (Again (D' cond) back (B' body) after work)) (λ i lt. next i lt st))
        (pass_arm j after st (k.next st) work (λ i lt. arm_less i all st (k.next st) work (omega arith) (g.next st))) vs r w s'))) st vs r w s'

    do_ok : (body : Stmt Label) (cond : Cond Label) (back after : Label) → IsTypedCond p f cond → IsFollowed body → (calls : Calling → Rest) (k : Goes) (work : Work) (all : ℕ) → CallsFollow all calls → Goings all k work → (m j n : ℕ) → j ≤ all → j ≤ m → j ≤ n
        → (st : State) → Arm j st (turns (do_turn calls body cond back after k) n st) (Execute (B' body) (Again (D' cond) back (B' body) after work))
    do_ok body cond back after ct follows calls k work all cf g m zero n a b z st vs r w s' = record { at = λ n lt. absurd (omega arith) }
    do_ok body cond back after ct follows calls k work all cf g zero (suc j) n a b z st vs r w s' = absurd (omega arith)
    do_ok body cond back after ct follows calls k work all cf g (suc m) (suc j) zero a b z st vs r w s' = absurd (omega arith)
    do_ok body cond back after ct follows calls k work all cf g (suc m) (suc j) (suc n) a b z st vs r w s' =
        one_do (suc j) all calls body cond back after k work (turns (do_turn calls body cond back after k) n) a ct cf g follows
        (λ i lt. do_ok body cond back after ct follows calls k work all cf g m i n (omega arith) (omega arith) (omega arith)) st vs r w s'

    -- ---- calls

    abbrev TypesFrom : ℕ → List CType → Type 0
    TypesFrom i [] = Unit {0}
    TypesFrom i (T ∷ Ts) = (variable_type p i ≡ T) × IsShort T × TypesFrom (suc i) Ts

    scalar_is_short : (T : CType) → IsShortScalar T → IsShort T
    scalar_is_short Void sh = tt
    scalar_is_short (Integer One g) sh = tt
    scalar_is_short (Integer Two g) sh = tt
    scalar_is_short (Integer Four g) sh = absurd sh
    scalar_is_short (Pointer T) sh = tt
    scalar_is_short (Array T i) sh = tt
    scalar_is_short (Struct i) sh = tt

    types_from : (Ts : List CType) (i : ℕ) → ((k : ℕ) (T : CType) → slice_get Ts k ≡ Some T → (variable_type p (i + k) ≡ T) × IsShort T) → TypesFrom i Ts
    types_from [] i at = tt
    types_from (T ∷ Ts) i at =
        let first = at 0 T refl in
        let z : i ≡ i + 0 = omega arith in (
          ap (variable_type p) z ∙ first.0,
          first.1,
          types_from Ts (suc i) (λ k U is.
              let n = at (suc k) U is in
              let y : suc i + k ≡ i + suc k = omega arith in
              (ap (variable_type p) y ∙ n.0, n.1)),
        )

    parameters_known : (g : ℕ) (G : Function Label) → slice_get p.functions g ≡ Some G → TypesFrom G.first_variable (parameter_types G) × (length (parameter_types G) ≡ G.parameters)
    parameters_known g G is =
        let fit = functions g G is in (
          types_from (parameter_types G) G.first_variable (λ k T at.
              let t = get_take (function_scalars p G) G.parameters k T at in
              let q = fit.parameters k t.0 in
              (same_Some _ _ (sym q ∙ t.1), scalar_is_short T (fit.scalars k T t.1))),
          length_taken (function_scalars p G) G.parameters (few_parameters G fit.parameters G.parameters refl),
        )

    with_reads : (made : ℕ) (T : CType) (q : Answer) (k : ℕ) (rs : List ℕ) → EachWithin d rs → Means S made d T q k [] → Means S made d T q k rs
    with_reads made T (Err i) k rs h' i' = tt
    with_reads made T (Ok u) k rs h' i' = (i'.0, h')

    converted_ok : (st : State) (vs : Values) (w : World) → Stands st vs w → (a : Expr) → IsTyped p f a → (T : CType) → IsShort T
        → Means S st.made d T (converted_answer (type_at a) T (e.value p a st)) (kept (held_of T) (c.value (x.value p a) vs w)) (c.reads (x.value p a) vs w)
    converted_ok st vs w s' a ty T short =
        then_ok S st.made d (value_type (type_at a)) T (e.value p a st) (assigned_value (type_at a) T) _ _ _ _ (val st vs w s' a ty) (λ u hu rs. with_reads st.made T _ _ _ rs (assigned_ok d S fits st.made (type_at a) T short u _ hu))

    args_ok : (st : State) (vs : Values) (w : World) → Stands st vs w → (es : List Expr) (Ts : List CType) (i : ℕ) → AllTyped p f es → length es ≡ length Ts → TypesFrom i Ts
        → MeansAll S st.made d Ts (argument_values p es i st) (c.values (x.values p es) vs w) (c.all_reads (x.values p es) vs w)
    args_ok st vs w s' [] [] i ty many types = (tt, tt)
    args_ok st vs w s' [] (T ∷ Ts) i ty many types = absurd (omega arith)
    args_ok st vs w s' (a ∷ es) [] i ty many types = absurd (omega arith)
    args_ok st vs w s' (a ∷ es) (T ∷ Ts) i ty many types =
        joined_ok S st.made d T Ts _ _ _ _ _ _
        (subst (λ U. Means S st.made d T (converted_answer (type_at a) U (e.value p a st)) (kept (held_of T) (c.value (x.value p a) vs w)) (c.reads (x.value p a) vs w)) (sym types.0) (converted_ok st vs w s' a ty.0 T types.1))
        (args_ok st vs w s' es Ts (suc i) ty.1 (omega arith) types.2)

    with_values_ok : (made m : ℕ) (Ts : List CType) (q : Result (List Value) FaultKind) (go : List Value → Rest) (y : CmState) (ns rs : List ℕ) → MeansAll S made d Ts q ns rs → ((ws : List Value) → Arguments' S made Ts ws ns → EachWithin d rs → Fol m (go ws) y) → Fol m (with_values q go) y
    with_values_ok made m Ts (Err k) go y ns rs a b = follows_fault (cminor (translated p)) d m k y
    with_values_ok made m Ts (Ok ws) go y ns rs a b = b ws a.0 a.1

    -- ---- back from a call

    result_held : (T : CType) → IsShortScalar T → s.result_of T ≡ Some (held_of T)
    result_held Void sh = absurd sh
    result_held (Integer One g) sh = refl
    result_held (Integer Two g) sh = refl
    result_held (Integer Four g) sh = absurd sh
    result_held (Pointer T) sh = refl
    result_held (Array T i) sh = absurd sh
    result_held (Struct i) sh = absurd sh

    result_reps : (made : ℕ) (T : CType) → IsShortScalar T → (y : Value) (k : ℕ) → ResultIs T S made y k → Reps S made (value_type T) y (kept (held_of T) k)
    result_reps made Void sh y k r = absurd sh
    result_reps made (Integer sz g) sh y k r = kept_reps d S fits made (Integer sz g) y k r
    result_reps made (Pointer T) sh y k r = kept_reps d S fits made (Pointer T) y k r
    result_reps made (Array T i) sh y k r = absurd sh
    result_reps made (Struct i) sh y k r = absurd sh

    own_index : (o : Option Variable') → IsScalarIn o → (i : ℕ) × (x.scalar_in o ≡ Some i)
    own_index None is = absurd is
    own_index (Some y) is = by y.home is
      where
        by : (q : Home) → IsOwnScalar q → (i : ℕ) × (x.scalar_of q ≡ Some i)
        by (home.Global b) is = absurd is
        by (home.Block b) is = absurd is
        by (home.Scalar i) is = (i, refl)

    no_target : (o : Option Held) (work : Work) → c.taken o None work ≡ work
    no_target None work = refl
    no_target (Some hd) work = refl

    back_stands : (st st' : State) (vs : Values) (w w' : World) → Stands st vs w → Left S st.made st' w' → Stands (returned st.frame st') vs w'
    back_stands st st' vs w w' s' lf =
        let later = lf.later in
        let later' = s'.mem.later in
        record {
          mem = record { keeps = lf.keeps; script = lf.script; readings = lf.readings; later = omega arith };
          framed = s'.framed;
          scalars = λ k T is. reps_later S st.made st'.made later T _ _ (s'.scalars k T is);
        }

    back_ok : (G : Function Label) (R : CType) → R ≡ G.result → (target : Option ResultTarget) → TargetFitsIfAny p f G target → (m : ℕ) (k : Goes) (work : Work) → Goings m k work → (back : Label) (st st' : State) (vs : Values) (w w' : World) → Stands st vs w → Left S st.made st' w'
        → (y : Value) (i : ℕ) → ResultIs G.result S st'.made y i
        → Fol m (passes back (with_state (taken p target R y (returned st.frame st')) k.next)) (left_to_do F (Pass back (c.taken (s.result_of G.result) (s.target_of p target) work)) vs cs i w')
    back_ok G R rg None fit m k work g back st st' vs w w' s' lf y i ry =
        subst (λ z. Fol m (passes back (k.next (returned st.frame st'))) (left_to_do F (Pass back z) vs cs i w')) (sym (no_target (s.result_of G.result) work))
        (pass_at m back (returned st.frame st') (k.next (returned st.frame st')) work vs i w' (back_stands st st' vs w w' s' lf) (λ j lt w2 s2. arm_less j m (returned st.frame st') (k.next (returned st.frame st')) work (omega arith) (g.next (returned st.frame st')) vs i w2 s2))
    back_ok G R rg (Some t) fit m k work g back st st' vs w w' s' lf y i ry =
        let st1 = returned st.frame st' in
        let found = own_index (slice_get p.variables t.variable) fit.scalar in
        let held = result_held G.result fit.result in
        let typed : variable_type p t.variable ≡ fit.type = ap n.type_in fit.variable.is ∙ fit.variable.typed in
        subst (λ z. Fol m (passes back (with_state (assigned_variable p t.variable z (Ok y) st1) k.next)) (left_to_do F (Pass back (c.taken (s.result_of G.result) (x.scalar_in (slice_get p.variables t.variable)) work)) vs cs i w')) (sym rg)
        (subst (λ z. Fol m (passes back (with_state (assigned_variable p t.variable G.result (Ok y) st1) k.next)) (left_to_do F (Pass back (c.taken z (x.scalar_in (slice_get p.variables t.variable)) work)) vs cs i w')) (sym held)
        (subst (λ z. Fol m (passes back (with_state (assigned_variable p t.variable G.result (Ok y) st1) k.next)) (left_to_do F (Pass back (c.taken (Some (held_of G.result)) z work)) vs cs i w')) (sym found.1)
        (subst (λ z. Fol m (passes back (with_state (assigned_to z (Ok (e.variable_position p t.variable st1.frame)) G.result (Ok y) st1) k.next)) (left_to_do F (Pass back (Take (held_of G.result) found.0 work)) vs cs i w')) (sym typed)
        (pass_at m back st1 (with_state (assigned_to fit.type (Ok (e.variable_position p t.variable st1.frame)) G.result (Ok y) st1) k.next) (Take (held_of G.result) found.0 work) vs i w' (back_stands st st' vs w w' s' lf) (λ j lt w2 s2.
        let aims : AimsAt st1 vs w2 fit.type (Ok (e.variable_position p t.variable st1.frame)) (Some found.0) (cm.Const (address_at p t.variable)) =
        subst (λ z. AimsAt st1 vs w2 fit.type (Ok (e.variable_position p t.variable st1.frame)) z (cm.Const (address_at p t.variable))) found.1 (aims_variable st1 vs w2 s2 t.variable fit.type fit.variable) in
        subst (λ z. Fol j (with_state (assigned_to fit.type z G.result (Ok y) st1) k.next) (left_to_do F (Take (held_of G.result) found.0 work) vs cs i w2)) (sym aims.0)
        (quiet j _ (left_to_do F (Take (held_of G.result) found.0 work) vs cs i w2) tt few refl
        (set_now j st1 vs i w2 s2 found.0 fit.type aims.1 (assigned_value G.result fit.type y) (kept (held_of G.result) i)
        (assigned_ok d S fits st'.made G.result fit.type fit.short y (kept (held_of G.result) i) (result_reps st'.made G.result fit.result y i ry)) k.next work (λ st2. arm_less j m st2 (k.next st2) work (omega arith) (g.next st2)))))))))

    call_ok : (cl : Call) (back : Label) → CallFits p paths h f cl → (m : ℕ) (calls : Calling → Rest) (k : Goes) (work : Work) → CallsFollow m calls → Goings m k work → 1 ≤ since → (st : State)
        → Arm m st (with_values (argument_values p (argument_list cl.arguments) (first_parameter p cl.function) st) (λ ws. calls (record { function = cl.function; arguments = ws; from = st; return = λ y st'. passes back (with_state (taken p cl.target (result_type p cl.function) y (returned st.frame st')) k.next) })))
        (Execute (s.call p cl back) work)
    call_ok cl back fit m calls k work cf g some st vs r w s' =
        let G = fit.callee in
        let known = parameters_known cl.function G fit.is in
        let many = fit.many in
        let known1 = known.1 in
        let later = s'.mem.later in
        let args = subst (λ z. MeansAll S st.made d (parameter_types G) (argument_values p (argument_list cl.arguments) z st) (c.values (x.values p (argument_list cl.arguments)) vs w) (c.all_reads (x.values p (argument_list cl.arguments)) vs w)) (sym (ap parameter_in fit.is))
        (args_ok st vs w s' (argument_list cl.arguments) (parameter_types G) G.first_variable fit.typed (omega arith) known.0) in
        let ns = c.values (x.values p (argument_list cl.arguments)) vs w in
        let target = s.target_of p cl.target in
        let stay = left_to_do F (Execute (s.call p cl back) work) vs cs r w in
        let next : Option CmFunction → CmState = λ o. c.called o ns target back stay F work vs cs r w in
        let found = sym (get_map (s.function p) p.functions cl.function G fit.is) in
        let deeper = fit.deeper in
        let after = fit.after in
        let limit = (functions cl.function G fit.is).depth.1 in
        with_values_ok st.made m (parameter_types G) _ _ _ ns _ args (λ ws hargs rs.
        quiet m _ stay rs
        (subst (λ o. length (next o).calls ≤ 64) found (omega arith))
        (subst (λ o. (next o).world.made ≡ w.made) found refl)
        (subst (λ o. Fol m (calls (asked cl.function ws st (λ y st'. passes back (with_state (taken p cl.target (result_type p cl.function) y (returned st.frame st')) k.next)))) (next o)) found
        (cf.at m (omega arith) cl.function G fit.is S fits (omega arith) globals ((record { of = F; work = Pass back (c.taken (s.result_of G.result) target work); variables = vs }) ∷ cs) (omega arith) st w
        (record { keeps = s'.mem.keeps; script = s'.mem.script; readings = s'.mem.readings; later = omega arith }) (omega arith) ws ns hargs _
        (λ y st' i w' lf ry. back_ok G (result_type p cl.function) (ap result_in fit.is) cl.target fit.target m k work g back st st' vs w w' s' lf y i ry) r)))

    -- ---- ports

    script_head : (l : List ℕ) → IsScript l → next_reading l < 256
    script_head [] h' = omega arith
    script_head (b ∷ l) h' = All-head (λ byte. byte < 2 ^ 8) b l h'

    script_rest : (l : List ℕ) → IsScript l → IsScript (drop 1 l)
    script_rest [] h' = h'
    script_rest (b ∷ l) h' = All-tail (λ byte. byte < 2 ^ 8) b l h'

    read_stands : (st : State) (vs : Values) (w : World) → Stands st vs w → Stands (n.after_reading st) vs (world.after_reading w)
    read_stands st vs w s' = record {
      mem = record { keeps = s'.mem.keeps; script = ap (drop 1) s'.mem.script; readings = script_rest st.script s'.mem.readings; later = s'.mem.later };
      framed = s'.framed;
      scalars = s'.scalars;
    }

    scalar_place : (a : Expr) → IsScalarPlace p a → (i : ℕ) × (x.scalar_at p a ≡ Some i)
    scalar_place (Variable T i name) is = own_index (slice_get p.variables i) is
    scalar_place (Number T number span) is = absurd is
    scalar_place (Parenthesis T lf a rt) is = scalar_place a is
    scalar_place (Binary T l operator at r) is = absurd is
    scalar_place (Prefix T operator at a) is = absurd is
    scalar_place (Cast T lf words rt a) is = absurd is
    scalar_place (Index T base lf index rt) is = absurd is
    scalar_place (Select T a operator at name offset) is = absurd is

    read_ok : (a : Expr) → IsTyped p f a → IsShort (type_at a) → IsScalarPlace p a → (m : ℕ) (go : State → Rest) (work : Work) → ((st : State) → Arm m st (go st) work) → (st : State)
        → Arm m st (says (event.Read P1 (next_reading st.script)) (with_state (assigned_to (type_at a) (position p a (n.after_reading st)) unsigned_char (Ok (v.Integer (next_reading st.script))) (n.after_reading st)) go)) (Execute (s.read_port (x.scalar_at p a)) work)
    read_ok a ty short scalar m go work arm st vs r w s' =
        let found = scalar_place a scalar in
        let st1 = n.after_reading st in
        let w1 = world.after_reading w in
        let s1 = read_stands st vs w s' in
        let b = next_reading st.script in
        let rest = with_state (assigned_to (type_at a) (position p a st1) unsigned_char (Ok (v.Integer b)) st1) go in
        let aims : AimsAt st1 vs w1 (type_at a) (position p a st1) (Some found.0) (x.place p a) = subst (λ z. AimsAt st1 vs w1 (type_at a) (position p a st1) z (x.place p a)) found.1 (aims_place st1 vs w1 s1 a ty) in
        let same : next_reading w.script ≡ b = ap next_reading s'.mem.script in
        let y = left_to_do F (Execute (cm.ReadPort found.0) work) vs cs r w in
        let within : IsWithin (cminor (translated p)) d y = record { bytes = tt; calls = few } in
        let low = script_head st.script s'.mem.readings in
        subst (λ z. Fol m (says (event.Read P1 b) rest) (left_to_do F (Execute (s.read_port z) work) vs cs r w)) (sym found.1)
        (follows_says (cminor (translated p)) d m (event.Read P1 b) rest y _ refl (onward y _ within (here _)) (ap (λ z. w.made ++ event.Read P1 z ∷ []) same)
        (subst (λ z. Fol m rest (left_to_do F work (held_assigned F.held found.0 z vs) cs r w1)) (sym same)
        (subst (λ z. Fol m (with_state (assigned_to (type_at a) z unsigned_char (Ok (v.Integer b)) st1) go) (left_to_do F work (held_assigned F.held found.0 b vs) cs r w1)) (sym aims.0)
        (set_now m st1 vs r w1 s1 found.0 (type_at a) aims.1 (assigned_value unsigned_char (type_at a) (v.Integer b)) b (assigned_ok d S fits st.made unsigned_char (type_at a) short (v.Integer b) b (low, refl)) go work arm))))

    low_kept : (k b : ℕ) → kept (held_of unsigned_char) k ≡ b → low_byte k ≡ b
    unfolding kept
    low_kept k b is = is

    write_ok : (a : Expr) → IsTyped p f a → (m : ℕ) (work : Work) (st : State) (q : Rest) → Arm m st q work → Arm m st (with_byte (converted_answer (type_at a) unsigned_char (e.value p a st)) (λ b. says (event.Write P1 b) q)) (Execute (cm.WritePort (x.value p a)) work)
    write_ok a ty m work st q arm vs r w s' =
        by (converted_answer (type_at a) unsigned_char (e.value p a st)) (converted_ok st vs w s' a ty unsigned_char tt)
      where
        y : CmState
        y = left_to_do F (Execute (cm.WritePort (x.value p a)) work) vs cs r w

        by : (o : Answer) → Means S st.made d unsigned_char o (kept (held_of unsigned_char) (c.value (x.value p a) vs w)) (c.reads (x.value p a) vs w) → Fol m (with_byte o (λ b. says (event.Write P1 b) q)) y
        by (Err k) ho = follows_fault (cminor (translated p)) d m k y
        by (Ok v.Null) ho = absurd ho.0
        by (Ok (v.Pointer at)) ho = absurd ho.0
        by (Ok (v.Integer b)) ho =
            let is = low_kept (c.value (x.value p a) vs w) b ho.0.1 in
            let within : IsWithin (cminor (translated p)) d y = record { bytes = ho.1; calls = few } in
            follows_says (cminor (translated p)) d m (event.Write P1 b) q y _ refl (onward y _ within (here _)) (ap (λ z. w.made ++ event.Write P1 z ∷ []) is)
            (arm vs r (shown (event.Write P1 (low_byte (c.value (x.value p a) vs w))) w) (record {
              mem = record { keeps = s'.mem.keeps; script = s'.mem.script; readings = s'.mem.readings; later = s'.mem.later };
              framed = s'.framed;
              scalars = s'.scalars;
            }))

    -- ---- returns

    few_left : length cs ≤ 64
    few_left = let q = few in omega arith

    result_from : (made : ℕ) (T : CType) → IsShortScalar T → (y : Value) (k : ℕ) → Reps S made T y k → ResultIs T S made y k
    result_from made Void sh y k hr = absurd sh
    result_from made (Integer sz g) sh y k hr = hr
    result_from made (Pointer T) sh y k hr = hr
    result_from made (Array T i) sh y k hr = absurd sh
    result_from made (Struct i) sh y k hr = absurd sh

    none_result : (T : CType) → ResultFits T → (made r : ℕ) → ResultIs T S made (initial T) (held_returned (s.result_of T) 0 r)
    none_result Void fit made r = tt
    none_result (Integer One g) fit made r = kept_reps d S fits made (Integer One g) (initial (Integer One g)) 0 (initial_reps S made (Integer One g) tt)
    none_result (Integer Two g) fit made r = kept_reps d S fits made (Integer Two g) (initial (Integer Two g)) 0 (initial_reps S made (Integer Two g) tt)
    none_result (Integer Four g) fit made r = absurd fit
    none_result (Pointer T) fit made r = kept_reps d S fits made (Pointer T) (initial (Pointer T)) 0 (initial_reps S made (Pointer T) tt)
    none_result (Array T i) fit made r = absurd fit
    none_result (Struct i) fit made r = absurd fit

    return_none : (m : ℕ) (k : Goes) (work : Work) → Goings m k work → (st : State) → Arm m st (k.return (initial st.frame.result) st) (Execute (cm.Return None) work)
    return_none m k work g st vs r w s' =
        quiet m (k.return (initial st.frame.result) st) (left_to_do F (Execute (cm.Return None) work) vs cs r w) tt few_left refl
        (subst (λ T. Fol m (k.return (initial T) st) (record { calls = cs; result = held_returned F.result 0 r; world = w })) (sym s'.framed.result_is)
        (g.return (initial f.result) st (held_returned F.result 0 r) w s'.mem s'.framed (none_result f.result (functions h f f_is).result st.made r)))

    scalar_result : (T : CType) → IsShortScalar T → f.result ≡ T → (a : Expr) → IsTyped p f a → (m : ℕ) (k : Goes) (work : Work) (st : State) (vs : Values) (r : ℕ) (w : World) → Stands st vs w
        → ((y : Value) (i : ℕ) → ResultIs T S st.made y i → Fol m (k.return y st) (record { calls = cs; result = i; world = w }))
        → Fol m (with_value (converted_answer (type_at a) T (e.value p a st)) (λ u. k.return u st)) (left_to_do F (Execute (cm.Return (Some (x.value p a))) work) vs cs r w)
    scalar_result T sh is a ty m k work st vs r w s' back =
        let k' = c.value (x.value p a) vs w in
        with_ok st.made T m (converted_answer (type_at a) T (e.value p a st)) (λ u. k.return u st) (left_to_do F (Execute (cm.Return (Some (x.value p a))) work) vs cs r w) (kept (held_of T) k') (c.reads (x.value p a) vs w)
        (converted_ok st vs w s' a ty T (scalar_is_short T sh)) (λ u hu rs.
        quiet m (k.return u st) (left_to_do F (Execute (cm.Return (Some (x.value p a))) work) vs cs r w) rs few_left refl
        (subst (λ o. Fol m (k.return u st) (record { calls = cs; result = held_returned o k' r; world = w })) (sym (ap s.result_of is ∙ result_held T sh))
        (back u (kept (held_of T) k') (result_from st.made T sh u (kept (held_of T) k') hu))))

    no_result : (T U : CType) → (q : Answer) → U ≡ Void → (m : ℕ) (go : Value → Rest) (y : CmState) → Fol m (with_value (converted_answer T U q) go) y
    no_result T U (Err k) is m go y = follows_fault (cminor (translated p)) d m k y
    no_result T U (Ok u) is m go y = subst (λ z. Fol m (with_value (assigned_value T z u) go) y) (sym is) (by T)
      where
        by : (T : CType) → Fol m (with_value (assigned_value T Void u) go) y
        by Void = follows_fault (cminor (translated p)) d m Outside y
        by (Integer sz g) = follows_fault (cminor (translated p)) d m Outside y
        by (Pointer V) = follows_fault (cminor (translated p)) d m Outside y
        by (Array V i) = follows_fault (cminor (translated p)) d m Outside y
        by (Struct i) = follows_fault (cminor (translated p)) d m Outside y

    return_value : (T : CType) → ResultFits T → f.result ≡ T → (a : Expr) → IsTyped p f a → (m : ℕ) (k : Goes) (work : Work) (st : State) (vs : Values) (r : ℕ) (w : World) → Stands st vs w
        → ((y : Value) (i : ℕ) → ResultIs T S st.made y i → Fol m (k.return y st) (record { calls = cs; result = i; world = w }))
        → Fol m (with_value (converted_answer (type_at a) T (e.value p a st)) (λ u. k.return u st)) (left_to_do F (Execute (cm.Return (Some (x.value p a))) work) vs cs r w)
    return_value Void fit is a ty m k work st vs r w s' back = no_result (type_at a) Void (e.value p a st) refl m (λ u. k.return u st) _
    return_value (Integer One g) fit is a ty m k work st vs r w s' back = scalar_result (Integer One g) tt is a ty m k work st vs r w s' back
    return_value (Integer Two g) fit is a ty m k work st vs r w s' back = scalar_result (Integer Two g) tt is a ty m k work st vs r w s' back
    return_value (Integer Four g) fit is a ty m k work st vs r w s' back = absurd fit
    return_value (Pointer T) fit is a ty m k work st vs r w s' back = scalar_result (Pointer T) tt is a ty m k work st vs r w s' back
    return_value (Array T i) fit is a ty m k work st vs r w s' back = absurd fit
    return_value (Struct i) fit is a ty m k work st vs r w s' back = absurd fit

    return_some : (a : Expr) → IsTyped p f a → (m : ℕ) (k : Goes) (work : Work) → Goings m k work → (st : State)
        → Arm m st (with_value (converted_answer (type_at a) st.frame.result (e.value p a st)) (λ u. k.return u st)) (Execute (cm.Return (Some (x.value p a))) work)
    return_some a ty m k work g st vs r w s' =
        subst (λ T. Fol m (with_value (converted_answer (type_at a) T (e.value p a st)) (λ u. k.return u st)) (left_to_do F (Execute (cm.Return (Some (x.value p a))) work) vs cs r w)) (sym s'.framed.result_is)
        (return_value f.result (functions h f f_is).result refl a ty m k work st vs r w s' (λ y i ry. g.return y st i w s'.mem s'.framed ry))

    -- ---- statements

    nothing_arm : (m : ℕ) (st : State) (q : Rest) (work : Work) → Arm m st q work → Arm m st q (Execute s.nothing work)
    nothing_arm m st q work arm vs r w s' = quiet m q (left_to_do F (Execute s.nothing work) vs cs r w) tt few refl (quiet m q (left_to_do F (ExecuteAll cm.NoStmts work) vs cs r w) tt few refl (arm vs r w s'))

    -- statements one after the other, from the first one on
    abbrev pub works : Stmts Label → Work → Work
    works NoStmts work = work
    works (Then ss a) work = works ss (Execute (s.statement p a) work)

    pub unroll : (ss : Stmts Label) (earlier : CmStmts) (m : ℕ) (q : Rest) (work : Work) (vs : Values) (r : ℕ) (w : World) → Fol m q (left_to_do F (ExecuteAll earlier (works ss work)) vs cs r w) → Fol m q (left_to_do F (ExecuteAll (s.statements_after p ss earlier) work) vs cs r w)
    unroll NoStmts earlier m q work vs r w h' = h'
    unroll (Then ss a) earlier m q work vs r w h' =
        quiet m q (left_to_do F (ExecuteAll (cm.Then (s.statements_after p ss earlier) (s.statement p a)) work) vs cs r w) tt few refl (unroll ss earlier m q (Execute (s.statement p a) work) vs r w h')

    -- before a statement, with what goes on after it
    before_last : (m : ℕ) (k : Goes) (work : Work) (q : State → Rest) (a : CmStmt) → Goings m k work → ((st : State) → Arm m st (q st) (Execute a work)) → Goings m (record k { next = q }) (Execute a work)
    before_last m k work q a g arm = record {
      next = arm;
      break = λ st vs r w s'. quiet m (k.break st) (left_to_do F (Execute cm.Break (Execute a work)) vs cs r w) tt few refl (g.break st vs r w s');
      continue = λ st vs r w s'. quiet m (k.continue st) (left_to_do F (Execute cm.Continue (Execute a work)) vs cs r w) tt few refl (g.continue st vs r w s');
      return = g.return;
    }

    module _ (some : 1 ≤ since) where
      mutual
        pub run_ok : (a : Stmt Label) → StmtFits p paths h f a → IsFollowed a
        run_ok (Empty semicolon) fit m calls k work cf g st vs r w s' = nothing_arm m st (k.next st) work (g.next st) vs r w s'
        run_ok (Block lf body rt) fit m calls k work cf g st vs r w s' =
            quiet m (run_all p calls body k st) (left_to_do F (Execute (cm.Seq (s.statements_after p body cm.NoStmts)) work) vs cs r w) tt few refl
            (unroll body cm.NoStmts m (run_all p calls body k st) work vs r w
            (quiet m (run_all p calls body k st) (left_to_do F (ExecuteAll cm.NoStmts (works body work)) vs cs r w) tt few refl
            (run_all_ok body fit m calls k work cf g st vs r w s')))
        run_ok (Assign a semicolon) fit m calls k work cf g st vs r w s' = assignment_ok a fit m k.next work g.next st vs r w s'
        run_ok (ReadPort target equals port semicolon) fit m calls k work cf g st vs r w s' = read_ok target fit.0 fit.1 fit.2 m k.next work g.next st vs r w s'
        run_ok (WritePort port equals a semicolon) fit m calls k work cf g st vs r w s' = write_ok a fit m work st (k.next st) (g.next st) vs r w s'
        run_ok (CallOf cl semicolon back) fit m calls k work cf g st vs r w s' = call_ok cl back fit m calls k work cf g some st vs r w s'
        run_ok (If tst one arm other) fit m calls k work cf g st vs r w s' =
            quiet m _ (left_to_do F (Execute (cm.If (x.condition p tst.condition) one (s.statement p arm) other s.nothing) work) vs cs r w) tt few refl
            (cond_ok tst.condition m fit.0 st (passes one (run p calls arm k st)) (passes other (k.next st)) (Pass one (Execute (s.statement p arm) work)) (Pass other (Execute s.nothing work))
            (pass_arm m one st (run p calls arm k st) (Execute (s.statement p arm) work) (λ j lt. run_ok arm fit.1 j calls k work (calls_less j m calls (omega arith) cf) (goings_less j m k work (omega arith) g) st))
            (pass_arm m other st (k.next st) (Execute s.nothing work) (λ j lt. nothing_arm j st (k.next st) work (arm_less j m st (k.next st) work (omega arith) (g.next st)))) vs r w s')
        run_ok (IfElse tst one arm keyword other otherwise) fit m calls k work cf g st vs r w s' =
            quiet m _ (left_to_do F (Execute (cm.If (x.condition p tst.condition) one (s.statement p arm) other (s.statement p otherwise)) work) vs cs r w) tt few refl
            (cond_ok tst.condition m fit.0 st (passes one (run p calls arm k st)) (passes other (run p calls otherwise k st)) (Pass one (Execute (s.statement p arm) work)) (Pass other (Execute (s.statement p otherwise) work))
            (pass_arm m one st (run p calls arm k st) (Execute (s.statement p arm) work) (λ j lt. run_ok arm fit.1 j calls k work (calls_less j m calls (omega arith) cf) (goings_less j m k work (omega arith) g) st))
            (pass_arm m other st (run p calls otherwise k st) (Execute (s.statement p otherwise) work) (λ j lt. run_ok otherwise fit.2 j calls k work (calls_less j m calls (omega arith) cf) (goings_less j m k work (omega arith) g) st)) vs r w s')
        run_ok (While tst turn body after) fit m calls k work cf g st vs r w s' = loop_arm (Some tst.condition) None turn body after fit.0 tt (run_ok body fit.1) calls k work m cf g st vs r w s'
        run_ok (Do keyword body tst back semicolon after) fit m calls k work cf g st vs r w s' =
            quiet m (again (do_turn calls body tst.condition back after k) st) (left_to_do F (Execute (cm.Do (s.statement p body) (x.condition p tst.condition) back after) work) vs cs r w) tt few refl
            (follows_again (cminor (translated p)) d m (do_turn calls body tst.condition back after k) st _ (λ j le.
            do_ok body tst.condition back after fit.1 (run_ok body fit.0) calls k work m cf g j j j le (omega arith) (omega arith) st vs r w s'))
        run_ok (For head turn body after) fit m calls k work cf g st vs r w s' =
            let loop = cm.Loop (C' head.condition) turn (B' body) (A' head.step) after in
            let q = with_state (assigned_if_any p head.first st) (again (for_turn calls head.condition head.step turn body after k)) in
            quiet m q (left_to_do F (Execute (s.for_loop p head turn (B' body) after) work) vs cs r w) tt few refl
            (quiet m q (left_to_do F (ExecuteAll (cm.Then (cm.Then cm.NoStmts (A' head.first)) loop) work) vs cs r w) tt few refl
            (quiet m q (left_to_do F (ExecuteAll (cm.Then cm.NoStmts (A' head.first)) (Execute loop work)) vs cs r w) tt few refl
            (quiet m q (left_to_do F (ExecuteAll cm.NoStmts (Execute (A' head.first) (Execute loop work))) vs cs r w) tt few refl
            (assignment_if_any_ok head.first fit.0 m (again (for_turn calls head.condition head.step turn body after k)) (Execute loop work)
            (λ st. loop_arm head.condition head.step turn body after fit.1 fit.2 (run_ok body fit.3) calls k work m cf g st) st vs r w s'))))
        run_ok (Break keyword semicolon) fit m calls k work cf g st vs r w s' = g.break st vs r w s'
        run_ok (Continue keyword semicolon) fit m calls k work cf g st vs r w s' = g.continue st vs r w s'
        run_ok (Return keyword None semicolon) fit m calls k work cf g st vs r w s' = return_none m k work g st vs r w s'
        run_ok (Return keyword (Some a) semicolon) fit m calls k work cf g st vs r w s' = return_some a fit m k work g st vs r w s'

        pub run_all_ok : (ss : Stmts Label) → StmtsFit p paths h f ss → (m : ℕ) (calls : Calling → Rest) (k : Goes) (work : Work) → CallsFollow m calls → Goings m k work → (st : State) → Arm m st (run_all p calls ss k st) (works ss work)
        run_all_ok NoStmts fit m calls k work cf g st = g.next st
        run_all_ok (Then ss a) fit m calls k work cf g st =
            run_all_ok ss fit.0 m calls (record k { next = run p calls a k }) (Execute (s.statement p a) work) cf
            (before_last m k work (run p calls a k) (s.statement p a) g (λ st. run_ok a fit.1 m calls k work cf g st)) st

    -- ---- what comes before the statements of the body

    with_then : (m : ℕ) (q : Result State FaultKind) (next : State → Result State FaultKind) (go : State → Rest) (y : CmState) → Fol m (with_state q (λ st. with_state (next st) go)) y → Fol m (with_state (then_state q next) go) y
    with_then m (Err k) next go y h' = h'
    with_then m (Ok st) next go y h' = h'

    -- the initialisers of locals from the first one on
    abbrev pub init_work : ℕ → LocalInitialiser → Work → Work
    init_work n NoValue work = work
    init_work n (LocalValue equals a) work = Execute (s.variable_assignment p n (x.value p a)) work

    abbrev pub init_works : List Local → ℕ → Work → Work
    init_works [] n work = work
    init_works (l ∷ ls) n work = init_work n l.initialiser (init_works ls (suc n) work)

    unroll_init : (i : LocalInitialiser) (n : ℕ) (earlier : CmStmts) (m : ℕ) (q : Rest) (work : Work) (vs : Values) (r : ℕ) (w : World) → Fol m q (left_to_do F (ExecuteAll earlier (init_work n i work)) vs cs r w) → Fol m q (left_to_do F (ExecuteAll (s.initialiser_after p n i earlier) work) vs cs r w)
    unroll_init NoValue n earlier m q work vs r w h' = h'
    unroll_init (LocalValue equals a) n earlier m q work vs r w h' =
        quiet m q (left_to_do F (ExecuteAll (cm.Then earlier (s.variable_assignment p n (x.value p a))) work) vs cs r w) tt few refl h'

    pub unroll_inits : (ls : List Local) (n : ℕ) (earlier : CmStmts) (m : ℕ) (q : Rest) (work : Work) (vs : Values) (r : ℕ) (w : World) → Fol m q (left_to_do F (ExecuteAll earlier (init_works ls n work)) vs cs r w) → Fol m q (left_to_do F (ExecuteAll (s.initialisers_after p ls n earlier) work) vs cs r w)
    unroll_inits [] n earlier m q work vs r w h' = h'
    unroll_inits (l ∷ ls) n earlier m q work vs r w h' =
        unroll_inits ls (suc n) (s.initialiser_after p n l.initialiser earlier) m q work vs r w (unroll_init l.initialiser n earlier m q (init_works ls (suc n) work) vs r w h')

    init_ok : (i : LocalInitialiser) (n : ℕ) → InitialiserFits p f n i → (m : ℕ) (go : State → Rest) (work : Work) → ((st : State) → Arm m st (go st) work) → (st : State) → Arm m st (with_state (initialised_by p n i st) go) (init_work n i work)
    init_ok NoValue n fit m go work arm st = arm st
    init_ok (LocalValue equals a) n fit m go work arm st = λ vs r w s'.
        assign_now m (variable_type p n) (type_at a) fit.2 st vs r w s' (Ok (e.variable_position p n st.frame)) (e.value p a st) (x.scalar_in (slice_get p.variables n)) (cm.Const (address_at p n)) (x.value p a)
        (aims_variable st vs w s' n (variable_type p n) fit.1) (val st vs w s' a fit.0) go work arm

    pub inits_ok : (ls : List Local) (n : ℕ) → InitialisersFit p f ls n → (m : ℕ) (go : State → Rest) (work : Work) → ((st : State) → Arm m st (go st) work) → (st : State) → Arm m st (with_state (initialised p ls n st) go) (init_works ls n work)
    inits_ok [] n fit m go work arm st = arm st
    inits_ok (l ∷ ls) n fit m go work arm st = λ vs r w s'.
        with_then m (initialised_by p n l.initialiser st) (initialised p ls (suc n)) go _
        (init_ok l.initialiser n fit.0 m (λ st. with_state (initialised p ls (suc n) st) go) (init_works ls (suc n) work) (inits_ok ls (suc n) fit.1 m go work arm) st vs r w s')

    -- the scalars that live in blocks
    abbrev pub home_work : Home → CType → ℕ → ℕ → Work → Work
    home_work (home.Block b) T a n work = Execute (cm.Store (held_of T) (cm.Const a) (cm.Var n)) work
    home_work (home.Global b) T a n work = work
    home_work (home.Scalar i) T a n work = work

    abbrev pub home_works : List Variable' → ℕ → Work → Work
    home_works [] n work = work
    home_works (y ∷ ys) n work = if is_scalar y.type then home_work y.home y.type y.address n (home_works ys (suc n) work) else home_works ys n work

    unroll_home : (q : Home) (T : CType) (a n : ℕ) (earlier : CmStmts) (m : ℕ) (rest : Rest) (work : Work) (vs : Values) (r : ℕ) (w : World) → Fol m rest (left_to_do F (ExecuteAll earlier (home_work q T a n work)) vs cs r w) → Fol m rest (left_to_do F (ExecuteAll (s.home_after q T a n earlier) work) vs cs r w)
    unroll_home (home.Global b) T a n earlier m rest work vs r w h' = h'
    unroll_home (home.Scalar b) T a n earlier m rest work vs r w h' = h'
    unroll_home (home.Block b) T a n earlier m rest work vs r w h' =
        quiet m rest (left_to_do F (ExecuteAll (cm.Then earlier (cm.Store (held_of T) (cm.Const a) (cm.Var n))) work) vs cs r w) tt few refl h'

    pub unroll_homes : (m : ℕ) (rest : Rest) (work : Work) (vs : Values) (r : ℕ) (w : World) (ys : List Variable') (n : ℕ) (earlier : CmStmts) → Fol m rest (left_to_do F (ExecuteAll earlier (home_works ys n work)) vs cs r w) → Fol m rest (left_to_do F (ExecuteAll (s.homes_after ys n earlier) work) vs cs r w)
    unroll_homes m rest work vs r w [] n earlier h' = h'
    unroll_homes m rest work vs r w (y ∷ ys) n earlier h' =
        by (is_scalar y.type) (λ n earlier. unroll_homes m rest work vs r w ys n earlier) h'
      where
        by : (t : Bool) → ((n : ℕ) (earlier : CmStmts) → Fol m rest (left_to_do F (ExecuteAll earlier (home_works ys n work)) vs cs r w) → Fol m rest (left_to_do F (ExecuteAll (s.homes_after ys n earlier) work) vs cs r w))
            → Fol m rest (left_to_do F (ExecuteAll earlier (if t then home_work y.home y.type y.address n (home_works ys (suc n) work) else home_works ys n work)) vs cs r w)
            → Fol m rest (left_to_do F (ExecuteAll (if t then s.homes_after ys (suc n) (s.home_after y.home y.type y.address n earlier) else s.homes_after ys n earlier) work) vs cs r w)
        by true ih h' = ih (suc n) (s.home_after y.home y.type y.address n earlier) (unroll_home y.home y.type y.address n earlier m rest (home_works ys (suc n) work) vs r w h')
        by false ih h' = ih n earlier h'

    block_home : (b : ℕ) (T : CType) (a n : ℕ) → slice_get (function_blocks p f) b ≡ Some a → slice_get (function_scalars p f) n ≡ Some T → (m : ℕ) (next : State → Result State FaultKind) (go : State → Rest) (work : Work) → ((st : State) → Arm m st (with_state (next st) go) work)
        → (st : State) (vs : Values) (r : ℕ) (w : World) → Stands st vs w → (o : Option Value) → slice_get st.frame.scalars n ≡ o
        → Fol m (with_state (homed_in (home.Block b) T o st) (λ st. with_state (next st) go)) (left_to_do F (Execute (cm.Store (held_of T) (cm.Const a) (cm.Var n)) work) vs cs r w)
    block_home b T a n at is m next go work arm st vs r w s' None none =
        let within = slice_get_within (function_scalars p f) n T is in
        let many = s'.framed.many in
        absurd (not_none st.frame.scalars n (omega arith) none)
      where
        not_none : (xs : List Value) (n : ℕ) → n < length xs → slice_get xs n ≡ None → ⊥
        not_none [] n lt e' = omega arith
        not_none (y ∷ ys) zero lt e' = none-some y (sym e')
        not_none (y ∷ ys) (suc n) lt e' = not_none ys n (omega arith) e'
    block_home b T a n at is m next go work arm st vs r w s' (Some u) some =
        let place = home_place p f S d fits st vs w s'.mem.keeps s'.scalars (here_located st vs w s') (home.Block b) T a at in
        store_now m st vs r w s' T (v.Pointer (record { slot = st.frame.blocks + b; call = st.frame.call; offset = 0 })) (Ok u) (cm.Const a) (cm.Var n) place.0 place.1 tt
        (kept_reps d S fits st.made T u (vs n) (subst (λ z. Reps S st.made T (unwrap_or z (v.Integer 0)) (vs n)) some (s'.scalars n T is)), tt)
        (λ st. with_state (next st) go) work arm

    home_ok : (q : Home) (T : CType) (a n : ℕ) → IsAtHome p f q T a → slice_get (function_scalars p f) n ≡ Some T → (m : ℕ) (next : State → Result State FaultKind) (go : State → Rest) (work : Work) → ((st : State) → Arm m st (with_state (next st) go) work) → (st : State)
        → Arm m st (with_state (then_state (homed_in q T (slice_get st.frame.scalars n) st) next) go) (home_work q T a n work)
    home_ok (home.Global b) T a n at is m next go work arm st = arm st
    home_ok (home.Scalar b) T a n at is m next go work arm st = arm st
    home_ok (home.Block b) T a n at is m next go work arm st = λ vs r w s'.
        with_then m (homed_in (home.Block b) T (slice_get st.frame.scalars n) st) next go _ (block_home b T a n at is m next go work arm st vs r w s' (slice_get st.frame.scalars n) refl)

    module _ (m : ℕ) (go : State → Rest) (work : Work) (arm : (st : State) → Arm m st (go st) work) where
      abbrev HomesOk : List Variable' → Type 0
      HomesOk ys = (n : ℕ) → ((k : ℕ) (T : CType) → slice_get (scalar_types ys) k ≡ Some T → slice_get (function_scalars p f) (n + k) ≡ Some T) → (st : State) → Arm m st (with_state (homed ys n st) go) (home_works ys n work)

      pub homes_ok : (ys : List Variable') → ((i : ℕ) (y : Variable') → slice_get ys i ≡ Some y → IsAtHome p f y.home y.type y.address) → HomesOk ys
      homes_ok [] at n types st = arm st
      homes_ok (y ∷ ys) at n types st = λ vs r w s'.
          by (is_scalar y.type) (homes_ok ys (λ i z. at (suc i) z)) types vs r w s'
        where
          by : (t : Bool) → HomesOk ys → ((k : ℕ) (T : CType) → slice_get (if t then y.type ∷ scalar_types ys else scalar_types ys) k ≡ Some T → slice_get (function_scalars p f) (n + k) ≡ Some T)
              → Arm m st (with_state (if t then then_state (homed_in y.home y.type (slice_get st.frame.scalars n) st) (homed ys (suc n)) else homed ys n st) go) (if t then home_work y.home y.type y.address n (home_works ys (suc n) work) else home_works ys n work)
          by true ih types =
              let z : n + 0 ≡ n = omega arith in
              home_ok y.home y.type y.address n (at 0 y refl) (sym (ap (slice_get (function_scalars p f)) z) ∙ types 0 y.type refl) m (homed ys (suc n)) go (home_works ys (suc n) work)
              (λ st. ih (suc n) (λ k T is. let z : suc n + k ≡ n + suc k = omega arith in ap (slice_get (function_scalars p f)) z ∙ types (suc k) T is) st) st
          by false ih types = ih n types st

    -- ---- the whole body of a call

    module _ (some : 1 ≤ since) (m : ℕ) (ret : Value → State → Rest) (back : (y : Value) (st : State) (i : ℕ) (w : World) → Mem S since st w → Framed st.frame → ResultIs f.result S st.made y i → Fol m (ret y st) (record { calls = cs; result = i; world = w })) where
      at_end : (st : State) → Arm m st (ret (initial st.frame.result) st) Done
      at_end st vs r w s' =
          quiet m (ret (initial st.frame.result) st) (left_to_do F Done vs cs r w) tt few_left refl
          (subst (λ T. Fol m (ret (initial T) st) (record { calls = cs; result = held_returned F.result 0 r; world = w })) (sym s'.framed.result_is)
          (back (initial f.result) st (held_returned F.result 0 r) w s'.mem s'.framed (none_result f.result (functions h f f_is).result st.made r)))

      body_goings : Goings m (body_goes ret) Done
      body_goings = record {
        next = at_end;
        break = λ st vs r w s'. quiet m (ret (initial st.frame.result) st) (left_to_do F (Execute cm.Break Done) vs cs r w) tt few refl (at_end st vs r w s');
        continue = λ st vs r w s'. quiet m (ret (initial st.frame.result) st) (left_to_do F (Execute cm.Continue Done) vs cs r w) tt few refl (at_end st vs r w s');
        return = back;
      }

      pub body_run : (calls : Calling → Rest) → CallsFollow m calls → (st : State) → Arm m st (with_state (prepared p f st) (run_all p calls f.body (body_goes ret))) (Execute (s.body p f) Done)
      body_run calls cf st vs r w s' =
          let fit = functions h f f_is in
          let own = own_variables f p.variables in
          let k = f.first_variable + f.parameters in
          let go = run_all p calls f.body (body_goes ret) in
          let q = with_state (prepared p f st) go in
          let after = works f.body Done in
          quiet m q (left_to_do F (Execute (s.body p f) Done) vs cs r w) tt few refl
          (unroll f.body (s.prologue p f) m q Done vs r w
          (unroll_inits f.locals k (s.homes_after own 0 cm.NoStmts) m q after vs r w
          (unroll_homes m q (init_works f.locals k after) vs r w own 0 cm.NoStmts
          (quiet m q (left_to_do F (ExecuteAll cm.NoStmts (home_works own 0 (init_works f.locals k after))) vs cs r w) tt few refl
          (with_then m (homed own 0 st) (initialised p f.locals k) go _
          (homes_ok m (λ st. with_state (initialised p f.locals k st) go) (init_works f.locals k after)
          (inits_ok f.locals k fit.initialisers m go after (run_all_ok some f.body fit.body m calls (body_goes ret) Done cf body_goings))
          own fit.homes 0 (λ k' T is. let z : k' ≡ 0 + k' = omega arith in sym (ap (slice_get (function_scalars p f)) z) ∙ is) st vs r w s'))))))
