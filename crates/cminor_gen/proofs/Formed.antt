-- The translation of a checked program whose labels are each at one place is well formed.
use Rattle.std.proofs.Common.{◌≡◌, ℕ, zero, suc, ◌+◌, ◌*◌, ◌/◌, ◌%◌, ◌<◌, ◌≤◌, List, [], ◌∷◌, ◌++◌, length, map, take, Option, Some, None, Bool, true, false, refl, sym, ap, ◌∙◌, subst, arith}
use Rattle.std.specs.Prelude.{slice_get, slice_index_or, option_map, nat_eq, Contains, if◌then◌else◌}
use Rattle.std.proofs.lemmas.Option.{slice_get_within, none-some, same_Some}
use Rattle.std.proofs.lemmas.List.{length-map}
use Rattle.cerco_base.specs.declared.events.Label.{Label}
use Rattle.cerco_middle.specs.declared.operators.Held.{Held}
use Rattle.cerco_middle.specs.declared.operators.CmOp.TheVariants.{Add}
use Rattle.cerco_middle.specs.Cminor.Trees as cm
use Rattle.cerco_middle.specs.Cminor.Trees.{CmExpr, CmCond, CmStmt, CmStmts, CmFunction, Cminor}
use Rattle.cerco_middle.specs.Cminor.WellFormed.{OfStmts, OfAll, NamesBelow, AllNameBelow, CondNamesBelow, CondNamesBelowIfAny, TargetBelow, StmtNamesBelow, CallsBelow, Place, NoLoop, Body, InStep, body_of, JumpsLeaveLoops, AllLeaveLoops, ReturnsAs, TargetFits as CmTargetFits, CallFits as CmCallFits, OfFunctions, IsWellFormedFunction, IsWellFormed}
use Rattle.cerco_middle.specs.Programs.{AreBytesAtAddresses, AreNumbered, KnowsCallers}
use Rattle.cerco_middle.specs.Operators.{all_held_bytes}
use Rattle.c_types.specs.declared.integers.IntegerType.{IntegerType}
use Rattle.c_types.specs.declared.integers.Size.TheVariants.{One, Two, Four}
use Rattle.c_types.specs.Types.{CType, Void, Integer, Pointer, Array, Struct, size_of, bytes}
use Rattle.c_types.specs.Kinds.{is_scalar, integer_type}
use Rattle.clight_source.specs.declared.tree.BinaryOperator.{BinaryOperator}
use Rattle.clight_source.specs.declared.tree.BinaryOperator.TheVariants as o
use Rattle.clight_source.specs.declared.tree.PrefixOperator.TheVariants.{Negate, Complement, Not as NotPrefix, Dereference, AddressOf}
use Rattle.clight_source.specs.declared.tree.MemberOperator.TheVariants.{Dot, Arrow}
use Rattle.clight_syntax.specs.declared.typed.Home.{Home}
use Rattle.clight_syntax.specs.declared.typed.Home.TheVariants as home
use Rattle.clight_syntax.specs.TypedTrees.{Expr, Variable, Number, Parenthesis, Binary, Prefix, Cast, Index, Select, Cond, Truth, InParentheses, Not, Both, Either, Assignment, Call, Stmt, Empty, Block, Assign, ReadPort, WritePort, CallOf, If, IfElse, While, Do, For, Break, Continue, Return, Stmts, NoStmts, Then, LocalInitialiser, NoValue, Value, Local, Function, Variable', TypedProgram, Item, StructItem, GlobalItem, PrototypeItem, FunctionItem, own_variables, address_at, type_at}
use Rattle.clight_source.specs.declared.tree.SignedNumber.{SignedNumber}
use Rattle.clight_values.specs.Globals.{numbers_of}
use Rattle.clight_meaning.specs.Meaning.{argument_list, variable_type}
use Rattle.clight_programs.specs.Numbers.{as_number, shift_for}
use Rattle.clight_programs.specs.Scopes.{IsShortScalar, IsAtHome, IsVariable, scalar_types, function_scalars}
use Rattle.clight_programs.specs.Expressions.{IsTyped, IsTypedCond}
use Rattle.clight_programs.specs.Statements.{Paths, AssignmentFits, AssignmentFitsIfAny, AllTyped, TargetFitsIfAny, CallFits, CondFitsIfAny, ValueFitsIfAny, StmtFits, StmtsFit}
use Rattle.clight_programs.specs.Programs.{InitialiserFits, InitialisersFit, FunctionFits, IsChecked}
use Rattle.clight_programs.specs.Labels.{labels_of}
use Rattle.clight_programs.specs.Formed.{IsKnownCaller, ReturnFits, IsFormed, AreFormed}
use Rattle.flat_memory.specs.HeldTypes.{held_of}
use Rattle.cminor_gen.specs.Translation.Operators.{read_at, cast_to, constant_of, with_constant, with_offset, offset_by, shifted, step_over, step, Operand, pointer_sum, sum, operation}
use Rattle.cminor_gen.specs.Translation.Expressions as x
use Rattle.cminor_gen.specs.Translation.Statements as s
use Rattle.cminor_gen.specs.Translation.Programs.{translated}
use Rattle.flat_memory.proofs.Blocks.{rising_ends}
use Rattle.cminor_gen.specs.Translation.Start.{first_bits, bytes_from, integers_from, integers_if_any, global_bytes, item_bytes, items_bytes, is_initialised}
use Rattle.cminor_gen.proofs.Kept.{same_function}
use Rattle.cminor_gen.proofs.Parameters.{parameters_few}
use Rattle.cminor_gen.proofs.Entry.{placed, placed_rise}
use Rattle.cminor_gen.proofs.Starts.{AllIn, global_placed_start}
use Rattle.cminor_gen.proofs.Runs.{get_map, few_parameters}
use Rattle.cminor_gen.proofs.Scalars.{held_is, length_held}

-- what is no return fits every result
abbrev IsNoReturn : CmStmt → Type 0
IsNoReturn (cm.Return e) = ⊥
IsNoReturn a = Unit {0}

no_return : (r : Option Held) (a : CmStmt) → IsNoReturn a → ReturnsAs r a
no_return None (cm.Seq ss) is = tt
no_return None (cm.Set i e) is = tt
no_return None (cm.Store hd a e) is = tt
no_return None (cm.ReadPort i) is = tt
no_return None (cm.WritePort e) is = tt
no_return None (cm.Call t g es l) is = tt
no_return None (cm.If c l a m b) is = tt
no_return None (cm.Loop c l a b m) is = tt
no_return None (cm.Do a c l m) is = tt
no_return None cm.Break is = tt
no_return None cm.Continue is = tt
no_return None (cm.Return e) is = absurd is
no_return (Some k) (cm.Seq ss) is = tt
no_return (Some k) (cm.Set i e) is = tt
no_return (Some k) (cm.Store hd a e) is = tt
no_return (Some k) (cm.ReadPort i) is = tt
no_return (Some k) (cm.WritePort e) is = tt
no_return (Some k) (cm.Call t g es l) is = tt
no_return (Some k) (cm.If c l a m b) is = tt
no_return (Some k) (cm.Loop c l a b m) is = tt
no_return (Some k) (cm.Do a c l m) is = tt
no_return (Some k) cm.Break is = tt
no_return (Some k) cm.Continue is = tt
no_return (Some k) (cm.Return e) is = absurd is

-- ---- names in operators

module _ (n : ℕ) where
  read_names : (T : CType) (e : CmExpr) → NamesBelow n e → NamesBelow n (read_at T e)
  read_names T e names = by (is_scalar T)
    where
      by : (t : Bool) → NamesBelow n (if t then cm.Load (held_of T) e else e)
      by true = names
      by false = names

  cast_names : (T : CType) (e : CmExpr) → NamesBelow n e → NamesBelow n (cast_to T e)
  cast_names (Integer One true) e names = names
  cast_names (Integer One false) e names = names
  cast_names (Integer Two g) e names = names
  cast_names (Integer Four g) e names = names
  cast_names Void e names = names
  cast_names (Pointer T) e names = names
  cast_names (Array T i) e names = names
  cast_names (Struct i) e names = names

  offset_names : (k : Option ℕ) (e : CmExpr) (offset : ℕ) → NamesBelow n e → NamesBelow n (with_constant k e offset)
  offset_names (Some number) e offset names = tt
  offset_names None e offset names = by (nat_eq offset 0)
    where
      by : (t : Bool) → NamesBelow n (if t then e else cm.Bin Add e (cm.Const offset))
      by true = names
      by false = (names, tt)

  shifted_names : (i : ℕ) (e : CmExpr) → NamesBelow n e → NamesBelow n (shifted i e)
  shifted_names i e names = by (nat_eq i 0)
    where
      by : (t : Bool) → NamesBelow n (if t then e else cm.Shl i e)
      by true = names
      by false = names

  step_over_names : (k : Option ℕ) (size : ℕ) (back : Bool) (a e : CmExpr) → NamesBelow n a → NamesBelow n e → NamesBelow n (step_over k size back a e)
  step_over_names (Some i) size false a e na ne = (na, shifted_names i e ne)
  step_over_names (Some i) size true a e na ne = (na, shifted_names i e ne)
  step_over_names None size false a e na ne = ((ne, tt), na)
  step_over_names None size true a e na ne = ((ne, tt), na)

  step_names : (k : Option ℕ) (size : ℕ) (back : Bool) (a e : CmExpr) → NamesBelow n a → NamesBelow n e → NamesBelow n (step k size back a e)
  step_names (Some number) size back a e na ne = offset_names (constant_of a) a (offset_by back (number * size)) na
  step_names None size back a e na ne = step_over_names (shift_for size) size back a e na ne

  pointer_names : (I : Option IntegerType) (size : ℕ) (back : Bool) (l r : Operand) (a e : CmExpr) → NamesBelow n a → NamesBelow n e → NamesBelow n (pointer_sum I size back l r a e)
  pointer_names (Some I) size back l r a e na ne = step_names l.number size back e a ne na
  pointer_names None size back l r a e na ne = step_names r.number size back a e na ne

  sum_names : (size : Option ℕ) (back : Bool) (l r : Operand) (a e : CmExpr) → NamesBelow n a → NamesBelow n e → NamesBelow n (sum size back l r a e)
  sum_names None false l r a e na ne = (na, ne)
  sum_names None true l r a e na ne = (na, ne)
  sum_names (Some size) back l r a e na ne = pointer_names l.integer size back l r a e na ne

  operation_names : (size : Option ℕ) (op : BinaryOperator) (l r : Operand) (a e : CmExpr) → NamesBelow n a → NamesBelow n e → NamesBelow n (operation size op l r a e)
  operation_names size o.Add l r a e na ne = sum_names size false l r a e na ne
  operation_names size o.Subtract l r a e na ne = sum_names size true l r a e na ne
  operation_names size o.Multiply l r a e na ne = (na, ne)
  operation_names size o.Divide l r a e na ne = (na, ne)
  operation_names size o.Remainder l r a e na ne = (na, ne)
  operation_names size o.BitAnd l r a e na ne = (na, ne)
  operation_names size o.BitOr l r a e na ne = (na, ne)
  operation_names size o.BitXor l r a e na ne = (na, ne)
  operation_names size o.ShiftLeft l r a e na ne = na
  operation_names size o.ShiftRight l r a e na ne = na
  operation_names size o.Equal l r a e na ne = (na, ne)
  operation_names size o.NotEqual l r a e na ne = (na, ne)
  operation_names size o.Less l r a e na ne = (na, ne)
  operation_names size o.Greater l r a e na ne = (ne, na)
  operation_names size o.LessOrEqual l r a e na ne = (na, ne)
  operation_names size o.GreaterOrEqual l r a e na ne = (ne, na)
  operation_names size o.LogicalAnd l r a e na ne = na
  operation_names size o.LogicalOr l r a e na ne = na

module _ (p : TypedProgram Label) (paths : Paths) (functions : (h : ℕ) (f : Function Label) → slice_get p.functions h ≡ Some f → FunctionFits p paths h f) (h : ℕ) (f : Function Label) (f_is : slice_get p.functions h ≡ Some f) where
  abbrev F : CmFunction
  F = s.function p f

  abbrev n : ℕ
  n = length (s.held_scalars (own_variables f p.variables))

  scalar_below : (i : ℕ) (T : CType) → slice_get (function_scalars p f) i ≡ Some T → i < n
  scalar_below i T is =
      let lt = slice_get_within (function_scalars p f) i T is in
      let a = ap length (held_is (own_variables f p.variables)) in
      let b = length_held (function_scalars p f) in
      omega arith

  home_names : (q : Home) (T U : CType) (a b : ℕ) → IsAtHome p f q T a → NamesBelow n (x.variable_value (x.scalar_of q) U b)
  home_names (home.Global i) T U a b at = read_names n U (cm.Const b) tt
  home_names (home.Block i) T U a b at = read_names n U (cm.Const b) tt
  home_names (home.Scalar i) T U a b at = scalar_below i T at

  home_target : (q : Home) (T : CType) (a : ℕ) → IsAtHome p f q T a → TargetBelow n (x.scalar_of q)
  home_target (home.Global b) T a at = tt
  home_target (home.Block b) T a at = tt
  home_target (home.Scalar i) T a at = scalar_below i T at

  variable_names : (i : ℕ) (T U : CType) → IsVariable p f i T → NamesBelow n (x.variable_value (x.scalar_in (slice_get p.variables i)) U (address_at p i))
  variable_names i T U ty =
      subst (λ z. NamesBelow n (x.variable_value (x.scalar_in z) U (address_at p i))) (sym ty.is)
      (home_names ty.variable.home ty.variable.type U ty.variable.address (address_at p i) ty.home)

  variable_target : (i : ℕ) (T : CType) → IsVariable p f i T → TargetBelow n (x.scalar_in (slice_get p.variables i))
  variable_target i T ty = subst (λ z. TargetBelow n (x.scalar_in z)) (sym ty.is) (home_target ty.variable.home ty.variable.type ty.variable.address ty.home)

  mutual
    place_names : (e : Expr) → IsTyped p f e → NamesBelow n (x.place p e)
    place_names (Variable T i name) ty = tt
    place_names (Number T number span) ty = tt
    place_names (Parenthesis T lf e rt) ty = place_names e ty.1
    place_names (Binary T l op at r) ty = tt
    place_names (Prefix T Negate at e) ty = tt
    place_names (Prefix T Complement at e) ty = tt
    place_names (Prefix T Dereference at e) ty = value_names e ty.0
    place_names (Prefix T AddressOf at e) ty = tt
    place_names (Prefix T NotPrefix at e) ty = tt
    place_names (Cast T lf words rt e) ty = tt
    place_names (Index T base lf index rt) ty = step_names n (as_number index) (size_of p.structs T) false (x.value p base) (x.value p index) (value_names base ty.0) (value_names index ty.1)
    place_names (Select T e Dot at name offset) ty = offset_names n (constant_of (x.place p e)) (x.place p e) (offset % 65536) (place_names e ty)
    place_names (Select T e Arrow at name offset) ty = offset_names n (constant_of (x.value p e)) (x.value p e) (offset % 65536) (value_names e ty.0)

    value_names : (e : Expr) → IsTyped p f e → NamesBelow n (x.value p e)
    value_names (Variable T i name) ty = variable_names i T T ty
    value_names (Number T number span) ty = tt
    value_names (Parenthesis T lf e rt) ty = value_names e ty.1
    value_names (Binary T l op at r) ty = operation_names n (x.step_size p.structs T) op (x.operand_of l) (x.operand_of r) (x.value p l) (x.value p r) (value_names l ty.0) (value_names r ty.1)
    value_names (Prefix T Negate at e) ty = value_names e ty.0
    value_names (Prefix T Complement at e) ty = value_names e ty.0
    value_names (Prefix T Dereference at e) ty = read_names n T (x.value p e) (value_names e ty.0)
    value_names (Prefix T AddressOf at e) ty = place_names e ty.0
    value_names (Prefix T NotPrefix at e) ty = absurd ty
    value_names (Cast T lf words rt e) ty = cast_names n T (x.value p e) (value_names e ty.0)
    value_names (Index T base lf index rt) ty =
        read_names n T (step (as_number index) (size_of p.structs T) false (x.value p base) (x.value p index))
        (step_names n (as_number index) (size_of p.structs T) false (x.value p base) (x.value p index) (value_names base ty.0) (value_names index ty.1))
    value_names (Select T e Dot at name offset) ty = read_names n T (with_offset (x.place p e) (offset % 65536)) (offset_names n (constant_of (x.place p e)) (x.place p e) (offset % 65536) (place_names e ty))
    value_names (Select T e Arrow at name offset) ty = read_names n T (with_offset (x.value p e) (offset % 65536)) (offset_names n (constant_of (x.value p e)) (x.value p e) (offset % 65536) (value_names e ty.0))

  all_names : (es : List Expr) → AllTyped p f es → AllNameBelow n (x.values p es)
  all_names [] ty = tt
  all_names (e ∷ es) ty = (value_names e ty.0, all_names es ty.1)

  cond_names : (c : Cond Label) → IsTypedCond p f c → CondNamesBelow n (x.condition p c)
  cond_names (Truth e) ty = value_names e ty
  cond_names (InParentheses lf c rt) ty = cond_names c ty
  cond_names (Not at c) ty = cond_names c ty
  cond_names (Both l at t e r) ty = (cond_names l ty.0, cond_names r ty.1)
  cond_names (Either l at t e r) ty = (cond_names l ty.0, cond_names r ty.1)

  -- ---- what holds of each statement of a function

  pub record Fits (a : CmStmt) : Type 0 where
    pub names : StmtNamesBelow n a
    pub calls : CallsBelow (length (translated p).functions) a
    pub returns : ReturnsAs F.result a
    pub call : CmCallFits (translated p) a

  -- what is no call and no return
  plain : (a : CmStmt) → IsNoReturn a → StmtNamesBelow n a → CallsBelow (length (translated p).functions) a → CmCallFits (translated p) a → Fits a
  plain a is names calls call = record { names = names; calls = calls; returns = no_return F.result a is; call = call }

  nothing_fits : OfStmts Fits s.nothing
  nothing_fits = (plain s.nothing tt tt tt tt, tt)

  set_fits : (i : Option ℕ) (hd : Held) (a e : CmExpr) → TargetBelow n i → NamesBelow n a → NamesBelow n e → OfStmts Fits (s.set_or_store i hd a e)
  set_fits (Some i) hd a e below na ne = plain (cm.Set i e) tt (below, ne) tt tt
  set_fits None hd a e below na ne = plain (cm.Store hd a e) tt (na, ne) tt tt

  scalar_target : (a : Expr) → IsTyped p f a → TargetBelow n (x.scalar_at p a)
  scalar_target (Variable T i name) ty = variable_target i T ty
  scalar_target (Number T number span) ty = tt
  scalar_target (Parenthesis T lf e rt) ty = scalar_target e ty.1
  scalar_target (Binary T l op at r) ty = tt
  scalar_target (Prefix T op at e) ty = tt
  scalar_target (Cast T lf words rt e) ty = tt
  scalar_target (Index T base lf index rt) ty = tt
  scalar_target (Select T e op at name offset) ty = tt

  assignment_fits : (a : Assignment) → AssignmentFits p f a → OfStmts Fits (s.assignment p a)
  assignment_fits a fit = set_fits (x.scalar_at p a.target) _ (x.place p a.target) (x.value p a.value) (scalar_target a.target fit.0) (place_names a.target fit.0) (value_names a.value fit.1)

  assignment_if_any_fits : (a : Option Assignment) → AssignmentFitsIfAny p f a → OfStmts Fits (s.assignment_if_any p a)
  assignment_if_any_fits None fit = nothing_fits
  assignment_if_any_fits (Some a) fit = assignment_fits a fit

  port_fits : (i : Option ℕ) → TargetBelow n i → OfStmts Fits (s.read_port i)
  port_fits None below = nothing_fits
  port_fits (Some i) below = plain (cm.ReadPort i) tt below tt tt

  target_below : (g : Function Label) (t : _) → TargetFitsIfAny p f g t → TargetBelow n (s.target_of p t)
  target_below g None fit = tt
  target_below g (Some t) fit = variable_target t.variable fit.type fit.variable

  result_some : (T : CType) → IsShortScalar T → (i : Option ℕ) → CmTargetFits (s.result_of T) i
  result_some Void short i = absurd short
  result_some (Integer One g) short i = tt
  result_some (Integer Two g) short i = tt
  result_some (Integer Four g) short i = absurd short
  result_some (Pointer T) short i = tt
  result_some (Array T k) short i = absurd short
  result_some (Struct k) short i = absurd short

  no_target_fits : (r : Option Held) → CmTargetFits r None
  no_target_fits None = tt
  no_target_fits (Some hd) = tt

  target_fits : (g : Function Label) (t : _) → TargetFitsIfAny p f g t → CmTargetFits (s.result_of g.result) (s.target_of p t)
  target_fits g None fit = no_target_fits (s.result_of g.result)
  target_fits g (Some t) fit = result_some g.result fit.result (x.scalar_in (slice_get p.variables t.variable))

  call_fits : (c : Call) (back : Label) → CallFits p paths h f c → OfStmts Fits (s.call p c back)
  call_fits c back fit =
      let here = get_map (s.function p) p.functions c.function fit.callee fit.is in
      let many = length-map (argument_list c.arguments) (x.value p) in
      record {
        names = (target_below fit.callee c.target fit.target, all_names (argument_list c.arguments) fit.typed);
        calls = slice_get_within (translated p).functions c.function (s.function p fit.callee) here;
        returns = no_return F.result (s.call p c back) tt;
        call = λ callee is.
            let same = same_Some _ _ (sym here ∙ is) in
            subst (λ (g : CmFunction). (length (x.values p (argument_list c.arguments)) ≡ g.params) × CmTargetFits g.result (s.target_of p c.target)) same (many ∙ fit.many, target_fits fit.callee c.target fit.target);
      }

  cond_if_any_names : (c : Option (Cond Label)) → CondFitsIfAny p f c → CondNamesBelowIfAny n (option_map (x.condition p) c)
  cond_if_any_names None ty = tt
  cond_if_any_names (Some c) ty = cond_names c ty

  some_result : (T : CType) → IsShortScalar T → (e : CmExpr) → ReturnsAs (s.result_of T) (cm.Return (Some e))
  some_result Void short e = absurd short
  some_result (Integer One g) short e = tt
  some_result (Integer Two g) short e = tt
  some_result (Integer Four g) short e = absurd short
  some_result (Pointer T) short e = tt
  some_result (Array T k) short e = absurd short
  some_result (Struct k) short e = absurd short

  return_fits : (e : Option Expr) → ValueFitsIfAny p f e → ReturnFits f.result e → OfStmts Fits (cm.Return (option_map (x.value p) e))
  return_fits None ty form = record { names = tt; calls = tt; returns = subst (λ T. ReturnsAs (s.result_of T) (cm.Return None)) (sym form) tt; call = tt }
  return_fits (Some e) ty form = record { names = value_names e ty; calls = tt; returns = some_result f.result form (x.value p e); call = tt }

  mutual
    stmt_fits : (in_loop : Bool) (a : Stmt Label) → StmtFits p paths h f a → IsFormed p.calls h f.result in_loop a → OfStmts Fits (s.statement p a)
    stmt_fits t (Empty semicolon) fit form = nothing_fits
    stmt_fits t (Block lf body rt) fit form = (plain (s.statement p (Block lf body rt)) tt tt tt tt, stmts_fit t body cm.NoStmts tt fit form)
    stmt_fits t (Assign a semicolon) fit form = assignment_fits a fit
    stmt_fits t (ReadPort target equals port semicolon) fit form = port_fits (x.scalar_at p target) (scalar_target target fit.0)
    stmt_fits t (WritePort port equals e semicolon) fit form = plain (cm.WritePort (x.value p e)) tt (value_names e fit) tt tt
    stmt_fits t (CallOf c semicolon back) fit form = call_fits c back fit
    stmt_fits t (If tst one arm other) fit form = (plain (s.statement p (If tst one arm other)) tt (cond_names tst.condition fit.0) tt tt, stmt_fits t arm fit.1 form, nothing_fits)
    stmt_fits t (IfElse tst one arm keyword other otherwise) fit form =
        (plain (s.statement p (IfElse tst one arm keyword other otherwise)) tt (cond_names tst.condition fit.0) tt tt, stmt_fits t arm fit.1 form.0, stmt_fits t otherwise fit.2 form.1)
    stmt_fits t (While tst turn body after) fit form = (plain (s.statement p (While tst turn body after)) tt (cond_names tst.condition fit.0) tt tt, stmt_fits true body fit.1 form, nothing_fits)
    stmt_fits t (Do keyword body tst back semicolon after) fit form = (plain (s.statement p (Do keyword body tst back semicolon after)) tt (cond_names tst.condition fit.1) tt tt, stmt_fits true body fit.0 form)
    stmt_fits t (For head turn body after) fit form = (
      plain (s.statement p (For head turn body after)) tt tt tt tt,
      (
        (tt, assignment_if_any_fits head.first fit.0),
        (plain (cm.Loop (option_map (x.condition p) head.condition) turn (s.statement p body) (s.assignment_if_any p head.step) after) tt (cond_if_any_names head.condition fit.1) tt tt, stmt_fits true body fit.3 form, assignment_if_any_fits head.step fit.2),
      ),
    )
    stmt_fits t (Break keyword semicolon) fit form = plain cm.Break tt tt tt tt
    stmt_fits t (Continue keyword semicolon) fit form = plain cm.Continue tt tt tt tt
    stmt_fits t (Return keyword e semicolon) fit form = return_fits e fit form

    stmts_fit : (in_loop : Bool) (ss : Stmts Label) (earlier : CmStmts) → OfAll Fits earlier → StmtsFit p paths h f ss → AreFormed p.calls h f.result in_loop ss → OfAll Fits (s.statements_after p ss earlier)
    stmts_fit t NoStmts earlier before fit form = before
    stmts_fit t (Then ss a) earlier before fit form = (stmts_fit t ss earlier before fit.0 form.0, stmt_fits t a fit.1 form.1)

  -- ---- the prologue

  home_fits : (q : Home) (T : CType) (a i : ℕ) (earlier : CmStmts) → i < n → OfAll Fits earlier → OfAll Fits (s.home_after q T a i earlier)
  home_fits (home.Global b) T a i earlier below before = before
  home_fits (home.Block b) T a i earlier below before = (before, plain (cm.Store (held_of T) (cm.Const a) (cm.Var i)) tt (tt, below) tt tt)
  home_fits (home.Scalar b) T a i earlier below before = before

  homes_fit : (ys : List Variable') (i : ℕ) (earlier : CmStmts) → i + length (scalar_types ys) ≤ n → OfAll Fits earlier → OfAll Fits (s.homes_after ys i earlier)
  homes_fit [] i earlier few before = before
  homes_fit (y ∷ ys) i earlier few before = by (is_scalar y.type) few (homes_fit ys)
    where
      by : (t : Bool) → i + length (if t then y.type ∷ scalar_types ys else scalar_types ys) ≤ n → ((i : ℕ) (earlier : CmStmts) → i + length (scalar_types ys) ≤ n → OfAll Fits earlier → OfAll Fits (s.homes_after ys i earlier))
          → OfAll Fits (if t then s.homes_after ys (suc i) (s.home_after y.home y.type y.address i earlier) else s.homes_after ys i earlier)
      by true few ih = ih (suc i) (s.home_after y.home y.type y.address i earlier) (omega arith) (home_fits y.home y.type y.address i earlier (omega arith) before)
      by false few ih = ih i earlier few before

  initialiser_fits : (v : LocalInitialiser) (i : ℕ) (earlier : CmStmts) → InitialiserFits p f i v → OfAll Fits earlier → OfAll Fits (s.initialiser_after p i v earlier)
  initialiser_fits NoValue i earlier fit before = before
  initialiser_fits (Value equals e) i earlier fit before = (before, set_fits (x.scalar_in (slice_get p.variables i)) (s.variable_held p i) (cm.Const (address_at p i)) (x.value p e) (variable_target i _ fit.1) tt (value_names e fit.0))

  initialisers_fit : (ls : List Local) (i : ℕ) (earlier : CmStmts) → InitialisersFit p f ls i → OfAll Fits earlier → OfAll Fits (s.initialisers_after p ls i earlier)
  initialisers_fit [] i earlier fit before = before
  initialisers_fit (l ∷ ls) i earlier fit before = initialisers_fit ls (suc i) (s.initialiser_after p i l.initialiser earlier) fit.1 (initialiser_fits l.initialiser i earlier fit.0 before)

  body_fits : AreFormed p.calls h f.result false f.body → OfStmts Fits F.body
  body_fits form =
      let fit = functions h f f_is in
      let own = own_variables f p.variables in
      let a = ap length (held_is own) in
      let b = length_held (function_scalars p f) in (
        plain F.body tt tt tt tt,
        stmts_fit false f.body (s.prologue p f)
            (initialisers_fit f.locals (f.first_variable + f.parameters) (s.homes_after own 0 cm.NoStmts) fit.initialisers (homes_fit own 0 cm.NoStmts (omega arith) tt)) fit.body form,
      )

-- ---- what holds of all statements, by parts

mutual
  map_stmt : (P Q : CmStmt → Type 0) → ((a : CmStmt) → P a → Q a) → (a : CmStmt) → OfStmts P a → OfStmts Q a
  map_stmt P Q f (cm.Seq ss) h = (f (cm.Seq ss) h.0, map_stmts P Q f ss h.1)
  map_stmt P Q f (cm.Set i e) h = f (cm.Set i e) h
  map_stmt P Q f (cm.Store hd a e) h = f (cm.Store hd a e) h
  map_stmt P Q f (cm.ReadPort i) h = f (cm.ReadPort i) h
  map_stmt P Q f (cm.WritePort e) h = f (cm.WritePort e) h
  map_stmt P Q f (cm.Call t g es l) h = f (cm.Call t g es l) h
  map_stmt P Q f (cm.If c l a m b) h = (f (cm.If c l a m b) h.0, map_stmt P Q f a h.1, map_stmt P Q f b h.2)
  map_stmt P Q f (cm.Loop c l a b m) h = (f (cm.Loop c l a b m) h.0, map_stmt P Q f a h.1, map_stmt P Q f b h.2)
  map_stmt P Q f (cm.Do a c l m) h = (f (cm.Do a c l m) h.0, map_stmt P Q f a h.1)
  map_stmt P Q f cm.Break h = f cm.Break h
  map_stmt P Q f cm.Continue h = f cm.Continue h
  map_stmt P Q f (cm.Return e) h = f (cm.Return e) h

  map_stmts : (P Q : CmStmt → Type 0) → ((a : CmStmt) → P a → Q a) → (ss : CmStmts) → OfAll P ss → OfAll Q ss
  map_stmts P Q f cm.NoStmts h = tt
  map_stmts P Q f (cm.Then ss a) h = (map_stmts P Q f ss h.0, map_stmt P Q f a h.1)

-- ---- jumps, callers

abbrev place_of : Bool → Place
place_of true = Body
place_of false = NoLoop

module _ (p : TypedProgram Label) (h : ℕ) (T : CType) where
  in_body : (t : Bool) → body_of (place_of t) ≡ Body
  in_body true = refl
  in_body false = refl

  set_jumps : (at : Place) (i : Option ℕ) (hd : Held) (a e : CmExpr) → JumpsLeaveLoops at (s.set_or_store i hd a e)
  set_jumps at (Some i) hd a e = tt
  set_jumps at None hd a e = tt

  assignment_jumps : (at : Place) (a : Option Assignment) → JumpsLeaveLoops at (s.assignment_if_any p a)
  assignment_jumps at None = tt
  assignment_jumps at (Some a) = set_jumps at (x.scalar_at p a.target) _ _ _

  port_jumps : (at : Place) (i : Option ℕ) → JumpsLeaveLoops at (s.read_port i)
  port_jumps at None = tt
  port_jumps at (Some i) = tt

  mutual
    stmt_jumps : (t : Bool) (a : Stmt Label) → IsFormed p.calls h T t a → JumpsLeaveLoops (place_of t) (s.statement p a)
    stmt_jumps t (Empty semicolon) form = tt
    stmt_jumps t (Block lf body rt) form = stmts_jump t body cm.NoStmts tt form
    stmt_jumps t (Assign a semicolon) form = set_jumps (place_of t) (x.scalar_at p a.target) _ _ _
    stmt_jumps t (ReadPort target equals port semicolon) form = port_jumps (place_of t) (x.scalar_at p target)
    stmt_jumps t (WritePort port equals e semicolon) form = tt
    stmt_jumps t (CallOf c semicolon back) form = tt
    stmt_jumps t (If tst one arm other) form = (stmt_jumps t arm form, tt)
    stmt_jumps t (IfElse tst one arm keyword other otherwise) form = (stmt_jumps t arm form.0, stmt_jumps t otherwise form.1)
    stmt_jumps t (While tst turn body after) form = (subst (λ at. JumpsLeaveLoops at (s.statement p body)) (sym (in_body t)) (stmt_jumps true body form), tt)
    stmt_jumps t (Do keyword body tst back semicolon after) form = subst (λ at. JumpsLeaveLoops at (s.statement p body)) (sym (in_body t)) (stmt_jumps true body form)
    stmt_jumps t (For head turn body after) form =
        ((tt, assignment_jumps (place_of t) head.first), (subst (λ at. JumpsLeaveLoops at (s.statement p body)) (sym (in_body t)) (stmt_jumps true body form), assignment_jumps InStep head.step))
    stmt_jumps true (Break keyword semicolon) form = tt
    stmt_jumps false (Break keyword semicolon) form = absurd cc
    stmt_jumps true (Continue keyword semicolon) form = tt
    stmt_jumps false (Continue keyword semicolon) form = absurd cc
    stmt_jumps t (Return keyword e semicolon) form = tt

    stmts_jump : (t : Bool) (ss : Stmts Label) (earlier : CmStmts) → AllLeaveLoops (place_of t) earlier → AreFormed p.calls h T t ss → AllLeaveLoops (place_of t) (s.statements_after p ss earlier)
    stmts_jump t NoStmts earlier before form = before
    stmts_jump t (Then ss a) earlier before form = (stmts_jump t ss earlier before form.0, stmt_jumps t a form.1)

  home_jumps : (q : Home) (U : CType) (a i : ℕ) (earlier : CmStmts) → AllLeaveLoops NoLoop earlier → AllLeaveLoops NoLoop (s.home_after q U a i earlier)
  home_jumps (home.Global b) U a i earlier before = before
  home_jumps (home.Block b) U a i earlier before = (before, tt)
  home_jumps (home.Scalar b) U a i earlier before = before

  homes_jump : (ys : List Variable') (i : ℕ) (earlier : CmStmts) → AllLeaveLoops NoLoop earlier → AllLeaveLoops NoLoop (s.homes_after ys i earlier)
  homes_jump [] i earlier before = before
  homes_jump (y ∷ ys) i earlier before = by (is_scalar y.type) (homes_jump ys)
    where
      by : (t : Bool) → ((i : ℕ) (earlier : CmStmts) → AllLeaveLoops NoLoop earlier → AllLeaveLoops NoLoop (s.homes_after ys i earlier))
          → AllLeaveLoops NoLoop (if t then s.homes_after ys (suc i) (s.home_after y.home y.type y.address i earlier) else s.homes_after ys i earlier)
      by true ih = ih (suc i) (s.home_after y.home y.type y.address i earlier) (home_jumps y.home y.type y.address i earlier before)
      by false ih = ih i earlier before

  initialiser_jumps : (v : LocalInitialiser) (i : ℕ) (earlier : CmStmts) → AllLeaveLoops NoLoop earlier → AllLeaveLoops NoLoop (s.initialiser_after p i v earlier)
  initialiser_jumps NoValue i earlier before = before
  initialiser_jumps (Value equals e) i earlier before = (before, set_jumps NoLoop (x.scalar_in (slice_get p.variables i)) _ _ _)

  initialisers_jump : (ls : List Local) (i : ℕ) (earlier : CmStmts) → AllLeaveLoops NoLoop earlier → AllLeaveLoops NoLoop (s.initialisers_after p ls i earlier)
  initialisers_jump [] i earlier before = before
  initialisers_jump (l ∷ ls) i earlier before = initialisers_jump ls (suc i) (s.initialiser_after p i l.initialiser earlier) (initialiser_jumps l.initialiser i earlier before)

  pub body_jumps : (f : Function Label) → AreFormed p.calls h T false f.body → JumpsLeaveLoops NoLoop (s.function p f).body
  body_jumps f form = stmts_jump false f.body (s.prologue p f) (initialisers_jump f.locals (f.first_variable + f.parameters) (s.homes_after (own_variables f p.variables) 0 cm.NoStmts) (homes_jump (own_variables f p.variables) 0 cm.NoStmts tt)) form

  -- each function that is called knows its caller

  abbrev Known : ℕ → Type 0
  Known g = IsKnownCaller p.calls h g

  abbrev AllKnown : List ℕ → Type 0
  AllKnown gs = (g : ℕ) → Contains gs g → Known g

  call_known : (g : ℕ) (more : List ℕ) → Known g → AllKnown more → AllKnown (g ∷ more)
  call_known g more known rest k within = by within.0 within.1 within.2
    where
      by : (i : ℕ) → i < suc (length more) → slice_index_or (g ∷ more) i k ≡ k → Known k
      by zero lt is = subst Known is known
      by (suc i) lt is = rest k (i, omega arith, is)

  set_known : (i : Option ℕ) (hd : Held) (a e : CmExpr) (more : List ℕ) → AllKnown more → AllKnown (cm.stmt_callees (s.set_or_store i hd a e) more)
  set_known (Some i) hd a e more rest = rest
  set_known None hd a e more rest = rest

  assignment_known : (a : Option Assignment) (more : List ℕ) → AllKnown more → AllKnown (cm.stmt_callees (s.assignment_if_any p a) more)
  assignment_known None more rest = rest
  assignment_known (Some a) more rest = set_known (x.scalar_at p a.target) (held_of (type_at a.target)) (x.place p a.target) (x.value p a.value) more rest

  port_known : (i : Option ℕ) (more : List ℕ) → AllKnown more → AllKnown (cm.stmt_callees (s.read_port i) more)
  port_known None more rest = rest
  port_known (Some i) more rest = rest

  mutual
    stmt_known : (t : Bool) (a : Stmt Label) (more : List ℕ) → IsFormed p.calls h T t a → AllKnown more → AllKnown (cm.stmt_callees (s.statement p a) more)
    stmt_known t (Empty semicolon) more form rest = rest
    stmt_known t (Block lf body rt) more form rest = stmts_known t body cm.NoStmts more form (λ more rest. rest) rest
    stmt_known t (Assign a semicolon) more form rest = set_known (x.scalar_at p a.target) (held_of (type_at a.target)) (x.place p a.target) (x.value p a.value) more rest
    stmt_known t (ReadPort target equals port semicolon) more form rest = port_known (x.scalar_at p target) more rest
    stmt_known t (WritePort port equals e semicolon) more form rest = rest
    stmt_known t (CallOf c semicolon back) more form rest = call_known c.function more form rest
    stmt_known t (If tst one arm other) more form rest = stmt_known t arm more form rest
    stmt_known t (IfElse tst one arm keyword other otherwise) more form rest = stmt_known t arm (cm.stmt_callees (s.statement p otherwise) more) form.0 (stmt_known t otherwise more form.1 rest)
    stmt_known t (While tst turn body after) more form rest = stmt_known true body more form rest
    stmt_known t (Do keyword body tst back semicolon after) more form rest = stmt_known true body more form rest
    stmt_known t (For head turn body after) more form rest =
        assignment_known head.first (cm.stmt_callees (s.statement p body) (cm.stmt_callees (s.assignment_if_any p head.step) more)) (stmt_known true body (cm.stmt_callees (s.assignment_if_any p head.step) more) form (assignment_known head.step more rest))
    stmt_known t (Break keyword semicolon) more form rest = rest
    stmt_known t (Continue keyword semicolon) more form rest = rest
    stmt_known t (Return keyword e semicolon) more form rest = rest

    stmts_known : (t : Bool) (ss : Stmts Label) (earlier : CmStmts) (more : List ℕ) → AreFormed p.calls h T t ss → ((more : List ℕ) → AllKnown more → AllKnown (cm.stmts_callees earlier more)) → AllKnown more → AllKnown (cm.stmts_callees (s.statements_after p ss earlier) more)
    stmts_known t NoStmts earlier more form before rest = before more rest
    stmts_known t (Then ss a) earlier more form before rest = stmts_known t ss earlier (cm.stmt_callees (s.statement p a) more) form.0 before (stmt_known t a more form.1 rest)

  home_known : (q : Home) (U : CType) (a i : ℕ) (earlier : CmStmts) → ((more : List ℕ) → AllKnown more → AllKnown (cm.stmts_callees earlier more)) → (more : List ℕ) → AllKnown more → AllKnown (cm.stmts_callees (s.home_after q U a i earlier) more)
  home_known (home.Global b) U a i earlier before more rest = before more rest
  home_known (home.Block b) U a i earlier before more rest = before more rest
  home_known (home.Scalar b) U a i earlier before more rest = before more rest

  homes_known : (ys : List Variable') (i : ℕ) (earlier : CmStmts) → ((more : List ℕ) → AllKnown more → AllKnown (cm.stmts_callees earlier more)) → (more : List ℕ) → AllKnown more → AllKnown (cm.stmts_callees (s.homes_after ys i earlier) more)
  homes_known [] i earlier before more rest = before more rest
  homes_known (y ∷ ys) i earlier before more rest = by (is_scalar y.type) (homes_known ys)
    where
      by : (t : Bool) → ((i : ℕ) (earlier : CmStmts) → ((more : List ℕ) → AllKnown more → AllKnown (cm.stmts_callees earlier more)) → (more : List ℕ) → AllKnown more → AllKnown (cm.stmts_callees (s.homes_after ys i earlier) more))
          → AllKnown (cm.stmts_callees (if t then s.homes_after ys (suc i) (s.home_after y.home y.type y.address i earlier) else s.homes_after ys i earlier) more)
      by true ih = ih (suc i) (s.home_after y.home y.type y.address i earlier) (home_known y.home y.type y.address i earlier before) more rest
      by false ih = ih i earlier before more rest

  initialiser_known : (v : LocalInitialiser) (i : ℕ) (earlier : CmStmts) → ((more : List ℕ) → AllKnown more → AllKnown (cm.stmts_callees earlier more)) → (more : List ℕ) → AllKnown more → AllKnown (cm.stmts_callees (s.initialiser_after p i v earlier) more)
  initialiser_known NoValue i earlier before more rest = before more rest
  initialiser_known (Value equals e) i earlier before more rest = before _ (set_known (x.scalar_in (slice_get p.variables i)) (s.variable_held p i) (cm.Const (address_at p i)) (x.value p e) more rest)

  initialisers_known : (ls : List Local) (i : ℕ) (earlier : CmStmts) → ((more : List ℕ) → AllKnown more → AllKnown (cm.stmts_callees earlier more)) → (more : List ℕ) → AllKnown more → AllKnown (cm.stmts_callees (s.initialisers_after p ls i earlier) more)
  initialisers_known [] i earlier before more rest = before more rest
  initialisers_known (l ∷ ls) i earlier before more rest = initialisers_known ls (suc i) (s.initialiser_after p i l.initialiser earlier) (initialiser_known l.initialiser i earlier before) more rest

  none_known : AllKnown []
  none_known g within = let lt = within.1 in absurd (omega arith)

  pub body_known : (f : Function Label) → AreFormed p.calls h T false f.body → AllKnown (cm.callees_of (s.function p f))
  body_known f form =
      stmts_known false f.body (s.prologue p f) [] form
      (initialisers_known f.locals (f.first_variable + f.parameters) (s.homes_after (own_variables f p.variables) 0 cm.NoStmts) (homes_known (own_variables f p.variables) 0 cm.NoStmts (λ more rest. rest))) none_known

-- ---- bytes at the start

abbrev AllLow : List (ℕ × ℕ) → Type 0
AllLow [] = Unit {0}
AllLow (b ∷ bs) = (b.1 < 256) × AllLow bs

low_append : (xs ys : List (ℕ × ℕ)) → AllLow xs → AllLow ys → AllLow (xs ++ ys)
low_append [] ys a b = b
low_append (z ∷ zs) ys a b = (a.0, low_append zs ys a.1 b)

low_bytes : (k a m : ℕ) → AllLow (bytes_from k a m)
low_bytes zero a m = tt
low_bytes (suc k) a m = (low m, low_bytes k ((a + 1) % 65536) (m / 256))
  where
    low : (m : ℕ) → m % 256 < 256
    low m = omega arith

low_integers : (T : IntegerType) (ns : List SignedNumber) (k i a : ℕ) → AllLow (integers_from T ns k i a)
low_integers T ns zero i a = tt
low_integers T ns (suc k) i a = low_append (bytes_from (bytes T.size) a (first_bits T (slice_get ns i))) _ (low_bytes (bytes T.size) a (first_bits T (slice_get ns i))) (low_integers T ns k (i + 1) ((a + bytes T.size) % 65536))

low_if_any : (T : Option IntegerType) (ns : List SignedNumber) (k a : ℕ) → AllLow (integers_if_any T ns k a)
low_if_any None ns k a = tt
low_if_any (Some T) ns k a = low_integers T ns k 0 a

low_global : (T : CType) (ns : List SignedNumber) (a : ℕ) → AllLow (global_bytes T ns a)
low_global (Array element k) ns a = low_if_any (integer_type element) ns k a
low_global Void ns a = low_if_any (integer_type Void) ns 1 a
low_global (Integer sz g) ns a = low_if_any (integer_type (Integer sz g)) ns 1 a
low_global (Pointer T) ns a = low_if_any (integer_type (Pointer T)) ns 1 a
low_global (Struct i) ns a = low_if_any (integer_type (Struct i)) ns 1 a

low_items : (p : TypedProgram Label) (items : List Item) → AllLow (items_bytes p items)
low_items p [] = tt
low_items p (GlobalItem g i ∷ items) = low_append (item_bytes p (GlobalItem g i)) (items_bytes p items) (by (is_initialised g.initialiser)) (low_items p items)
  where
    by : (t : Bool) → AllLow (if t then global_bytes (variable_type p i) (numbers_of g.initialiser) (address_at p i) else [])
    by true = low_global (variable_type p i) (numbers_of g.initialiser) (address_at p i)
    by false = tt
low_items p (StructItem z ∷ items) = low_items p items
low_items p (PrototypeItem q ∷ items) = low_items p items
low_items p (FunctionItem f ∷ items) = low_items p items

are_bytes : (lo hi : ℕ) → hi ≤ 65536 → (xs : List (ℕ × ℕ)) → AllIn lo hi xs → AllLow xs → AreBytesAtAddresses xs
are_bytes lo hi le [] a b = tt
are_bytes lo hi le (z ∷ zs) a b = let a1 = a.1 in (omega arith, b.0, are_bytes lo hi le zs a.2 b.1)

-- ---- the program

all_labels : (p : TypedProgram Label) (fs : List (Function Label)) → cm.labels_of (map (s.function p) fs) ≡ labels_of fs
all_labels p [] = refl
all_labels p (f ∷ fs) = ap (λ l. f.label.0 ∷ cm.stmt_labels (s.body p f) l) (all_labels p fs) ∙ same_function p f (labels_of fs)

pub formed : (p : TypedProgram Label) → IsChecked p → AreNumbered (labels_of p.functions) → IsWellFormed (translated p)
formed p ok numbered =
    let many = length-map p.functions (s.function p) in
    let main_in = slice_get_within p.functions p.main ok.main ok.main_is in
    record {
      functions_exist = (omega arith, of_function (λ F. OfStmts (CallsBelow (length (translated p).functions)) F.body) (λ h f is. map_stmt (Fits p ok.paths ok.functions h f is) (CallsBelow (length (translated p).functions)) (λ a fit. fit.calls) (s.body p f) (fits h f is)));
      calls_are_known = record {
        functions = record { all = λ f lt. ok.formed.ordered f (omega arith); no_others = λ f within. let lt = ok.formed.no_others f within in omega arith };
        callers = λ i F is. by_function (λ k G. KnowsCallers p.calls k (cm.callees_of G)) i F is (λ h f is' callee within. body_known p h f.result f (ok.formed.functions h f is').body callee within);
      };
      main_is_plain = λ F is.
          let same = same_Some _ _ (sym (get_map (s.function p) p.functions p.main ok.main ok.main_is) ∙ is) in
          subst (λ (G : CmFunction). (G.params ≡ 0) × (G.result ≡ None)) same (ok.main_plain.0, ap s.result_of ok.main_plain.1);
      labels_are_numbered = subst AreNumbered (sym (all_labels p p.functions)) numbered;
      starts_with_bytes = are_bytes 1 (ok.paths.begin p.main) (omega (arith, main_low)) (items_bytes p p.items) (global_placed_start p p.items 1 (ok.paths.begin p.main) ok.globals ok.first_values main_low (λ a. 0) (λ b le. refl)).1 (low_items p p.items);
      functions = of_function (IsWellFormedFunction (translated p)) (λ h f is. record {
        variables_exist = (few_params h f is, map_stmt (Fits p ok.paths ok.functions h f is) (StmtNamesBelow (length (s.held_scalars (own_variables f p.variables)))) (λ a fit. fit.names) (s.body p f) (fits h f is));
        parameters_are_few = few_twelve h f is;
        jumps_are_in_loops = body_jumps p h f.result f (ok.formed.functions h f is).body;
        returns_fit = map_stmt (Fits p ok.paths ok.functions h f is) (ReturnsAs (s.result_of f.result)) (λ a fit. fit.returns) (s.body p f) (fits h f is);
        calls_fit = map_stmt (Fits p ok.paths ok.functions h f is) (CmCallFits (translated p)) (λ a fit. fit.call) (s.body p f) (fits h f is);
      });
    }
  where
    fits : (h : ℕ) (f : Function Label) (is : slice_get p.functions h ≡ Some f) → OfStmts (Fits p ok.paths ok.functions h f is) (s.function p f).body
    fits h f is = body_fits p ok.paths ok.functions h f is (ok.formed.functions h f is).body

    main_low : ok.paths.begin p.main < 65536
    main_low =
        let f = ok.functions p.main ok.main ok.main_is in
        let own = own_variables ok.main p.variables in
        let rise = rising_ends (ok.paths.begin p.main) (placed p.structs own) (ok.paths.end p.main) (placed_rise p.structs own (ok.paths.begin p.main) (ok.paths.end p.main) f.frame) in
        let ends = f.ends in
        let few = ok.few_bytes in
        omega arith

    get_back_map : (fs : List (Function Label)) (i : ℕ) (F : CmFunction) → slice_get (map (s.function p) fs) i ≡ Some F → (f : Function Label) × (slice_get fs i ≡ Some f) × (s.function p f ≡ F)
    get_back_map [] i F is = absurd (none-some F is)
    get_back_map (f ∷ fs) zero F is = (f, refl, same_Some _ _ is)
    get_back_map (f ∷ fs) (suc i) F is = get_back_map fs i F is

    by_function : (Holds : ℕ → CmFunction → Type 0) (i : ℕ) (F : CmFunction) → slice_get (map (s.function p) p.functions) i ≡ Some F → ((h : ℕ) (f : Function Label) → slice_get p.functions h ≡ Some f → Holds h (s.function p f)) → Holds i F
    by_function Holds i F is all = let back = get_back_map p.functions i F is in subst (Holds i) back.2 (all i back.0 back.1)

    of_function : (Holds : CmFunction → Type 0) → ((h : ℕ) (f : Function Label) → slice_get p.functions h ≡ Some f → Holds (s.function p f)) → OfFunctions (translated p) Holds
    of_function Holds all i F is = by_function (λ h G. Holds G) i F is all

    few_params : (h : ℕ) (f : Function Label) → slice_get p.functions h ≡ Some f → f.parameters ≤ length (s.held_scalars (own_variables f p.variables))
    few_params h f is =
        let a = ap length (held_is (own_variables f p.variables)) in
        let b = length_held (function_scalars p f) in
        let few = few_parameters p ok.paths p.data_bytes ok.functions f (ok.functions h f is).parameters f.parameters refl in
        omega arith

    few_twelve : (h : ℕ) (f : Function Label) → slice_get p.functions h ≡ Some f → all_held_bytes (take f.parameters (s.held_scalars (own_variables f p.variables))) ≤ 12
    few_twelve h f is =
        let limit = (ok.formed.functions h f is).few in
        let few = parameters_few p ok.paths h f (ok.functions h f is) in
        omega arith
