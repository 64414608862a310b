-- No function of the translation needs more bytes of registers than the source's bound.
use Rattle.std.proofs.lemmas.List.Sums.{sum_by-cons}
use Rattle.std.proofs.Common.{◌≡◌, ℕ, suc, ◌+◌, ◌*◌, ◌%◌, ◌≤◌, max, List, [], ◌∷◌, ◌++◌, map, Option, Some, None, Bool, true, false, refl, arith}
use Rattle.std.specs.Prelude.{slice_get, option_map, nat_eq, sum_by, if◌then◌else◌}
use Rattle.cerco_base.specs.declared.events.Label.{Label}
use Rattle.cerco_middle.specs.declared.operators.Held.{Held}
use Rattle.cerco_middle.specs.declared.operators.CmOp.TheVariants.{Add}
use Rattle.cerco_middle.specs.Operators.{held_bytes, all_held_bytes}
use Rattle.cerco_middle.specs.Cminor.Trees as cm
use Rattle.cerco_middle.specs.Cminor.Trees.{CmExpr, CmStmts, CmFunction, held_parameters}
use Rattle.cerco_middle.specs.Cminor.Sums.{expr_temporaries, temporaries_if_any, arguments_temporaries, taking_temporaries, cond_temporaries, cond_temporaries_if_any, stmt_temporaries, stmts_temporaries, end_temporaries, register_need, parameters_at, result_at}
use Rattle.c_types.specs.declared.integers.IntegerType.{IntegerType}
use Rattle.c_types.specs.declared.integers.Size.TheVariants.{One, Two, Four}
use Rattle.c_types.specs.Types.{CType, Void, Integer, Pointer, Array, Struct, StructType, size_of}
use Rattle.c_types.specs.Kinds.{is_scalar}
use Rattle.clight_source.specs.declared.tree.BinaryOperator.{BinaryOperator}
use Rattle.clight_source.specs.declared.tree.BinaryOperator.TheVariants as o
use Rattle.clight_source.specs.declared.tree.PrefixOperator.TheVariants.{Negate, Complement, Not as NotPrefix, Dereference, AddressOf}
use Rattle.clight_source.specs.declared.tree.MemberOperator.TheVariants.{Dot, Arrow}
use Rattle.clight_syntax.specs.declared.typed.Home.{Home}
use Rattle.clight_syntax.specs.declared.typed.Home.TheVariants as home
use Rattle.clight_syntax.specs.Bounds as b
use Rattle.clight_syntax.specs.TypedTrees.{Expr, Variable, Number, Parenthesis, Binary, Prefix, Cast, Index, Select, Cond, Truth, InParentheses, Not, Both, Either, Assignment, EarlierArgument, Arguments, NoArguments, Arguments', Call, Stmt, Empty, Block, Assign, ReadPort, WritePort, CallOf, If, IfElse, While, Do, For, Break, Continue, Return, Stmts, NoStmts, Then, LocalInitialiser, NoValue, Value, Local, Function, Variable', TypedProgram, own_variables, address_at}
use Rattle.clight_programs.specs.Numbers.{as_number, shift_for}
use Rattle.clight_meaning.specs.Meaning.{argument_list}
use Rattle.flat_memory.specs.HeldTypes.{held_of}
use Rattle.cminor_gen.specs.Translation.Operators.{read_at, cast_to, constant_of, with_constant, with_offset, offset_by, shifted, step_over, step, Operand, pointer_sum, sum, operation}
use Rattle.cminor_gen.specs.Translation.Expressions as x
use Rattle.cminor_gen.specs.Translation.Statements as s
use Rattle.cminor_gen.specs.Translation.Programs.{translated}
use Rattle.cminor_gen.specs.Promises.{NeedNoMore}
use Rattle.cminor_gen.proofs.Kept.{of_both}

-- ---- operators

read_few : (T : CType) (e : CmExpr) (k : ℕ) → expr_temporaries e ≤ k → expr_temporaries (read_at T e) ≤ k
read_few T e k few = by (is_scalar T)
  where
    by : (t : Bool) → expr_temporaries (if t then cm.Load (held_of T) e else e) ≤ k
    by true = few
    by false = few

cast_few : (T : CType) (e : CmExpr) (k : ℕ) → expr_temporaries e ≤ k → expr_temporaries (cast_to T e) ≤ k
cast_few (Integer One true) e k few = few
cast_few (Integer One false) e k few = few
cast_few (Integer Two g) e k few = few
cast_few (Integer Four g) e k few = few
cast_few Void e k few = few
cast_few (Pointer T) e k few = few
cast_few (Array T n) e k few = few
cast_few (Struct n) e k few = few

offset_few : (n : Option ℕ) (e : CmExpr) (offset k : ℕ) → expr_temporaries e ≤ k → 2 ≤ k → expr_temporaries (with_constant n e offset) ≤ k
offset_few (Some number) e offset k few two = omega arith
offset_few None e offset k few two = by (nat_eq offset 0)
  where
    by : (t : Bool) → expr_temporaries (if t then e else cm.Bin Add e (cm.Const offset)) ≤ k
    by true = few
    by false = omega arith

shifted_few : (i : ℕ) (e : CmExpr) (k : ℕ) → expr_temporaries e ≤ k → expr_temporaries (shifted i e) ≤ k
shifted_few i e k few = by (nat_eq i 0)
  where
    by : (t : Bool) → expr_temporaries (if t then e else cm.Shl i e) ≤ k
    by true = few
    by false = few

step_over_few : (n : Option ℕ) (size : ℕ) (back : Bool) (a e : CmExpr) (k : ℕ) → expr_temporaries a ≤ k → expr_temporaries e ≤ k → 1 ≤ k → expr_temporaries (step_over n size back a e) ≤ suc k
step_over_few (Some i) size false a e k fa fe some = let q = shifted_few i e k fe in omega arith
step_over_few (Some i) size true a e k fa fe some = let q = shifted_few i e k fe in omega arith
step_over_few None size false a e k fa fe some = omega arith
step_over_few None size true a e k fa fe some = omega arith

step_few : (n : Option ℕ) (size : ℕ) (back : Bool) (a e : CmExpr) (k : ℕ) → expr_temporaries a ≤ k → expr_temporaries e ≤ k → 1 ≤ k → expr_temporaries (step n size back a e) ≤ suc k
step_few (Some number) size back a e k fa fe some = offset_few (constant_of a) a (offset_by back (number * size)) (suc k) (omega arith) (omega arith)
step_few None size back a e k fa fe some = step_over_few (shift_for size) size back a e k fa fe some

pointer_few : (I : Option IntegerType) (size : ℕ) (back : Bool) (l r : Operand) (a e : CmExpr) (k : ℕ) → expr_temporaries a ≤ k → expr_temporaries e ≤ k → 1 ≤ k → expr_temporaries (pointer_sum I size back l r a e) ≤ suc k
pointer_few (Some I) size back l r a e k fa fe some = step_few l.number size back e a k fe fa some
pointer_few None size back l r a e k fa fe some = step_few r.number size back a e k fa fe some

sum_few : (size : Option ℕ) (back : Bool) (l r : Operand) (a e : CmExpr) (k : ℕ) → expr_temporaries a ≤ k → expr_temporaries e ≤ k → 1 ≤ k → expr_temporaries (sum size back l r a e) ≤ suc k
sum_few None false l r a e k fa fe some = omega arith
sum_few None true l r a e k fa fe some = omega arith
sum_few (Some size) back l r a e k fa fe some = pointer_few l.integer size back l r a e k fa fe some

operation_few : (size : Option ℕ) (op : BinaryOperator) (l r : Operand) (a e : CmExpr) (k : ℕ) → expr_temporaries a ≤ k → expr_temporaries e ≤ k → 1 ≤ k → expr_temporaries (operation size op l r a e) ≤ suc k
operation_few size o.Add l r a e k fa fe some = sum_few size false l r a e k fa fe some
operation_few size o.Subtract l r a e k fa fe some = sum_few size true l r a e k fa fe some
operation_few size o.Multiply l r a e k fa fe some = omega arith
operation_few size o.Divide l r a e k fa fe some = omega arith
operation_few size o.Remainder l r a e k fa fe some = omega arith
operation_few size o.BitAnd l r a e k fa fe some = omega arith
operation_few size o.BitOr l r a e k fa fe some = omega arith
operation_few size o.BitXor l r a e k fa fe some = omega arith
operation_few size o.ShiftLeft l r a e k fa fe some = omega arith
operation_few size o.ShiftRight l r a e k fa fe some = omega arith
operation_few size o.Equal l r a e k fa fe some = omega arith
operation_few size o.NotEqual l r a e k fa fe some = omega arith
operation_few size o.Less l r a e k fa fe some = omega arith
operation_few size o.Greater l r a e k fa fe some = omega arith
operation_few size o.LessOrEqual l r a e k fa fe some = omega arith
operation_few size o.GreaterOrEqual l r a e k fa fe some = omega arith
operation_few size o.LogicalAnd l r a e k fa fe some = omega arith
operation_few size o.LogicalOr l r a e k fa fe some = omega arith

-- ---- expressions

module _ (p : TypedProgram Label) where
  variable_few : (n : Option ℕ) (T : CType) (a : ℕ) → expr_temporaries (x.variable_value n T a) ≤ 1
  variable_few (Some n) T a = omega arith
  variable_few None T a = read_few T (cm.Const a) 1 (omega arith)

  mutual
    place_few : (e : Expr) → expr_temporaries (x.place p e) ≤ suc (b.depth e)
    place_few (Variable T n name) = omega arith
    place_few (Number T number span) = omega arith
    place_few (Parenthesis T lf e rt) = let q = place_few e in omega arith
    place_few (Binary T l op at r) = omega arith
    place_few (Prefix T Negate at e) = omega arith
    place_few (Prefix T Complement at e) = omega arith
    place_few (Prefix T Dereference at e) = let q = value_few e in omega arith
    place_few (Prefix T AddressOf at e) = omega arith
    place_few (Prefix T NotPrefix at e) = omega arith
    place_few (Cast T lf words rt e) = omega arith
    place_few (Index T base lf index rt) =
        let q = value_few base in
        let r = value_few index in
        let k = suc (max (b.depth base) (b.depth index)) in
        let few = step_few (as_number index) (size_of p.structs T) false (x.value p base) (x.value p index) k (omega arith) (omega arith) (omega arith) in
        omega arith
    place_few (Select T e Dot at name offset) = let q = place_few e in let few = offset_few (constant_of (x.place p e)) (x.place p e) (offset % 65536) (suc (suc (b.depth e))) (omega arith) (omega arith) in omega arith
    place_few (Select T e Arrow at name offset) = let q = value_few e in let few = offset_few (constant_of (x.value p e)) (x.value p e) (offset % 65536) (suc (suc (b.depth e))) (omega arith) (omega arith) in omega arith

    pub value_few : (e : Expr) → expr_temporaries (x.value p e) ≤ suc (b.depth e)
    value_few (Variable T n name) = variable_few (x.scalar_in (slice_get p.variables n)) T _
    value_few (Number T number span) = omega arith
    value_few (Parenthesis T lf e rt) = let q = value_few e in omega arith
    value_few (Binary T l op at r) =
        let i = value_few l in
        let j = value_few r in
        let few = operation_few (x.step_size p.structs T) op (x.operand_of l) (x.operand_of r) (x.value p l) (x.value p r) (suc (max (b.depth l) (b.depth r))) (omega arith) (omega arith) (omega arith) in
        omega arith
    value_few (Prefix T Negate at e) = let q = value_few e in omega arith
    value_few (Prefix T Complement at e) = let q = value_few e in omega arith
    value_few (Prefix T Dereference at e) = let q = value_few e in let few = read_few T (x.value p e) (suc (suc (b.depth e))) (omega arith) in omega arith
    value_few (Prefix T AddressOf at e) = let q = place_few e in omega arith
    value_few (Prefix T NotPrefix at e) = let q = value_few e in omega arith
    value_few (Cast T lf words rt e) = let q = value_few e in let few = cast_few T (x.value p e) (suc (suc (b.depth e))) (omega arith) in omega arith
    value_few (Index T base lf index rt) =
        let q = value_few base in
        let r = value_few index in
        let few = read_few T (step (as_number index) (size_of p.structs T) false (x.value p base) (x.value p index)) (suc (suc (max (b.depth base) (b.depth index))))
        (step_few (as_number index) (size_of p.structs T) false (x.value p base) (x.value p index) (suc (max (b.depth base) (b.depth index))) (omega arith) (omega arith) (omega arith)) in
        omega arith
    value_few (Select T e Dot at name offset) =
        let q = place_few e in
        let few = read_few T (with_offset (x.place p e) (offset % 65536)) (suc (suc (b.depth e))) (offset_few (constant_of (x.place p e)) (x.place p e) (offset % 65536) (suc (suc (b.depth e))) (omega arith) (omega arith)) in
        omega arith
    value_few (Select T e Arrow at name offset) =
        let q = value_few e in
        let few = read_few T (with_offset (x.value p e) (offset % 65536)) (suc (suc (b.depth e))) (offset_few (constant_of (x.value p e)) (x.value p e) (offset % 65536) (suc (suc (b.depth e))) (omega arith) (omega arith)) in
        omega arith

  value_if_any_few : (e : Option Expr) → temporaries_if_any (option_map (x.value p) e) ≤ suc (b.depth_of b.depth e)
  value_if_any_few None = omega arith
  value_if_any_few (Some e) = value_few e

  cond_few : (c : Cond Label) → cond_temporaries (x.condition p c) ≤ suc (b.cond_depth c)
  cond_few (Truth e) = value_few e
  cond_few (InParentheses lf c rt) = let q = cond_few c in omega arith
  cond_few (Not at c) = let q = cond_few c in omega arith
  cond_few (Both l at t f r) = let i = cond_few l in let j = cond_few r in omega arith
  cond_few (Either l at t f r) = let i = cond_few l in let j = cond_few r in omega arith

  cond_if_any_few : (c : Option (Cond Label)) → cond_temporaries_if_any (option_map (x.condition p) c) ≤ suc (b.depth_of b.cond_depth c)
  cond_if_any_few None = omega arith
  cond_if_any_few (Some c) = cond_few c

  -- ---- arguments

  abbrev AllDeep : ℕ → List Expr → Type 0
  AllDeep k [] = Unit {0}
  AllDeep k (e ∷ es) = (b.depth e ≤ k) × AllDeep k es

  arguments_few : (hs : List Held) (es : List Expr) (k : ℕ) → AllDeep k es → arguments_temporaries hs (x.values p es) ≤ suc k
  arguments_few [] es k deep = omega arith
  arguments_few (h ∷ hs) [] k deep = omega arith
  arguments_few (h ∷ hs) (e ∷ es) k deep =
      let i = value_few e in
      let j = deep.0 in
      let q = arguments_few hs es k deep.1 in
      omega arith

  list_deep : (earlier : List EarlierArgument) (last : Expr) (k : ℕ) → b.deepest (λ (a : EarlierArgument). b.depth a.value) earlier ≤ k → b.depth last ≤ k → AllDeep k (map (λ (a : EarlierArgument). a.value) earlier ++ last ∷ [])
  list_deep [] last k le le' = (le', tt)
  list_deep (a ∷ earlier) last k le le' = (omega arith, list_deep earlier last k (omega arith) le')

  taking_few : (r : Option Held) (t : Option ℕ) → taking_temporaries r t ≤ 1
  taking_few None t = omega arith
  taking_few (Some h) None = omega arith
  taking_few (Some h) (Some n) = omega arith

  -- ---- statements

  module _ (fs : List CmFunction) where
    set_few : (n : Option ℕ) (h : Held) (a e : CmExpr) (k : ℕ) → expr_temporaries a ≤ suc k → expr_temporaries e ≤ suc k → stmt_temporaries fs (s.set_or_store n h a e) ≤ 2 + k
    set_few (Some n) h a e k fa fe = omega arith
    set_few None h a e k fa fe = omega arith

    assignment_few : (a : Assignment) → stmt_temporaries fs (s.assignment p a) ≤ 2 + b.assignment_depth a
    assignment_few a =
        let i = place_few a.target in
        let j = value_few a.value in
        set_few (x.scalar_at p a.target) _ (x.place p a.target) (x.value p a.value) (b.assignment_depth a) (omega arith) (omega arith)

    assignment_if_any_few : (a : Option Assignment) → stmt_temporaries fs (s.assignment_if_any p a) ≤ 2 + b.depth_of b.assignment_depth a
    assignment_if_any_few None = omega arith
    assignment_if_any_few (Some a) = assignment_few a

    port_few : (n : Option ℕ) (k : ℕ) → stmt_temporaries fs (s.read_port n) ≤ 2 + k
    port_few None k = omega arith
    port_few (Some n) k = omega arith

    call_few : (c : Call) (back : Label) → stmt_temporaries fs (s.call p c back) ≤ 2 + b.arguments_depth c.arguments
    call_few c back =
        let i = by c.arguments in
        let j = taking_few (result_at (slice_get fs c.function)) (s.target_of p c.target) in
        omega arith
      where
        by : (given : Arguments) → arguments_temporaries (parameters_at (slice_get fs c.function)) (x.values p (argument_list given)) ≤ suc (b.arguments_depth given)
        by NoArguments = arguments_few (parameters_at (slice_get fs c.function)) [] 0 tt
        by (Arguments' earlier last) = arguments_few (parameters_at (slice_get fs c.function)) _ _ (list_deep earlier last (max (b.deepest (λ (a : EarlierArgument). b.depth a.value) earlier) (b.depth last)) (omega arith) (omega arith))

    mutual
      stmt_few : (a : Stmt Label) → stmt_temporaries fs (s.statement p a) ≤ 2 + b.stmt_depth a
      stmt_few (Empty semicolon) = omega arith
      stmt_few (Block lf body rt) = stmts_few body cm.NoStmts (2 + b.stmts_depth body) (omega arith) (omega arith)
      stmt_few (Assign a semicolon) = assignment_few a
      stmt_few (ReadPort target equals port semicolon) = port_few (x.scalar_at p target) (b.depth target)
      stmt_few (WritePort port equals e semicolon) = let i = value_few e in omega arith
      stmt_few (CallOf c semicolon back) = call_few c back
      stmt_few (If tst one arm other) = let i = cond_few tst.condition in let j = stmt_few arm in omega arith
      stmt_few (IfElse tst one arm keyword other otherwise) = let i = cond_few tst.condition in let j = stmt_few arm in let l = stmt_few otherwise in omega arith
      stmt_few (While tst turn body after) = let i = cond_few tst.condition in let j = stmt_few body in omega arith
      stmt_few (Do keyword body tst back semicolon after) = let i = cond_few tst.condition in let j = stmt_few body in omega arith
      stmt_few (For head turn body after) =
          let i = assignment_if_any_few head.first in
          let j = cond_if_any_few head.condition in
          let l = assignment_if_any_few head.step in
          let m = stmt_few body in
          omega arith
      stmt_few (Break keyword semicolon) = omega arith
      stmt_few (Continue keyword semicolon) = omega arith
      stmt_few (Return keyword e semicolon) = let i = value_if_any_few e in omega arith

      stmts_few : (ss : Stmts Label) (earlier : CmStmts) (k : ℕ) → stmts_temporaries fs earlier ≤ k → 2 + b.stmts_depth ss ≤ k → stmts_temporaries fs (s.statements_after p ss earlier) ≤ k
      stmts_few NoStmts earlier k before deep = before
      stmts_few (Then ss a) earlier k before deep =
          let i = stmt_few a in
          let j = stmts_few ss earlier k before (omega arith) in
          omega arith

    home_few : (q : Home) (T : CType) (a n : ℕ) (earlier : CmStmts) (k : ℕ) → 2 ≤ k → stmts_temporaries fs earlier ≤ k → stmts_temporaries fs (s.home_after q T a n earlier) ≤ k
    home_few (home.Global i) T a n earlier k two before = before
    home_few (home.Block i) T a n earlier k two before = omega arith
    home_few (home.Scalar i) T a n earlier k two before = before

    homes_few : (k : ℕ) → 2 ≤ k → (ys : List Variable') (n : ℕ) (earlier : CmStmts) → stmts_temporaries fs earlier ≤ k → stmts_temporaries fs (s.homes_after ys n earlier) ≤ k
    homes_few k two [] n earlier before = before
    homes_few k two (y ∷ ys) n earlier before = by (is_scalar y.type) (homes_few k two ys)
      where
        by : (t : Bool) → ((n : ℕ) (earlier : CmStmts) → stmts_temporaries fs earlier ≤ k → stmts_temporaries fs (s.homes_after ys n earlier) ≤ k)
            → stmts_temporaries fs (if t then s.homes_after ys (suc n) (s.home_after y.home y.type y.address n earlier) else s.homes_after ys n earlier) ≤ k
        by true ih = ih (suc n) (s.home_after y.home y.type y.address n earlier) (home_few y.home y.type y.address n earlier k two before)
        by false ih = ih n earlier before

    initialiser_few : (i : LocalInitialiser) (n : ℕ) (earlier : CmStmts) (k : ℕ) → 2 + b.initialiser_depth i ≤ k → stmts_temporaries fs earlier ≤ k → stmts_temporaries fs (s.initialiser_after p n i earlier) ≤ k
    initialiser_few NoValue n earlier k deep before = before
    initialiser_few (Value equals e) n earlier k deep before =
        let i = value_few e in
        let j = set_few (x.scalar_in (slice_get p.variables n)) (s.variable_held p n) (cm.Const (address_at p n)) (x.value p e) (b.depth e) (omega arith) (omega arith) in
        omega arith

    initialisers_few : (ls : List Local) (n : ℕ) (earlier : CmStmts) (k : ℕ) → 2 + b.deepest (λ (l : Local). b.initialiser_depth l.initialiser) ls ≤ k → stmts_temporaries fs earlier ≤ k → stmts_temporaries fs (s.initialisers_after p ls n earlier) ≤ k
    initialisers_few [] n earlier k deep before = before
    initialisers_few (l ∷ ls) n earlier k deep before = initialisers_few ls (suc n) (s.initialiser_after p n l.initialiser earlier) k (omega arith) (initialiser_few l.initialiser n earlier k (omega arith) before)

    body_few : (f : Function Label) → stmt_temporaries fs (s.body p f) ≤ 2 + b.function_depth f
    body_few f =
        let k = 2 + b.function_depth f in
        stmts_few f.body (s.prologue p f) k
        (initialisers_few f.locals (f.first_variable + f.parameters) (s.homes_after (own_variables f p.variables) 0 cm.NoStmts) k (omega arith) (homes_few k (omega arith) (own_variables f p.variables) 0 cm.NoStmts (omega arith)))
        (omega arith)

  -- ---- functions

  pub scalar_few : (structs : List StructType) (T : CType) → is_scalar T ≡ true → held_bytes (held_of T) ≤ size_of structs T
  scalar_few structs Void is = absurd cc
  scalar_few structs (Integer One true) is = omega arith
  scalar_few structs (Integer One false) is = omega arith
  scalar_few structs (Integer Two g) is = omega arith
  scalar_few structs (Integer Four g) is = omega arith
  scalar_few structs (Pointer T) is = omega arith
  scalar_few structs (Array T n) is = absurd cc
  scalar_few structs (Struct n) is = absurd cc

  scalars_few : (structs : List StructType) (ys : List Variable') → all_held_bytes (s.held_scalars ys) ≤ sum_by (b.scalar_bytes structs) ys
  scalars_few structs [] = omega arith
  scalars_few structs (y ∷ ys) =
      let more = sum_by-cons (b.scalar_bytes structs) y ys in
      let one = by (is_scalar y.type) refl in
      let ih = scalars_few structs ys in
      omega arith
    where
      by : (t : Bool) → is_scalar y.type ≡ t → all_held_bytes (if t then held_of y.type ∷ s.held_scalars ys else s.held_scalars ys) ≤ (if t then size_of structs y.type else 0) + all_held_bytes (s.held_scalars ys)
      by true is = let q = scalar_few structs y.type is in omega arith
      by false is = omega arith

  end_few : (r : Option Held) → end_temporaries r ≤ 1
  end_few None = omega arith
  end_few (Some h) = omega arith

  pub need_no_more : NeedNoMore p (translated p)
  need_no_more = of_both p (λ f g. register_need (translated p).functions g ≤ b.register_need p f) (λ f.
      let held = scalars_few p.structs (own_variables f p.variables) in
      let body = body_few (translated p).functions f in
      let last = end_few (s.result_of f.result) in
      omega arith)
