-- The code of no statement of the translation is longer than the source's bound.
use Rattle.std.proofs.Common.{◌≡◌, ℕ, ◌+◌, ◌*◌, ◌≤◌, List, [], ◌∷◌, ◌++◌, map, Option, Some, None, refl, sym, subst, arith}
use Rattle.std.specs.Prelude.{slice_get, option_map, sum_by}
use Rattle.std.proofs.lemmas.List.Sums.{sum_by-cons}
use Rattle.cerco_base.specs.declared.events.Label.{Label}
use Rattle.cerco_middle.specs.declared.operators.Held.{Held}
use Rattle.cerco_middle.specs.declared.operators.Held.TheVariants.{U8, I8, W16}
use Rattle.cerco_middle.specs.Operators.{all_held_bytes}
use Rattle.cerco_middle.specs.Lengths.{return_value_length}
use Rattle.cerco_middle.specs.Calls.{variable_held}
use Rattle.cerco_middle.specs.Cminor.Trees as cm
use Rattle.cerco_middle.specs.Cminor.Trees.{CmExpr, CmStmts, CmFunction, Cminor, held_parameters}
use Rattle.cerco_middle.specs.Cminor.Sums.{expr_length, cond_length_if_any, arguments_length, parameters_at, result_at, taking_length, return_length_of, stmt_length, stmts_length}
use Rattle.clight_syntax.specs.Bounds as b
use Rattle.clight_syntax.specs.TypedTrees.{Expr, Cond, Assignment, EarlierArgument, Arguments, NoArguments, Arguments', Call, Stmt, Empty, Block, Assign, ReadPort, WritePort, CallOf, If, IfElse, While, Do, For, Break, Continue, Return, Stmts, NoStmts, Then, Function, TypedProgram, type_at}
use Rattle.clight_meaning.specs.Meaning.{argument_list}
use Rattle.clight_programs.specs.Statements.{Paths, AssignmentFits, AssignmentFitsIfAny, AllTyped, CallFits, CondFitsIfAny, ValueFitsIfAny, StmtFits, StmtsFit}
use Rattle.clight_programs.specs.Programs.{FunctionFits}
use Rattle.flat_memory.specs.HeldTypes.{held_of}
use Rattle.cminor_gen.specs.Translation.Expressions as x
use Rattle.cminor_gen.specs.Translation.Statements as s
use Rattle.cminor_gen.specs.Translation.Programs.{translated}
use Rattle.cminor_gen.proofs.Runs.{get_map}
use Rattle.cminor_gen.proofs.Parameters.{parameters_few}
use Rattle.cminor_gen.proofs.ExpressionLengths.{get_short, put_short, store_short, argument_short, value_length, target_length, condition_length}

return_short : (r : Option Held) → return_value_length r ≤ 7
return_short None = omega arith
return_short (Some U8) = omega arith
return_short (Some I8) = omega arith
return_short (Some W16) = omega arith

taking_short : (held : List Held) (r : Option Held) (t : Option ℕ) → taking_length held r t ≤ 24
taking_short held None t = omega arith
taking_short held (Some h) None = omega arith
taking_short held (Some h) (Some n) = let i = get_short h in let j = put_short (variable_held held n) in omega arith

module _ (p : TypedProgram Label) (f : Function Label) (held : List Held) where
  -- ---- arguments

  abbrev all_bound : List Expr → ℕ
  all_bound [] = 0
  all_bound (e ∷ es) = b.value_bound p e + all_bound es

  earlier_bound : (earlier : List EarlierArgument) (last : Expr) → all_bound (map (λ (a : EarlierArgument). a.value) earlier ++ last ∷ []) ≡ sum_by (λ (a : EarlierArgument). b.value_bound p a.value) earlier + b.value_bound p last
  earlier_bound [] last = omega arith
  earlier_bound (a ∷ earlier) last =
      let ih = earlier_bound earlier last in
      let more = sum_by-cons (λ (a : EarlierArgument). b.value_bound p a.value) a earlier in
      omega arith

  list_bound : (given : Arguments) → all_bound (argument_list given) ≡ b.arguments_bound p given
  list_bound NoArguments = refl
  list_bound (Arguments' earlier last) = earlier_bound earlier last

  arguments_fit : (hs : List Held) (es : List Expr) → AllTyped p f es → arguments_length held hs (x.values p es) ≤ 8 * all_held_bytes hs + all_bound es
  arguments_fit [] es ty = omega arith
  arguments_fit (h ∷ hs) [] ty = omega arith
  arguments_fit (h ∷ hs) (e ∷ es) ty =
      let i = value_length held p f e ty.0 in
      let j = argument_short h in
      let ih = arguments_fit hs es ty.1 in
      omega arith

  -- ---- statements

  module _ (paths : Paths) (functions : (h : ℕ) (g : Function Label) → slice_get p.functions h ≡ Some g → FunctionFits p paths h g) (h : ℕ) (result : Option Held) where
    abbrev fs : List CmFunction
    fs = (translated p).functions

    pub set_length : (n : Option ℕ) (hd : Held) (a e : CmExpr) (A E : ℕ) → expr_length held a ≤ 9 + A → expr_length held e ≤ E → stmt_length fs held result (s.set_or_store n hd a e) ≤ 32 + A + E
    set_length (Some n) hd a e A E la le = let i = put_short (variable_held held n) in omega arith
    set_length None hd a e A E la le = let i = store_short hd in omega arith

    assignment_length : (a : Assignment) → AssignmentFits p f a → stmt_length fs held result (s.assignment p a) ≤ b.assignment_bound p a
    assignment_length a fit =
        set_length (x.scalar_at p a.target) (held_of (type_at a.target)) (x.place p a.target) (x.value p a.value) (b.place_bound p a.target) (b.value_bound p a.value)
        (target_length held p f a.target fit.0) (value_length held p f a.value fit.1)

    assignment_if_any_length : (a : Option Assignment) → AssignmentFitsIfAny p f a → stmt_length fs held result (s.assignment_if_any p a) ≤ b.bound_of (b.assignment_bound p) a
    assignment_if_any_length None fit = omega arith
    assignment_if_any_length (Some a) fit = assignment_length a fit

    condition_if_any_length : (c : Option (Cond Label)) → CondFitsIfAny p f c → cond_length_if_any held (option_map (x.condition p) c) ≤ b.bound_of (b.cond_bound p) c
    condition_if_any_length None ty = omega arith
    condition_if_any_length (Some c) ty = condition_length held p f c ty

    return_length_fits : (e : Option Expr) → ValueFitsIfAny p f e → return_length_of held result (option_map (x.value p) e) ≤ 24 + b.bound_of (b.value_bound p) e
    return_length_fits None ty = omega arith
    return_length_fits (Some e) ty = let i = value_length held p f e ty in let j = return_short result in omega arith

    port_length : (n : Option ℕ) → stmt_length fs held result (s.read_port n) ≤ 24
    port_length None = omega arith
    port_length (Some n) = let i = put_short (variable_held held n) in omega arith

    -- the parameters of a callee
    callee_few : (n : ℕ) (g : Function Label) → slice_get p.functions n ≡ Some g → all_held_bytes (parameters_at (slice_get fs n)) ≤ b.parameter_bytes p (slice_get p.functions n)
    callee_few n g is =
        let there = get_map (s.function p) p.functions n g is in
        let few = parameters_few p paths n g (functions n g is) in
        subst (λ z. all_held_bytes (parameters_at z) ≤ b.parameter_bytes p (slice_get p.functions n)) (sym there)
        (subst (λ z. all_held_bytes (held_parameters (s.function p g)) ≤ b.parameter_bytes p z) (sym is) few)

    add_call : (c : Call) (m n t : ℕ) → m ≤ 8 * n + b.arguments_bound p c.arguments → n ≤ b.parameter_bytes p (slice_get p.functions c.function) → t ≤ 24 → m + 3 + 4 + t ≤ b.call_bound p c
    add_call c m n t le le' lt = omega arith

    call_length_fits : (c : Call) (back : Label) → CallFits p paths h f c → stmt_length fs held result (s.call p c back) ≤ b.call_bound p c
    call_length_fits c back fit =
        let hs = parameters_at (slice_get fs c.function) in
        let few = callee_few c.function fit.callee fit.is in
        let given = arguments_fit hs (argument_list c.arguments) fit.typed in
        let bound = list_bound c.arguments in
        let taking = taking_short held (result_at (slice_get fs c.function)) (s.target_of p c.target) in
        add_call c (arguments_length held hs (x.values p (argument_list c.arguments))) (all_held_bytes hs) _ (omega arith) few taking

    mutual
      stmt_length_fits : (a : Stmt Label) → StmtFits p paths h f a → stmt_length fs held result (s.statement p a) ≤ b.stmt_bound p a
      stmt_length_fits (Empty semicolon) fit = omega arith
      stmt_length_fits (Block lf body rt) fit = let i = stmts_length_fit body cm.NoStmts fit in omega arith
      stmt_length_fits (Assign a semicolon) fit = assignment_length a fit
      stmt_length_fits (ReadPort target equals port semicolon) fit = let i = port_length (x.scalar_at p target) in omega arith
      stmt_length_fits (WritePort port equals e semicolon) fit = let i = value_length held p f e fit in omega arith
      stmt_length_fits (CallOf c semicolon back) fit = call_length_fits c back fit
      stmt_length_fits (If tst one arm other) fit = let i = condition_length held p f tst.condition fit.0 in let j = stmt_length_fits arm fit.1 in omega arith
      stmt_length_fits (IfElse tst one arm keyword other otherwise) fit =
          let i = condition_length held p f tst.condition fit.0 in
          let j = stmt_length_fits arm fit.1 in
          let k = stmt_length_fits otherwise fit.2 in
          omega arith
      stmt_length_fits (While tst turn body after) fit = let i = condition_length held p f tst.condition fit.0 in let j = stmt_length_fits body fit.1 in omega arith
      stmt_length_fits (Do keyword body tst back semicolon after) fit = let i = condition_length held p f tst.condition fit.1 in let j = stmt_length_fits body fit.0 in omega arith
      stmt_length_fits (For head turn body after) fit =
          let i = assignment_if_any_length head.first fit.0 in
          let j = condition_if_any_length head.condition fit.1 in
          let k = assignment_if_any_length head.step fit.2 in
          let m = stmt_length_fits body fit.3 in
          omega arith
      stmt_length_fits (Break keyword semicolon) fit = omega arith
      stmt_length_fits (Continue keyword semicolon) fit = omega arith
      stmt_length_fits (Return keyword e semicolon) fit = return_length_fits e fit

      -- statements after some others
      pub stmts_length_fit : (ss : Stmts Label) (earlier : CmStmts) → StmtsFit p paths h f ss → stmts_length fs held result (s.statements_after p ss earlier) ≤ stmts_length fs held result earlier + b.stmts_bound p ss
      stmts_length_fit NoStmts earlier fit = omega arith
      stmts_length_fit (Then ss a) earlier fit = let i = stmts_length_fit ss earlier fit.0 in let j = stmt_length_fits a fit.1 in omega arith
