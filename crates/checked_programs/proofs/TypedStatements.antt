-- Well-typed statements fit by the numbers alone, whatever labels they get.
use Rattle.std.proofs.Common.{◌≡◌, ℕ, suc, ◌<◌, ◌≤◌, ◌⊎◌, Bool, true, false, IsTrue, ◌&&◌, ◌||◌, List, [], ◌∷◌, ◌++◌, length, map, Option, Some, None, refl, sym, ap, subst, ◌∙◌, inl, inr, arith, append_assoc}
use Rattle.std.specs.Prelude.{slice_get, option_map, Contains}
use Rattle.std.proofs.lemmas.Bool.{false≢true, and_parts, or_cases}
use Rattle.std.proofs.lemmas.Option.{slice_get_within}
use Rattle.std.proofs.lemmas.List.Elements.{Contains-append_left, Contains-append_right}
use Rattle.c_types.specs.Types.{CType, Void, Integer, Pointer, Array, Struct, Member, size_of, type_eq}
use Rattle.c_types.specs.Kinds.{is_integer, is_pointer, is_scalar}
use Rattle.clight_syntax.specs.declared.typed.ResultTarget.{ResultTarget}
use Rattle.clight_syntax.specs.Labelling.{cond_without, head_without, stmt_without, stmts_without}
use Rattle.clight_syntax.specs.TypedTrees.{Expr, Variable, Number, Parenthesis, Binary, Prefix, Cast, Index, Select, type_at, Cond, Truth, InParentheses, Not, Both, Either, Assignment, EarlierArgument, Arguments, NoArguments, Arguments', Call, ForHead, Stmt, Empty, Block, Assign, ReadPort, WritePort, CallOf, If, IfElse, While, Do, For, Break, Continue, Return, Stmts, NoStmts, Then, Function, TypedProgram}
use Rattle.clight_types.specs.Operands.{is_assignable, operand}
use Rattle.clight_types.specs.Assignable.{variable_of, values_of, values_onto, are_assignable, result_operand}
use Rattle.clight_types.specs.Scopes.{Signature, Object, Code, meaning_of, member_of}
use Rattle.clight_types.specs.Expressions.{HasType, IsConditional}
use Rattle.clight_typing.specs.Statements.{Body, is_own, reads_into, IfThere, IsAssignment, HaveValues, IsResultTarget, IsCall, IsReturn, IsForHead, AreTyped, addressed, cond_addressed, optional_addressed, assignment_addressed, earlier_addressed, arguments_addressed, for_addressed, stmt_addressed, stmts_addressed}
use Rattle.clight_typing.specs.Statements.{IsTyped as IsTypedStatement}
use Rattle.clight_typing.specs.Functions.{has_block}
use Rattle.clight_layout.specs.Calls.{stmt_calls, stmts_calls}
use Rattle.clight_meaning.specs.Meaning.{argument_list}
use Rattle.clight_programs.specs.Scopes.{IsShortScalar, IsVariable}
use Rattle.clight_programs.specs.Expressions.{IsInRam, IsTyped, IsTypedCond}
use Rattle.clight_programs.specs.Statements.{Paths, IsScalarIn, IsScalarPlace, AssignmentFits, AssignmentFitsIfAny, AllTyped, TargetFitsIfAny, CallFits, CondFitsIfAny, ValueFitsIfAny, StmtFits, StmtsFit}
use Rattle.checked_programs.proofs.KnownTypes.{is_known, short}
use Rattle.checked_programs.proofs.Addresses.{AreTaken, taken_first, taken_last}
use Rattle.checked_programs.proofs.TypedExpressions.{typed}

-- the function with this number has the result and the parameters of a signature
pub record Agrees {L : Type 0} (p : TypedProgram L) (number : ℕ) (x : Signature) : Type 0 where
  pub callee : Function L
  pub is : slice_get p.functions number ≡ Some callee
  pub count : callee.parameters ≡ length x.parameters
  pub result : IsTrue (is_scalar x.result) → IsShortScalar callee.result

-- a result that may be assigned is a scalar
scalar_result : (R T : CType) → IsTrue (is_scalar T && is_assignable (result_operand R) T) → IsTrue (is_scalar R)
scalar_result R T is = of_kinds (or_cases (is_integer R && is_integer T) (is_pointer T && (type_eq R T || false)) (and_parts (is_scalar T) _ is).1)
  where
    of_integer : (R : CType) → IsTrue (is_integer R) → IsTrue (is_scalar R)
    of_integer Void i = i
    of_integer (Integer s g) i = refl
    of_integer (Pointer U) i = refl
    of_integer (Array U c) i = i
    of_integer (Struct number) i = i

    same_kind : (R T : CType) → IsTrue (is_pointer T) → IsTrue (type_eq R T) → IsTrue (is_scalar R)
    same_kind Void (Pointer T) i e = e
    same_kind (Integer s g) (Pointer T) i e = refl
    same_kind (Pointer U) (Pointer T) i e = refl
    same_kind (Array U c) (Pointer T) i e = e
    same_kind (Struct number) (Pointer T) i e = e
    same_kind R Void i e = absurd (false≢true i)
    same_kind R (Integer s g) i e = absurd (false≢true i)
    same_kind R (Array T c) i e = absurd (false≢true i)
    same_kind R (Struct number) i e = absurd (false≢true i)

    the_first : (b : Bool) → IsTrue (b || false) → IsTrue b
    the_first true e = refl
    the_first false e = e

    of_kinds : (IsTrue (is_integer R && is_integer T)) ⊎ (IsTrue (is_pointer T && (type_eq R T || false))) → IsTrue (is_scalar R)
    of_kinds (inl i) = of_integer R (and_parts (is_integer R) (is_integer T) i).0
    of_kinds (inr i) = let parts = and_parts (is_pointer T) (type_eq R T || false) i in same_kind R T parts.0 (the_first (type_eq R T) parts.1)

-- ---- lists of arguments

same_arguments : (earlier : List EarlierArgument) (last : Expr) → values_onto earlier last ≡ map (λ (a : EarlierArgument). a.value) earlier ++ last ∷ []
same_arguments [] last = refl
same_arguments (a ∷ earlier) last = ap (λ es. a.value ∷ es) (same_arguments earlier last)

same_list : (x : Arguments) → values_of x ≡ argument_list x
same_list NoArguments = refl
same_list (Arguments' earlier last) = same_arguments earlier last

as_many : (es : List Expr) (types : List CType) → IsTrue (are_assignable es types) → length es ≡ length types
as_many [] [] is = refl
as_many (e ∷ es) (T ∷ types) is = ap suc (as_many es types (and_parts (is_assignable (operand e) T) (are_assignable es types) is).1)
as_many [] (T ∷ types) is = absurd (false≢true is)
as_many (e ∷ es) [] is = absurd (false≢true is)

-- ---- statements of a function

module _ {L : Type 0} (p : TypedProgram L) (paths : Paths) (h : ℕ) (f : Function L) (body : Body)
    (variables : (name n : ℕ) (T : CType) → meaning_of body.scope name ≡ Some (Object n T) → IsVariable p f n T × IsTrue (is_known (length body.scope.structs) T))
    (same_size : (T : CType) → IsTrue (is_known (length body.scope.structs) T) → size_of body.scope.structs T ≡ size_of p.structs T)
    (members : (T : CType) (name : ℕ) (m : Member) → member_of body.scope.structs T name ≡ Some m → IsTrue (is_known (length body.scope.structs) m.type))
    (own : (name n : ℕ) (T : CType) → meaning_of body.scope name ≡ Some (Object n T) → IsTrue (is_own body n) → IsTrue (is_scalar T) → IsScalarIn (slice_get p.variables n))
    (in_ram : (name n : ℕ) (T : CType) → meaning_of body.scope name ≡ Some (Object n T) → IsTrue (has_block body.addressed n T) → IsInRam (slice_get p.variables n))
    (codes : (name g : ℕ) (x : Signature) → meaning_of body.scope name ≡ Some (Code g x) → Agrees p g x)
    (below : (g : ℕ) → Contains (stmts_calls f.body) g → g < length p.functions → (paths.end h ≤ paths.begin g) × (paths.depth h < paths.depth g)) where
  -- variables of the function whose address is taken
  abbrev AreTakenHere : List ℕ → Type 0
  AreTakenHere = AreTaken body.addressed

  abbrev first_part : (xs ys : List ℕ) → AreTakenHere (xs ++ ys) → AreTakenHere xs
  first_part = taken_first body.addressed

  abbrev last_part : (xs ys : List ℕ) → AreTakenHere (xs ++ ys) → AreTakenHere ys
  last_part = taken_last body.addressed

  abbrev of_expression : (e : Expr) → HasType body.scope e → AreTakenHere (addressed e) → IsTyped p f e × IsTrue (is_known (length body.scope.structs) (type_at e))
  of_expression e k t = typed p f body.scope variables same_size members body.addressed in_ram e k t

  condition_fits : (c : Cond L) → IsConditional body.scope (cond_without c) → AreTakenHere (cond_addressed (cond_without c)) → IsTypedCond p f c
  condition_fits (Truth e) k t = (of_expression e k.0 t).0
  condition_fits (InParentheses left c right) k t = condition_fits c k.0 t
  condition_fits (Not at c) k t = condition_fits c k t
  condition_fits (Both l at on_true on_false r) k t =
      (condition_fits l k.0 (first_part (cond_addressed (cond_without l)) (cond_addressed (cond_without r)) t), condition_fits r k.1 (last_part (cond_addressed (cond_without l)) (cond_addressed (cond_without r)) t))
  condition_fits (Either l at on_true on_false r) k t =
      (condition_fits l k.0 (first_part (cond_addressed (cond_without l)) (cond_addressed (cond_without r)) t), condition_fits r k.1 (last_part (cond_addressed (cond_without l)) (cond_addressed (cond_without r)) t))

  condition_fits_if_any : (c : Option (Cond L)) → IfThere (IsConditional body.scope) (option_map cond_without c) → AreTakenHere (optional_addressed cond_addressed (option_map cond_without c)) → CondFitsIfAny p f c
  condition_fits_if_any None k t = tt
  condition_fits_if_any (Some c) k t = condition_fits c k t

  assignment_fits : (a : Assignment) → IsAssignment body.scope a → AreTakenHere (assignment_addressed a) → AssignmentFits p f a
  assignment_fits a k t =
      let target = of_expression a.target k.0 (first_part (addressed a.target) (addressed a.value) t) in
      (target.0, (of_expression a.value k.1.0 (last_part (addressed a.target) (addressed a.value) t)).0, short (length body.scope.structs) (type_at a.target) target.1)

  assignment_fits_if_any : (a : Option Assignment) → IfThere (IsAssignment body.scope) a → AreTakenHere (optional_addressed assignment_addressed a) → AssignmentFitsIfAny p f a
  assignment_fits_if_any None k t = tt
  assignment_fits_if_any (Some a) k t = assignment_fits a k t

  all_typed : (earlier : List EarlierArgument) (last : Expr) → HaveValues body.scope (values_onto earlier last) → AreTakenHere (earlier_addressed earlier ++ addressed last) → AllTyped p f (values_onto earlier last)
  all_typed [] last k t = ((of_expression last k.0.0 t).0, tt)
  all_typed (x ∷ earlier) last k t =
      let split = subst AreTakenHere (append_assoc (addressed x.value) (earlier_addressed earlier) (addressed last)) t in (
        (of_expression x.value k.0.0 (first_part (addressed x.value) (earlier_addressed earlier ++ addressed last) split)).0,
        all_typed earlier last k.1 (last_part (addressed x.value) (earlier_addressed earlier ++ addressed last) split),
      )

  arguments_typed : (x : Arguments) → HaveValues body.scope (values_of x) → AreTakenHere (arguments_addressed x) → AllTyped p f (values_of x)
  arguments_typed NoArguments k t = tt
  arguments_typed (Arguments' earlier last) k t = all_typed earlier last k t

  -- an integer that isn't addressed
  reading_place : (e : Expr) → HasType body.scope e → IsTrue (reads_into body e) → IsScalarPlace p e
  reading_place (Variable T n name) k is =
      let parts = and_parts (is_own body n) (is_integer T) is in
      own name.number n T k parts.0 (scalar T parts.1)
    where
      scalar : (T : CType) → IsTrue (is_integer T) → IsTrue (is_scalar T)
      scalar Void i = i
      scalar (Integer s g) i = refl
      scalar (Pointer U) i = refl
      scalar (Array U c) i = i
      scalar (Struct number) i = i
  reading_place (Parenthesis T left e right) k is = reading_place e k.0 (inner (variable_of e) is)
    where
      inner : (v : Option ℕ) → IsTrue (elim v [ Some n ↦ is_own body n && is_integer T | None ↦ false ]) → IsTrue (elim v [ Some n ↦ is_own body n && is_integer (type_at e) | None ↦ false ])
      inner (Some n) i = subst (λ U. IsTrue (is_own body n && is_integer U)) k.1 i
      inner None i = i
  reading_place (Number T number span) k is = absurd (false≢true is)
  reading_place (Binary T l operator at r) k is = absurd (false≢true is)
  reading_place (Prefix T operator at e) k is = absurd (false≢true is)
  reading_place (Cast T left words right e) k is = absurd (false≢true is)
  reading_place (Index T base left index right) k is = absurd (false≢true is)
  reading_place (Select T e operator at member offset) k is = absurd (false≢true is)

  target_fits : (x : Signature) (g : Function L) → (IsTrue (is_scalar x.result) → IsShortScalar g.result) → (target : Option ResultTarget) → IfThere (IsResultTarget body x) target → TargetFitsIfAny p f g target
  target_fits x g result None k = tt
  target_fits x g result (Some target) k =
      let parts = and_parts (is_own body target.variable) (is_scalar k.0 && is_assignable (result_operand x.result) k.0) k.2 in
      let v = variables target.target.name.number target.variable k.0 k.1 in
      record {
        type = k.0;
        variable = v.0;
        scalar = own target.target.name.number target.variable k.0 k.1 parts.0 (and_parts (is_scalar k.0) (is_assignable (result_operand x.result) k.0) parts.1).0;
        short = short (length body.scope.structs) k.0 v.1;
        result = result (scalar_result x.result k.0 parts.1);
      }

  call_fits : (c : Call) → IsCall body c → AreTakenHere (arguments_addressed c.arguments) → Contains (stmts_calls f.body) c.function → CallFits p paths h f c
  call_fits c k t there =
      let at = codes c.name.number c.function k.0 k.1 in
      let next = below c.function there (slice_get_within p.functions c.function at.callee at.is) in
      record {
        callee = at.callee;
        is = at.is;
        typed = subst (AllTyped p f) (same_list c.arguments) (arguments_typed c.arguments k.2 t);
        many = ap length (sym (same_list c.arguments)) ∙ as_many (values_of c.arguments) k.0.parameters k.3 ∙ sym at.count;
        target = target_fits k.0 at.callee at.result c.target k.4;
        after = next.0;
        deeper = next.1;
      }

  return_fits : (e : Option Expr) → IsReturn body e → AreTakenHere (optional_addressed addressed e) → ValueFitsIfAny p f e
  return_fits None k t = tt
  return_fits (Some e) k t = (of_expression e k.0.0 t).0

  for_fits : (head : ForHead L) → IsForHead body.scope (head_without head) → AreTakenHere (for_addressed (head_without head)) → AssignmentFitsIfAny p f head.first × CondFitsIfAny p f head.condition × AssignmentFitsIfAny p f head.step
  for_fits head k t =
      let more = last_part (optional_addressed assignment_addressed head.first) (optional_addressed cond_addressed (option_map cond_without head.condition) ++ optional_addressed assignment_addressed head.step) t in (
        assignment_fits_if_any head.first k.0 (first_part (optional_addressed assignment_addressed head.first) (optional_addressed cond_addressed (option_map cond_without head.condition) ++ optional_addressed assignment_addressed head.step) t),
        condition_fits_if_any head.condition k.1 (first_part (optional_addressed cond_addressed (option_map cond_without head.condition)) (optional_addressed assignment_addressed head.step) more),
        assignment_fits_if_any head.step k.2 (last_part (optional_addressed cond_addressed (option_map cond_without head.condition)) (optional_addressed assignment_addressed head.step) more),
      )

  -- those that a part calls are among those that the whole calls
  abbrev AreCalled : List ℕ → Type 0
  AreCalled calls = (g : ℕ) → Contains calls g → Contains (stmts_calls f.body) g

  abbrev looping : Bool → Body
  looping in_loop = record body { in_loop = in_loop }

  mutual
    statement_fits : (in_loop : Bool) (s : Stmt L) → IsTypedStatement (looping in_loop) (stmt_without s) → AreTakenHere (stmt_addressed (stmt_without s)) → AreCalled (stmt_calls s) → StmtFits p paths h f s
    statement_fits in_loop (Empty a) k t c = tt
    statement_fits in_loop (Block left body right) k t c = statements_fit in_loop body k t c
    statement_fits in_loop (Assign x a) k t c = assignment_fits x k t
    statement_fits in_loop (ReadPort target equals port a) k t c =
        let x = of_expression target k.0 t in
        (x.0, short (length body.scope.structs) (type_at target) x.1, reading_place target k.0 k.1)
    statement_fits in_loop (WritePort port equals e a) k t c = (of_expression e k.0.0 t).0
    statement_fits in_loop (CallOf x a back) k t c = call_fits x k t (c x.function (0, omega arith, refl))
    statement_fits in_loop (If test one x other) k t c = (
      condition_fits test.condition k.0 (first_part (cond_addressed (cond_without test.condition)) (stmt_addressed (stmt_without x)) t),
      statement_fits in_loop x k.1 (last_part (cond_addressed (cond_without test.condition)) (stmt_addressed (stmt_without x)) t) c,
    )
    statement_fits in_loop (IfElse test one x a other y) k t c =
        let arms = last_part (cond_addressed (cond_without test.condition)) (stmt_addressed (stmt_without x) ++ stmt_addressed (stmt_without y)) t in (
          condition_fits test.condition k.0 (first_part (cond_addressed (cond_without test.condition)) (stmt_addressed (stmt_without x) ++ stmt_addressed (stmt_without y)) t),
          statement_fits in_loop x k.1 (first_part (stmt_addressed (stmt_without x)) (stmt_addressed (stmt_without y)) arms) (λ g there. c g (Contains-append_left (stmt_calls x) (stmt_calls y) g there)),
          statement_fits in_loop y k.2 (last_part (stmt_addressed (stmt_without x)) (stmt_addressed (stmt_without y)) arms) (λ g there. c g (Contains-append_right (stmt_calls x) (stmt_calls y) g there)),
        )
    statement_fits in_loop (While test turn x after) k t c = (
      condition_fits test.condition k.0 (first_part (cond_addressed (cond_without test.condition)) (stmt_addressed (stmt_without x)) t),
      statement_fits true x k.1 (last_part (cond_addressed (cond_without test.condition)) (stmt_addressed (stmt_without x)) t) c,
    )
    statement_fits in_loop (Do keyword x test again a after) k t c = (
      statement_fits true x k.0 (first_part (stmt_addressed (stmt_without x)) (cond_addressed (cond_without test.condition)) t) c,
      condition_fits test.condition k.1 (last_part (stmt_addressed (stmt_without x)) (cond_addressed (cond_without test.condition)) t),
    )
    statement_fits in_loop (For head turn x after) k t c =
        let fits = for_fits head k.0 (first_part (for_addressed (head_without head)) (stmt_addressed (stmt_without x)) t) in
        (fits.0, fits.1, fits.2, statement_fits true x k.1 (last_part (for_addressed (head_without head)) (stmt_addressed (stmt_without x)) t) c)
    statement_fits in_loop (Break keyword a) k t c = tt
    statement_fits in_loop (Continue keyword a) k t c = tt
    statement_fits in_loop (Return keyword e a) k t c = return_fits e k t

    pub statements_fit : (in_loop : Bool) (s : Stmts L) → AreTyped (looping in_loop) (stmts_without s) → AreTakenHere (stmts_addressed (stmts_without s)) → AreCalled (stmts_calls s) → StmtsFit p paths h f s
    statements_fit in_loop NoStmts k t c = tt
    statements_fit in_loop (Then earlier last) k t c = (
      statements_fit in_loop earlier k.0 (first_part (stmts_addressed (stmts_without earlier)) (stmt_addressed (stmt_without last)) t) (λ g there. c g (Contains-append_left (stmts_calls earlier) (stmt_calls last) g there)),
      statement_fits in_loop last k.1 (last_part (stmts_addressed (stmts_without earlier)) (stmt_addressed (stmt_without last)) t) (λ g there. c g (Contains-append_right (stmts_calls earlier) (stmt_calls last) g there)),
    )
