-- The code bound of a program goes by its functions and what they name, and not by the order of its calls.
use Rattle.std.proofs.Common.{◌≡◌, ℕ, ◌+◌, ◌*◌, List, [], ◌∷◌, Option, Some, None, refl, sym, ap, ap₂, ◌∙◌}
use Rattle.std.specs.Prelude.{slice_get}
use Rattle.std.specs.List.{sum_by}
use Rattle.std.proofs.lemmas.List.Sums.{sum_by-cons}
use Rattle.cerco_base.specs.CallOrder.{Called}
use Rattle.cerco_base.specs.declared.events.Label.{Label}
use Rattle.clight_source.specs.declared.tree.PrefixOperator.TheVariants as p
use Rattle.clight_source.specs.declared.tree.MemberOperator.TheVariants.{Dot, Arrow}
use Rattle.c_types.specs.Types.{size_of}
use Rattle.clight_syntax.specs.Bounds.{operator_bound, reading_bound, step_bound, value_bound, place_bound, label_bound, cond_bound, bound_of, assignment_bound, arguments_bound, parameter_bytes, result_bound, call_bound, for_bound, stmt_bound, stmts_bound, local_bound, own_bound, function_bound, item_bound, code_bound}
use Rattle.clight_syntax.specs.TypedTrees.{Expr, Variable, Number, Parenthesis, Binary, Prefix, Cast, Index, Select, Cond, Truth, InParentheses, Not, Both, Either, Assignment, EarlierArgument, Arguments, NoArguments, Arguments', Call, ForHead, Stmt, Empty, Block, Assign, ReadPort, WritePort, CallOf, If, IfElse, While, Do, For, Break, Continue, Return, Stmts, NoStmts, Then, LocalInitialiser, NoValue, Value, Local, Function, Item, StructItem, GlobalItem, PrototypeItem, FunctionItem, TypedProgram, own_variables}

sums_same : {A : Type 0} (f g : A → ℕ) → ((x : A) → f x ≡ g x) → (xs : List A) → sum_by f xs ≡ sum_by g xs
sums_same f g same [] = refl
sums_same f g same (x ∷ xs) = sum_by-cons f x xs ∙ (ap₂ (λ m n. m + n) (same x) (sums_same f g same xs) ∙ sym (sum_by-cons g x xs))

option_same : {A : Type 0} (f g : A → ℕ) → ((x : A) → f x ≡ g x) → (x : Option A) → bound_of f x ≡ bound_of g x
option_same f g same None = refl
option_same f g same (Some x) = same x

-- of a local that has a value at the start
abbrev initialiser_bound : TypedProgram Label → LocalInitialiser → ℕ
initialiser_bound program x = elim x [ NoValue ↦ 0 | Value equals value ↦ 32 + value_bound program value ]

module _ (program : TypedProgram Label) (calls : List Called) where
  -- the program with these calls
  abbrev other : TypedProgram Label
  other = record program { calls = calls }

  mutual
    value_same : (e : Expr) → value_bound other e ≡ value_bound program e
    value_same (Variable type variable name) = refl
    value_same (Number type number span) = refl
    value_same (Parenthesis type left e right) = value_same e
    value_same (Binary type l operator at r) = ap₂ (λ m n. m + n + operator_bound program.structs type operator r) (value_same l) (value_same r)
    value_same (Prefix type p.Negate at e) = ap (λ n. 16 + n) (value_same e)
    value_same (Prefix type p.Complement at e) = ap (λ n. 16 + n) (value_same e)
    value_same (Prefix type p.AddressOf at e) = place_same e
    value_same (Prefix type p.Dereference at e) = ap (λ n. n + reading_bound type) (value_same e)
    value_same (Prefix type p.Not at e) = value_same e
    value_same (Cast type left words right e) = ap (λ n. 16 + n) (value_same e)
    value_same (Index type base left index right) = ap₂ (λ m n. m + n + step_bound (size_of program.structs type) + reading_bound type) (value_same base) (value_same index)
    value_same (Select type e Dot at member offset) = ap (λ n. 24 + n + reading_bound type) (place_same e)
    value_same (Select type e Arrow at member offset) = ap (λ n. 24 + n + reading_bound type) (value_same e)

    place_same : (e : Expr) → place_bound other e ≡ place_bound program e
    place_same (Variable type variable name) = refl
    place_same (Number type number span) = refl
    place_same (Parenthesis type left e right) = place_same e
    place_same (Binary type l operator at r) = refl
    place_same (Prefix type p.Negate at e) = refl
    place_same (Prefix type p.Complement at e) = refl
    place_same (Prefix type p.AddressOf at e) = refl
    place_same (Prefix type p.Dereference at e) = value_same e
    place_same (Prefix type p.Not at e) = refl
    place_same (Cast type left words right e) = refl
    place_same (Index type base left index right) = ap₂ (λ m n. m + n + step_bound (size_of program.structs type)) (value_same base) (value_same index)
    place_same (Select type e Dot at member offset) = ap (λ n. 24 + n) (place_same e)
    place_same (Select type e Arrow at member offset) = ap (λ n. 24 + n) (value_same e)

  cond_same : {M : Type 0} (c : Cond M) → cond_bound other c ≡ cond_bound program c
  cond_same (Truth e) = ap (λ n. 24 + n) (value_same e)
  cond_same (InParentheses left c right) = cond_same c
  cond_same (Not at c) = cond_same c
  cond_same (Both l at on_true on_false r) = ap₂ (λ m n. 8 + 2 * label_bound + m + n) (cond_same l) (cond_same r)
  cond_same (Either l at on_true on_false r) = ap₂ (λ m n. 8 + 2 * label_bound + m + n) (cond_same l) (cond_same r)

  assignment_same : (x : Assignment) → assignment_bound other x ≡ assignment_bound program x
  assignment_same x = ap₂ (λ m n. 32 + m + n) (place_same x.target) (value_same x.value)

  arguments_same : (x : Arguments) → arguments_bound other x ≡ arguments_bound program x
  arguments_same NoArguments = refl
  arguments_same (Arguments' earlier last) =
      ap₂ (λ m n. m + n) (sums_same (λ x. value_bound other x.value) (λ x. value_bound program x.value) (λ (x : EarlierArgument). value_same x.value) earlier) (value_same last)

  parameters_same : (f : Option (Function Label)) → parameter_bytes other f ≡ parameter_bytes program f
  parameters_same None = refl
  parameters_same (Some f) = refl

  call_same : (x : Call) → call_bound other x ≡ call_bound program x
  call_same x =
      let bytes = parameters_same (slice_get program.functions x.function) in
      ap₂ (λ b n. 40 + 8 * b + n + bound_of (result_bound program) x.target + label_bound) bytes (arguments_same x.arguments)

  for_same : {M : Type 0} (x : ForHead M) → for_bound other x ≡ for_bound program x
  for_same x =
      let first = option_same (assignment_bound other) (assignment_bound program) assignment_same x.first in
      let test = option_same (cond_bound other) (cond_bound program) cond_same x.condition in
      let step = option_same (assignment_bound other) (assignment_bound program) assignment_same x.step in
      ap₂ (λ m n. m + n) (ap₂ (λ m n. m + n) first test) step

  mutual
    stmt_same : (s : Stmt Label) → stmt_bound other s ≡ stmt_bound program s
    stmt_same (Empty a) = refl
    stmt_same (Block left body right) = stmts_same body
    stmt_same (Assign x a) = assignment_same x
    stmt_same (ReadPort target equals port a) = ap (λ n. 24 + n) (place_same target)
    stmt_same (WritePort port equals value a) = ap (λ n. 8 + n) (value_same value)
    stmt_same (CallOf x a back) = call_same x
    stmt_same (If test one x missing) = ap₂ (λ m n. 8 + 2 * label_bound + m + n) (cond_same test.condition) (stmt_same x)
    stmt_same (IfElse test one x a otherwise y) =
        ap₂ (λ m n. m + n) (ap₂ (λ m n. 8 + 2 * label_bound + m + n) (cond_same test.condition) (stmt_same x)) (stmt_same y)
    stmt_same (While test turn x after) = ap₂ (λ m n. 16 + 2 * label_bound + m + n) (cond_same test.condition) (stmt_same x)
    stmt_same (Do keyword x test again a after) = ap₂ (λ m n. 16 + 2 * label_bound + m + n) (cond_same test.condition) (stmt_same x)
    stmt_same (For head turn x after) = ap₂ (λ m n. 16 + 2 * label_bound + m + n) (for_same head) (stmt_same x)
    stmt_same (Break keyword a) = refl
    stmt_same (Continue keyword a) = refl
    stmt_same (Return keyword value a) = ap (λ n. 24 + n) (option_same (value_bound other) (value_bound program) value_same value)

    stmts_same : (s : Stmts Label) → stmts_bound other s ≡ stmts_bound program s
    stmts_same NoStmts = refl
    stmts_same (Then earlier last) = ap₂ (λ m n. m + n) (stmts_same earlier) (stmt_same last)

  initialiser_same : (x : LocalInitialiser) → initialiser_bound other x ≡ initialiser_bound program x
  initialiser_same NoValue = refl
  initialiser_same (Value equals value) = ap (λ n. 32 + n) (value_same value)

  local_same : (x : Local) → local_bound other x ≡ local_bound program x
  local_same x = initialiser_same x.initialiser

  function_same : (f : Function Label) → function_bound other f ≡ function_bound program f
  function_same f =
      let own = sum_by (own_bound program.structs) (own_variables f program.variables) in
      ap₂ (λ m n. 32 + label_bound + own + m + n) (sums_same (local_bound other) (local_bound program) local_same f.locals) (stmts_same f.body)

  item_same : (x : Item) → item_bound other x ≡ item_bound program x
  item_same (StructItem x) = refl
  item_same (GlobalItem x variable) = refl
  item_same (PrototypeItem x) = refl
  item_same (FunctionItem number) = refl

  pub code_same : code_bound other ≡ code_bound program
  code_same =
      ap₂ (λ m n. 8 + m + n) (sums_same (item_bound other) (item_bound program) item_same program.items) (sums_same (function_bound other) (function_bound program) function_same program.functions)
