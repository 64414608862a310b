-- Jumps are in loops, values are returned where there is a result, and callers are known to the order of calls.
use Rattle.std.proofs.Common.{◌≡◌, ℕ, zero, suc, ◌+◌, ◌⊎◌, Bool, true, IsTrue, ◌&&◌, ◌||◌, List, [], ◌∷◌, ◌++◌, length, map, take, Option, Some, None, refl, sym, ap, ap₂, subst, ◌∙◌, inl, inr, arith}
use Rattle.std.specs.Prelude.{slice_get, slice_index_or, Contains, if◌then◌else◌}
use Rattle.std.specs.List.{sum_by}
use Rattle.std.proofs.lemmas.Bool.{false≢true, and_parts, or_cases}
use Rattle.std.proofs.lemmas.Option.{none-some, same_Some, slice_get_within}
use Rattle.std.proofs.lemmas.List.Elements.{Contains-append_left, Contains-append_right}
use Rattle.std.proofs.lemmas.List.Sums.{sum_by-cons}
use Rattle.cerco_base.specs.CallOrder.{Called, callers_at, IsCallOrder}
use Rattle.call_graph.specs.CallPaths.{CallsIn}
use Rattle.call_graph.proofs.OrderPaths.{StandsAt, one_place}
use Rattle.clight_source.specs.Trees.{Declared}
use Rattle.c_types.specs.declared.integers.Size.TheVariants.{One, Two, Four}
use Rattle.c_types.specs.Types.{CType, Void, Integer, Pointer, Array, Struct, StructType, size_of, type_eq}
use Rattle.c_types.specs.Kinds.{is_integer, is_pointer, is_scalar}
use Rattle.clight_syntax.specs.Bounds.{scalar_bytes}
use Rattle.clight_syntax.specs.Labelling.{stmt_without, stmts_without}
use Rattle.clight_syntax.specs.TypedTrees.{Expr, Stmt, Empty, Block, Assign, ReadPort, WritePort, CallOf, If, IfElse, While, Do, For, Break, Continue, Return, Stmts, NoStmts, Then, Variable'}
use Rattle.clight_types.specs.Declarations.{declared_type, bytes_of}
use Rattle.clight_types.specs.Operands.{Operand, is_assignable, operand, is_zero}
use Rattle.clight_types.specs.Scopes.{Signature, Code, meaning_of}
use Rattle.clight_typing.specs.Statements.{Body, AreTyped, IsReturn}
use Rattle.clight_typing.specs.Statements.{IsTyped as IsTypedStatement}
use Rattle.clight_typing.specs.Functions.{Own, parameter_own, is_parameter, are_parameters, variables_from, has_block, home_of, counted, is_object_words}
use Rattle.clight_typing.specs.Programs.{without_address}
use Rattle.clight_types.specs.Declarations.{named_type}
use Rattle.clight_layout.specs.Calls.{stmt_calls, stmts_calls}
use Rattle.clight_programs.specs.Scopes.{IsShortScalar}
use Rattle.clight_programs.specs.Formed.{IsKnownCaller, ReturnFits, IsFormed, AreFormed}
use Rattle.clight_programs.specs.Programs.{ResultFits}
use Rattle.checked_programs.proofs.KnownTypes.{is_known}
use Rattle.checked_programs.specs.Named.{AreKnownTags}
use Rattle.checked_programs.proofs.Structs.{named_known, pointers_known}

-- ---- callers

entry_at : {A : Type 0} (g : Called → A) (calls : List Called) (i : ℕ) (entry : Called) (d : A) → slice_get calls i ≡ Some entry → slice_index_or (map g calls) i d ≡ g entry
entry_at g [] i entry d is = absurd (none-some entry is)
entry_at g (c ∷ calls) zero entry d is = ap g (same_Some _ _ is)
entry_at g (c ∷ calls) (suc i) entry d is = entry_at g calls i entry d is

pub known_caller : (calls : List Called) → IsCallOrder calls → (f g : ℕ) → CallsIn calls f g → IsKnownCaller calls f g
known_caller calls o f g call i entry is same =
    let here : StandsAt calls g call.0 = record { within = call.1; is = call.2 } in
    let there : StandsAt calls g i = record { within = slice_get_within calls i entry is; is = entry_at (λ (c : Called). c.function) calls i entry 0 is ∙ same } in
    let place = one_place calls o g call.0 i here there in
    let callers : callers_at calls call.0 ≡ entry.callers = ap (callers_at calls) place ∙ entry_at (λ (c : Called). c.callers) calls i entry [] is in
    subst (λ xs. Contains xs f) callers call.3

-- ---- returns

pub short_result : (T : CType) → ResultFits T → IsTrue (is_scalar T) → IsShortScalar T
short_result Void fits s = absurd (false≢true s)
short_result (Integer One g) fits s = tt
short_result (Integer Two g) fits s = tt
short_result (Integer Four g) fits s = fits
short_result (Pointer T) fits s = tt
short_result (Array T c) fits s = fits
short_result (Struct n) fits s = fits

assigned_scalar : (x : Operand) (T : CType) → IsTrue (is_assignable x T) → IsTrue (is_scalar T)
assigned_scalar x T is = by (or_cases (is_integer x.type && is_integer T) (is_pointer T && (type_eq x.type T || is_zero x)) is)
  where
    of_integer : (U : CType) → IsTrue (is_integer U) → IsTrue (is_scalar U)
    of_integer Void i = i
    of_integer (Integer s g) i = refl
    of_integer (Pointer V) i = refl
    of_integer (Array V c) i = i
    of_integer (Struct n) i = i

    of_pointer : (U : CType) → IsTrue (is_pointer U) → IsTrue (is_scalar U)
    of_pointer Void i = i
    of_pointer (Integer s g) i = refl
    of_pointer (Pointer V) i = refl
    of_pointer (Array V c) i = i
    of_pointer (Struct n) i = i

    by : IsTrue (is_integer x.type && is_integer T) ⊎ IsTrue (is_pointer T && (type_eq x.type T || is_zero x)) → IsTrue (is_scalar T)
    by (inl i) = of_integer T (and_parts (is_integer x.type) (is_integer T) i).1
    by (inr i) = of_pointer T (and_parts (is_pointer T) (type_eq x.type T || is_zero x) i).0

-- ---- statements

module _ (order : List Called) (n : ℕ) (body : Body) (fits : ResultFits body.result) (all : List ℕ)
    (known : (name g : ℕ) (x : Signature) → meaning_of body.scope name ≡ Some (Code g x) → Contains all g → IsKnownCaller order n g) where
  abbrev looping : Bool → Body
  looping in_loop = record body { in_loop = in_loop }

  abbrev AreCalled : List ℕ → Type 0
  AreCalled calls = (g : ℕ) → Contains calls g → Contains all g

  return_fits : (in_loop : Bool) (e : Option Expr) → IsReturn (looping in_loop) e → ReturnFits body.result e
  return_fits in_loop None k = k
  return_fits in_loop (Some e) k = short_result body.result fits (assigned_scalar (operand e) body.result k.1)

  mutual
    statement_formed : {L : Type 0} (in_loop : Bool) (s : Stmt L) → IsTypedStatement (looping in_loop) (stmt_without s) → AreCalled (stmt_calls s) → IsFormed order n body.result in_loop s
    statement_formed in_loop (Empty a) k c = tt
    statement_formed in_loop (Block left inner right) k c = statements_formed in_loop inner k c
    statement_formed in_loop (Assign x a) k c = tt
    statement_formed in_loop (ReadPort target equals port a) k c = tt
    statement_formed in_loop (WritePort port equals e a) k c = tt
    statement_formed in_loop (CallOf x a back) k c = known x.name.number x.function k.0 k.1 (c x.function (0, omega arith, refl))
    statement_formed in_loop (If test one x other) k c = statement_formed in_loop x k.1 c
    statement_formed in_loop (IfElse test one x a other y) k c = (
      statement_formed in_loop x k.1 (λ g there. c g (Contains-append_left (stmt_calls x) (stmt_calls y) g there)),
      statement_formed in_loop y k.2 (λ g there. c g (Contains-append_right (stmt_calls x) (stmt_calls y) g there)),
    )
    statement_formed in_loop (While test turn x after) k c = statement_formed true x k.1 c
    statement_formed in_loop (Do keyword x test again a after) k c = statement_formed true x k.0 c
    statement_formed in_loop (For head turn x after) k c = statement_formed true x k.1 c
    statement_formed in_loop (Break keyword a) k c = k
    statement_formed in_loop (Continue keyword a) k c = k
    statement_formed in_loop (Return keyword e a) k c = return_fits in_loop e k

    pub statements_formed : {L : Type 0} (in_loop : Bool) (s : Stmts L) → AreTyped (looping in_loop) (stmts_without s) → AreCalled (stmts_calls s) → AreFormed order n body.result in_loop s
    statements_formed in_loop NoStmts k c = tt
    statements_formed in_loop (Then earlier last) k c = (
      statements_formed in_loop earlier k.0 (λ g there. c g (Contains-append_left (stmts_calls earlier) (stmt_calls last) g there)),
      statement_formed in_loop last k.1 (λ g there. c g (Contains-append_right (stmts_calls earlier) (stmt_calls last) g there)),
    )

-- ---- parameters

-- the bytes of the parameters, over the structs so far and over all
pub parameters_bytes : (structs all : List StructType) → ((T : CType) → IsTrue (is_known (length structs) T) → size_of structs T ≡ size_of all T)
    → (addressed : ℕ → Bool) (n blocks scalars : ℕ) (ds : List Declared) (more : List Own) (xs : List Variable') → map without_address xs ≡ variables_from addressed n blocks scalars (map (parameter_own structs) ds ++ more)
    → AreKnownTags structs (length structs) ds → IsTrue (are_parameters structs ds) → sum_by (scalar_bytes all) (take (length ds) xs) ≡ bytes_of structs (map (declared_type structs) ds)
parameters_bytes structs all same addressed n blocks scalars [] more xs is tags are = refl
parameters_bytes structs all same addressed n blocks scalars (d ∷ ds) more [] is tags are = absurd cc
parameters_bytes structs all same addressed n blocks scalars (d ∷ ds) more (x ∷ xs) is tags are =
    let parts = and_parts (is_parameter structs d) (are_parameters structs ds) are in
    let one = and_parts (is_object_words (named_type structs d.specifiers)) (is_scalar (declared_type structs d)) parts.0 in
    let k = length structs in
    let known = pointers_known (length structs) d.stars (named_type structs d.specifiers) (named_known structs (length structs) d.specifiers tags.0 one.0) in
    let type : x.type ≡ declared_type structs d = ap (λ (v : Variable'). v.type) (first is) in
    let scalar : is_scalar x.type ≡ true = ap is_scalar type ∙ one.1 in
    let here : scalar_bytes all x ≡ size_of structs (declared_type structs d) =
    ap (λ (s : Bool). if s then size_of all x.type else 0) scalar ∙ ap (size_of all) type ∙ sym (same (declared_type structs d) known)
    in
    sum_by-cons (scalar_bytes all) x (take (length ds) xs)
    ∙ ap₂ (λ a b. a + b) here (parameters_bytes structs all same addressed (suc n) (counted (has_block addressed n (declared_type structs d)) blocks) (counted (is_scalar (declared_type structs d)) scalars) ds more xs (rest is) tags.1 parts.1)
  where
    first : map without_address (x ∷ xs) ≡ variables_from addressed n blocks scalars (parameter_own structs d ∷ (map (parameter_own structs) ds ++ more))
        → without_address x ≡ record { name = d.name; type = declared_type structs d; home = home_of (has_block addressed n (declared_type structs d)) blocks scalars; address = 0 }
    first e = cc

    rest : map without_address (x ∷ xs) ≡ variables_from addressed n blocks scalars (parameter_own structs d ∷ (map (parameter_own structs) ds ++ more))
        → map without_address xs ≡ variables_from addressed (suc n) (counted (has_block addressed n (declared_type structs d)) blocks) (counted (is_scalar (declared_type structs d)) scalars) (map (parameter_own structs) ds ++ more)
    rest e = cc
