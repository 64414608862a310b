-- The values of expressions (ISO/IEC 9899:1999, 6.3 and 6.5) and the faults at which the standard leaves the behaviour undefined.
-- Expressions change nothing. They are evaluated from left to right, and the first fault is their answer. The definitions are
-- total: what no typed program holds is a fault, or nothing.
use Rattle.std.specs.Prelude.{ℕ, ◌+◌, false, Option, Some, None, Result, Ok, Err, if◌then◌else◌, slice_get, slice_set, unwrap_or}
use Rattle.cerco_base.specs.declared.events.FaultKind.{FaultKind}
use Rattle.cerco_base.specs.declared.events.FaultKind.TheVariants.{Outside}
use Rattle.clight_source.specs.declared.tree.PrefixOperator.TheVariants.{Negate, Complement, Not, Dereference, AddressOf}
use Rattle.clight_source.specs.declared.tree.MemberOperator.TheVariants.{Dot, Arrow}
use Rattle.clight_syntax.specs.declared.typed.Home.{Home}
use Rattle.clight_syntax.specs.declared.typed.Home.TheVariants.{Global, Block, Scalar}
use Rattle.c_types.specs.Types.{CType}
use Rattle.clight_syntax.specs.TypedTrees.{Expr, Variable, Number, Parenthesis, Binary, Prefix, Cast, Index, Select, type_at, Variable', TypedProgram}
use Rattle.clight_values.specs.declared.value.Value.{Value}
use Rattle.clight_values.specs.declared.value.Value.TheVariants as v
use Rattle.clight_values.specs.Memory.{Answer, Memory, Frame, State, load, stored, moved}
use Rattle.c_types.specs.Kinds.{integer_type, is_array}
use Rattle.clight_values.specs.Operators.{assigned_value, then_value, both, operated, negated, complemented, indexed}

-- ---- places

-- where a place is: a scalar of the running call, by its number, or what a pointer points to
pub data Position : Type 0 where
  InCall : (scalar : ℕ) → Position
  Behind : (pointer : Value) → Position

abbrev pub home_position : Home → Frame → Position
home_position (Global b) f = Behind (v.Pointer (record { slot = b; call = 0; offset = 0 }))
home_position (Block b) f = Behind (v.Pointer (record { slot = f.blocks + b; call = f.call; offset = 0 }))
home_position (Scalar n) f = InCall n

abbrev pub position_in : Option Variable' → Frame → Position
position_in None f = Behind v.Null
position_in (Some x) f = home_position x.home f

-- the position of the variable with this number
abbrev pub variable_position : {L : Type 0} → TypedProgram L → ℕ → Frame → Position
variable_position p n f = position_in (slice_get p.variables n) f

abbrev pub behind : Answer → Result Position FaultKind
behind (Err k) = Err k
behind (Ok w) = Ok (Behind w)

-- the pointer to a place
abbrev pub pointer_to : Result Position FaultKind → Answer
pointer_to (Err k) = Err k
pointer_to (Ok (InCall n)) = Err Outside
pointer_to (Ok (Behind w)) = Ok w

abbrev pub loaded_from : CType → Position → State → Answer
loaded_from T (InCall n) st = Ok (unwrap_or (slice_get st.frame.scalars n) (v.Integer 0))
loaded_from T (Behind w) st = load st.memory T w

abbrev pub loaded : CType → Result Position FaultKind → State → Answer
loaded T (Err k) st = Err k
loaded T (Ok at) st = loaded_from T at st

-- the value of a place of this type
abbrev pub value_at : CType → Result Position FaultKind → State → Answer
value_at T at st = if is_array T then pointer_to at else loaded T at st

abbrev pub set_scalar : ℕ → Value → State → State
set_scalar n w st = record st { frame = record st.frame { scalars = slice_set st.frame.scalars n w } }

abbrev pub with_memory : Result Memory FaultKind → State → Result State FaultKind
with_memory (Err k) st = Err k
with_memory (Ok m) st = Ok (record st { memory = m })

-- the state once a value of this type is stored at a place
abbrev pub stored_in : CType → Position → Value → State → Result State FaultKind
stored_in T (InCall n) w st = Ok (set_scalar n w st)
stored_in T (Behind p) w st = with_memory (stored st.memory T p w) st

-- ---- expressions

abbrev mutual
  -- the position of a place. Forming it is no access; where it is formed by an index or a member, that is pointer arithmetic.
  pub position : {L : Type 0} → TypedProgram L → Expr → State → Result Position FaultKind
  position p (Variable T n name) st = Ok (variable_position p n st.frame)
  position p (Parenthesis T left e right) st = position p e st
  position p (Prefix T Dereference at e) st = behind (value p e st)
  position p (Index T base left index right) st =
      behind (both (λ x i. indexed p.structs st.memory T x (integer_type (type_at index)) i) (value p base st) (value p index st))
  position p (Select T e Dot at name offset) st = behind (then_value (pointer_to (position p e st)) (λ x. moved st.memory x false offset))
  position p (Select T e Arrow at name offset) st = behind (then_value (value p e st) (λ x. moved st.memory x false offset))
  position p _ st = Err Outside

  pub value : {L : Type 0} → TypedProgram L → Expr → State → Answer
  value p (Variable T n name) st = value_at T (Ok (variable_position p n st.frame)) st
  value p (Number T number span) st = Ok (v.Integer number.value)
  value p (Parenthesis T left e right) st = value p e st
  value p (Binary T l o at r) st = both (operated p.structs st.memory o (type_at l) (type_at r)) (value p l st) (value p r st)
  value p (Prefix T Negate at e) st = then_value (value p e st) (negated (integer_type (type_at e)))
  value p (Prefix T Complement at e) st = then_value (value p e st) (complemented (integer_type (type_at e)))
  value p (Prefix T Dereference at e) st = value_at T (behind (value p e st)) st
  value p (Prefix T AddressOf at e) st = pointer_to (position p e st)
  value p (Prefix T Not at e) st = Err Outside
  value p (Cast T left words right e) st = then_value (value p e st) (assigned_value (type_at e) T)
  value p (Index T base left index right) st =
      value_at T (behind (both (λ x i. indexed p.structs st.memory T x (integer_type (type_at index)) i) (value p base st) (value p index st))) st
  value p (Select T e Dot at name offset) st = value_at T (behind (then_value (pointer_to (position p e st)) (λ x. moved st.memory x false offset))) st
  value p (Select T e Arrow at name offset) st = value_at T (behind (then_value (value p e st) (λ x. moved st.memory x false offset))) st
