-- The operand of `&` has an address: it is a variable whose address is taken, which is in a block, or a place that is no variable.
use Rattle.std.proofs.Common.{◌≡◌, ℕ, Bool, true, false, not, IsTrue, ◌||◌, List, ◌++◌, Some, refl, arith}
use Rattle.std.specs.Prelude.{slice_get, Contains}
use Rattle.std.proofs.lemmas.Bool.{false≢true}
use Rattle.std.proofs.lemmas.List.Elements.{Contains-append_left, Contains-append_right}
use Rattle.clight_source.specs.declared.tree.PrefixOperator.TheVariants.{Negate, Complement, Not as NotPrefix, Dereference, AddressOf}
use Rattle.c_types.specs.Types.{CType}
use Rattle.c_types.specs.Kinds.{is_scalar}
use Rattle.clight_syntax.specs.TypedTrees.{Expr, Variable, Number, Parenthesis, Binary, Prefix, Cast, Index, Select, TypedProgram}
use Rattle.clight_types.specs.Operands.{is_place}
use Rattle.clight_types.specs.Assignable.{variable_of}
use Rattle.clight_types.specs.Scopes.{Scope, Object, meaning_of}
use Rattle.clight_types.specs.Expressions.{HasType}
use Rattle.clight_typing.specs.Functions.{has_block}
use Rattle.clight_typing.specs.Statements.{option_list}
use Rattle.clight_programs.specs.Expressions.{IsInRam, HasAddress}

-- the variables of these numbers have their address taken
abbrev pub AreTaken : (ℕ → Bool) → List ℕ → Type 0
AreTaken is_taken taken = (n : ℕ) → Contains taken n → IsTrue (is_taken n)

pub taken_first : (is_taken : ℕ → Bool) (xs ys : List ℕ) → AreTaken is_taken (xs ++ ys) → AreTaken is_taken xs
taken_first is_taken xs ys all n there = all n (Contains-append_left xs ys n there)

pub taken_last : (is_taken : ℕ → Bool) (xs ys : List ℕ) → AreTaken is_taken (xs ++ ys) → AreTaken is_taken ys
taken_last is_taken xs ys all n there = all n (Contains-append_right xs ys n there)

module _ {L : Type 0} (p : TypedProgram L) (scope : Scope) (is_taken : ℕ → Bool)
    (in_ram : (name n : ℕ) (T : CType) → meaning_of scope name ≡ Some (Object n T) → IsTrue (has_block is_taken n T) → IsInRam (slice_get p.variables n)) where
  taken_has_block : (n : ℕ) (T : CType) → IsTrue (is_taken n) → IsTrue (has_block is_taken n T)
  taken_has_block n T is = by (not (is_scalar T)) (is_taken n) is
    where
      by : (a b : Bool) → IsTrue b → IsTrue (a || b)
      by true b i = refl
      by false b i = i

  pub has_address : (e : Expr) → HasType scope e → IsTrue (is_place e) → AreTaken is_taken (option_list (variable_of e)) → HasAddress p e
  has_address (Variable T n name) h place taken = in_ram name.number n T h (taken_has_block n T (taken n (0, omega arith, refl)))
  has_address (Number T number span) h place taken = absurd (false≢true place)
  has_address (Parenthesis T left e right) h place taken = has_address e h.0 place taken
  has_address (Binary T l operator at r) h place taken = absurd (false≢true place)
  has_address (Prefix T Negate at e) h place taken = absurd (false≢true place)
  has_address (Prefix T Complement at e) h place taken = absurd (false≢true place)
  has_address (Prefix T Dereference at e) h place taken = tt
  has_address (Prefix T AddressOf at e) h place taken = absurd (false≢true place)
  has_address (Prefix T NotPrefix at e) h place taken = absurd (false≢true place)
  has_address (Cast T left words right e) h place taken = absurd (false≢true place)
  has_address (Index T base left index right) h place taken = tt
  has_address (Select T e operator at member offset) h place taken = tt
