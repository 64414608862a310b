-- Walks along lists: what is left to do is that of what is left of the list.
use Rattle.std.proofs.Common.{◌≡◌, ℕ, suc, ◌+◌, ◌<◌, Bool, true, false, List, [], ◌∷◌, ◌++◌, length, drop, get_or, Result, Ok, Err, refl, sym, ap, ◌∙◌, arith, append_assoc, length-append}
use Rattle.std.specs.Prelude.{if◌then◌else◌}
use Rattle.cerco_base.specs.declared.events.FaultKind.{FaultKind}
use Rattle.clight_syntax.specs.declared.typed.Variable.{Variable}
use Rattle.c_types.specs.Types.{type_of}
use Rattle.clight_syntax.specs.TypedTrees.{Expr, TypedProgram, type_at}
use Rattle.clight_values.specs.declared.value.Value.{Value}
use Rattle.clight_meaning.specs.declared.calls.Missing.{Missing}
use Rattle.clight_meaning.specs.declared.calls.Missing.TheVariants as missing
use Rattle.clight_values.specs.Memory.{Answer, State, initial}
use Rattle.clight_meaning.specs.Expressions.{value}
use Rattle.clight_meaning.specs.Meaning.{initials, joined, argument_values, converted_answer, variable_type}
use Rattle.c_types.specs.Kinds.{is_scalar}
use Rattle.clight_meaning.specs.Code.Missing.{MayMiss, AddsArgument}
use Rattle.clight_values.proofs.Walks.{opened}
use Rattle.clight_values.specs.Code.Views.{variables_held}

-- ---- the first values of scalars

pub initials_scalar : (xs : List Variable) (i : ℕ) (x : Variable) (vs all : List Value) → i < length xs → x ≡ get_or xs i x → is_scalar (type_of x.ty) ≡ true
    → all ≡ vs ++ initials (variables_held (drop i xs)) → all ≡ (vs ++ initial (type_of x.ty) ∷ []) ++ initials (variables_held (drop (i + 1) xs))
initials_scalar xs i x vs all lt is scalar h =
    h ∙ ap (λ ys. vs ++ initials (variables_held ys)) (opened xs i x lt is)
    ∙ ap (λ (b : Bool). vs ++ (if b then initial (type_of x.ty) ∷ initials (variables_held (drop (i + 1) xs)) else initials (variables_held (drop (i + 1) xs)))) scalar
    ∙ sym (append_assoc vs (initial (type_of x.ty) ∷ []) (initials (variables_held (drop (i + 1) xs))))

pub initials_other : (xs : List Variable) (i : ℕ) (x : Variable) (vs all : List Value) → i < length xs → x ≡ get_or xs i x → is_scalar (type_of x.ty) ≡ false
    → all ≡ vs ++ initials (variables_held (drop i xs)) → all ≡ vs ++ initials (variables_held (drop (i + 1) xs))
initials_other xs i x vs all lt is scalar h =
    h ∙ ap (λ ys. vs ++ initials (variables_held ys)) (opened xs i x lt is)
    ∙ ap (λ (b : Bool). vs ++ (if b then initial (type_of x.ty) ∷ initials (variables_held (drop (i + 1) xs)) else initials (variables_held (drop (i + 1) xs)))) scalar

-- ---- arguments

-- values before others, or their fault
abbrev pub after : List Value → Result (List Value) FaultKind → Result (List Value) FaultKind
after vs (Err k) = Err k
after vs (Ok ws) = Ok (vs ++ ws)

pub after-nil : (r : Result (List Value) FaultKind) → r ≡ after [] r
after-nil (Err k) = refl
after-nil (Ok ws) = refl

after-joined : (vs : List Value) (x : Value) (r : Result (List Value) FaultKind) → after vs (joined (Ok x) r) ≡ after (vs ++ x ∷ []) r
after-joined vs x (Err k) = refl
after-joined vs x (Ok ws) = let made : List Value → Result (List Value) FaultKind = λ l. Ok l in ap made (sym (append_assoc vs (x ∷ []) ws))

-- the value of the next argument
abbrev pub next_argument : {L : Type 0} → TypedProgram L → Expr → ℕ → State → Answer
next_argument p e n st = converted_answer (type_at e) (variable_type p n) (value p e st)

module _ {L : Type 0} (p : TypedProgram L) (e : Expr) (es : List Expr) (first : ℕ) (st : State) (vs : List Value) (all : Result (List Value) FaultKind) where
  pub argument_added : (r : Answer) (ws : List Value) → AddsArgument r vs ws → all ≡ after vs (joined r (argument_values p es (suc (first + length vs)) st))
      → all ≡ after ws (argument_values p es (first + length ws) st)
  argument_added (Err k) ws h is = absurd h
  argument_added (Ok x) ws h is =
      let n : suc (first + length vs) ≡ first + length ws = (let a = ap length h in let b = length-append vs (x ∷ []) in omega arith) in
      is ∙ ap (λ m. after vs (joined (Ok x) (argument_values p es m st))) n ∙ after-joined vs x (argument_values p es (first + length ws) st)
      ∙ ap (λ us. after us (argument_values p es (first + length ws) st)) (sym h)

  pub argument_missed : (r : Answer) (why : Missing) → MayMiss r why → all ≡ after vs (joined r (argument_values p es (suc (first + length vs)) st)) → MayMiss all why
  argument_missed r (missing.Fault k) h is = is ∙ ap (λ q. after vs (joined q (argument_values p es (suc (first + length vs)) st))) h
  argument_missed r missing.Memory h is = tt
