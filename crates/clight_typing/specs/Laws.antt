-- What is promised of the typing of programs: a program is given a typed tree exactly where it is the source of a well-typed one
-- (ISO/IEC 9899:1999, 6.5 to 6.9), and then it is given that one; so types, and what names mean, are determined.
use Rattle.std.specs.Prelude.{◌≡◌, IfOk, Result, Ok, Err}
use Rattle.cerco_base.specs.declared.reasons.Fault.{Fault}
use Rattle.cerco_base.specs.declared.reasons.Fault.TheVariants.{Refused}
use Rattle.clight_source.specs.Trees.{Program}
use Rattle.clight_syntax.specs.TypedTrees.{TypedProgram}
use Rattle.clight_typing.specs.Programs.{IsWellTyped, without_layout}
use Rattle.clight_typing.specs.Sources.{program_source}
use Rattle.clight_types.specs.TypedExpressions.{TypeFault}
use Rattle.clight_typing.specs.TypedPrograms.{typed_program}

abbrev pub Tree : Type 0
Tree = TypedProgram (Unit {0})

-- a well-typed program of this source
abbrev pub IsTypingOf : Program → Tree → Type 0
IsTypingOf p t = IsWellTyped t × (program_source t ≡ p)

-- what a program is given is well typed, and the program is its source
abbrev pub TypingIsSound : Type 0
TypingIsSound = (p : Program) → IfOk (typed_program p) (IsTypingOf p)

-- each well-typed program is, without its layout, what its source is given
abbrev pub TypingIsComplete : Type 0
TypingIsComplete = (t : Tree) → IsWellTyped t → typed_program (program_source t) ≡ Ok (without_layout t)

-- a refused program is the source of no well-typed one
abbrev pub RefusalsAreRight : Type 0
RefusalsAreRight = (p : Program) (f : TypeFault) → typed_program p ≡ Err f → (t : Tree) → IsTypingOf p t → ⊥

-- two well-typed programs of one source differ in nothing but their layout
abbrev pub TypingIsUnique : Type 0
TypingIsUnique = (p : Program) (t u : Tree) → IsTypingOf p t → IsTypingOf p u → without_layout t ≡ without_layout u

-- no well-typed program has this source
abbrev pub HasNoTyping : Program → Type 0
HasNoTyping p = (t : Tree) → IsTypingOf p t → ⊥

-- where a part of a program has no type
abbrev pub IfRefused : {A : Type 0} → Result A Fault → Type 0 → Type 0
IfRefused (Err (Refused reason)) P = P
IfRefused result P = Unit {0}
