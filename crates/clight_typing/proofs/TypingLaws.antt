-- The laws of typing.
use Rattle.std.proofs.Common.{◌≡◌, ◌∙◌, Result, Ok, Err, refl, sym, ap}
use Rattle.clight_source.specs.Trees.{Program}
use Rattle.clight_typing.specs.Programs.{IsWellTyped, without_layout}
use Rattle.clight_typing.specs.Sources.{program_source}
use Rattle.clight_types.specs.TypedExpressions.{Checked, TypeFault}
use Rattle.clight_typing.specs.TypedPrograms.{typed_program}
use Rattle.clight_typing.specs.Laws.{Tree, IsTypingOf, TypingIsSound, TypingIsComplete, RefusalsAreRight, TypingIsUnique}
use Rattle.clight_typing.proofs.TypedProgramLaws.{program_right, program_given}

pub sound : TypingIsSound
sound = program_right

pub complete : TypingIsComplete
complete = program_given

given_for : (p : Program) (t : Tree) → IsTypingOf p t → typed_program p ≡ Ok (without_layout t)
given_for p t h = ap typed_program (sym h.1) ∙ program_given t h.0

not_both : (x : Checked Tree) (f : TypeFault) (t : Tree) → x ≡ Err f → x ≡ Ok t → ⊥
not_both x f t e o = cc

pub refusals : RefusalsAreRight
refusals p f refused t h = not_both (typed_program p) f (without_layout t) refused (given_for p t h)

same_tree : (x : Checked Tree) (t u : Tree) → x ≡ Ok t → x ≡ Ok u → t ≡ u
same_tree x t u e o = cc

pub unique : TypingIsUnique
unique p t u h g = same_tree (typed_program p) (without_layout t) (without_layout u) (given_for p t h) (given_for p u g)
