-- What holds of sound programs: none is unsound, an unsound one has one first reason, and types, addresses and frames of a sound one
-- are determined.
use Rattle.std.specs.Prelude.{◌≡◌, []}
use Rattle.cerco_base.specs.declared.reasons.Reason.{Reason}
use Rattle.clight_source.specs.Trees.{Program}
use Rattle.clight_syntax.specs.TypedTrees.{TypedProgram}
use Rattle.clight_check.specs.Soundness.{IsSound, IsUnsound}

-- no program is both
abbrev pub NotBoth : Type 0
NotBoth = (p : Program) (t : TypedProgram (Unit {0})) (reason : Reason) → IsSound p t → IsUnsound p reason → ⊥

-- there is one first reason at most
abbrev pub ReasonIsUnique : Type 0
ReasonIsUnique = (p : Program) (a b : Reason) → IsUnsound p a → IsUnsound p b → a ≡ b

-- the program without the order of its calls
abbrev pub without_order : TypedProgram (Unit {0}) → TypedProgram (Unit {0})
without_order t = record t { calls = [] }

-- there is one typed tree with its layout at most, but for the order of its calls
abbrev pub TreeIsUnique : Type 0
TreeIsUnique = (p : Program) (t u : TypedProgram (Unit {0})) → IsSound p t → IsSound p u → without_order t ≡ without_order u
