-- A sound program, laid out and labelled, is a checked one.
use Rattle.std.proofs.Common.{◌≡◌, ℕ, zero, suc, ◌<◌, Bool, true, false, IsTrue, List, [], ◌∷◌, length, Option, Some, None, Ok, refl, sym, ap, subst, ◌∙◌, arith}
use Rattle.std.specs.Prelude.{slice_get, if◌then◌else◌, IfOk}
use Rattle.std.proofs.lemmas.Option.{none-some, same_Some, slice_get_within}
use Rattle.clight_source.specs.Trees.{Program}
use Rattle.clight_names.specs.Regions.{has_name, defines}
use Rattle.clight_names.specs.Occurrences.{all_names}
use Rattle.clight_names.specs.Spellings.{main_name}
use Rattle.clight_names.specs.NameFaults.{NameFault, first_wrong, missing_main, or_else, first_name_fault}
use Rattle.clight_syntax.specs.TypedTrees.{Function, TypedProgram}
use Rattle.clight_layout.specs.Layout.{IsLayout}
use Rattle.clight_types.specs.Scopes.{Object, Code}
use Rattle.clight_typing.specs.Functions.{function_number}
use Rattle.clight_typing.specs.Programs.{IsWellTyped, definitions, no_file}
use Rattle.clight_typing.specs.Sources.{program_source}
use Rattle.clight_typing.specs.TypedPrograms.{typed_program}
use Rattle.clight_typing.specs.Laws.{IsTypingOf}
use Rattle.clight_typing.proofs.TypingLaws as typing
use Rattle.checked_programs.specs.Named.{HasNames}
use Rattle.checked_programs.specs.Laws.{SoundIsChecked}
use Rattle.checked_programs.proofs.Visits.{walk}
use Rattle.checked_programs.proofs.Assembly.{checked}
use Rattle.checked_programs.proofs.NamesFit.{defined_listed, number_of_listed, walk_names}

both_none : (x y : Option NameFault) → or_else x y ≡ None → (x ≡ None) × (y ≡ None)
both_none (Some f) y e = absurd (none-some f (sym e))
both_none None y e = (refl, e)

there : (b : Bool) (f : NameFault) → (if b then None else Some f) ≡ None → IsTrue b
there true f e = refl
there false f e = absurd (none-some f (sym e))

function_there : (fs : List (Function (Unit {0}))) (i : ℕ) → i < length fs → (f : Function (Unit {0})) × (slice_get fs i ≡ Some f)
function_there [] i lt = absurd (omega arith)
function_there (f ∷ fs) zero lt = (f, refl)
function_there (f ∷ fs) (suc i) lt = function_there fs i (omega arith)

-- a well-typed program none of whose names is wrong has right names
pub names_fit : (t : TypedProgram (Unit {0})) → IsWellTyped t → first_name_fault (program_source t) ≡ None → HasNames t (definitions (program_source t).items)
names_fit t well none =
    let parts = both_none (first_wrong (program_source t).names (all_names (program_source t)) [] (all_names (program_source t))) (missing_main (program_source t) (all_names (program_source t))) none in
    let listed : (name : ℕ) → IsTrue (has_name defines (all_names (program_source t)) name) → slice_get (definitions (program_source t).items) (function_number (definitions (program_source t).items) name) ≡ Some name =
    λ name e. let at = defined_listed 0 (program_source t).items name e in number_of_listed (definitions (program_source t).items) at.0 name at.1
    in
    let w = walk_names t.names (all_names (program_source t)) parts.0 t.functions (definitions (program_source t).items) listed (no_file (definitions (program_source t).items)) t.items t.functions well.end well.items refl
    0 [] refl [] refl refl [] refl refl (record { tags = λ tag e. absurd cc; names = λ name m e. absurd (none-some m e); functions = λ k name e. absurd (none-some name e) })
    in
    let walked = walk (no_file (definitions (program_source t).items)) t.items t.functions well.end well.items w.named [] t.items refl (record {
      laid = λ number s is. absurd (none-some s is);
      count = refl;
      objects = λ name n T e. absurd (none-some (Object n T) e);
      codes = λ name g x e. absurd (none-some (Code g x) e);
    }) in
    let main_listed = listed (main_name t.names) (there (has_name defines (all_names (program_source t)) (main_name t.names)) _ parts.1) in
    let main_at : slice_get (definitions (program_source t).items) t.main ≡ Some (main_name t.names) =
    ap (slice_get (definitions (program_source t).items)) (well.main ∙ ap (λ ds. function_number ds (main_name t.names)) walked.grows.definitions) ∙ main_listed
    in
    let lt : t.main < length t.functions = let k = slice_get_within (definitions (program_source t).items) t.main (main_name t.names) main_at in let c = w.count in omega arith in
    let main = function_there t.functions t.main lt in
    let v = walked.visits t.main main.0 main.1 in
    let name_at : slice_get (definitions (program_source t).items) t.main ≡ Some main.0.header.declared.name.number =
    ap (λ ds. slice_get ds t.main) (sym walked.grows.definitions ∙ v.grows.definitions) ∙ ap (slice_get v.file.definitions) (sym (v.number ∙ omega arith)) ∙ v.name_at
    in
    record { named = w.named; count = w.count; main = main.0; main_is = main.1; plain = w.plain t.main main.0 main.1 (same_Some _ _ (sym name_at ∙ main_at)) }

-- what a source is given is well typed, and has it as its source
typing_of : (source : Program) (t : TypedProgram (Unit {0})) → typed_program source ≡ Ok t → IsTypingOf source t
typing_of source t given = subst (λ r. IfOk r (IsTypingOf source)) given (typing.sound source)

pub sound_checked : SoundIsChecked
sound_checked source t p sound labelled =
    let given = typing_of source sound.typed sound.typing in
    let names = names_fit sound.typed given.0 (ap first_name_fault given.1 ∙ sound.names) in
    checked p sound.typed given.0 (definitions (program_source sound.typed).items) given.0.items names (subst (IsLayout sound.typed) (sym labelled.typed_alone) sound.layout)
