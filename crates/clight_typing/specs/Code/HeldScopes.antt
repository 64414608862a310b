-- The scope that the checker holds, as definitions speak of it.
use Rattle.std.specs.Prelude.{ℕ, Option, Some, None, map, nat_eq}
use Rattle.std.specs.Option.{option_map}
use Rattle.c_types.specs.Types.{type_of}
use Rattle.clight_names.specs.NameFaults.{or_else}
use Rattle.clight_types.specs.Scopes.{Signature, Meaning, Meanings, Named, Object, Code, Scope, declare, visible}
use Rattle.clight_typing.specs.declared.scope.Signature.{Signature as HeldSignature}
use Rattle.clight_typing.specs.declared.scope.Meaning.{Meaning as HeldMeaning}
use Rattle.clight_typing.specs.declared.scope.Meaning.TheVariants as m
use Rattle.clight_typing.specs.declared.scope.Scope.{Scope as HeldScope}
use Rattle.indexmap.specs.IndexMap.{get}
use Rattle.clight_types.specs.Code.HeldStructs.{structs_of}

abbrev pub signature_for : HeldSignature → Signature
signature_for x = record { result = type_of x.result; parameters = map type_of x.parameters.items }

abbrev pub meaning_for : HeldMeaning → Meaning
meaning_for (m.Object variable type) = Object variable (type_of type)
meaning_for (m.Code function signature) = Code function (signature_for signature)

abbrev pub scope_of : HeldScope → Scope
scope_of x = record {
  structs = structs_of x.structs;
  meaning = λ name. or_else (option_map meaning_for (get nat_eq x.locals name)) (option_map meaning_for (get nat_eq x.file name));
}

-- what the names mean that are declared in the file
abbrev pub file_names : HeldScope → Meanings
file_names x name = option_map meaning_for (get nat_eq x.file name)

abbrev pub named : ℕ → HeldMeaning → Named
named name meaning = record { name = name; meaning = meaning_for meaning }

-- the scope behind one more declaration
abbrev pub declared_in : Named → Scope → Scope
declared_in x scope = visible scope.structs (declare x scope.meaning)
