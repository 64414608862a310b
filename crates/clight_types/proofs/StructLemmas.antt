-- Structs and members stand at the first places of their tags and names.
use Rattle.std.proofs.Common.{◌≡◌, ◌∙◌, ℕ, suc, ◌+◌, Bool, true, false, List, [], ◌∷◌, nat_eq, Some, refl, sym, ap, arith}
use Rattle.std.specs.Prelude.{if◌then◌else◌, slice_get, Option, None}
use Rattle.std.specs.Option.{option_map}
use Rattle.std.proofs.lemmas.Option.{slice_get-map}
use Rattle.c_types.specs.Types.{Struct, Member, StructType}
use Rattle.clight_types.specs.Declarations.{struct_number}
use Rattle.clight_types.specs.FoundStructs.{tags_of, names_of, all_names_of}
use Rattle.clight_types.specs.Places.{place_among}
use Rattle.clight_types.specs.Scopes.{member_in, member_of}

pub number_at : (structs : List StructType) (tag : ℕ) → place_among (tags_of structs) tag ≡ struct_number structs tag
number_at [] tag = refl
number_at (s ∷ rest) tag = at (nat_eq s.tag tag) (number_at rest tag)
  where
    at : (b : Bool) → place_among (tags_of rest) tag ≡ struct_number rest tag → (if b then 0 else suc (place_among (tags_of rest) tag)) ≡ (if b then 0 else 1 + struct_number rest tag)
    at true h = refl
    at false h = let next : suc (struct_number rest tag) ≡ 1 + struct_number rest tag = omega arith in ap suc h ∙ next

pub member_at : (members : List Member) (name : ℕ) → slice_get members (place_among (names_of members) name) ≡ member_in members name
member_at [] name = refl
member_at (x ∷ rest) name = at (nat_eq x.name name) (member_at rest name)
  where
    at : (b : Bool) → slice_get rest (place_among (names_of rest) name) ≡ member_in rest name → slice_get (x ∷ rest) (if b then 0 else suc (place_among (names_of rest) name)) ≡ (if b then Some x else member_in rest name)
    at true h = refl
    at false h = h

module _ (structs : List StructType) (number name : ℕ) where
  pub no_struct : slice_get structs number ≡ None → None ≡ member_of structs (Struct number) name
  no_struct e = ap (λ (found : Option StructType). elim found [ Some s ↦ member_in s.members name | None ↦ None ]) (sym e)

  named : (names : List (List ℕ)) → names ≡ all_names_of structs → slice_get names number ≡ option_map (λ s. names_of s.members) (slice_get structs number)
  named names all = ap (λ xs. slice_get xs number) all ∙ slice_get-map (λ s. names_of s.members) structs number

  pub no_names : (names : List (List ℕ)) → names ≡ all_names_of structs → slice_get names number ≡ None → None ≡ member_of structs (Struct number) name
  no_names names all none = at (slice_get structs number) refl
    where
      at : (found : Option StructType) → slice_get structs number ≡ found → None ≡ member_of structs (Struct number) name
      at (Some s) e = absurd (let h = named names all in let g : option_map (λ s. names_of s.members) (slice_get structs number) ≡ Some (names_of s.members) = ap (option_map (λ s. names_of s.members)) e in cc)
      at None e = no_struct e

  pub member_is : (names : List (List ℕ)) (s : StructType) (found : List ℕ) → names ≡ all_names_of structs → slice_get structs number ≡ Some s → slice_get names number ≡ Some found
      → slice_get s.members (place_among found name) ≡ member_of structs (Struct number) name
  member_is names s found all e f =
      let same : found ≡ names_of s.members = (let h = named names all in let g : option_map (λ s. names_of s.members) (slice_get structs number) ≡ Some (names_of s.members) = ap (option_map (λ s. names_of s.members)) e in cc) in
      ap (λ xs. slice_get s.members (place_among xs name)) same
      ∙ member_at s.members name
      ∙ ap (λ (o : Option StructType). elim o [ Some s ↦ member_in s.members name | None ↦ None ]) (sym e)
