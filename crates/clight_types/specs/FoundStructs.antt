-- The names by which structs and their members are found.
use Rattle.std.specs.Prelude.{ℕ, List, map}
use Rattle.c_types.specs.Types.{Member, StructType}

-- the tags of structs, in order
abbrev pub tags_of : List StructType → List ℕ
tags_of structs = map (λ s. s.tag) structs

-- the names of members, in order
abbrev pub names_of : List Member → List ℕ
names_of members = map (λ member. member.name) members

-- those of each struct
abbrev pub all_names_of : List StructType → List (List ℕ)
all_names_of structs = map (λ s. names_of s.members) structs
