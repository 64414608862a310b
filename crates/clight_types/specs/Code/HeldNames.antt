-- The names of members that the checker holds, as definitions speak of them.
use Rattle.std.specs.Prelude.{ℕ, List}
use Rattle.clight_types.specs.declared.names.MemberNames.{MemberNames}

abbrev pub names_in : MemberNames → List ℕ
names_in x = x.names
