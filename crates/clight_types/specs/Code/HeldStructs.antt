-- The structs that the checker holds, as definitions speak of them.
use Rattle.std.specs.Prelude.{List, map}
use Rattle.c_types.specs.Types.{StructType, struct_type_of}
use Rattle.clight_types.specs.declared.structs.Structs.{Structs}

abbrev pub structs_of : Structs → List StructType
structs_of x = map struct_type_of x.types.items
