-- How many bytes the globals and the frames of functions have in external RAM, and where variables lie in them: one after the other,
-- in the order of their declarations.
use Rattle.std.specs.Prelude.{ℕ, ◌+◌, Bool, true, false, List, [], ◌∷◌, ◌++◌, take, drop, if◌then◌else◌}
use Rattle.clight_syntax.specs.declared.typed.Home.{Home}
use Rattle.clight_syntax.specs.declared.typed.Home.TheVariants as h
use Rattle.c_types.specs.Types.{StructType, size_of}
use Rattle.clight_syntax.specs.TypedTrees.{Function, Variable', own_count, own_variables}
use Rattle.clight_layout.specs.declared.sizes.Area.{Area}
use Rattle.clight_layout.specs.declared.sizes.Area.TheVariants.{Globals, Frame}

-- it lies among the globals, or in the frame of its function
abbrev pub lies_in : Area → Home → Bool
lies_in Globals (h.Global n) = true
lies_in Frame (h.Block n) = true
lies_in area home = false

-- the bytes of a variable in such an area
abbrev pub room_of : Area → List StructType → Variable' → ℕ
room_of area structs x = if lies_in area x.home then size_of structs x.type else 0

abbrev pub bytes_of : Area → List StructType → List Variable' → ℕ
bytes_of area structs [] = 0
bytes_of area structs (x ∷ rest) = room_of area structs x + bytes_of area structs rest

abbrev pub at_address : ℕ → Variable' → Variable'
at_address address x = record x { address = address }

-- the variables of an area lie from this address on, one after the other, and the others where they did
abbrev pub placed : Area → List StructType → ℕ → List Variable' → List Variable'
placed area structs at [] = []
placed area structs at (x ∷ rest) = (if lies_in area x.home then at_address at x else x) ∷ placed area structs (at + room_of area structs x) rest

abbrev pub frame_bytes : {L : Type 0} → List StructType → List Variable' → Function L → ℕ
frame_bytes structs variables f = bytes_of Frame structs (own_variables f variables)

-- the frame of a function lies from this address on
abbrev pub with_frame : {L : Type 0} → List StructType → Function L → ℕ → List Variable' → List Variable'
with_frame structs f at variables =
    take f.first_variable variables ++ (placed Frame structs at (own_variables f variables) ++ drop (own_count f) (drop f.first_variable variables))

-- the frames of functions lie from these addresses on
abbrev pub with_frames : {L : Type 0} → List StructType → List (Function L) → List ℕ → List Variable' → List Variable'
with_frames structs [] starts variables = variables
with_frames structs (f ∷ rest) [] variables = variables
with_frames structs (f ∷ rest) (at ∷ starts) variables = with_frames structs rest starts (with_frame structs f at variables)
