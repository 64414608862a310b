-- The two texts of an object, computed on small objects.
use Rattle.std.proofs.Common.{◌≡◌, ◌++◌, ◌∷◌, [], codes, replicate, refl}
use Rattle.std.specs.Fmt.{digits}
use Rattle.hex.specs.Hex.{encode_with}
use Rattle.object_hex.specs.HexText.{hex_text}
use Rattle.object_hex.specs.MapText.{map_text}

-- the object of `void main(void){}`: MOV SP,#7FH; LCALL 0008H; SJMP $; NOP; RET
hex_of_main : hex_text (0x75 ∷ 0x81 ∷ 0x7F ∷ 0x12 ∷ 0x00 ∷ 0x08 ∷ 0x80 ∷ 0xFE ∷ 0x00 ∷ 0x22 ∷ []) ≡ codes ":0A00000075817F12000880FE0022C7\n:00000001FF\n"
unfolding encode_with
hex_of_main = refl

map_of_main : map_text (8 ∷ []) ≡ codes "0 0008\n"
unfolding encode_with digits
map_of_main = refl

no_code : hex_text [] ≡ codes ":00000001FF\n"
unfolding encode_with
no_code = refl

-- seventeen bytes take two records
seventeen_bytes : hex_text (replicate 17 0xA0) ≡ codes ":10000000A0A0A0A0A0A0A0A0A0A0A0A0A0A0A0A0F0\n:01001000A04F\n:00000001FF\n"
unfolding encode_with
seventeen_bytes = refl

no_labels : map_text [] ≡ []
no_labels = refl

eleven_labels : map_text (replicate 10 0xFFFF ++ 0x1A ∷ []) ≡ codes "0 FFFF\n1 FFFF\n2 FFFF\n3 FFFF\n4 FFFF\n5 FFFF\n6 FFFF\n7 FFFF\n8 FFFF\n9 FFFF\n10 001A\n"
unfolding encode_with digits
eleven_labels = refl
