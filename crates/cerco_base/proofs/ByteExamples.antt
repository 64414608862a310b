-- Sums and differences of bytes, by which the definitions are tried.
use Rattle.std.proofs.Common.{◌≡◌, [], ◌∷◌, true, false, refl}
use Rattle.cerco_base.specs.Bytes.{sum_byte, carries, difference_byte, borrows, sum_bytes, carry_out, difference_bytes, borrow_out}

-- 255 + 1 is 0 with a carry, 0 - 0 less a borrow is 255 with a borrow
sum_wraps : sum_byte 255 1 false ≡ 0
unfolding sum_byte
sum_wraps = refl

sum_carries : carries 256 255 1 false ≡ true
unfolding carries
sum_carries = refl

difference_wraps : difference_byte 0 0 true ≡ 255
unfolding difference_byte
difference_wraps = refl

difference_borrows : borrows 256 0 0 true ≡ true
unfolding borrows
difference_borrows = refl

-- 12FFH + 0001H is 1300H, and 1300H - 0001H is 12FFH
words_add : sum_bytes (0xFF ∷ 0x12 ∷ []) (0x01 ∷ 0x00 ∷ []) false ≡ 0x00 ∷ 0x13 ∷ []
unfolding sum_byte carries
words_add = refl

words_subtract : difference_bytes (0x00 ∷ 0x13 ∷ []) (0x01 ∷ 0x00 ∷ []) false ≡ 0xFF ∷ 0x12 ∷ []
unfolding difference_byte borrows
words_subtract = refl

-- FFFFH + 0001H carries out, 0000H - 0001H borrows
words_carry : carry_out (0xFF ∷ 0xFF ∷ []) (0x01 ∷ 0x00 ∷ []) false ≡ true
unfolding carries
words_carry = refl

words_borrow : borrow_out (0x00 ∷ 0x00 ∷ []) (0x01 ∷ 0x00 ∷ []) false ≡ true
unfolding borrows
words_borrow = refl
