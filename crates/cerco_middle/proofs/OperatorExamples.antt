-- Values of the operators on two and four bytes, and the lengths of their code.
use Rattle.std.proofs.Common.{◌≡◌, [], ◌∷◌, true, false, refl}
use Rattle.std.specs.Prelude.{map}
use Rattle.cerco_middle.specs.declared.operators.Held.TheVariants.{U8, I8, W16}
use Rattle.cerco_middle.specs.declared.operators.CmOp.TheVariants.{Add, Sub, Mul, Div, Rem, And, Or, Xor, Eq, Ne, LtS, LtU, LeS, LeU}
use Rattle.cerco_middle.specs.Operators.{kept, negated, complement, shifted_left, shifted_right, operator_value}
use Rattle.cerco_middle.specs.Lengths.{constant_length, get_length, put_length, narrow_length, load_length, store_length, difference_length, shift_left_length, shift_right_length, operator_length, argument_length, test_length}

-- ---- values

sums : operator_value 2 Add 65535 2 ∷ operator_value 4 Add 65535 2 ∷ operator_value 2 Sub 1 2 ∷ operator_value 4 Sub 1 2 ∷ [] ≡ 1 ∷ 65537 ∷ 65535 ∷ 4294967295 ∷ []
unfolding operator_value
sums = refl

products : operator_value 2 Mul 511 2 ∷ operator_value 2 Div 519 2 ∷ operator_value 2 Rem 519 2 ∷ operator_value 2 Div 7 256 ∷ operator_value 2 Rem 7 256 ∷ [] ≡ 510 ∷ 3 ∷ 1 ∷ 7 ∷ 0 ∷ []
unfolding operator_value
products = refl

orders : operator_value 2 LtS 65535 0 ∷ operator_value 2 LtU 65535 0 ∷ operator_value 4 LtS 65535 0 ∷ operator_value 2 LeS 32768 32768 ∷ operator_value 2 LeU 1 0 ∷ [] ≡ 1 ∷ 0 ∷ 0 ∷ 1 ∷ 0 ∷ []
unfolding operator_value
orders = refl

bits : operator_value 2 And 12 10 ∷ operator_value 2 Or 12 10 ∷ operator_value 2 Xor 12 10 ∷ operator_value 2 Eq 12 10 ∷ operator_value 2 Ne 12 10 ∷ [] ≡ 8 ∷ 14 ∷ 6 ∷ 0 ∷ 1 ∷ []
unfolding operator_value
bits = refl

signs : negated 2 1 ∷ negated 2 0 ∷ negated 4 1 ∷ complement 2 0 ∷ complement 4 65535 ∷ [] ≡ 65535 ∷ 0 ∷ 4294967295 ∷ 65535 ∷ 4294901760 ∷ []
unfolding negated complement
signs = refl

shifts : shifted_left 2 15 3 ∷ shifted_right 2 1 false 65534 ∷ shifted_right 2 1 true 65534 ∷ shifted_right 2 15 true 32768 ∷ shifted_right 4 1 true 65534 ∷ [] ≡ 32768 ∷ 32767 ∷ 65535 ∷ 65535 ∷ 32767 ∷ []
unfolding shifted_left shifted_right
shifts = refl

parts : kept U8 511 ∷ kept I8 383 ∷ kept I8 384 ∷ kept W16 65537 ∷ [] ≡ 255 ∷ 127 ∷ 65408 ∷ 1 ∷ []
unfolding kept
parts = refl

-- ---- lengths, on two bytes and on four

lengths_of_operators : map (operator_length 2) (Add ∷ Sub ∷ Mul ∷ Div ∷ Rem ∷ And ∷ Or ∷ Xor ∷ Eq ∷ Ne ∷ LtU ∷ LeU ∷ LtS ∷ LeS ∷ []) ≡ 15 ∷ 16 ∷ 14 ∷ 14 ∷ 15 ∷ 15 ∷ 15 ∷ 15 ∷ 36 ∷ 35 ∷ 23 ∷ 24 ∷ 35 ∷ 36 ∷ []
lengths_of_operators = refl

lengths_of_long_operators : map (operator_length 4) (Add ∷ Sub ∷ And ∷ Or ∷ Xor ∷ Eq ∷ Ne ∷ LtU ∷ LeU ∷ LtS ∷ LeS ∷ []) ≡ 27 ∷ 28 ∷ 27 ∷ 27 ∷ 27 ∷ 60 ∷ 59 ∷ 35 ∷ 36 ∷ 47 ∷ 48 ∷ []
lengths_of_long_operators = refl

lengths_of_shifts : shift_left_length 2 1 ∷ shift_right_length 2 false 1 ∷ shift_right_length 2 true 1 ∷ shift_left_length 4 2 ∷ shift_right_length 4 false 2 ∷ shift_right_length 4 true 2 ∷ [] ≡ 15 ∷ 14 ∷ 16 ∷ 51 ∷ 45 ∷ 49 ∷ []
lengths_of_shifts = refl

lengths_of_others : constant_length 2 ∷ constant_length 4 ∷ difference_length 2 ∷ difference_length 4 ∷ test_length 2 ∷ test_length 4 ∷ [] ≡ 9 ∷ 15 ∷ 16 ∷ 28 ∷ 15 ∷ 27 ∷ []
lengths_of_others = refl

lengths_of_held : map get_length (U8 ∷ I8 ∷ W16 ∷ []) ≡ 9 ∷ 15 ∷ 9 ∷ []
lengths_of_held = refl

lengths_of_puts : map put_length (U8 ∷ I8 ∷ W16 ∷ []) ≡ 6 ∷ 6 ∷ 9 ∷ []
lengths_of_puts = refl

lengths_of_narrowing : map narrow_length (U8 ∷ I8 ∷ W16 ∷ []) ≡ 6 ∷ 12 ∷ 3 ∷ []
lengths_of_narrowing = refl

lengths_of_loads : map load_length (U8 ∷ I8 ∷ W16 ∷ []) ≡ 15 ∷ 21 ∷ 16 ∷ []
lengths_of_loads = refl

lengths_of_stores : map store_length (U8 ∷ I8 ∷ W16 ∷ []) ≡ 12 ∷ 12 ∷ 16 ∷ []
lengths_of_stores = refl

lengths_of_arguments : map argument_length (U8 ∷ I8 ∷ W16 ∷ []) ≡ 6 ∷ 6 ∷ 9 ∷ []
lengths_of_arguments = refl
