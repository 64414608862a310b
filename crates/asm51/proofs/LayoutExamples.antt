-- Layouts and objects, computed on small programs.
use Rattle.std.proofs.Common.{◌≡◌, ◌+◌, [], ◌∷◌, Some, None, map, take, drop, true, false, refl, lit≤}
use Rattle.mcs51_isa.specs.declared.instr.Instr.TheVariants.{Nop, MovDirect}
use Rattle.mcs51_isa.specs.declared.instr.Move.TheVariants.{IntoAcc}
use Rattle.mcs51_isa.specs.Table.{cycles_of}
use Rattle.asm51.specs.declared.items.AsmItem.TheVariants.{Plain, Mark, Enter, Here, Jump, Test, Call}
use Rattle.asm51.specs.declared.layouts.Form.TheVariants.{Short, Page, Long}
use Rattle.asm51.specs.Instructions.{instructions, item_size}
use Rattle.asm51.specs.Layouts.{address, code_length, long_length}
use Rattle.asm51.specs.Relaxation.{is_near, same_page, round, rounds, IsRelaxed}
use Rattle.asm51.specs.Emission.{code_of, labels_of}
use Rattle.asm51.proofs.Samples.{start, initialise, nothing, one_write, countdown, over_150, at_a_page}

-- ---- sizes

sizes_of_a_jump : map (item_size (Jump 3 4)) (Some Short ∷ Some Page ∷ Some Long ∷ None ∷ []) ≡ 2 ∷ 2 ∷ 3 ∷ 3 ∷ []
sizes_of_a_jump = refl

sizes_of_a_test : map (item_size (Test 3 4)) (Some Short ∷ Some Page ∷ Some Long ∷ None ∷ []) ≡ 2 ∷ 7 ∷ 7 ∷ 7 ∷ []
sizes_of_a_test = refl

sizes_of_others : map (λ item. item_size item None) (Plain Nop ∷ Call 3 ∷ Enter 3 ∷ Here 3 4 ∷ Mark (record { 0 = 5 }) ∷ []) ≡ 1 ∷ 3 ∷ 0 ∷ 0 ∷ 0 ∷ []
sizes_of_others = refl

-- the start, a byte that it initialises, a test of a cell, and a jump
lengths_of_parts : map long_length (start ∷ initialise 1 255 ∷ (Plain (MovDirect IntoAcc 0x10) ∷ Test 0 1 ∷ []) ∷ (Jump 0 1 ∷ []) ∷ []) ≡ 8 ∷ 6 ∷ 9 ∷ 3 ∷ []
lengths_of_parts = refl

-- a far test takes JNZ and SJMP, or JNZ and LJMP: four cycles both ways
cycles_of_a_far_test : map cycles_of (instructions 0 2000 (Test 0 1) (Some Long)) ≡ 2 ∷ 2 ∷ 2 ∷ []
cycles_of_a_far_test = refl

-- ---- how far the forms reach

reach_of_a_short_form : map (is_near 1000) (872 ∷ 1127 ∷ 871 ∷ 1128 ∷ []) ≡ true ∷ true ∷ false ∷ false ∷ []
reach_of_a_short_form = refl

reach_of_a_page : map (same_page 2048) (2048 ∷ 4095 ∷ 2047 ∷ 4096 ∷ []) ≡ true ∷ true ∷ false ∷ false ∷ []
reach_of_a_page = refl

-- ---- the objects of the first rows: start, labels and one write

code_of_nothing : code_of nothing (rounds nothing 0) ≡ 0x75 ∷ 0x81 ∷ 0x7F ∷ 0x12 ∷ 0x00 ∷ 0x08 ∷ 0x80 ∷ 0xFE ∷ 0x00 ∷ 0x22 ∷ []
unfolding code_of
code_of_nothing = refl

labels_of_nothing : labels_of nothing (rounds nothing 0) ≡ 0x0008 ∷ []
unfolding labels_of
labels_of_nothing = refl

code_of_one_write : code_of one_write (rounds one_write 0) ≡ 0x75 ∷ 0x81 ∷ 0x7F ∷ 0x12 ∷ 0x00 ∷ 0x08 ∷ 0x80 ∷ 0xFE ∷ 0x00 ∷ 0x75 ∷ 0x90 ∷ 0x05 ∷ 0x22 ∷ []
unfolding code_of
code_of_one_write = refl

-- 8 bytes of the start; a label, a write and a return
length_of_one_write : long_length one_write ≡ 8 + 1 + 3 + 1
length_of_one_write = refl

-- a test back over 13 bytes stays short; far, it has five bytes more
short_test : IsRelaxed countdown (rounds countdown 0)
unfolding round
short_test = record { count = 0; few = lit≤ tt; made = refl; stays = refl }

code_of_countdown : code_of countdown (rounds countdown 0)
    ≡ 0x75 ∷ 0x81 ∷ 0x7F ∷ 0x12 ∷ 0x00 ∷ 0x08 ∷ 0x80 ∷ 0xFE
    ∷ 0x00 ∷ 0xE5 ∷ 0x90 ∷ 0xFA
    ∷ 0x00 ∷ 0x12 ∷ 0x00 ∷ 0x19 ∷ 0x00 ∷ 0xEA ∷ 0x24 ∷ 0xFF ∷ 0xFA ∷ 0x70 ∷ 0xF5 ∷ 0x00 ∷ 0x22
    ∷ 0x00 ∷ 0xEA ∷ 0xF5 ∷ 0x90 ∷ 0x22 ∷ []
unfolding code_of
code_of_countdown = refl

labels_of_countdown : labels_of countdown (rounds countdown 0) ≡ 8 ∷ 12 ∷ 16 ∷ 23 ∷ 25 ∷ []
unfolding labels_of
labels_of_countdown = refl

lengths_of_countdown : code_length countdown (rounds countdown 0) + 5 ≡ long_length countdown
lengths_of_countdown = refl

-- ---- a jump that is far, but within its page

paged : IsRelaxed over_150 (rounds over_150 1)
unfolding round
paged = record { count = 1; few = lit≤ tt; made = refl; stays = refl }

paged_form : take 1 (rounds over_150 1) ≡ Some Page ∷ []
unfolding round
paged_form = refl

paged_code : take 2 (code_of over_150 (rounds over_150 1)) ≡ 0x01 ∷ 152 ∷ []
unfolding code_of round
paged_code = refl

-- ---- growth by whole rounds: the jump is judged before the test has grown, and both become long

grown : IsRelaxed at_a_page (rounds at_a_page 1)
unfolding round
grown = record { count = 1; few = lit≤ tt; made = refl; stays = refl }

grown_forms : take 2 (drop 680 (rounds at_a_page 1)) ≡ Some Long ∷ Some Long ∷ []
unfolding round
grown_forms = refl

-- the addresses of the test, the jump, the bytes after it, the place and the end
grown_addresses : map (address at_a_page (rounds at_a_page 1)) (680 ∷ 681 ∷ 682 ∷ 1362 ∷ 1365 ∷ []) ≡ 2040 ∷ 2047 ∷ 2050 ∷ 4090 ∷ 4091 ∷ []
unfolding round
grown_addresses = refl

-- JNZ 2; SJMP 3; LJMP 0FFAH and LJMP 0FFAH
grown_code : take 10 (drop 2040 (code_of at_a_page (rounds at_a_page 1))) ≡ 0x70 ∷ 0x02 ∷ 0x80 ∷ 0x03 ∷ 0x02 ∷ 0x0F ∷ 0xFA ∷ 0x02 ∷ 0x0F ∷ 0xFA ∷ []
unfolding code_of round
grown_code = refl

grown_labels : labels_of at_a_page (rounds at_a_page 1) ≡ 0x0FFA ∷ []
unfolding labels_of round
grown_labels = refl

-- in the layout in which the test alone is long, the jump would reach by its page form: the order of growth matters
within_the_page : same_page (2047 + 2) 4089 ≡ true
within_the_page = refl
