-- The longest thing at a place, in the words of the code.
use Rattle.std.proofs.Common.{◌≡◌, ◌≤◌, ◌<◌, ℕ, zero, suc, ◌+◌, Bool, true, false, List, [], ◌∷◌, drop, get_or, length, refl, ap, ◌∙◌, ◌-◌, add-one, arith}
use Rattle.std.specs.Prelude.{◌==◌, ◌&&◌, ◌||◌, Option, Some, None}
use Rattle.clight_tokens.specs.Lexemes.{is_blank, is_digit, is_letter, is_word_byte, in_line, is_close, is_punctuator, IsLongest, HasNoLexeme}
use Rattle.clight_tokens.specs.Lexemes as k
use Rattle.clight_tokens.specs.Tokens.{first_pair, one_on}
use Rattle.clight_tokens.specs.Code.Views.{run_length, begins_comment, begins_double, begins_triple}
use Rattle.clight_tokens.proofs.Longer.{longest_word, longest_number, longest_blank, longest_triple, longest_double, longest_single, nothing_at}
use Rattle.clight_tokens.proofs.Comments.{Closes, closes, longest_line, longest_block, longest_open}

pub at_blank : (r : List ℕ) → 0 < length r → is_blank (get_or r 0 0) ≡ true → IsLongest r 1 k.Blank
at_blank [] h b = absurd (omega arith)
at_blank (a ∷ s) h b = longest_blank a s b

pub at_word : (r : List ℕ) (n : ℕ) → 0 < length r → is_letter (get_or r 0 0) ≡ true → n ≡ 1 + run_length is_word_byte (drop 1 r) → IsLongest r n k.Word
at_word [] n h b e = absurd (omega arith)
at_word (a ∷ s) n h b e = let g : n ≡ suc (run_length is_word_byte s) = omega (arith, e) in rw g (longest_word a s b)

pub at_number : (r : List ℕ) (n : ℕ) → 0 < length r → is_digit (get_or r 0 0) ≡ true → n ≡ 1 + run_length is_word_byte (drop 1 r) → IsLongest r n k.Number
at_number [] n h b e = absurd (omega arith)
at_number (a ∷ s) n h b e = let g : n ≡ suc (run_length is_word_byte s) = omega (arith, e) in rw g (longest_number a s b)

pub at_line : (r : List ℕ) (n : ℕ) → 1 < length r → get_or r 0 0 ≡ 47 → get_or r 1 0 ≡ 47 → n ≡ 2 + run_length in_line (drop 2 r) → IsLongest r n k.LineComment
at_line [] n h a b e = absurd (omega arith)
at_line (x ∷ []) n h a b e = absurd (omega arith)
at_line (x ∷ y ∷ s) n h a b e = let g : n ≡ suc (suc (run_length in_line s)) = omega (arith, e) in rw g (rw a (rw b (longest_line s)))

found : (s : List ℕ) (m : ℕ) → first_pair is_close s ≡ Some m → Closes s (Some m)
found s m e = rw e at (closes s)

missing : (s : List ℕ) → first_pair is_close s ≡ None → Closes s None
missing s e = rw e at (closes s)

pub at_block : (r : List ℕ) (n m : ℕ) → 1 < length r → get_or r 0 0 ≡ 47 → get_or r 1 0 ≡ 42 → first_pair is_close (drop 2 r) ≡ Some m → n ≡ m + 4 → IsLongest r n k.BlockComment
at_block [] n m h a b c e = absurd (omega arith)
at_block (x ∷ []) n m h a b c e = absurd (omega arith)
at_block (x ∷ y ∷ s) n m h a b c e = let g : n ≡ suc (suc (suc (suc m))) = omega (arith, e) in rw g (rw a (rw b (longest_block s m (found s m c))))

pub at_open : (r : List ℕ) → 1 < length r → get_or r 0 0 ≡ 47 → get_or r 1 0 ≡ 42 → first_pair is_close (drop 2 r) ≡ None → IsLongest r (length r) k.OpenComment
at_open [] h a b c = absurd (omega arith)
at_open (x ∷ []) h a b c = absurd (omega arith)
at_open (x ∷ y ∷ s) h a b c = rw a (rw b (longest_open s (missing s c)))

pub at_triple : (r : List ℕ) → 0 < length r → is_punctuator (get_or r 0 0 ∷ []) ≡ true → begins_comment r ≡ false → begins_triple r ≡ true → IsLongest r 3 k.Punctuator
at_triple [] h p c t = absurd (omega arith)
at_triple (x ∷ s) h p c t = longest_triple x s p c t

pub at_double : (r : List ℕ) → 0 < length r → is_punctuator (get_or r 0 0 ∷ []) ≡ true → begins_comment r ≡ false → begins_triple r ≡ false → begins_double r ≡ true → IsLongest r 2 k.Punctuator
at_double [] h p c t d = absurd (omega arith)
at_double (x ∷ s) h p c t d = longest_double x s p c t d

pub at_single : (r : List ℕ) → 0 < length r → is_punctuator (get_or r 0 0 ∷ []) ≡ true → begins_comment r ≡ false → begins_triple r ≡ false → begins_double r ≡ false → IsLongest r 1 k.Punctuator
at_single [] h p c t d = absurd (omega arith)
at_single (x ∷ s) h p c t d = longest_single x s p c t d

pub at_nothing : (r : List ℕ) → 0 < length r → is_blank (get_or r 0 0) ≡ false → is_letter (get_or r 0 0) ≡ false → is_digit (get_or r 0 0) ≡ false → is_punctuator (get_or r 0 0 ∷ []) ≡ false → HasNoLexeme r
at_nothing [] h a b c d = absurd (omega arith)
at_nothing (x ∷ s) h a b c d = nothing_at x s a b c d

pub short_plain : (r : List ℕ) → length r < 2 → begins_comment r ≡ false
short_plain [] h = refl
short_plain (x ∷ []) h = refl
short_plain (x ∷ y ∷ s) h = absurd (omega arith)

pub first_plain : (r : List ℕ) → 1 < length r → (get_or r 0 0 == 47) ≡ false → begins_comment r ≡ false
first_plain [] h e = refl
first_plain (x ∷ []) h e = refl
first_plain (x ∷ y ∷ s) h e = rw e refl

pub second_plain : (r : List ℕ) → (get_or r 1 0 == 47) ≡ false → (get_or r 1 0 == 42) ≡ false → begins_comment r ≡ false
second_plain [] f g = refl
second_plain (x ∷ []) f g = refl
second_plain (x ∷ y ∷ s) f g = by (x == 47)
  where
    by : (v : Bool) → (v && (y == 47 || y == 42)) ≡ false
    by true = rw f g
    by false = refl

pub ruleset places = (at_blank, at_word, at_number, at_line, at_block, at_open, at_triple, at_double, at_single, at_nothing, short_plain, first_plain, second_plain)

-- ---- the first pair

abbrev pub shifted : ℕ → Option ℕ → Option ℕ
shifted n None = None
shifted n (Some m) = Some (n + m)

pub shifted_zero : (o : Option ℕ) → shifted 0 o ≡ o
shifted_zero None = refl
shifted_zero (Some m) = ap Some (omega arith)

here : (q : ℕ → ℕ → Bool) (r : List ℕ) (at : ℕ) → suc at < length r → q (get_or r at 0) (get_or r (suc at) 0) ≡ true → first_pair q (drop at r) ≡ Some 0
here q [] at h e = absurd (omega arith)
here q (a ∷ []) at h e = absurd (omega arith)
here q (a ∷ b ∷ s) zero h e = rw e
here q (a ∷ b ∷ s) (suc at) h e = here q (b ∷ s) at (omega arith) e

next : (q : ℕ → ℕ → Bool) (r : List ℕ) (at : ℕ) → suc at < length r → q (get_or r at 0) (get_or r (suc at) 0) ≡ false → first_pair q (drop at r) ≡ one_on (first_pair q (drop (suc at) r))
next q [] at h e = absurd (omega arith)
next q (a ∷ []) at h e = absurd (omega arith)
next q (a ∷ b ∷ s) zero h e = rw e
next q (a ∷ b ∷ s) (suc at) h e = next q (b ∷ s) at (omega arith) e

last : (q : ℕ → ℕ → Bool) (r : List ℕ) (at : ℕ) → length r ≤ suc at → first_pair q (drop at r) ≡ None
last q [] zero h = refl
last q [] (suc at) h = refl
last q (a ∷ []) zero h = refl
last q (a ∷ []) (suc zero) h = refl
last q (a ∷ []) (suc (suc at)) h = refl
last q (a ∷ b ∷ s) zero h = absurd (omega arith)
last q (a ∷ b ∷ s) (suc at) h = last q (b ∷ s) at (omega arith)

shifted_one : (n : ℕ) (o : Option ℕ) → shifted n (one_on o) ≡ shifted (suc n) o
shifted_one n None = refl
shifted_one n (Some m) = ap Some (omega arith)

pub pair_next : (q : ℕ → ℕ → Bool) (r : List ℕ) (from at : ℕ) → from ≤ at → at + 1 < length r → q (get_or r at 0) (get_or r (at + 1) 0) ≡ false → first_pair q (drop from r) ≡ shifted (at - from) (first_pair q (drop at r)) → first_pair q (drop from r) ≡ shifted (at + 1 - from) (first_pair q (drop (at + 1) r))
pair_next q r from at f h e g =
    let k : at + 1 - from ≡ suc (at - from) = omega arith in
    let e' = rw add-one at e in
    g ∙ (ap (shifted (at - from)) (next q r at (omega arith) e') ∙ (shifted_one (at - from) (first_pair q (drop (suc at) r)) ∙ rw (k, add-one) refl))

pub pair_here : (q : ℕ → ℕ → Bool) (r : List ℕ) (from at : ℕ) → at + 1 < length r → q (get_or r at 0) (get_or r (at + 1) 0) ≡ true → first_pair q (drop from r) ≡ shifted (at - from) (first_pair q (drop at r)) → first_pair q (drop from r) ≡ Some (at - from)
pair_here q r from at h e g =
    let e' = rw add-one at e in
    g ∙ (ap (shifted (at - from)) (here q r at (omega arith) e') ∙ ap Some (omega arith))

pub pair_none : (q : ℕ → ℕ → Bool) (r : List ℕ) (from at : ℕ) → length r ≤ at + 1 → first_pair q (drop from r) ≡ shifted (at - from) (first_pair q (drop at r)) → first_pair q (drop from r) ≡ None
pair_none q r from at h g = g ∙ ap (shifted (at - from)) (last q r at (omega arith))
