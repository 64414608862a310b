-- The longest thing where a comment begins.
use Rattle.std.proofs.Common.{◌≡◌, ◌≤◌, ℕ, zero, suc, Bool, true, false, List, [], ◌∷◌, take, length, refl, arith}
use Rattle.std.specs.Prelude.{◌||◌, ◌==◌, cond, Option, Some, None}
use Rattle.std.proofs.Math.Seq.{take-length}
use Rattle.clight_tokens.specs.Lexemes.{Kind, in_line, is_close, has_no_close, ends_at_close, is_punctuator, is_lexeme, IsLongest}
use Rattle.clight_tokens.specs.Lexemes as k
use Rattle.clight_tokens.specs.Tokens.{first_pair, one_on}
use Rattle.clight_tokens.specs.Code.Views.{run_length}
use Rattle.clight_tokens.proofs.PunctuatorTable.{and_right, no_comment}
use Rattle.clight_tokens.proofs.Longer.{run_within, run_all, run_most}

-- where the first `*/` stands in what follows the opening
abbrev pub Closes : List ℕ → Option ℕ → Type 0
Closes u None = (has_no_close u ≡ true) × ((m : ℕ) → ends_at_close (take m u) ≡ false)
Closes u (Some n) = (suc (suc n) ≤ length u) × (ends_at_close (take (suc (suc n)) u) ≡ true) × ((m : ℕ) → m ≤ length u → ends_at_close (take m u) ≡ true → m ≤ suc (suc n)) × ((m : ℕ) → m ≤ length u → has_no_close (take m u) ≡ true → m ≤ suc (suc n))

none_empty : (m : ℕ) → ends_at_close (take m []) ≡ false
none_empty zero = refl
none_empty (suc m) = refl

none_one : (a m : ℕ) → ends_at_close (take m (a ∷ [])) ≡ false
none_one a zero = refl
none_one a (suc zero) = refl
none_one a (suc (suc m)) = refl

stops : (a b : ℕ) (s : List ℕ) (m : ℕ) → is_close a b ≡ true → m ≤ length (a ∷ b ∷ s) → ends_at_close (take m (a ∷ b ∷ s)) ≡ true → m ≤ 2
stops a b s zero h l e = omega arith
stops a b s (suc zero) h l e = omega arith
stops a b s (suc (suc zero)) h l e = omega arith
stops a b [] (suc (suc (suc m))) h l e = absurd (omega arith)
stops a b (c ∷ s) (suc (suc (suc m))) h l e = let g = rw h at e in cc

stops_open : (a b : ℕ) (s : List ℕ) (m : ℕ) → is_close a b ≡ true → has_no_close (take m (a ∷ b ∷ s)) ≡ true → m ≤ 2
stops_open a b s zero h e = omega arith
stops_open a b s (suc zero) h e = omega arith
stops_open a b s (suc (suc m)) h e = let g = rw h at e in cc

goes_none : (a b : ℕ) (s : List ℕ) (m : ℕ) → is_close a b ≡ false → ((m : ℕ) → ends_at_close (take m (b ∷ s)) ≡ false) → ends_at_close (take m (a ∷ b ∷ s)) ≡ false
goes_none a b s zero h f = refl
goes_none a b s (suc zero) h f = refl
goes_none a b s (suc (suc zero)) h f = h
goes_none a b [] (suc (suc (suc m))) h f = h
goes_none a b (c ∷ s) (suc (suc (suc m))) h f = rw h (f (suc (suc m)))

goes_closed : (a b n : ℕ) (s : List ℕ) → is_close a b ≡ false → ends_at_close (take n (b ∷ s)) ≡ true → ends_at_close (take (suc n) (a ∷ b ∷ s)) ≡ true
goes_closed a b zero s h e = cc
goes_closed a b (suc zero) s h e = cc
goes_closed a b (suc (suc n)) [] h e = cc
goes_closed a b (suc (suc n)) (c ∷ s) h e = rw h e

goes_most : (a b n : ℕ) (s : List ℕ) (m : ℕ) → is_close a b ≡ false → ((m : ℕ) → m ≤ length (b ∷ s) → ends_at_close (take m (b ∷ s)) ≡ true → m ≤ n) → m ≤ length (a ∷ b ∷ s) → ends_at_close (take m (a ∷ b ∷ s)) ≡ true → m ≤ suc n
goes_most a b n s zero h f l e = omega arith
goes_most a b n s (suc zero) h f l e = omega arith
goes_most a b n s (suc (suc zero)) h f l e = cc
goes_most a b n [] (suc (suc (suc m))) h f l e = absurd (omega arith)
goes_most a b n (c ∷ s) (suc (suc (suc m))) h f l e =
    let g : ends_at_close (b ∷ c ∷ take m s) ≡ true = and_right _ _ e in
    let r : suc (suc m) ≤ n = f (suc (suc m)) (omega arith) g in omega arith

goes_open : (a b n : ℕ) (s : List ℕ) (m : ℕ) → ((m : ℕ) → m ≤ length (b ∷ s) → has_no_close (take m (b ∷ s)) ≡ true → m ≤ n) → m ≤ length (a ∷ b ∷ s) → has_no_close (take m (a ∷ b ∷ s)) ≡ true → m ≤ suc n
goes_open a b n s zero f l e = omega arith
goes_open a b n s (suc zero) f l e = omega arith
goes_open a b n s (suc (suc m)) f l e =
    let g : has_no_close (b ∷ take m s) ≡ true = and_right _ _ e in
    let r : suc m ≤ n = f (suc m) (omega arith) g in omega arith

goes : (a b : ℕ) (s : List ℕ) (o : Option ℕ) → is_close a b ≡ false → Closes (b ∷ s) o → Closes (a ∷ b ∷ s) (one_on o)
goes a b s None h c = (rw h c.0, λ m. goes_none a b s m h c.1)
goes a b s (Some n) h c =
    let w = c.0 in
    (omega arith, goes_closed a b (suc (suc n)) s h c.1, λ m. goes_most a b (suc (suc n)) s m h c.2, λ m. goes_open a b (suc (suc n)) s m c.3)

closes_by : (v : Bool) (a b : ℕ) (s : List ℕ) → is_close a b ≡ v → Closes (b ∷ s) (first_pair is_close (b ∷ s)) → Closes (a ∷ b ∷ s) (cond v (Some 0) (one_on (first_pair is_close (b ∷ s))))
closes_by true a b s h c = (omega arith, h, λ m. stops a b s m h, λ m l. stops_open a b s m h)
closes_by false a b s h c = goes a b s (first_pair is_close (b ∷ s)) h c

pub closes : (u : List ℕ) → Closes u (first_pair is_close u)
closes [] = (refl, none_empty)
closes (a ∷ []) = (refl, none_one a)
closes (a ∷ b ∷ s) = closes_by (is_close a b) a b s refl (closes (b ∷ s))

abbrev IsPlain : Kind → Type 0
IsPlain k.LineComment = ⊥
IsPlain k.BlockComment = ⊥
IsPlain k.OpenComment = ⊥
IsPlain other = Unit {0}

no_mark : (c : ℕ) (u : List ℕ) → (c == 47 || c == 42) ≡ true → is_punctuator (47 ∷ c ∷ u) ≡ true → ⊥
no_mark c u h e = let g = no_comment (47 ∷ c ∷ u) e in cc

-- where a comment begins, what is none has one byte
plain : (c : ℕ) (u : List ℕ) (m : ℕ) (other : Kind) → (c == 47 || c == 42) ≡ true → IsPlain other → is_lexeme other (take m (47 ∷ c ∷ u)) ≡ true → m ≤ 1
plain c u zero other h w e = omega arith
plain c u (suc zero) other h w e = omega arith
plain c u (suc (suc m)) k.LineComment h w e = absurd w
plain c u (suc (suc m)) k.BlockComment h w e = absurd w
plain c u (suc (suc m)) k.OpenComment h w e = absurd w
plain c u (suc (suc m)) k.Blank h w e = cc
plain c u (suc (suc m)) k.Word h w e = cc
plain c u (suc (suc m)) k.Number h w e = cc
plain c u (suc (suc m)) k.Punctuator h w e = absurd (no_mark c (take m u) h e)

line_most : (u : List ℕ) (m : ℕ) (other : Kind) → m ≤ length (47 ∷ 47 ∷ u) → is_lexeme other (take m (47 ∷ 47 ∷ u)) ≡ true → m ≤ suc (suc (run_length in_line u))
line_most u zero other l e = omega arith
line_most u (suc zero) other l e = omega arith
line_most u (suc (suc m)) k.LineComment l e = let r = run_most in_line u m (omega arith) e in omega arith
line_most u (suc (suc m)) k.BlockComment l e = cc
line_most u (suc (suc m)) k.OpenComment l e = cc
line_most u (suc (suc m)) other l e = let r = plain 47 u (suc (suc m)) other refl tt e in omega arith

pub longest_line : (u : List ℕ) → IsLongest (47 ∷ 47 ∷ u) (suc (suc (run_length in_line u))) k.LineComment
longest_line u = let w = run_within in_line u in record { some = omega arith; within = omega arith; is = run_all in_line u; longest = line_most u }

block_most : (u : List ℕ) (n m : ℕ) (other : Kind) → Closes u (Some n) → m ≤ length (47 ∷ 42 ∷ u) → is_lexeme other (take m (47 ∷ 42 ∷ u)) ≡ true → m ≤ suc (suc (suc (suc n)))
block_most u n zero other c l e = omega arith
block_most u n (suc zero) other c l e = omega arith
block_most u n (suc (suc m)) k.LineComment c l e = cc
block_most u n (suc (suc m)) k.BlockComment c l e = let r : m ≤ suc (suc n) = c.2 m (omega arith) e in omega arith
block_most u n (suc (suc m)) k.OpenComment c l e = let r : m ≤ suc (suc n) = c.3 m (omega arith) e in omega arith
block_most u n (suc (suc m)) other c l e = let r = plain 42 u (suc (suc m)) other refl tt e in omega arith

pub longest_block : (u : List ℕ) (n : ℕ) → Closes u (Some n) → IsLongest (47 ∷ 42 ∷ u) (suc (suc (suc (suc n)))) k.BlockComment
longest_block u n c = let w = c.0 in record { some = omega arith; within = omega arith; is = c.1; longest = λ m o. block_most u n m o c }

pub longest_open : (u : List ℕ) → Closes u None → IsLongest (47 ∷ 42 ∷ u) (suc (suc (length u))) k.OpenComment
longest_open u c = record { some = omega arith; within = omega arith; is = rw take-length c.0; longest = λ m o l e. l }
