-- A text and its first line.
use Rattle.std.proofs.Common.{◌≡◌, ℕ, zero, suc, ◌+◌, ◌-◌, ◌<◌, ◌≤◌, Bool, true, false, cond, eqb, List, [], ◌∷◌, ◌++◌, length, take, drop, get_or, refl, ap, sym, ◌∙◌, inl, inr, arith}
use Rattle.std.specs.Prelude.{◌==◌, ◌&&◌, ◌≢◌, if◌then◌else◌}
use Rattle.std.proofs.lemmas.Bool.Decides.{eqb_tells}
use Rattle.std.proofs.lemmas.List.{drop_all, drop_more, take_rest, take-append-drop, get_or-take, length-take-le}
use Rattle.object_hex.specs.Lines.{begins_with_lf, put_before, lines}

eqb-other : (a b : ℕ) → a ≢ b → eqb a b ≡ false
eqb-other a b other = elim (eqb_tells a b) [ inl same ↦ absurd (other same.1) | inr apart ↦ apart.0 ]

-- a line without a CR at its end
abbrev pub without_cr : List ℕ → List ℕ
without_cr [] = []
without_cr (byte ∷ []) = if byte == 13 then [] else byte ∷ []
without_cr (byte ∷ next ∷ more) = byte ∷ without_cr (next ∷ more)

-- a byte that isn't LF begins a line, or is the CR before LF
lines-cons : (byte : ℕ) (rest : List ℕ) → byte ≢ 10 → lines (byte ∷ rest) ≡ cond (eqb byte 13 && begins_with_lf rest) (lines rest) (put_before byte (lines rest))
unfolding lines
lines-cons byte rest other = rw (eqb-other byte 10 other) refl

lines-lf : (rest : List ℕ) → lines (10 ∷ rest) ≡ [] ∷ lines rest
unfolding lines
lines-lf rest = refl

and_false : (b : Bool) → (b && false) ≡ false
and_false true = refl
and_false false = refl

cr_before_lf : (byte : ℕ) (more : List (List ℕ)) → cond (eqb byte 13 && true) ([] ∷ more) (put_before byte ([] ∷ more)) ≡ without_cr (byte ∷ []) ∷ more
cr_before_lf byte more = elim (eqb byte 13) as (λ b. cond (b && true) ([] ∷ more) (put_before byte ([] ∷ more)) ≡ cond b [] (byte ∷ []) ∷ more) [ true ↦ refl | false ↦ refl ]

-- what stands before the first LF is the first line, but for a CR directly before it
pub lines-found : (front rest : List ℕ) → ((place : ℕ) → place < length front → get_or front place 0 ≢ 10) → lines (front ++ 10 ∷ rest) ≡ without_cr front ∷ lines rest
lines-found [] rest none = lines-lf rest
lines-found (byte ∷ []) rest none =
    lines-cons byte (10 ∷ rest) (none 0 (omega arith))
    ∙ ap (λ behind. cond (eqb byte 13 && true) behind (put_before byte behind)) (lines-lf rest)
    ∙ cr_before_lf byte (lines rest)
lines-found (byte ∷ next ∷ more) rest none =
    let behind = lines-found (next ∷ more) rest (λ place within. none (suc place) (omega arith)) in
    let other : eqb next 10 ≡ false = eqb-other next 10 (none 1 (omega arith)) in
    lines-cons byte (next ∷ more ++ 10 ∷ rest) (none 0 (omega arith))
    ∙ ap (λ lf. cond (eqb byte 13 && lf) (lines (next ∷ more ++ 10 ∷ rest)) (put_before byte (lines (next ∷ more ++ 10 ∷ rest)))) other
    ∙ ap (λ skip. cond skip (lines (next ∷ more ++ 10 ∷ rest)) (put_before byte (lines (next ∷ more ++ 10 ∷ rest)))) (and_false (eqb byte 13))
    ∙ ap (put_before byte) behind

-- a text with no LF is one line
pub lines-last : (byte : ℕ) (rest : List ℕ) → ((place : ℕ) → place < length (byte ∷ rest) → get_or (byte ∷ rest) place 0 ≢ 10) → lines (byte ∷ rest) ≡ (byte ∷ rest) ∷ []
unfolding lines
lines-last byte [] none =
    lines-cons byte [] (none 0 (omega arith)) ∙ ap (λ skip. cond skip (lines []) (put_before byte (lines []))) (and_false (eqb byte 13))
lines-last byte (next ∷ more) none =
    let behind = lines-last next more (λ place within. none (suc place) (omega arith)) in
    let other : eqb next 10 ≡ false = eqb-other next 10 (none 1 (omega arith)) in
    lines-cons byte (next ∷ more) (none 0 (omega arith))
    ∙ ap (λ lf. cond (eqb byte 13 && lf) (lines (next ∷ more)) (put_before byte (lines (next ∷ more)))) other
    ∙ ap (λ skip. cond skip (lines (next ∷ more)) (put_before byte (lines (next ∷ more)))) (and_false (eqb byte 13))
    ∙ ap (put_before byte) behind

-- a line that ends with CR, and one that ends otherwise
pub without_cr-cr : (line : List ℕ) (n : ℕ) → length line ≡ suc n → get_or line n 0 ≡ 13 → without_cr line ≡ take n line
without_cr-cr [] n len cr = absurd (omega arith)
without_cr-cr (byte ∷ []) zero len cr = ap (λ b. if b == 13 then [] else b ∷ []) cr
without_cr-cr (byte ∷ []) (suc n) len cr = absurd (omega arith)
without_cr-cr (byte ∷ next ∷ more) zero len cr = absurd (omega arith)
without_cr-cr (byte ∷ next ∷ more) (suc n) len cr = ap (λ rest. byte ∷ rest) (without_cr-cr (next ∷ more) n (omega arith) cr)

pub without_cr-other : (line : List ℕ) (n : ℕ) → length line ≡ suc n → get_or line n 0 ≢ 13 → without_cr line ≡ line
without_cr-other [] n len other = absurd (omega arith)
without_cr-other (byte ∷ []) zero len other = ap (λ b. cond b [] (byte ∷ [])) (eqb-other byte 13 other)
without_cr-other (byte ∷ []) (suc n) len other = absurd (omega arith)
without_cr-other (byte ∷ next ∷ more) zero len other = absurd (omega arith)
without_cr-other (byte ∷ next ∷ more) (suc n) len other = ap (λ rest. byte ∷ rest) (without_cr-other (next ∷ more) n (omega arith) other)

pub take-take-le : {A : Type 0} → (n m : ℕ) (xs : List A) → n ≤ m → take n (take m xs) ≡ take n xs
take-take-le zero m xs le = refl
take-take-le (suc n) zero xs le = absurd (omega arith)
take-take-le (suc n) (suc m) [] le = refl
take-take-le (suc n) (suc m) (x ∷ xs) le = ap (λ rest. x ∷ rest) (take-take-le n m xs (omega arith))

-- a text behind its first LF
at_lf : (text : List ℕ) (end : ℕ) → end < length text → get_or text end 0 ≡ 10 → text ≡ take end text ++ 10 ∷ drop (end + 1) text
at_lf text end within lf = sym (take-append-drop end text) ∙ ap (λ rest. take end text ++ rest) (drop_more text end 0 within ∙ ap (λ byte. byte ∷ drop (end + 1) text) lf)

-- the lines of a text by the place of its first LF
pub lines-at : (text : List ℕ) (end : ℕ) → end < length text → ((place : ℕ) → place < end → get_or text place 0 ≢ 10) → get_or text end 0 ≡ 10 → lines text ≡ without_cr (take end text) ∷ lines (drop (end + 1) text)
lines-at text end within none lf =
    let front : length (take end text) ≡ end = length-take-le end text (omega arith) in
    ap lines (at_lf text end within lf)
    ∙ lines-found (take end text) (drop (end + 1) text) (λ place below equal. none place (omega arith) (sym (get_or-take end text place 0 (omega arith)) ∙ equal))

pub lines-with_cr : (text : List ℕ) (n end : ℕ) → n + 1 ≡ end → end < length text → ((place : ℕ) → place < end → get_or text place 0 ≢ 10) → get_or text end 0 ≡ 10 → get_or text n 0 ≡ 13 → lines text ≡ take n text ∷ lines (drop (end + 1) text)
lines-with_cr text n end next within none lf cr =
    let front : length (take end text) ≡ suc n = length-take-le end text (omega arith) ∙ omega arith in
    lines-at text end within none lf
    ∙ ap (λ line. line ∷ lines (drop (end + 1) text)) (without_cr-cr (take end text) n front (get_or-take end text n 0 (omega arith) ∙ cr) ∙ take-take-le n end text (omega arith))

pub lines-without_cr : (text : List ℕ) (end : ℕ) → end < length text → ((place : ℕ) → place < end → get_or text place 0 ≢ 10) → get_or text end 0 ≡ 10 → (0 < end → get_or text (end - 1) 0 ≢ 13) → lines text ≡ take end text ∷ lines (drop (end + 1) text)
lines-without_cr text zero within none lf other = lines-at text zero within none lf
lines-without_cr text (suc n) within none lf other =
    let front : length (take (suc n) text) ≡ suc n = length-take-le (suc n) text (omega arith) in
    let last : suc n - 1 ≡ n = omega arith in
    let not_cr : get_or text n 0 ≢ 13 = λ equal. other (omega arith) (ap (λ m. get_or text m 0) last ∙ equal) in
    lines-at text (suc n) within none lf
    ∙ ap (λ line. line ∷ lines (drop (suc n + 1) text)) (without_cr-other (take (suc n) text) n front (λ equal. not_cr (sym (get_or-take (suc n) text n 0 (omega arith)) ∙ equal)))

pub lines-whole : (text : List ℕ) → 0 < length text → ((place : ℕ) → place < length text → get_or text place 0 ≢ 10) → lines text ≡ text ∷ []
lines-whole [] some none = absurd (omega arith)
lines-whole (byte ∷ rest) some none = lines-last byte rest none

pub lines-nil : lines [] ≡ []
unfolding lines
lines-nil = refl

-- nothing stands behind the end of a text
pub lines-past : (text : List ℕ) (end : ℕ) → end ≡ length text → lines (take (length text - end) (drop end text)) ≡ []
lines-past text end e = ap lines (take_rest text end ∙ drop_all end text (omega arith)) ∙ lines-nil
