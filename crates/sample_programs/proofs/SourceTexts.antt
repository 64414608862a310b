-- The text of the generator is that of its pieces, which are its tokens.
use Rattle.std.proofs.Common.{◌≡◌, ℕ, zero, suc, ◌+◌, ◌*◌, ◌<◌, ◌≤◌, ◌==◌, List, [], ◌∷◌, ◌++◌, length, drop, decimal, codes, refl, sym, ap, ap₂, subst, ◌∙◌, inl, inr, arith, append_assoc, append-nil, length-append}
use Rattle.std.specs.Prelude.{Bool, true, false, not, ◌&&◌, nat_eq, IsFalse}
use Rattle.std.specs.List.{list_all, starts_with}
use Rattle.std.proofs.lemmas.Bool.{and_parts, and_from, or_left, or_cases, not-true, ne_eqb, leb-true, le-leb, eq-eqb, both_ways}
use Rattle.std.proofs.lemmas.Fmt.{length-decimal-le}
use Rattle.clight_tokens.specs.Lexemes.{is_digit, is_source_byte, is_punctuator}
use Rattle.clight_tokens.specs.Constants.{constant_of}
use Rattle.clight_tokens.specs.Tokens.{Token, HasTokens, TokensFrom, at_end}
use Rattle.sample_texts.specs.declared.draws.Numbers.{Numbers}
use Rattle.sample_texts.specs.Texts.{each_below, function_text, call_text, main_text}
use Rattle.sample_programs.proofs.Decimals.{decimal-digits}
use Rattle.sample_programs.proofs.Pieces.{Piece, Blank, Mark, Fixed, Own, Count, Unsigned, text_onto, tokens_from, fits, all_fit, numbers_in, AreSmall, tokens_hold}
use Rattle.sample_programs.proofs.Trees.{function_pieces, front_pieces, call_pieces, back_pieces, main_pieces, all_pieces}
use Rattle.sample_programs.proofs.Typing.{AreWithin}

-- ---- texts of pieces

abbrev pub text : List Piece → List ℕ
text ps = text_onto ps []

text-before : (ps : List Piece) (rest : List ℕ) → text_onto ps rest ≡ text ps ++ rest
text-before [] rest = refl
text-before (Blank x ∷ ps) rest = ap (λ s. x ∷ s) (text-before ps rest)
text-before (Mark x ∷ ps) rest = ap (λ s. x ∷ s) (text-before ps rest)
text-before (Fixed t ∷ ps) rest = ap (λ s. t ++ s) (text-before ps rest) ∙ sym (append_assoc t (text ps) rest)
text-before (Own n ∷ ps) rest = ap (λ s. 102 ∷ (decimal n ++ s)) (text-before ps rest) ∙ ap (λ s. 102 ∷ s) (sym (append_assoc (decimal n) (text ps) rest))
text-before (Count n ∷ ps) rest = ap (λ s. decimal n ++ s) (text-before ps rest) ∙ sym (append_assoc (decimal n) (text ps) rest)
text-before (Unsigned n ∷ ps) rest = ap (λ s. decimal n ++ (117 ∷ s)) (text-before ps rest) ∙ sym (append_assoc (decimal n) (117 ∷ text ps) rest)

text-over : (ps qs : List Piece) (rest : List ℕ) → text_onto (ps ++ qs) rest ≡ text_onto ps (text_onto qs rest)
text-over [] qs rest = refl
text-over (Blank x ∷ ps) qs rest = ap (λ s. x ∷ s) (text-over ps qs rest)
text-over (Mark x ∷ ps) qs rest = ap (λ s. x ∷ s) (text-over ps qs rest)
text-over (Fixed t ∷ ps) qs rest = ap (λ s. t ++ s) (text-over ps qs rest)
text-over (Own n ∷ ps) qs rest = ap (λ s. 102 ∷ (decimal n ++ s)) (text-over ps qs rest)
text-over (Count n ∷ ps) qs rest = ap (λ s. decimal n ++ s) (text-over ps qs rest)
text-over (Unsigned n ∷ ps) qs rest = ap (λ s. decimal n ++ (117 ∷ s)) (text-over ps qs rest)

text-append : (ps qs : List Piece) → text (ps ++ qs) ≡ text ps ++ text qs
text-append ps qs = text-over ps qs [] ∙ text-before ps (text qs)

text-joined : (f : ℕ → List Piece) (g : ℕ → List ℕ) (n : ℕ) → ((k : ℕ) → text (f k) ≡ g k) → text (each_below f n) ≡ each_below g n
text-joined f g zero e = refl
text-joined f g (suc n) e = text-append (each_below f n) (f n) ∙ ap₂ (λ xs ys. xs ++ ys) (text-joined f g n e) (e n)

function-text : (x : Numbers) (f : ℕ) → text (function_pieces x f) ≡ function_text x f
function-text x f = refl

call-text : (f : ℕ) → text (call_pieces f) ≡ call_text f
call-text f = refl

pub text-all : (numbers : ℕ → Numbers) (start n : ℕ) → text (all_pieces numbers start n) ≡ each_below (λ f. function_text (numbers f) f) n ++ main_text start n
text-all numbers start n =
    text-append (each_below (λ f. function_pieces (numbers f) f) n) (main_pieces start n)
    ∙ ap₂ (λ xs ys. xs ++ ys) (text-joined (λ f. function_pieces (numbers f) f) (λ f. function_text (numbers f) f) n (λ f. function-text (numbers f) f))
    (text-over (front_pieces start) (each_below call_pieces n ++ back_pieces) []
    ∙ ap (text_onto (front_pieces start)) (text-append (each_below call_pieces n) back_pieces ∙ ap (λ xs. xs ++ codes "}\n") (text-joined call_pieces call_text n call-text)))

-- ---- what holds of the pieces

fits-more : (p : Piece) (ps qs : List Piece) → fits p ps ≡ true → fits p (ps ++ qs) ≡ true
fits-more p (q ∷ ps) qs h = same p q ps qs h
  where
    same : (p q : Piece) (ps qs : List Piece) → fits p (q ∷ ps) ≡ true → fits p (q ∷ (ps ++ qs)) ≡ true
    same (Blank x) q ps qs h = h
    same (Mark x) (Blank y) ps qs h = h
    same (Mark x) (Mark y) ps qs h = h
    same (Mark x) (Fixed t) ps qs h = h
    same (Mark x) (Own n) ps qs h = h
    same (Mark x) (Count n) ps qs h = h
    same (Mark x) (Unsigned n) ps qs h = h
    same (Fixed t) (Blank y) ps qs h = h
    same (Fixed t) (Mark y) ps qs h = h
    same (Fixed t) (Fixed u) ps qs h = h
    same (Fixed t) (Own n) ps qs h = h
    same (Fixed t) (Count n) ps qs h = h
    same (Fixed t) (Unsigned n) ps qs h = h
    same (Own n) (Blank y) ps qs h = h
    same (Own n) (Mark y) ps qs h = h
    same (Own n) (Fixed u) ps qs h = h
    same (Own n) (Own m) ps qs h = h
    same (Own n) (Count m) ps qs h = h
    same (Own n) (Unsigned m) ps qs h = h
    same (Count n) (Blank y) ps qs h = h
    same (Count n) (Mark y) ps qs h = h
    same (Count n) (Fixed u) ps qs h = h
    same (Count n) (Own m) ps qs h = h
    same (Count n) (Count m) ps qs h = h
    same (Count n) (Unsigned m) ps qs h = h
    same (Unsigned n) (Blank y) ps qs h = h
    same (Unsigned n) (Mark y) ps qs h = h
    same (Unsigned n) (Fixed u) ps qs h = h
    same (Unsigned n) (Own m) ps qs h = h
    same (Unsigned n) (Count m) ps qs h = h
    same (Unsigned n) (Unsigned m) ps qs h = h
fits-more (Blank x) [] qs h = h
fits-more (Mark x) [] qs h =
    let a = and_parts (is_punctuator (x ∷ [])) _ h in
    let b = and_parts (not (x == 47)) _ a.1 in
    and_from _ _ a.0 (and_from _ _ b.0 (elim (or_cases _ false b.1) [ inl c ↦ or_left _ _ c | inr f ↦ cc ]))
fits-more (Fixed t) [] qs h = let a = and_parts _ false h in let f = a.1 in cc
fits-more (Own n) [] qs h = cc
fits-more (Count n) [] qs h = cc
fits-more (Unsigned n) [] qs h = cc

fit-append : (ps qs : List Piece) → all_fit ps ≡ true → all_fit qs ≡ true → all_fit (ps ++ qs) ≡ true
fit-append [] qs h g = g
fit-append (p ∷ ps) qs h g = let a = and_parts (fits p ps) _ h in and_from _ _ (fits-more p ps qs a.0) (fit-append ps qs a.1 g)

small-append : (ps qs : List Piece) → AreSmall (numbers_in ps) → AreSmall (numbers_in qs) → AreSmall (numbers_in (ps ++ qs))
small-append [] qs h g = g
small-append (Blank x ∷ ps) qs h g = small-append ps qs h g
small-append (Mark x ∷ ps) qs h g = small-append ps qs h g
small-append (Fixed t ∷ ps) qs h g = small-append ps qs h g
small-append (Own n ∷ ps) qs h g = (h.0, small-append ps qs h.1 g)
small-append (Count n ∷ ps) qs h g = (h.0, small-append ps qs h.1 g)
small-append (Unsigned n ∷ ps) qs h g = (h.0, small-append ps qs h.1 g)

-- a byte of a source that doesn't begin a comment
abbrev is_plain : ℕ → Bool
is_plain b = is_source_byte b && not (b == 47)

abbrev is_plain_piece : Piece → Bool
is_plain_piece (Blank x) = is_plain x
is_plain_piece (Mark x) = is_plain x
is_plain_piece (Fixed t) = list_all is_plain t
is_plain_piece p = true

-- how long a piece is at most
abbrev most : Piece → ℕ
most (Blank x) = 1
most (Mark x) = 1
most (Fixed t) = length t
most (Own n) = 6
most (Count n) = 5
most (Unsigned n) = 6

abbrev all_most : List Piece → ℕ
all_most [] = 0
all_most (p ∷ ps) = most p + all_most ps

-- pieces that fit, with small numbers and plain bytes
pub record AreFine (ps : List Piece) : Type 0 where
  pub fit : all_fit ps ≡ true
  pub small : AreSmall (numbers_in ps)
  pub plain : list_all is_plain (text ps) ≡ true

all-over : (p : ℕ → Bool) (xs ys : List ℕ) → list_all p xs ≡ true → list_all p ys ≡ true → list_all p (xs ++ ys) ≡ true
all-over p [] ys h g = g
all-over p (x ∷ xs) ys h g = let a = and_parts (p x) _ h in and_from _ _ a.0 (all-over p xs ys a.1 g)

fine-append : (ps qs : List Piece) → AreFine ps → AreFine qs → AreFine (ps ++ qs)
fine-append ps qs a b = record {
  fit = fit-append ps qs a.fit b.fit;
  small = small-append ps qs a.small b.small;
  plain = ap (list_all is_plain) (text-append ps qs) ∙ all-over is_plain (text ps) (text qs) a.plain b.plain;
}

fine-joined : (f : ℕ → List Piece) (n : ℕ) → ((k : ℕ) → k < n → AreFine (f k)) → AreFine (each_below f n)
fine-joined f zero h = record { fit = refl; small = tt; plain = refl }
fine-joined f (suc n) h = fine-append (each_below f n) (f n) (fine-joined f n (λ k g. h k (omega arith))) (h n (omega arith))

digit-plain : (d : ℕ) → is_digit d ≡ true → is_plain d ≡ true
digit-plain d h =
    let a = and_parts _ _ h in
    let low : 48 ≤ d = leb-true 48 d a.0 in
    let high : d ≤ 57 = leb-true d 57 a.1 in
    and_from _ _ (or_left _ _ (and_from _ _ (le-leb 32 d (omega arith)) (le-leb d 126 (omega arith)))) (ap not (ne_eqb d 47 (λ e. absurd (omega arith))))

digits-plain : (ds : List ℕ) → list_all is_digit ds ≡ true → list_all is_plain ds ≡ true
digits-plain [] h = refl
digits-plain (d ∷ ds) h = let a = and_parts (is_digit d) _ h in and_from _ _ (digit-plain d a.0) (digits-plain ds a.1)

decimal-plain : (n : ℕ) (rest : List ℕ) → n ≤ 65535 → list_all is_plain rest ≡ true → list_all is_plain (decimal n ++ rest) ≡ true
decimal-plain n rest h g = all-over is_plain (decimal n) rest (digits-plain (decimal n) (decimal-digits n h).digits) g

pieces-plain : (ps : List Piece) → list_all is_plain_piece ps ≡ true → AreSmall (numbers_in ps) → list_all is_plain (text ps) ≡ true
pieces-plain [] h s = refl
pieces-plain (Blank x ∷ ps) h s = let a = and_parts (is_plain x) _ h in and_from _ _ a.0 (pieces-plain ps a.1 s)
pieces-plain (Mark x ∷ ps) h s = let a = and_parts (is_plain x) _ h in and_from _ _ a.0 (pieces-plain ps a.1 s)
pieces-plain (Fixed t ∷ ps) h s = let a = and_parts (list_all is_plain t) _ h in all-over is_plain t (text ps) a.0 (pieces-plain ps a.1 s)
pieces-plain (Own n ∷ ps) h s = and_from true _ refl (decimal-plain n (text ps) s.0 (pieces-plain ps h s.1))
pieces-plain (Count n ∷ ps) h s = decimal-plain n (text ps) s.0 (pieces-plain ps h s.1)
pieces-plain (Unsigned n ∷ ps) h s = decimal-plain n (117 ∷ text ps) s.0 (and_from true _ refl (pieces-plain ps h s.1))

fine : (ps : List Piece) → all_fit ps ≡ true → list_all is_plain_piece ps ≡ true → AreSmall (numbers_in ps) → AreFine ps
fine ps f p s = record { fit = f; small = s; plain = pieces-plain ps p s }

function-fits : (x : Numbers) (f : ℕ) → all_fit (function_pieces x f) ≡ true
unfolding is_punctuator constant_of
function-fits x f = refl

function-fine : (x : Numbers) (f : ℕ) → AreWithin x → f ≤ 64 → AreFine (function_pieces x f)
function-fine x f w h =
    let t = w.turns in
    fine (function_pieces x f) (function-fits x f) refl (let a : f ≤ 65535 = omega arith in a, (let b : x.turns ≤ 65535 = omega arith in b, (w.added, (w.mixed, (w.mixed_odd, tt)))))

call-fits : (f : ℕ) → all_fit (call_pieces f) ≡ true
unfolding is_punctuator constant_of
call-fits f = refl

call-fine : (f : ℕ) → f ≤ 64 → AreFine (call_pieces f)
call-fine f h = fine (call_pieces f) (call-fits f) refl (let a : f ≤ 65535 = omega arith in a, tt)

front-fits : (start : ℕ) → all_fit (front_pieces start) ≡ true
unfolding is_punctuator constant_of
front-fits start = refl

back-fits : all_fit back_pieces ≡ true
unfolding is_punctuator
back-fits = refl

pub all-fine : (numbers : ℕ → Numbers) (start n : ℕ) → ((f : ℕ) → f < n → AreWithin (numbers f)) → start ≤ 65535 → n ≤ 64 → AreFine (all_pieces numbers start n)
all-fine numbers start n w s h =
    fine-append (each_below (λ f. function_pieces (numbers f) f) n) (main_pieces start n)
    (fine-joined (λ f. function_pieces (numbers f) f) n (λ f g. function-fine (numbers f) f (w f g) (omega arith)))
    (fine-append (front_pieces start) (each_below call_pieces n ++ back_pieces) (fine (front_pieces start) (front-fits start) refl (s, tt))
    (fine-append (each_below call_pieces n) back_pieces (fine-joined call_pieces n (λ f g. call-fine f (omega arith))) (fine back_pieces back-fits refl tt)))

-- ---- how long they are

long-decimal : (n : ℕ) → n ≤ 65535 → length (decimal n) ≤ 5
long-decimal n h = length-decimal-le 5 n (omega arith) (omega arith) (omega arith)

long-pieces : (ps : List Piece) → AreSmall (numbers_in ps) → length (text ps) ≤ all_most ps
long-pieces [] s = omega arith
long-pieces (Blank x ∷ ps) s = let r = long-pieces ps s in omega arith
long-pieces (Mark x ∷ ps) s = let r = long-pieces ps s in omega arith
long-pieces (Fixed t ∷ ps) s = let r = long-pieces ps s in let l = length-append t (text ps) in omega arith
long-pieces (Own n ∷ ps) s = let r = long-pieces ps s.1 in let d = long-decimal n s.0 in let l = length-append (decimal n) (text ps) in omega arith
long-pieces (Count n ∷ ps) s = let r = long-pieces ps s.1 in let d = long-decimal n s.0 in let l = length-append (decimal n) (text ps) in omega arith
long-pieces (Unsigned n ∷ ps) s = let r = long-pieces ps s.1 in let d = long-decimal n s.0 in let l = length-append (decimal n) (117 ∷ text ps) in omega arith

long-joined : (f : ℕ → List Piece) (n : ℕ) → ((k : ℕ) → k < n → length (text (f k)) ≤ 200) → length (text (each_below f n)) ≤ 200 * n
long-joined f zero h = omega arith
long-joined f (suc n) h =
    let a = long-joined f n (λ k g. h k (omega arith)) in
    let b = h n (omega arith) in
    let e = ap length (text-append (each_below f n) (f n)) in
    let l = length-append (text (each_below f n)) (text (f n)) in
    omega arith

long-all : (numbers : ℕ → Numbers) (start n : ℕ) → ((f : ℕ) → f < n → AreWithin (numbers f)) → start ≤ 65535 → n ≤ 64 → length (text (all_pieces numbers start n)) ≤ 65535
long-all numbers start n w s h =
    let functions = long-joined (λ f. function_pieces (numbers f) f) n (λ f g. let a = long-pieces (function_pieces (numbers f) f) (function-fine (numbers f) f (w f g) (omega arith)).small in omega arith) in
    let calls = long-joined call_pieces n (λ f g. let a = long-pieces (call_pieces f) (call-fine f (omega arith)).small in omega arith) in
    let front : length (text (front_pieces start)) ≤ 100 = (let a = long-pieces (front_pieces start) (s, tt) in omega arith) in
    let e = ap length (text-append (each_below (λ f. function_pieces (numbers f) f) n) (main_pieces start n)) in
    let l = length-append (text (each_below (λ f. function_pieces (numbers f) f) n)) (text (main_pieces start n)) in
    let f = ap length (text-append (front_pieces start) (each_below call_pieces n ++ back_pieces)) in
    let m = length-append (text (front_pieces start)) (text (each_below call_pieces n ++ back_pieces)) in
    let g = ap length (text-append (each_below call_pieces n) back_pieces) in
    let k = length-append (text (each_below call_pieces n)) (text back_pieces) in
    omega arith

-- ---- the tokens of the whole

plain-source : (s : List ℕ) → list_all is_plain s ≡ true → list_all is_source_byte s ≡ true
plain-source [] h = refl
plain-source (b ∷ s) h = let a = and_parts (is_plain b) _ h in and_from _ _ (and_parts _ _ a.0).0 (plain-source s a.1)

dropped-plain : (s : List ℕ) (at : ℕ) → list_all is_plain s ≡ true → list_all is_plain (drop at s) ≡ true
dropped-plain s zero h = h
dropped-plain [] (suc at) h = refl
dropped-plain (b ∷ s) (suc at) h = dropped-plain s at (and_parts (is_plain b) _ h).1

no-mark : (s : List ℕ) → list_all is_plain s ≡ true → IsFalse (starts_with nat_eq s (codes "/*@"))
no-mark [] h = refl
no-mark (b ∷ s) h =
    let other : nat_eq b 47 ≡ false = not-true (b == 47) (and_parts (is_source_byte b) _ (and_parts (is_plain b) _ h).0).1 in
    by (nat_eq 47 b) (ne_eqb 47 b (λ e. both_ways (nat_eq b 47) other (eq-eqb b 47 (sym e))))
  where
    by : (v : Bool) → v ≡ false → IsFalse (v && starts_with nat_eq s (codes "*@"))
    by true e = cc
    by false e = refl

pub tokens-are : (numbers : ℕ → Numbers) (start n : ℕ) → ((f : ℕ) → f < n → AreWithin (numbers f)) → start ≤ 65535 → n ≤ 64 → HasTokens (text (all_pieces numbers start n)) (tokens_from 0 (all_pieces numbers start n))
tokens-are numbers start n w s h =
    let ps = all_pieces numbers start n in
    let f = all-fine numbers start n w s h in
    record {
      source = record { short = long-all numbers start n w s h; bytes = plain-source (text ps) f.plain };
      unmarked = λ at. no-mark (drop at (text ps)) (dropped-plain (text ps) at f.plain);
      tokens = subst (λ (l : List Token). TokensFrom 0 (text ps) l) (append-nil (tokens_from 0 ps)) (tokens_hold ps 0 [] [] f.fit f.small at_end);
    }
