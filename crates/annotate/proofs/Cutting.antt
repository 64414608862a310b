-- How a text is cut at its marks where it is put together of plain text and of annotations.
use Rattle.std.proofs.Common.{◌≡◌, ℕ, zero, suc, ◌+◌, Bool, true, false, ◌&&◌, cond, eqb, List, [], ◌∷◌, ◌++◌, take, drop, refl, sym, ap, ◌∙◌, append_assoc, append-nil, drop-drop, codes}
use Rattle.std.specs.List.{starts_with, list_any}
use Rattle.std.specs.Prelude.{nat_eq}
use Rattle.std.proofs.lemmas.Bool.{true≢false, or_parts, and_left}
use Rattle.annotate.specs.Erasure.{with_byte, cut, even_parts, odd_parts}
use Rattle.clight_source.specs.Markers.{annotation_mark, HasNoMarker}

-- a text with the first part that the cut text begins with
abbrev pub with_front : List ℕ → List (List ℕ) → List (List ℕ)
with_front front [] = front ∷ []
with_front front (part ∷ parts) = (front ++ part) ∷ parts

with_front-with_byte : (byte : ℕ) (front : List ℕ) (parts : List (List ℕ)) → with_byte byte (with_front front parts) ≡ with_front (byte ∷ front) parts
with_front-with_byte byte front [] = refl
with_front-with_byte byte front (part ∷ parts) = refl

-- the parts of a text are one or more, so that nothing in front of the first changes nothing
pub with_front-nil : (skip : ℕ) (text : List ℕ) → with_front [] (cut skip text) ≡ cut skip text
with_front-nil skip [] = refl
with_front-nil (suc skip) (byte ∷ text) = with_front-nil skip text
with_front-nil zero (byte ∷ text) = at_test (starts_with nat_eq (byte ∷ text) annotation_mark) (cut zero text) where
  at_test : (test : Bool) (ps : List (List ℕ)) → with_front [] (cond test ([] ∷ cut 4 text) (with_byte byte ps)) ≡ cond test ([] ∷ cut 4 text) (with_byte byte ps)
  at_test true ps = refl
  at_test false [] = refl
  at_test false (p ∷ ps) = refl

-- a byte at which no mark begins belongs to the part that goes on behind it
pub cut_byte : (byte : ℕ) (text : List ℕ) → starts_with nat_eq (byte ∷ text) annotation_mark ≡ false → cut 0 (byte ∷ text) ≡ with_byte byte (cut 0 text)
cut_byte byte text none = ap (λ (test : Bool). cond test ([] ∷ cut 4 text) (with_byte byte (cut 0 text))) none

-- three tests fail together, so that these and further ones do
longer_fails : (p q r t : Bool) → (p && (q && (r && true))) ≡ false → (p && (q && (r && t))) ≡ false
longer_fails false q r t h = refl
longer_fails true false r t h = refl
longer_fails true true false t h = refl
longer_fails true true true t h = absurd (true≢false h)

and-false : (p : Bool) → (p && false) ≡ false
and-false true = refl
and-false false = refl

-- what may follow a plain text in an annotated one: nothing, or something that begins with `/`
abbrev pub EndsText : List ℕ → Type 0
EndsText [] = Unit {0}
EndsText (byte ∷ rest) = byte ≡ 47

-- no mark begins in a text that has no marker, whatever annotation follows it
no_mark : (byte : ℕ) (text rest : List ℕ) → EndsText rest → starts_with nat_eq (byte ∷ text) (codes "/*@") ≡ false → starts_with nat_eq (byte ∷ text ++ rest) annotation_mark ≡ false
no_mark byte [] [] ends none = and-false (eqb 47 byte)
no_mark byte [] (x ∷ rest) ends none = rw ends (and-false (eqb 47 byte))
no_mark byte (b ∷ []) [] ends none = ap (λ t. eqb 47 byte && t) (and-false (eqb 42 b)) ∙ and-false (eqb 47 byte)
no_mark byte (b ∷ []) (x ∷ rest) ends none = rw ends (ap (λ t. eqb 47 byte && t) (and-false (eqb 42 b)) ∙ and-false (eqb 47 byte))
no_mark byte (b ∷ c ∷ text) rest ends none = longer_fails (eqb 47 byte) (eqb 42 b) (eqb 64 c) _ none

-- a plain text stands in one part
pub cut-plain : (text rest : List ℕ) → HasNoMarker text → EndsText rest → cut 0 (text ++ rest) ≡ with_front text (cut 0 rest)
cut-plain [] rest plain ends = sym (with_front-nil 0 rest)
cut-plain (byte ∷ text) rest plain ends =
    cut_byte byte (text ++ rest) (no_mark byte text rest ends (plain 0))
    ∙ ap (with_byte byte) (cut-plain text rest (λ at. plain (suc at)) ends)
    ∙ with_front-with_byte byte text (cut 0 rest)

-- a text without `/` stands in one part, whatever follows it
pub cut-inner : (text rest : List ℕ) → list_any (nat_eq 47) text ≡ false → cut 0 (text ++ rest) ≡ with_front text (cut 0 rest)
cut-inner [] rest none = sym (with_front-nil 0 rest)
cut-inner (byte ∷ text) rest none =
    let tests = or_parts (eqb 47 byte) (list_any (nat_eq 47) text) none in
    cut_byte byte (text ++ rest) (and_left (eqb 47 byte) _ tests.0)
    ∙ ap (with_byte byte) (cut-inner text rest tests.1)
    ∙ with_front-with_byte byte text (cut 0 rest)

-- an annotation is a part of its own
pub cut-annotation : (inner rest : List ℕ) → list_any (nat_eq 47) inner ≡ false → cut 0 ((annotation_mark ++ (inner ++ annotation_mark)) ++ rest) ≡ [] ∷ inner ∷ cut 0 rest
cut-annotation inner rest none =
    ap (cut 0) (ap (λ t. annotation_mark ++ t) (append_assoc inner annotation_mark rest))
    ∙ ap (λ ps. [] ∷ ps) (cut-inner inner (annotation_mark ++ rest) none)
    ∙ ap (λ t. [] ∷ t ∷ cut 0 rest) (append-nil inner)

-- a plain text, an annotation and more: the plain text, the annotation, and the parts of the rest
pub cut-annotated : (text inner rest : List ℕ) → HasNoMarker text → list_any (nat_eq 47) inner ≡ false → cut 0 (text ++ ((annotation_mark ++ (inner ++ annotation_mark)) ++ rest)) ≡ text ∷ inner ∷ cut 0 rest
cut-annotated text inner rest plain none =
    cut-plain text ((annotation_mark ++ (inner ++ annotation_mark)) ++ rest) plain refl
    ∙ ap (with_front text) (cut-annotation inner rest none)
    ∙ ap (λ t. t ∷ inner ∷ cut 0 rest) (append-nil text)

-- a plain text alone is one part
pub cut-plain_alone : (text : List ℕ) → HasNoMarker text → cut 0 text ≡ text ∷ []
cut-plain_alone text plain =
    ap (cut 0) (sym (append-nil text)) ∙ cut-plain text [] plain tt ∙ ap (λ t. t ∷ []) (append-nil text)

-- the parts with odd number go by those with even number of the rest
pub even_parts-cons : (part : List ℕ) (rest : List (List ℕ)) → even_parts (part ∷ rest) ≡ part ∷ odd_parts rest
even_parts-cons part [] = refl
even_parts-cons part (x ∷ rest) = refl

-- a text without marker has none in its front and none behind that
pub HasNoMarker-drop : (n : ℕ) (text : List ℕ) → HasNoMarker text → HasNoMarker (drop n text)
HasNoMarker-drop n text plain at = ap (λ t. starts_with nat_eq t (codes "/*@")) (drop-drop at n text) ∙ plain (n + at)

pub HasNoMarker-take : (n : ℕ) (text : List ℕ) → HasNoMarker text → HasNoMarker (take n text)
HasNoMarker-take zero text plain zero = refl
HasNoMarker-take zero text plain (suc at) = refl
HasNoMarker-take (suc n) [] plain at = plain at
HasNoMarker-take (suc n) (byte ∷ text) plain (suc at) = HasNoMarker-take n text (λ i. plain (suc i)) at
HasNoMarker-take (suc zero) (byte ∷ text) plain zero = and-false (eqb 47 byte)
HasNoMarker-take (suc (suc n)) (byte ∷ []) plain zero = and-false (eqb 47 byte)
HasNoMarker-take (suc (suc zero)) (byte ∷ b ∷ text) plain zero = ap (λ t. eqb 47 byte && t) (and-false (eqb 42 b)) ∙ and-false (eqb 47 byte)
HasNoMarker-take (suc (suc (suc n))) (byte ∷ b ∷ []) plain zero = ap (λ t. eqb 47 byte && t) (and-false (eqb 42 b)) ∙ and-false (eqb 47 byte)
HasNoMarker-take (suc (suc (suc n))) (byte ∷ b ∷ c ∷ text) plain zero = plain zero
