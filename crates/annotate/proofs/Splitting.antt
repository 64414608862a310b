-- A text is cut where its marks stand.
use Rattle.std.proofs.Common.{◌≡◌, ℕ, zero, suc, ◌+◌, ◌-◌, ◌<◌, ◌≤◌, true, false, true≢false, List, [], ◌∷◌, ◌++◌, length, take, drop, get_or, refl, sym, ap, subst, ◌∙◌, append_assoc, append-nil, drop-drop, arith}
use Rattle.std.specs.Prelude.{nat_eq}
use Rattle.std.specs.List.{concat, flat_map, starts_with}
use Rattle.std.proofs.lemmas.Bool.{cond-true}
use Rattle.std.proofs.lemmas.Bool.Decides.{Decides-eqb}
use Rattle.std.proofs.lemmas.List.{drop_more, take_more, take_rest, length-append, length-drop}
use Rattle.std.proofs.lemmas.Slice.Eq.{starts_is}
use Rattle.std.proofs.Math.Seq.{take-length, drop-length}
use Rattle.clight_source.specs.Markers.{annotation_mark}
use Rattle.annotate.specs.Erasure.{with_byte, cut, parts, even_parts, odd_parts, erased}
use Rattle.annotate.specs.Numbers.{numbers_in, numbers}
use Rattle.annotate.proofs.Cutting.{with_front, with_front-nil, cut_byte, even_parts-cons}

-- bytes that belong to a mark are left out
cut-skipped : (skip : ℕ) (text : List ℕ) → cut skip text ≡ cut 0 (drop skip text)
cut-skipped zero text = refl
cut-skipped (suc skip) [] = refl
cut-skipped (suc skip) (byte ∷ text) = cut-skipped skip text

with_front-byte : (front : List ℕ) (byte : ℕ) (ps : List (List ℕ)) → with_front front (with_byte byte ps) ≡ with_front (front ++ (byte ∷ [])) ps
with_front-byte front byte [] = refl
with_front-byte front byte (p ∷ ps) = ap (λ t. t ∷ ps) (sym (append_assoc front (byte ∷ []) p))

-- no mark begins before a byte of the text
abbrev pub IsUnmarkedUpTo : List ℕ → ℕ → Type 0
IsUnmarkedUpTo text at = parts text ≡ with_front (take at text) (parts (drop at text))

pub unmarked_first : (text : List ℕ) → IsUnmarkedUpTo text 0
unmarked_first text = sym (with_front-nil 0 text)

pub unmarked_more : (text : List ℕ) (at : ℕ) → at < length text → starts_with nat_eq (drop at text) annotation_mark ≡ false → IsUnmarkedUpTo text at → IsUnmarkedUpTo text (at + 1)
unmarked_more text at within none before =
    let next : drop at text ≡ get_or text at 0 ∷ drop (at + 1) text = drop_more text at 0 within in
    let byte = get_or text at 0 in
    let No : List ℕ → Type 0 = λ rest. starts_with nat_eq rest annotation_mark ≡ false in
    before
    ∙ ap (λ rest. with_front (take at text) (parts rest)) next
    ∙ ap (with_front (take at text)) (cut_byte byte (drop (at + 1) text) (subst No next none))
    ∙ with_front-byte (take at text) byte (parts (drop (at + 1) text))
    ∙ ap (λ front. with_front front (parts (drop (at + 1) text))) (sym (take_more text at 0 within))

pub unmarked_all : (text : List ℕ) (at : ℕ) → at ≡ length text → IsUnmarkedUpTo text at → parts text ≡ text ∷ []
unmarked_all text at end before =
    before
    ∙ ap (λ n. with_front (take n text) (parts (drop n text))) end
    ∙ ap (λ rest. with_front (take (length text) text) (parts rest)) (drop-length text)
    ∙ ap (λ t. t ∷ []) (append-nil (take (length text) text) ∙ take-length text)

-- a text that begins with a mark
marked : (text : List ℕ) → starts_with nat_eq text annotation_mark ≡ true → (cut 0 text ≡ [] ∷ cut 0 (drop 5 text)) × (5 ≤ length text)
marked [] is = absurd (true≢false (sym is))
marked (byte ∷ text) is =
    let begins : byte ∷ text ≡ annotation_mark ++ drop 5 (byte ∷ text) = (starts_is Decides-eqb (byte ∷ text) annotation_mark true (sym is)).0 refl in
    let size : length (byte ∷ text) ≡ length annotation_mark + length (drop 5 (byte ∷ text)) = ap length begins ∙ length-append annotation_mark (drop 5 (byte ∷ text)) in
    (cond-true (starts_with nat_eq (byte ∷ text) annotation_mark) ([] ∷ cut 4 text) (with_byte byte (cut 0 text)) is ∙ ap (λ ps. [] ∷ ps) (cut-skipped 4 text), omega arith)

-- A mark begins at this byte, and none does before.
pub record IsFirstMark (text : List ℕ) (at : ℕ) : Type 0 where
  pub within : at + 5 ≤ length text
  pub halves : parts text ≡ take at text ∷ parts (drop (at + 5) text)

pub mark_found : (text : List ℕ) (at : ℕ) → at < length text → starts_with nat_eq (drop at text) annotation_mark ≡ true → IsUnmarkedUpTo text at → IsFirstMark text at
mark_found text at inside is before =
    let m = marked (drop at text) is in
    record {
      within = let h = m.1 in let rest = length-drop at text in omega arith;
      halves =
          before
          ∙ ap (with_front (take at text)) m.0
          ∙ ap (λ front. front ∷ parts (drop 5 (drop at text))) (append-nil (take at text))
          ∙ ap (λ rest. take at text ∷ parts rest) (drop-drop 5 at text);
    }

-- ---- as the code has it: the text from a byte on is a slice

pub no_mark_found : (text : List ℕ) (at : ℕ) → at < length text → starts_with nat_eq (take (length text - at) (drop at text)) annotation_mark ≡ false → IsUnmarkedUpTo text at → IsUnmarkedUpTo text (at + 1)
no_mark_found text at within none before =
    let No : List ℕ → Type 0 = λ rest. starts_with nat_eq rest annotation_mark ≡ false in
    unmarked_more text at within (subst No (take_rest text at) none) before

abbrev pub AreHalves : List ℕ → List ℕ → List ℕ → Type 0
AreHalves text plain behind = (parts text ≡ plain ∷ parts behind) × (length behind < length text)

pub halves_found : (text : List ℕ) (at : ℕ) → at < length text → starts_with nat_eq (take (length text - at) (drop at text)) annotation_mark ≡ true → IsUnmarkedUpTo text at → AreHalves text (take at text) (take (length text - (at + 5)) (drop (at + 5) text))
halves_found text at inside is before =
    let Yes : List ℕ → Type 0 = λ rest. starts_with nat_eq rest annotation_mark ≡ true in
    let m = mark_found text at inside (subst Yes (take_rest text at) is) before in
    let within = m.within in
    let size = length-drop (at + 5) text in
    let Halves : List ℕ → Type 0 = λ behind. AreHalves text (take at text) behind in
    subst Halves (sym (take_rest text (at + 5))) (m.halves, omega arith)

-- ---- a text whose parts begin with a plain one and an annotation

pub erased_on : (text plain annotation rest : List ℕ) → parts text ≡ plain ∷ annotation ∷ parts rest → erased text ≡ plain ++ erased rest
erased_on text plain annotation rest is = ap (λ ps. concat (even_parts ps)) is

pub numbers_on : (text plain annotation rest : List ℕ) → parts text ≡ plain ∷ annotation ∷ parts rest → numbers text ≡ numbers_in annotation ++ numbers rest
numbers_on text plain annotation rest is =
    ap (λ ps. flat_map numbers_in (odd_parts ps)) is ∙ ap (flat_map numbers_in) (even_parts-cons annotation (parts rest))

-- one that isn't closed ends with the text
pub erased_unclosed : (text plain annotation : List ℕ) → parts text ≡ plain ∷ annotation ∷ [] → erased text ≡ plain ++ erased []
erased_unclosed text plain annotation is = ap (λ ps. concat (even_parts ps)) is

pub numbers_unclosed : (text plain annotation : List ℕ) → parts text ≡ plain ∷ annotation ∷ [] → numbers text ≡ numbers_in annotation ++ numbers []
numbers_unclosed text plain annotation is = ap (λ ps. flat_map numbers_in (odd_parts ps)) is

pub erased_plain : (text : List ℕ) → parts text ≡ text ∷ [] → erased text ≡ text
erased_plain text is = ap (λ ps. concat (even_parts ps)) is ∙ append-nil text

pub numbers_plain : (text : List ℕ) → parts text ≡ text ∷ [] → numbers text ≡ []
numbers_plain text is = ap (λ ps. flat_map numbers_in (odd_parts ps)) is
