-- Each text has tokens, or a first fault.
use Rattle.std.proofs.Common.{◌≡◌, ℕ, zero, suc, ◌+◌, ◌≤◌, ◌<◌, Bool, true, false, List, [], ◌∷◌, take, drop, length, Option, Some, None, refl, ap, ◌∙◌, subst, arith, ◌⊎◌, inl, inr}
use Rattle.std.specs.Prelude.{codes, nat_eq, get_or}
use Rattle.std.specs.List.{list_all, starts_with}
use Rattle.std.proofs.lemmas.Bool.{cases_lt}
use Rattle.cerco_base.specs.declared.reasons.Fault.TheVariants.{Refused}
use Rattle.cerco_base.specs.declared.reasons.Reason.{Reason}
use Rattle.cerco_base.specs.declared.reasons.Reason.TheVariants as r
use Rattle.clight_source.specs.Markers.{HasNoMarker}
use Rattle.clight_tokens.specs.Lexemes.{Kind, is_source_byte, is_lexeme, IsLongest, HasNoLexeme}
use Rattle.clight_tokens.specs.Lexemes as k
use Rattle.clight_tokens.specs.Tokens.{Token, HasTokens, HasFault, HasSourceBytes, TokensFrom, at_end, gap, token, FaultFrom, nothing, wrong, later, is_token, flaw}
use Rattle.clight_tokens.proofs.Longer.{empty_none}
use Rattle.text_answers.specs.Answers.{TokensAreDecided}

-- ---- the longest thing at a place

-- a test, with what it says
abbrev Decided : Bool → Type 0
Decided b = (b ≡ true) ⊎ (b ≡ false)

decided : (b : Bool) → Decided b
decided true = inl refl
decided false = inr refl

clash : (b : Bool) → b ≡ true → b ≡ false → ⊥
clash b h g = cc

-- a kind that passes, or none
abbrev SomeKind : (Kind → Bool) → Type 0
SomeKind test = ((kind : Kind) × (test kind ≡ true)) ⊎ ((kind : Kind) → test kind ≡ false)

all_fail : (test : Kind → Bool) → test k.Blank ≡ false → test k.LineComment ≡ false → test k.BlockComment ≡ false → test k.OpenComment ≡ false → test k.Word ≡ false → test k.Number ≡ false → test k.Punctuator ≡ false
    → (kind : Kind) → test kind ≡ false
all_fail test a b c d e f g k.Blank = a
all_fail test a b c d e f g k.LineComment = b
all_fail test a b c d e f g k.BlockComment = c
all_fail test a b c d e f g k.OpenComment = d
all_fail test a b c d e f g k.Word = e
all_fail test a b c d e f g k.Number = f
all_fail test a b c d e f g k.Punctuator = g

some_kind : (test : Kind → Bool) → SomeKind test
some_kind test =
    elim (decided (test k.Blank)) [
      | inl y ↦ inl (k.Blank, y)
      | inr a ↦
          elim (decided (test k.LineComment)) [
            | inl y ↦ inl (k.LineComment, y)
            | inr b ↦
                elim (decided (test k.BlockComment)) [
                  | inl y ↦ inl (k.BlockComment, y)
                  | inr c ↦
                      elim (decided (test k.OpenComment)) [
                        | inl y ↦ inl (k.OpenComment, y)
                        | inr d ↦
                            elim (decided (test k.Word)) [
                              | inl y ↦ inl (k.Word, y)
                              | inr e ↦
                                  elim (decided (test k.Number)) [
                                    | inl y ↦ inl (k.Number, y)
                                    | inr f ↦
                                        elim (decided (test k.Punctuator)) [ inl y ↦ inl (k.Punctuator, y) | inr g ↦ inr (all_fail test a b c d e f g) ]
                                  ]
                            ]
                      ]
                ]
          ]
    ]

abbrev HasLexeme : List ℕ → Type 0
HasLexeme s = ((n : ℕ) × (kind : Kind) × IsLongest s n kind) ⊎ HasNoLexeme s

-- no more than the whole is taken
take_all : (s : List ℕ) (m : ℕ) → length s ≤ m → take m s ≡ take (length s) s
take_all [] zero le = refl
take_all [] (suc m) le = refl
take_all (a ∷ s) zero le = absurd (omega arith)
take_all (a ∷ s) (suc m) le = ap (λ r. a ∷ r) (take_all s m (omega arith))

abbrev NoneAbove : List ℕ → ℕ → Type 0
NoneAbove s m = (n : ℕ) (kind : Kind) → m < n → n ≤ length s → is_lexeme kind (take n s) ≡ false

take_none : (s : List ℕ) → take 0 s ≡ []
take_none [] = refl
take_none (a ∷ s) = refl

empty_front : (s : List ℕ) (kind : Kind) → is_lexeme kind (take 0 s) ≡ false
empty_front s kind = ap (is_lexeme kind) (take_none s) ∙ empty_none kind

no_lexeme : (s : List ℕ) → NoneAbove s 0 → HasNoLexeme s
no_lexeme s none zero kind = empty_front s kind
no_lexeme s none (suc n) kind =
    elim (cases_lt (length s) (suc n)) [ inl lt ↦ ap (is_lexeme kind) (take_all s (suc n) (omega arith)) ∙ whole (length s) refl | inr le ↦ none (suc n) kind (omega arith) (omega arith) ]
  where
    whole : (m : ℕ) → m ≡ length s → is_lexeme kind (take m s) ≡ false
    whole zero e = empty_front s kind
    whole (suc m) e = none (suc m) kind (omega arith) (omega arith)

at_most : (b : Bool) (n m : ℕ) → (m < n → b ≡ false) → b ≡ true → n ≤ m
at_most b n m none is = elim (cases_lt m n) [ inl lt ↦ absurd (clash b is (none lt)) | inr le ↦ omega arith ]

longest_below : (s : List ℕ) (m : ℕ) → m ≤ length s → NoneAbove s m → HasLexeme s
longest_below s zero le none = inr (no_lexeme s none)
longest_below s (suc m) le none =
    elim (some_kind (λ kind. is_lexeme kind (take (suc m) s))) [
      | inl found ↦ inl (
        suc m,
        found.0,
        record {
          some = omega arith;
          within = le;
          is = found.1;
          longest = λ n other within is. at_most (is_lexeme other (take n s)) n (suc m) (λ lt. none n other lt within) is;
        },
      )
      | inr fails ↦ longest_below s m (omega arith) (λ n kind lt within. elim (cases_lt (suc m) n) [ inl more ↦ none n kind more within | inr no_more ↦ same n kind lt no_more fails ])
    ]
  where
    same : (n : ℕ) (kind : Kind) → m < n → n ≤ suc m → ((kind : Kind) → is_lexeme kind (take (suc m) s) ≡ false) → is_lexeme kind (take n s) ≡ false
    same n kind lt no_more fails = let e : suc m ≡ n = omega arith in subst (λ n. is_lexeme kind (take n s) ≡ false) e (fails kind)

has_lexeme : (s : List ℕ) → HasLexeme s
has_lexeme s = longest_below s (length s) (omega arith) (λ n kind lt le. absurd (omega arith))

-- ---- the rest of a text

abbrev HasRest : ℕ → List ℕ → Type 0
HasRest p s = ((tokens : List Token) × TokensFrom p s tokens) ⊎ ((q : ℕ) × FaultFrom p s q)

shorter : (s : List ℕ) (n fuel : ℕ) → length s ≤ suc fuel → 0 < n → length (drop n s) ≤ fuel
shorter [] zero fuel le some = absurd (omega arith)
shorter [] (suc n) fuel le some = omega arith
shorter (a ∷ s) zero fuel le some = absurd (omega arith)
shorter (a ∷ s) (suc n) fuel le some = let q = drop_le s n in omega arith
  where
    drop_le : (s : List ℕ) (n : ℕ) → length (drop n s) ≤ length s
    drop_le [] zero = omega arith
    drop_le [] (suc n) = omega arith
    drop_le (a ∷ s) zero = omega arith
    drop_le (a ∷ s) (suc n) = let q = drop_le s n in omega arith

module _ (p n : ℕ) (s : List ℕ) (kind : Kind) (long : IsLongest s n kind) where
  by_rest : flaw kind n s ≡ None → (b : Bool) → is_token kind ≡ b → HasRest (p + n) (drop n s) → HasRest p s
  by_rest sound b is (inr fault) = inr (fault.0, later long sound fault.1)
  by_rest sound true is (inl rest) = inl (_, token long is sound rest.1)
  by_rest sound false is (inl rest) = inl (rest.0, gap long is sound rest.1)

  by_flaw : (flawed : Option ℕ) → flaw kind n s ≡ flawed → HasRest (p + n) (drop n s) → HasRest p s
  by_flaw (Some d) is rest = inr (p + d, wrong long is)
  by_flaw None is rest = by_rest is (is_token kind) refl rest

has_rest : (fuel p : ℕ) (s : List ℕ) → length s ≤ fuel → HasRest p s
has_rest fuel p [] le = inl ([], at_end)
has_rest zero p (a ∷ s) le = absurd (omega arith)
has_rest (suc fuel) p (a ∷ s) le =
    elim (has_lexeme (a ∷ s)) [
      | inl found ↦ by_flaw p found.0 (a ∷ s) found.1 found.2 (flaw found.1 found.0 (a ∷ s)) refl (has_rest fuel (p + found.0) (drop found.0 (a ∷ s)) (shorter (a ∷ s) found.0 fuel le found.2.some))
      | inr none ↦ inr (p, nothing none)
    ]

-- ---- the bytes and the marker

abbrev FirstFails : (ℕ → Bool) → List ℕ → Type 0
FirstFails test s = (list_all test s ≡ true) ⊎ ((q : ℕ) × (q < length s) × (test (get_or s q 0) ≡ false) × (list_all test (take q s) ≡ true))

one_before : (test : ℕ → Bool) (b : ℕ) (s : List ℕ) → test b ≡ true → FirstFails test s → FirstFails test (b ∷ s)
one_before test b s is (inl all) = inl (rw is all)
one_before test b s is (inr first) = let lt = first.1 in inr (suc first.0, omega arith, first.2, rw is first.3)

first_fails : (test : ℕ → Bool) (s : List ℕ) → FirstFails test s
first_fails test [] = inl refl
first_fails test (b ∷ s) = elim (decided (test b)) [ inl is ↦ one_before test b s is (first_fails test s) | inr fails ↦ inr (0, omega arith, fails, refl) ]

-- a test of places, up to one of them
abbrev FirstPlace : (ℕ → Bool) → ℕ → Type 0
FirstPlace test n = ((i : ℕ) → i < n → test i ≡ false) ⊎ ((q : ℕ) × (test q ≡ true) × ((i : ℕ) → i < q → test i ≡ false))

first_place : (test : ℕ → Bool) (n : ℕ) → FirstPlace test n
first_place test zero = inl (λ i lt. absurd (omega arith))
first_place test (suc n) = elim (first_place test n) [ inr found ↦ inr found | inl none ↦ elim (decided (test n)) [ inl is ↦ inr (n, is, none) | inr fails ↦ inl (up_to none fails) ] ]
  where
    up_to : ((i : ℕ) → i < n → test i ≡ false) → test n ≡ false → (i : ℕ) → i < suc n → test i ≡ false
    up_to none fails i lt = elim (cases_lt i n) [ inl less ↦ none i less | inr not_less ↦ (let e : n ≡ i = omega arith in subst (λ i. test i ≡ false) e fails) ]

abbrev begins_marker : List ℕ → ℕ → Bool
begins_marker text i = starts_with nat_eq (drop i text) (codes "/*@")

drop_past : (text : List ℕ) (i : ℕ) → length text ≤ i → drop i text ≡ []
drop_past [] zero le = refl
drop_past [] (suc i) le = refl
drop_past (a ∷ text) zero le = absurd (omega arith)
drop_past (a ∷ text) (suc i) le = drop_past text i (omega arith)

no_marker : (text : List ℕ) → ((i : ℕ) → i < length text → begins_marker text i ≡ false) → HasNoMarker text
no_marker text none i =
    elim (cases_lt i (length text)) [ inl lt ↦ none i lt | inr le ↦ ap (λ rest. starts_with nat_eq rest (codes "/*@")) (drop_past text i le) ]

-- ---- whole texts

abbrev HasAnswer : List ℕ → Type 0
HasAnswer text = ((tokens : List Token) × HasTokens text tokens) ⊎ ((reason : Reason) × HasFault text (Refused reason))

unmarked : (text : List ℕ) → HasSourceBytes text → HasNoMarker text → HasRest 0 text → HasAnswer text
unmarked text source none (inl rest) = inl (rest.0, record { source = source; unmarked = none; tokens = rest.1 })
unmarked text source none (inr fault) = inr (r.Token fault.0, (source, none, fault.1))

sourced : (text : List ℕ) → HasSourceBytes text → FirstPlace (begins_marker text) (length text) → HasAnswer text
sourced text source (inl none) = unmarked text source (no_marker text none) (has_rest (length text) 0 text (omega arith))
sourced text source (inr found) = inr (r.Marker found.0, (source, record { here = found.1; before = found.2 }))

short : (text : List ℕ) → length text ≤ 65535 → FirstFails is_source_byte text → HasAnswer text
short text le (inl all) = sourced text (record { short = le; bytes = all }) (first_place (begins_marker text) (length text))
short text le (inr first) = inr (r.Byte first.0, (le, record { within = first.1; wrong = first.2; before = first.3 }))

pub tokens_are_decided : TokensAreDecided
tokens_are_decided text = elim (cases_lt 65535 (length text)) [ inl long ↦ inr (r.TooLong, long) | inr le ↦ short text le (first_fails is_source_byte text) ]
