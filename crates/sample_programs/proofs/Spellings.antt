-- The names of the generator's texts, and the number of each.
use Rattle.std.proofs.Common.{◌≡◌, ℕ, zero, suc, ◌+◌, ◌<◌, ◌≤◌, eqb, List, [], ◌∷◌, ◌++◌, length, get_or, drop, decimal, codes, cond, Some, None, refl, sym, ap, subst, ◌∙◌, inl, inr, arith, length-append}
use Rattle.std.specs.Prelude.{Bool, true, false, nat_lt, unwrap_or}
use Rattle.std.specs.List.{list_all, position, position_or_len}
use Rattle.std.specs.Str.{bytes_eq}
use Rattle.std.proofs.lemmas.Bool.{cases_lt, lt-ltb, cond-true, ne_eqb, false_from_ne_true, and_parts, both_ways}
use Rattle.std.proofs.lemmas.Slice.Eq.{bytes_eq-Decides}
use Rattle.std.proofs.lemmas.Fmt.{decimal_injective}
use Rattle.std.proofs.lemmas.List.{get_or_append_left, get_or_at, get_or-append-add}
use Rattle.std.proofs.lemmas.List.Sums.{position_or_len_is}
use Rattle.clight_source.specs.declared.symbol.Symbol.TheVariants as s
use Rattle.clight_tokens.specs.Lexemes.{is_digit}
use Rattle.clight_tokens.specs.Symbols.{keywords, keyword_of, symbol_of, name_symbol}
use Rattle.sample_programs.proofs.Decimals.{decimal-digits}
use Rattle.sample_programs.proofs.Families.{each, length-each, get-each}
use Rattle.sample_programs.proofs.Trees.{own_text, own_name, main_number, value_number, all_names}

pub same-text : (t : List ℕ) → bytes_eq t t ≡ true
same-text t = (bytes_eq-Decides t t).1 refl

pub apart-texts : (t u : List ℕ) → (t ≡ u → ⊥) → bytes_eq t u ≡ false
apart-texts t u ne = false_from_ne_true (bytes_eq t u) (λ e. ne ((bytes_eq-Decides t u).0 e))

pub apart-own : (f g : ℕ) → f ≤ 65535 → g ≤ 65535 → (f ≡ g → ⊥) → bytes_eq (own_text f) (own_text g) ≡ false
apart-own f g h k ne = apart-texts (own_text f) (own_text g) (λ e. ne (decimal_injective f g (omega arith) (omega arith) (ap (drop 1) e)))

-- ---- the names by their numbers

abbrev rest_of : ℕ → List (List ℕ)
rest_of k = each (λ f. own_text (suc f)) k ++ codes "main" ∷ codes "x" ∷ []

length-rest : (k : ℕ) → length (rest_of k) ≡ k + 2
length-rest k =
    let l = length-each {A = List ℕ} (λ f. own_text (suc f)) k in
    let a = length-append {A = List ℕ} (each (λ f. own_text (suc f)) k) (codes "main" ∷ codes "x" ∷ []) in omega arith

pub length-names : (k : ℕ) → length (all_names (suc k)) ≡ k + 6
length-names k = let l = length-rest k in omega arith

rest-own : (k f : ℕ) → f < k → get_or (rest_of k) f [] ≡ own_text (suc f)
rest-own k f h =
    let l = length-each {A = List ℕ} (λ g. own_text (suc g)) k in
    get_or_append_left {A = List ℕ} (each (λ g. own_text (suc g)) k) (codes "main" ∷ codes "x" ∷ []) [] f (omega arith) ∙ get-each {A = List ℕ} (λ g. own_text (suc g)) k f [] h

rest-main : (k : ℕ) → get_or (rest_of k) k [] ≡ codes "main"
rest-main k = get_or_at {A = List ℕ} (each (λ f. own_text (suc f)) k) (codes "main") (codes "x" ∷ []) [] k (length-each {A = List ℕ} (λ f. own_text (suc f)) k)

rest-value : (k : ℕ) → get_or (rest_of k) (suc k) [] ≡ codes "x"
rest-value k =
    let l = length-each {A = List ℕ} (λ f. own_text (suc f)) k in
    let e : length (each (λ f. own_text (suc f)) k) + 1 ≡ suc k = omega arith in
    subst (λ (j : ℕ). get_or (rest_of k) j [] ≡ codes "x") e (get_or-append-add {A = List ℕ} (each (λ f. own_text (suc f)) k) (codes "main" ∷ codes "x" ∷ []) 1 [])

pub entry-own : (k f : ℕ) → f < suc k → get_or (all_names (suc k)) (own_name f) [] ≡ own_text f
entry-own k zero h = refl
entry-own k (suc f) h = rest-own k f (omega arith)

pub entry-main : (k : ℕ) → get_or (all_names (suc k)) (main_number (suc k)) [] ≡ codes "main"
entry-main k =
    let e : suc (suc (suc (suc k))) ≡ main_number (suc k) = omega arith in
    subst (λ (j : ℕ). get_or (all_names (suc k)) j [] ≡ codes "main") e (rest-main k)

pub entry-value : (k : ℕ) → get_or (all_names (suc k)) (value_number (suc k)) [] ≡ codes "x"
entry-value k =
    let e : suc (suc (suc (suc (suc k)))) ≡ value_number (suc k) = omega arith in
    subst (λ (j : ℕ). get_or (all_names (suc k)) j [] ≡ codes "x") e (rest-value k)

-- ---- the number of each

found : (p : List ℕ → Bool) (xs : List (List ℕ)) (k : ℕ) → k < length xs → ((j : ℕ) → j < k → p (get_or xs j []) ≡ false) → p (get_or xs k []) ≡ true → position p xs ≡ Some k
found p xs k h before here =
    let e : position_or_len p xs ≡ k = position_or_len_is p xs k [] (omega arith) before (λ _. here) in
    ap (λ (n : ℕ). cond (nat_lt n (length xs)) (Some n) None) e ∙ cond-true (nat_lt k (length xs)) (Some k) None (lt-ltb k (length xs) h)

other-first : (t : List ℕ) (k f : ℕ) → f < k → ((g : ℕ) → bytes_eq t (own_text g) ≡ false) → bytes_eq t (get_or (rest_of k) f []) ≡ false
other-first t k f h apart = ap (bytes_eq t) (rest-own k f h) ∙ apart (suc f)

pub place-own : (k f : ℕ) → k ≤ 64 → f < suc k → position (bytes_eq (own_text f)) (all_names (suc k)) ≡ Some (own_name f)
place-own k f small h = found (bytes_eq (own_text f)) (all_names (suc k)) (own_name f) (within f h) (before f h) (ap (bytes_eq (own_text f)) (entry-own k f h) ∙ same-text (own_text f))
  where
    within : (f : ℕ) → f < suc k → own_name f < length (all_names (suc k))
    within zero h = let l = length-names k in omega arith
    within (suc f) h = let l = length-names k in omega arith

    before : (f : ℕ) → f < suc k → (j : ℕ) → j < own_name f → bytes_eq (own_text f) (get_or (all_names (suc k)) j []) ≡ false
    before zero h j g = absurd (omega arith)
    before (suc f) h zero g = apart-own (suc f) 0 (omega arith) (omega arith) (λ e. absurd (omega arith))
    before (suc f) h (suc zero) g = refl
    before (suc f) h (suc (suc zero)) g = refl
    before (suc f) h (suc (suc (suc zero))) g = refl
    before (suc f) h (suc (suc (suc (suc j)))) g =
        ap (bytes_eq (own_text (suc f))) (rest-own k j (omega arith)) ∙ apart-own (suc f) (suc j) (omega arith) (omega arith) (λ e. absurd (omega arith))

pub place-a : (k : ℕ) → position (bytes_eq (codes "a")) (all_names (suc k)) ≡ Some 1
place-a k = let l = length-names k in found (bytes_eq (codes "a")) (all_names (suc k)) 1 (omega arith) before refl
  where
    before : (j : ℕ) → j < 1 → bytes_eq (codes "a") (get_or (all_names (suc k)) j []) ≡ false
    before zero h = refl
    before (suc j) h = absurd (omega arith)

pub place-b : (k : ℕ) → position (bytes_eq (codes "b")) (all_names (suc k)) ≡ Some 2
place-b k = let l = length-names k in found (bytes_eq (codes "b")) (all_names (suc k)) 2 (omega arith) before refl
  where
    before : (j : ℕ) → j < 2 → bytes_eq (codes "b") (get_or (all_names (suc k)) j []) ≡ false
    before zero h = refl
    before (suc zero) h = refl
    before (suc (suc j)) h = absurd (omega arith)

pub place-i : (k : ℕ) → position (bytes_eq (codes "i")) (all_names (suc k)) ≡ Some 3
place-i k = let l = length-names k in found (bytes_eq (codes "i")) (all_names (suc k)) 3 (omega arith) before refl
  where
    before : (j : ℕ) → j < 3 → bytes_eq (codes "i") (get_or (all_names (suc k)) j []) ≡ false
    before zero h = refl
    before (suc zero) h = refl
    before (suc (suc zero)) h = refl
    before (suc (suc (suc j))) h = absurd (omega arith)

pub place-main : (k : ℕ) → position (bytes_eq (codes "main")) (all_names (suc k)) ≡ Some (main_number (suc k))
place-main k = let l = length-names k in found (bytes_eq (codes "main")) (all_names (suc k)) (main_number (suc k)) (omega arith) before (ap (bytes_eq (codes "main")) (entry-main k) ∙ refl)
  where
    before : (j : ℕ) → j < main_number (suc k) → bytes_eq (codes "main") (get_or (all_names (suc k)) j []) ≡ false
    before zero h = refl
    before (suc zero) h = refl
    before (suc (suc zero)) h = refl
    before (suc (suc (suc zero))) h = refl
    before (suc (suc (suc (suc j)))) h = other-first (codes "main") k j (omega arith) (λ g. refl)

pub place-value : (k : ℕ) → position (bytes_eq (codes "x")) (all_names (suc k)) ≡ Some (value_number (suc k))
place-value k = let l = length-names k in found (bytes_eq (codes "x")) (all_names (suc k)) (value_number (suc k)) (omega arith) before (ap (bytes_eq (codes "x")) (entry-value k) ∙ refl)
  where
    before : (j : ℕ) → j < value_number (suc k) → bytes_eq (codes "x") (get_or (all_names (suc k)) j []) ≡ false
    before zero h = refl
    before (suc zero) h = refl
    before (suc (suc zero)) h = refl
    before (suc (suc (suc zero))) h = refl
    before (suc (suc (suc (suc j)))) h =
        elim (cases_lt j k) [
          | inl lt ↦ other-first (codes "x") k j lt (λ g. refl)
          | inr le ↦ let e : k ≡ j = omega arith in ap (bytes_eq (codes "x")) (ap (λ (m : ℕ). get_or (rest_of k) m []) (sym e) ∙ rest-main k) ∙ refl
        ]

-- ---- the names of functions are no keywords

no-keyword-by : (d : ℕ) (ds : List ℕ) → eqb d 111 ≡ false → eqb d 108 ≡ false → keyword_of (102 ∷ d ∷ ds) ≡ None
unfolding keywords
no-keyword-by d ds e f = rw (e, f) refl

no-keyword-digits : (ds : List ℕ) → 0 < length ds → list_all is_digit ds ≡ true → keyword_of (102 ∷ ds) ≡ None
no-keyword-digits [] h a = absurd (omega arith)
no-keyword-digits (d ∷ ds) h a =
    let is : is_digit d ≡ true = (and_parts (is_digit d) _ a).0 in
    no-keyword-by d ds (other d 111 is refl) (other d 108 is refl)
  where
    other : (d c : ℕ) → is_digit d ≡ true → is_digit c ≡ false → eqb d c ≡ false
    other d c is none = ne_eqb d c (λ e. both_ways (is_digit c) none (subst (λ (y : ℕ). is_digit y ≡ true) e is))

pub no-keyword : (f : ℕ) → f ≤ 65535 → keyword_of (own_text f) ≡ None
no-keyword f h = let a = decimal-digits f h in no-keyword-digits (decimal f) a.some a.digits

-- ---- symbols

pub symbol-own : (k f : ℕ) → k ≤ 64 → f < suc k → symbol_of (all_names (suc k)) (own_text f) ≡ s.Name (own_name f)
symbol-own k f small h = ap (λ o. unwrap_or o (name_symbol (position (bytes_eq (own_text f)) (all_names (suc k))))) (no-keyword f (omega arith)) ∙ ap name_symbol (place-own k f small h)

pub symbol-a : (k : ℕ) → symbol_of (all_names (suc k)) (codes "a") ≡ s.Name 1
unfolding keywords
symbol-a k = ap name_symbol (place-a k)

pub symbol-b : (k : ℕ) → symbol_of (all_names (suc k)) (codes "b") ≡ s.Name 2
unfolding keywords
symbol-b k = ap name_symbol (place-b k)

pub symbol-i : (k : ℕ) → symbol_of (all_names (suc k)) (codes "i") ≡ s.Name 3
unfolding keywords
symbol-i k = ap name_symbol (place-i k)

pub symbol-main : (k : ℕ) → symbol_of (all_names (suc k)) (codes "main") ≡ s.Name (main_number (suc k))
unfolding keywords
symbol-main k = ap name_symbol (place-main k)

pub symbol-value : (k : ℕ) → symbol_of (all_names (suc k)) (codes "x") ≡ s.Name (value_number (suc k))
unfolding keywords
symbol-value k = ap name_symbol (place-value k)
