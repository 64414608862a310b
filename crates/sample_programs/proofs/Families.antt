-- Lists with one part for each number below a bound.
use Rattle.std.proofs.Common.{◌≡◌, ℕ, zero, suc, ◌*◌, ◌<◌, ◌≤◌, List, [], ◌∷◌, ◌++◌, map, length, get_or, Some, refl, sym, ap, subst, ◌∙◌, inl, inr, arith}
use Rattle.std.specs.Prelude.{slice_get, All}
use Rattle.std.specs.List.{flat_map, sum_by}
use Rattle.std.proofs.lemmas.Bool.{cases_lt}
use Rattle.std.proofs.lemmas.List.{length_push, map_push, map-append, get_or_append_left, get_or_push, flat_map_more, length-append}
use Rattle.std.proofs.lemmas.List.Elements.{All-nil, All-append}
use Rattle.std.proofs.lemmas.List.Sums.{sum_by-le}
use Rattle.std.proofs.lemmas.Option.{slice_get-get_or}
use Rattle.sample_texts.specs.Texts.{each_below}

abbrev pub each : {A : Type 0} → (ℕ → A) → ℕ → List A
each f zero = []
each f (suc n) = each f n ++ f n ∷ []

pub length-each : {A : Type 0} (f : ℕ → A) (n : ℕ) → length (each f n) ≡ n
length-each f zero = refl
length-each f (suc n) = let p = length_push (each f n) (f n) in let e = length-each f n in omega arith

pub get-each : {A : Type 0} (f : ℕ → A) (n i : ℕ) (d : A) → i < n → get_or (each f n) i d ≡ f i
get-each f zero i d h = absurd (omega arith)
get-each f (suc n) i d h =
    let l = length-each f n in
    elim (cases_lt i n) [
      | inl lt ↦ get_or_append_left (each f n) (f n ∷ []) d i (omega arith) ∙ get-each f n i d lt
      | inr le ↦ let e : n ≡ i = omega arith in get_or_push (each f n) (f n) d i (omega arith) ∙ ap f e
    ]

pub slice_get-each : {A : Type 0} (f : ℕ → A) (n i : ℕ) → i < n → slice_get (each f n) i ≡ Some (f i)
slice_get-each f n i h =
    let l = length-each f n in
    slice_get-get_or (each f n) i (f i) (omega arith) ∙ ap Some (get-each f n i (f i) h)

pub map-each : {A B : Type 0} (g : A → B) (f : ℕ → A) (n : ℕ) → map g (each f n) ≡ each (λ i. g (f i)) n
map-each g f zero = refl
map-each g f (suc n) = map_push g (each f n) (f n) ∙ ap (λ xs. xs ++ g (f n) ∷ []) (map-each g f n)

pub all-each : {A : Type 0} (P : A → Type 0) (f : ℕ → A) (n : ℕ) → ((i : ℕ) → i < n → P (f i)) → All P (each f n)
all-each P f n p =
    λ k d h. let l = length-each f n in let lt : k < n = omega arith in subst P (sym (get-each f n k d lt)) (p k lt)

pub sum-each : {A : Type 0} (g : A → ℕ) (m : ℕ) (f : ℕ → A) (n : ℕ) → ((i : ℕ) → i < n → g (f i) ≤ m) → sum_by g (each f n) ≤ n * m
sum-each g m f n p = subst (λ (k : ℕ). sum_by g (each f n) ≤ k * m) (length-each f n) (sum_by-le g m (each f n) (all-each (λ x. g x ≤ m) f n p))

pub flat-each : {A B : Type 0} (g : A → List B) (f : ℕ → A) (n : ℕ) → flat_map g (each f n) ≡ each_below (λ i. g (f i)) n
flat-each g f zero = refl
flat-each g f (suc n) = sym (flat_map_more g [] (each f n) (f n)) ∙ ap (λ xs. xs ++ g (f n)) (flat-each g f n)

pub flat-each-last : {A B : Type 0} (g : A → List B) (f : ℕ → A) (n : ℕ) (last : A) → flat_map g (each f n ++ last ∷ []) ≡ each_below (λ i. g (f i)) n ++ g last
flat-each-last g f n last = sym (flat_map_more g [] (each f n) last) ∙ ap (λ xs. xs ++ g last) (flat-each g f n)

pub map-joined : {A B : Type 0} (g : A → B) (f : ℕ → List A) (n : ℕ) → map g (each_below f n) ≡ each_below (λ i. map g (f i)) n
map-joined g f zero = refl
map-joined g f (suc n) = map-append g (each_below f n) (f n) ∙ ap (λ xs. xs ++ map g (f n)) (map-joined g f n)

-- where the parts are the same up to there, so are the lists
pub same-joined : {A : Type 0} (f g : ℕ → List A) (n : ℕ) → ((i : ℕ) → i < n → f i ≡ g i) → each_below f n ≡ each_below g n
same-joined f g zero e = refl
same-joined f g (suc n) e =
    ap (λ xs. xs ++ f n) (same-joined f g n (λ i h. e i (omega arith))) ∙ ap (λ xs. each_below g n ++ xs) (e n (omega arith))

pub same-each : {A : Type 0} (f g : ℕ → A) (n : ℕ) → ((i : ℕ) → i < n → f i ≡ g i) → each f n ≡ each g n
same-each f g zero e = refl
same-each f g (suc n) e =
    ap (λ xs. xs ++ f n ∷ []) (same-each f g n (λ i h. e i (omega arith))) ∙ ap (λ x. each g n ++ x ∷ []) (e n (omega arith))

pub all-joined : {A : Type 0} (P : A → Type 0) (f : ℕ → List A) (n : ℕ) → ((i : ℕ) → i < n → All P (f i)) → All P (each_below f n)
all-joined P f zero p = All-nil P
all-joined P f (suc n) p = All-append P (each_below f n) (f n) (all-joined P f n (λ i h. p i (omega arith))) (p n (omega arith))

pub length-threes : {A : Type 0} (f : ℕ → List A) → ((i : ℕ) → length (f i) ≡ 3) → (n : ℕ) → length (each_below f n) ≡ 3 * n
length-threes f e zero = refl
length-threes f e (suc n) =
    let p = length-append (each_below f n) (f n) in
    let l = length-threes f e n in
    let k = e n in
    omega arith
