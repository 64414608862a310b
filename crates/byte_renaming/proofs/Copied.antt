-- Lists that are made item by item from other lists.
use Rattle.std.proofs.Common.{◌≡◌, ℕ, ◌+◌, ◌<◌, ◌≤◌, List, [], ◌∷◌, ◌++◌, length, map, take, take_all, get_or, sym, ap, ap₂, ◌∙◌, add-one, take-suc}
use Rattle.std.proofs.lemmas.List.{map-append}

-- one more item is taken
pub taken_more : {A : Type 0} (xs : List A) (i : ℕ) (x : A) → i < length xs → x ≡ get_or xs i x → take (i + 1) xs ≡ take i xs ++ x ∷ []
taken_more xs i x lt is = ap (λ k. take k xs) (add-one i) ∙ take-suc xs i x lt ∙ ap (λ z. take i xs ++ z ∷ []) (sym is)

-- the images of the items so far, with one more
pub more_mapped : {A B : Type 0} (K : A → B) (xs : List A) (ys ys' : List B) (y : B) (x : A) (i : ℕ) → ys ≡ map K (take i xs) → ys' ≡ ys ++ y ∷ [] → y ≡ K x → i < length xs → x ≡ get_or xs i x → ys' ≡ map K (take (i + 1) xs)
more_mapped K xs ys ys' y x i so_far more same lt is =
    more ∙ ap₂ (λ a b. a ++ b ∷ []) so_far same ∙ sym (map-append K (take i xs) (x ∷ [])) ∙ ap (map K) (sym (taken_more xs i x lt is))

pub all_mapped : {A B : Type 0} (K : A → B) (xs : List A) (ys : List B) (i : ℕ) → ys ≡ map K (take i xs) → length xs ≤ i → ys ≡ map K xs
all_mapped K xs ys i so_far end = so_far ∙ ap (map K) (take_all i xs end)

-- the same where items are seen by G and F: what is seen of the new ones is the image of what is seen of the old ones
pub more_seen :
    {A A' B B' : Type 0} (F : B → B') (H : A' → B') (G : A → A') (xs : List A) (ys ys' : List B) (y : B) (x : A) (i : ℕ)
    → map F ys ≡ map H (map G (take i xs)) → ys' ≡ ys ++ y ∷ [] → F y ≡ H (G x) → i < length xs → x ≡ get_or xs i x → map F ys' ≡ map H (map G (take (i + 1) xs))
more_seen F H G xs ys ys' y x i so_far more same lt is =
    ap (map F) more ∙ map-append F ys (y ∷ []) ∙ ap₂ (λ a b. a ++ b ∷ []) so_far same
    ∙ sym (map-append H (map G (take i xs)) (G x ∷ []))
    ∙ ap (map H) (sym (map-append G (take i xs) (x ∷ [])))
    ∙ ap (λ z. map H (map G z)) (sym (taken_more xs i x lt is))

pub all_seen : {A A' B B' : Type 0} (F : B → B') (H : A' → B') (G : A → A') (xs : List A) (ys : List B) (i : ℕ) → map F ys ≡ map H (map G (take i xs)) → length xs ≤ i → map F ys ≡ map H (map G xs)
all_seen F H G xs ys i so_far end = so_far ∙ ap (λ z. map H (map G z)) (take_all i xs end)
