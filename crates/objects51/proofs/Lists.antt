-- Elements of a part of a list, and of a list by number.
use Rattle.std.proofs.Common.{◌≡◌, ℕ, zero, suc, ◌+◌, ◌<◌, List, [], ◌∷◌, Some, refl, ap, ◌∙◌, arith, slice_get, take, drop}

pub slice_get-drop : {X : Type 0} → (n : ℕ) (xs : List X) (k : ℕ) → slice_get (drop n xs) k ≡ slice_get xs (n + k)
slice_get-drop zero xs k = let z : k ≡ 0 + k = omega arith in ap (slice_get xs) z
slice_get-drop (suc n) [] k = refl
slice_get-drop (suc n) (x ∷ xs) k =
    let s : suc (n + k) ≡ suc n + k = omega arith in
    slice_get-drop n xs k ∙ ap (slice_get (x ∷ xs)) s

-- an element of the front of a list stands in the list, and in its front
pub slice_get-front : {X : Type 0} → (n : ℕ) (xs : List X) (k : ℕ) (x : X) → slice_get (take n xs) k ≡ Some x → (k < n) × (slice_get xs k ≡ Some x)
slice_get-front zero xs k x e = absurd cc
slice_get-front (suc n) [] k x e = absurd cc
slice_get-front (suc n) (y ∷ xs) zero x e = (omega arith, e)
slice_get-front (suc n) (y ∷ xs) (suc k) x e =
    let r = slice_get-front n xs k x e in
    (omega (arith, r.0), r.1)
