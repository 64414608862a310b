-- A list of nodes after one more, and after one was written again.
use Rattle.std.proofs.Common.{◌≡◌, ◌≢◌, ℕ, zero, suc, ◌<◌, List, [], ◌∷◌, ◌++◌, length, Some, None, ◌⊎◌, inl, inr, refl, ap, ⊎_elim, arith}
use Rattle.std.specs.Prelude.{slice_get, slice_set}
use Rattle.cerco_middle.specs.declared.rtlabs.RtNode.{RtNode}

pub some_node : {m n : RtNode} → Some m ≡ Some n → m ≡ n
some_node e = cc

pub no_node : {n : RtNode} → None ≡ Some n → ⊥
no_node e = cc

pub get_front : (xs ys : List RtNode) (p : ℕ) (n : RtNode) → slice_get xs p ≡ Some n → slice_get (xs ++ ys) p ≡ Some n
get_front [] ys p n e = absurd (no_node e)
get_front (x ∷ xs) ys zero n e = e
get_front (x ∷ xs) ys (suc p) n e = get_front xs ys p n e

pub get_new : (xs : List RtNode) (x : RtNode) → slice_get (xs ++ x ∷ []) (length xs) ≡ Some x
get_new [] x = refl
get_new (y ∷ xs) x = get_new xs x

pub get_within : (xs : List RtNode) (p : ℕ) (n : RtNode) → slice_get xs p ≡ Some n → p < length xs
get_within [] p n e = absurd (no_node e)
get_within (x ∷ xs) zero n e = omega arith
get_within (x ∷ xs) (suc p) n e = let h = get_within xs p n e in omega arith

-- a node of the longer list is an old one or the new one
pub get_added : (xs : List RtNode) (x : RtNode) (p : ℕ) (n : RtNode) → slice_get (xs ++ x ∷ []) p ≡ Some n → (slice_get xs p ≡ Some n) ⊎ ((p ≡ length xs) × (x ≡ n))
get_added [] x zero n e = inr (refl, some_node e)
get_added [] x (suc p) n e = absurd (no_node e)
get_added (y ∷ xs) x zero n e = inl e
get_added (y ∷ xs) x (suc p) n e = ⊎_elim (λ h. inl h) (λ h. inr (ap suc h.0, h.1)) (get_added xs x p n e)

pub get_set_same : (xs : List RtNode) (i : ℕ) (x v : RtNode) → slice_get xs i ≡ Some x → slice_get (slice_set xs i v) i ≡ Some v
get_set_same [] i x v e = absurd (no_node e)
get_set_same (y ∷ xs) zero x v e = refl
get_set_same (y ∷ xs) (suc i) x v e = get_set_same xs i x v e

pub get_set_other : (xs : List RtNode) (i p : ℕ) (v : RtNode) → p ≢ i → slice_get (slice_set xs i v) p ≡ slice_get xs p
get_set_other [] i p v ne = refl
get_set_other (y ∷ xs) zero zero v ne = absurd (ne refl)
get_set_other (y ∷ xs) zero (suc p) v ne = refl
get_set_other (y ∷ xs) (suc i) zero v ne = refl
get_set_other (y ∷ xs) (suc i) (suc p) v ne = let ne' : p ≢ i = omega arith in get_set_other xs i p v ne'

-- a node of the changed list is the new one or an old one
pub get_set : (xs : List RtNode) (i p : ℕ) (v n : RtNode) → slice_get (slice_set xs i v) p ≡ Some n → ((p ≡ i) × (v ≡ n)) ⊎ (slice_get xs p ≡ Some n)
get_set [] i p v n e = inr e
get_set (y ∷ xs) zero zero v n e = inl (refl, some_node e)
get_set (y ∷ xs) zero (suc p) v n e = inr e
get_set (y ∷ xs) (suc i) zero v n e = inr e
get_set (y ∷ xs) (suc i) (suc p) v n e = ⊎_elim (λ h. inl (ap suc h.0, h.1)) (λ h. inr h) (get_set xs i p v n e)

pub node_below : (xs : List RtNode) (p : ℕ) → p < length xs → (n : RtNode) × (slice_get xs p ≡ Some n)
node_below [] p lt = absurd (omega (arith, lt))
node_below (x ∷ xs) zero lt = (x, refl)
node_below (x ∷ xs) (suc p) lt = node_below xs p (omega (arith, lt))
