-- Lists that are filled place by place, and results.
use Rattle.std.proofs.Common.{◌≡◌, ℕ, zero, suc, ◌+◌, ◌<◌, List, [], ◌∷◌, ◌++◌, length, get_or, Option, Some, None, slice_get, Result, Ok, Err, refl, ap, ◌∙◌, subst, arith, below_more}
use Rattle.std.specs.Prelude.{IfOk}
use Rattle.ltl_alloc.specs.declared.allocation.Spot.{Spot}
use Rattle.ltl_alloc.specs.Allocations.{spot_or_none}

module _ {A : Type 0} where
  before_end : (xs : List A) (x : A) (w : ℕ) → w < length xs → slice_get (xs ++ x ∷ []) w ≡ slice_get xs w
  before_end [] x w lt = absurd (omega arith)
  before_end (y ∷ ys) x zero lt = refl
  before_end (y ∷ ys) x (suc w) lt = before_end ys x w (omega arith)

  at_end : (xs : List A) (x : A) → slice_get (xs ++ x ∷ []) (length xs) ≡ Some x
  at_end [] x = refl
  at_end (y ∷ ys) x = at_end ys x

  -- a list that has F at each of its places, with one more
  pub pushed : (F : ℕ → A) (xs : List A) (x : A) (k : ℕ) → length xs ≡ k → ((w : ℕ) → w < k → slice_get xs w ≡ Some (F w)) → x ≡ F k → (w : ℕ) → w < k + 1 → slice_get (xs ++ x ∷ []) w ≡ Some (F w)
  pushed F xs x k long each is =
      below_more (λ w. slice_get (xs ++ x ∷ []) w ≡ Some (F w)) k
      (λ w lt. let within : w < length xs = omega (arith, lt, long) in before_end xs x w within ∙ each w lt)
      (subst (λ n. slice_get (xs ++ x ∷ []) n ≡ Some (F k)) long (at_end xs x ∙ ap Some is))

  -- what holds of a result by two clauses
  pub if_both : {E : Type 0} (P Q R : A → Type 0) (r : Result A E) → ((x : A) → P x → Q x → R x) → IfOk r P → IfOk r Q → IfOk r R
  if_both P Q R (Ok x) f p q = f x p q
  if_both P Q R (Err e) f p q = tt

-- the spot at a place of a list, none past the end
pub spot_at : (spots : List (Option Spot)) (v : ℕ) → spot_or_none (slice_get spots v) ≡ get_or spots v None
spot_at [] v = refl
spot_at (s ∷ ss) zero = refl
spot_at (s ∷ ss) (suc v) = spot_at ss v
