-- The tokens of a text stand one behind the other.
use Rattle.std.proofs.Common.{◌≡◌, ◌≤◌, ℕ, ◌+◌, List, [], ◌∷◌, drop, length, subst, arith, length-drop}
use Rattle.clight_tokens.specs.Tokens.{Token, TokensFrom, at_end, gap, token, AreAscending}

earlier : (p q : ℕ) (l : List Token) (e : ℕ) → p ≤ q → AreAscending q l e → AreAscending p l e
earlier p q [] e h a = omega arith
earlier p q (t ∷ l) e h a = let b = a.0 in (omega arith, a.1, a.2)

rest_end : (p n : ℕ) (s : List ℕ) → n ≤ length s → p + n + length (drop n s) ≡ p + length s
rest_end p n s h = let e = length-drop n s in omega arith

pub ascending : {p : ℕ} {s : List ℕ} {l : List Token} → TokensFrom p s l → AreAscending p l (p + length s)
ascending at_end = omega arith
ascending (gap {p = p} {n = n} {s = s} {l = l} k g f c) =
    earlier p (p + n) l _ (omega arith) (subst (λ (e : ℕ). AreAscending (p + n) l e) (rest_end p n s k.within) (ascending c))
ascending (token {p = p} {n = n} {s = s} {l = l} k g f c) =
    let some = k.some in
    (omega arith, omega arith, subst (λ (e : ℕ). AreAscending (p + n) l e) (rest_end p n s k.within) (ascending c))

zero_plus : (n : ℕ) → 0 + n ≡ n
zero_plus n = omega arith

pub ascending_whole : (s : List ℕ) (l : List Token) (n : ℕ) → length s ≡ n → TokensFrom 0 s l → AreAscending 0 l n
ascending_whole s l n h t = subst (λ (e : ℕ). AreAscending 0 l e) h (subst (λ (e : ℕ). AreAscending 0 l e) (zero_plus (length s)) (ascending t))
