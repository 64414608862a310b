-- The turns of the loop over a text.
use Rattle.std.proofs.Common.{◌≡◌, ◌≤◌, ◌<◌, ℕ, ◌+◌, Bool, true, false, List, [], ◌∷◌, ◌++◌, take, drop, length, refl, sym, subst, append_assoc, arith}
use Rattle.std.specs.Prelude.{Some, None, cond}
use Rattle.std.proofs.lemmas.List.{drop-drop, drop_all}
use Rattle.clight_tokens.specs.Lexemes.{Kind, IsLongest, HasNoLexeme}
use Rattle.clight_tokens.specs.Tokens.{Token, TokensFrom, gap, token, FaultFrom, nothing, wrong, later, is_token, flaw}
use Rattle.clight_tokens.specs.Tokens as t
use Rattle.clight_tokens.specs.Code.TokenViews.{kept}

onward : (s : List ℕ) (at n : ℕ) → drop (at + n) s ≡ drop n (drop at s)
onward s at n = sym (drop-drop n at s)

step_gap : (s : List ℕ) (at n : ℕ) (kind : Kind) (more : List Token) → IsLongest (drop at s) n kind → is_token kind ≡ false → flaw kind n (drop at s) ≡ None → TokensFrom (at + n) (drop (at + n) s) more → TokensFrom at (drop at s) more
step_gap s at n kind more l g f c = gap l g f (subst (λ z. TokensFrom (at + n) z more) (onward s at n) c)

-- the token of the first n bytes from a place on
abbrev pub token_at : List ℕ → ℕ → ℕ → Token
token_at s at n = record { text = take n (drop at s); span = record { from = at; to = at + n } }

step_token : (s : List ℕ) (at n : ℕ) (kind : Kind) (more : List Token) → IsLongest (drop at s) n kind → is_token kind ≡ true → flaw kind n (drop at s) ≡ None → TokensFrom (at + n) (drop (at + n) s) more → TokensFrom at (drop at s) (token_at s at n ∷ more)
step_token s at n kind more l g f c = token l g f (subst (λ z. TokensFrom (at + n) z more) (onward s at n) c)

pub step_later : (s : List ℕ) (at n q : ℕ) (kind : Kind) → IsLongest (drop at s) n kind → flaw kind n (drop at s) ≡ None → FaultFrom (at + n) (drop (at + n) s) q → FaultFrom at (drop at s) q
step_later s at n q kind l f c = later l f (subst (λ z. FaultFrom (at + n) z q) (onward s at n) c)

pub step_nothing : (s : List ℕ) (p : ℕ) → 0 < length s → HasNoLexeme s → FaultFrom p s p
step_nothing [] p h n = absurd (omega arith)
step_nothing (a ∷ s) p h n = nothing n

pub end_of_text : (s : List ℕ) (at : ℕ) → length s ≤ at → TokensFrom at (drop at s) []
end_of_text s at h = rw drop_all t.at_end

pub step_wrong : (s : List ℕ) (p n d : ℕ) (kind : Kind) → IsLongest s n kind → flaw kind n s ≡ Some d → FaultFrom p s (p + d)
step_wrong s p n d kind l f = wrong l f

kept_by : (b : Bool) (s : List ℕ) (at n : ℕ) (kind : Kind) (more : List Token) → is_token kind ≡ b → IsLongest (drop at s) n kind → flaw kind n (drop at s) ≡ None → TokensFrom (at + n) (drop (at + n) s) more → TokensFrom at (drop at s) (cond b (token_at s at n ∷ []) [] ++ more)
kept_by true s at n kind more e l f c = step_token s at n kind more l e f c
kept_by false s at n kind more e l f c = step_gap s at n kind more l e f c

pub step_kept : (s : List ℕ) (at n : ℕ) (kind : Kind) (p : Token) (more : List Token) → p ≡ token_at s at n → IsLongest (drop at s) n kind → flaw kind n (drop at s) ≡ None → TokensFrom (at + n) (drop (at + n) s) more → TokensFrom at (drop at s) (kept kind p ++ more)
step_kept s at n kind p more e l f c = rw e (kept_by (is_token kind) s at n kind more refl l f c)

pub join : (s : List ℕ) (at n : ℕ) (kind : Kind) (p : Token) (all now more : List Token) → now ≡ all ++ kept kind p → ((l : List Token) → TokensFrom at (drop at s) l → TokensFrom 0 s (all ++ l)) → TokensFrom at (drop at s) (kept kind p ++ more) → TokensFrom 0 s (now ++ more)
join s at n kind p all now more e so_far c = rw e (rw append_assoc (so_far _ c))

pub token_is : (x y : List ℕ) (at n : ℕ) → x ≡ y → ◌≡◌ {A = Token} (record { text = x; span = record { from = at; to = at + n } }) (record { text = y; span = record { from = at; to = at + n } })
token_is x y at n e = rw e
