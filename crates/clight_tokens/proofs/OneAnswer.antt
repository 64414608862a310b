-- A whole text has tokens or a reason why it has none, one at most.
use Rattle.std.proofs.Common.{◌≡◌, ◌≤◌, ◌<◌, ℕ, zero, suc, Bool, true, false, List, [], ◌∷◌, take, length, get_or, refl, ap, arith, inl, inr}
use Rattle.std.specs.List.{list_all}
use Rattle.std.proofs.lemmas.Bool.{cases_lt}
use Rattle.cerco_base.specs.declared.reasons.Fault.TheVariants.{Refused}
use Rattle.cerco_base.specs.declared.reasons.Reason.{Reason}
use Rattle.cerco_base.specs.declared.reasons.Reason.TheVariants as r
use Rattle.clight_tokens.specs.Lexemes.{is_source_byte}
use Rattle.clight_source.specs.Markers.{HasNoMarker}
use Rattle.clight_tokens.specs.Tokens.{Token, HasTokens, HasFault, HasSourceBytes, IsFirstWrongByte, IsFirstMarker}
use Rattle.clight_tokens.proofs.PunctuatorTable.{and_left, and_right}
use Rattle.clight_tokens.proofs.Unique.{tokens_or_fault, one_fault}

bad : (v : Bool) → v ≡ true → v ≡ false → ⊥
bad v h g = cc

each : (p : ℕ → Bool) (s : List ℕ) (i : ℕ) → i < length s → list_all p s ≡ true → p (get_or s i 0) ≡ true
each p [] i h a = absurd (omega arith)
each p (b ∷ s) zero h a = and_left _ _ a
each p (b ∷ s) (suc i) h a = each p s i (omega arith) (and_right _ _ a)

each_front : (p : ℕ → Bool) (s : List ℕ) (n i : ℕ) → i < n → i < length s → list_all p (take n s) ≡ true → p (get_or s i 0) ≡ true
each_front p s zero i h w a = absurd (omega arith)
each_front p [] (suc n) i h w a = absurd (omega arith)
each_front p (b ∷ s) (suc n) zero h w a = and_left _ _ a
each_front p (b ∷ s) (suc n) (suc i) h w a = each_front p s n i (omega arith) (omega arith) (and_right _ _ a)

equal : (m n : ℕ) → (m < n → ⊥) → (n < m → ⊥) → m ≡ n
equal m n f g = elim (cases_lt m n) [ inl h ↦ absurd (f h) | inr h ↦ elim (cases_lt n m) [ inl k ↦ absurd (g k) | inr k ↦ omega arith ] ]

no_wrong : (s : List ℕ) (q : ℕ) → HasSourceBytes s → IsFirstWrongByte s q → ⊥
no_wrong s q h g = bad _ (each is_source_byte s q g.within h.bytes) g.wrong

not_before : (s : List ℕ) (p q : ℕ) → IsFirstWrongByte s p → IsFirstWrongByte s q → p < q → ⊥
not_before s p q h g lt = bad _ (each_front is_source_byte s q p lt h.within g.before) h.wrong

no_marker : (s : List ℕ) (q : ℕ) → HasNoMarker s → IsFirstMarker s q → ⊥
no_marker s q h g = bad _ g.here (h q)

not_earlier : (s : List ℕ) (p q : ℕ) → IsFirstMarker s p → IsFirstMarker s q → p < q → ⊥
not_earlier s p q h g lt = bad _ h.here (g.before p lt)

too_long : (n : ℕ) → 65535 < n → n ≤ 65535 → ⊥
too_long n h g = omega arith

pub not_both : (s : List ℕ) (l : List Token) (reason : Reason) → HasTokens s l → HasFault s (Refused reason) → ⊥
not_both s l r.TooLong h g = too_long _ g h.source.short
not_both s l (r.Byte q) h g = no_wrong s q h.source g.1
not_both s l (r.Marker q) h g = no_marker s q h.unmarked g.1
not_both s l (r.Token q) h g = tokens_or_fault h.tokens g.2
not_both s l _ h g = g

pub one_reason : (s : List ℕ) (a b : Reason) → HasFault s (Refused a) → HasFault s (Refused b) → a ≡ b
one_reason s r.TooLong r.TooLong h g = refl
one_reason s r.TooLong (r.Byte q) h g = absurd (too_long _ h g.0)
one_reason s r.TooLong (r.Marker q) h g = absurd (too_long _ h g.0.short)
one_reason s r.TooLong (r.Token q) h g = absurd (too_long _ h g.0.short)
one_reason s (r.Byte p) r.TooLong h g = absurd (too_long _ g h.0)
one_reason s (r.Byte p) (r.Byte q) h g = ap r.Byte (equal p q (not_before s p q h.1 g.1) (not_before s q p g.1 h.1))
one_reason s (r.Byte p) (r.Marker q) h g = absurd (no_wrong s p g.0 h.1)
one_reason s (r.Byte p) (r.Token q) h g = absurd (no_wrong s p g.0 h.1)
one_reason s (r.Marker p) r.TooLong h g = absurd (too_long _ g h.0.short)
one_reason s (r.Marker p) (r.Byte q) h g = absurd (no_wrong s q h.0 g.1)
one_reason s (r.Marker p) (r.Marker q) h g = ap r.Marker (equal p q (not_earlier s p q h.1 g.1) (not_earlier s q p g.1 h.1))
one_reason s (r.Marker p) (r.Token q) h g = absurd (no_marker s p g.1 h.1)
one_reason s (r.Token p) r.TooLong h g = absurd (too_long _ g h.0.short)
one_reason s (r.Token p) (r.Byte q) h g = absurd (no_wrong s q h.0 g.1)
one_reason s (r.Token p) (r.Marker q) h g = absurd (no_marker s q h.1 g.1)
one_reason s (r.Token p) (r.Token q) h g = ap r.Token (one_fault h.2 g.2)
one_reason s (r.Syntax p) b h g = absurd h
one_reason s (r.Nesting p) b h g = absurd h
one_reason s (r.Name p kind) b h g = absurd h
one_reason s (r.Typing p kind) b h g = absurd h
one_reason s (r.Recursion p) b h g = absurd h
one_reason s (r.StackFull n) b h g = absurd h
one_reason s (r.DataFull n) b h g = absurd h
one_reason s (r.CellsFull n) b h g = absurd h
one_reason s (r.CodeFull n) b h g = absurd h
one_reason s a (r.Syntax p) h g = absurd g
one_reason s a (r.Nesting p) h g = absurd g
one_reason s a (r.Name p kind) h g = absurd g
one_reason s a (r.Typing p kind) h g = absurd g
one_reason s a (r.Recursion p) h g = absurd g
one_reason s a (r.StackFull n) h g = absurd g
one_reason s a (r.DataFull n) h g = absurd g
one_reason s a (r.CellsFull n) h g = absurd g
one_reason s a (r.CodeFull n) h g = absurd g
