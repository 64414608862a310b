-- One more colour keeps what is said of the colours.
use Rattle.std.proofs.Common.{◌≡◌, ℕ, suc, ◌+◌, ◌<◌, ◌≤◌, ◌⊎◌, inl, inr, ◌↔◌, List, [], ◌∷◌, ◌++◌, length, Bool, true, refl, sym, ap, ◌∙◌, subst, arith, length-append, get_or}
use Rattle.std.specs.Prelude.{All}
use Rattle.std.proofs.lemmas.List.{get_or_append_left, get_or_push}
use Rattle.std.proofs.lemmas.Option.{slice_get_read}
use Rattle.std.proofs.lemmas.List.Elements.{All-push}
use Rattle.cerco_traces.specs.LabelledGraphs.{In}
use Rattle.colouring.specs.Colours.{colour_at}
use Rattle.colouring.specs.declared.greedy.Row.{Row}
use Rattle.colouring.specs.Code.Rows.{mark_at, near_in, near_of, AreEarlier, Holds, IsFirstFree, AreGiven}

-- by other words for what is held
pub first_free_as : (P Q : ℕ → Type 0) (across : Bool) (c : ℕ) → ((k : ℕ) → P k ↔ Q k) → IsFirstFree P across c → IsFirstFree Q across c
first_free_as P Q across c same f = record {
  kind = f.kind;
  free = λ held. f.free ((same c).1 held);
  needed = λ high. needs (f.needed high);
  crossing = f.crossing;
  least = λ k high lt. (same k).0 (f.least k high lt);
}
  where
    needs : (across ≡ true) ⊎ ((r : ℕ) → r < 6 → P r) → (across ≡ true) ⊎ ((r : ℕ) → r < 6 → Q r)
    needs (inl e) = inl e
    needs (inr held) = inr (λ r low. (same r).0 (held r low))

at_before : (xs : List ℕ) (x w : ℕ) → w < length xs → colour_at (xs ++ x ∷ []) w ≡ colour_at xs w
at_before xs x w lt = get_or_append_left xs (x ∷ []) 0 w lt

longer : (xs : List ℕ) (x : ℕ) → length (xs ++ x ∷ []) ≡ length xs + 1
longer xs x = length-append xs (x ∷ [])

-- rows of those that have colours hold the same after one more
holds_on : (given row : List ℕ) (c : ℕ) → ((w : ℕ) → In w row → w < length given) → (k : ℕ) → Holds given row k ↔ Holds (given ++ c ∷ []) row k
holds_on given row c low k = (λ h. (h.0, h.1, at_before given c h.0 (low h.0 h.1) ∙ h.2), λ h. (h.0, h.1, sym (at_before given c h.0 (low h.0 h.1)) ∙ h.2))

before_or_last : (v n : ℕ) → v < n + 1 → (v < n) ⊎ (v ≡ n)
before_or_last v n lt = grind arith

module _ (near : ℕ → List ℕ) (across : ℕ → Bool) (earlier : AreEarlier near) (given : List ℕ) (end c end' : ℕ) where
  pub given_more :
      12 ≤ length given → AreGiven near across given end → IsFirstFree (Holds given (near (length given))) (across (length given)) c → c < end' → end ≤ end' → (end' ≡ end) ⊎ (end' ≡ suc c)
      → AreGiven near across (given ++ c ∷ []) end'
  given_more twelve so_far chosen low more which = record {
    own = λ v lt. at_before given c v (omega (arith, twelve, lt)) ∙ so_far.own v lt;
    first = λ v high lt. by_place v high (before_or_last v (length given) (let e = longer given c in omega (arith, e, lt)));
    below = All-push (λ k. k < end') given c (λ k d lt. (let h = so_far.below k d lt in omega (arith, h, more))) low;
    last = last which;
  }
    where
      by_place : (v : ℕ) → 12 ≤ v → (v < length given) ⊎ (v ≡ length given) → IsFirstFree (Holds (given ++ c ∷ []) (near v)) (across v) (colour_at (given ++ c ∷ []) v)
      by_place v high (inl lt) =
          subst (IsFirstFree (Holds (given ++ c ∷ []) (near v)) (across v)) (sym (at_before given c v lt))
          (first_free_as (Holds given (near v)) (Holds (given ++ c ∷ []) (near v)) (across v) (colour_at given v) (holds_on given (near v) c (λ w i. (let less = earlier v w i in omega (arith, less, lt)))) (so_far.first v high lt))
      by_place v high (inr e) =
          subst (λ u. IsFirstFree (Holds (given ++ c ∷ []) (near u)) (across u) (colour_at (given ++ c ∷ []) u)) (sym e)
          (subst (IsFirstFree (Holds (given ++ c ∷ []) (near (length given))) (across (length given))) (sym (get_or_push given c 0 (length given) refl))
          (first_free_as (Holds given (near (length given))) (Holds (given ++ c ∷ []) (near (length given))) (across (length given)) c (holds_on given (near (length given)) c (λ w i. earlier (length given) w i)) chosen))

      kept : (v : ℕ) → v < length given → suc (colour_at given v) ≡ end → end' ≡ end → suc (colour_at (given ++ c ∷ []) v) ≡ end'
      kept v lt e same = ap suc (at_before given c v lt) ∙ e ∙ sym same

      last_before : (end ≡ 12) ⊎ ((v : ℕ) × (12 ≤ v) × (v < length given) × (suc (colour_at given v) ≡ end)) → end' ≡ end → (end' ≡ 12) ⊎ ((v : ℕ) × (12 ≤ v) × (v < length (given ++ c ∷ [])) × (suc (colour_at (given ++ c ∷ []) v) ≡ end'))
      last_before (inl e) same = inl (same ∙ e)
      last_before (inr h) same = let lt = h.2 in let e = longer given c in inr (h.0, h.1, omega (arith, lt, e), kept h.0 h.2 h.3 same)

      last : (end' ≡ end) ⊎ (end' ≡ suc c) → (end' ≡ 12) ⊎ ((v : ℕ) × (12 ≤ v) × (v < length (given ++ c ∷ [])) × (suc (colour_at (given ++ c ∷ []) v) ≡ end'))
      last (inl same) = last_before so_far.last same
      last (inr e) = let long = longer given c in inr (length given, twelve, omega (arith, long), ap suc (get_or_push given c 0 (length given) refl) ∙ sym e)

-- the argument places have their own colours
pub given_first : (near : ℕ → List ℕ) (across : ℕ → Bool) (given : List ℕ) → length given ≡ 12 → ((v : ℕ) → v < 12 → colour_at given v ≡ v) → All (λ c. c < 12) given → AreGiven near across given 12
given_first near across given twelve own below = record {
  own = own;
  first = λ v high lt. absurd (no v high lt);
  below = below;
  last = inl refl;
}
  where
    no : (v : ℕ) → 12 ≤ v → v < length given → ⊥
    no v high lt = omega (arith, twelve, high, lt)

-- the row that is read
pub row_read : (rows : List Row) (v : ℕ) (row : Row) (slice : List ℕ) → v < length rows → row ≡ get_or rows v row → slice ≡ (get_or rows v row).near.items → slice ≡ near_of rows v
row_read rows v row slice lt is shown = shown ∙ ap (λ (z : Row). z.near.items) (sym is) ∙ sym (ap near_in (slice_get_read rows (length rows) v row refl lt is))

-- one turn of the pass
pub next_given :
    (rows : List Row) (across held marks : List Bool) (colours shown row more : List ℕ) (v end c end' : ℕ) → AreEarlier (near_of rows) → length colours ≡ v → 12 ≤ v → AreGiven (near_of rows) (mark_at across) colours end
    → shown ≡ colours → row ≡ near_of rows v → ((k : ℕ) → (mark_at held k ≡ true) ↔ Holds shown row k) → marks ≡ held → IsFirstFree (λ k. mark_at marks k ≡ true) (mark_at across v) c → more ≡ colours ++ c ∷ []
    → c < end' → end ≤ end' → (end' ≡ end) ⊎ (end' ≡ suc c) → AreGiven (near_of rows) (mark_at across) more end'
next_given rows across held marks colours shown row more v end c end' earlier long twelve so_far s r each m first pushed low more_end which =
    subst (λ z. AreGiven (near_of rows) (mark_at across) z end') (sym pushed)
    (given_more (near_of rows) (mark_at across) earlier colours end c end' (omega (arith, long, twelve)) so_far
    (subst (λ u. IsFirstFree (Holds colours (near_of rows u)) (mark_at across u) c) (sym long) (first_free_as (λ k. mark_at marks k ≡ true) (Holds colours (near_of rows v)) (mark_at across v) c same first)) low more_end which)
  where
    same : (k : ℕ) → (mark_at marks k ≡ true) ↔ Holds colours (near_of rows v) k
    same k = subst (λ z. (mark_at z k ≡ true) ↔ Holds colours (near_of rows v) k) (sym m) (subst (λ z. (mark_at held k ≡ true) ↔ Holds colours z k) r (subst (λ z. (mark_at held k ≡ true) ↔ Holds z row k) s (each k)))
