-- The lines of the two texts, one after another.
use Rattle.std.proofs.Common.{◌≡◌, ℕ, suc, ◌+◌, ◌-◌, ◌<◌, ◌≤◌, min, List, [], ◌++◌, length, take, drop, get_or, ap, ◌∙◌, sym, inl, inr, append_assoc, arith}
use Rattle.std.specs.List.{flat_map, range_with_len, enumerate_from}
use Rattle.std.proofs.lemmas.Bool.{cases_lt}
use Rattle.std.proofs.lemmas.List.{drop_more, drop_all, take_all, take_rest, length-drop}
use Rattle.object_hex.specs.MapText.{label_line}

-- of the lines with the numbers from i up to n, and what follows them, that with number i is the first
pub lines_next : (line : ℕ → List ℕ) (i n : ℕ) (behind : List ℕ) → i < n → flat_map line (range_with_len i (n - i)) ++ behind ≡ line i ++ (flat_map line (range_with_len (i + 1) (n - (i + 1))) ++ behind)
lines_next line i n behind more =
    let count : n - i ≡ suc (n - (i + 1)) = omega arith in
    ap (λ k. flat_map line (range_with_len i k) ++ behind) count
    ∙ append_assoc (line i) (flat_map line (range_with_len (i + 1) (n - (i + 1)))) behind

-- behind the last line nothing is left of them
pub lines_end : (line : ℕ → List ℕ) (i n : ℕ) (behind : List ℕ) → n ≤ i → flat_map line (range_with_len i (n - i)) ++ behind ≡ behind
lines_end line i n behind past =
    let count : n - i ≡ 0 = omega arith in
    ap (λ k. flat_map line (range_with_len i k) ++ behind) count

-- up to 16 bytes from a place on, where the list may end before
pub take-up_to : (xs : List ℕ) (from to : ℕ) → to ≡ min (length xs) (from + 16) → take (to - from) (drop from xs) ≡ take 16 (drop from xs)
take-up_to xs from to e = elim (cases_lt (length xs) (from + 16)) [
  | inl short ↦
      let count : to - from ≡ length xs - from = omega arith in
      let rest = length-drop from xs in
      ap (λ k. take k (drop from xs)) count ∙ take_rest xs from ∙ sym (take_all 16 (drop from xs) (omega arith))
  | inr long ↦
      let count : to - from ≡ 16 = omega arith in
      ap (λ k. take k (drop from xs)) count
]

-- the lines of the labels from the i-th on
abbrev pub labels_from : ℕ → List ℕ → List ℕ
labels_from i addresses = flat_map (λ entry. label_line entry.0 entry.1) (enumerate_from i (drop i addresses))

pub labels_next : (addresses : List ℕ) (i d : ℕ) → i < length addresses → labels_from i addresses ≡ label_line i (get_or addresses i d) ++ labels_from (i + 1) addresses
labels_next addresses i d more = ap (λ rest. flat_map (λ entry. label_line entry.0 entry.1) (enumerate_from i rest)) (drop_more addresses i d more)

pub labels_end : (addresses : List ℕ) (i : ℕ) → length addresses ≤ i → labels_from i addresses ≡ []
labels_end addresses i past = ap (λ rest. flat_map (λ entry. label_line entry.0 entry.1) (enumerate_from i rest)) (drop_all i addresses past)
