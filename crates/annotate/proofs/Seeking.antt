-- A number is looked for by its place among the numbers.
use Rattle.std.proofs.Common.{◌≡◌, ◌≢◌, ℕ, zero, suc, ◌+◌, ◌-◌, ◌<◌, List, [], ◌∷◌, ◌++◌, length, take, drop, Option, Some, None, option_map, option_to_list, slice_get, refl, sym, ap, ap₂, subst, ◌∙◌, append_assoc, append-nil, zero-add, suc-add, arith}
use Rattle.std.proofs.lemmas.List.{drop_more, take_rest, length-append}
use Rattle.std.proofs.Math.Seq.{drop-length}
use Rattle.annotate.specs.Numbers.{leading_cost, numbers_in}
use Rattle.annotate.specs.Code.Reading.{capped}

-- The rest of all numbers, in which the one with this place has so many others before it.
pub record IsAfter (all rest : List ℕ) (index left : ℕ) : Type 0 where
  pub front : List ℕ
  pub whole : all ≡ front ++ rest
  pub count : index ≡ length front + left

pub after_none : (all : List ℕ) (index : ℕ) → IsAfter all all index index
after_none all index = record { front = []; whole = refl; count = omega arith }

-- some more are left behind
pub after_more : (all few rest : List ℕ) (index left next : ℕ) → IsAfter all (few ++ rest) index left → left ≡ length few + next → IsAfter all rest index next
after_more all few rest index left next a more = record {
  front = a.front ++ few;
  whole = a.whole ∙ sym (append_assoc a.front few rest);
  count = let size = length-append a.front few in let count = a.count in omega arith;
}

get-behind : (front rest : List ℕ) (k : ℕ) → slice_get (front ++ rest) (length front + k) ≡ slice_get rest k
get-behind [] rest k = ap (slice_get rest) (zero-add k)
get-behind (x ∷ front) rest k = ap (slice_get (x ∷ (front ++ rest))) (suc-add (length front) k) ∙ get-behind front rest k

get-front : (few rest : List ℕ) (k n : ℕ) → slice_get few k ≡ Some n → slice_get (few ++ rest) k ≡ Some n
get-front [] rest k n h = absurd cc
get-front (x ∷ few) rest zero n h = h
get-front (x ∷ few) rest (suc k) n h = get-front few rest k n h

-- it is the one with this place in the rest
pub number_after : (all rest : List ℕ) (index left : ℕ) → IsAfter all rest index left → slice_get all index ≡ slice_get rest left
number_after all rest index left a = ap₂ slice_get a.whole a.count ∙ get-behind a.front rest left

pub number_found : (all few rest : List ℕ) (index left n : ℕ) → IsAfter all (few ++ rest) index left → slice_get few left ≡ Some n → slice_get all index ≡ Some n
number_found all few rest index left n a h = number_after all (few ++ rest) index left a ∙ get-front few rest left n h

pub none_after : (all : List ℕ) (index left : ℕ) → IsAfter all [] index left → index ≡ length all + left
none_after all index left a =
    let size : length all ≡ length a.front = ap length (a.whole ∙ append-nil a.front) in
    let count = a.count in
    omega arith

-- ---- the numbers of a part, byte by byte

numbers_in-next : (text : List ℕ) (at : ℕ) → at < length text → numbers_in (drop at text) ≡ option_to_list (leading_cost (drop at text)) ++ numbers_in (drop (at + 1) text)
numbers_in-next text at within =
    let next = drop_more text at 0 within in
    ap numbers_in next ∙ ap (λ (t : List ℕ). option_to_list (leading_cost t) ++ numbers_in (drop (at + 1) text)) (sym next)

none_capped : (o : Option ℕ) → None ≡ option_map capped o → o ≡ None
none_capped None h = refl
none_capped (Some n) h = absurd cc

some_capped : (o : Option ℕ) (cost : ℕ) → Some cost ≡ option_map capped o → (n : ℕ) × (o ≡ Some n) × (cost ≡ capped n)
some_capped None cost h = absurd cc
some_capped (Some n) cost h = (n, refl, cc)

-- the text from a byte on, as a slice
pub from_there : (text : List ℕ) (at : ℕ) (o : Option ℕ) → o ≡ option_map capped (leading_cost (take (length text - at) (drop at text))) → o ≡ option_map capped (leading_cost (drop at text))
from_there text at o h = h ∙ ap (λ (t : List ℕ). option_map capped (leading_cost t)) (take_rest text at)

module _ (all text : List ℕ) (at index left : ℕ) (within : at < length text) (a : IsAfter all (numbers_in (drop at text)) index left) where
  next : (o : Option ℕ) → leading_cost (drop at text) ≡ o → IsAfter all (option_to_list o ++ numbers_in (drop (at + 1) text)) index left
  next o is =
      let P : List ℕ → Type 0 = λ rest. IsAfter all rest index left in
      subst P (numbers_in-next text at within ∙ ap (λ o. option_to_list o ++ numbers_in (drop (at + 1) text)) is) a

  -- no number is at this byte
  pub none_here : None ≡ option_map capped (leading_cost (drop at text)) → IsAfter all (numbers_in (drop (at + 1) text)) index left
  none_here h = next None (none_capped _ h)

  -- the number here is another one
  pub other_here : (cost less : ℕ) → Some cost ≡ option_map capped (leading_cost (drop at text)) → left ≡ less + 1 → IsAfter all (numbers_in (drop (at + 1) text)) index less
  other_here cost less h some =
      let n = some_capped _ cost h in
      after_more all (n.0 ∷ []) (numbers_in (drop (at + 1) text)) index left less (next (Some n.0) n.1) (omega arith)

  -- the number here is the one
  pub found_here : (cost : ℕ) → Some cost ≡ option_map capped (leading_cost (drop at text)) → left ≡ 0 → (n : ℕ) × (slice_get all index ≡ Some n) × (cost ≡ capped n)
  found_here cost h none =
      let n = some_capped _ cost h in
      (n.0, number_after all (n.0 ∷ numbers_in (drop (at + 1) text)) index left (next (Some n.0) n.1) ∙ ap (slice_get (n.0 ∷ numbers_in (drop (at + 1) text))) none, n.2)

pub one_less : (left less : ℕ) → left ≢ 0 → less ≡ left - 1 → left ≡ less + 1
one_less zero less some is = absurd (some refl)
one_less (suc left) less some is = omega arith

pub none_in_part : (text : List ℕ) (at index left : ℕ) → at ≡ length text → IsAfter (numbers_in text) (numbers_in (drop at text)) index left → index ≡ length (numbers_in text) + left
none_in_part text at index left end a =
    let P : List ℕ → Type 0 = λ rest. IsAfter (numbers_in text) (numbers_in rest) index left in
    none_after (numbers_in text) index left (subst P (ap (λ n. drop n text) end ∙ drop-length text) a)

-- no more numbers follow
pub no_number : (all rest : List ℕ) (index left : ℕ) → IsAfter all rest index left → rest ≡ [] → slice_get all index ≡ None
no_number all rest index left a none = number_after all rest index left a ∙ ap (λ (ns : List ℕ). slice_get ns left) none
