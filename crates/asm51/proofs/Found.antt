-- What the places of well formed items are.
use Rattle.std.proofs.Common.{◌≡◌, ℕ, ◌+◌, ◌<◌, List, Bool, true, nat_eq, ap, ap₂, ◌∙◌, arith, length, map, slice_get, Option, Some, unwrap_or, eqb-true}
use Rattle.std.specs.List.{range_with_len}
use Rattle.std.proofs.lemmas.List.FromFn.{length-range_with_len, get_or-range_with_len, length-map-range_with_len, get_or-map-range_with_len}
use Rattle.std.proofs.lemmas.Option.{slice_get-get_or}
use Rattle.asm51.specs.declared.items.AsmItem.{AsmItem}
use Rattle.asm51.specs.declared.items.AsmItem.TheVariants.{Plain, Mark, Enter, Here, Jump, Test, Call}
use Rattle.asm51.specs.declared.layouts.Form.{Form}
use Rattle.asm51.specs.Items.{is_here, is_enter, is_mark_of, mark_count, place}
use Rattle.asm51.specs.Emission.{word_address, label_address, labels_of}
use Rattle.asm51.specs.WellFormed.{StandsOnce, JumpHasPlace, TestHasPlace, CallHasEntry, LabelIsBelow, IsWellFormed}
use Rattle.asm51.specs.Laws.{TargetsAreFound, LabelsAreMarked}
use Rattle.asm51.proofs.Counting.{both_true, first_found, only_one, of_each}

here_is : (f n : ℕ) (item : AsmItem) → is_here f n item ≡ true → item ≡ Here f n
here_is f n (Here g m) e = let b = both_true (nat_eq g f) (nat_eq m n) e in ap₂ (λ p q. Here p q) (eqb-true g f b.0) (eqb-true m n b.1)
here_is f n (Plain i) e = cc
here_is f n (Mark l) e = cc
here_is f n (Enter g) e = cc
here_is f n (Jump g m) e = cc
here_is f n (Test g m) e = cc
here_is f n (Call g) e = cc

enter_is : (f : ℕ) (item : AsmItem) → is_enter f item ≡ true → item ≡ Enter f
enter_is f (Enter g) e = ap (λ p. Enter p) (eqb-true g f e)
enter_is f (Here g m) e = cc
enter_is f (Plain i) e = cc
enter_is f (Mark l) e = cc
enter_is f (Jump g m) e = cc
enter_is f (Test g m) e = cc
enter_is f (Call g) e = cc

mark_is : (l : ℕ) (item : AsmItem) → is_mark_of l item ≡ true → item ≡ Mark (record { 0 = l })
mark_is l (Mark m) e = ap (λ n. Mark (record { 0 = n })) (eqb-true m.0 l e)
mark_is l (Here g m) e = cc
mark_is l (Plain i) e = cc
mark_is l (Enter g) e = cc
mark_is l (Jump g m) e = cc
mark_is l (Test g m) e = cc
mark_is l (Call g) e = cc

same_number : (n : ℕ) → nat_eq n n ≡ true
same_number n = grind arith

-- the first item that passes a test that only this item passes
found : (items : List AsmItem) (test : AsmItem → Bool) (named : AsmItem) → ((item : AsmItem) → test item ≡ true → item ≡ named) → StandsOnce items test → slice_get items (place test items) ≡ Some named
found items test named is once =
    let r = first_found test 0 items (omega (arith, once)) in
    let z : 0 + r.at ≡ r.at = omega arith in
    ap (λ o. slice_get items (unwrap_or o (length items))) (r.found ∙ ap (λ n. Some n) z) ∙ r.is ∙ ap (λ x. Some x) (is r.element r.passes)

-- an item that alone passes a test stands at the place of the test
placed : (items : List AsmItem) (test : AsmItem → Bool) (k : ℕ) (item : AsmItem) → StandsOnce items test → slice_get items k ≡ Some item → test item ≡ true → place test items ≡ k
placed items test k item once g e =
    let z : 0 + k ≡ k = omega arith in
    ap (λ o. unwrap_or o (length items)) (only_one test 0 items k item once g e ∙ ap (λ n. Some n) z)

pub targets_are_found : TargetsAreFound
targets_are_found items w =
    record {
      jumps = λ k f n g. found items (is_here f n) (Here f n) (here_is f n) (of_each (JumpHasPlace items) items k (Jump f n) w.jumps g);
      tests = λ k f n g. found items (is_here f n) (Here f n) (here_is f n) (of_each (TestHasPlace items) items k (Test f n) w.tests g);
      calls = λ k f g. found items (is_enter f) (Enter f) (enter_is f) (of_each (CallHasEntry items) items k (Call f) w.calls g);
    }

-- a number of a range, and what a function makes of it
in_range : (n l : ℕ) → l < n → slice_get (range_with_len 0 n) l ≡ Some l
in_range n l h =
    let z : 0 + l ≡ l = omega arith in
    slice_get-get_or (range_with_len 0 n) l 0 (omega (arith, length-range_with_len 0 n)) ∙ ap (λ m. Some m) (get_or-range_with_len 0 n l 0 h ∙ z)

mapped_range : (f : ℕ → ℕ) (n l : ℕ) → l < n → slice_get (map f (range_with_len 0 n)) l ≡ Some (f l)
mapped_range f n l h =
    slice_get-get_or (map f (range_with_len 0 n)) l 0 (omega (arith, length-map-range_with_len f 0 n)) ∙ ap (λ m. Some m) (get_or-map-range_with_len f 0 n l l 0 h (omega arith))

marked_once : (items : List AsmItem) (l : ℕ) → IsWellFormed items → l < mark_count items → StandsOnce items (is_mark_of l)
marked_once items l w h = of_each (λ label. StandsOnce items (is_mark_of label)) (range_with_len 0 (mark_count items)) l l w.labels (in_range (mark_count items) l h)

marked_at : (items : List AsmItem) (forms : List (Option Form)) (k l : ℕ) → IsWellFormed items → slice_get items k ≡ Some (Mark (record { 0 = l })) → slice_get (labels_of items forms) l ≡ Some (word_address items forms k)
unfolding labels_of
marked_at items forms k l w g =
    let below : l < mark_count items = of_each (LabelIsBelow (mark_count items)) items k (Mark (record { 0 = l })) w.below g in
    mapped_range (label_address items forms) (mark_count items) l below
    ∙ ap (λ p. Some (word_address items forms p)) (placed items (is_mark_of l) k (Mark (record { 0 = l })) (marked_once items l w below) g (same_number l))

label_has_mark : (items : List AsmItem) (forms : List (Option Form)) (l : ℕ) → IsWellFormed items → l < length (labels_of items forms) → (k : ℕ) × (slice_get items k ≡ Some (Mark (record { 0 = l })))
unfolding labels_of
label_has_mark items forms l w h =
    let below : l < mark_count items = omega (arith, h, length-map-range_with_len (label_address items forms) 0 (mark_count items)) in
    (place (is_mark_of l) items, found items (is_mark_of l) (Mark (record { 0 = l })) (mark_is l) (marked_once items l w below))

pub labels_are_marked : LabelsAreMarked
labels_are_marked items forms w = record { marks = λ k l g. marked_at items forms k l w g; labels = λ l h. label_has_mark items forms l w h }
