-- The labels of the generator's programs are numbered in the order of the annotated text.
use Rattle.std.proofs.Common.{◌≡◌, ℕ, zero, suc, ◌+◌, ◌*◌, List, [], ◌∷◌, ◌++◌, length, map, refl, sym, ap, ap₂, ◌∙◌, arith, append-nil}
use Rattle.std.specs.List.{flat_map, range_with_len}
use Rattle.std.proofs.lemmas.List.{map-append, map_push, length-map}
use Rattle.std.proofs.lemmas.List.FromFn.{length-range_with_len}
use Rattle.std.proofs.lemmas.Grind.{flat_map-append}
use Rattle.cerco_base.specs.declared.events.Label.{Label}
use Rattle.cerco_base.specs.CallOrder.{Called}
use Rattle.clight_source.specs.declared.span.Span.{Span}
use Rattle.clight_syntax.specs.declared.points.Piece.TheVariants.{After}
use Rattle.clight_syntax.specs.declared.points.Point.{Point}
use Rattle.clight_syntax.specs.Annotations.{labels_of, labels_in, AreNumberedInOrder}
use Rattle.clight_syntax.specs.TypedTrees.{Stmts, Then, Function}
use Rattle.clight_syntax.specs.Labelling.{IsLabelled, point, function_points, points_of, stmts_points, stmts_without, function_without}
use Rattle.sample_texts.specs.declared.draws.Numbers.{Numbers}
use Rattle.sample_texts.specs.Texts.{each_below}
use Rattle.sample_programs.proofs.Families.{each, map-each, flat-each-last, map-joined}
use Rattle.sample_programs.proofs.Trees.{Five, Labels, Places, main_body, call, writing, one_function, last_function, all_functions, program, value_number}

-- ---- numbers one after the other

range-append : (a m n : ℕ) → range_with_len a (m + n) ≡ range_with_len a m ++ range_with_len (a + m) n
range-append a zero n = ap₂ (λ k l. range_with_len k l) (omega arith) (omega arith)
range-append a (suc m) n =
    let more : suc m + n ≡ suc (m + n) = omega arith in
    let past : (a + 1) + m ≡ a + suc m = omega arith in
    ap (range_with_len a) more ∙ ap (λ ns. a ∷ ns) (range-append (a + 1) m n ∙ ap (λ k. range_with_len (a + 1) m ++ range_with_len k n) past)

fives : (n : ℕ) → each_below (λ f. range_with_len (5 * f) 5) n ≡ range_with_len 0 (5 * n)
fives zero = refl
fives (suc n) =
    ap (λ ns. ns ++ range_with_len (5 * n) 5) (fives n)
    ∙ (ap (λ k. range_with_len 0 (5 * n) ++ range_with_len k 5) (omega arith) ∙ (sym (range-append 0 (5 * n) 5) ∙ ap (range_with_len 0) (omega arith)))

ones : (a n : ℕ) → each (λ k. a + k) n ≡ range_with_len a n
ones a zero = refl
ones a (suc n) = ap (λ ns. ns ++ (a + n) ∷ []) (ones a n) ∙ (sym (range-append a n 1) ∙ (let e : n + 1 ≡ suc n = omega arith in ap (range_with_len a) e))

flat-joined : {A B : Type 0} (g : A → List B) (f : ℕ → List A) (n : ℕ) → flat_map g (each_below f n) ≡ each_below (λ k. flat_map g (f k)) n
flat-joined g f zero = refl
flat-joined g f (suc n) = flat_map-append g (each_below f n) (f n) ∙ ap (λ xs. xs ++ flat_map g (f n)) (flat-joined g f n)

-- ---- the labels

abbrev labelled : ℕ → Label
labelled number = record { 0 = number }

abbrev five_from : ℕ → Five Label
five_from n = record { entry = labelled n; turn = labelled (n + 1); one = labelled (n + 1 + 1); other = labelled (n + 1 + 1 + 1); after = labelled (n + 1 + 1 + 1 + 1) }

abbrev pub numbered : ℕ → Labels Label
numbered functions = record { of_function = λ f. five_from (5 * f); entry = labelled (5 * functions); back = λ f. labelled ((5 * functions + 1) + f) }

abbrev no_five : Five (Unit {0})
no_five = record { entry = tt; turn = tt; one = tt; other = tt; after = tt }

abbrev pub unlabelled : Labels (Unit {0})
unlabelled = record { of_function = λ f. no_five; entry = tt; back = λ f. tt }

-- ---- without them

body_alone : (back : ℕ → Label) (at : ℕ → Span) (call_at : ℕ → ℕ → Span) (start n v k : ℕ) → stmts_without (main_body back at call_at start n v k) ≡ main_body (λ f. tt) at call_at start n v k
body_alone back at call_at start n v zero = refl
body_alone back at call_at start n v (suc k) =
    ap (λ (xs : Stmts (Unit {0})). Then (Then xs (call tt (call_at k) n v k)) (writing (call_at k) n v)) (body_alone back at call_at start n v k)

functions_alone : (p : Places) (numbers : ℕ → Numbers) (start n : ℕ) → map function_without (all_functions (numbered n) p numbers start n) ≡ all_functions unlabelled p numbers start n
functions_alone p numbers start n =
    map_push function_without (each (one_function (numbered n) p numbers) n) (last_function (numbered n) p start n)
    ∙ ap₂ (λ (fs : List (Function (Unit {0}))) (f : Function (Unit {0})). fs ++ f ∷ []) (map-each function_without (one_function (numbered n) p numbers) n)
    (ap (λ (body : Stmts (Unit {0})). record (last_function unlabelled p start n) { body = body }) (body_alone (numbered n).back p.of_main p.of_call start (value_number n) (3 * n) n))

-- ---- in order

labels_of_body : (back : ℕ → Label) (at : ℕ → Span) (call_at : ℕ → ℕ → Span) (start n v k : ℕ) → labels_in (stmts_points (main_body back at call_at start n v k)) ≡ each back k
labels_of_body back at call_at start n v zero = refl
labels_of_body back at call_at start n v (suc k) =
    ap labels_in (append-nil (stmts_points (main_body back at call_at start n v k) ++ point (call_at k 6).to (After (back k)) ∷ []))
    ∙ (flat_map-append (λ (x : Point). labels_of x.piece) (stmts_points (main_body back at call_at start n v k)) (point (call_at k 6).to (After (back k)) ∷ []) ∙ ap (λ ls. ls ++ back k ∷ []) (labels_of_body back at call_at start n v k))

labels_of_functions : (p : Places) (numbers : ℕ → Numbers) (start n : ℕ) (frames : List ℕ) (calls : List Called) → labels_in (points_of (program (numbered n) p numbers start n frames calls)) ≡ each_below (λ f. labels_in (function_points (one_function (numbered n) p numbers f))) n ++ (labelled (5 * n) ∷ each (numbered n).back n)
labels_of_functions p numbers start n frames calls =
    let g : Point → List Label = λ (x : Point). labels_of x.piece in
    ap labels_in (flat-each-last function_points (one_function (numbered n) p numbers) n (last_function (numbered n) p start n))
    ∙ (flat_map-append (λ (x : Point). labels_of x.piece) (each_below (λ f. function_points (one_function (numbered n) p numbers f)) n) (function_points (last_function (numbered n) p start n))
    ∙ ap₂ (λ (xs ys : List Label). xs ++ ys) (flat-joined (λ (x : Point). labels_of x.piece) (λ f. function_points (one_function (numbered n) p numbers f)) n)
    (ap (λ ls. labelled (5 * n) ∷ ls) (labels_of_body (numbered n).back p.of_main p.of_call start (value_number n) (3 * n) n)))

abbrev number_of : Label → ℕ
number_of l = l.0

label_numbers : (p : Places) (numbers : ℕ → Numbers) (start n : ℕ) (frames : List ℕ) (calls : List Called) → map number_of (labels_in (points_of (program (numbered n) p numbers start n frames calls))) ≡ range_with_len 0 (5 * n + (1 + n))
label_numbers p numbers start n frames calls =
    ap (map number_of) (labels_of_functions p numbers start n frames calls)
    ∙ (map-append number_of (each_below (λ f. labels_in (function_points (one_function (numbered n) p numbers f))) n) (labelled (5 * n) ∷ each (numbered n).back n)
    ∙ (ap₂ (λ (xs ys : List ℕ). xs ++ (5 * n) ∷ ys) (map-joined number_of (λ f. labels_in (function_points (one_function (numbered n) p numbers f))) n ∙ fives n) (map-each number_of (numbered n).back n ∙ ones (5 * n + 1) n)
    ∙ (ap (λ (k : ℕ). range_with_len 0 (5 * n) ++ range_with_len k (suc n)) (omega arith)
    ∙ (sym (range-append 0 (5 * n) (suc n)) ∙ ap (λ k. range_with_len 0 (5 * n + k)) (omega arith)))))

in_order : (labels : List Label) (k : ℕ) → map number_of labels ≡ range_with_len 0 k → AreNumberedInOrder labels
in_order labels k e =
    let l = length-map labels number_of in
    let m = length-range_with_len 0 k in
    let same : length (map number_of labels) ≡ length (range_with_len 0 k) = ap length e in
    e ∙ ap (range_with_len 0) (omega arith)

pub labelled_right : (p : Places) (numbers : ℕ → Numbers) (start n : ℕ) (frames : List ℕ) (calls : List Called) → IsLabelled (program unlabelled p numbers start n frames calls) (program (numbered n) p numbers start n frames calls)
labelled_right p numbers start n frames calls = record {
  typed_alone = ap (λ (fs : List (Function (Unit {0}))). record (program unlabelled p numbers start n frames calls) { functions = fs }) (functions_alone p numbers start n);
  numbered = in_order (labels_in (points_of (program (numbered n) p numbers start n frames calls))) (5 * n + (1 + n)) (label_numbers p numbers start n frames calls);
}
