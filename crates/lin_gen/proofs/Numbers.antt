-- Lists of numbers: sums over them, and what stands in them once.
use Rattle.std.proofs.Common.{◌≡◌, ◌≢◌, ℕ, zero, suc, ◌+◌, ◌<◌, ◌≤◌, List, [], ◌∷◌, ◌++◌, length, Bool, true, false, ◌⊎◌, inl, inr, refl, sym, ap, ◌∙◌, subst, ⊎_elim, arith}
use Rattle.std.specs.Prelude.{nat_eq, if◌then◌else◌}
use Rattle.std.specs.List.{AllByRecursion}
use Rattle.std.proofs.lemmas.Bool.Decides.{eqb_tells}
use Rattle.cerco_traces.specs.LabelledGraphs.{In}
use Rattle.rtl.specs.Lengths.{total}
use Rattle.rtl.specs.WellFormed.{NoneTwice, AreCounted}
use Rattle.lin_gen.specs.Kept.{times}
use Rattle.lin_gen.proofs.Lists.{split, in_back, in_front, in_cases}

-- ---- what holds of each number

pub all_in : (P : ℕ → Type 0) (ns : List ℕ) → AllByRecursion P ns → (n : ℕ) → In n ns → P n
all_in P [] all n i = absurd i
all_in P (x ∷ xs) all n (inl e) = subst P e all.0
all_in P (x ∷ xs) all n (inr i) = all_in P xs all.1 n i

pub all_of : (P : ℕ → Type 0) (ns : List ℕ) → ((n : ℕ) → In n ns → P n) → AllByRecursion P ns
all_of P [] h = tt
all_of P (x ∷ xs) h = (h x (inl refl), all_of P xs (λ n i. h n (inr i)))

-- ---- sums

pub total_append : {A : Type 0} (f : A → ℕ) (xs ys : List A) → total f (xs ++ ys) ≡ total f xs + total f ys
total_append f [] ys = omega arith
total_append f (x ∷ xs) ys = let k = total_append f xs ys in omega arith

pub total_same : {A : Type 0} (f g : A → ℕ) (xs : List A) → ((x : A) → f x ≡ g x) → total f xs ≡ total g xs
total_same f g [] same = refl
total_same f g (x ∷ xs) same = let k = total_same f g xs same in let e = same x in omega arith

pub total_one : (ns : List ℕ) → total (λ n. 1) ns ≡ length ns
total_one [] = refl
total_one (n ∷ ns) = let k = total_one ns in omega arith

-- ---- sums over the numbers below n

abbrev pub sum_below : (ℕ → ℕ) → ℕ → ℕ
sum_below f zero = 0
sum_below f (suc n) = sum_below f n + f n

pub sum_shift : (f : ℕ → ℕ) (n : ℕ) → sum_below f (suc n) ≡ f 0 + sum_below (λ k. f (suc k)) n
sum_shift f zero = omega arith
sum_shift f (suc n) = let k = sum_shift f n in omega arith

sum_split : (f : ℕ → ℕ) (p : ℕ) (front rest : List ℕ) → total f (front ++ p ∷ rest) ≡ f p + total f (front ++ rest)
sum_split f p [] rest = refl
sum_split f p (x ∷ front) rest = let k = sum_split f p front rest in omega arith

in_or_not : (n : ℕ) (xs : List ℕ) → In n xs ⊎ (In n xs → ⊥)
in_or_not n [] = inr (λ i. i)
in_or_not n (x ∷ xs) = by (eq x n) (in_or_not n xs)
  where
    eq : (i j : ℕ) → (i ≡ j) ⊎ (i ≢ j)
    eq i j = grind arith

    by : (x ≡ n) ⊎ (x ≢ n) → In n xs ⊎ (In n xs → ⊥) → In n (x ∷ xs) ⊎ (In n (x ∷ xs) → ⊥)
    by (inl e) d = inl (inl e)
    by (inr ne) (inl i) = inl (inr i)
    by (inr ne) (inr out) = inr (λ i. ⊎_elim ne out i)

in_without : (q p : ℕ) (front rest : List ℕ) → In q (front ++ rest) → In q (front ++ p ∷ rest)
in_without q p front rest i = ⊎_elim (λ j. in_front q front (p ∷ rest) j) (λ j. in_back q front (p ∷ rest) (inr j)) (in_cases q front rest i)

once_without : (p : ℕ) (front rest : List ℕ) → NoneTwice (front ++ p ∷ rest) → NoneTwice (front ++ rest)
once_without p [] rest once = once.1
once_without p (x ∷ front) rest once = (λ i. once.0 (in_without x p front rest i), once_without p front rest once.1)

once_out : (p : ℕ) (front rest : List ℕ) → NoneTwice (front ++ p ∷ rest) → In p (front ++ rest) → ⊥
once_out p [] rest once i = once.0 i
once_out p (x ∷ front) rest once (inl e) = once.0 (in_back x front (p ∷ rest) (inl (sym e)))
once_out p (x ∷ front) rest once (inr i) = once_out p front rest once.1 i

smaller : (q n : ℕ) → q < suc n → (q ≡ n → ⊥) → q < n
smaller q n lt ne = grind arith

pub sum_once : (f : ℕ → ℕ) (n : ℕ) (order : List ℕ) → NoneTwice order → ((p : ℕ) → In p order → p < n) → total f order ≤ sum_below f n
sum_once f zero [] once within = omega arith
sum_once f zero (p ∷ ps) once within = absurd (no (within p (inl refl)))
  where
    no : p < 0 → ⊥
    no lt = omega arith
sum_once f (suc n) order once within = by (in_or_not n order) (λ ys o w. sum_once f n ys o w)
  where
    by : In n order ⊎ (In n order → ⊥) → ((ys : List ℕ) → NoneTwice ys → ((p : ℕ) → In p ys → p < n) → total f ys ≤ sum_below f n) → total f order ≤ sum_below f n + f n
    by (inr out) before =
        let k = before order once (λ q i. smaller q n (within q i) (λ e. out (subst (λ z. In z order) e i))) in
        omega arith
    by (inl i) before =
        let s = split n order i in
        let once' = subst NoneTwice s.whole once in
        let k = before (s.front ++ s.rest) (once_without n s.front s.rest once')
        (λ q j. smaller q n (within q (subst (In q) (sym s.whole) (in_without q n s.front s.rest j))) (λ e. once_out n s.front s.rest once' (subst (λ z. In z (s.front ++ s.rest)) e j))) in
        let e = ap (total f) s.whole ∙ sum_split f n s.front s.rest in
        omega arith

in_apart : (q p : ℕ) (front rest : List ℕ) → (p ≡ q → ⊥) → In q (front ++ p ∷ rest) → In q (front ++ rest)
in_apart q p [] rest ne (inl e) = absurd (ne e)
in_apart q p [] rest ne (inr i) = i
in_apart q p (x ∷ front) rest ne (inl e) = inl e
in_apart q p (x ∷ front) rest ne (inr i) = inr (in_apart q p front rest ne i)

pub sum_every : (f : ℕ → ℕ) (n : ℕ) (order : List ℕ) → ((p : ℕ) → p < n → In p order) → sum_below f n ≤ total f order
sum_every f zero order every = omega arith
sum_every f (suc n) order every =
    let s = split n order (every n (omega arith)) in
    let k = sum_every f n (s.front ++ s.rest) (λ q lt. in_apart q n s.front s.rest (λ e. above q n lt e) (subst (In q) s.whole (every q (omega arith)))) in
    let e = ap (total f) s.whole ∙ sum_split f n s.front s.rest in
    omega arith
  where
    above : (q n : ℕ) → q < n → n ≡ q → ⊥
    above q n lt e = omega arith

-- ---- how often a number stands in a list

abbrev is_one : ℕ → ℕ → ℕ
is_one n m = if nat_eq m n then 1 else 0

one_if : (n m : ℕ) → m ≡ n → is_one n m ≡ 1
one_if n m e = ⊎_elim (λ a. ap (λ (b : Bool). if b then 1 else 0) a.0) (λ a. absurd (a.1 e)) (eqb_tells m n)

zero_if : (n m : ℕ) → (m ≡ n → ⊥) → is_one n m ≡ 0
zero_if n m ne = ⊎_elim (λ a. absurd (ne a.1)) (λ a. ap (λ (b : Bool). if b then 1 else 0) a.0) (eqb_tells m n)

pub times_in : (n : ℕ) (ns : List ℕ) → In n ns → 1 ≤ times n ns
times_in n [] i = absurd i
times_in n (m ∷ ns) (inl e) = let k = one_if n m e in omega arith
times_in n (m ∷ ns) (inr i) = let k = times_in n ns i in omega arith

pub times_out : (n : ℕ) (ns : List ℕ) → (In n ns → ⊥) → times n ns ≡ 0
times_out n [] out = refl
times_out n (m ∷ ns) out =
    let k = times_out n ns (λ i. out (inr i)) in
    let e = zero_if n m (λ e. out (inl e)) in
    omega arith

pub in_times : (n : ℕ) (ns : List ℕ) → 1 ≤ times n ns → In n ns
in_times n ns le = ⊎_elim (λ i. i) (λ out. absurd (none (times_out n ns out) le)) (in_or_not n ns)
  where
    none : times n ns ≡ 0 → 1 ≤ times n ns → ⊥
    none e le = omega arith

pub once_times : (ns : List ℕ) → NoneTwice ns → (n : ℕ) → times n ns ≤ 1
once_times [] once n = omega arith
once_times (m ∷ ns) once n = by (eqb_tells m n) (once_times ns once.1 n)
  where
    by : ((nat_eq m n ≡ true) × (m ≡ n)) ⊎ ((nat_eq m n ≡ false) × (m ≡ n → ⊥)) → times n ns ≤ 1 → times n (m ∷ ns) ≤ 1
    by (inl a) less =
        let k = times_out n ns (λ i. once.0 (subst (λ z. In z ns) (sym a.1) i)) in
        let e = one_if n m a.1 in
        omega arith
    by (inr a) less =
        let e = zero_if n m a.1 in
        omega arith

times_once : (ns : List ℕ) → ((n : ℕ) → times n ns ≤ 1) → NoneTwice ns
times_once [] few = tt
times_once (m ∷ ns) few = (λ i. twice (times_in m ns i) (few m) (one_if m m refl), times_once ns (λ n. less n (few n)))
  where
    twice : 1 ≤ times m ns → times m (m ∷ ns) ≤ 1 → is_one m m ≡ 1 → ⊥
    twice a b e = omega arith

    less : (n : ℕ) → times n (m ∷ ns) ≤ 1 → times n ns ≤ 1
    less n le = omega arith

-- ---- the same numbers in another order

abbrev pub HaveOneSum : List ℕ → List ℕ → Type 0
HaveOneSum ms ns = (f : ℕ → ℕ) → total f ms ≡ total f ns

pub other_way : (ms ns : List ℕ) → HaveOneSum ms ns → (n : ℕ) → In n ns → In n ms
other_way ms ns same n i =
    let e = same (is_one n) in
    let k = times_in n ns i in
    in_times n ms (omega arith)

pub still_once : (ms ns : List ℕ) → HaveOneSum ms ns → NoneTwice ms → NoneTwice ns
still_once ms ns same once = times_once ns (λ n. let e = same (is_one n) in let k = once_times ms once n in omega arith)

pub still_counted : (ms ns : List ℕ) → HaveOneSum ms ns → AreCounted ms → AreCounted ns
still_counted ms ns same counted =
    let long : length ms ≡ length ns = sym (total_one ms) ∙ same (λ n. 1) ∙ total_one ns in
    record {
      once = still_once ms ns same counted.once;
      below = all_of (λ n. n < length ns) ns (λ n i. subst (λ k. n < k) long (all_in (λ n. n < length ms) ms counted.below n (other_way ms ns same n i)));
    }
