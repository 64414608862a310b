-- The calls of the generator's programs: `main` calls each other function, and none of these calls any; so there are few call paths.
use Rattle.std.proofs.Common.{◌≡◌, ℕ, zero, suc, ◌+◌, ◌<◌, ◌≤◌, ◌⊎◌, List, [], ◌∷◌, ◌++◌, length, get_or, take, refl, sym, ap, subst, ◌∙◌, inl, inr, arith}
use Rattle.std.specs.Prelude.{All, Contains, slice_index, slice_index_or}
use Rattle.std.proofs.lemmas.Bool.{cases_lt}
use Rattle.std.proofs.lemmas.List.{get_or_append_left, get_or_push, get_or_past, get_or-take, length_push, length-take-le}
use Rattle.std.proofs.lemmas.List.Elements.{All-nil, All-cons}
use Rattle.std.proofs.lemmas.List.Sums.{sum_by-cons}
use Rattle.cerco_base.specs.CallOrder.{Called, functions_of, callers_at, IsCallOrder}
use Rattle.call_graph.specs.CallPaths.{Calls, CallsIn, IsCallPath, IsOnCycle, IsLargestSum, IsLargestSumBefore, IsOrderOf, sum_along}
use Rattle.call_graph.proofs.Entries.{contains_here, contains_there, contains_cases, contains_none, contains_at, at_contains}
use Rattle.sample_programs.proofs.Families.{each, length-each, get-each, map-each}

-- the callees of each function: none, and of the last one all others
abbrev pub callees_of : ℕ → List (List ℕ)
callees_of n = each (λ f. []) n ++ each (λ f. f) n ∷ []

pub length-callees : (n : ℕ) → length (callees_of n) ≡ suc n
length-callees n =
    let l = length-each {A = List ℕ} (λ f. []) n in
    let p = length_push {X = List ℕ} (each (λ f. []) n) (each (λ f. f) n) in omega arith

at_function : (n f : ℕ) → f < n → slice_index_or (callees_of n) f [] ≡ []
at_function n f h =
    let l = length-each {A = List ℕ} (λ g. []) n in
    get_or_append_left {A = List ℕ} (each (λ g. []) n) (each (λ g. g) n ∷ []) [] f (omega arith) ∙ get-each {A = List ℕ} (λ g. []) n f [] h

at_main : (n : ℕ) → slice_index_or (callees_of n) n [] ≡ each (λ f. f) n
at_main n = get_or_push {X = List ℕ} (each (λ f. []) n) (each (λ f. f) n) [] n (length-each {A = List ℕ} (λ f. []) n)

at_past : (n f : ℕ) → n < f → slice_index_or (callees_of n) f [] ≡ []
at_past n f h = let l = length-callees n in get_or_past {X = List ℕ} (callees_of n) f [] (omega arith)

numbers_below : (n g : ℕ) → Contains (each (λ f. f) n) g → g < n
numbers_below n g c =
    let p = at_contains (each (λ f. f) n) g c in
    let l = length-each {A = ℕ} (λ f. f) n in
    let lt : p.0 < n = (let h = p.1 in omega arith) in
    let e = get-each {A = ℕ} (λ f. f) n p.0 0 lt in
    let f = p.2 in
    omega arith

number_there : (n g : ℕ) → g < n → Contains (each (λ f. f) n) g
number_there n g h =
    let l = length-each {A = ℕ} (λ f. f) n in
    contains_at (each (λ f. f) n) g g (omega arith) (get-each {A = ℕ} (λ f. f) n g 0 h)

pub calls_only : (n f g : ℕ) → Calls (callees_of n) f g → (f ≡ n) × (g < n)
calls_only n f g c =
    elim (cases_lt f n) [
      | inl h ↦ absurd (contains_none g (subst (λ xs. Contains xs g) (at_function n f h) c))
      | inr h ↦
          elim (cases_lt n f) [
            | inl past ↦ absurd (contains_none g (subst (λ xs. Contains xs g) (at_past n f past) c))
            | inr le ↦
                let same : f ≡ n = omega arith in
                (same, numbers_below n g (subst (λ xs. Contains xs g) (ap (λ (k : ℕ). slice_index_or (callees_of n) k []) same ∙ at_main n) c))
          ]
    ]

pub main_calls : (n g : ℕ) → g < n → Calls (callees_of n) n g
main_calls n g h = subst (λ xs. Contains xs g) (sym (at_main n)) (number_there n g h)

-- ---- call paths

pub no_cycle : (n f : ℕ) → IsOnCycle (length (callees_of n)) (Calls (callees_of n)) f → ⊥
no_cycle n f (between, path) = by between path
  where
    twice : (g h : ℕ) → Calls (callees_of n) f g → Calls (callees_of n) g h → ⊥
    twice g h c d = let x = calls_only n f g c in let y = calls_only n g h d in let a = x.1 in let b = y.0 in absurd (omega arith)

    by : (between : List ℕ) → IsCallPath (length (callees_of n)) (Calls (callees_of n)) (f ∷ (between ++ f ∷ [])) → ⊥
    by [] p = let x = calls_only n f f p.1.0 in let a = x.0 in let b = x.1 in absurd (omega arith)
    by (g ∷ []) p = twice g f p.1.0 p.1.1.0
    by (g ∷ h ∷ more) p = twice g h p.1.0 p.1.1.0

-- a path is one function, or `main` and another one
path_cases : (n : ℕ) (path : List ℕ) → IsCallPath (length (callees_of n)) (Calls (callees_of n)) path → ((f : ℕ) × (path ≡ f ∷ []) × (f < suc n)) ⊎ ((f : ℕ) × (g : ℕ) × (path ≡ f ∷ g ∷ []) × (f ≡ n) × (g < n))
path_cases n [] p = absurd p
path_cases n (f ∷ []) p = let l = length-callees n in let h = p.0 in inl (f, refl, omega arith)
path_cases n (f ∷ g ∷ []) p = let c = calls_only n f g p.1.0 in inr (f, g, refl, c.0, c.1)
path_cases n (f ∷ g ∷ h ∷ more) p =
    let c = calls_only n f g p.1.0 in let d = calls_only n g h p.1.1.0 in
    let a = c.1 in let b = d.0 in absurd (omega arith)

-- the largest sum, where all functions but `main` have one size
pub largest : (n : ℕ) (sizes : List ℕ) (s t : ℕ) → 1 ≤ n → ((f : ℕ) → f < n → slice_index sizes f ≡ s) → slice_index sizes n ≡ t → IsLargestSum (length (callees_of n)) (Calls (callees_of n)) sizes (t + s)
largest n sizes s t some others last =
    let l = length-callees n in
    let first : slice_index sizes 0 ≡ s = others 0 (omega arith) in
    record {
      some = (n ∷ 0 ∷ [], inl (let h : n < length (callees_of n) = omega arith in (h, (main_calls n 0 (omega arith), tt))), (let e : sum_along sizes (n ∷ 0 ∷ []) ≡ t + s = omega arith in e));
      most = λ path way. elim (path_cases n path way) [
        | inl one ↦ subst (λ xs. sum_along sizes xs ≤ t + s) (sym one.1) (single one.0 one.2)
        | inr two ↦
            subst (λ xs. sum_along sizes xs ≤ t + s) (sym two.2)
            (let a : slice_index sizes two.0 ≡ t = ap (slice_index sizes) two.3 ∙ last in
            let b : slice_index sizes two.1 ≡ s = others two.1 two.4 in
            let e : sum_along sizes (two.0 ∷ two.1 ∷ []) ≤ t + s = omega arith in e)
      ];
    }
  where
    single : (f : ℕ) → f < suc n → sum_along sizes (f ∷ []) ≤ t + s
    single f h =
        elim (cases_lt f n) [
          | inl lt ↦ let a = others f lt in let e : sum_along sizes (f ∷ []) ≤ t + s = omega arith in e
          | inr le ↦
              let same : f ≡ n = omega arith in
              let a : slice_index sizes f ≡ t = ap (slice_index sizes) same ∙ last in
              let e : sum_along sizes (f ∷ []) ≤ t + s = omega arith in e
        ]

-- before each function there is nothing where all have no size
pub nothing_before : (n f : ℕ) (sizes : List ℕ) → f < suc n → ((g : ℕ) → slice_index sizes g ≡ 0) → IsLargestSumBefore (length (callees_of n)) (Calls (callees_of n)) sizes f 0
nothing_before n f sizes h none =
    let l = length-callees n in
    record {
      some = ([], (let lt : f < length (callees_of n) = omega arith in (lt, tt)), refl);
      most = λ path way. nothing_along path;
    }
  where
    nothing_along : (path : List ℕ) → sum_along sizes path ≤ 0
    nothing_along [] = omega arith
    nothing_along (g ∷ path) =
        let e = sum_by-cons (slice_index sizes) g path in
        let a = none g in
        let b = nothing_along path in
        let c : sum_along sizes (g ∷ path) ≤ 0 = omega arith in c

-- ---- an order of calls

abbrev pub calls_of : ℕ → List Called
calls_of n = record { function = n; callers = [] } ∷ each (λ f. record { function = f; callers = n ∷ [] }) n

functions_are : (n : ℕ) → functions_of (calls_of n) ≡ n ∷ each (λ f. f) n
functions_are n = ap (λ xs. n ∷ xs) (map-each (λ (c : Called). c.function) (λ f. record { function = f; callers = n ∷ [] }) n)

callers_are : (n k : ℕ) → k < n → callers_at (calls_of n) (suc k) ≡ n ∷ []
callers_are n k h =
    ap (λ (xs : List (List ℕ)). get_or xs k []) (map-each (λ (c : Called). c.callers) (λ f. record { function = f; callers = n ∷ [] }) n)
    ∙ get-each {A = List ℕ} (λ f. n ∷ []) n k [] h

function_at : (n k : ℕ) → k < n → slice_index (functions_of (calls_of n)) (suc k) ≡ k
function_at n k h = ap (λ xs. slice_index xs (suc k)) (functions_are n) ∙ get-each {A = ℕ} (λ f. f) n k 0 h

length-order : (n : ℕ) → length (calls_of n) ≡ suc n
length-order n = let l = length-each {A = Called} (λ f. record { function = f; callers = n ∷ [] }) n in omega arith

contains_one : (x y : ℕ) → Contains (x ∷ []) y → x ≡ y
contains_one x y c = elim (contains_cases x y [] c) [ inl e ↦ e | inr none ↦ absurd (contains_none y none) ]

called_in : (n f g : ℕ) → CallsIn (calls_of n) f g → Calls (callees_of n) f g
called_in n f g (zero, within, is, there) = absurd (contains_none f there)
called_in n f g (suc k, within, is, there) =
    let l = length-order n in
    let h : k < n = omega arith in
    let main : n ≡ f = contains_one n f (subst (λ xs. Contains xs f) (callers_are n k h) there) in
    let place : k ≡ g = sym (function_at n k h) ∙ is in
    subst (λ x. Calls (callees_of n) x g) main (subst (λ y. Calls (callees_of n) n y) place (main_calls n k h))

calls_in : (n f g : ℕ) → Calls (callees_of n) f g → CallsIn (calls_of n) f g
calls_in n f g c =
    let p = calls_only n f g c in
    let l = length-order n in
    let h : g < n = p.1 in
    let within : suc g < length (calls_of n) = omega arith in
    (suc g, within, function_at n g h, subst (λ xs. Contains xs f) (sym (callers_are n g h)) (subst (λ x. Contains (n ∷ []) x) (sym p.0) (contains_here n [])))

place_before : (n k : ℕ) → k < n → Contains (take k (each (λ f. f) n)) k → ⊥
place_before n k h c =
    let p = at_contains (take k (each (λ f. f) n)) k c in
    let l = length-each {A = ℕ} (λ f. f) n in
    let t = length-take-le k (each (λ f. f) n) (omega arith) in
    let lt : p.0 < k = (let q = p.1 in omega arith) in
    let e = get_or-take k (each (λ f. f) n) p.0 0 lt in
    let g = get-each {A = ℕ} (λ f. f) n p.0 0 (omega arith) in
    let is = p.2 in
    absurd (omega arith)

in_order : (n : ℕ) → IsCallOrder (calls_of n)
in_order n = record { once = once; callers_before = before }
  where
    once : (i : ℕ) → i < length (calls_of n) → Contains (take i (functions_of (calls_of n))) (slice_index (functions_of (calls_of n)) i) → ⊥
    once zero h c = contains_none _ c
    once (suc k) h c =
        let l = length-order n in
        let lt : k < n = omega arith in
        let d : Contains (n ∷ take k (each (λ f. f) n)) k =
        subst (λ xs. Contains (take (suc k) xs) k) (functions_are n) (subst (λ y. Contains (take (suc k) (functions_of (calls_of n))) y) (function_at n k lt) c)
        in
        elim (contains_cases n k (take k (each (λ f. f) n)) d) [
          | inl e ↦ absurd (omega arith)
          | inr there ↦ place_before n k lt there
        ]

    before : (i : ℕ) → i < length (calls_of n) → All (Contains (take i (functions_of (calls_of n)))) (callers_at (calls_of n) i)
    before zero h = All-nil _
    before (suc k) h =
        let l = length-order n in
        let lt : k < n = omega arith in
        subst (λ xs. All (Contains (take (suc k) (functions_of (calls_of n)))) xs) (sym (callers_are n k lt))
        (All-cons (Contains (take (suc k) (functions_of (calls_of n)))) n []
        (subst (λ xs. Contains (take (suc k) xs) n) (sym (functions_are n)) (contains_here n (take k (each (λ f. f) n))))
        (All-nil (Contains (take (suc k) (functions_of (calls_of n))))))

pub order_right : (n : ℕ) → IsOrderOf (callees_of n) (calls_of n)
order_right n = record {
  functions = λ f. (there f, back f);
  calls = λ f g. (called_in n f g, calls_in n f g);
  in_order = in_order n;
}
  where
    there : (f : ℕ) → Contains (functions_of (calls_of n)) f → f < length (callees_of n)
    there f c =
        let l = length-callees n in
        elim (contains_cases n f (each (λ g. g) n) (subst (λ xs. Contains xs f) (functions_are n) c)) [
          | inl e ↦ omega arith
          | inr in' ↦ let h = numbers_below n f in' in omega arith
        ]

    back : (f : ℕ) → f < length (callees_of n) → Contains (functions_of (calls_of n)) f
    back f h =
        let l = length-callees n in
        subst (λ xs. Contains xs f) (sym (functions_are n))
        (elim (cases_lt f n) [
          | inl lt ↦ contains_there n f (each (λ g. g) n) (number_there n f lt)
          | inr le ↦ let e : n ≡ f = omega arith in subst (λ x. Contains (n ∷ each (λ g. g) n) x) e (contains_here n (each (λ g. g) n))
        ])
