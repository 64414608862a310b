-- The least start of a node that is too deep, of a list of nodes.
use Rattle.std.proofs.Common.{◌≡◌, ℕ, suc, ◌+◌, ◌≤◌, ◌<◌, ◌⊎◌, inl, inr, min, Bool, true, false, cond, List, [], ◌∷◌, ◌++◌, All, Contains, refl, sym, ap, ap₂, subst, ◌∙◌, arith}
use Rattle.std.specs.Prelude.{nat_le, nat_lt, Option, Some, None}
use Rattle.std.proofs.lemmas.Bool.Decides.{nat_tests}
use Rattle.std.proofs.lemmas.Bool.{cases_lt}
use Rattle.std.proofs.lemmas.List.Elements.{All-nil, All-cons, All-head, All-tail}
use Rattle.clight_source.specs.Trees.{Item}
use Rattle.clight_source.specs.Depth.{Node, node, depth_limit, nodes}
use Rattle.clight_nesting.specs.Code.Levels.{least}
use Rattle.clight_nesting.specs.Code.Nesting.{IsNesting}

-- the place of a node, where it is too deep
abbrev pub too_deep : (depth at : ℕ) → Option ℕ
too_deep depth at = cond (nat_le depth depth_limit) None (Some at)

-- ---- the first of some places

pub least_none : (a : Option ℕ) → least a None ≡ a
least_none None = refl
least_none (Some i) = refl

pub least_assoc : (a b c : Option ℕ) → least (least a b) c ≡ least a (least b c)
least_assoc None b c = refl
least_assoc (Some i) None c = refl
least_assoc (Some i) (Some j) None = refl
least_assoc (Some i) (Some j) (Some k) = let e : min (min i j) k ≡ min i (min j k) = omega arith in ap Some e

pub none_left : (a b : Option ℕ) → least a b ≡ None → a ≡ None
none_left None b h = refl
none_left (Some i) None h = h
none_left (Some i) (Some j) h = cc

pub none_right : (a b : Option ℕ) → least a b ≡ None → b ≡ None
none_right None b h = h
none_right (Some i) None h = refl
none_right (Some i) (Some j) h = cc

-- the first node of some that is too deep
abbrev pub first_deep : List Node → Option ℕ
first_deep [] = None
first_deep (n ∷ l) = least (too_deep n.depth n.start) (first_deep l)

pub first_deep-append : (l r : List Node) → first_deep (l ++ r) ≡ least (first_deep l) (first_deep r)
first_deep-append [] r = refl
first_deep-append (n ∷ l) r =
    ap (least (too_deep n.depth n.start)) (first_deep-append l r) ∙ sym (least_assoc (too_deep n.depth n.start) (first_deep l) (first_deep r))

-- ---- one node

pub low_is : (d : ℕ) → nat_le d 64 ≡ true → d ≤ 64
low_is d h = grind (arith, nat_tests)

pub high_is : (d : ℕ) → nat_le d 64 ≡ false → 65 ≤ d
high_is d h = grind (arith, nat_tests)

pub low_test : (d : ℕ) → d ≤ 64 → nat_le d 64 ≡ true
low_test d h = grind (arith, nat_tests)

pub high_test : (d : ℕ) → 65 ≤ d → nat_le d 64 ≡ false
high_test d h = grind (arith, nat_tests)

pub below_is : (d : ℕ) → nat_lt d 64 ≡ true → d < 64
below_is d h = grind (arith, nat_tests)

pub above_is : (d : ℕ) → nat_lt d 64 ≡ false → 64 ≤ d
above_is d h = grind (arith, nat_tests)

below_test : (d : ℕ) → d < 64 → nat_lt d 64 ≡ true
below_test d h = grind (arith, nat_tests)

pub shallow_none : (d at : ℕ) → d ≤ 64 → too_deep d at ≡ None
shallow_none d at h = rw (low_test d h) refl

pub deep_some : (d at : ℕ) → 65 ≤ d → too_deep d at ≡ Some at
deep_some d at h = rw (high_test d h) refl

shallow_by : (b : Bool) (d at : ℕ) → nat_le d 64 ≡ b → too_deep d at ≡ None → d ≤ 64
shallow_by true d at h g = low_is d h
shallow_by false d at h g = let e = deep_some d at (high_is d h) in cc

pub shallow_is : (d at : ℕ) → too_deep d at ≡ None → d ≤ 64
shallow_is d at h = shallow_by (nat_le d 64) d at refl h

abbrev IsLow : Node → Type 0
IsLow n = n.depth ≤ depth_limit

abbrev StartsAfter : ℕ → Node → Type 0
StartsAfter at n = depth_limit < n.depth → at ≤ n.start

deep_by : (b : Bool) (d at i : ℕ) → nat_le d 64 ≡ b → too_deep d at ≡ Some i → (65 ≤ d) × (at ≡ i)
deep_by true d at i h g = let e = shallow_none d at (low_is d h) in cc
deep_by false d at i h g = let l = high_is d h in let e = deep_some d at l in (l, cc)

deep_is : (d at i : ℕ) → too_deep d at ≡ Some i → (65 ≤ d) × (at ≡ i)
deep_is d at i g = deep_by (nat_le d 64) d at i refl g

le_or_lt : (i j : ℕ) → (i ≤ j) ⊎ (j < i)
le_or_lt i j = elim (cases_lt j i) [ inl h ↦ inr h | inr h ↦ inl h ]

all_low : (l : List Node) → first_deep l ≡ None → All IsLow l
all_low [] h = All-nil IsLow
all_low (n ∷ l) h =
    All-cons IsLow n l (shallow_is n.depth n.start (none_left (too_deep n.depth n.start) (first_deep l) h)) (all_low l (none_right (too_deep n.depth n.start) (first_deep l) h))

none_deep : (l : List Node) → All IsLow l → first_deep l ≡ None
none_deep [] h = refl
none_deep (n ∷ l) h = ap₂ least (shallow_none n.depth n.start (All-head IsLow n l h)) (none_deep l (All-tail IsLow n l h))

-- a node that is too deep begins at the place, and none before
abbrev IsFirst : List Node → ℕ → Type 0
IsFirst l at = ((d : ℕ) × (depth_limit < d) × Contains l (node at d)) × All (StartsAfter at) l

here : (n : Node) (l : List Node) → Contains (n ∷ l) n
here n l = (0, omega arith, refl)

there : (n m : Node) (l : List Node) → Contains l m → Contains (n ∷ l) m
there n m l c = (suc c.0, let h = c.1 in omega arith, c.2)

after_low : (l : List Node) (at : ℕ) → All IsLow l → All (StartsAfter at) l
after_low [] at h = All-nil (StartsAfter at)
after_low (n ∷ l) at h = let low = All-head IsLow n l h in All-cons (StartsAfter at) n l (λ d. absurd (omega arith)) (after_low l at (All-tail IsLow n l h))

after_less : (l : List Node) (at i : ℕ) → i ≤ at → All (StartsAfter at) l → All (StartsAfter i) l
after_less [] at i h w = All-nil (StartsAfter i)
after_less (n ∷ l) at i h w =
    All-cons (StartsAfter i) n l (λ d. let e = All-head (StartsAfter at) n l w d in omega arith) (after_less l at i h (All-tail (StartsAfter at) n l w))

-- the first of a node that is too deep and of others
first_of_two : (n : Node) (l : List Node) (at j : ℕ) → 65 ≤ n.depth → min n.start j ≡ at → IsFirst l j → (n.start ≤ j) ⊎ (j < n.start) → IsFirst (n ∷ l) at
first_of_two n l at j d e w (inl h) =
    let s : n.start ≡ at = omega arith in
    subst (IsFirst (n ∷ l)) s ((n.depth, omega arith, here n l), All-cons (StartsAfter n.start) n l (λ g. omega arith) (after_less l j n.start h w.1))
first_of_two n l at j d e w (inr h) =
    let s : j ≡ at = omega arith in
    subst (IsFirst (n ∷ l)) s ((w.0.0, w.0.1, there n (node j w.0.0) l w.0.2), All-cons (StartsAfter j) n l (λ g. omega arith) w.1)

first_by : (n : Node) (l : List Node) (at : ℕ) (a b : Option ℕ) → too_deep n.depth n.start ≡ a → first_deep l ≡ b → least a b ≡ Some at
    → ((j : ℕ) → first_deep l ≡ Some j → IsFirst l j) → IsFirst (n ∷ l) at
first_by n l at None b h g e f =
    let low = shallow_is n.depth n.start h in
    let w = f at (g ∙ e) in
    ((w.0.0, w.0.1, there n (node at w.0.0) l w.0.2), All-cons (StartsAfter at) n l (λ d. absurd (omega arith)) w.1)
first_by n l at (Some i) None h g e f =
    let d = deep_is n.depth n.start i h in
    let s : n.start ≡ at = cc in
    subst (IsFirst (n ∷ l)) s ((n.depth, omega (arith, d.0), here n l), All-cons (StartsAfter n.start) n l (λ q. omega arith) (after_low l n.start (all_low l g)))
first_by n l at (Some i) (Some j) h g e f =
    let d = deep_is n.depth n.start i h in
    let m : min i j ≡ at = cc in
    let s : min n.start j ≡ at = ap (λ z. min z j) d.1 ∙ m in
    first_of_two n l at j d.0 s (f j g) (le_or_lt n.start j)

pub first_found : (l : List Node) (at : ℕ) → first_deep l ≡ Some at → IsFirst l at
first_found [] at h = cc
first_found (n ∷ l) at h = first_by n l at (too_deep n.depth n.start) (first_deep l) refl refl h (first_found l)

-- what the first deep node of a program is
pub nesting_by : (items : List Item) (o : Option ℕ) → first_deep (nodes items) ≡ o → IsNesting items o
nesting_by items None h = all_low (nodes items) h
nesting_by items (Some at) h = let f = first_found (nodes items) at h in record { deep = f.0; least = f.1 }
