-- Steps, comparisons and tests of pointers: the same with their words.
use Rattle.std.proofs.Common.{◌≡◌, ◌≢◌, ℕ, zero, suc, ◌+◌, ◌-◌, ◌*◌, ◌%◌, ◌^◌, ◌<◌, ◌≤◌, Option, Some, None, Result, Ok, Err, Bool, true, false, not, refl, sym, ap, ◌∙◌, subst, arith, ◌⊎◌, inl, inr}
use Rattle.std.specs.Prelude.{slice_get, nat_eq, nat_lt, nat_le, ◌||◌, if◌then◌else◌}
use Rattle.std.proofs.lemmas.Option.{same_Some}
use Rattle.cerco_base.specs.declared.events.FaultKind.{FaultKind}
use Rattle.cerco_base.specs.declared.events.FaultKind.TheVariants.{Outside, Compare}
use Rattle.c_types.specs.declared.integers.IntegerType.{IntegerType}
use Rattle.c_types.specs.declared.integers.Size.{Size}
use Rattle.c_types.specs.declared.integers.Size.TheVariants.{One, Two, Four}
use Rattle.c_types.specs.Types.{CType, Integer, Pointer, bool_eq}
use Rattle.clight_values.specs.declared.value.Value.{Value}
use Rattle.clight_values.specs.declared.value.Value.TheVariants as v
use Rattle.clight_values.specs.declared.value.Block.{Block}
use Rattle.clight_values.specs.declared.value.Place.{Place}
use Rattle.clight_values.specs.Values.{is_negative, magnitude}
use Rattle.clight_values.specs.Memory.{Answer, Memory, live_in, live, moved_in, moved, stepped, not_null, is_true, equal_in, differs_from_null, equal, less_in, without_order, less}
use Rattle.flat_memory.proofs.Lists.{same_number, not_same, below, not_below, by_test}
use Rattle.flat_memory.proofs.Shapes.{Shape, Points, Counts, IsIn, Fits, block_ends}
use Rattle.flat_memory.proofs.Loads.{Lives, lives}

-- an answer is a pointer with this word, or a fault
abbrev pub PointsTo : Shape → ℕ → Answer → ℕ → Type 0
PointsTo S made (Err k) n = Unit {0}
PointsTo S made (Ok w) n = Points S made w n

-- a word moved by so many bytes on or back, where it stays in external RAM
abbrev pub Moves : Bool → ℕ → ℕ → ℕ → Type 0
Moves false by n n' = n + by < 65536 → n' ≡ n + by
Moves true by n n' = by ≤ n → n < 65536 → n' + by ≡ n

-- a test of two words, or a fault
abbrev pub Decides : Result Bool FaultKind → Type 0 → Type 0 → Type 0
Decides (Err k) Yes No = Unit {0}
Decides (Ok true) Yes No = Yes
Decides (Ok false) Yes No = No

either_false : (a b : Bool) → (a || b) ≡ false → (a ≡ false) × (b ≡ false)
either_false true b e = absurd cc
either_false false b e = (refl, e)

-- ---- the word of an integer by its magnitude

abbrev pub Signs : Size → Bool → ℕ → ℕ → Type 0
Signs s g x k =
    ((is_negative (record { size = s; signed = g }) x ≡ false) × (k ≡ magnitude (record { size = s; signed = g }) x))
    ⊎ ((is_negative (record { size = s; signed = g }) x ≡ true) × (k + magnitude (record { size = s; signed = g }) x ≡ 65536))

by_sign : (x : ℕ) (half count far : ℕ) (t : Bool) → nat_le half x ≡ t → x < count → (k : ℕ) → k ≡ (if t then x + far else x) → count + far ≡ 65536
    → ((nat_le half x ≡ false) × (k ≡ (if nat_le half x then count - x else x))) ⊎ ((nat_le half x ≡ true) × (k + (if nat_le half x then count - x else x) ≡ 65536))
by_sign x half count far true e lt k is sum = inr (e, (let m = ap (λ t. if t then count - x else x) e in omega arith))
by_sign x half count far false e lt k is sum = inl (e, is ∙ sym (ap (λ t. if t then count - x else x) e))

pub signs : (s : Size) (g : Bool) (x k : ℕ) → Counts s g (v.Integer x) k → Signs s g x k
signs One false x k h = inl (refl, h.1)
signs One true x k h = by_sign x 128 256 65280 (nat_le 128 x) refl h.0 k h.1 refl
signs Two false x k h = inl (refl, h.1)
signs Two true x k h = by_sign x 32768 65536 0 (nat_le 32768 x) refl h.0 k (h.1 ∙ no_change (nat_le 32768 x)) refl
  where
    no_change : (t : Bool) → x ≡ (if t then x + 0 else x)
    no_change true = omega arith
    no_change false = refl
signs Four g x k h = absurd h

-- ---- words that step over elements of 2 to the j-th bytes

abbrev pub stepped_word : Bool → ℕ → ℕ → ℕ
stepped_word false n y = (n + y) % 65536
stepped_word true n y = (n + (65536 - y)) % 65536

-- q and p are as many bytes on and back
opposite_bytes : (k mag c : ℕ) → k + mag ≡ 65536 → k * c + mag * c ≡ 65536 * c
opposite_bytes k mag c e = (let q : k * c + mag * c ≡ (k + mag) * c = grind arith in q) ∙ ap (λ z. z * c) e

step_near : (back : Bool) (n p : ℕ) → Moves back p n (stepped_word back n (p % 65536))
step_near false n p = λ fit. omega arith
step_near true n p = λ fit low. omega arith

step_far : (back : Bool) (n p q c : ℕ) → q + p ≡ 65536 * c → Moves (not back) p n (stepped_word back n (q % 65536))
step_far false n p q c e = λ fit low. omega arith
step_far true n p q c e = λ fit. omega arith

abbrev pub MovesBy : Bool → Size → Bool → ℕ → ℕ → ℕ → ℕ → Type 0
MovesBy back s g x size n n' = Moves (not (bool_eq back (is_negative (record { size = s; signed = g }) x))) (magnitude (record { size = s; signed = g }) x * size) n n'

pub shift_moves : (back : Bool) (s : Size) (g : Bool) (x k j n : ℕ) → Counts s g (v.Integer x) k → MovesBy back s g x (2 ^ j) n (stepped_word back n ((k * 2 ^ j) % 65536))
shift_moves back s g x k j n h = by (signs s g x k h)
  where
    near : (back : Bool) → not (bool_eq back false) ≡ back
    near true = refl
    near false = refl

    far : (back : Bool) → not (bool_eq back true) ≡ not back
    far true = refl
    far false = refl

    by : Signs s g x k → MovesBy back s g x (2 ^ j) n (stepped_word back n ((k * 2 ^ j) % 65536))
    by (inl a) =
        subst (λ t. Moves (not (bool_eq back t)) (magnitude (record { size = s; signed = g }) x * 2 ^ j) n (stepped_word back n ((k * 2 ^ j) % 65536))) (sym a.0)
        (subst (λ t. Moves t (magnitude (record { size = s; signed = g }) x * 2 ^ j) n (stepped_word back n ((k * 2 ^ j) % 65536))) (sym (near back))
        (subst (λ z. Moves back (z * 2 ^ j) n (stepped_word back n ((k * 2 ^ j) % 65536))) a.1 (step_near back n (k * 2 ^ j))))
    by (inr a) =
        subst (λ t. Moves (not (bool_eq back t)) (magnitude (record { size = s; signed = g }) x * 2 ^ j) n (stepped_word back n ((k * 2 ^ j) % 65536))) (sym a.0)
        (subst (λ t. Moves t (magnitude (record { size = s; signed = g }) x * 2 ^ j) n (stepped_word back n ((k * 2 ^ j) % 65536))) (sym (far back))
        (step_far back n (magnitude (record { size = s; signed = g }) x * 2 ^ j) (k * 2 ^ j) (2 ^ j) (opposite_bytes k (magnitude (record { size = s; signed = g }) x) (2 ^ j) a.1)))

module _ (S : Shape) (made d : ℕ) (fits : Fits d S) where
  -- ---- steps

  moved_in_ok : (at : Place) (back : Bool) (by n n' : ℕ) → at.call < made → (r : Result Block FaultKind) → Lives S at n r → Moves back by n n' → PointsTo S made (moved_in r at back by) n'
  moved_in_ok at back by n n' old (Err k) h moves = tt
  moved_in_ok at true by n n' old (Ok b) h moves =
      by_test (λ r. PointsTo S made r n') (nat_lt at.offset by) (Err Outside) _ (λ e. tt) (λ e.
      let le = not_below _ _ e in
      let q = block_ends d S fits at.slot b h.0 in
      let q1 = q.1 in
      let h1 = h.1 in
      let h2 = h.2 in
      let is : n' + by ≡ n = moves (omega arith) (omega arith) in (
        old,
        λ b' is' same.
            subst (λ (z : Block). (at.offset - by ≤ z.size) × (n' ≡ S.address z.begin + (at.offset - by))) (same_Some _ _ (sym h.0 ∙ is')) (omega arith, omega arith),
      ))
  moved_in_ok at false by n n' old (Ok b) h moves =
      by_test (λ r. PointsTo S made r n') (nat_lt b.size (at.offset + by)) (Err Outside) _ (λ e. tt) (λ e.
      let le = not_below _ _ e in
      let q = block_ends d S fits at.slot b h.0 in
      let q1 = q.1 in
      let h1 = h.1 in
      let h2 = h.2 in
      let is : n' ≡ n + by = moves (omega arith) in (
        old,
        λ b' is' same.
            subst (λ (z : Block). (at.offset + by ≤ z.size) × (n' ≡ S.address z.begin + (at.offset + by))) (same_Some _ _ (sym h.0 ∙ is')) (omega arith, omega arith),
      ))

  pub moved_ok : (m : Memory) → m.blocks ≡ S.blocks → (p : Value) (back : Bool) (by n n' : ℕ) → Points S made p n → Moves back by n n' → PointsTo S made (moved m p back by) n'
  moved_ok m same (v.Integer x) back by n n' h moves = absurd h
  moved_ok m same v.Null back by n n' h moves = tt
  moved_ok m same (v.Pointer at) back by n n' h moves =
      moved_in_ok at back by n n' h.0 _ (subst (λ bs. Lives S at n (live_in (slice_get bs at.slot) at.call)) (sym same) (lives S made at n h)) moves

  pub stepped_ok : (m : Memory) → m.blocks ≡ S.blocks → (size : ℕ) (back : Bool) (p : Value) (s : Size) (g : Bool) (w : Value) (n k n' : ℕ) → Points S made p n → Counts s g w k
      → ((x : ℕ) → w ≡ v.Integer x → MovesBy back s g x size n n') → PointsTo S made (stepped m size back p (record { size = s; signed = g }) w) n'
  stepped_ok m same size back p s g (v.Integer x) n k n' h i moves = moved_ok m same p _ _ n n' h (moves x refl)
  stepped_ok m same size back p s g v.Null n k n' h i moves = tt
  stepped_ok m same size back p s g (v.Pointer at) n k n' h i moves = tt

  -- ---- equality

  abbrev pub SaysSame : Result Bool FaultKind → ℕ → ℕ → Type 0
  SaysSame r n n' = Decides r (n ≡ n') (n ≢ n')

  at_offset : (s : ℕ) (b : Block) (o : ℕ) → slice_get S.blocks s ≡ Some b → o < b.size → (b.begin + o < S.count) × (S.address (b.begin + o) ≡ S.address b.begin + o)
  at_offset s b o is lt = let w = fits.block s b is in let ends = w.ends in (omega arith, w.follow o lt)

  both_live : (p q : Place) (n n' : ℕ) (r r' : Result Block FaultKind) → Lives S p n r → Lives S q n' r' → SaysSame (equal_in r r' p q) n n'
  both_live p q n n' (Err e) r' h h' = tt
  both_live p q n n' (Ok b) (Err e) h h' = tt
  both_live p q n n' (Ok b) (Ok b') h h' =
      by_test (λ r. SaysSame r n n') (nat_eq p.slot q.slot) _ _
      (λ e. let same = same_Some _ _ (sym h'.0 ∙ ap (slice_get S.blocks) (sym (same_number _ _ e)) ∙ h.0) in
      let at : n' ≡ S.address b.begin + q.offset = h'.2 ∙ ap (λ (z : Block). S.address z.begin + q.offset) same in
      one_block (nat_eq p.offset q.offset) refl at)
      (λ e. by_test (λ r. SaysSame r n n') (nat_eq p.offset b.size || nat_eq q.offset b'.size) _ _ (λ e. tt) (λ ends.
      let ne' = either_false (nat_eq p.offset b.size) (nat_eq q.offset b'.size) ends in
      let n1 = not_same p.offset b.size ne'.0 in
      let n2 = not_same q.offset b'.size ne'.1 in
      let l1 = h.1 in
      let l2 = h'.1 in
      let m1 : p.offset < b.size = omega arith in
      let m2 : q.offset < b'.size = omega arith in
      let a1 = at_offset p.slot b p.offset h.0 m1 in
      let a2 = at_offset q.slot b' q.offset h'.0 m2 in
      let ne = fits.others p.slot q.slot b b' (not_same _ _ e) h.0 h'.0 p.offset q.offset m1 m2 in
      λ is. ne (fits.apart _ _ a1.0 a2.0 (a1.1 ∙ sym h.2 ∙ is ∙ h'.2 ∙ sym a2.1))))
    where
      one_block : (t : Bool) → nat_eq p.offset q.offset ≡ t → n' ≡ S.address b.begin + q.offset → SaysSame (Ok t) n n'
      one_block true e at = let o = same_number _ _ e in let h2 = h.2 in omega arith
      one_block false e at = let o = not_same _ _ e in let h2 = h.2 in (λ z. o (omega arith))

  live_word : (at : Place) (b : Block) (n : ℕ) → Lives S at n (Ok b) → 1 ≤ n
  live_word at b n h = let q = (block_ends d S fits at.slot b h.0).0 in let h2 = h.2 in omega arith

  with_null : (at : Place) (n : ℕ) (r : Result Block FaultKind) → Lives S at n r → SaysSame (differs_from_null r) n 0 × SaysSame (differs_from_null r) 0 n
  with_null at n (Err e) h = (tt, tt)
  with_null at n (Ok b) h = let low = live_word at b n h in (λ e. omega arith, λ e. omega arith)

  module _ (m : Memory) (same : m.blocks ≡ S.blocks) where
    living : (at : Place) (n : ℕ) → Points S made (v.Pointer at) n → Lives S at n (live m at)
    living at n h = subst (λ bs. Lives S at n (live_in (slice_get bs at.slot) at.call)) (sym same) (lives S made at n h)

    pub equal_ok : (p q : Value) (n n' : ℕ) → Points S made p n → Points S made q n' → SaysSame (equal m p q) n n'
    equal_ok (v.Integer x) q n n' h i = absurd h
    equal_ok v.Null (v.Integer x) n n' h i = absurd i
    equal_ok (v.Pointer at) (v.Integer x) n n' h i = absurd i
    equal_ok v.Null v.Null n n' h i = h ∙ sym i
    equal_ok (v.Pointer at) v.Null n n' h i = subst (λ k. SaysSame (differs_from_null (live m at)) n k) (sym i) (with_null at n _ (living at n h)).0
    equal_ok v.Null (v.Pointer at) n n' h i = subst (λ k. SaysSame (differs_from_null (live m at)) k n') (sym h) (with_null at n' _ (living at n' i)).1
    equal_ok (v.Pointer p) (v.Pointer q) n n' h i = both_live p q n n' _ _ (living p n h) (living q n' i)

    -- with the number 0
    pub equal_zero_ok : (p : Value) (x n : ℕ) → Points S made p n → SaysSame (equal m p (v.Integer x)) n 0
    equal_zero_ok (v.Integer y) x n h = absurd h
    equal_zero_ok v.Null x n h = h
    equal_zero_ok (v.Pointer at) x n h = (with_null at n _ (living at n h)).0

    pub zero_equal_ok : (q : Value) (x n : ℕ) → Points S made q n → SaysSame (equal m (v.Integer x) q) 0 n
    zero_equal_ok (v.Integer y) x n h = absurd h
    zero_equal_ok v.Null x n h = sym h
    zero_equal_ok (v.Pointer at) x n h = (with_null at n _ (living at n h)).1

    -- ---- order

    ordered_in : (p q : Place) (n n' : ℕ) (r r' : Result Block FaultKind) → Lives S p n r → Lives S q n' r' → Decides (less_in r r' p q) (n < n') (n' ≤ n)
    ordered_in p q n n' (Err e) r' h h' = tt
    ordered_in p q n n' (Ok b) (Err e) h h' = tt
    ordered_in p q n n' (Ok b) (Ok b') h h' =
        by_test (λ r. Decides r (n < n') (n' ≤ n)) (nat_eq p.slot q.slot) _ _
        (λ e. let same' = same_Some _ _ (sym h'.0 ∙ ap (slice_get S.blocks) (sym (same_number _ _ e)) ∙ h.0) in
        let at : n' ≡ S.address b.begin + q.offset = h'.2 ∙ ap (λ (z : Block). S.address z.begin + q.offset) same' in
        one_block (nat_lt p.offset q.offset) refl at)
        (λ e. tt)
      where
        one_block : (t : Bool) → nat_lt p.offset q.offset ≡ t → n' ≡ S.address b.begin + q.offset → Decides (Ok t) (n < n') (n' ≤ n)
        one_block true e at = let o = below _ _ e in let h2 = h.2 in omega arith
        one_block false e at = let o = not_below _ _ e in let h2 = h.2 in omega arith

    none_ordered : (r : Result Block FaultKind) (n n' : ℕ) → Decides (without_order r) (n < n') (n' ≤ n)
    none_ordered (Err e) n n' = tt
    none_ordered (Ok b) n n' = tt

    pub less_ok : (p q : Value) (n n' : ℕ) → Points S made p n → Points S made q n' → Decides (less m p q) (n < n') (n' ≤ n)
    less_ok (v.Integer x) q n n' h i = absurd h
    less_ok v.Null (v.Integer x) n n' h i = absurd i
    less_ok (v.Pointer at) (v.Integer x) n n' h i = absurd i
    less_ok v.Null v.Null n n' h i = tt
    less_ok (v.Pointer at) v.Null n n' h i = none_ordered (live m at) n n'
    less_ok v.Null (v.Pointer at) n n' h i = none_ordered (live m at) n n'
    less_ok (v.Pointer p) (v.Pointer q) n n' h i = ordered_in p q n n' _ _ (living p n h) (living q n' i)

    -- ---- tests

    is_alive : (at : Place) (n : ℕ) (r : Result Block FaultKind) → Lives S at n r → Decides (not_null r) (n ≢ 0) (n ≡ 0)
    is_alive at n (Err e) h = tt
    is_alive at n (Ok b) h = let low = live_word at b n h in (λ e. omega arith)

    pub pointer_true_ok : (p : Value) (n : ℕ) → Points S made p n → Decides (is_true m p) (n ≢ 0) (n ≡ 0)
    pointer_true_ok (v.Integer x) n h = absurd h
    pointer_true_ok v.Null n h = h
    pointer_true_ok (v.Pointer at) n h = is_alive at n _ (living at n h)
