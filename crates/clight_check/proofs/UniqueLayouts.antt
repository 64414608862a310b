-- A typed tree has one layout but for the order of its calls, or one first reason against it.
use Rattle.std.proofs.Common.{◌≡◌, ℕ, ◌+◌, ◌<◌, ◌≤◌, ◌⊎◌, inl, inr, List, [], ◌++◌, ◌∷◌, length, get_or, refl, sym, ap, subst, ◌∙◌, arith}
use Rattle.std.specs.Prelude.{slice_get}
use Rattle.std.proofs.lemmas.Bool.{cases_lt}
use Rattle.std.proofs.lemmas.List.{ext_get_or}
use Rattle.cerco_base.specs.declared.reasons.Reason.{Reason}
use Rattle.cerco_base.specs.declared.reasons.Reason.TheVariants as r
use Rattle.call_graph.specs.CallPaths.{IsCallPath, IsFirstOnCycle, IsLargestSum, IsLargestSumBefore, sum_along}
use Rattle.clight_syntax.specs.TypedTrees.{TypedProgram}
use Rattle.clight_layout.specs.Layout.{IsTotal, IsStart, IsLayout, laid_out}
use Rattle.clight_layout.specs.Reasons.{IsReason, defined_at}
use Rattle.clight_check.specs.Laws.{without_order}

sum-le : (functions : ℕ) (calls : ℕ → ℕ → Type 0) (sizes : List ℕ) (n m : ℕ) → IsLargestSum functions calls sizes n → IsLargestSum functions calls sizes m → n ≤ m
sum-le functions calls sizes n m x y =
    elim x.some.1 [
      | inl way ↦ let le = y.most x.some.0 way in let e = x.some.2 in omega arith
      | inr none ↦ let e : 0 ≡ n = sym (ap (sum_along sizes) none) ∙ x.some.2 in omega arith
    ]

pub one_sum : (functions : ℕ) (calls : ℕ → ℕ → Type 0) (sizes : List ℕ) (n m : ℕ) → IsLargestSum functions calls sizes n → IsLargestSum functions calls sizes m → n ≡ m
one_sum functions calls sizes n m x y =
    let up = sum-le functions calls sizes n m x y in
    let down = sum-le functions calls sizes m n y x in
    omega arith

pub one_sum_before : (functions : ℕ) (calls : ℕ → ℕ → Type 0) (sizes : List ℕ) (f n m : ℕ) → IsLargestSumBefore functions calls sizes f n → IsLargestSumBefore functions calls sizes f m → n ≡ m
one_sum_before functions calls sizes f n m x y =
    let up = y.most x.some.0 x.some.1 in
    let down = x.most y.some.0 y.some.1 in
    let e = x.some.2 in
    let d = y.some.2 in
    omega arith

one_first : (functions : ℕ) (calls : ℕ → ℕ → Type 0) (f g : ℕ) → IsFirstOnCycle functions calls f → IsFirstOnCycle functions calls g → f ≡ g
one_first functions calls f g x y =
    elim (cases_lt f g) [
      | inl less ↦ absurd (y.first f less x.cycle)
      | inr le ↦
          elim (cases_lt g f) [
            | inl more ↦ absurd (x.first g more y.cycle)
            | inr ge ↦ let e : f ≡ g = omega arith in e
          ]
    ]

one_total : {L : Type 0} (p : TypedProgram L) (n m : ℕ) → IsTotal p n → IsTotal p m → n ≡ m
one_total p n m x y =
    let e = one_sum _ _ _ x.largest y.largest x.is_largest y.is_largest in
    let a = x.is in
    let b = y.is in
    omega arith

one_start : {L : Type 0} (p : TypedProgram L) (f n m : ℕ) → IsStart p f n → IsStart p f m → n ≡ m
one_start p f n m x y =
    let e = one_sum_before _ _ _ f x.before y.before x.is_largest y.is_largest in
    let a = x.is in
    let b = y.is in
    omega arith

one_frames : {L : Type 0} (p t u : TypedProgram L) → IsLayout p t → IsLayout p u → t.frames ≡ u.frames
one_frames p t u x y =
    ext_get_or 0 t.frames u.frames (x.count ∙ sym y.count)
    (λ f h. one_start p f (get_or t.frames f 0) (get_or u.frames f 0) (x.starts f (subst (λ n. f < n) x.count h)) (y.starts f (subst (λ n. f < n) x.count h)))

pub one_layout : (p t u : TypedProgram (Unit {0})) → IsLayout p t → IsLayout p u → without_order t ≡ without_order u
one_layout p t u x y =
    ap without_order x.program
    ∙ ap (λ frames. without_order (laid_out p frames t.data_bytes [])) (one_frames p t u x y)
    ∙ ap (λ bytes. without_order (laid_out p u.frames bytes [])) (one_total p t.data_bytes u.data_bytes x.total y.total)
    ∙ sym (ap without_order y.program)

pub laid_out_or_refused : {L : Type 0} (p t : TypedProgram L) (reason : Reason) → IsLayout p t → IsReason p reason → ⊥
laid_out_or_refused p t (r.Recursion at) x (f, first, is) = x.no_cycle f first.cycle
laid_out_or_refused p t (r.StackFull depth) x (none, is, more) =
    let e = one_sum _ _ _ x.depth.0 depth x.depth.1 is in
    let le = x.depth.2 in
    omega arith
laid_out_or_refused p t (r.DataFull total) x (none, fits, is, more) =
    let e = one_total p t.data_bytes total x.total is in
    let le = x.fits in
    omega arith
laid_out_or_refused p t reason x h = absurd h

pub one_reason : {L : Type 0} (p : TypedProgram L) (a b : Reason) → IsReason p a → IsReason p b → a ≡ b
one_reason p (r.Recursion i) (r.Recursion j) (f, first, is) (g, second, also) =
    ap r.Recursion (is ∙ ap (λ n. defined_at (slice_get p.functions n)) (one_first _ _ f g first second) ∙ sym also)
one_reason p (r.Recursion i) (r.StackFull m) (f, first, is) (none, also, larger) = absurd (none f first.cycle)
one_reason p (r.Recursion i) (r.DataFull m) (f, first, is) (none, fits, also, larger) = absurd (none f first.cycle)
one_reason p (r.Recursion i) b x y = absurd y
one_reason p (r.StackFull n) (r.Recursion j) (none, is, more) (g, second, also) = absurd (none g second.cycle)
one_reason p (r.StackFull n) (r.StackFull m) (none, is, more) (again, also, larger) = ap r.StackFull (one_sum _ _ _ n m is also)
one_reason p (r.StackFull n) (r.DataFull m) (none, is, more) (again, fits, also, larger) =
    let e = one_sum _ _ _ n fits.0 is fits.1 in
    let le = fits.2 in
    let never : ⊥ = omega arith in
    absurd never
one_reason p (r.StackFull n) b x y = absurd y
one_reason p (r.DataFull n) (r.Recursion j) (none, fits, is, more) (g, second, also) = absurd (none g second.cycle)
one_reason p (r.DataFull n) (r.StackFull m) (none, fits, is, more) (again, also, larger) =
    let e = one_sum _ _ _ m fits.0 also fits.1 in
    let le = fits.2 in
    let never : ⊥ = omega arith in
    absurd never
one_reason p (r.DataFull n) (r.DataFull m) (none, fits, is, more) (again, within, also, larger) = ap r.DataFull (one_total p n m is also)
one_reason p (r.DataFull n) b x y = absurd y
one_reason p a b x y = absurd x
