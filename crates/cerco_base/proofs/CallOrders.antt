-- A list in the order of calls stays one when a function is put behind its callers.
use Rattle.std.proofs.Common.{◌≡◌, ℕ, ◌+◌, ◌<◌, ◌≤◌, List, [], ◌∷◌, ◌++◌, length, map, take, get_or, refl, ap, sym, ◌∙◌, arith, below_more, length-append, false, cond, Result, Ok, Err, is_ok, is_err}
use Rattle.std.specs.Prelude.{All, Contains}
use Rattle.std.proofs.lemmas.List.{map-append, take-append-le, length-map, get_or_append_left, get_or-map}
use Rattle.std.proofs.Math.Seq.{get_or-append_seam, take-append_seam}
use Rattle.cerco_base.specs.declared.call_order.Entry.{Entry}
use Rattle.cerco_base.specs.CallOrder.{Called, functions_of, callers_at, IsCallOrder}
use Rattle.cerco_base.specs.Code.CallOrderView.{called, IsInOrder}

-- what holds of each place of a list and of the place behind it holds of the longer one's
each_place : (P : ℕ → Type 0) (l : List Called) (c : Called) → ((i : ℕ) → i < length l → P i) → P (length l) → (i : ℕ) → i < length (l ++ c ∷ []) → P i
each_place P l c below last i h =
    let at : i < length l + 1 = let e = length-append l (c ∷ []) in omega arith in
    below_more P (length l) below last i at

-- a list of what is told of each function, one longer: the place before the end, and the end
pub map_at : {X : Type 0} (f : Called → X) (l : List Called) (c : Called) (i : ℕ) (d : X) → i < length l → get_or (map f (l ++ c ∷ [])) i d ≡ get_or (map f l) i d
map_at f l c i d h =
    let within : i < length (map f l) = rw length-map h in
    rw map-append (get_or_append_left (map f l) (f c ∷ []) d i within)

pub map_at_end : {X : Type 0} (f : Called → X) (l : List Called) (c : Called) (d : X) → get_or (map f (l ++ c ∷ [])) (length l) d ≡ f c
map_at_end f l c d = rw (map-append, ← length-map l f) (get_or-append_seam (map f l) (f c) [] d)

pub functions-push : (l : List Called) (c : Called) → functions_of (l ++ c ∷ []) ≡ functions_of l ++ c.function ∷ []
functions-push l c = map-append (λ (d : Called). d.function) l (c ∷ [])

map_front : {X : Type 0} (f : Called → X) (l : List Called) (c : Called) (i : ℕ) → i ≤ length l → take i (map f (l ++ c ∷ [])) ≡ take i (map f l)
map_front f l c i h =
    let within : i ≤ length (map f l) = rw length-map h in
    rw map-append (take-append-le i (map f l) (f c ∷ []) within)

map_whole : {X : Type 0} (f : Called → X) (l : List Called) (c : Called) → take (length l) (map f (l ++ c ∷ [])) ≡ map f l
map_whole f l c = rw (map-append, ← length-map l f) (take-append_seam (map f l) (f c ∷ []))

pub order-push : (l : List Called) (c : Called) → IsCallOrder l → (Contains (functions_of l) c.function → ⊥) → All (Contains (functions_of l)) c.callers → IsCallOrder (l ++ c ∷ [])
order-push l c order new callers =
    let function : Called → ℕ = λ d. d.function in
    let lists : Called → List ℕ = λ d. d.callers in
    record {
      once =
          each_place (λ (i : ℕ). Contains (take i (functions_of (l ++ c ∷ []))) (get_or (functions_of (l ++ c ∷ [])) i 0) → ⊥) l c
          (λ i h. let le : i ≤ length l = omega arith in rw (map_front function l c i le, map_at function l c i 0 h) (order.once i h))
          (rw (map_whole function l c, map_at_end function l c 0) new);
      callers_before =
          each_place (λ (i : ℕ). All (Contains (take i (functions_of (l ++ c ∷ [])))) (callers_at (l ++ c ∷ []) i)) l c
          (λ i h. let le : i ≤ length l = omega arith in rw (map_front function l c i le, map_at lists l c i [] h) (order.callers_before i h))
          (rw (map_whole function l c, map_at_end lists l c []) callers);
    }

pub push : (functions : List ℕ) (entries : List Entry) (e : Entry) → IsInOrder functions (map called entries) → (Contains (functions_of (map called entries)) e.function → ⊥) → All (Contains (functions_of (map called entries))) e.callers.items → IsInOrder (functions ++ e.function ∷ []) (map called (entries ++ e ∷ []))
push functions entries e order new callers =
    record {
      numbers = rw (order.numbers, map-append called entries (e ∷ []), map-append (λ (d : Called). d.function) (map called entries) (called e ∷ [])) refl;
      order = rw (map-append called entries (e ∷ [])) (order-push (map called entries) (called e) order.order new callers);
    }

-- what a push did where it isn't an error
pub done : {T E X : Type 0} (r : Result T E) (now more old : X) → is_err r ≡ false → now ≡ cond (is_ok r) more old → now ≡ more
done (Ok x) now more old h e = e
done (Err x) now more old h e = cc

-- the callers of the entry at a place
pub callers-entry : (entries : List Entry) (i : ℕ) (e : Entry) → i < length entries → e ≡ get_or entries i e → e.callers.items ≡ callers_at (map called entries) i
callers-entry entries i e h is =
    let lists : Called → List ℕ = λ d. d.callers in
    let within : i < length (map called entries) = rw length-map h in
    let outer : get_or (map lists (map called entries)) i [] ≡ lists (get_or (map called entries) i (called e)) = get_or-map lists (map called entries) i (called e) [] within in
    let inner : get_or (map called entries) i (called e) ≡ called (get_or entries i e) = get_or-map called entries i e (called e) h in
    ap (λ (x : Entry). x.callers.items) is ∙ sym (outer ∙ ap lists inner)
