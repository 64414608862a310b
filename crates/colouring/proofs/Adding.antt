-- One more pair, and pairs one after the other.
use Rattle.std.proofs.Common.{◌≡◌, ◌≢◌, ℕ, zero, suc, ◌+◌, ◌<◌, ◌⊎◌, ◌↔◌, inl, inr, List, [], ◌∷◌, ◌++◌, length, map, take, get_or, Some, slice_get, slice_set, refl, sym, ap, ◌∙◌, subst, arith, add-one, take-suc}
use Rattle.std.proofs.lemmas.List.{map-append, length-set}
use Rattle.std.proofs.lemmas.List.{get_or_read}
use Rattle.std.proofs.lemmas.Option.{slice_get-map}
use Rattle.std.specs.Option.{option_map}
use Rattle.cerco_traces.specs.LabelledGraphs.{In}
use Rattle.rtl.specs.declared.locations.Vreg.{Vreg}
use Rattle.rtl.specs.declared.live_sets.LivePoint.{LivePoint}
use Rattle.rtl.specs.Operations.{ByteOp}
use Rattle.rtl.specs.LiveSets.{nothing_live}
use Rattle.colouring.specs.declared.greedy.Row.{Row}
use Rattle.colouring.specs.Code.Rows.{near_in, near_of}
use Rattle.colouring.specs.Code.Neighbours.{AreListed, HasAdded, HasMore, Between, numbers, live_at, AtOperation, AtOperations, written_by}
use Rattle.colouring.proofs.Members.{in_front, in_back, in_either, same_or_not}

-- ---- one more in a row

get_set_here : (rows : List Row) (v : ℕ) (r : Row) → v < length rows → slice_get (slice_set rows v r) v ≡ Some r
get_set_here [] v r lt = absurd (omega (arith, lt))
get_set_here (x ∷ xs) zero r lt = refl
get_set_here (x ∷ xs) (suc v) r lt = get_set_here xs v r (omega (arith, lt))

get_set_elsewhere : (rows : List Row) (v x : ℕ) (r : Row) → x ≢ v → slice_get (slice_set rows v r) x ≡ slice_get rows x
get_set_elsewhere [] v x r ne = refl
get_set_elsewhere (y ∷ ys) zero zero r ne = absurd (ne refl)
get_set_elsewhere (y ∷ ys) zero (suc x) r ne = refl
get_set_elsewhere (y ∷ ys) (suc v) zero r ne = refl
get_set_elsewhere (y ∷ ys) (suc v) (suc x) r ne = get_set_elsewhere ys v x r (λ e. ne (ap suc e))

pub has_more : (rows : List Row) (v w : ℕ) (old new : Row) → v < length rows → slice_get rows v ≡ Some old → new.near.items ≡ old.near.items ++ w ∷ [] → HasMore v w rows (slice_set rows v new)
has_more rows v w old new lt found pushed = record {
  long = length-set rows v new;
  here = ap near_in (get_set_here rows v new lt) ∙ pushed ∙ ap (λ z. near_in z ++ w ∷ []) (sym found);
  elsewhere = λ x ne. ap near_in (get_set_elsewhere rows v x new ne);
}

-- ---- pairs

module _ (P : ℕ → ℕ → Type 0) (v w : ℕ) (lt : w < v) (this : P v w ⊎ P w v) (alone : (x y : ℕ) → P x y → ((x ≡ v) × (y ≡ w)) ⊎ ((x ≡ w) × (y ≡ v))) (old new : List Row) (more : HasMore v w old new) where
  -- one pair
  pub more_adds : HasAdded P old new
  more_adds = record {
    long = more.long;
    kept = λ x y i. kept x y i (same_or_not x v);
    only = λ x y i. only x y i (same_or_not x v);
    every = λ x y p ne. every x y (alone x y p);
  }
    where
      kept : (x y : ℕ) → In y (near_of old x) → (x ≡ v) ⊎ (x ≢ v) → In y (near_of new x)
      kept x y i (inl e) = subst (λ u. In y (near_of new u)) (sym e) (subst (In y) (sym more.here) (in_front y (near_of old v) (w ∷ []) (subst (λ u. In y (near_of old u)) e i)))
      kept x y i (inr ne) = subst (In y) (sym (more.elsewhere x ne)) i

      this_one : (x y : ℕ) → x ≡ v → In y (near_of old v) ⊎ In y (w ∷ []) → In y (near_of old x) ⊎ ((y < x) × (P x y ⊎ P y x))
      this_one x y e (inl i) = inl (subst (λ u. In y (near_of old u)) (sym e) i)
      this_one x y e (inr (inl f)) = inr (subst (λ u. (y < u) × (P u y ⊎ P y u)) (sym e) (subst (λ u. (u < v) × (P v u ⊎ P u v)) f (lt, this)))
      this_one x y e (inr (inr none)) = absurd none

      only : (x y : ℕ) → In y (near_of new x) → (x ≡ v) ⊎ (x ≢ v) → In y (near_of old x) ⊎ ((y < x) × (P x y ⊎ P y x))
      only x y i (inl e) = this_one x y e (in_either y (near_of old v) (w ∷ []) (subst (In y) more.here (subst (λ u. In y (near_of new u)) e i)))
      only x y i (inr ne) = inl (subst (In y) (more.elsewhere x ne) i)

      there : In w (near_of new v)
      there = subst (In w) (sym more.here) (in_back w (near_of old v) (w ∷ []) (inl refl))

      every : (x y : ℕ) → ((x ≡ v) × (y ≡ w)) ⊎ ((x ≡ w) × (y ≡ v)) → AreListed new x y
      every x y (inl h) = inl (subst (λ u. In y (near_of new u)) (sym h.0) (subst (λ u. In u (near_of new v)) (sym h.1) there))
      every x y (inr h) = inr (subst (λ u. In x (near_of new u)) (sym h.1) (subst (λ u. In u (near_of new v)) (sym h.0) there))

-- no pair of two different ones
pub none_adds : (P : ℕ → ℕ → Type 0) (rows : List Row) → ((x y : ℕ) → P x y → x ≡ y) → HasAdded P rows rows
none_adds P rows same = record { long = refl; kept = λ v w i. i; only = λ v w i. inl i; every = λ v w p ne. absurd (ne (same v w p)) }

pub adds_as : (P Q : ℕ → ℕ → Type 0) (old new : List Row) → ((v w : ℕ) → P v w ↔ Q v w) → HasAdded P old new → HasAdded Q old new
adds_as P Q old new same a = record {
  long = a.long;
  kept = a.kept;
  only = λ v w i. only v w (a.only v w i);
  every = λ v w q ne. a.every v w ((same v w).1 q) ne;
}
  where
    other : (v w : ℕ) → P v w ⊎ P w v → Q v w ⊎ Q w v
    other v w (inl p) = inl ((same v w).0 p)
    other v w (inr p) = inr ((same w v).0 p)

    only : (v w : ℕ) → In w (near_of old v) ⊎ ((w < v) × (P v w ⊎ P w v)) → In w (near_of old v) ⊎ ((w < v) × (Q v w ⊎ Q w v))
    only v w (inl i) = inl i
    only v w (inr h) = inr (h.0, other v w h.1)

pub adds_both : (P Q : ℕ → ℕ → Type 0) (old mid new : List Row) → HasAdded P old mid → HasAdded Q mid new → HasAdded (λ v w. P v w ⊎ Q v w) old new
adds_both P Q old mid new a b = record {
  long = b.long ∙ a.long;
  kept = λ v w i. b.kept v w (a.kept v w i);
  only = λ v w i. second v w (b.only v w i);
  every = λ v w h ne. every v w ne h;
}
  where
    left : (v w : ℕ) → P v w ⊎ P w v → (P v w ⊎ Q v w) ⊎ (P w v ⊎ Q w v)
    left v w (inl p) = inl (inl p)
    left v w (inr p) = inr (inl p)

    right : (v w : ℕ) → Q v w ⊎ Q w v → (P v w ⊎ Q v w) ⊎ (P w v ⊎ Q w v)
    right v w (inl q) = inl (inr q)
    right v w (inr q) = inr (inr q)

    first : (v w : ℕ) → In w (near_of old v) ⊎ ((w < v) × (P v w ⊎ P w v)) → In w (near_of old v) ⊎ ((w < v) × ((P v w ⊎ Q v w) ⊎ (P w v ⊎ Q w v)))
    first v w (inl i) = inl i
    first v w (inr h) = inr (h.0, left v w h.1)

    second : (v w : ℕ) → In w (near_of mid v) ⊎ ((w < v) × (Q v w ⊎ Q w v)) → In w (near_of old v) ⊎ ((w < v) × ((P v w ⊎ Q v w) ⊎ (P w v ⊎ Q w v)))
    second v w (inl i) = first v w (a.only v w i)
    second v w (inr h) = inr (h.0, right v w h.1)

    still : (v w : ℕ) → AreListed mid v w → AreListed new v w
    still v w (inl i) = inl (b.kept v w i)
    still v w (inr i) = inr (b.kept w v i)

    every : (v w : ℕ) → v ≢ w → P v w ⊎ Q v w → AreListed new v w
    every v w ne (inl p) = still v w (a.every v w p ne)
    every v w ne (inr q) = b.every v w q ne

-- ---- loops

pub numbers_more : (vs : List Vreg) (i : ℕ) (d : Vreg) → i < length vs → numbers (take (i + 1) vs) ≡ numbers (take i vs) ++ (get_or vs i d).0 ∷ []
numbers_more vs i d lt = ap (λ k. numbers (take k vs)) (add-one i) ∙ ap numbers (take-suc vs i d lt) ∙ map-append (λ (v : Vreg). v.0) (take i vs) (get_or vs i d ∷ [])

-- each of these with one more
pub with_more : (xs ys ys' zs : List ℕ) (old mid new : List Row) → zs ≡ ys ++ ys' → HasAdded (Between xs ys) old mid → HasAdded (Between xs ys') mid new → HasAdded (Between xs zs) old new
with_more xs ys ys' zs old mid new e a b =
    subst (λ z. HasAdded (Between xs z) old new) (sym e) (adds_as (λ v w. Between xs ys v w ⊎ Between xs ys' v w) (Between xs (ys ++ ys')) old new (λ v w. (join v w, λ h. split v w h (in_either w ys ys' h.1))) (adds_both (Between xs ys) (Between xs ys') old mid new a b))
  where
    join : (v w : ℕ) → Between xs ys v w ⊎ Between xs ys' v w → Between xs (ys ++ ys') v w
    join v w (inl h) = (h.0, in_front w ys ys' h.1)
    join v w (inr h) = (h.0, in_back w ys ys' h.1)

    split : (v w : ℕ) → Between xs (ys ++ ys') v w → In w ys ⊎ In w ys' → Between xs ys v w ⊎ Between xs ys' v w
    split v w h (inl i) = inl (h.0, i)
    split v w h (inr i) = inr (h.0, i)

-- one more with each of these
pub more_with : (xs xs' zs ys : List ℕ) (old mid new : List Row) → zs ≡ xs ++ xs' → HasAdded (Between xs ys) old mid → HasAdded (Between xs' ys) mid new → HasAdded (Between zs ys) old new
more_with xs xs' zs ys old mid new e a b =
    subst (λ z. HasAdded (Between z ys) old new) (sym e) (adds_as (λ v w. Between xs ys v w ⊎ Between xs' ys v w) (Between (xs ++ xs') ys) old new (λ v w. (join v w, λ h. split v w h (in_either v xs xs' h.0))) (adds_both (Between xs ys) (Between xs' ys) old mid new a b))
  where
    join : (v w : ℕ) → Between xs ys v w ⊎ Between xs' ys v w → Between (xs ++ xs') ys v w
    join v w (inl h) = (in_front v xs xs' h.0, h.1)
    join v w (inr h) = (in_back v xs xs' h.0, h.1)

    split : (v w : ℕ) → Between (xs ++ xs') ys v w → In v xs ⊎ In v xs' → Between xs ys v w ⊎ Between xs' ys v w
    split v w h (inl i) = inl (i, h.1)
    split v w h (inr i) = inr (i, h.1)

-- one pair of two lists of one
pub pair_adds : (v w x y : ℕ) → ((x ≡ v) × (y ≡ w)) ⊎ ((x ≡ w) × (y ≡ v)) → y < x → (old new : List Row) → HasMore x y old new → HasAdded (Between (v ∷ []) (w ∷ [])) old new
pair_adds v w x y which lt old new more = more_adds (Between (v ∷ []) (w ∷ [])) x y lt (this which) (λ a b h. alone a b h which) old new more
  where
    this : ((x ≡ v) × (y ≡ w)) ⊎ ((x ≡ w) × (y ≡ v)) → Between (v ∷ []) (w ∷ []) x y ⊎ Between (v ∷ []) (w ∷ []) y x
    this (inl h) = inl (inl (sym h.0), inl (sym h.1))
    this (inr h) = inr (inl (sym h.1), inl (sym h.0))

    one : (a b : ℕ) → In a (b ∷ []) → a ≡ b
    one a b (inl e) = sym e
    one a b (inr i) = absurd i

    alone : (a b : ℕ) → Between (v ∷ []) (w ∷ []) a b → ((x ≡ v) × (y ≡ w)) ⊎ ((x ≡ w) × (y ≡ v)) → ((a ≡ x) × (b ≡ y)) ⊎ ((a ≡ y) × (b ≡ x))
    alone a b h (inl e) = inl (one a v h.0 ∙ sym e.0, one b w h.1 ∙ sym e.1)
    alone a b h (inr e) = inr (one a v h.0 ∙ sym e.1, one b w h.1 ∙ sym e.0)

pub same_adds : (v w : ℕ) (rows : List Row) → v ≡ w → HasAdded (Between (v ∷ []) (w ∷ [])) rows rows
same_adds v w rows e = none_adds (Between (v ∷ []) (w ∷ [])) rows (λ a b h. one a v h.0 ∙ e ∙ sym (one b w h.1))
  where
    one : (a b : ℕ) → In a (b ∷ []) → a ≡ b
    one a b (inl e) = sym e
    one a b (inr i) = absurd i

-- nothing yet
pub no_firsts : (ys : List ℕ) (rows : List Row) → HasAdded (Between [] ys) rows rows
no_firsts ys rows = none_adds (Between [] ys) rows (λ a b h. absurd h.0)

pub no_seconds : (xs : List ℕ) (rows : List Row) → HasAdded (Between xs []) rows rows
no_seconds xs rows = none_adds (Between xs []) rows (λ a b h. absurd h.1)

-- one more operation
pub operation_more :
    (ops : List (ByteOp Vreg)) (points : List LivePoint) (k : ℕ) (op : ByteOp Vreg) (old mid new : List Row) → slice_get ops k ≡ Some op → HasAdded (AtOperations ops points k) old mid → HasAdded (AtOperation op (live_at points (suc k))) mid new → HasAdded (AtOperations ops points (k + 1)) old new
operation_more ops points k op old mid new found a b =
    adds_as (λ v w. AtOperations ops points k v w ⊎ AtOperation op (live_at points (suc k)) v w) (AtOperations ops points (k + 1)) old new (λ v w. (join v w, λ h. split v w h (before_or_at h.0 h.2))) (adds_both (AtOperations ops points k) (AtOperation op (live_at points (suc k))) old mid new a b)
  where
    before_or_at : (j : ℕ) → j < k + 1 → (j < k) ⊎ (j ≡ k)
    before_or_at j lt = grind arith

    join : (v w : ℕ) → AtOperations ops points k v w ⊎ AtOperation op (live_at points (suc k)) v w → AtOperations ops points (k + 1) v w
    join v w (inl h) = let lt = h.2 in (h.0, h.1, omega (arith, lt), h.3, h.4)
    join v w (inr h) = (k, op, omega arith, found, h)

    same : (x y : ByteOp Vreg) → Some x ≡ Some y → x ≡ y
    same x y e = cc

    split : (v w : ℕ) (h : AtOperations ops points (k + 1) v w) → (h.0 < k) ⊎ (h.0 ≡ k) → AtOperations ops points k v w ⊎ AtOperation op (live_at points (suc k)) v w
    split v w h (inl lt) = inl (h.0, h.1, lt, h.3, h.4)
    split v w h (inr e) =
        let this : h.1 ≡ op = same h.1 op (sym h.3 ∙ ap (slice_get ops) e ∙ found) in
        inr (subst (λ o. AtOperation o (live_at points (suc k)) v w) this (subst (λ j. AtOperation h.1 (live_at points (suc j)) v w) e h.4))

pub no_operations : (ops : List (ByteOp Vreg)) (points : List LivePoint) (rows : List Row) → HasAdded (AtOperations ops points 0) rows rows
no_operations ops points rows = none_adds (AtOperations ops points 0) rows (λ a b h. (let none = h.2 in absurd (omega (arith, none))))

-- what is written by an operation, with what is live after it and with itself
pub operation_adds :
    (op : ByteOp Vreg) (after : List ℕ) (w w' w'' : List Vreg) (old mid new : List Row) → w ≡ written_by op → w' ≡ written_by op → w'' ≡ written_by op → HasAdded (Between (numbers w) after) old mid → HasAdded (Between (numbers w') (numbers w'')) mid new
    → HasAdded (AtOperation op after) old new
operation_adds op after w w' w'' old mid new e e' e'' a b =
    adds_both (Between (numbers (written_by op)) after) (Between (numbers (written_by op)) (numbers (written_by op))) old mid new (subst (λ z. HasAdded (Between (numbers z) after) old mid) e a)
    (subst (λ z. HasAdded (Between (numbers z) (numbers (written_by op))) mid new) e' (subst (λ z. HasAdded (Between (numbers w') (numbers z)) mid new) e'' b))

-- ---- items that are read

pub viewed : {A B : Type 0} (f : A → B) (xs : List A) (k : ℕ) (x : A) → slice_get xs k ≡ Some x → slice_get (map f xs) k ≡ Some (f x)
viewed f xs k x found = slice_get-map f xs k ∙ ap (option_map f) found

pub point_read : (points : List LivePoint) (k : ℕ) (point : LivePoint) (vs : List Vreg) → k + 1 < length points → point ≡ get_or points (k + 1) point → vs ≡ (get_or points (k + 1) point).vregs → vs ≡ (get_or points (suc k) nothing_live).vregs
point_read points k point vs lt is shown =
    shown ∙ ap (λ (z : LivePoint). z.vregs) (sym is ∙ get_or_read points (k + 1) point lt is nothing_live) ∙ ap (λ j. (get_or points j nothing_live).vregs) (add-one k)
