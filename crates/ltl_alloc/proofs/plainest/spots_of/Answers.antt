use Rattle.std.proofs.Common.{◌≡◌, ℕ, ◌+◌, ◌<◌, ◌≤◌, ◌⊎◌, inl, inr, List, [], ◌∷◌, length, get_or, Bool, true, false, Some, slice_get, sym, ap, ◌∙◌, subst, arith, add-one, length-append}
use Rattle.std.proofs.lemmas.Option.{slice_get_past}
use Rattle.std.proofs.lemmas.List.{get_or_past}
use Rattle.ltl_alloc.specs.Allocations.{spot_or_none}
use Rattle.ltl_alloc.specs.OneCell.{cell_of_one, cells_below, spot_for, one_cell}
use Rattle.ltl_alloc.specs.Code.Spots.{is_marked}
use Rattle.ltl_alloc.proofs.Lists.{pushed}
use Rattle.ltl_alloc.proofs.Marks.{cells_few, cell_from, no_cell_below}
use Rattle.ltl_alloc.proofs.plainest.spots_of.Goals as goal
use Rattle.ltl_alloc.proofs.plainest.spots_of.Goals.{then-named+then-v-ge12, else-named, else-named-via-then-named+else-v-ge12, else-named-via-else-named}

pub overflow_add-cells : goal.overflow_add-cells
overflow_add-cells c =
    let few = cells_few (is_marked c.args.marks.now) c.loop-v.v in
    let count = c.loop-v.invariant.count in
    let lt = c.loop-v-test.true in
    let small = c.requires in
    let high = c.if-v-ge12.true in
    omega (arith, few, count, lt, small, high)

-- the count goes on
counts : (marks : List Bool) (v cells cells' : ℕ) (b : Bool) → get_or marks v false ≡ b → cells ≡ cells_below (is_marked marks) v → cells' ≡ cells + cell_of_one b v → cells' ≡ cells_below (is_marked marks) (v + 1)
counts marks v cells cells' b is count next =
    next ∙ ap (λ k. k + cell_of_one b v) count ∙ ap (λ t. cells_below (is_marked marks) v + cell_of_one t v) (sym is) ∙ ap (cells_below (is_marked marks)) (sym (add-one v))

pub loop-v-preserved : goal.loop-v-preserved
loop-v-preserved c =
    let marks : List Bool = c.args.marks.now in
    let v : ℕ = c.loop-v.v in
    record {
      long = ap length c.in_ok-push.ensures.added ∙ length-append c.loop-v.spots (c.next_spot.result ∷ []) ∙ ap (λ n. n + 1) c.loop-v.invariant.long;
      count =
          elim c.if-named.branch [
            | then-named+then-v-ge12 w ↦ counts c.args.marks.now c.loop-v.v c.loop-v.cells c.if-named.cells true w.if-named.true c.loop-v.invariant.count (w.cells-is ∙ ap (λ k. c.loop-v.cells + k) (sym (cell_from c.loop-v.v w.if-v-ge12.true)))
            | else-named w ↦
                elim w.else-named.branch [
                  | else-named-via-then-named+else-v-ge12 w' ↦
                      counts c.args.marks.now c.loop-v.v c.loop-v.cells c.if-named.cells true w'.if-named.true c.loop-v.invariant.count
                      (w.cells-is ∙ (let none = no_cell_below true c.loop-v.v w'.if-v-ge12.false in let e : c.loop-v.cells ≡ c.loop-v.cells + cell_of_one true c.loop-v.v = omega (arith, none) in e))
                  | else-named-via-else-named w' ↦ counts c.args.marks.now c.loop-v.v c.loop-v.cells c.if-named.cells false w'.if-named.false c.loop-v.invariant.count (w.cells-is ∙ (let e : c.loop-v.cells ≡ c.loop-v.cells + 0 = omega arith in e))
                ]
          ];
      each = λ w lt. subst (λ xs. slice_get xs w ≡ Some (one_cell (is_marked c.args.marks.now) w)) (sym c.in_ok-push.ensures.added)
          (pushed (one_cell (is_marked c.args.marks.now)) c.loop-v.spots c.next_spot.result c.loop-v.v c.loop-v.invariant.long c.loop-v.invariant.each
          (c.next_spot.ensures ∙ ap (spot_for (is_marked c.args.marks.now c.loop-v.v) c.loop-v.v) c.loop-v.invariant.count) w lt);
    }

low_or_past : (v k : ℕ) → (v < k) ⊎ (k ≤ v)
low_or_past v k = grind arith

pub returns-clause-spots : goal.returns-clause-spots
returns-clause-spots c v = by_place (low_or_past v c.loop-v.v)
  where
    by_place : (v < c.loop-v.v) ⊎ (c.loop-v.v ≤ v) → spot_or_none (slice_get c.loop-v.spots v) ≡ one_cell (is_marked c.args.marks.now) v
    by_place (inl lt) = ap spot_or_none (c.loop-v.invariant.each v lt)
    by_place (inr past) =
        let long = c.loop-v.invariant.long in
        let end = c.loop-v-test.false in
        let over : length c.loop-v.spots ≤ v = omega (arith, long, past) in
        let beyond : length c.args.marks.now ≤ v = omega (arith, end, past) in
        let none : is_marked c.args.marks.now v ≡ false = get_or_past c.args.marks.now v false beyond in
        ap spot_or_none (slice_get_past c.loop-v.spots v over) ∙ ap (λ b. spot_for b v (cells_below (is_marked c.args.marks.now) v)) (sym none)
