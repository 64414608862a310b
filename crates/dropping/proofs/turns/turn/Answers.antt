use Rattle.std.proofs.Common.{◌≡◌, ℕ, ◌<◌, ◌↔◌, true, length, sym, ap, ◌∙◌, subst}
use Rattle.cerco_traces.specs.LabelledGraphs.{In}
use Rattle.liveness.specs.Code.Rows.{ways_of, AllBelow}
use Rattle.liveness.specs.Code.Reach.{Reached, AreSet}
use Rattle.liveness.specs.Code.Views.{storage_of, occurrences_of}
use Rattle.liveness.specs.Code.Points.{count}
use Rattle.liveness.proofs.LiveRows.{back_below, uses_below, stops_below}
use Rattle.dropping.specs.Code.Marks.{AreMarkedBefore}
use Rattle.dropping.proofs.Growing.{AreKept}
use Rattle.dropping.proofs.Rounds.{turn_of}
use Rattle.dropping.proofs.turns.turn.Goals as goal

pub set_all-requires : goal.set_all-requires
set_all-requires c =
    let flow = c.args.flow.now in
    let has = c.requires.flow in
    subst (AllBelow c.of-stops.result.now) (sym c.requires.walls.long) (subst (λ r. AllBelow r (count flow.points)) (sym c.of-stops.ensures) (stops_below has.0 flow has.1 (storage_of c.args.storage)))

pub reach-requires-clause-seeds : goal.reach-requires-clause-seeds
reach-requires-clause-seeds c =
    let flow = c.args.flow.now in
    let has = c.requires.flow in
    let long : length c.deref-2.result.now ≡ count flow.points = ap length c.deref-2.ensures.value ∙ has.1.long in
    λ x h.
    let used = (c.in_ok-seeds.ensures x).0 (subst (In x) c.deref-3.ensures.value h) in
    subst (λ n. x < n) (sym long) (uses_below has.0 flow has.1 (storage_of c.args.storage) x (subst (In x) c.of.ensures used.0))

pub reach-requires-clause-ways : goal.reach-requires-clause-ways
reach-requires-clause-ways c =
    let flow = c.args.flow.now in
    let has = c.requires.flow in
    subst (λ z. (i : ℕ) → AllBelow (ways_of z i) (length z)) (sym c.deref-2.ensures.value) (λ i. subst (AllBelow (ways_of flow.back.items i)) (sym has.1.long) (back_below has.0 flow has.1 i))

pub mark_before_each-requires-clause-within : goal.mark_before_each-requires-clause-within
mark_before_each-requires-clause-within c =
    let has = c.requires.flow in
    subst (λ r. AllBelow r (count c.args.flow.now.points)) (sym c.deref-6.ensures.value) (subst (AllBelow c.in_ok-list.list.items) (ap length c.deref-2.ensures.value ∙ has.1.long) c.in_ok-list.ensures.below)

pub set_all-requires-2 : goal.set_all-requires-2
set_all-requires-2 c =
    let flow = c.args.flow.now in
    let has = c.requires.flow in
    subst (AllBelow c.of-stops.result.now) (sym (c.set_all.ensures.long ∙ c.requires.walls.long)) (subst (λ r. AllBelow r (count flow.points)) (sym c.of-stops.ensures) (stops_below has.0 flow has.1 (storage_of c.args.storage)))

pub returns-clause-turn : goal.returns-clause-turn
returns-clause-turn c =
    let flow = c.args.flow.now in
    let s = storage_of c.args.storage in
    let m = c.args.needed.now.marks.items in
    let unset = c.args.scratch.now.walls.items in
    let walls = c.set_all.new.marks.items in
    let seeds = c.in_ok-seeds.seeds.items in
    let list = c.in_ok-list.list.items in
    let new = c.mark_before_each.new.needed.marks.items in
    let back = c.deref-2.result.now in
    let set : AreSet unset (occurrences_of flow.stops s) true walls = subst (λ r. AreSet unset r true walls) c.of-stops.ensures c.set_all.ensures in
    let kept : AreKept m (occurrences_of flow.uses s) seeds = subst (λ r. AreKept m r seeds) c.of.ensures (subst (λ z. AreKept z c.of.result.now seeds) c.deref.ensures.value c.in_ok-seeds.ensures) in
    let seeded : (i : ℕ) → In i list ↔ Reached seeds (ways_of back) c.deref-4.result.now i = subst (λ r. (i : ℕ) → In i list ↔ Reached r (ways_of back) c.deref-4.result.now i) c.deref-3.ensures.value c.in_ok-list.ensures.exact in
    let turned : (i : ℕ) → In i list ↔ Reached seeds (ways_of flow.back.items) c.deref-4.result.now i = subst (λ b. (i : ℕ) → In i list ↔ Reached seeds (ways_of b) c.deref-4.result.now i) c.deref-2.ensures.value seeded in
    let search : (i : ℕ) → In i list ↔ Reached seeds (ways_of flow.back.items) walls i = subst (λ w. (i : ℕ) → In i list ↔ Reached seeds (ways_of flow.back.items) w i) c.deref-4.ensures.value turned in
    let before : AreMarkedBefore flow.points walls (λ k. In k list) m new =
    subst (λ r. AreMarkedBefore flow.points walls (λ k. In k r) m new) c.deref-6.ensures.value (subst (λ w. AreMarkedBefore flow.points w (λ k. In k c.deref-6.result.now) m new) c.deref-5.ensures.value c.mark_before_each.ensures.marks) in
    λ g is exits. turn_of g flow is s m unset walls seeds list new exits c.requires.walls set kept search before
