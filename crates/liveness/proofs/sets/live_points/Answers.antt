use Rattle.std.proofs.Common.{◌≡◌, ℕ, ◌↔◌, true, length, sym, ap, ◌∙◌, subst}
use Rattle.cerco_traces.specs.LabelledGraphs.{In}
use Rattle.liveness.specs.Code.Rows.{ways_of, AllBelow}
use Rattle.liveness.specs.Code.Reach.{Reached, AreSet}
use Rattle.liveness.specs.Code.Views.{storage_of, occurrences_of}
use Rattle.liveness.specs.Code.Points.{count}
use Rattle.liveness.proofs.LiveRows.{back_below, uses_below, stops_below, exact_points}
use Rattle.liveness.proofs.sets.live_points.Goals as goal

pub set_all-requires : goal.set_all-requires
set_all-requires c =
    let flow = c.args.flow.now in
    let has = c.requires.flow in
    subst (AllBelow c.of-stops.result.now) (sym c.requires.walls.long) (subst (λ r. AllBelow r (count flow.points)) (sym c.of-stops.ensures) (stops_below has.0 flow has.1 (storage_of c.args.storage)))

pub reach-requires-clause-seeds : goal.reach-requires-clause-seeds
reach-requires-clause-seeds c =
    let flow = c.args.flow.now in
    let has = c.requires.flow in
    let long : length c.deref.result.now ≡ count flow.points = ap length c.deref.ensures.value ∙ has.1.long in
    subst (AllBelow c.of-seeds.result.now) (sym long) (subst (λ r. AllBelow r (count flow.points)) (sym c.of-seeds.ensures) (uses_below has.0 flow has.1 (storage_of c.args.storage)))

pub reach-requires-clause-ways : goal.reach-requires-clause-ways
reach-requires-clause-ways c =
    let flow = c.args.flow.now in
    let has = c.requires.flow in
    subst (λ z. (i : ℕ) → AllBelow (ways_of z i) (length z)) (sym c.deref.ensures.value) (λ i. subst (AllBelow (ways_of flow.back.items i)) (sym has.1.long) (back_below has.0 flow has.1 i))

pub set_all-requires-2 : goal.set_all-requires-2
set_all-requires-2 c =
    let flow = c.args.flow.now in
    let has = c.requires.flow in
    subst (AllBelow c.of-stops.result.now) (sym (c.set_all.ensures.long ∙ c.requires.walls.long)) (subst (λ r. AllBelow r (count flow.points)) (sym c.of-stops.ensures) (stops_below has.0 flow has.1 (storage_of c.args.storage)))

pub returns-clause-exact : goal.returns-clause-exact
returns-clause-exact c =
    let flow = c.args.flow.now in
    let s = storage_of c.args.storage in
    let old = c.args.marks.now.walls.items in
    let walls = c.set_all.new.marks.items in
    let list = c.in_ok-list.list.items in
    let back = c.deref.result.now in
    let there = c.deref-2.result.now in
    let set : AreSet old (occurrences_of flow.stops s) true walls = subst (λ r. AreSet old r true walls) c.of-stops.ensures c.set_all.ensures in
    let seeded : (i : ℕ) → In i list ↔ Reached (occurrences_of flow.uses s) (ways_of back) there i = subst (λ r. (i : ℕ) → In i list ↔ Reached r (ways_of back) there i) c.of-seeds.ensures c.in_ok-list.ensures.exact in
    let turned : (i : ℕ) → In i list ↔ Reached (occurrences_of flow.uses s) (ways_of flow.back.items) there i = subst (λ b. (i : ℕ) → In i list ↔ Reached (occurrences_of flow.uses s) (ways_of b) there i) c.deref.ensures.value seeded in
    let exact : (i : ℕ) → In i list ↔ Reached (occurrences_of flow.uses s) (ways_of flow.back.items) walls i = subst (λ w. (i : ℕ) → In i list ↔ Reached (occurrences_of flow.uses s) (ways_of flow.back.items) w i) c.deref-2.ensures.value turned in
    λ g is i. exact_points g flow s old walls list is c.requires.walls set exact i

pub returns-clause-below : goal.returns-clause-below
returns-clause-below c =
    let has = c.requires.flow in
    subst (AllBelow c.in_ok-list.list.items) (ap length c.deref.ensures.value ∙ has.1.long) c.in_ok-list.ensures.below
