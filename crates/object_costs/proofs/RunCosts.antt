-- The object of a selection takes the cycles that its events cost.
use Rattle.std.proofs.Common.{◌≡◌, IsTrue, ℕ, suc, ◌+◌, ◌<◌, ◌≤◌, List, [], ◌∷◌, Bool, true, false, cond, Option, Some, None, Ok, refl, sym, ap, ◌∙◌, subst, arith, length, slice_get, slice_index, eqb-true}
use Rattle.std.specs.Prelude.{◌==◌, option_map}
use Rattle.std.specs.List.{position_from}
use Rattle.std.proofs.lemmas.Iterator.Adapters.{position_from-zero}
use Rattle.std.proofs.lemmas.Option.{slice_get_within, get_or_from_slice_get}
use Rattle.cerco_base.specs.declared.events.Label.{Label}
use Rattle.cerco_base.specs.declared.events.Event.{Event}
use Rattle.cerco_base.specs.Events.{label_count, Stop, Stopped, Ended, IsPrefix}
use Rattle.cerco_traces.specs.Systems.{System, Run, StopsAt, Arrives}
use Rattle.cerco_traces.specs.Preservation.{Outcome, Stops, Faults, Source, Meets, PreservesSource}
use Rattle.cerco_traces.specs.Headline.{after, ArrivesWith, KeepsTo, Headline}
use Rattle.sim51.specs.Step.{label_at}
use Rattle.sim51.specs.Runs.{Running, object, cycles_of_run}
use Rattle.asm51.specs.declared.items.AsmItem.{AsmItem}
use Rattle.asm51.specs.declared.layouts.Form.{Form}
use Rattle.asm51.specs.declared.layouts.JumpLayout.{JumpLayout}
use Rattle.asm51.specs.Meaning.{AsmState, assembly}
use Rattle.asm51.specs.Layouts.{address}
use Rattle.asm51.specs.Emission.{code_of, labels_of}
use Rattle.asm51.specs.JumpLayouts.{IsLayoutOf}
use Rattle.asm51.specs.Selected.{AreSelected}
use Rattle.asm51.specs.Ends.{HasEnds}
use Rattle.objects51.proofs.Objects.{IsObject, is_object}
use Rattle.objects51.proofs.Preserved.{due_at, ended_at, not_due, not_ended}
use Rattle.block_costs.specs.Ways.{AreMarks, cost}
use Rattle.block_costs.specs.Sums.{cost_of_events, LabelsCost}
use Rattle.block_costs.proofs.Sums.{is_step, cycles_add_up}
use Rattle.object_costs.specs.Costs.{HaveCosts}
use Rattle.object_costs.specs.Runs.{AreCosts, Follows, RunsCost, ObjectsTakeTheirCosts, ObjectsKeepToSources}
use Rattle.object_costs.proofs.HaveCosts.{objects_have_costs}
use Rattle.object_costs.proofs.Landing.{Comes, comes}

-- a label stands at its address
record StandsAt (labels : List ℕ) (a i l : ℕ) : Type 0 where
  more : ℕ
  sum : l ≡ i + more
  is : slice_get labels more ≡ Some a

stands_by : (x a i l : ℕ) (xs : List ℕ) (b : Bool) → (x == a) ≡ b → cond b (Some i) (position_from (λ x. x == a) (i + 1) xs) ≡ Some l → (position_from (λ x. x == a) (i + 1) xs ≡ Some l → StandsAt xs a (i + 1) l) → StandsAt (x ∷ xs) a i l
stands_by x a i l xs true q e more =
    let first : i ≡ l = cc in
    record { more = 0; sum = omega arith; is = ap Some (eqb-true x a q) }
stands_by x a i l xs false q e more = let r = more e in record { more = suc r.more; sum = omega (arith, r.sum); is = r.is }

stands_from : (xs : List ℕ) (a i l : ℕ) → position_from (λ x. x == a) i xs ≡ Some l → StandsAt xs a i l
stands_from [] a i l e = absurd cc
stands_from (x ∷ xs) a i l e = stands_by x a i l xs (x == a) refl e (λ h. stands_from xs a (i + 1) l h)

found : (o : Option ℕ) (l : Label) → option_map (λ k. record { 0 = k }) o ≡ Some l → o ≡ Some l.0
found None l e = absurd cc
found (Some k) l e =
    let same : ◌≡◌ {A = Label} (record { 0 = k }) l = cc in
    ap (λ (x : Label). Some x.0) same

label_stands : (labels : List ℕ) (a : ℕ) (l : Label) → label_at labels a ≡ Some l → slice_get labels l.0 ≡ Some a
label_stands labels a l e =
    let r = stands_from labels a 0 l.0 (sym (position_from-zero (λ x. x == a) labels) ∙ found _ l e) in
    let same : r.more ≡ l.0 = omega (arith, r.sum) in
    subst (λ n. slice_get labels n ≡ Some a) same r.is

-- each label that a run makes has its cost
labels_cost : (code labels : List ℕ) (marks : List Bool) (costs : ℕ → ℕ) → ((l : ℕ) → l < length labels → cost code marks (slice_index labels l) ≡ Ok (costs l)) → (k : ℕ) (r : Running) → LabelsCost code labels marks costs k r
labels_cost code labels marks costs each k r j lt e t l goes made =
    let here = label_stands labels _ l (sym (is_step code labels _ e t goes).label ∙ made) in
    ap (cost code marks) (sym (get_or_from_slice_get labels l.0 _ 0 here)) ∙ each l.0 (slice_get_within labels l.0 _ here)

module _ (items : List AsmItem) (layout : JumpLayout) (marks : List Bool) (start : ℕ) (costs : ℕ → ℕ) (d : ℕ) (sel : AreSelected items) (has_ends : HasEnds items) (is : IsLayoutOf items layout) (marked : AreMarks (labels_of items layout.forms) marks) (are : AreCosts items layout.forms marks start costs) where
  abbrev code : List ℕ
  code = code_of items layout.forms

  abbrev labels : List ℕ
  labels = labels_of items layout.forms

  abbrev X_start : List ℕ → AsmState
  X_start script = (assembly items).start script

  abbrev Y_start : List ℕ → Running
  Y_start script = (object code labels).start script

  obj : IsObject items layout.forms code labels (address items layout.forms)
  obj = is_object items layout.forms sel is.relaxed is.fits

  have : HaveCosts items layout.forms marks
  have = objects_have_costs items layout marks sel has_ends is marked

  abbrev ComesTo : List ℕ → AsmState → Type 0
  ComesTo script x = Comes items layout.forms code labels (address items layout.forms) d sel obj marks have.returns script x

  comes_to : (script : List ℕ) (x : AsmState) → Run (assembly items) d (X_start script) x → ComesTo script x
  comes_to script x run = comes items layout.forms code labels (address items layout.forms) d sel obj marks have.returns script x run

  follows : (script : List ℕ) (x : AsmState) → Run (assembly items) d (X_start script) x → Follows items layout.forms marks script x.made
  follows script x run =
      let c = comes_to script x run in
      record { steps = c.steps.count; made = ap (λ (r : Running). r.events) c.steps.end ∙ c.made; lands = c.steps.lands }

  -- the object stops where the program does
  stops_at : (script : List ℕ) (n : ℕ) (stop : Stop) (x : AsmState) (c : ComesTo script x) → StopsAt (assembly items) n x stop → StopsAt (object code labels) n c.to stop
  stops_at script n Stopped x c at =
      let r = c.landing (λ begun. not_due items layout.forms code labels (address items layout.forms) d sel obj script (subst (λ (x : AsmState). IsTrue ((assembly items).due x)) begun at.0)) in
      (due_at items layout.forms code labels (address items layout.forms) d sel obj x c.to r.followed at.0, ap label_count c.made ∙ at.1)
  stops_at script n Ended x c at =
      let r = c.landing (λ begun. not_ended items layout.forms code labels (address items layout.forms) d sel obj script (subst (λ (x : AsmState). IsTrue ((assembly items).ended x)) begun at.0)) in
      (ended_at items layout.forms code labels (address items layout.forms) d sel obj x c.to r.followed at.0, subst (λ (es : List Event). label_count es ≤ n) (sym c.made) at.1)

  arrives : (script : List ℕ) (n : ℕ) (es : List Event) (stop : Stop) → Arrives (assembly items) d script n es stop → ArrivesWith (object code labels) cycles_of_run script n es (cost_of_events start costs es) stop
  arrives script n es stop a =
      let c = comes_to script a.state a.run in
      let end = after (object code labels) c.steps.count (Y_start script) in
      let stops : StopsAt (object code labels) n end stop = subst (λ (r : Running). StopsAt (object code labels) n r stop) (sym c.steps.end) (stops_at script n stop a.state c a.stops) in
      let made : end.events ≡ es = ap (λ (r : Running). r.events) c.steps.end ∙ c.made ∙ a.made in
      record {
        steps = c.steps.count;
        stops = stops;
        made = made;
        took = cycles_add_up code labels marks marked start costs are.start_is script c.steps.count n stop c.steps.lands (labels_cost code labels marks costs are.labels_are c.steps.count (Y_start script)) stops
            ∙ ap (cost_of_events start costs) made;
      }

  runs_cost : RunsCost items layout.forms marks start costs d
  runs_cost = record { follows = follows; arrives = arrives }

pub objects_take_their_costs : ObjectsTakeTheirCosts
objects_take_their_costs items layout marks start costs d sel ends is marked are = runs_cost items layout marks start costs d sel ends is marked are

-- From there to the promise of the object to a source that the program preserves.
module _ (items : List AsmItem) (forms : List (Option Form)) (marks : List Bool) (start : ℕ) (costs : ℕ → ℕ) (d : ℕ) (runs : RunsCost items forms marks start costs d) where
  abbrev Y : System Running
  Y = object (code_of items forms) (labels_of items forms)

  keeps_to : {Fault : Type 0} → (script : List ℕ) (n : ℕ) (r : Outcome Fault) → Meets (assembly items) d script n r → KeepsTo Y cycles_of_run (cost_of_events start costs) script n r
  keeps_to script n (Stops es stop) m = runs.arrives script n es stop m
  keeps_to script n (Faults es fault) m =
      let f = runs.follows script m.state m.run in
      (f.steps, subst (λ fs. IsPrefix es fs) (sym f.made) m.made)

  pub headline_of_object : {Fault : Type 0} → (source : Source Fault) → PreservesSource source (assembly items) d → Headline source Y cycles_of_run (cost_of_events start costs)
  headline_of_object source p script ok n = keeps_to script n (source script n) (p.meets script ok n)

pub objects_keep_to_sources : (Fault : Type 0) → ObjectsKeepToSources Fault
objects_keep_to_sources Fault source items layout marks start costs d preserved sel ends is marked are =
    headline_of_object items layout.forms marks start costs d (objects_take_their_costs items layout marks start costs d sel ends is marked are) source preserved
