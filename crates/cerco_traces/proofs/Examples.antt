-- A small object and its source, by which the definitions are tried. The object passes a label in 1 cycle, writes a byte to a
-- port in 2, and ends. So the label costs 3 cycles.
use Rattle.std.proofs.Common.{◌≡◌, ℕ, zero, suc, ◌+◌, ◌*◌, ◌≤◌, IsTrue, true, false, List, [], ◌∷◌, refl, ap, arith}
use Rattle.std.proofs.lemmas.List.Elements.{All-nil}
use Rattle.cerco_base.specs.declared.events.Port.TheVariants.{P1}
use Rattle.cerco_base.specs.declared.events.Event.TheVariants.{Write}
use Rattle.cerco_base.specs.Events.{label, label_count, Stop, Stopped, Ended}
use Rattle.cerco_traces.specs.Systems.{System, here, StopsAt}
use Rattle.cerco_traces.specs.Preservation.{Stops, Source, Meets}
use Rattle.cerco_traces.specs.Headline.{Arrival, ArrivesOnce, Headline}
use Rattle.cerco_traces.proofs.HeadlineProofs.{headline, any_run, arrives_once}

data State : Type 0 where
  Before : State
  Passed : State
  Over : State

abbrev object : System State
object = record {
  start = λ script. Before;
  step = λ s. elim s [ Before ↦ Passed | _ ↦ Over ];
  events = λ s. elim s [ Before ↦ [] | Passed ↦ label 0 ∷ [] | Over ↦ label 0 ∷ Write P1 5 ∷ [] ];
  due = λ s. elim s [ Before ↦ true | _ ↦ false ];
  ended = λ s. elim s [ Over ↦ true | _ ↦ false ];
  touched = λ s. [];
  opened = λ s. 0;
}

abbrev cycles : State → ℕ
cycles s = elim s [ Before ↦ 0 | Passed ↦ 1 | Over ↦ 3 ]

abbrev source : Source ⊥
source script zero = Stops [] Stopped
source script (suc n) = Stops (label 0 ∷ Write P1 5 ∷ []) Ended

meets : (script : List ℕ) (n : ℕ) → Meets object 0 script n (source script n)
meets script zero = record { state = Before; run = here Before; stops = (refl, refl); made = refl }
meets script (suc n) = record { state = Over; run = any_run object 0 (λ s. refl) (λ s. refl) 2 Before; stops = (refl, omega arith); made = refl }

costs : (n : ℕ) (s : State) (stop : Stop) → StopsAt object n s stop → cycles s ≡ 3 * label_count (object.events s)
costs n Before stop h = refl
costs n Passed Stopped h = absurd cc
costs n Passed Ended h = absurd cc
costs n Over stop h = refl

keeps : Headline source object cycles (λ es. 3 * label_count es)
keeps = headline object cycles (λ es. 3 * label_count es) 0 (record { by = λ script ok k n stop h. costs n _ stop h }) source (record { meets = λ script ok n. meets script n })

once : ArrivesOnce object cycles
once = arrives_once object (record {
  label = λ s. elim s as (λ s. IsTrue (object.due s) → label_count (object.events (object.step s)) ≡ label_count (object.events s) + 1) [ Before ↦ λ due. refl | _ ↦ λ due. absurd cc ];
  no_fewer = λ s. elim s as (λ s. label_count (object.events s) ≤ label_count (object.events (object.step s))) [ Before ↦ omega arith | _ ↦ omega arith ];
  ended_stays = λ s. elim s as (λ s. IsTrue (object.ended s) → object.step s ≡ s) [ Over ↦ λ over. refl | _ ↦ λ over. absurd cc ];
  not_both = λ s. elim s as (λ s. IsTrue (object.due s) → IsTrue (object.ended s) → ⊥) [ Before ↦ λ due over. cc | _ ↦ λ due over. cc ];
}) cycles

-- it isn't free of cost
dear : Headline source object cycles (λ es. 0) → ⊥
dear free =
    let end : ℕ → Arrival = λ c. record { events = label 0 ∷ Write P1 5 ∷ []; cycles = c; stop = Ended } in
    let same = ap (λ (a : Arrival). a.cycles) (once [] 1 (end 3) (end 0) (keeps [] (All-nil _) 1) (free [] (All-nil _) 1)) in
    omega arith
