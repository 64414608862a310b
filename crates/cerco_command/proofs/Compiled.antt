-- What a source is built to, and the texts that are made of it, keep the promise.
use Rattle.std.proofs.Common.{◌≡◌, ℕ, suc, ◌+◌, ◌<◌, ◌≤◌, List, [], ◌∷◌, ◌++◌, IsTrue, Result, Ok, Err, refl, sym, ap, ap₂, subst, ◌∙◌, arith, length, slice_get, slice_index}
use Rattle.std.specs.Prelude.{unwrap_or, sum_by}
use Rattle.std.proofs.lemmas.List.Sums.{sum_by-cons}
use Rattle.std.proofs.lemmas.Option.{unwrap_or-slice_get}
use Rattle.cerco_base.specs.Outside.IoStates.{SinkState}
use Rattle.cerco_base.specs.Outside.IoCalls.{PutsText}
use Rattle.cerco_base.specs.declared.events.Event.{Event}
use Rattle.cerco_base.specs.declared.events.Event.TheVariants as Shown
use Rattle.cerco_base.specs.declared.events.Label.{Label}
use Rattle.cerco_base.specs.declared.outside.faults.IoFault.{IoFault}
use Rattle.cerco_traces.specs.Preservation.{Outcome, Stops, Faults, Source}
use Rattle.cerco_traces.specs.Headline.{ArrivesWith, KeepsTo, Headline}
use Rattle.sim51.specs.Runs.{object, cycles_of_run}
use Rattle.object_hex.specs.HexText.{hex_text}
use Rattle.object_hex.specs.MapText.{map_text}
use Rattle.object_hex.specs.HexMeaning.{IsHexText}
use Rattle.object_hex.proofs.HexBack.{hex_text-means}
use Rattle.object_hex.proofs.MapBack.{map_text-means}
use Rattle.object_hex.specs.MapMeaning.{IsMapText}
use Rattle.clight_syntax.specs.Annotations.{Costs}
use Rattle.clight_syntax.specs.Annotations.{annotated as annotated_text}
use Rattle.clight_syntax.specs.declared.points.Point.{Point}
use Rattle.clight_syntax.specs.TypedTrees.{TypedProgram}
use Rattle.block_costs.specs.Sums.{cost_of_events, event_cost}
use Rattle.annotate.specs.Numbers.{numbers, label_cost_in, start_cost_in, cost_at}
use Rattle.annotate.specs.Numbers as annotate
use Rattle.cerco_pipeline.specs.Built.{IsChainOf, IsBuilt}
use Rattle.cerco_command.specs.Building.{AreCompiled}
use Rattle.cerco_command.specs.Code.Stages.{MayStand, IsAnnotatedText}
use Rattle.cerco_command.proofs.Objects.{length-code_of, may_stand}

-- what an output in memory has collected
pub collected : {X : Type 0} (s t : SinkState) (text : List ℕ) (r : Result X IoFault) (x : X) → r ≡ Ok x → IsTrue s.known → s.bytes ≡ [] → PutsText s t text r → t.bytes ≡ text
collected s t text (Ok y) x e known none puts = puts.whole known ∙ ap (λ l. l ++ text) none
collected s t text (Err fault) x e known none puts = absurd cc

-- ---- the texts of an object

pub hex_means : (text code : List ℕ) → text ≡ hex_text code → length code ≤ 65536 → ((i : ℕ) → slice_index code i < 256) → IsHexText text code
hex_means text code is fits bytes = subst (λ (x : List ℕ). IsHexText x code) (sym is) (hex_text-means code fits bytes)

pub map_means : (text labels : List ℕ) → text ≡ map_text labels → MayStand labels → IsMapText text labels
map_means text labels is may = subst (λ (x : List ℕ). IsMapText x labels) (sym is) (map_text-means labels may.few may.within may.apart)

-- ---- the object

pub code_fits : (p : TypedProgram Label) (code labels : List ℕ) → IsChainOf p code labels → length code ≤ 65536
code_fits p code labels c =
    let object = c.chain.object in
    let size = length-code_of c.values.asm c.values.layout.forms in
    let same : length code ≡ length c.values.object.code = ap length c.code_is in
    let made = ap length object.code in
    omega (arith, size, same, made, object.layout.fits)

pub labels_stand : (p : TypedProgram Label) (code labels : List ℕ) → IsChainOf p code labels → MayStand labels
labels_stand p code labels c =
    let object = c.chain.object in
    subst MayStand (sym (c.labels_are ∙ object.labels)) (may_stand c.values.asm c.values.layout c.chain.asm.selected object.layout)

-- ---- the cost variable of the annotated source holds the costs of the labels that were passed

module _ (text : List ℕ) (costs : Costs) (said : numbers text ≡ costs.start ∷ costs.labels) where
  start_same : start_cost_in text ≡ costs.start
  start_same = ap (λ (ns : List ℕ). unwrap_or (slice_get ns 0) 0) said

  label_same : (label : ℕ) → label_cost_in text label ≡ slice_index costs.labels label
  label_same label =
      let next : label + 1 ≡ suc label = omega arith in
      ap (λ (ns : List ℕ). unwrap_or (slice_get ns (label + 1)) 0) said
      ∙ ap (λ (i : ℕ). unwrap_or (slice_get (costs.start ∷ costs.labels) i) 0) next
      ∙ unwrap_or-slice_get costs.labels label 0

  event_same : (event : Event) → annotate.event_cost text event ≡ event_cost (slice_index costs.labels) event
  event_same (Shown.Label label) = label_same label.0
  event_same (Shown.Read port byte) = refl
  event_same (Shown.Write port byte) = refl

  sum_same : (events : List Event) → sum_by (annotate.event_cost text) events ≡ sum_by (event_cost (slice_index costs.labels)) events
  sum_same [] = refl
  sum_same (event ∷ events) =
      let first = sum_by-cons (annotate.event_cost text) event events in
      let second = sum_by-cons (event_cost (slice_index costs.labels)) event events in
      let same = event_same event in
      let others = sum_same events in
      omega arith

  cost_same : (events : List Event) → cost_at text events ≡ cost_of_events costs.start (slice_index costs.labels) events
  cost_same events = ap₂ (λ m n. m + n) start_same (sum_same events)

  keeps_same : {Fault : Type 0} (code labels script : List ℕ) (n : ℕ) (outcome : Outcome Fault) → KeepsTo (object code labels) cycles_of_run (cost_of_events costs.start (slice_index costs.labels)) script n outcome → KeepsTo (object code labels) cycles_of_run (cost_at text) script n outcome
  keeps_same code labels script n (Stops es stop) h = subst (λ (c : ℕ). ArrivesWith (object code labels) cycles_of_run script n es c stop) (sym (cost_same es)) h
  keeps_same code labels script n (Faults es fault) h = h

  headline_same : {Fault : Type 0} (source : Source Fault) (code labels : List ℕ) → Headline source (object code labels) cycles_of_run (cost_of_events costs.start (slice_index costs.labels)) → Headline source (object code labels) cycles_of_run (cost_at text)
  headline_same source code labels h script is n = keeps_same code labels script n (source script n) (h script is n)

-- ---- the texts

pub texts_made : (source hex map text code labels : List ℕ) (points : List Point) (costs : Costs) → IsBuilt source points code labels costs → IsHexText hex code → IsMapText map labels → IsAnnotatedText source points costs text → AreCompiled source hex map text
texts_made source hex map text code labels points costs b is_code are_labels a =
    record {
      code = code;
      labels = labels;
      is_code = is_code;
      are_labels = are_labels;
      compiled = record {
        program = b.program;
        is_program = b.is_program;
        headline = headline_same text costs a.numbers_are _ code labels b.headline;
        costs = costs;
        costs_are = b.costs_are;
        annotations = subst (λ (ps : List Point). text ≡ annotated_text source ps costs) b.points_are a.annotations;
        erases = a.erases;
        chain = b.chain;
      };
    }
