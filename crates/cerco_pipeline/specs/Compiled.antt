-- What a source is compiled to: its labelled program, the values of the back end, its object and what that costs, each made from those
-- before it (CerCo, deliverables 2.1 and 5.1).
use Rattle.std.specs.Prelude.{◌≡◌, ℕ, ◌<◌, ◌≤◌, List, Bool, Ok, length, slice_index}
use Rattle.cerco_base.specs.declared.events.Label.{Label}
use Rattle.cerco_traces.specs.Headline.{Headline}
use Rattle.cerco_traces.specs.Preservation.{PreservesSource}
use Rattle.cerco_middle.specs.Cminor.Trees.{Cminor, labels_of}
use Rattle.cerco_middle.specs.Cminor.Meaning.{cminor}
use Rattle.back_end.specs.Chain.{IsChain}
use Rattle.back_end.specs.declared.assembled.Assembled.{Assembled}
use Rattle.clight_source.specs.Markers.{HasNoMarker}
use Rattle.clight_syntax.specs.Annotations.{AreInOrder, BeginWithStart}
use Rattle.clight_syntax.specs.Labelling.{points_of}
use Rattle.clight_syntax.specs.TypedTrees.{TypedProgram}
use Rattle.clight_syntax.specs.declared.typed.Labelled.{Labelled}
use Rattle.clight_syntax.specs.Code.TypedViews.{labelled_of}
use Rattle.clight_meaning.specs.Meaning.{source as meaning}
use Rattle.cminor_gen.specs.Promises.{KeepsProgram}
use Rattle.sim51.specs.Runs.{object, cycles_of_run}
use Rattle.block_costs.specs.Ways.{AreMarks, cost, start_cost}
use Rattle.block_costs.specs.Sums.{cost_of_events}
use Rattle.cerco_pipeline.specs.Programs.{IsProgramOf}
use Rattle.cerco_pipeline.specs.Built.{AreCostsOf, AreAnnotationsOf}
use Rattle.cerco_pipeline.specs.declared.compiled.Compiled.{Compiled}

-- This is the labelled program of a text, with its annotations, which stand in the order of the text.
pub record IsRead (text : List ℕ) (x : Labelled) : Type 0 where
  pub program : IsProgramOf text (labelled_of x)
  pub points : x.points ≡ points_of (labelled_of x)
  pub in_order : AreInOrder (length text) x.points
  pub begins : BeginWithStart x.points
  pub no_marker : HasNoMarker text

-- These are the values of the back end for a program of Cminor that preserves the traces of the source, and has its functions and labels.
pub record IsAssembled (p : TypedProgram Label) (values : Assembled) : Type 0 where
  pub source : Cminor
  pub preserves : PreservesSource (meaning p) (cminor source) p.data_bytes
  pub keeps : KeepsProgram p source
  pub chain : IsChain source values
  pub labels : length values.object.labels ≡ length (labels_of source.functions)

-- The start of an object has a cost, and each label has one, which is at least 1.
pub record HasCosts (code labels : List ℕ) : Type 0 where
  pub start : (marks : List Bool) → AreMarks labels marks → (cycles : ℕ) × (start_cost code marks ≡ Ok cycles)
  pub each : (marks : List Bool) → AreMarks labels marks → (l : ℕ) → l < length labels → (cycles : ℕ) × (cost code marks (slice_index labels l) ≡ Ok cycles) × (1 ≤ cycles)

-- A text is compiled to its labelled program, with the annotations of that, and to an object that keeps to its meaning and costs exactly
-- what the costs say.
pub record IsCompiled (text : List ℕ) (c : Compiled) : Type 0 where
  pub program : IsProgramOf text (labelled_of c.labelled.value)
  pub points : c.labelled.value.points ≡ points_of (labelled_of c.labelled.value)
  pub annotations : AreAnnotationsOf text c.labelled.value.points (length c.costs.items)
  pub assembled : IsAssembled (labelled_of c.labelled.value) c.assembled
  pub costs : AreCostsOf c.assembled.object.code c.assembled.object.labels (record { start = c.start; labels = c.costs.items })
  pub headline : Headline (meaning (labelled_of c.labelled.value)) (object c.assembled.object.code c.assembled.object.labels) cycles_of_run (cost_of_events c.start (slice_index c.costs.items))
