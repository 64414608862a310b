-- What a source is built to: the annotations of its program, its object, and what the object costs (the correctness of a cost annotating
-- compiler, as in CerCo, deliverable 2.1).
use Rattle.std.specs.Prelude.{◌≡◌, ℕ, ◌<◌, ◌≤◌, List, Bool, Ok, length, slice_index}
use Rattle.cerco_base.specs.declared.events.Label.{Label}
use Rattle.cerco_base.specs.declared.reasons.Reason.{Reason}
use Rattle.cerco_base.specs.declared.reasons.Reason.TheVariants.{CellsFull, CodeFull}
use Rattle.cerco_traces.specs.Headline.{Headline}
use Rattle.cerco_traces.specs.Preservation.{PreservesSource}
use Rattle.cerco_middle.specs.Cminor.Trees.{Cminor}
use Rattle.cerco_middle.specs.Cminor.Meaning.{cminor}
use Rattle.back_end.specs.Chain.{IsChain}
use Rattle.back_end.specs.Refusals.{IsRefused as IsTooBig}
use Rattle.back_end.specs.declared.assembled.Assembled.{Assembled}
use Rattle.clight_source.specs.Markers.{HasNoMarker}
use Rattle.sim51.specs.Runs.{object, cycles_of_run}
use Rattle.clight_syntax.specs.Annotations.{Costs, AreInOrder, BeginWithStart, AreNumberedInOrder, labels_in}
use Rattle.clight_syntax.specs.Labelling.{points_of}
use Rattle.clight_syntax.specs.TypedTrees.{TypedProgram}
use Rattle.clight_syntax.specs.declared.points.Point.{Point}
use Rattle.clight_meaning.specs.Meaning.{source as meaning}
use Rattle.block_costs.specs.Ways.{AreMarks, cost, start_cost}
use Rattle.block_costs.specs.Sums.{cost_of_events}
use Rattle.cerco_pipeline.specs.Programs.{IsProgramOf, HasFirstReason, HasRoom}

-- These are the costs of the start and of each label of an object: none is a fault, and each label costs at least 1.
pub record AreCostsOf (code labels : List ℕ) (costs : Costs) : Type 0 where
  pub count : length costs.labels ≡ length labels
  pub start : (marks : List Bool) → AreMarks labels marks → start_cost code marks ≡ Ok costs.start
  pub each : (marks : List Bool) → AreMarks labels marks → (l : ℕ) → l < length labels → cost code marks (slice_index labels l) ≡ Ok (slice_index costs.labels l)
  pub positive : (l : ℕ) → l < length labels → 1 ≤ slice_index costs.labels l

-- A text can take these annotations, which name this many labels: its offsets rise, they begin with the start, and their labels are 0, 1, 2
-- and so on.
pub record AreAnnotationsOf (text : List ℕ) (points : List Point) (labels : ℕ) : Type 0 where
  pub in_order : AreInOrder (length text) points
  pub begins : BeginWithStart points
  pub numbered : AreNumberedInOrder (labels_in points)
  pub count : length (labels_in points) ≡ labels
  pub no_marker : HasNoMarker text

-- The object is the end of a chain of values from Cminor on, each made from those before it, and the program of Cminor, its program over
-- virtual registers and so its object preserve the traces of the source.
pub record IsChainOf (p : TypedProgram Label) (code labels : List ℕ) : Type 0 where
  pub source : Cminor
  pub values : Assembled
  pub chain : IsChain source values
  pub preserves : PreservesSource (meaning p) (cminor source) p.data_bytes
  pub code_is : code ≡ values.object.code
  pub labels_are : labels ≡ values.object.labels

-- A text is built to an object with these annotations, code, addresses of labels and costs: for every port script and number n, after
-- exactly as many cycles as the events at the n-th stop cost, the object has made exactly the labels, port readings and port writings of
-- the meaning, and has ended exactly if the meaning has; where the meaning is a fault, it has at some time made those before it.
pub record IsBuilt (text : List ℕ) (points : List Point) (code labels : List ℕ) (costs : Costs) : Type 0 where
  pub program : TypedProgram Label
  pub is_program : IsProgramOf text program
  pub points_are : points ≡ points_of program
  pub annotations : AreAnnotationsOf text points (length costs.labels)
  pub headline : Headline (meaning program) (object code labels) cycles_of_run (cost_of_events costs.start (slice_index costs.labels))
  pub costs_are : AreCostsOf code labels costs
  pub chain : IsChainOf program code labels

-- ---- why a text is not built

-- A program of Cminor that preserves the traces of the source, and needs no more than the source's own bounds say, is too big in this way.
pub record LacksRoom (p : TypedProgram Label) (reason : Reason) : Type 0 where
  pub source : Cminor
  pub preserves : PreservesSource (meaning p) (cminor source) p.data_bytes
  pub too_big : IsTooBig source reason
  pub not_by_bounds : HasRoom p → ⊥

-- The reason is the first of those that the text has against it; or it is sound, and the cells or the code that its program needs are too
-- many.
abbrev pub IsRefused : List ℕ → Reason → Type 0
IsRefused text (CellsFull need) = (p : TypedProgram Label) × IsProgramOf text p × LacksRoom p (CellsFull need)
IsRefused text (CodeFull len) = (p : TypedProgram Label) × IsProgramOf text p × LacksRoom p (CodeFull len)
IsRefused text reason = HasFirstReason text reason
