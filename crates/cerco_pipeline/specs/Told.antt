-- The text of a source's meaning, with the costs of the object to which the source is compiled (the cost annotations of CerCo,
-- deliverable 2.1, as a run of the source passes them).
use Rattle.std.specs.Prelude.{◌≡◌, ℕ, List, Result, slice_index}
use Rattle.cerco_base.specs.declared.events.Label.{Label}
use Rattle.cerco_base.specs.declared.outside.faults.IoFault.{IoFault}
use Rattle.cerco_base.specs.Outside.IoStates.{SinkState}
use Rattle.cerco_base.specs.Outside.IoCalls.{PutsText}
use Rattle.cerco_traces.specs.Headline.{Headline}
use Rattle.sim51.specs.Runs.{object, cycles_of_run}
use Rattle.clight_syntax.specs.Annotations.{Costs}
use Rattle.clight_syntax.specs.TypedTrees.{TypedProgram}
use Rattle.clight_meaning.specs.Meaning.{source as meaning}
use Rattle.block_costs.specs.Sums.{cost_of_events}
use Rattle.meaning_text.specs.Text.{meaning_text}
use Rattle.cerco_pipeline.specs.Programs.{IsProgramOf}
use Rattle.cerco_pipeline.specs.Built.{AreCostsOf, IsChainOf}

-- The text is that of the program's meaning on a script, for a budget of labels. Its costs are those of an object that keeps to this
-- meaning: at each stop the object has taken as many cycles as the start and the labels before it cost.
pub record IsMeaningOf (source script : List ℕ) (limit : ℕ) (text : List ℕ) : Type 0 where
  pub program : TypedProgram Label
  pub is_program : IsProgramOf source program
  pub code : List ℕ
  pub labels : List ℕ
  pub costs : Costs
  pub headline : Headline (meaning program) (object code labels) cycles_of_run (cost_of_events costs.start (slice_index costs.labels))
  pub costs_are : AreCostsOf code labels costs
  pub chain : IsChainOf program code labels
  pub told : text ≡ meaning_text costs (meaning program script limit)

-- such a text is put, or a prefix of it
pub record PutsMeaning (source script : List ℕ) (limit : ℕ) (s t : SinkState) (put : Result (Unit {0}) IoFault) : Type 0 where
  pub text : List ℕ
  pub is_meaning : IsMeaningOf source script limit text
  pub puts : PutsText s t text put
