-- What the runs of the object of an assembly program cost (CerCo, deliverable 2.1): as many cycles as the start and the labels that they
-- pass.
use Rattle.std.specs.Prelude.{◌≡◌, ℕ, ◌<◌, List, Bool, Option, Ok, length, slice_index}
use Rattle.cerco_base.specs.declared.events.Event.{Event}
use Rattle.cerco_base.specs.Events.{Stop}
use Rattle.cerco_traces.specs.Systems.{Run, Arrives}
use Rattle.cerco_traces.specs.Preservation.{Source, PreservesSource}
use Rattle.cerco_traces.specs.Headline.{after, ArrivesWith, Headline}
use Rattle.sim51.specs.Runs.{object, cycles_of_run}
use Rattle.asm51.specs.declared.items.AsmItem.{AsmItem}
use Rattle.asm51.specs.declared.layouts.Form.{Form}
use Rattle.asm51.specs.declared.layouts.JumpLayout.{JumpLayout}
use Rattle.asm51.specs.Meaning.{AsmState, assembly}
use Rattle.asm51.specs.Emission.{code_of, labels_of}
use Rattle.asm51.specs.JumpLayouts.{IsLayoutOf}
use Rattle.asm51.specs.Selected.{AreSelected}
use Rattle.asm51.specs.Ends.{HasEnds}
use Rattle.block_costs.specs.Ways.{AreMarks, cost, start_cost}
use Rattle.block_costs.specs.Sums.{cost_of_events, ReturnsLand}

module _ (items : List AsmItem) (forms : List (Option Form)) (marks : List Bool) where
  -- these are the cost of the start and those of the labels, by number
  pub record AreCosts (start : ℕ) (costs : ℕ → ℕ) : Type 0 where
    pub start_is : start_cost (code_of items forms) marks ≡ Ok start
    pub labels_are : (l : ℕ) → l < length (labels_of items forms) → cost (code_of items forms) marks (slice_index (labels_of items forms) l) ≡ Ok (costs l)

  -- The object comes to the events of the program in some steps, and each return that it makes in them lands.
  pub record Follows (script : List ℕ) (events : List Event) : Type 0 where
    pub steps : ℕ
    pub made : (after (object (code_of items forms) (labels_of items forms)) steps ((object (code_of items forms) (labels_of items forms)).start script)).events ≡ events
    pub lands : ReturnsLand (code_of items forms) (labels_of items forms) marks steps ((object (code_of items forms) (labels_of items forms)).start script)

  -- The object follows each run of the program within bounds d, and where the program stops it stops after as many cycles as the events
  -- cost.
  pub record RunsCost (start : ℕ) (costs : ℕ → ℕ) (d : ℕ) : Type 0 where
    pub follows : (script : List ℕ) (x : AsmState) → Run (assembly items) d ((assembly items).start script) x → Follows script x.made
    pub arrives : (script : List ℕ) (n : ℕ) (es : List Event) (stop : Stop) → Arrives (assembly items) d script n es stop → ArrivesWith (object (code_of items forms) (labels_of items forms)) cycles_of_run script n es (cost_of_events start costs es) stop

-- In the relaxed layout of a selection whose ways have ends, runs cost what the costs say.
abbrev pub ObjectsTakeTheirCosts : Type 0
ObjectsTakeTheirCosts =
    (items : List AsmItem) (layout : JumpLayout) (marks : List Bool) (start : ℕ) (costs : ℕ → ℕ) (d : ℕ)
    → AreSelected items → HasEnds items → IsLayoutOf items layout → AreMarks (labels_of items layout.forms) marks → AreCosts items layout.forms marks start costs
    → RunsCost items layout.forms marks start costs d

-- Where a program preserves its source, its object keeps to the source: at each stop it has made exactly the events that the source
-- tells, in as many cycles as they cost.
abbrev pub ObjectsKeepToSources : Type 0 → Type 0
ObjectsKeepToSources Fault =
    (source : Source Fault) (items : List AsmItem) (layout : JumpLayout) (marks : List Bool) (start : ℕ) (costs : ℕ → ℕ) (d : ℕ)
    → PreservesSource source (assembly items) d
    → AreSelected items → HasEnds items → IsLayoutOf items layout → AreMarks (labels_of items layout.forms) marks → AreCosts items layout.forms marks start costs
    → Headline source (object (code_of items layout.forms) (labels_of items layout.forms)) cycles_of_run (cost_of_events start costs)
