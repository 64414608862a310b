-- What an evaluator's answers say of the rest of a run.
use Rattle.std.specs.Prelude.{◌≡◌, ℕ, suc, [], ◌∷◌}
use Rattle.cerco_base.specs.Events.{Stopped, Ended}
use Rattle.cerco_traces.specs.Preservation.{Stops, Faults, and_then}
use Rattle.cerco_base.specs.declared.events.Event.TheVariants as event
use Rattle.cerco_base.specs.declared.events.FaultKind.{FaultKind}
use Rattle.clight_syntax.specs.Code.TypedViews.{program_of}
use Rattle.clight_meaning.specs.declared.turn.Turn.{Turn}
use Rattle.clight_meaning.specs.declared.turn.Turn.TheVariants as turn
use Rattle.clight_meaning.specs.declared.running.Running.{Running}
use Rattle.clight_meaning.specs.declared.evaluator.Evaluator.{Evaluator}
use Rattle.clight_meaning.specs.Meaning.{Rest}
use Rattle.clight_meaning.specs.Code.Evaluation.{rest_of}
use Rattle.clight_meaning.specs.Code.Holding.{works_held}
use Rattle.clight_meaning.specs.Code.Views.{state_held}

-- the rest of a run, for each budget of labels
abbrev pub rest_held : Running → Rest
rest_held r = rest_of (program_of r.program.now) (works_held r.work.items) (state_held r.state)

-- what an evaluator has still to tell, for each budget of labels
abbrev pub rest : Evaluator → Rest
rest e = rest_held e.running

-- An event comes before what follows, a label takes one of the budget and is due where there is none left. Behind the end and
-- behind a fault nothing else comes.
abbrev pub Tells : Turn → Rest → Rest → Type 0
Tells (turn.Event (event.Label l)) before next = (before 0 ≡ Stops [] Stopped) × ((n : ℕ) → before (suc n) ≡ and_then (event.Label l ∷ []) (next n))
Tells (turn.Event (event.Read port byte)) before next = (n : ℕ) → before n ≡ and_then (event.Read port byte ∷ []) (next n)
Tells (turn.Event (event.Write port byte)) before next = (n : ℕ) → before n ≡ and_then (event.Write port byte ∷ []) (next n)
Tells turn.Ended before next = (n : ℕ) → (before n ≡ Stops [] Ended) × (next n ≡ Stops [] Ended)
Tells (turn.Fault kind) before next = (n : ℕ) → (before n ≡ Faults [] kind) × (next n ≡ Faults [] kind)

-- nothing is left to tell but the end, whatever the budget
pub record OnlyEnds (r : Rest) : Type 0 where
  pub at : (n : ℕ) → r n ≡ Stops [] Ended

-- nothing is left to tell but this fault, whatever the budget
pub record OnlyFaults (kind : FaultKind) (r : Rest) : Type 0 where
  pub at : (n : ℕ) → r n ≡ Faults [] kind

-- how many labels an answer passes
abbrev pub labels_told : Turn → ℕ
labels_told (turn.Event (event.Label l)) = 1
labels_told (turn.Event (event.Read port byte)) = 0
labels_told (turn.Event (event.Write port byte)) = 0
labels_told turn.Ended = 0
labels_told (turn.Fault kind) = 0
