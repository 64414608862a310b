-- How the meaning of a program begins: with the call of `main`.
use Rattle.std.proofs.Common.{◌≡◌, ℕ, List, [], Some, None, sym, ap, ◌∙◌}
use Rattle.std.specs.Prelude.{slice_get}
use Rattle.cerco_base.specs.Events.{Stopped, Ended}
use Rattle.cerco_traces.specs.Preservation.{Stops}
use Rattle.cerco_base.specs.declared.events.Label.{Label}
use Rattle.clight_syntax.specs.TypedTrees.{Function, TypedProgram}
use Rattle.clight_values.specs.declared.value.Value.{Value}
use Rattle.clight_values.specs.Memory.{State}
use Rattle.clight_meaning.specs.Meaning.{Rest, only, passes, with_state, Calling, Goes, body_goes, entered, prepared, beginning, call_of, calls, source}
use Rattle.clight_meaning.specs.Code.Evaluation.{run_list, standing, rest_of, listed}
use Rattle.clight_meaning.specs.declared.running.Work.{Work as HeldWork}
use Rattle.clight_meaning.specs.Code.Holding.{works_held}
use Rattle.clight_meaning.proofs.Agreeing.{calls_unfold}
use Rattle.clight_meaning.proofs.Stacks.{works_held-nil}
use Rattle.clight_meaning.proofs.Moving.{run_listed}

-- what is behind the call of `main`
abbrev pub at_end : Value → State → Rest
at_end x st = only (Stops [] Ended)

-- a function's call from a state, and then what goes on
abbrev pub opens : TypedProgram Label → Function Label → State → Goes → Rest
opens p f st k = passes f.label (with_state (prepared p f (entered p f [] st)) (run_list p (listed f.body []) k))

abbrev main_call : TypedProgram Label → List ℕ → Calling
main_call p script = record { function = p.main; arguments = []; from = beginning p script; return = at_end }

pub source_missing : (p : TypedProgram Label) (script : List ℕ) → slice_get p.functions p.main ≡ None → source p script ≡ only (Stops [] Ended)
source_missing p script is = calls_unfold p (main_call p script) ∙ ap (λ o. call_of p o (calls p) (main_call p script)) is

pub source_main : (p : TypedProgram Label) (script : List ℕ) (f : Function Label) → slice_get p.functions p.main ≡ Some f → source p script ≡ opens p f (beginning p script) (body_goes at_end)
source_main p script f is =
    calls_unfold p (main_call p script) ∙ ap (λ o. call_of p o (calls p) (main_call p script)) is
    ∙ ap (λ (g : State → Rest). passes f.label (with_state (prepared p f (entered p f [] (beginning p script))) g)) (run_listed p f.body [] (body_goes at_end))

-- with no budget nothing is told, since the label of `main` is due
pub no_budget : (p : TypedProgram Label) (script : List ℕ) (f : Function Label) → slice_get p.functions p.main ≡ Some f → source p script 0 ≡ Stops [] Stopped
no_budget p script f is = ap (λ (r : Rest). r 0) (source_main p script f is)

-- nothing is left to do where there is no `main`
pub nothing_left : (p : TypedProgram Label) (script : List ℕ) (items : List HeldWork) (st : State) → items ≡ [] → slice_get p.functions p.main ≡ None → rest_of p (works_held items) st ≡ source p script
nothing_left p script items st empty is = ap (λ xs. rest_of p (works_held xs) st) empty ∙ ap (λ ws. rest_of p ws st) works_held-nil ∙ sym (source_missing p script is)

-- else the call of `main` is
pub main_opened : (p : TypedProgram Label) (script : List ℕ) (f : Function Label) (items : List HeldWork) (st : State) (r : Rest) → r ≡ opens p f st (standing p (works_held items)).goes
    → items ≡ [] → st ≡ beginning p script → slice_get p.functions p.main ≡ Some f → r ≡ source p script
main_opened p script f items st r opened empty begins is =
    opened ∙ ap (λ xs. opens p f st (standing p (works_held xs)).goes) empty ∙ ap (λ ws. opens p f st (standing p ws).goes) works_held-nil
    ∙ ap (λ s. opens p f s (body_goes at_end)) begins ∙ sym (source_main p script f is)
