-- How `run` ends, from what its stages did.
use Rattle.std.proofs.Common.{◌≡◌, ℕ, List, sym, ap, subst, inl, inr, ◌⊎◌}
use Rattle.cerco_base.specs.Outside.IoStates.{SinkState}
use Rattle.sim51.specs.State.{State, reset}
use Rattle.sim51.specs.State.{LoadedMachine}
use Rattle.sim51.specs.Runs.{setup_of, state_after, step_after}
use Rattle.cerco_command.specs.Answers.{Answers}
use Rattle.cerco_command.specs.Inputs.{NoneTooLong, HasNoObject, AreObject}
use Rattle.cerco_command.specs.Running.{RunsTo, RunTexts, PrintsRun, with_names, RunMeansFor}
use Rattle.cerco_command.specs.Words.{RunRequest}
use Rattle.cerco_command.specs.declared.status.Status.{Status}
use Rattle.cerco_command.specs.declared.status.Status.TheVariants.{Done, BadInput, Reserved, NoMemory}
use Rattle.cerco_command.proofs.Answering.{answers_by}
use Rattle.cerco_command.proofs.RunSteps.{stop_status}

-- an object wasn't loaded
pub not_loaded : (names : RunRequest) (texts : RunTexts) (status : Status) (line : List ℕ) → NoneTooLong (with_names names texts) → HasNoObject texts.hex texts.map status line → RunMeansFor names texts status line
not_loaded names texts BadInput line short c = inr (short, c)
not_loaded names texts NoMemory line short c = c
not_loaded names texts status line short c = absurd c

-- what a machine's run prints is meant for the texts that it was loaded from
run_meant : (names : RunRequest) (texts : RunTexts) (machine : LoadedMachine) → NoneTooLong (with_names names texts) → AreObject texts.hex texts.map machine.code machine.labels → machine.state ≡ reset texts.script → (status : Status) (line : List ℕ) → RunsTo (setup_of machine) names.limit status line → RunMeansFor names texts status line
run_meant names texts machine short object is status line runs = by_status (stop_status names.limit (state_after (setup_of machine) runs.steps) (step_after (setup_of machine) runs.steps) status runs.last runs.stops)
  where
    script_is : machine.state.core.script ≡ texts.script
    script_is = ap (λ (s : State). s.core.script) is

    printed : PrintsRun names texts status line
    printed =
        let P : List ℕ → Type 0 = λ script. RunsTo (record { code = machine.code; labels = machine.labels; script = script }) names.limit status line in
        record { code = machine.code; labels = machine.labels; object_read = object; runs = subst P script_is runs }

    by_status : (status ≡ Done) ⊎ (status ≡ Reserved) → RunMeansFor names texts status line
    by_status (inl e) = let P : Status → Type 0 = λ s. PrintsRun names texts s line → RunMeansFor names texts s line in let by : P Done = λ q. (short, q) in subst P (sym e) by printed
    by_status (inr e) = let P : Status → Type 0 = λ s. PrintsRun names texts s line → RunMeansFor names texts s line in let by : P Reserved = λ q. (short, q) in subst P (sym e) by printed

pub run_answered : (names : RunRequest) (texts : RunTexts) (machine : LoadedMachine) (o p : SinkState) (status : Status) → NoneTooLong (with_names names texts) → AreObject texts.hex texts.map machine.code machine.labels → machine.state ≡ reset texts.script → Answers (RunsTo (setup_of machine) names.limit) o p status → Answers (RunMeansFor names texts) o p status
run_answered names texts machine o p status short object is a =
    answers_by (RunsTo (setup_of machine) names.limit) (RunMeansFor names texts) o p status (run_meant names texts machine short object is) a
