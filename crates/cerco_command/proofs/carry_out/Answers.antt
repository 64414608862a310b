use Rattle.std.proofs.Common.{[], map, string_bytes, Option, Some, None, refl, inl}
use Rattle.cerco_base.specs.Outside.IoStates.{FilesState}
use Rattle.cerco_command.specs.Top.{Means}
use Rattle.cerco_command.specs.Words.{Request, Builds, Runs, Lists, GivesCosts, Erases, Tells, request_of}
use Rattle.cerco_command.specs.declared.status.Status.TheVariants.{NoMemory}
use Rattle.cerco_command.proofs.Answering.{answered, says_nothing}
use Rattle.cerco_command.proofs.carry_out.Goals as goal

-- there is no memory before a command is begun
no_memory_meant : (r : Option Request) (s : FilesState) → Means r s s NoMemory []
no_memory_meant (Some (Builds files)) s = (refl, λ h. inl (λ q. refl))
no_memory_meant (Some (Runs files)) s = record { same = λ h q. refl; means = inl refl }
no_memory_meant (Some (Lists hex)) s = record { same = λ h q. refl; means = inl refl }
no_memory_meant (Some (GivesCosts files)) s = record { same = λ h q. refl; means = inl refl }
no_memory_meant (Some (Erases text)) s = record { same = λ h q. refl; means = inl refl }
no_memory_meant (Some (Tells words)) s = record { same = λ h q. refl; means = inl refl }
no_memory_meant None s = (refl, λ h q. refl)

pub returns-in-Err-OutOfMemory-clause-answers : goal.returns-in-Err-OutOfMemory-clause-answers
returns-in-Err-OutOfMemory-clause-answers g c =
    let s = g.F.Files.state c.args.files.now in
    let o = g.O.Sink.state c.args.out.now in
    let request = request_of (map string_bytes c.args.words.now) in
    answered (Means request s s) o o NoMemory [] NoMemory (no_memory_meant request s) (says_nothing o NoMemory)
