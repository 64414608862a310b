-- A source that has room is built, from what an answer means.
use Rattle.std.proofs.Common.{◌≡◌, ℕ, List, Option, Some, None, IsTrue, refl, sym, subst, inl, inr, ◌⊎◌}
use Rattle.cerco_base.specs.Outside.IoFaults.{Rose}
use Rattle.cerco_base.specs.Outside.IoStates.{FilesState, SinkState}
use Rattle.cerco_base.specs.Outside.IoCalls.{Adds, AddsPrefix}
use Rattle.cerco_pipeline.specs.Programs.{HasRoomByText}
use Rattle.cerco_command.specs.Answers.{FellShort, Answers}
use Rattle.cerco_command.specs.Building.{SaysRefused, BuildMeans}
use Rattle.cerco_command.specs.Complete.{HasRoomUnder, IsDone, BuildsAll}
use Rattle.cerco_command.specs.Status.{code_of}
use Rattle.cerco_command.specs.Top.{Means}
use Rattle.cerco_command.specs.Words.{BuildFiles, Request, Builds, Runs, Lists, GivesCosts, Erases, Tells}
use Rattle.cerco_command.specs.declared.status.Status.{Status}
use Rattle.cerco_command.specs.declared.status.Status.TheVariants.{Done, NoFile, Refused, NoRoom, FileFault, OutFault, NoMemory}
use Rattle.cerco_command.proofs.OneTree.{program_or_reason}

-- what stands under a name is one text
one_there : (s : FilesState) (name a b : List ℕ) → s.file name ≡ Some a → s.file name ≡ Some b → a ≡ b
one_there s name a b e f = cc

there_or_none : (s : FilesState) (name a : List ℕ) → s.file name ≡ Some a → s.file name ≡ None → ⊥
there_or_none s name a e f = cc

-- a source that has room has no reason
no_reason : (source line : List ℕ) → HasRoomByText source → SaysRefused source line → ⊥
no_reason source line room says = program_or_reason source room.program says.0 room.is_program says.1

module _ (files : BuildFiles) (s t : FilesState) (known : IsTrue s.known) (under : HasRoomUnder s files.source) (quiet : Rose s.faults t.faults → ⊥) where
  -- it is meant that `build` is done, or out of memory
  done_meant : (meant : Status) (line : List ℕ) → BuildMeans files s t meant line → IsDone (code_of meant)
  done_meant Done line m = inl refl
  done_meant NoMemory line m = inr refl
  done_meant NoFile line m = absurd (there_or_none s files.source under.source under.there (m.1 known).0)
  done_meant Refused line m =
      let same = one_there s files.source under.source m.0 under.there (m.2 known).read in
      absurd (no_reason m.0 line (subst HasRoomByText same under.room) m.1)
  done_meant NoRoom line m =
      let same = one_there s files.source under.source m.0 under.there (m.2 known).read in
      absurd (m.1.not_by_text (subst HasRoomByText same under.room))
  done_meant FileFault line m = absurd (quiet m.1)
  done_meant meant line m = absurd m

-- an output that doesn't fail falls short only when out of memory
short_done : (o p : SinkState) (line : List ℕ) (status : Status) → (Rose o.faults p.faults → ⊥) → FellShort o p line status → IsDone (code_of status)
short_done o p line OutFault silent f = absurd (silent f.0)
short_done o p line NoMemory silent f = inr refl
short_done o p line status silent f = absurd f

build_done : (files : BuildFiles) (s t : FilesState) (o p : SinkState) (status : Status) → Answers (BuildMeans files s t) o p status → IsTrue s.known → HasRoomUnder s files.source → (Rose s.faults t.faults → ⊥) → (Rose o.faults p.faults → ⊥) → IsDone (code_of status)
build_done files s t o p status a known under quiet silent = cases a.says.puts
  where
    cases : ((status ≡ a.meant) × Adds o p a.text) ⊎ (FellShort o p a.text status × AddsPrefix o p a.text) → IsDone (code_of status)
    cases (inl e) = subst (λ (st : Status). IsDone (code_of st)) (sym e.0) (done_meant files s t known under quiet a.meant a.text a.means)
    cases (inr f) = short_done o p a.text status silent f.0

pub builds_all : (request : Option Request) (s t : FilesState) (o p : SinkState) (status : Status) → Answers (Means request s t) o p status → BuildsAll request s t o p (code_of status)
builds_all (Some (Builds files)) s t o p status a = build_done files s t o p status a
builds_all (Some (Runs words)) s t o p status a = tt
builds_all (Some (Lists hex)) s t o p status a = tt
builds_all (Some (GivesCosts files)) s t o p status a = tt
builds_all (Some (Erases text)) s t o p status a = tt
builds_all (Some (Tells words)) s t o p status a = tt
builds_all None s t o p status a = tt
