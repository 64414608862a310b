-- Files that are read one after the other.
use Rattle.std.proofs.Common.{ℕ, List, sym, ◌∙◌}
use Rattle.cerco_base.specs.Outside.IoStates.{FilesState, SameFiles}
use Rattle.cerco_command.specs.Inputs.{IsRead}

-- what is read later was there before
pub read_from : (limit : ℕ) (s t : FilesState) (name text : List ℕ) → SameFiles s t → IsRead limit t name text → IsRead limit s name text
read_from limit s t name text same r = (r.0, sym (same name) ∙ r.1, r.2)

pub same_on : (s t u : FilesState) → SameFiles s t → SameFiles t u → SameFiles s u
same_on s t u a b q = b q ∙ a q
