-- Bytes under names in memory: what the files of the tests are made of.
use Rattle.std.specs.Prelude.{◌≡◌, ℕ, List, Option, Some, option_map, false, bytes_eq}
use Rattle.std.specs.BTreeMap.{get_by_text}
use Rattle.cerco_base.specs.declared.outside.file_store.Store.{Store}

-- the bytes under each name
abbrev pub file_of : Store → List ℕ → Option (List ℕ)
file_of s q = option_map (λ v. v.items) (get_by_text s.files q)

-- this name now has these bytes, and every other name is as it was
pub record SetsFile (old new : List ℕ → Option (List ℕ)) (name bytes : List ℕ) : Type 0 where
  pub here : new name ≡ Some bytes
  pub others : (q : List ℕ) → bytes_eq name q ≡ false → new q ≡ old q

abbrev pub SameNames : (List ℕ → Option (List ℕ)) → (List ℕ → Option (List ℕ)) → Type 0
SameNames old new = (q : List ℕ) → new q ≡ old q
