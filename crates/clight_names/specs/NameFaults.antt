-- What may be wrong with a name where it stands, and the first wrong name of a program (ISO/IEC 9899:1999, 6.2.1, 6.7, 6.9 and 7.1.3,
-- in the compiler's profile).
use Rattle.std.specs.Prelude.{ℕ, Bool, true, false, ◌&&◌, ◌||◌, not, List, [], ◌∷◌, ◌++◌, length, nat_eq, nat_lt, slice_index_or, Option, Some, None, if◌then◌else◌}
use Rattle.cerco_base.specs.declared.reasons.NameKind.{NameKind}
use Rattle.cerco_base.specs.declared.reasons.NameKind.TheVariants as k
use Rattle.clight_source.specs.Trees.{Program}
use Rattle.clight_names.specs.Spellings.{main_name}
use Rattle.clight_names.specs.declared.occurrences.Role.{Role}
use Rattle.clight_names.specs.declared.occurrences.Role.TheVariants as r
use Rattle.clight_names.specs.declared.occurrences.Occurrence.{Occurrence}
use Rattle.clight_names.specs.declared.regions.Region.TheVariants.{Tags, WholeFile, Within}
use Rattle.clight_names.specs.Regions.{declared_in, is_prototype, is_definition, has_name, declares, declares_more, defines, is_declared}
use Rattle.clight_names.specs.Occurrences.{all_names}

abbrev pub greatest_name : ℕ
greatest_name = 63

abbrev pub spelled : List (List ℕ) → ℕ → List ℕ
spelled names number = slice_index_or names number []

-- 7.1.3: names that begin with `__` are reserved
abbrev pub is_reserved : List ℕ → Bool
is_reserved (x ∷ y ∷ rest) = nat_eq x 95 && nat_eq y 95
is_reserved spelling = false

abbrev pub is_long : List ℕ → Bool
is_long spelling = nat_lt greatest_name (length spelling)

-- it was declared before in its scope, a function otherwise than by a prototype before its definition
abbrev pub is_twice : List Occurrence → Occurrence → Bool
is_twice earlier x =
    elim (declared_in x.role) [
      | Some region ↦ has_name (if is_definition x.role then declares_more region else declares region) earlier x.name.number
      | None ↦ false
    ]

abbrev pub is_same : Option ℕ → ℕ → Bool
is_same None name = false
is_same (Some x) name = nat_eq x name

-- It isn't declared. A struct's tag is known only behind a star among its own members.
abbrev pub is_unknown : List Occurrence → Occurrence → Bool
is_unknown earlier x =
    elim x.role [
      | r.Uses item ↦ not (is_declared (Within item) earlier x.name.number) && not (is_declared WholeFile earlier x.name.number)
      | r.NamesTag starred around ↦ not (is_declared Tags earlier x.name.number) || (not starred && is_same around x.name.number)
      | _ ↦ false
    ]

-- a prototype of a function that the program doesn't define
abbrev pub is_undefined : List Occurrence → Occurrence → Bool
is_undefined all x = is_prototype x.role && not (has_name defines all x.name.number)

-- `main` is declared in the file's scope, and not as `void main(void)`
abbrev pub is_other_form : Role → Bool
is_other_form r.DeclaresGlobal = true
is_other_form (r.DeclaresPrototype plain) = not plain
is_other_form (r.DefinesFunction plain) = not plain
is_other_form role = false

abbrev pub is_wrong_main : List (List ℕ) → Occurrence → Bool
is_wrong_main names x = is_other_form x.role && nat_eq x.name.number (main_name names)

-- the first kind that is there
abbrev pub first_kind : {K : Type 0} → List (Bool × K) → Option K
first_kind [] = None
first_kind (x ∷ rest) = if x.0 then Some x.1 else first_kind rest

abbrev pub name_kind : List (List ℕ) → (all earlier : List Occurrence) → Occurrence → Option NameKind
name_kind names all earlier x =
    first_kind (
    (is_reserved (spelled names x.name.number), k.Reserved)
    ∷ (is_long (spelled names x.name.number), k.Long)
    ∷ (is_twice earlier x, k.Twice)
    ∷ (is_unknown earlier x, k.Unknown)
    ∷ (is_undefined all x, k.Undefined)
    ∷ (is_wrong_main names x, k.Main)
    ∷ [])

-- ---- the first wrong name

pub record NameFault : Type 0 where
  pub at : ℕ
  pub kind : NameKind

abbrev pub name_fault : ℕ → NameKind → NameFault
name_fault at kind = record { at = at; kind = kind }

-- the first of these names that is wrong, where others stand before
abbrev pub first_wrong : List (List ℕ) → (all earlier rest : List Occurrence) → Option NameFault
first_wrong names all earlier [] = None
first_wrong names all earlier (x ∷ rest) =
    elim (name_kind names all earlier x) [ Some kind ↦ Some (name_fault x.name.span.from kind) | None ↦ first_wrong names all (earlier ++ x ∷ []) rest ]

-- at the text's length
abbrev pub missing_main : Program → List Occurrence → Option NameFault
missing_main p all = if has_name defines all (main_name p.names) then None else Some (name_fault p.span.to k.Main)

abbrev pub or_else : {A : Type 0} → Option A → Option A → Option A
or_else (Some x) y = Some x
or_else None y = y

-- the first wrong name of a program, in the order of the text
abbrev pub first_name_fault : Program → Option NameFault
first_name_fault p = or_else (first_wrong p.names (all_names p) [] (all_names p)) (missing_main p (all_names p))
