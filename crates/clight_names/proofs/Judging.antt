-- The first wrong name is found by going over the names.
use Rattle.std.proofs.Common.{◌≡◌, ℕ, ◌+◌, ◌<◌, Bool, true, false, cond, ◌&&◌, ◌||◌, List, [], ◌∷◌, ◌++◌, length, take, drop, get_or, nat_eq, refl, sym, ap, subst, ◌∙◌, add-one, drop-cons}
use Rattle.std.specs.Prelude.{Option, Some, None, Err}
use Rattle.std.specs.HashSet.{HashSet, Updates}
use Rattle.std.proofs.lemmas.List.{take_more}
use Rattle.std.proofs.lemmas.List.Folds.{list_any-append}
use Rattle.cerco_base.specs.declared.reasons.NameKind.{NameKind}
use Rattle.cerco_base.specs.declared.reasons.Fault.{Fault}
use Rattle.cerco_base.specs.declared.reasons.Fault.TheVariants as f
use Rattle.cerco_base.specs.declared.reasons.Reason.TheVariants as r
use Rattle.clight_names.specs.declared.occurrences.Occurrence.{Occurrence}
use Rattle.clight_names.specs.declared.known.Known.{Known}
use Rattle.clight_names.specs.Regions.{has_name, defines}
use Rattle.clight_names.specs.Code.Knowledge.{AreDefined, Knows}
use Rattle.clight_names.specs.NameFaults.{NameFault, name_fault, name_kind, first_wrong}
use Rattle.clight_names.specs.Outcomes.{AnswersFault}

-- ---- the defined functions

has_more : (counts : Occurrence → Bool) (names : List Occurrence) (x : Occurrence) (name : ℕ) → has_name counts (names ++ x ∷ []) name ≡ (has_name counts names name || ((nat_eq x.name.number name && counts x) || false))
has_more counts names x name = list_any-append (λ (y : Occurrence). nat_eq y.name.number name && counts y) names (x ∷ [])

joined : (d n a : Bool) → d ≡ true → cond n true a ≡ (a || ((n && d) || false))
joined true true true e = refl
joined true true false e = refl
joined true false true e = refl
joined true false false e = refl
joined false n a e = cc

left_out : (d n a : Bool) → d ≡ false → a ≡ (a || ((n && d) || false))
left_out false true true e = refl
left_out false true false e = refl
left_out false false true e = refl
left_out false false false e = refl
left_out true n a e = cc

pub defined_more : {S : Type 0} (old new : HashSet ℕ S) (x : Occurrence) → defines x ≡ true → Updates nat_eq old new x.name.number true → (names : List Occurrence) → AreDefined old names → AreDefined new (names ++ x ∷ [])
defined_more old new x is updates names known name =
    updates.0 name
    ∙ ap (λ a. cond (nat_eq x.name.number name) true a) (known name)
    ∙ joined (defines x) (nat_eq x.name.number name) (has_name defines names name) is
    ∙ sym (has_more defines names x name)

pub defined_still : {S : Type 0} (old : HashSet ℕ S) (x : Occurrence) → defines x ≡ false → (names : List Occurrence) → AreDefined old names → AreDefined old (names ++ x ∷ [])
defined_still old x is names known name =
    known name ∙ left_out (defines x) (nat_eq x.name.number name) (has_name defines names name) is ∙ sym (has_more defines names x name)

pub defined_on : {S : Type 0} (old new : HashSet ℕ S) (xs : List Occurrence) (i : ℕ) (d : Occurrence) → i < length xs → AreDefined old (take i xs) → ((names : List Occurrence) → AreDefined old names → AreDefined new (names ++ get_or xs i d ∷ [])) → AreDefined new (take (i + 1) xs)
defined_on old new xs i d within known more = subst (AreDefined new) (sym (take_more xs i d within)) (more (take i xs) known)

pub knows_on : (old new : Known) (xs : List Occurrence) (i : ℕ) (d : Occurrence) → i < length xs → Knows old (take i xs) → ((names : List Occurrence) → Knows old names → Knows new (names ++ get_or xs i d ∷ [])) → Knows new (take (i + 1) xs)
knows_on old new xs i d within known more = subst (Knows new) (sym (take_more xs i d within)) (more (take i xs) known)

-- ---- the first wrong name

module _ (names : List (List ℕ)) (all : List Occurrence) where
  at_place : (xs : List Occurrence) (i : ℕ) (d : Occurrence) → i < length xs → drop i xs ≡ get_or xs i d ∷ drop (i + 1) xs
  at_place xs i d within = drop-cons xs i d within ∙ ap (λ n. get_or xs i d ∷ drop n xs) (sym (add-one i))

  by_kind : (earlier rest : List Occurrence) (x : Occurrence) → Option NameKind → Option NameFault
  by_kind earlier rest x (Some kind) = Some (name_fault x.name.span.from kind)
  by_kind earlier rest x None = first_wrong names all (earlier ++ x ∷ []) rest

  by_kind_is : (earlier rest : List Occurrence) (x : Occurrence) (o : Option NameKind) → o ≡ name_kind names all earlier x → first_wrong names all earlier (x ∷ rest) ≡ by_kind earlier rest x o
  unfolding by_kind
  by_kind_is earlier rest x o e = ap (by_kind earlier rest x) (sym e)

  pub right_on : (whole : Option NameFault) (xs : List Occurrence) (i : ℕ) (d : Occurrence) → i < length xs → whole ≡ first_wrong names all (take i xs) (drop i xs) → None ≡ name_kind names all (take i xs) (get_or xs i d) → whole ≡ first_wrong names all (take (i + 1) xs) (drop (i + 1) xs)
  unfolding by_kind
  right_on whole xs i d within here right =
      here
      ∙ ap (λ l. first_wrong names all (take i xs) l) (at_place xs i d within)
      ∙ by_kind_is (take i xs) (drop (i + 1) xs) (get_or xs i d) None right
      ∙ ap (λ l. first_wrong names all l (drop (i + 1) xs)) (sym (take_more xs i d within))

  pub wrong_here : (whole : Option NameFault) (xs : List Occurrence) (i : ℕ) (d : Occurrence) (kind : NameKind) → i < length xs → whole ≡ first_wrong names all (take i xs) (drop i xs) → Some kind ≡ name_kind names all (take i xs) (get_or xs i d) → whole ≡ Some (name_fault (get_or xs i d).name.span.from kind)
  unfolding by_kind
  wrong_here whole xs i d kind within here wrong =
      here
      ∙ ap (λ l. first_wrong names all (take i xs) l) (at_place xs i d within)
      ∙ by_kind_is (take i xs) (drop (i + 1) xs) (get_or xs i d) (Some kind) wrong

pub refusal : (fault : Fault) (at : ℕ) (kind : NameKind) (expected : Option NameFault) → fault ≡ f.Refused (r.Name at kind) → expected ≡ Some (name_fault at kind) → AnswersFault {A = Unit {0}} (Err fault) expected
refusal fault at kind expected is e =
    let P : Fault → Type 0 = λ v. AnswersFault {A = Unit {0}} (Err v) expected in
    subst P (sym is) e
