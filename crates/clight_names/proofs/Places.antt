-- Two places are the same by the comparison of the program where they are by that of the definitions.
use Rattle.std.proofs.Common.{◌≡◌, ℕ, Bool, true, false, cond, ◌&&◌, ◌||◌, not, List, [], ◌∷◌, ◌++◌, nat_eq, refl, sym, ap, subst, ◌∙◌}
use Rattle.std.specs.Prelude.{Some, None, if◌then◌else◌}
use Rattle.std.specs.HashSet.{HashSet, contains, Updates}
use Rattle.std.proofs.lemmas.List.Folds.{list_any-append}
use Rattle.clight_names.specs.declared.occurrences.Occurrence.{Occurrence}
use Rattle.clight_names.specs.declared.regions.Region.{Region}
use Rattle.clight_names.specs.declared.regions.Region.TheVariants.{Tags, Members, WholeFile, Within}
use Rattle.clight_names.specs.declared.regions.Place.{Place}
use Rattle.clight_names.specs.declared.known.Known.{Known}
use Rattle.clight_names.specs.Regions.{place_eq, region_eq, declared_in, is_prototype, is_region, has_name, declares, declares_more}
use Rattle.clight_names.specs.Code.Knowledge.{Knows}
use Rattle.clight_names.specs.contracts.regions.PlacePartialEq.TheImpl.{ghosts}

place : Region → ℕ → Place
place region name = record { region = region; name = name }

same_at : (r s : Region) (n m : ℕ) → ghosts.eq (place r n) (place s m) ≡ place_eq (place r n) (place s m)
unfolding place
same_at Tags Tags n m = refl
same_at Tags (Members j) n m = refl
same_at Tags WholeFile n m = refl
same_at Tags (Within j) n m = refl
same_at (Members i) Tags n m = refl
same_at (Members i) (Members j) n m = refl
same_at (Members i) WholeFile n m = refl
same_at (Members i) (Within j) n m = refl
same_at WholeFile Tags n m = refl
same_at WholeFile (Members j) n m = refl
same_at WholeFile WholeFile n m = refl
same_at WholeFile (Within j) n m = refl
same_at (Within i) Tags n m = refl
same_at (Within i) (Members j) n m = refl
same_at (Within i) WholeFile n m = refl
same_at (Within i) (Within j) n m = refl

pub same_places : ghosts.eq ≡ place_eq
unfolding place
same_places = λ i x y. same_at x.region y.region x.name y.name i

-- ---- sets of places

pub place_added : {S : Type 0} (old new : HashSet Place S) (p : Place) (counts : Bool) → counts ≡ true → Updates ghosts.eq old new p true → (other : Place) → contains place_eq new other ≡ (if counts && place_eq p other then true else contains place_eq old other)
place_added old new p counts is updates other =
    let P : (Place → Place → Bool) → Type 0 = λ eq. contains eq new other ≡ cond (eq p other) true (contains eq old other) in
    let here : P place_eq = subst P same_places (updates.0 other) in
    here ∙ sym (ap (λ b. if b && place_eq p other then true else contains place_eq old other) is)

has_more : (counts : Occurrence → Bool) (names : List Occurrence) (x : Occurrence) (name : ℕ) → has_name counts (names ++ x ∷ []) name ≡ (has_name counts names name || ((nat_eq x.name.number name && counts x) || false))
has_more counts names x name = list_any-append (λ (y : Occurrence). nat_eq y.name.number name && counts y) names (x ∷ [])

with_all : (r n a : Bool) → (if true && (r && n) then true else a) ≡ (a || ((n && r) || false))
with_all true true true = refl
with_all true true false = refl
with_all true false true = refl
with_all true false false = refl
with_all false true true = refl
with_all false true false = refl
with_all false false true = refl
with_all false false false = refl

with_some : (k r n a : Bool) → (if k && (r && n) then true else a) ≡ (a || ((n && (r && k)) || false))
with_some true true true true = refl
with_some true true true false = refl
with_some true true false true = refl
with_some true true false false = refl
with_some true false true true = refl
with_some true false true false = refl
with_some true false false true = refl
with_some true false false false = refl
with_some false true true true = refl
with_some false true true false = refl
with_some false true false true = refl
with_some false true false false = refl
with_some false false true true = refl
with_some false false true false = refl
with_some false false false true = refl
with_some false false false false = refl

with_none : (n a : Bool) → a ≡ (a || ((n && false) || false))
with_none true true = refl
with_none true false = refl
with_none false true = refl
with_none false false = refl

pub knows_more : (old new : Known) (x : Occurrence) (region : Region) → declared_in x.role ≡ Some region → (more : Bool) → more ≡ not (is_prototype x.role)
    → ((other : Place) → contains place_eq new.declared other ≡ (if true && place_eq (record { region = region; name = x.name.number }) other then true else contains place_eq old.declared other))
    → ((other : Place) → contains place_eq new.settled other ≡ (if more && place_eq (record { region = region; name = x.name.number }) other then true else contains place_eq old.settled other))
    → (names : List Occurrence) → Knows old names → Knows new (names ++ x ∷ [])
knows_more old new x region is more right d s names k = record {
  declared = λ p.
      d p
      ∙ ap (λ a. if true && place_eq (record { region = region; name = x.name.number }) p then true else a) (k.declared p)
      ∙ with_all (region_eq region p.region) (nat_eq x.name.number p.name) (has_name (declares p.region) names p.name)
      ∙ ap (λ o. has_name (declares p.region) names p.name || ((nat_eq x.name.number p.name && is_region o p.region) || false)) (sym is)
      ∙ sym (has_more (declares p.region) names x p.name);
  settled = λ p.
      s p
      ∙ ap (λ b. if b && place_eq (record { region = region; name = x.name.number }) p then true else contains place_eq old.settled p) right
      ∙ ap (λ a. if not (is_prototype x.role) && place_eq (record { region = region; name = x.name.number }) p then true else a) (k.settled p)
      ∙ with_some (not (is_prototype x.role)) (region_eq region p.region) (nat_eq x.name.number p.name) (has_name (declares_more p.region) names p.name)
      ∙ ap (λ o. has_name (declares_more p.region) names p.name || ((nat_eq x.name.number p.name && (is_region o p.region && not (is_prototype x.role))) || false)) (sym is)
      ∙ sym (has_more (declares_more p.region) names x p.name);
}

pub knows_still : (old : Known) (x : Occurrence) → declared_in x.role ≡ None → (names : List Occurrence) → Knows old names → Knows old (names ++ x ∷ [])
knows_still old x is names k = record {
  declared = λ p.
      k.declared p
      ∙ with_none (nat_eq x.name.number p.name) (has_name (declares p.region) names p.name)
      ∙ ap (λ o. has_name (declares p.region) names p.name || ((nat_eq x.name.number p.name && is_region o p.region) || false)) (sym is)
      ∙ sym (has_more (declares p.region) names x p.name);
  settled = λ p.
      k.settled p
      ∙ with_none (nat_eq x.name.number p.name) (has_name (declares_more p.region) names p.name)
      ∙ ap (λ o. has_name (declares_more p.region) names p.name || ((nat_eq x.name.number p.name && (is_region o p.region && not (is_prototype x.role))) || false)) (sym is)
      ∙ sym (has_more (declares_more p.region) names x p.name);
}
