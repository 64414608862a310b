-- Items added one after the other.
use Rattle.std.proofs.Common.{◌≡◌, ℕ, Bool, true, ◌+◌, ◌<◌, List, ◌∷◌, ◌++◌, length, get_or, drop, drop-cons, add-one, sym, ap, ◌∙◌, append_assoc}
use Rattle.std.proofs.lemmas.List.{map-append}
use Rattle.mcs51_isa.specs.declared.instr.Instr.{Instr}
use Rattle.rtl.specs.declared.locations.Place.{Place}
use Rattle.asm51.specs.declared.items.AsmItem.{AsmItem}
use Rattle.asm51.specs.declared.items.AsmItem.TheVariants.{Plain}
use Rattle.asm51_select.specs.Translation.{plains}

-- what is added next, of all that is to be added
pub added : {A : Type 0} (items items' now rest whole : List A) → items ++ (now ++ rest) ≡ whole → items' ≡ items ++ now → items' ++ rest ≡ whole
added items items' now rest whole before is = ap (λ z. z ++ rest) is ∙ append_assoc items now rest ∙ before

pub plains_append : (is js : List Instr) → plains (is ++ js) ≡ plains is ++ plains js
plains_append is js = map-append Plain is js

pub added_plains : (items items' : List AsmItem) (now rest : List Instr) (whole : List AsmItem) → items ++ plains (now ++ rest) ≡ whole → items' ≡ items ++ plains now → items' ++ plains rest ≡ whole
added_plains items items' now rest whole before is = added items items' (plains now) (plains rest) whole (ap (λ z. items ++ z) (sym (plains_append now rest)) ∙ before) is

-- two parts added one after the other
pub added_both : (items items' items'' : List AsmItem) (is js : List Instr) → items' ≡ items ++ plains is → items'' ≡ items' ++ plains js → items'' ≡ items ++ plains (is ++ js)
added_both items items' items'' is js a b = b ∙ ap (λ z. z ++ plains js) a ∙ append_assoc items (plains is) (plains js) ∙ ap (λ z. items ++ z) (sym (plains_append is js))

-- a load or a store is added, of those of a list of places
module _ (first : Bool → Place → List Instr) (each : Bool → List Place → List Instr) (one : (raised : Bool) (p : Place) (ps : List Place) → each raised (p ∷ ps) ≡ first raised p ++ each true ps) where
  pub added_place : (raised : Bool) (places : List Place) (k : ℕ) (d : Place) (items items' whole : List AsmItem) → k < length places → items ++ plains (each raised (drop k places)) ≡ whole → items' ≡ items ++ plains (first raised (get_or places k d)) → items' ++ plains (each true (drop (k + 1) places)) ≡ whole
  added_place raised places k d items items' whole lt before is =
      let p = get_or places k d in
      let rest = drop (k + 1) places in
      let here : drop k places ≡ p ∷ rest = drop-cons places k d lt ∙ ap (λ n. p ∷ drop n places) (sym (add-one k)) in
      added_plains items items' (first raised p) (each true rest) whole (ap (λ z. items ++ plains z) (sym (ap (each raised) here ∙ one raised p rest)) ∙ before) is
