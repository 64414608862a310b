-- How the table of the labels of all addresses grows, one label after another, and that of their slots, one address after another.
use Rattle.std.proofs.Common.{◌≡◌, ℕ, suc, ◌+◌, ◌<◌, ◌≤◌, List, [], ◌∷◌, ◌++◌, Option, Some, None, true, false, sym, ap, ◌∙◌, arith, get_or, set, take, length, inl, inr, nat_eq, length-take, length-append, subst}
use Rattle.std.specs.Prelude.{◌==◌, ◌||◌, slice_get}
use Rattle.std.specs.List.{IsDistinct, list_any}
use Rattle.std.proofs.lemmas.List.{get_or-take, get_or-set_same, get_or-set_other, take_more, length-set, get_or_append_left, get_or_push}
use Rattle.std.proofs.lemmas.Option.{slice_get_read, slice_get_within, get_or_from_slice_get}
use Rattle.std.proofs.lemmas.Map.Keys.{apart_from_distinct}
use Rattle.std.proofs.lemmas.Bool.Decides.{eqb_tells}
use Rattle.std.proofs.lemmas.Map.Steps.{length-le_from_distinct_below}
use Rattle.cerco_base.specs.declared.events.Label.{Label}
use Rattle.sim51.specs.declared.slots.Slot.{Slot}
use Rattle.sim51.specs.Step.{instr_at, label_at}
use Rattle.sim51.specs.Code.Slots.{AreSlots, slot_by, slot_of}
use Rattle.sim51.proofs.Labels.{label_at-push, label_at-first}

-- this table has the label at each address
pub record IsTable (labels : List ℕ) (table : List (Option Label)) : Type 0 where
  pub count : length table ≡ 65536
  pub each : (a : ℕ) → a < 65536 → get_or table a None ≡ label_at labels a

pub table_grows : (labels : List ℕ) (table : List (Option Label)) (i at : ℕ) → IsDistinct nat_eq labels → i < length labels → get_or labels i 0 ≡ at → at < 65536 → IsTable (take i labels) table → IsTable (take (i + 1) labels) (set table at (Some (record { 0 = i })))
table_grows labels table i at distinct within here low t =
    let count_of_front : length (take i labels) ≡ i = length-take i labels ∙ omega arith in
    let grown : take (i + 1) labels ≡ take i labels ++ at ∷ [] = take_more labels i 0 within ∙ ap (λ x. take i labels ++ x ∷ []) here in
    let apart : (j : ℕ) → j < length (take i labels) → get_or (take i labels) j 0 == at ≡ false =
    λ j lt. let lower : j < i = omega arith in
    ap (λ x. x == at) (get_or-take i labels j 0 lower) ∙ ap (λ x. get_or labels j 0 == x) (sym here) ∙ apart_from_distinct nat_eq labels j i 0 distinct lower within in
    record {
      count = length-set table at (Some (record { 0 = i })) ∙ t.count;
      each = λ a low_a. elim (eqb_tells at a) [
        | inl same ↦
            let first : label_at (take i labels ++ at ∷ []) at ≡ Some (record { 0 = i }) = label_at-first (take i labels) at [] apart ∙ ap (λ n. Some (record { 0 = n })) count_of_front in
            subst (λ b. get_or (set table at (Some (record { 0 = i }))) b None ≡ label_at (take (i + 1) labels) b) same.1
            (get_or-set_same table at (Some (record { 0 = i })) None (omega (arith, t.count)) ∙ sym (ap (λ l. label_at l at) grown ∙ first))
        | inr other ↦
            get_or-set_other table at a (Some (record { 0 = i })) None (λ e. other.1 (sym e))
            ∙ t.each a low_a
            ∙ sym (ap (λ l. label_at l a) grown ∙ label_at-push (take i labels) at a other.1)
      ];
    }

-- distinct addresses of 16 bits are at most 65,536
pub at_most_all : (labels : List ℕ) → IsDistinct nat_eq labels → ((k : ℕ) → k < length labels → get_or labels k 0 < 65536) → length labels ≤ 65536
at_most_all labels distinct low = length-le_from_distinct_below labels 65536 distinct (λ q found. below_if_any q labels low found)
  where
    below_if_any : (q : ℕ) (xs : List ℕ) → ((k : ℕ) → k < length xs → get_or xs k 0 < 65536) → list_any (nat_eq q) xs ≡ true → q < 65536
    below_if_any q [] each found = absurd cc
    below_if_any q (x ∷ xs) each found =
        elim (eqb_tells q x) [
          | inl same ↦ let first = each 0 (omega arith) in omega (arith, first, same.1)
          | inr other ↦ below_if_any q xs (λ k lt. each (suc k) (omega arith)) (ap (λ b. b || list_any (nat_eq q) xs) (sym other.0) ∙ found)
        ]

-- the slots of the addresses below n, made from the labels of all addresses
pub record AreSlotsBelow (code labels : List ℕ) (table : List (Option Label)) (n : ℕ) (slots : List Slot) : Type 0 where
  pub addresses : length table ≡ 65536
  pub labelled : (a : ℕ) → a < 65536 → slice_get table a ≡ Some (label_at labels a)
  pub count : length slots ≡ n
  pub each : (a : ℕ) → a < n → slice_get slots a ≡ Some (slot_of code labels a)

length-push : {A : Type 0} (xs : List A) (y : A) → length (xs ++ y ∷ []) ≡ length xs + 1
length-push xs y = length-append xs (y ∷ [])

slice_get-push : {A : Type 0} (xs : List A) (y x : A) (i : ℕ) → slice_get xs i ≡ Some x → slice_get (xs ++ y ∷ []) i ≡ Some x
slice_get-push xs y x i here =
    let within = slice_get_within xs i x here in
    slice_get_read (xs ++ y ∷ []) (length xs + 1) i x (sym (length-push xs y)) (omega arith) (sym (get_or_append_left xs (y ∷ []) x i within ∙ get_or_from_slice_get xs i x x here))

slice_get-push_last : {A : Type 0} (xs : List A) (y : A) (i : ℕ) → length xs ≡ i → slice_get (xs ++ y ∷ []) i ≡ Some y
slice_get-push_last xs y i last =
    slice_get_read (xs ++ y ∷ []) (length xs + 1) i y (sym (length-push xs y)) (omega arith) (sym (get_or_push xs y y i last))

pub slots_grow : (code labels : List ℕ) (table : List (Option Label)) (n : ℕ) (slots : List Slot) (slot : Slot) (label : Option Label) → AreSlotsBelow code labels table n slots → n < 65536 → slice_get table n ≡ Some label → slot ≡ slot_by (instr_at code n) label n → AreSlotsBelow code labels table (n + 1) (slots ++ slot ∷ [])
slots_grow code labels table n slots slot label below low read made =
    let same : label ≡ label_at labels n = let both = sym read ∙ below.labelled n low in cc in
    let right : slot ≡ slot_of code labels n = made ∙ ap (λ l. slot_by (instr_at code n) l n) same in
    record {
      addresses = below.addresses;
      labelled = below.labelled;
      count = length-push slots slot ∙ ap (λ k. k + 1) below.count;
      each = λ a lt. elim (eqb_tells a n) [
        | inl last ↦ subst (λ b. slice_get (slots ++ slot ∷ []) b ≡ Some (slot_of code labels b)) (sym last.1) (slice_get-push_last slots slot n below.count ∙ ap Some right)
        | inr before ↦ slice_get-push slots slot _ a (below.each a (let lower : a < n = omega (arith, before.1) in lower))
      ];
    }

pub no_slots : (code labels : List ℕ) (items table : List (Option Label)) (slots : List Slot) → length items ≡ 65536 → ((a : ℕ) → a < 65536 → slice_get items a ≡ Some (label_at labels a)) → table ≡ items → slots ≡ [] → AreSlotsBelow code labels table 0 slots
no_slots code labels items table slots addresses labelled same none = record {
  addresses = ap length same ∙ addresses;
  labelled = λ a low. ap (λ l. slice_get l a) same ∙ labelled a low;
  count = ap length none;
  each = λ a low. absurd (omega arith);
}

pub all_slots : (code labels : List ℕ) (table : List (Option Label)) (n : ℕ) (slots : List Slot) → AreSlotsBelow code labels table n slots → n ≡ length table → AreSlots code labels slots
all_slots code labels table n slots below all =
    let whole : n ≡ 65536 = all ∙ below.addresses in
    record {
      count = below.count ∙ whole;
      each = λ a low. below.each a (omega (arith, whole));
    }
