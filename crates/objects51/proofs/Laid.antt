-- Where the items of a layout stand in its code.
use Rattle.std.proofs.Common.{◌≡◌, ℕ, zero, suc, ◌+◌, ◌-◌, ◌<◌, ◌≤◌, List, [], ◌∷◌, ◌++◌, Option, Some, None, true, refl, sym, ap, ap₂, ◌∙◌, subst, arith, length, slice_get, take, drop, append_assoc, length-append}
use Rattle.std.proofs.lemmas.Option.{slice_get_within, slice_get-get_or, get_or_from_slice_get}
use Rattle.mcs51_isa.specs.declared.instr.Instr.TheVariants.{Nop}
use Rattle.sim51.specs.Placed.{code_of_instrs, bytes_of, Stands}
use Rattle.sim51.proofs.Placed.{instrs_there, length-code_of_instrs}
use Rattle.asm51.specs.declared.items.AsmItem.{AsmItem}
use Rattle.asm51.specs.declared.items.AsmItem.TheVariants.{Plain}
use Rattle.asm51.specs.declared.layouts.Form.{Form}
use Rattle.asm51.specs.Items.{target_of}
use Rattle.asm51.specs.Instructions.{instructions, item_size}
use Rattle.asm51.specs.Layouts.{first_form, total, sizes, address, code_length}
use Rattle.asm51.specs.Relaxation.{reaches, IsRelaxed}
use Rattle.asm51.specs.Emission.{target_address, code_from, code_of}
use Rattle.asm51.proofs.Sizes.{size_anywhere}
use Rattle.asm51.proofs.Addresses.{item_at, form_at, first_form_at, next_form_at, address_end, address_next}
use Rattle.asm51.proofs.Rounds.{rounds_length, relaxed_reaches}

-- a part of the code has other code before and after it
pub record IsPart (code : List ℕ) (part : List ℕ) (bytes : ℕ) : Type 0 where
  pub before : List ℕ
  pub after : List ℕ
  pub whole : code ≡ before ++ (part ++ after)
  pub length : length before ≡ bytes

item_part : (at : ℕ → ℕ) (target : AsmItem → ℕ) (k : ℕ) (items : List AsmItem) (forms : List (Option Form)) (j n : ℕ) (item : AsmItem) (form : Option Form) → slice_get items j ≡ Some item → form ≡ form_at forms j → n ≡ k + j
    → IsPart (code_from at target k items forms) (code_of_instrs (instructions (at n) (target item) item form)) (total (take j (sizes items forms)))
item_part at target k [] forms j n item form e f g = absurd cc
item_part at target k (x ∷ items) forms zero n item form e f g =
    let q : x ≡ item = cc in
    let m : k ≡ n = omega arith in
    let o : first_form forms ≡ form = first_form_at forms ∙ sym f in
    let same : code_of_instrs (instructions (at k) (target x) x (first_form forms)) ≡ code_of_instrs (instructions (at n) (target item) item form) =
    ap (λ p. code_of_instrs (instructions (at p) (target x) x (first_form forms))) m
    ∙ ap₂ (λ y o. code_of_instrs (instructions (at n) (target y) y o)) q o in
    record { before = []; after = code_from at target (suc k) items (drop 1 forms); whole = ap (λ l. l ++ code_from at target (suc k) items (drop 1 forms)) same; length = refl }
item_part at target k (x ∷ items) forms (suc j) n item form e f g =
    let is = instructions (at k) (target x) x (first_form forms) in
    let rest = item_part at target (suc k) items (drop 1 forms) j n item form e (f ∙ sym (next_form_at forms j)) (omega arith) in
    record {
      before = code_of_instrs is ++ rest.before;
      after = rest.after;
      whole = ap (λ l. code_of_instrs is ++ l) rest.whole ∙ sym (append_assoc (code_of_instrs is) rest.before _);
      length = length-append (code_of_instrs is) rest.before ∙ ap₂ (λ m n. m + n) (length-code_of_instrs is ∙ size_anywhere (at k) (target x) x (first_form forms)) rest.length;
    }

-- An item stands at its address, and the next one after it.
pub record IsLaid (code : List ℕ) (at : ℕ → ℕ) (k target : ℕ) (item : AsmItem) (form : Option Form) : Type 0 where
  pub stands : Stands code (at k) (instructions (at k) target item form)
  pub next : at (suc k) ≡ at k + bytes_of (instructions (at k) target item form)

module _ (items : List AsmItem) (forms : List (Option Form)) (fits : code_length items forms ≤ 65536) where
  pub item_laid : (k : ℕ) (item : AsmItem) → slice_get items k ≡ Some item → IsLaid (code_of items forms) (address items forms) k (target_address items forms item) item (form_at forms k)
  unfolding code_of
  item_laid k item e =
      let at = address items forms in
      let is = instructions (at k) (target_address items forms item) item (form_at forms k) in
      let part = item_part at (target_address items forms) 0 items forms k k item (form_at forms k) e refl (omega arith) in
      let s : suc k ≡ k + 1 = omega arith in
      let same : item_at items k ≡ item = get_or_from_slice_get items k item (Plain Nop) e in
      let size : bytes_of is ≡ item_size item (form_at forms k) = size_anywhere (at k) (target_address items forms item) item (form_at forms k) in
      let next : at (suc k) ≡ at k + item_size item (form_at forms k) =
      ap at s ∙ address_next items forms k (slice_get_within items k item e) ∙ ap (λ x. at k + item_size x (form_at forms k)) same in
      let room : length part.before + length (code_of_instrs is) ≤ 65536 = omega (arith, part.length, length-code_of_instrs is, size, next, address_end items forms (suc k), fits) in
      let there : Stands (code_of items forms) (length part.before) is = subst (λ l. Stands l (length part.before) is) (sym part.whole) (instrs_there is part.before part.after room) in
      record { stands = subst (λ a. Stands (code_of items forms) a is) part.length there; next = next ∙ ap (λ n. at k + n) (sym size) }

total_grows : (k : ℕ) (ns : List ℕ) → total (take k ns) ≤ total (take (suc k) ns)
total_grows zero [] = omega arith
total_grows zero (n ∷ ns) = omega arith
total_grows (suc k) [] = omega arith
total_grows (suc k) (n ∷ ns) = omega (arith, total_grows k ns)

rises_by : (items : List AsmItem) (forms : List (Option Form)) (d i : ℕ) → address items forms i ≤ address items forms (d + i)
rises_by items forms zero i = let e : i ≡ 0 + i = omega arith in subst (λ n. address items forms i ≤ address items forms n) e (omega arith)
rises_by items forms (suc d) i =
    let e : suc (d + i) ≡ suc d + i = omega arith in
    subst (λ n. address items forms i ≤ address items forms n) e (omega (arith, rises_by items forms d i, total_grows (d + i) (sizes items forms)))

-- later items stand at no lower address
pub rises : (items : List AsmItem) (forms : List (Option Form)) (i j : ℕ) → i ≤ j → address items forms i ≤ address items forms j
rises items forms i j le = let e : j - i + i ≡ j = omega arith in subst (λ n. address items forms i ≤ address items forms n) e (rises_by items forms (j - i) i)

-- the form of an item reaches
pub form_reaches : (items : List AsmItem) (forms : List (Option Form)) (k : ℕ) (item : AsmItem) (form : Form) → IsRelaxed items forms → slice_get items k ≡ Some item → form_at forms k ≡ Some form
    → reaches (address items forms k + 2) (address items forms (target_of items item)) item form ≡ true
form_reaches items forms k item form r e f =
    let within : k < length forms = omega (arith, slice_get_within items k item e, ap length r.made, rounds_length items r.count) in
    relaxed_reaches items forms r k item form e (slice_get-get_or forms k None within ∙ ap (λ o. Some o) f)
