-- The relaxed layout of an assembly program: each jump begins in its shortest form, and grows where it doesn't reach (T. G. Szymanski,
-- Assembling code for machines with span-dependent instructions, CACM 21, 1978; CerCo, deliverable 4.1). It grows by whole rounds: all
-- jumps of a round are judged by the addresses at its beginning (own; another order gives other layouts, since growth can bring a
-- jump into the page of its target).
use Rattle.std.specs.Prelude.{◌≡◌, ℕ, zero, suc, ◌+◌, ◌*◌, ◌/◌, ◌≤◌, List, [], ◌∷◌, drop, Option, Some, None, Bool, true, false, if◌then◌else◌, ◌&&◌, nat_eq, nat_le}
use Rattle.asm51.specs.declared.items.AsmItem.{AsmItem}
use Rattle.asm51.specs.declared.items.AsmItem.TheVariants.{Jump, Test}
use Rattle.asm51.specs.declared.layouts.Form.{Form}
use Rattle.asm51.specs.Items.{target_of, jump_count}
use Rattle.asm51.specs.Layouts.{first_form, address, all_in}

-- a relative jump reaches from 128 addresses before the next instruction to 127 after it
abbrev pub is_near : ℕ → ℕ → Bool
is_near next target = nat_le next (target + 128) && nat_le target (next + 127)

-- AJMP reaches within the 2,048 addresses that have the top five bits of the next instruction's address
abbrev pub same_page : ℕ → ℕ → Bool
same_page next target = nat_eq (next / 2048) (target / 2048)

-- whether an item reaches its target in a form, where the instruction after the shorter forms stands at `next`: a test has no page
-- form, the long form always reaches, and so does what is no jump
abbrev pub reaches : ℕ → ℕ → AsmItem → Form → Bool
reaches next target (Jump f n) Form.Short = is_near next target
reaches next target (Jump f n) Form.Page = same_page next target
reaches next target (Test f n) Form.Short = is_near next target
reaches next target (Test f n) Form.Page = false
reaches next target item form = true

-- the first of the forms from this one on that reaches
abbrev pub least_from : (Form → Bool) → Form → Form
least_from reach Form.Short = if reach Form.Short then Form.Short else if reach Form.Page then Form.Page else Form.Long
least_from reach Form.Page = if reach Form.Page then Form.Page else Form.Long
least_from reach Form.Long = Form.Long

abbrev pub grown : ℕ → ℕ → AsmItem → Option Form → Option Form
grown next target item None = None
grown next target item (Some form) = Some (least_from (reaches next target item) form)

-- a round over the items from item k on, by the address of each item and the item that it leads to; the shorter forms have two bytes
abbrev pub round_from : (ℕ → ℕ) → (AsmItem → ℕ) → ℕ → List AsmItem → List (Option Form) → List (Option Form)
round_from at target k [] forms = []
round_from at target k (item ∷ items) forms =
    grown (at k + 2) (at (target item)) item (first_form forms) ∷ round_from at target (suc k) items (drop 1 forms)

unfoldable pub round : List AsmItem → List (Option Form) → List (Option Form)
round items forms = round_from (address items forms) (target_of items) 0 items forms

-- the layout after n rounds
abbrev pub rounds : List AsmItem → ℕ → List (Option Form)
rounds items zero = all_in Form.Short items
rounds items (suc n) = round items (rounds items n)

-- The forms are those of the first layout that repeats. It comes after at most twice as many rounds as there are jumps.
pub record IsRelaxed (items : List AsmItem) (forms : List (Option Form)) : Type 0 where
  pub count : ℕ
  pub few : count ≤ 2 * jump_count items
  pub made : forms ≡ rounds items count
  pub stays : round items forms ≡ forms
