-- What a round changes, and that rounds come to one layout that stays.
use Rattle.std.proofs.Common.{◌≡◌, ℕ, zero, suc, ◌+◌, ◌*◌, ◌<◌, ◌≤◌, List, [], ◌∷◌, Option, Some, None, Bool, true, false, cond, if◌then◌else◌, ◌⊎◌, inl, inr, refl, sym, ap, ap₂, ◌∙◌, arith, lit≤, length, map, drop, slice_get, is_some}
use Rattle.asm51.specs.declared.items.AsmItem.{AsmItem}
use Rattle.asm51.specs.declared.items.AsmItem.TheVariants.{Plain, Mark, Enter, Here, Jump, Test, Call}
use Rattle.asm51.specs.declared.layouts.Form.{Form}
use Rattle.asm51.specs.Items.{target_of, is_jump, jump_count}
use Rattle.asm51.specs.Layouts.{first_form, address, all_in}
use Rattle.asm51.specs.Relaxation.{is_near, same_page, reaches, least_from, grown, round_from, round, rounds, IsRelaxed}
use Rattle.asm51.specs.Laws.{OneIsRelaxed, RelaxedReaches, FormsAreOfJumps, LongStays}
use Rattle.asm51.proofs.Counting.{count_more}

-- the place of a form in the order in which forms grow
abbrev pub rank : Option Form → ℕ
rank None = 0
rank (Some Form.Short) = 0
rank (Some Form.Page) = 1
rank (Some Form.Long) = 2

-- how far the jumps of a layout have grown
abbrev pub score : List AsmItem → List (Option Form) → ℕ
score [] forms = 0
score (item ∷ items) forms = cond (is_jump item) (rank (first_form forms)) 0 + score items (drop 1 forms)

rank_le : (form : Option Form) → rank form ≤ 2
rank_le None = lit≤ tt
rank_le (Some Form.Short) = lit≤ tt
rank_le (Some Form.Page) = lit≤ tt
rank_le (Some Form.Long) = lit≤ tt

rank_counted : (b : Bool) (form : Option Form) → cond b (rank form) 0 ≤ 2 * cond b 1 0
rank_counted true form = rank_le form
rank_counted false form = lit≤ tt

pub score_le : (items : List AsmItem) (forms : List (Option Form)) → score items forms ≤ 2 * jump_count items
score_le [] forms = lit≤ tt
score_le (item ∷ items) forms = omega (arith, rank_counted (is_jump item) (first_form forms), score_le items (drop 1 forms), count_more is_jump item items)

-- A form stays, or it is that of a jump and grows.
pub data Steps (item : AsmItem) (old new : Option Form) : Type 0 where
  stays : new ≡ old → Steps item old new
  grows : is_jump item ≡ true → rank old < rank new → Steps item old new

jump_short : (item : AsmItem) (a b : Bool) → is_jump item ≡ true → Steps item (Some Form.Short) (Some (cond a Form.Short (cond b Form.Page Form.Long)))
jump_short item true b e = stays refl
jump_short item false true e = grows e (lit≤ tt)
jump_short item false false e = grows e (lit≤ tt)

jump_page : (item : AsmItem) (b : Bool) → is_jump item ≡ true → Steps item (Some Form.Page) (Some (cond b Form.Page Form.Long))
jump_page item true e = stays refl
jump_page item false e = grows e (lit≤ tt)

pub steps : (next target : ℕ) (item : AsmItem) (form : Option Form) → Steps item form (grown next target item form)
steps next target item None = stays refl
steps next target item (Some Form.Long) = stays refl
steps next target (Jump f n) (Some Form.Short) = jump_short (Jump f n) (is_near next target) (same_page next target) refl
steps next target (Jump f n) (Some Form.Page) = jump_page (Jump f n) (same_page next target) refl
steps next target (Test f n) (Some Form.Short) = jump_short (Test f n) (is_near next target) false refl
steps next target (Test f n) (Some Form.Page) = grows refl (lit≤ tt)
steps next target (Plain i) (Some Form.Short) = stays refl
steps next target (Plain i) (Some Form.Page) = stays refl
steps next target (Mark l) (Some Form.Short) = stays refl
steps next target (Mark l) (Some Form.Page) = stays refl
steps next target (Enter f) (Some Form.Short) = stays refl
steps next target (Enter f) (Some Form.Page) = stays refl
steps next target (Here f n) (Some Form.Short) = stays refl
steps next target (Here f n) (Some Form.Page) = stays refl
steps next target (Call f) (Some Form.Short) = stays refl
steps next target (Call f) (Some Form.Page) = stays refl

weak : (b : Bool) (m n : ℕ) → m ≤ n → cond b m 0 ≤ cond b n 0
weak true m n h = h
weak false m n h = omega arith

step_le : (item : AsmItem) (old new : Option Form) → Steps item old new → rank old ≤ rank new
step_le item old new (stays e) = omega (arith, ap rank e)
step_le item old new (grows e h) = omega (arith, h)

module _ (at : ℕ → ℕ) (target : AsmItem → ℕ) where
  abbrev round_on : ℕ → List AsmItem → List (Option Form) → List (Option Form)
  round_on k items forms = round_from at target k items forms

  length_after : (k : ℕ) (items : List AsmItem) (forms : List (Option Form)) → length (round_on k items forms) ≡ length items
  length_after k [] forms = refl
  length_after k (item ∷ items) forms = ap suc (length_after (suc k) items (drop 1 forms))

  -- a round changes nothing, or raises the score
  score_after : (k : ℕ) (items : List AsmItem) (forms : List (Option Form)) → length forms ≡ length items → (round_on k items forms ≡ forms) ⊎ (score items forms < score items (round_on k items forms))
  score_after k [] [] same = inl refl
  score_after k [] (form ∷ forms) same = absurd (omega arith)
  score_after k (item ∷ items) [] same = absurd (omega arith)
  score_after k (item ∷ items) (form ∷ forms) same =
      let new = grown (at k + 2) (at (target item)) item form in
      by new (steps (at k + 2) (at (target item)) item form) (round_on (suc k) items forms) (score_after (suc k) items forms (omega arith))
    where
      by : (new : Option Form) → Steps item form new → (news : List (Option Form)) → (news ≡ forms) ⊎ (score items forms < score items news) → (new ∷ news ≡ form ∷ forms) ⊎ (score (item ∷ items) (form ∷ forms) < score (item ∷ items) (new ∷ news))
      by new (stays e) news (inl more) = inl (ap₂ (λ x xs. x ∷ xs) e more)
      by new (grows jump h) news (inl more) = inr (omega (arith, ap (score items) more, ap (λ b. cond b (rank form) 0) jump, ap (λ b. cond b (rank new) 0) jump, h))
      by new s news (inr more) = inr (omega (arith, more, weak (is_jump item) (rank form) (rank new) (step_le item form new s)))

  -- a round gives no item a form, and takes none
  some_after : (k : ℕ) (items : List AsmItem) (forms : List (Option Form)) → length forms ≡ length items → map is_some (round_on k items forms) ≡ map is_some forms
  some_after k [] [] same = refl
  some_after k [] (form ∷ forms) same = absurd (omega arith)
  some_after k (item ∷ items) [] same = absurd (omega arith)
  some_after k (item ∷ items) (None ∷ forms) same = ap (λ bs. false ∷ bs) (some_after (suc k) items forms (omega arith))
  some_after k (item ∷ items) (Some form ∷ forms) same = ap (λ bs. true ∷ bs) (some_after (suc k) items forms (omega arith))

  -- the form of an item after a round
  form_after : (k : ℕ) (items : List AsmItem) (forms : List (Option Form)) (j : ℕ) (item : AsmItem) (form : Option Form) → slice_get items j ≡ Some item → slice_get forms j ≡ Some form
      → slice_get (round_on k items forms) j ≡ Some (grown (at (k + j) + 2) (at (target item)) item form)
  form_after k [] forms j item form g h = absurd cc
  form_after k (x ∷ items) [] j item form g h = absurd cc
  form_after k (x ∷ items) (y ∷ forms) zero item form g h =
      let e : x ≡ item = cc in
      let f : y ≡ form = cc in
      let z : k ≡ k + 0 = omega arith in
      ap (λ i. Some (grown (at i + 2) (at (target x)) x y)) z ∙ ap₂ (λ p q. Some (grown (at (k + 0) + 2) (at (target p)) p q)) e f
  form_after k (x ∷ items) (y ∷ forms) (suc j) item form g h =
      let e : suc k + j ≡ k + suc j = omega arith in
      form_after (suc k) items forms j item form g h ∙ ap (λ i. Some (grown (at i + 2) (at (target item)) item form)) e

  long_after : (k : ℕ) (items : List AsmItem) → round_on k items (all_in Form.Long items) ≡ all_in Form.Long items
  long_after k [] = refl
  long_after k (item ∷ items) = ap₂ (λ x xs. x ∷ xs) (by (is_jump item)) (long_after (suc k) items)
    where
      by : (b : Bool) → grown (at k + 2) (at (target item)) item (if b then Some Form.Long else None) ≡ (if b then Some Form.Long else None)
      by true = refl
      by false = refl

pub round_length : (items : List AsmItem) (forms : List (Option Form)) → length (round items forms) ≡ length items
unfolding round
round_length items forms = length_after (address items forms) (target_of items) 0 items forms

pub round_score : (items : List AsmItem) (forms : List (Option Form)) → length forms ≡ length items → (round items forms ≡ forms) ⊎ (score items forms < score items (round items forms))
unfolding round
round_score items forms same = score_after (address items forms) (target_of items) 0 items forms same

pub round_at : (items : List AsmItem) (forms : List (Option Form)) (k : ℕ) (item : AsmItem) (form : Option Form) → slice_get items k ≡ Some item → slice_get forms k ≡ Some form
    → slice_get (round items forms) k ≡ Some (grown (address items forms k + 2) (address items forms (target_of items item)) item form)
unfolding round
round_at items forms k item form g h =
    let z : 0 + k ≡ k = omega arith in
    form_after (address items forms) (target_of items) 0 items forms k item form g h ∙ ap (λ i. Some (grown (address items forms i + 2) (address items forms (target_of items item)) item form)) z

pub all_in_length : (form : Form) (items : List AsmItem) → length (all_in form items) ≡ length items
all_in_length form [] = refl
all_in_length form (item ∷ items) = ap suc (all_in_length form items)

pub rounds_length : (items : List AsmItem) (n : ℕ) → length (rounds items n) ≡ length items
rounds_length items zero = all_in_length Form.Short items
rounds_length items (suc n) = round_length items (rounds items n)

all_in_jumps : (items : List AsmItem) → map is_some (all_in Form.Short items) ≡ map is_jump items
all_in_jumps [] = refl
all_in_jumps (item ∷ items) = ap₂ (λ b bs. b ∷ bs) (by (is_jump item)) (all_in_jumps items)
  where
    by : (b : Bool) → is_some (if b then Some Form.Short else None) ≡ b
    by true = refl
    by false = refl

round_some : (items : List AsmItem) (forms : List (Option Form)) → length forms ≡ length items → map is_some (round items forms) ≡ map is_some forms
unfolding round
round_some items forms same = some_after (address items forms) (target_of items) 0 items forms same

rounds_some : (items : List AsmItem) (n : ℕ) → map is_some (rounds items n) ≡ map is_jump items
rounds_some items zero = all_in_jumps items
rounds_some items (suc n) = round_some items (rounds items n) (rounds_length items n) ∙ rounds_some items n

pub forms_are_of_jumps : FormsAreOfJumps
forms_are_of_jumps items forms r = ap (map is_some) r.made ∙ rounds_some items r.count

-- each round but the last raises the score, which is at most twice the number of jumps
relaxed_within : (items : List AsmItem) (fuel n : ℕ) → n ≤ score items (rounds items n) → 2 * jump_count items < fuel + n → (m : ℕ) × IsRelaxed items (rounds items m)
relaxed_within items zero n low few = absurd (omega (arith, score_le items (rounds items n), low, few))
relaxed_within items (suc fuel) n low few =
    elim (round_score items (rounds items n) (rounds_length items n)) [
      | inl same ↦ (n, record { count = n; few = omega (arith, low, score_le items (rounds items n)); made = refl; stays = same })
      | inr more ↦ relaxed_within items fuel (suc n) (omega (arith, low, more)) (omega (arith, few))
    ]

-- a layout that stays stays for good
stays_on : (items : List AsmItem) (n k : ℕ) → round items (rounds items n) ≡ rounds items n → rounds items (k + n) ≡ rounds items n
stays_on items n zero e = ap (rounds items) (omega arith)
stays_on items n (suc k) e =
    let q : suc (k + n) ≡ suc k + n = omega arith in
    ap (rounds items) (sym q) ∙ ap (round items) (stays_on items n k e) ∙ e

pub one_relaxed : (items : List AsmItem) (some others : List (Option Form)) → IsRelaxed items some → IsRelaxed items others → some ≡ others
one_relaxed items some others a b =
    let f : round items (rounds items a.count) ≡ rounds items a.count = ap (round items) (sym a.made) ∙ a.stays ∙ a.made in
    let g : round items (rounds items b.count) ≡ rounds items b.count = ap (round items) (sym b.made) ∙ b.stays ∙ b.made in
    let e : b.count + a.count ≡ a.count + b.count = omega arith in
    a.made ∙ sym (stays_on items a.count b.count f) ∙ ap (rounds items) e ∙ stays_on items b.count a.count g ∙ sym b.made

pub one_is_relaxed : OneIsRelaxed
one_is_relaxed items =
    let r = relaxed_within items (2 * jump_count items + 1) 0 (omega arith) (omega arith) in
    (rounds items r.0, r.1, λ others is. one_relaxed items others (rounds items r.0) is r.1)

-- a form that doesn't grow reaches
least_reaches : (reach : Form → Bool) → reach Form.Long ≡ true → (form : Form) → least_from reach form ≡ form → reach form ≡ true
least_reaches reach long Form.Long e = long
least_reaches reach long Form.Page e = by (reach Form.Page) refl e
  where
    by : (b : Bool) → reach Form.Page ≡ b → (if b then Form.Page else Form.Long) ≡ Form.Page → reach Form.Page ≡ true
    by true r s = r
    by false r s = absurd cc
least_reaches reach long Form.Short e = by (reach Form.Short) (reach Form.Page) refl e
  where
    by : (b c : Bool) → reach Form.Short ≡ b → (if b then Form.Short else if c then Form.Page else Form.Long) ≡ Form.Short → reach Form.Short ≡ true
    by true c r s = r
    by false true r s = absurd cc
    by false false r s = absurd cc

long_reaches : (next target : ℕ) (item : AsmItem) → reaches next target item Form.Long ≡ true
long_reaches next target (Plain i) = refl
long_reaches next target (Mark l) = refl
long_reaches next target (Enter f) = refl
long_reaches next target (Here f n) = refl
long_reaches next target (Jump f n) = refl
long_reaches next target (Test f n) = refl
long_reaches next target (Call f) = refl

pub relaxed_reaches : RelaxedReaches
relaxed_reaches items forms r k item form g h =
    let next = address items forms k + 2 in
    let target = address items forms (target_of items item) in
    let now = round_at items forms k item (Some form) g h in
    let same : Some (Some (least_from (reaches next target item) form)) ≡ Some (Some form) = sym now ∙ ap (λ fs. slice_get fs k) r.stays ∙ h in
    least_reaches (reaches next target item) (long_reaches next target item) form cc

pub long_stays : LongStays
unfolding round
long_stays items = long_after (address items (all_in Form.Long items)) (target_of items) 0 items
