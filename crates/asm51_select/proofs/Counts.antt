-- How often places, entries and marks stand among the items of a selected program.
use Rattle.std.proofs.Common.{◌≡◌, ℕ, zero, suc, ◌+◌, ◌<◌, ◌≤◌, List, [], ◌∷◌, length, Bool, true, false, cond, Some, inl, inr, ◌⊎◌, refl, sym, ap, ap₂, ◌∙◌, arith, slice_get, ⊎_elim}
use Rattle.std.specs.Prelude.{nat_eq, if◌then◌else◌, ◌&&◌, count_by}
use Rattle.std.proofs.lemmas.Bool.Decides.{eqb_tells}
use Rattle.cerco_base.specs.declared.events.Label.{Label as LabelNumber}
use Rattle.cerco_traces.specs.LabelledGraphs.{In}
use Rattle.mcs51_isa.specs.declared.instr.Instr.{Instr}
use Rattle.mcs51_isa.specs.declared.instr.Instr.TheVariants as Instruction
use Rattle.mcs51_isa.specs.declared.instr.ReturnKind.TheVariants.{FromCall}
use Rattle.rtl.specs.declared.operations.Src.TheVariants.{At}
use Rattle.rtl.specs.Items.{LinItem, LinProgram}
use Rattle.rtl.specs.Items as Lin
use Rattle.rtl.specs.Lengths.{total}
use Rattle.rtl.specs.WellFormed.{gathered, here_nodes, item_labels, AreCounted}
use Rattle.asm51.specs.declared.items.AsmItem.{AsmItem}
use Rattle.asm51.specs.declared.items.AsmItem.TheVariants.{Plain, Mark, Enter, Here, Jump, Test, Call}
use Rattle.asm51.specs.Items.{is_here, is_enter, is_mark, is_mark_of}
use Rattle.asm51.proofs.Counting.{count_more}
use Rattle.lin_gen.specs.Kept.{times}
use Rattle.lin_gen.proofs.Numbers.{total_append, total_same, times_in, once_times, sum_below, sum_once, total_one, all_in}
use Rattle.lin_gen.proofs.Sums.{total_gathered}
use Rattle.asm51_select.specs.Translation.{plains, take_code, op_code, item_code, function_code, functions_code, start_code, byte_code, selected}
use Rattle.asm51_select.proofs.Finding.{eq_self}

-- ---- a count is a sum

abbrev pub one_if : (AsmItem → Bool) → AsmItem → ℕ
one_if test x = cond (test x) 1 0

pub count_total : (test : AsmItem → Bool) (xs : List AsmItem) → count_by test xs ≡ total (one_if test) xs
count_total test [] = refl
count_total test (x ∷ xs) = count_more test x xs ∙ ap (λ n. one_if test x + n) (count_total test xs)

pub plains_none : (w : AsmItem → ℕ) → ((i : Instr) → w (Plain i) ≡ 0) → (is : List Instr) → total w (plains is) ≡ 0
plains_none w none [] = refl
plains_none w none (i ∷ is) = let e = none i in let k = plains_none w none is in omega arith

-- ---- sums over functions

abbrev pub sum_from : (ℕ → List LinItem → ℕ) → ℕ → List (List LinItem) → ℕ
sum_from v base [] = 0
sum_from v base (its ∷ lins) = v base its + sum_from v (suc base) lins

functions_total : (w : AsmItem → ℕ) (base : ℕ) (lins : List (List LinItem)) → total w (functions_code base lins) ≡ sum_from (λ f its. total w (function_code f its)) base lins
functions_total w base [] = refl
functions_total w base (its ∷ lins) = total_append w (function_code base its) (functions_code (suc base) lins) ∙ ap (λ n. total w (function_code base its) + n) (functions_total w (suc base) lins)

-- where one function alone has a weight
module _ (v : ℕ → List LinItem → ℕ) (f : ℕ) (others : (g : ℕ) (its : List LinItem) → (g ≡ f → ⊥) → v g its ≡ 0) where
  none_after : (base : ℕ) (lins : List (List LinItem)) → f < base → sum_from v base lins ≡ 0
  none_after base [] lt = refl
  none_after base (its ∷ lins) lt =
      let e = others base its (λ same. apart same) in
      let k = none_after (suc base) lins (omega arith) in
      omega arith
    where
      apart : base ≡ f → ⊥
      apart same = omega arith

  one_function : (base : ℕ) (lins : List (List LinItem)) (k : ℕ) (its : List LinItem) → base + k ≡ f → slice_get lins k ≡ Some its → sum_from v base lins ≡ v f its
  one_function base [] k its at there = absurd cc
  one_function base (x ∷ lins) zero its at there =
      let same : x ≡ its = cc in
      let n : base ≡ f = omega arith in
      let e = ap₂ v n same in
      let k = none_after (suc base) lins (omega arith) in
      omega arith
  one_function base (x ∷ lins) (suc k) its at there =
      let e = others base x (λ same. apart same) in
      let r = one_function (suc base) lins k its (omega arith) there in
      omega arith
    where
      apart : base ≡ f → ⊥
      apart same = omega arith

-- ---- sums over what is gathered from items

gathered_weights : (w : AsmItem → ℕ) (f : ℕ) (h : LinItem → List ℕ) (φ : ℕ → ℕ) → ((it : LinItem) → total w (item_code f it) ≡ total φ (h it)) → (its : List LinItem) → total w (gathered (item_code f) its) ≡ total φ (gathered h its)
gathered_weights w f h φ each its =
    total_gathered w (item_code f) its ∙ total_same (λ it. total w (item_code f it)) (λ it. total φ (h it)) its each ∙ sym (total_gathered φ h its)

module _ (program : LinProgram) (w : AsmItem → ℕ) (plain : (i : Instr) → w (Plain i) ≡ 0) (call : (g : ℕ) → w (Call g) ≡ 0) where
  start_none : total w (start_code program.start program.main) ≡ 0
  start_none =
      let end : AsmItem = Plain (Instruction.Sjmp 0xFE) in
      let a = plain (Instruction.MovDirectImmediate 0x81 0x7F) in
      let b = plains_none w plain (gathered byte_code program.start) in
      let c = call program.main in
      let e = plain (Instruction.Sjmp 0xFE) in
      let s = total_append w (plains (gathered byte_code program.start)) (Call program.main ∷ end ∷ []) in
      omega arith

  all_total : total w (selected program) ≡ sum_from (λ f its. total w (function_code f its)) 0 program.lins
  unfolding selected
  all_total =
      let a = total_append w (start_code program.start program.main) (functions_code 0 program.lins) in
      let b = start_none in
      let c = functions_total w 0 program.lins in
      omega arith

-- ---- places

module _ (f n : ℕ) where
  abbrev here_one : AsmItem → ℕ
  here_one = one_if (is_here f n)

  same_item : (it : LinItem) → total here_one (item_code f it) ≡ times n (here_nodes it)
  same_item (Lin.Here m) = ap (λ (b : Bool). cond (b && nat_eq m n) 1 0 + 0) (eq_self f)
  same_item (Lin.Op op) = plains_none here_one (λ i. refl) (op_code op)
  same_item (Lin.Label l) = refl
  same_item (Lin.Jump m) = refl
  same_item (Lin.Test p m) = refl
  same_item (Lin.Call g) = refl
  same_item Lin.Return = refl

  other_item : (g : ℕ) → (g ≡ f → ⊥) → (it : LinItem) → total here_one (item_code g it) ≡ total (λ m. 0) (here_nodes it)
  other_item g apart (Lin.Here m) = ⊎_elim (λ a. absurd (apart a.1)) (λ a. ap (λ (b : Bool). cond (b && nat_eq m n) 1 0 + 0) a.0) (eqb_tells g f)
  other_item g apart (Lin.Op op) = plains_none here_one (λ i. refl) (op_code op)
  other_item g apart (Lin.Label l) = refl
  other_item g apart (Lin.Jump m) = refl
  other_item g apart (Lin.Test p m) = refl
  other_item g apart (Lin.Call h) = refl
  other_item g apart Lin.Return = refl

zero_total : (ns : List ℕ) → total (λ m. 0) ns ≡ 0
zero_total [] = refl
zero_total (n ∷ ns) = let k = zero_total ns in omega arith

-- how often the place of a node stands among the items
pub here_count : (program : LinProgram) (f n : ℕ) (its : List LinItem) → slice_get program.lins f ≡ Some its → count_by (is_here f n) (selected program) ≡ times n (gathered here_nodes its)
here_count program f n its there =
    let w = here_one f n in
    let one = one_function (λ g is. total w (function_code g is)) f
    (λ g is apart. let e = gathered_weights w g here_nodes (λ m. 0) (other_item f n g apart) is in let z = zero_total (gathered here_nodes is) in omega arith) 0 program.lins f its (omega arith) there in
    let a = count_total (is_here f n) (selected program) in
    let b = all_total program w (λ i. refl) (λ g. refl) in
    let c = gathered_weights w f here_nodes (λ m. if nat_eq m n then 1 else 0) (same_item f n) its in
    omega arith

-- ---- entries

no_entry : (f g : ℕ) (it : LinItem) → total (one_if (is_enter f)) (item_code g it) ≡ total (λ m. 0) (here_nodes it)
no_entry f g (Lin.Here m) = refl
no_entry f g (Lin.Op op) = plains_none (one_if (is_enter f)) (λ i. refl) (op_code op)
no_entry f g (Lin.Label l) = refl
no_entry f g (Lin.Jump m) = refl
no_entry f g (Lin.Test p m) = refl
no_entry f g (Lin.Call h) = refl
no_entry f g Lin.Return = refl

pub enter_count : (program : LinProgram) (f : ℕ) (its : List LinItem) → slice_get program.lins f ≡ Some its → count_by (is_enter f) (selected program) ≡ 1
enter_count program f its there =
    let w = one_if (is_enter f) in
    let none : (g : ℕ) (is : List LinItem) → total w (gathered (item_code g) is) ≡ 0 = λ g is. gathered_weights w g here_nodes (λ m. 0) (no_entry f g) is ∙ zero_total (gathered here_nodes is) in
    let one = one_function (λ g is. total w (function_code g is)) f
    (λ g is apart. ⊎_elim (λ a. absurd (apart a.1)) (λ a. ap₂ (λ (b : Bool) k. cond b 1 0 + k) a.0 (none g is)) (eqb_tells g f)) 0 program.lins f its (omega arith) there in
    count_total (is_enter f) (selected program) ∙ all_total program w (λ i. refl) (λ g. refl) ∙ one ∙ ap₂ (λ (b : Bool) k. cond b 1 0 + k) (eq_self f) (none f its)

-- ---- marks

module _ (w : AsmItem → ℕ) (φ : ℕ → ℕ) (plain : (i : Instr) → w (Plain i) ≡ 0) (call : (g : ℕ) → w (Call g) ≡ 0) (enter : (g : ℕ) → w (Enter g) ≡ 0) (here : (g m : ℕ) → w (Here g m) ≡ 0) (jump : (g m : ℕ) → w (Jump g m) ≡ 0) (test : (g m : ℕ) → w (Test g m) ≡ 0)
    (mark : (l : LabelNumber) → w (Mark l) ≡ φ l.0) where
  label_item : (g : ℕ) (it : LinItem) → total w (item_code g it) ≡ total φ (item_labels it)
  label_item g (Lin.Here m) = let e = here g m in omega arith
  label_item g (Lin.Op op) = plains_none w plain (op_code op)
  label_item g (Lin.Label l) = let a = mark l in let b = plain Instruction.Nop in omega arith
  label_item g (Lin.Jump m) = let e = jump g m in omega arith
  label_item g (Lin.Test p m) = let a = test g m in let b = plain (take_code (At p)) in omega arith
  label_item g (Lin.Call h) = let e = call h in omega arith
  label_item g Lin.Return = let e = plain (Instruction.Ret FromCall) in omega arith

  labels_from : (base : ℕ) (lins : List (List LinItem)) → sum_from (λ f its. total w (function_code f its)) base lins ≡ total φ (gathered (λ its. gathered item_labels its) lins)
  labels_from base [] = refl
  labels_from base (its ∷ lins) =
      let a = enter base in
      let b = gathered_weights w base item_labels φ (label_item base) its in
      let c = labels_from (suc base) lins in
      let e = total_append φ (gathered item_labels its) (gathered (λ its. gathered item_labels its) lins) in
      omega arith

  labels_total : (program : LinProgram) → total w (selected program) ≡ total φ (gathered (λ its. gathered item_labels its) program.lins)
  labels_total program = all_total program w plain call ∙ labels_from 0 program.lins

abbrev pub all_labels : LinProgram → List ℕ
all_labels program = gathered (λ its. gathered item_labels its) program.lins

pub mark_count_is : (program : LinProgram) → count_by is_mark (selected program) ≡ length (all_labels program)
mark_count_is program =
    count_total is_mark (selected program)
    ∙ labels_total (one_if is_mark) (λ n. 1) (λ i. refl) (λ g. refl) (λ g. refl) (λ g m. refl) (λ g m. refl) (λ g m. refl) (λ l. refl) program
    ∙ total_one (all_labels program)

pub mark_of_count_is : (program : LinProgram) (l : ℕ) → count_by (is_mark_of l) (selected program) ≡ times l (all_labels program)
mark_of_count_is program l =
    count_total (is_mark_of l) (selected program)
    ∙ labels_total (one_if (is_mark_of l)) (λ m. if nat_eq m l then 1 else 0) (λ i. refl) (λ g. refl) (λ g. refl) (λ g m. refl) (λ g m. refl) (λ g m. refl) (λ k. refl) program

-- ---- counted numbers are all numbers

abbrev but_one : ℕ → ℕ → ℕ
but_one l p = if nat_eq p l then 0 else 1

others : (l p : ℕ) → (p ≡ l → ⊥) → but_one l p ≡ 1
others l p apart = ⊎_elim (λ a. absurd (apart a.1)) (λ a. ap (λ (b : Bool). if b then 0 else 1) a.0) (eqb_tells p l)

no_gap : (l n : ℕ) → n ≤ l → sum_below (but_one l) n ≡ n
no_gap l zero le = refl
no_gap l (suc n) le =
    let k = no_gap l n (omega arith) in
    let e : but_one l n ≡ 1 = others l n apart in
    omega arith
  where
    apart : n ≡ l → ⊥
    apart same = omega arith

one_gap : (l n : ℕ) → l < n → suc (sum_below (but_one l) n) ≡ n
one_gap l zero lt = absurd (omega arith)
one_gap l (suc n) lt = by (eqb_tells n l) (λ below. one_gap l n below)
  where
    by : ((nat_eq n l ≡ true) × (n ≡ l)) ⊎ ((nat_eq n l ≡ false) × (n ≡ l → ⊥)) → (l < n → suc (sum_below (but_one l) n) ≡ n) → suc (sum_below (but_one l) n + but_one l n) ≡ suc n
    by (inl a) rest =
        let k = no_gap l n (omega (arith, a.1)) in
        let e : but_one l n ≡ 0 = ap (λ (b : Bool). if b then 0 else 1) a.0 in
        omega arith
    by (inr a) rest =
        let k = rest (smaller a.1) in
        let e = others l n a.1 in
        omega arith
      where
        smaller : (n ≡ l → ⊥) → l < n
        smaller ne = grind arith

absent : (l : ℕ) (ns : List ℕ) → (In l ns → ⊥) → total (but_one l) ns ≡ length ns
absent l [] out = refl
absent l (n ∷ ns) out =
    let k = absent l ns (λ i. out (inr i)) in
    let e = others l n (λ same. out (inl same)) in
    omega arith

pub counted_once : (ns : List ℕ) → AreCounted ns → (l : ℕ) → l < length ns → times l ns ≡ 1
counted_once ns counted l lt = by (times l ns) refl
  where
    within : (p : ℕ) → In p ns → p < length ns
    within p i = all_in (λ n. n < length ns) ns counted.below p i

    by : (t : ℕ) → times l ns ≡ t → times l ns ≡ 1
    by zero e =
        let a = absent l ns (λ i. missing (times_in l ns i) e) in
        let b = sum_once (but_one l) (length ns) ns counted.once within in
        let c = one_gap l (length ns) lt in
        absurd (no a b c)
      where
        missing : 1 ≤ times l ns → times l ns ≡ 0 → ⊥
        missing a b = omega arith

        no : total (but_one l) ns ≡ length ns → total (but_one l) ns ≤ sum_below (but_one l) (length ns) → suc (sum_below (but_one l) (length ns)) ≡ length ns → ⊥
        no a b c = omega arith
    by (suc t) e = let k = once_times ns counted.once l in omega arith
