-- The items of a selected program are well formed.
use Rattle.std.proofs.Common.{append_assoc, ◌≡◌, ℕ, zero, suc, ◌+◌, ◌<◌, ◌^◌, List, [], ◌∷◌, ◌++◌, length, drop, Some, refl, sym, ◌∙◌, subst, arith, slice_get}
use Rattle.std.specs.List.{AllByRecursion, range_with_len}
use Rattle.cerco_traces.specs.LabelledGraphs.{In}
use Rattle.mcs51_isa.specs.declared.instr.Instr.{Instr}
use Rattle.mcs51_isa.specs.declared.instr.Instr.TheVariants as Instruction
use Rattle.rtl.specs.Items.{LinItem, LinProgram}
use Rattle.rtl.specs.Items as Lin
use Rattle.rtl.specs.WellFormed.{gathered, here_nodes, item_nodes, item_functions, item_labels, item_locations, IsPlace, IsLin, IsLinProgram}
use Rattle.asm51.specs.declared.items.AsmItem.{AsmItem}
use Rattle.asm51.specs.declared.items.AsmItem.TheVariants.{Plain, Call}
use Rattle.asm51.specs.Items.{is_here, is_enter, is_mark_of, mark_count}
use Rattle.asm51.specs.WellFormed.{StandsOnce, JumpHasPlace, TestHasPlace, CallHasEntry, LabelIsBelow, MarksHaveNops, IsWellFormed}
use Rattle.asm51.specs.Selected.{ItemIsSelectable, InstructionsAreSelectable}
use Rattle.asm51.proofs.Counting.{of_each}
use Rattle.lin_gen.proofs.Numbers.{times_in, once_times}
use Rattle.asm51_select.specs.Translation.{plains, op_code, item_code, function_code, functions_code, byte_code, selected}
use Rattle.asm51_select.proofs.Spares.{AreSpare, spare_is_selectable, op_spares, test_spares, bytes_spare}
use Rattle.asm51_select.proofs.Counts.{here_count, enter_count, all_labels, mark_count_is, mark_of_count_is, counted_once}
use Rattle.std.proofs.lemmas.Option.{slice_get-get_or}

-- ---- what holds of each

all_append : {A : Type 0} (P : A → Type 0) (xs ys : List A) → AllByRecursion P xs → AllByRecursion P ys → AllByRecursion P (xs ++ ys)
all_append P [] ys h k = k
all_append P (x ∷ xs) ys h k = (h.0, all_append P xs ys h.1 k)

all_weaker : {A : Type 0} (P Q : A → Type 0) → ((x : A) → P x → Q x) → (xs : List A) → AllByRecursion P xs → AllByRecursion Q xs
all_weaker P Q f [] h = tt
all_weaker P Q f (x ∷ xs) h = (f x h.0, all_weaker P Q f xs h.1)

all_front : {A : Type 0} (P : A → Type 0) (xs ys : List A) → AllByRecursion P (xs ++ ys) → AllByRecursion P xs
all_front P [] ys h = tt
all_front P (x ∷ xs) ys h = (h.0, all_front P xs ys h.1)

all_back : {A : Type 0} (P : A → Type 0) (xs ys : List A) → AllByRecursion P (xs ++ ys) → AllByRecursion P ys
all_back P [] ys h = h
all_back P (x ∷ xs) ys h = all_back P xs ys h.1

all_range : (P : ℕ → Type 0) (a n : ℕ) → ((l : ℕ) → l < a + n → P l) → AllByRecursion P (range_with_len a n)
all_range P a zero h = tt
all_range P a (suc n) h = (h a (omega arith), all_range P (a + 1) n (λ l lt. h l (omega arith)))

-- what holds of the items of each function holds of those of all functions
all_functions : (P : AsmItem → Type 0) (base : ℕ) (lins : List (List LinItem)) → ((k : ℕ) (its : List LinItem) → slice_get lins k ≡ Some its → AllByRecursion P (function_code (base + k) its)) → AllByRecursion P (functions_code base lins)
all_functions P base [] h = tt
all_functions P base (its ∷ lins) h =
    let first : base + 0 ≡ base = omega arith in
    all_append P (function_code base its) (functions_code (suc base) lins)
    (subst (λ f. AllByRecursion P (function_code f its)) first (h 0 its refl))
    (all_functions P (suc base) lins (λ k is there. let next : base + suc k ≡ suc base + k = omega arith in subst (λ f. AllByRecursion P (function_code f is)) next (h (suc k) is there)))

module _ (program : LinProgram) (formed : IsLinProgram program) where
  abbrev asm : List AsmItem
  asm = selected program

  -- ---- what is named stands once

  pub here_once : (f n : ℕ) (its : List LinItem) → slice_get program.lins f ≡ Some its → In n (gathered here_nodes its) → StandsOnce asm (is_here f n)
  here_once f n its there i =
      let ok = of_each IsLin program.lins f its formed.lins there in
      let a = here_count program f n its there in
      let b = once_times (gathered here_nodes its) ok.nodes_once n in
      let c = times_in n (gathered here_nodes its) i in
      omega arith

  pub enter_once : (f : ℕ) → f < length program.lins → StandsOnce asm (is_enter f)
  enter_once f lt = enter_count program f _ (slice_get-get_or program.lins f [] lt)

  -- ---- what is asked of each item

  abbrev IsFine : AsmItem → Type 0
  IsFine item = JumpHasPlace asm item × (TestHasPlace asm item × (CallHasEntry asm item × (LabelIsBelow (mark_count asm) item × ItemIsSelectable item)))

  abbrev AreFine : List AsmItem → Type 0
  AreFine items = AllByRecursion IsFine items

  plains_fine : (is : List Instr) → AreSpare is → AreFine (plains is)
  plains_fine [] h = tt
  plains_fine (i ∷ is) h = ((tt, (tt, (tt, (tt, spare_is_selectable i h.0)))), plains_fine is h.1)

  module _ (f : ℕ) (its : List LinItem) (there : slice_get program.lins f ≡ Some its) where
    abbrev NodesAre : List ℕ → Type 0
    NodesAre ns = AllByRecursion (λ n. In n (gathered here_nodes its)) ns

    abbrev CalledAre : List ℕ → Type 0
    CalledAre ns = AllByRecursion (λ g. g < length program.lins) ns

    abbrev LabelsAre : List ℕ → Type 0
    LabelsAre ns = AllByRecursion (λ l. l < mark_count asm) ns

    item_fine : (it : LinItem) → NodesAre (item_nodes it) → CalledAre (item_functions it) → LabelsAre (item_labels it) → AllByRecursion IsPlace (item_locations it) → AreFine (item_code f it)
    item_fine (Lin.Here n) nodes called labels places = ((tt, (tt, (tt, (tt, tt)))), tt)
    item_fine (Lin.Op op) nodes called labels places = plains_fine (op_code op) (op_spares op places)
    item_fine (Lin.Label l) nodes called labels places = ((tt, (tt, (tt, (labels.0, tt)))), ((tt, (tt, (tt, (tt, (tt, tt))))), tt))
    item_fine (Lin.Jump n) nodes called labels places = ((here_once f n its there nodes.0, (tt, (tt, (tt, tt)))), tt)
    item_fine (Lin.Test p n) nodes called labels places = ((tt, (tt, (tt, (tt, spare_is_selectable _ (test_spares p places.0))))), ((tt, (here_once f n its there nodes.0, (tt, (tt, tt)))), tt))
    item_fine (Lin.Call g) nodes called labels places = ((tt, (tt, (enter_once g called.0, (tt, tt)))), tt)
    item_fine Lin.Return nodes called labels places = ((tt, (tt, (tt, (tt, tt)))), tt)

    items_fine : (is : List LinItem) → NodesAre (gathered item_nodes is) → CalledAre (gathered item_functions is) → LabelsAre (gathered item_labels is) → AllByRecursion IsPlace (gathered item_locations is) → AreFine (gathered (item_code f) is)
    items_fine [] nodes called labels places = tt
    items_fine (it ∷ is) nodes called labels places =
        all_append IsFine (item_code f it) (gathered (item_code f) is)
        (item_fine it (all_front _ (item_nodes it) (gathered item_nodes is) nodes) (all_front _ (item_functions it) (gathered item_functions is) called) (all_front _ (item_labels it) (gathered item_labels is) labels) (all_front IsPlace (item_locations it) (gathered item_locations is) places))
        (items_fine is (all_back _ (item_nodes it) (gathered item_nodes is) nodes) (all_back _ (item_functions it) (gathered item_functions is) called) (all_back _ (item_labels it) (gathered item_labels is) labels) (all_back IsPlace (item_locations it) (gathered item_locations is) places))

  -- the labels of a function are labels of the program
  labels_among : (lins : List (List LinItem)) (f : ℕ) (its : List LinItem) → slice_get lins f ≡ Some its → AllByRecursion (λ l. l < length (all_labels program)) (gathered (λ is. gathered item_labels is) lins) → AllByRecursion (λ l. l < length (all_labels program)) (gathered item_labels its)
  labels_among [] f its there all = absurd cc
  labels_among (x ∷ lins) zero its there all =
      let same : x ≡ its = cc in
      subst (λ z. AllByRecursion (λ l. l < length (all_labels program)) (gathered item_labels z)) same (all_front _ (gathered item_labels x) (gathered (λ is. gathered item_labels is) lins) all)
  labels_among (x ∷ lins) (suc f) its there all = labels_among lins f its there (all_back _ (gathered item_labels x) (gathered (λ is. gathered item_labels is) lins) all)

  function_fine : (f : ℕ) (its : List LinItem) → slice_get program.lins f ≡ Some its → AreFine (function_code f its)
  function_fine f its there =
      let ok = of_each IsLin program.lins f its formed.lins there in
      let called = of_each (λ items. AllByRecursion (λ g. g < length program.lins) (gathered item_functions items)) program.lins f its formed.functions.called there in
      let labels = subst (λ n. AllByRecursion (λ l. l < n) (gathered item_labels its)) (sym (mark_count_is program)) (labels_among program.lins f its there formed.labels.below) in
      ((tt, (tt, (tt, (tt, tt)))), items_fine f its there its ok.nodes called labels ok.places)

  functions_fine : AreFine (functions_code 0 program.lins)
  functions_fine = all_functions IsFine 0 program.lins (λ k its there. let z : k ≡ 0 + k = omega arith in subst (λ f. AreFine (function_code f its)) z (function_fine k its there))

  rest_fine : AreFine (drop 1 asm)
  unfolding selected
  rest_fine =
      let first = all_append IsFine (plains (gathered byte_code program.start)) (Call program.main ∷ Plain (Instruction.Sjmp 0xFE) ∷ [])
      (plains_fine (gathered byte_code program.start) (bytes_spare program.start))
      ((tt, (tt, (enter_once program.main formed.functions.main, (tt, tt)))), ((tt, (tt, (tt, (tt, refl)))), tt)) in
      all_append IsFine (plains (gathered byte_code program.start) ++ Call program.main ∷ Plain (Instruction.Sjmp 0xFE) ∷ []) (functions_code 0 program.lins) first functions_fine

  -- a condition that the first instruction meets
  with_first : (P : AsmItem → Type 0) → P (Plain (Instruction.MovDirectImmediate 0x81 0x7F)) → AllByRecursion P (drop 1 asm) → AllByRecursion P asm
  unfolding selected
  with_first P first rest = (first, rest)

  pub instructions_are_selectable : InstructionsAreSelectable asm
  instructions_are_selectable = all_weaker IsFine ItemIsSelectable (λ x h. h.1.1.1.1) (drop 1 asm) rest_fine

  -- ---- marks and NOPs

  nops_of_plains : (is : List Instr) (more : List AsmItem) → MarksHaveNops more → MarksHaveNops (plains is ++ more)
  nops_of_plains [] more h = h
  nops_of_plains (i ∷ is) more h = nops_of_plains is more h

  nops_of_items : (f : ℕ) (its : List LinItem) (more : List AsmItem) → MarksHaveNops more → MarksHaveNops (gathered (item_code f) its ++ more)
  nops_of_items f [] more h = h
  nops_of_items f (Lin.Here n ∷ its) more h = nops_of_items f its more h
  nops_of_items f (Lin.Op op ∷ its) more h =
      subst MarksHaveNops (sym (append_assoc (plains (op_code op)) (gathered (item_code f) its) more)) (nops_of_plains (op_code op) (gathered (item_code f) its ++ more) (nops_of_items f its more h))
  nops_of_items f (Lin.Label l ∷ its) more h = (tt, nops_of_items f its more h)
  nops_of_items f (Lin.Jump n ∷ its) more h = nops_of_items f its more h
  nops_of_items f (Lin.Test p n ∷ its) more h = nops_of_items f its more h
  nops_of_items f (Lin.Call g ∷ its) more h = nops_of_items f its more h
  nops_of_items f (Lin.Return ∷ its) more h = nops_of_items f its more h

  nops_of_functions : (base : ℕ) (lins : List (List LinItem)) → MarksHaveNops (functions_code base lins)
  nops_of_functions base [] = tt
  nops_of_functions base (its ∷ lins) = nops_of_items base its (functions_code (suc base) lins) (nops_of_functions (suc base) lins)

  nops_of_all : MarksHaveNops asm
  unfolding selected
  nops_of_all =
      let end = Call program.main ∷ Plain (Instruction.Sjmp 0xFE) ∷ [] in
      subst MarksHaveNops (sym (append_assoc (plains (gathered byte_code program.start)) end (functions_code 0 program.lins)))
      (nops_of_plains (gathered byte_code program.start) (Call program.main ∷ Plain (Instruction.Sjmp 0xFE) ∷ functions_code 0 program.lins) (nops_of_functions 0 program.lins))

  label_once : (l : ℕ) → l < 0 + mark_count asm → StandsOnce asm (is_mark_of l)
  label_once l lt =
      let n = mark_count_is program in
      mark_of_count_is program l ∙ counted_once (all_labels program) formed.labels l (omega arith)

  -- ---- all of it

  pub selected_is_formed : length asm < 2 ^ 28 → IsWellFormed asm
  selected_is_formed few = record {
    jumps = with_first (JumpHasPlace asm) tt (all_weaker IsFine (JumpHasPlace asm) (λ x h. h.0) (drop 1 asm) rest_fine);
    tests = with_first (TestHasPlace asm) tt (all_weaker IsFine (TestHasPlace asm) (λ x h. h.1.0) (drop 1 asm) rest_fine);
    calls = with_first (CallHasEntry asm) tt (all_weaker IsFine (CallHasEntry asm) (λ x h. h.1.1.0) (drop 1 asm) rest_fine);
    labels = all_range (λ label. StandsOnce asm (is_mark_of label)) 0 (mark_count asm) label_once;
    below = with_first (LabelIsBelow (mark_count asm)) tt (all_weaker IsFine (LabelIsBelow (mark_count asm)) (λ x h. h.1.1.1.0) (drop 1 asm) rest_fine);
    nops = nops_of_all;
    few = few;
  }
