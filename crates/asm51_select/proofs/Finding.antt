-- Where the jumps, tests and calls of a selected program lead.
use Rattle.std.proofs.Common.{◌≡◌, ℕ, suc, ◌+◌, ◌<◌, List, [], ◌∷◌, ◌++◌, length, Bool, true, false, Some, inl, inr, ◌⊎◌, refl, sym, ap, ap₂, ◌∙◌, subst, arith, slice_get, get_or, unwrap_or, ⊎_elim}
use Rattle.std.specs.Prelude.{nat_eq, if◌then◌else◌, ◌&&◌}
use Rattle.std.specs.List.{AllByRecursion}
use Rattle.std.proofs.lemmas.Bool.Decides.{eqb_tells}
use Rattle.std.proofs.lemmas.Option.{slice_get-get_or}
use Rattle.cerco_traces.specs.LabelledGraphs.{In}
use Rattle.rtl.specs.Items.{LinItem, LinProgram}
use Rattle.rtl.specs.Items as Lin
use Rattle.rtl.specs.Linear.{items_from, items_or, items_at}
use Rattle.rtl.specs.WellFormed.{gathered, here_nodes}
use Rattle.asm51.specs.declared.items.AsmItem.{AsmItem}
use Rattle.asm51.specs.declared.items.AsmItem.TheVariants.{Enter, Here, Jump, Test, Call}
use Rattle.asm51.specs.Items.{is_here, is_enter, place, target_of}
use Rattle.asm51.specs.WellFormed.{StandsOnce, JumpHasPlace, TestHasPlace, CallHasEntry, IsWellFormed}
use Rattle.asm51.proofs.Counting.{only_one, of_each}
use Rattle.asm51_select.specs.Translation.{item_code, selected}
use Rattle.asm51_select.proofs.Standing.{drop_get, begins_at, Stands, stands_split}

-- an item that alone passes a test stands at the place of the test
pub placed : (items : List AsmItem) (test : AsmItem → Bool) (k : ℕ) (item : AsmItem) → StandsOnce items test → slice_get items k ≡ Some item → test item ≡ true → place test items ≡ k
placed items test k item once g e =
    let z : 0 + k ≡ k = omega arith in
    ap (λ o. unwrap_or o (length items)) (only_one test 0 items k item once g e ∙ ap (λ n. Some n) z)

pub eq_self : (n : ℕ) → nat_eq n n ≡ true
eq_self n = ⊎_elim (λ a. a.0) (λ a. absurd (a.1 refl)) (eqb_tells n n)

pub here_passes : (f n : ℕ) → is_here f n (Here f n) ≡ true
here_passes f n = ap₂ (λ a b. a && b) (eq_self f) (eq_self n)

-- ---- nodes

-- the items from the place of a node on
pub record Found (n : ℕ) (its : List LinItem) : Type 0 where
  pub front : List LinItem
  pub left : List LinItem
  pub whole : its ≡ front ++ Lin.Here n ∷ left
  pub is : items_from n its ≡ Lin.Here n ∷ left

later : (n : ℕ) (item : LinItem) (its : List LinItem) → items_from n (item ∷ its) ≡ items_from n its → Found n its → Found n (item ∷ its)
later n item its same f = record { front = item ∷ f.front; left = f.left; whole = ap (λ z. item ∷ z) f.whole; is = same ∙ f.is }

pub found : (n : ℕ) (its : List LinItem) → In n (gathered here_nodes its) → Found n its
found n [] i = absurd i
found n (Lin.Here m ∷ its) i = by (eqb_tells m n) i (λ j. found n its j)
  where
    by : ((nat_eq m n ≡ true) × (m ≡ n)) ⊎ ((nat_eq m n ≡ false) × (m ≡ n → ⊥)) → (m ≡ n) ⊎ In n (gathered here_nodes its) → (In n (gathered here_nodes its) → Found n its) → Found n (Lin.Here m ∷ its)
    by (inl a) j more = record {
      front = [];
      left = its;
      whole = ap (λ k. Lin.Here k ∷ its) a.1;
      is = ap (λ (b : Bool). if b then Lin.Here m ∷ its else items_from n its) a.0 ∙ ap (λ k. Lin.Here k ∷ its) a.1;
    }
    by (inr a) (inl e) more = absurd (a.1 e)
    by (inr a) (inr j) more = later n (Lin.Here m) its (ap (λ (b : Bool). if b then Lin.Here m ∷ its else items_from n its) a.0) (more j)
found n (Lin.Op op ∷ its) i = later n (Lin.Op op) its refl (found n its i)
found n (Lin.Label l ∷ its) i = later n (Lin.Label l) its refl (found n its i)
found n (Lin.Jump m ∷ its) i = later n (Lin.Jump m) its refl (found n its i)
found n (Lin.Test p m ∷ its) i = later n (Lin.Test p m) its refl (found n its i)
found n (Lin.Call g ∷ its) i = later n (Lin.Call g) its refl (found n its i)
found n (Lin.Return ∷ its) i = later n Lin.Return its refl (found n its i)

-- ---- what holds of one item

pub all_back : {A : Type 0} (P : A → Type 0) (xs ys : List A) → AllByRecursion P (xs ++ ys) → AllByRecursion P ys
all_back P [] ys h = h
all_back P (x ∷ xs) ys h = all_back P xs ys h.1

pub all_front : {A : Type 0} (P : A → Type 0) (xs ys : List A) → AllByRecursion P (xs ++ ys) → AllByRecursion P xs
all_front P [] ys h = tt
all_front P (x ∷ xs) ys h = (h.0, all_front P xs ys h.1)

-- what holds of all that is gathered holds of what is gathered from one
pub of_one : {A B : Type 0} (P : B → Type 0) (h : A → List B) (front : List A) (x : A) (left : List A) → AllByRecursion P (gathered h (front ++ x ∷ left)) → AllByRecursion P (h x)
of_one P h [] x left all = all_front P (h x) (gathered h left) all
of_one P h (y ∷ front) x left all = of_one P h front x left (all_back P (h y) (gathered h (front ++ x ∷ left)) all)

module _ (program : LinProgram) (well : IsWellFormed (selected program)) where
  abbrev asm : List AsmItem
  asm = selected program

  -- the items from the place of a node on stand where the place is
  goes_to : (f n : ℕ) (its : List LinItem) → slice_get program.lins f ≡ Some its → StandsOnce asm (is_here f n) → In n (gathered here_nodes its) → Stands program f (items_from n (items_at program.lins f)) (place (is_here f n) asm)
  goes_to f n its there once i =
      let w = found n its i in
      let s = stands_split program f its w.front (Lin.Here n ∷ w.left) there w.whole in
      let k = suc (begins_at program f its there).at + length (gathered (item_code f) w.front) in
      let at = placed asm (is_here f n) k (Here f n) once (drop_get asm k (Here f n) (gathered (item_code f) w.left ++ s.more) s.is) (here_passes f n) in
      let left_is : items_from n (items_at program.lins f) ≡ Lin.Here n ∷ w.left = ap (λ o. items_from n (items_or o)) there ∙ w.is in
      subst (λ z. Stands program f z (place (is_here f n) asm)) (sym left_is) (subst (λ z. Stands program f (Lin.Here n ∷ w.left) z) (sym at) s)

  pub jump_goes : (k f n : ℕ) (its : List LinItem) → slice_get asm k ≡ Some (Jump f n) → slice_get program.lins f ≡ Some its → In n (gathered here_nodes its) → Stands program f (items_from n (items_at program.lins f)) (target_of asm (Jump f n))
  jump_goes k f n its g there i = goes_to f n its there (of_each (JumpHasPlace asm) asm k (Jump f n) well.jumps g) i

  pub test_goes : (k f n : ℕ) (its : List LinItem) → slice_get asm k ≡ Some (Test f n) → slice_get program.lins f ≡ Some its → In n (gathered here_nodes its) → Stands program f (items_from n (items_at program.lins f)) (target_of asm (Test f n))
  test_goes k f n its g there i = goes_to f n its there (of_each (TestHasPlace asm) asm k (Test f n) well.tests g) i

  -- what a call comes to: the entry of the function, and after it its items
  pub record Enters (g : ℕ) : Type 0 where
    pub entry : slice_get asm (target_of asm (Call g)) ≡ Some (Enter g)
    pub stands : Stands program g (items_at program.lins g) (suc (target_of asm (Call g)))

  pub call_goes : (k g : ℕ) → slice_get asm k ≡ Some (Call g) → g < length program.lins → Enters g
  call_goes k g there lt =
      let its : List LinItem = get_or program.lins g [] in
      let is = slice_get-get_or program.lins g [] lt in
      let b = begins_at program g its is in
      let head = drop_get asm b.at (Enter g) (gathered (item_code g) its ++ b.more) b.is in
      let at = placed asm (is_enter g) b.at (Enter g) (of_each (CallHasEntry asm) asm k (Call g) well.calls there) head (eq_self g) in
      let z : suc b.at + 0 ≡ suc b.at = omega arith in
      let s = stands_split program g its [] its is refl in
      let all : items_at program.lins g ≡ its = ap items_or is in
      record {
        entry = subst (λ z. slice_get asm z ≡ Some (Enter g)) (sym at) head;
        stands = subst (λ n. Stands program g (items_at program.lins g) (suc n)) (sym at) (subst (λ n. Stands program g (items_at program.lins g) n) z (subst (λ y. Stands program g y (suc b.at + 0)) (sym all) s));
      }
