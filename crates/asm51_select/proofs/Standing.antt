-- Where the code of linear code stands among the items of the program.
use Rattle.std.proofs.Common.{◌≡◌, ℕ, zero, suc, ◌+◌, List, [], ◌∷◌, ◌++◌, length, drop, Some, sym, ap, ◌∙◌, subst, arith, append_assoc, slice_get}
use Rattle.std.proofs.Math.Seq.{drop-append-add}
use Rattle.mcs51_isa.specs.declared.instr.Instr.{Instr}
use Rattle.rtl.specs.Items.{LinItem, LinProgram}
use Rattle.rtl.specs.WellFormed.{gathered}
use Rattle.asm51.specs.declared.items.AsmItem.{AsmItem}
use Rattle.asm51.specs.declared.items.AsmItem.TheVariants.{Plain}
use Rattle.asm51.specs.StraightCode.{StandAt}
use Rattle.asm51_select.specs.Translation.{plains, item_code, function_code, functions_code, start_code, selected}
use Rattle.lin_gen.proofs.Sums.{gathered_append}

-- ---- what comes at a place of a list

pub drop_get : {A : Type 0} (xs : List A) (k : ℕ) (y : A) (ys : List A) → drop k xs ≡ y ∷ ys → slice_get xs k ≡ Some y
drop_get [] zero y ys e = absurd cc
drop_get [] (suc k) y ys e = absurd cc
drop_get (x ∷ xs) zero y ys e = cc
drop_get (x ∷ xs) (suc k) y ys e = drop_get xs k y ys e

pub drop_on : {A : Type 0} (xs : List A) (k : ℕ) (y : A) (ys : List A) → drop k xs ≡ y ∷ ys → drop (suc k) xs ≡ ys
drop_on [] zero y ys e = absurd cc
drop_on [] (suc k) y ys e = absurd cc
drop_on (x ∷ xs) zero y ys e = cc
drop_on (x ∷ xs) (suc k) y ys e = drop_on xs k y ys e

pub drop_past : {A : Type 0} (xs : List A) (k : ℕ) (now ys : List A) → drop k xs ≡ now ++ ys → drop (k + length now) xs ≡ ys
drop_past xs k [] ys e = let z : k + 0 ≡ k = omega arith in ap (λ n. drop n xs) z ∙ e
drop_past xs k (y ∷ now) ys e =
    let z : k + suc (length now) ≡ suc k + length now = omega arith in
    ap (λ n. drop n xs) z ∙ drop_past xs (suc k) now ys (drop_on xs k y (now ++ ys) e)

pub plains_stand : (items : List AsmItem) (k : ℕ) (is : List Instr) (more : List AsmItem) → drop k items ≡ plains is ++ more → StandAt items k is
plains_stand items k [] more e = tt
plains_stand items k (i ∷ is) more e = (drop_get items k (Plain i) (plains is ++ more) e, plains_stand items (suc k) is more (drop_on items k (Plain i) (plains is ++ more) e))

-- ---- functions

-- where a function begins
pub record Begins (items : List AsmItem) (f : ℕ) (its : List LinItem) : Type 0 where
  pub at : ℕ
  pub more : List AsmItem
  pub is : drop at items ≡ function_code f its ++ more

begins_from : (base : ℕ) (lins : List (List LinItem)) (k : ℕ) (its : List LinItem) → slice_get lins k ≡ Some its → Begins (functions_code base lins) (base + k) its
begins_from base [] k its e = absurd cc
begins_from base (x ∷ lins) zero its e =
    let z : base + 0 ≡ base = omega arith in
    let same : x ≡ its = cc in
    subst (λ n. Begins (functions_code base (x ∷ lins)) n its) (sym z)
    (record { at = 0; more = functions_code (suc base) lins; is = ap (λ y. function_code base y ++ functions_code (suc base) lins) same })
begins_from base (x ∷ lins) (suc k) its e =
    let z : base + suc k ≡ suc base + k = omega arith in
    let b = begins_from (suc base) lins k its e in
    subst (λ n. Begins (functions_code base (x ∷ lins)) n its) (sym z)
    (record { at = length (function_code base x) + b.at; more = b.more; is = drop-append-add (function_code base x) (functions_code (suc base) lins) b.at ∙ b.is })

pub begins_at : (program : LinProgram) (f : ℕ) (its : List LinItem) → slice_get program.lins f ≡ Some its → Begins (selected program) f its
unfolding selected
begins_at program f its there =
    let b = begins_from 0 program.lins f its there in
    let z : 0 + f ≡ f = omega arith in
    let first = start_code program.start program.main in
    subst (λ n. Begins (selected program) n its) z
    (record { at = length first + b.at; more = b.more; is = drop-append-add first (functions_code 0 program.lins) b.at ∙ b.is })

-- The items of function f from these on stand here.
pub record Stands (program : LinProgram) (f : ℕ) (left : List LinItem) (k : ℕ) : Type 0 where
  pub its : List LinItem
  pub there : slice_get program.lins f ≡ Some its
  pub front : List LinItem
  pub whole : its ≡ front ++ left
  pub more : List AsmItem
  pub is : drop k (selected program) ≡ gathered (item_code f) left ++ more

-- the items of a function stand after its entry
pub stands_split : (program : LinProgram) (f : ℕ) (its front left : List LinItem) (there : slice_get program.lins f ≡ Some its) → its ≡ front ++ left → Stands program f left (suc (begins_at program f its there).at + length (gathered (item_code f) front))
stands_split program f its front left there whole =
    let b = begins_at program f its there in
    let all = gathered (item_code f) its ++ b.more in
    let inside = drop_on (selected program) b.at _ all b.is in
    let parts : gathered (item_code f) its ≡ gathered (item_code f) front ++ gathered (item_code f) left = ap (gathered (item_code f)) whole ∙ gathered_append (item_code f) front left in
    let both = ap (λ z. z ++ b.more) parts ∙ append_assoc (gathered (item_code f) front) (gathered (item_code f) left) b.more in
    record {
      its = its;
      there = there;
      front = front;
      whole = whole;
      more = b.more;
      is = drop_past (selected program) (suc b.at) (gathered (item_code f) front) (gathered (item_code f) left ++ b.more) (inside ∙ both);
    }

-- past an item
pub stands_on : (program : LinProgram) (f : ℕ) (item : LinItem) (left : List LinItem) (k : ℕ) → Stands program f (item ∷ left) k → Stands program f left (k + length (item_code f item))
stands_on program f item left k s = record {
  its = s.its;
  there = s.there;
  front = s.front ++ item ∷ [];
  whole = s.whole ∙ sym (append_assoc s.front (item ∷ []) left);
  more = s.more;
  is = drop_past (selected program) k (item_code f item) (gathered (item_code f) left ++ s.more) (s.is ∙ append_assoc (item_code f item) (gathered (item_code f) left) s.more);
}
