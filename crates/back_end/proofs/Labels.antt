-- As many labels are in each program of the chain as in the source.
use Rattle.std.proofs.Common.{◌≡◌, ℕ, suc, ◌+◌, ◌≤◌, List, [], ◌∷◌, ◌++◌, length, map, Bool, true, false, Some, refl, sym, ap, ◌∙◌, subst, arith, inl, inr, length-append, eq-eqb}
use Rattle.std.specs.Prelude.{◌⊎◌, nat_eq, if◌then◌else◌, slice_get}
use Rattle.std.proofs.lemmas.Bool.Decides.{eqb_tells}
use Rattle.cerco_middle.specs.Programs.{times_in}
use Rattle.cerco_middle.specs.declared.rtlabs.RtNode.{RtNode}
use Rattle.cerco_middle.specs.declared.rtlabs.RtOp.{RtOp}
use Rattle.cerco_middle.specs.declared.rtlabs.RtOp.TheVariants as o
use Rattle.cerco_middle.specs.Cminor.Trees.{CmFunction, Cminor}
use Rattle.cerco_middle.specs.Cminor.Trees as cm
use Rattle.cerco_middle.specs.RtLabs.Graphs.{RtFunction, RtLabs, label_at, labels_of_nodes}
use Rattle.cerco_middle.specs.RtLabs.Graphs as rt
use Rattle.rtlabs_gen.specs.Translation.{translated}
use Rattle.rtlabs_gen.proofs.LabelCounts.{functions_count}
use Rattle.rtl.specs.declared.locations.Vreg.{Vreg}
use Rattle.rtl.specs.declared.locations.Place.{Place}
use Rattle.rtl.specs.Programs.{Graph}
use Rattle.rtl.specs.Items.{LinItem}
use Rattle.rtl.specs.WellFormed.{gathered, labels_in, item_labels}
use Rattle.lin_gen.specs.Linearised.{AreOrderings}
use Rattle.lin_gen.proofs.Numbers.{total_one}
use Rattle.lin_gen.proofs.Kept.{labels_summed}

-- ---- lists that hold each number as often have one length

-- the list without a number, at the first place where it is
abbrev without : ℕ → List ℕ → List ℕ
without x [] = []
without x (y ∷ ys) = if nat_eq y x then ys else y ∷ without x ys

abbrev counted : Bool → ℕ → ℕ
counted b n = if b then suc n else n

swapped : (a b : Bool) (n : ℕ) → counted a (counted b n) ≡ counted b (counted a n)
swapped true true n = refl
swapped true false n = refl
swapped false true n = refl
swapped false false n = refl

one_less : (b : Bool) (m n : ℕ) → counted b m ≡ counted b n → m ≡ n
one_less true m n same = omega (arith, same)
one_less false m n same = same

shorter_by : (x y : ℕ) (ys : List ℕ) (b : Bool) → (1 ≤ times_in x ys → length ys ≡ suc (length (without x ys))) → 1 ≤ counted b (times_in x ys) → length (y ∷ ys) ≡ suc (length (if b then ys else y ∷ without x ys))
shorter_by x y ys true before some = refl
shorter_by x y ys false before some = ap suc (before some)

shorter : (x : ℕ) (ys : List ℕ) → 1 ≤ times_in x ys → length ys ≡ suc (length (without x ys))
shorter x [] some = absurd (omega (arith, some))
shorter x (y ∷ ys) some = shorter_by x y ys (nat_eq y x) (shorter x ys) some

as_often_by :
    (x y l : ℕ) (ys : List ℕ) → ((nat_eq y x ≡ true) × (y ≡ x)) ⊎ ((nat_eq y x ≡ false) × (y ≡ x → ⊥))
    → (1 ≤ times_in x ys → times_in l ys ≡ times_in l (x ∷ without x ys)) → 1 ≤ times_in x (y ∷ ys) → times_in l (y ∷ ys) ≡ times_in l (x ∷ without x (y ∷ ys))
as_often_by x y l ys (inl here) before some =
    ap (λ z. times_in l (z ∷ ys)) here.1 ∙ ap (λ b. times_in l (x ∷ (if b then ys else y ∷ without x ys))) (sym here.0)
as_often_by x y l ys (inr there) before some =
    let later : 1 ≤ times_in x ys = subst (λ b. 1 ≤ counted b (times_in x ys)) there.0 some in
    ap (counted (nat_eq y l)) (before later)
    ∙ swapped (nat_eq y l) (nat_eq x l) (times_in l (without x ys))
    ∙ ap (λ b. times_in l (x ∷ (if b then ys else y ∷ without x ys))) (sym there.0)

as_often : (x l : ℕ) (ys : List ℕ) → 1 ≤ times_in x ys → times_in l ys ≡ times_in l (x ∷ without x ys)
as_often x l [] some = absurd (omega (arith, some))
as_often x l (y ∷ ys) some = as_often_by x y l ys (eqb_tells y x) (as_often x l ys) some

at_front : (x : ℕ) (xs : List ℕ) → times_in x (x ∷ xs) ≡ suc (times_in x xs)
at_front x xs = ap (λ b. counted b (times_in x xs)) (eq-eqb x x refl)

pub one_length : (xs ys : List ℕ) → ((l : ℕ) → times_in l xs ≡ times_in l ys) → length xs ≡ length ys
one_length [] [] same = refl
one_length [] (y ∷ ys) same = let none = same y in let one = at_front y ys in absurd (omega (arith, none, one))
one_length (x ∷ xs) ys same =
    let some : 1 ≤ times_in x ys = (let one = at_front x xs in let is = same x in omega (arith, one, is)) in
    let rest : (l : ℕ) → times_in l xs ≡ times_in l (without x ys) = λ l. one_less (nat_eq x l) (times_in l xs) (times_in l (without x ys)) (same l ∙ as_often x l ys some) in
    ap suc (one_length xs (without x ys) rest) ∙ sym (shorter x ys some)

-- ---- from pass to pass

-- the graphs of a program have its labels
pub labs_labels_of : (p : Cminor) (q : RtLabs) → q ≡ translated p → length (rt.labels_of q.functions) ≡ length (cm.labels_of p.functions)
labs_labels_of p q is = ap (λ r. length (rt.labels_of r.functions)) is ∙ one_length (rt.labels_of (translated p).functions) (cm.labels_of p.functions) (λ l. functions_count l p.functions p.functions)

label_first : (op : RtOp) (more : List ℕ) → length (label_at op more) ≡ length (label_at op []) + length more
label_first (o.Label l) more = omega arith
label_first _ more = omega arith

labels_first : (nodes : List RtNode) (more : List ℕ) → length (labels_of_nodes nodes more) ≡ length (labels_of_nodes nodes []) + length more
labels_first [] more = omega arith
labels_first (node ∷ nodes) more =
    omega (arith, label_first node.op (labels_of_nodes nodes more), label_first node.op (labels_of_nodes nodes []), labels_first nodes more)

pub bytes_labels :
    (fs : List RtFunction) (gs : List (Graph Vreg)) → length gs ≡ length fs
    → ((i : ℕ) (f : RtFunction) (g : Graph Vreg) → slice_get fs i ≡ Some f → slice_get gs i ≡ Some g → labels_in g ≡ labels_of_nodes f.nodes []) → length (gathered labels_in gs) ≡ length (rt.labels_of fs)
bytes_labels [] [] count same = refl
bytes_labels [] (g ∷ gs) count same = absurd (omega (arith, count))
bytes_labels (f ∷ fs) [] count same = absurd (omega (arith, count))
bytes_labels (f ∷ fs) (g ∷ gs) count same =
    let here = ap length (same 0 f g refl refl) in
    let later = bytes_labels fs gs (omega (arith, count)) (λ i. same (suc i)) in
    omega (arith, length-append (labels_in g) (gathered labels_in gs), labels_first f.nodes (rt.labels_of fs), here, later)

-- graphs with the same labels, each by its number
pub kept_labels : {L M : Type 0} (gs : List (Graph L)) (hs : List (Graph M)) → map labels_in hs ≡ map labels_in gs → length (gathered labels_in hs) ≡ length (gathered labels_in gs)
kept_labels gs hs same = ap length (gathered_map hs ∙ ap (gathered (λ ls. ls)) same ∙ sym (gathered_map gs))
  where
    gathered_map : {L : Type 0} (gs : List (Graph L)) → gathered labels_in gs ≡ gathered (λ ls. ls) (map labels_in gs)
    gathered_map [] = refl
    gathered_map (g ∷ gs) = ap (λ more. labels_in g ++ more) (gathered_map gs)

pub lin_labels : (gs : List (Graph Place)) (lins : List (List LinItem)) → AreOrderings gs lins → length (gathered (λ items. gathered item_labels items) lins) ≡ length (gathered labels_in gs)
lin_labels [] [] all = refl
lin_labels [] (items ∷ lins) all = absurd all
lin_labels (g ∷ gs) [] all = absurd all
lin_labels (g ∷ gs) (items ∷ lins) all =
    let here : length (labels_in g) ≡ length (gathered item_labels items) =
    sym (total_one (labels_in g)) ∙ labels_summed g items all.1 (λ n. 1) ∙ total_one (gathered item_labels items) in
    let later = lin_labels gs lins all.2 in
    omega (arith, length-append (labels_in g) (gathered labels_in gs), length-append (gathered item_labels items) (gathered (λ items. gathered item_labels items) lins), here, later)
