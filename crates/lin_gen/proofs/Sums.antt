-- What is gathered from the items of an ordering, and sums over it.
use Rattle.std.proofs.Common.{◌≡◌, ℕ, ◌+◌, ◌<◌, List, [], ◌∷◌, ◌++◌, length, map, Bool, true, false, Option, Some, None, inl, inr, refl, sym, ap, ap₂, ◌∙◌, arith, append_assoc}
use Rattle.std.specs.Prelude.{nat_eq, if◌then◌else◌, slice_get}
use Rattle.std.proofs.lemmas.Option.{slice_get-get_or}
use Rattle.cerco_traces.specs.LabelledGraphs.{In}
use Rattle.rtl.specs.declared.locations.Place.{Place}
use Rattle.rtl.specs.declared.graphs.Exit.{Exit}
use Rattle.rtl.specs.declared.graphs.Exit.TheVariants as Out
use Rattle.rtl.specs.Operations.{ByteOp}
use Rattle.rtl.specs.Programs.{Node, Graph}
use Rattle.rtl.specs.Items.{LinItem}
use Rattle.rtl.specs.Items as Item
use Rattle.rtl.specs.Graphs.{stay, node_or, node_at, ops_at, exit_at}
use Rattle.rtl.specs.Lengths.{total}
use Rattle.rtl.specs.WellFormed.{gathered}
use Rattle.lin_gen.specs.Ordering.{head_of, way_to, exit_items, laid, IsOrder}
use Rattle.lin_gen.proofs.Numbers.{total_append, sum_below, sum_shift, sum_once, sum_every}

-- ---- sums over the nodes in an order

-- the value of a node, if it is there
abbrev value_in : (Node Place → ℕ) → Option (Node Place) → ℕ
value_in f None = 0
value_in f (Some n) = f n

abbrev value_at : (Node Place → ℕ) → List (Node Place) → ℕ → ℕ
value_at f ns p = value_in f (slice_get ns p)

value_there : (f : Node Place → ℕ) (g : Graph Place) (p : ℕ) → p < length g.nodes → value_at f g.nodes p ≡ f (node_at g p)
value_there f g p lt = let e = slice_get-get_or g.nodes p (stay p) lt in ap (value_in f) e ∙ ap (λ o. f (node_or p o)) (sym e)

sum_nodes : (f : Node Place → ℕ) (ns : List (Node Place)) → sum_below (value_at f ns) (length ns) ≡ total f ns
sum_nodes f [] = refl
sum_nodes f (n ∷ ns) = sum_shift (value_at f (n ∷ ns)) (length ns) ∙ ap (λ k. f n + k) (sum_nodes f ns)

values_there : (f : Node Place → ℕ) (g : Graph Place) (order : List ℕ) → ((p : ℕ) → In p order → p < length g.nodes) → total (λ p. f (node_at g p)) order ≡ total (value_at f g.nodes) order
values_there f g [] within = refl
values_there f g (p ∷ ps) within =
    let e = value_there f g p (within p (inl refl)) in
    let k = values_there f g ps (λ q i. within q (inr i)) in
    omega arith

-- a sum over an order of the nodes is the sum over the nodes
pub sum_ordered : (f : Node Place → ℕ) (g : Graph Place) (order : List ℕ) → IsOrder g order → total (λ p. f (node_at g p)) order ≡ total f g.nodes
sum_ordered f g order o =
    let a = values_there f g order o.only in
    let b = sum_once (value_at f g.nodes) (length g.nodes) order o.once o.only in
    let c = sum_every (value_at f g.nodes) (length g.nodes) order o.every in
    let e = sum_nodes f g.nodes in
    omega arith

-- ---- lists gathered

pub gathered_append : {A B : Type 0} (f : A → List B) (xs ys : List A) → gathered f (xs ++ ys) ≡ gathered f xs ++ gathered f ys
gathered_append f [] ys = refl
gathered_append f (x ∷ xs) ys = ap (λ z. f x ++ z) (gathered_append f xs ys) ∙ sym (append_assoc (f x) (gathered f xs) (gathered f ys))

pub total_gathered : {A B : Type 0} (w : B → ℕ) (f : A → List B) (xs : List A) → total w (gathered f xs) ≡ total (λ x. total w (f x)) xs
total_gathered w f [] = refl
total_gathered w f (x ∷ xs) = total_append w (f x) (gathered f xs) ∙ ap (λ k. total w (f x) + k) (total_gathered w f xs)

pub gathered_none : {A B : Type 0} (xs : List A) → gathered {A = A} {B = B} (λ x. []) xs ≡ []
gathered_none [] = refl
gathered_none (x ∷ xs) = gathered_none xs

-- ---- what is gathered from items

-- What h gathers from items, o gathers from operations and k from exits; from places and jumps nothing is gathered.
pub record Gathers {A : Type 0} (h : LinItem → List A) (o : ByteOp Place → List A) (k : Exit Place → List A) : Type 0 where
  pub jumps : (q : ℕ) → h (Item.Jump q) ≡ []
  pub ops : (op : ByteOp Place) → h (Item.Op op) ≡ o op
  pub exits : (e : Exit Place) (more : List LinItem) → gathered h (exit_items e None more) ≡ k e ++ gathered h more

module _ {A : Type 0} (h : LinItem → List A) (o : ByteOp Place → List A) (k : Exit Place → List A) (is : Gathers h o k) where
  way_gathered : (q : ℕ) (next : Option ℕ) (more : List LinItem) → gathered h (way_to q next more) ≡ gathered h more
  way_gathered q None more = ap (λ z. z ++ gathered h more) (is.jumps q)
  way_gathered q (Some p) more = by (nat_eq q p)
    where
      by : (b : Bool) → gathered h (if b then more else Item.Jump q ∷ more) ≡ gathered h more
      by true = refl
      by false = ap (λ z. z ++ gathered h more) (is.jumps q)

  -- a jump that is left out changes nothing
  exit_same : (e : Exit Place) (next : Option ℕ) (more : List LinItem) → gathered h (exit_items e next more) ≡ gathered h (exit_items e None more)
  exit_same (Out.Next q) next more = way_gathered q next more ∙ sym (way_gathered q None more)
  exit_same (Out.Test v true_arm false_arm) next more = refl
  exit_same (Out.Call f q) next more = refl
  exit_same (Out.Label l q) next more = ap (λ z. h (Item.Label l) ++ z) (way_gathered q next more ∙ sym (way_gathered q None more))
  exit_same Out.Return next more = refl

  ops_gathered : (ops : List (ByteOp Place)) (more : List LinItem) → gathered h (map Item.Op ops ++ more) ≡ gathered o ops ++ gathered h more
  ops_gathered [] more = refl
  ops_gathered (op ∷ ops) more = ap₂ (λ x y. x ++ y) (is.ops op) (ops_gathered ops more) ∙ sym (append_assoc (o op) (gathered o ops) (gathered h more))

  pub laid_gathered : (g : Graph Place) (order : List ℕ) → gathered h (laid g order) ≡ gathered (λ p. h (Item.Here p) ++ (gathered o (ops_at g p) ++ k (exit_at g p))) order
  laid_gathered g [] = refl
  laid_gathered g (p ∷ ps) =
      let more = laid g ps in
      let e = exit_at g p in
      let ops = ops_at g p in
      let rest = ops_gathered ops (exit_items e (head_of ps) more) ∙ ap (λ z. gathered o ops ++ z) (exit_same e (head_of ps) more ∙ is.exits e more) ∙ sym (append_assoc (gathered o ops) (k e) (gathered h more)) in
      ap (λ z. h (Item.Here p) ++ z) rest
      ∙ sym (append_assoc (h (Item.Here p)) (gathered o ops ++ k e) (gathered h more))
      ∙ ap (λ z. (h (Item.Here p) ++ (gathered o ops ++ k e)) ++ z) (laid_gathered g ps)
