-- Items added one node after the other.
use Rattle.std.proofs.Common.{◌≡◌, ℕ, List, [], ◌∷◌, ◌++◌, map, Bool, true, false, Option, Some, None, refl, sym, ap, ◌∙◌, append_assoc}
use Rattle.std.proofs.Common.{Result, Ok, Err}
use Rattle.std.proofs.lemmas.Option.{slice_get-map}
use Rattle.std.specs.Prelude.{nat_eq, if◌then◌else◌, slice_get, IfOk}
use Rattle.rtl.specs.declared.graphs.Exit.TheVariants as Out
use Rattle.rtl.specs.Items as Item
use Rattle.rtl.specs.declared.graphs.Node.{Node as WrittenNode}
use Rattle.rtl.specs.declared.graphs.Graph.{Graph as WrittenGraph}
use Rattle.lin_gen.specs.Ordering.{exit_items, head_of, laid, node_items, way_to}
use Rattle.rtl.specs.Code.Views.{graph_of, node_of}
use Rattle.rtl.specs.Graphs.{node_at, node_or}
use Rattle.rtl.specs.Items.{LinItem}
use Rattle.rtl.specs.Programs.{Graph, Node}
use Rattle.rtl.specs.declared.graphs.Exit.{Exit}
use Rattle.rtl.specs.declared.locations.Place.{Place}

way_more : (q : ℕ) (next : Option ℕ) (more : List LinItem) → way_to q next more ≡ way_to q next [] ++ more
way_more q None more = refl
way_more q (Some p) more = by (nat_eq q p)
  where
    by : (b : Bool) → (if b then more else Item.Jump q ∷ more) ≡ (if b then [] else Item.Jump q ∷ []) ++ more
    by true = refl
    by false = refl

exit_more : (e : Exit Place) (next : Option ℕ) (more : List LinItem) → exit_items e next more ≡ exit_items e next [] ++ more
exit_more (Out.Next q) next more = way_more q next more
exit_more (Out.Test v true_arm false_arm) next more = refl
exit_more (Out.Call f q) next more = refl
exit_more (Out.Label l q) next more = ap (λ z. Item.Label l ∷ z) (way_more q next more)
exit_more Out.Return next more = refl

pub node_more : (p : ℕ) (n : Node Place) (next : Option ℕ) (more : List LinItem) → node_items p n next more ≡ node_items p n next [] ++ more
node_more p n next more =
    ap (λ z. Item.Here p ∷ z) (ap (λ z. map Item.Op n.ops ++ z) (exit_more n.exit next more) ∙ sym (append_assoc (map Item.Op n.ops) (exit_items n.exit next []) more))

-- one node more
pub laid_more : (G : Graph Place) (items items' : List LinItem) (p : ℕ) (ps whole : List ℕ) → items ++ laid G (p ∷ ps) ≡ laid G whole → items' ≡ items ++ node_items p (node_at G p) (head_of ps) [] → items' ++ laid G ps ≡ laid G whole
laid_more G items items' p ps whole before is =
    ap (λ z. z ++ laid G ps) is
    ∙ append_assoc items (node_items p (node_at G p) (head_of ps) []) (laid G ps)
    ∙ ap (λ z. items ++ z) (sym (node_more p (node_at G p) (head_of ps) (laid G ps)))
    ∙ before

pub if_ok : {A E : Type 0} (P Q : A → Type 0) → ((a : A) → P a → Q a) → (r : Result A E) → IfOk r P → IfOk r Q
if_ok P Q f (Ok a) h = f a h
if_ok P Q f (Err e) h = h

pub node_there : (g : WrittenGraph Place) (p : ℕ) (n : WrittenNode Place) → slice_get g.nodes p ≡ Some n → node_at (graph_of g) p ≡ node_of n
node_there g p n e = ap (node_or p) (slice_get-map node_of g.nodes p ∙ ap (λ o. Rattle.std.specs.Prelude.option_map node_of o) e)

pub node_added : (items items1 items2 items3 : List LinItem) (p : ℕ) (n : Node Place) (next : Option ℕ) → items1 ≡ items ++ Item.Here p ∷ [] → items2 ≡ items1 ++ map Item.Op n.ops → items3 ≡ items2 ++ exit_items n.exit next [] → items3 ≡ items ++ node_items p n next []
node_added items items1 items2 items3 p n next a b c =
    c ∙ ap (λ z. z ++ exit_items n.exit next []) (b ∙ ap (λ z. z ++ map Item.Op n.ops) a)
    ∙ append_assoc (items ++ Item.Here p ∷ []) (map Item.Op n.ops) (exit_items n.exit next [])
    ∙ append_assoc items (Item.Here p ∷ []) (map Item.Op n.ops ++ exit_items n.exit next [])
