-- A jump to a node finds the node's place.
use Rattle.std.proofs.Common.{◌≡◌, ℕ, List, [], ◌∷◌, ◌++◌, map, Option, Some, None, Bool, true, false, inl, inr, refl, ap, ◌∙◌, ⊎_elim}
use Rattle.std.specs.Prelude.{nat_eq, if◌then◌else◌}
use Rattle.std.proofs.lemmas.Bool.Decides.{eqb_tells}
use Rattle.cerco_traces.specs.LabelledGraphs.{In}
use Rattle.rtl.specs.declared.graphs.Exit.TheVariants as Out
use Rattle.rtl.specs.Items as Item
use Rattle.lin_gen.specs.Ordering.{exit_items, head_of, laid, way_to}
use Rattle.rtl.specs.Graphs.{exit_at, ops_at}
use Rattle.rtl.specs.Items.{LinItem}
use Rattle.rtl.specs.Linear.{items_from}
use Rattle.rtl.specs.Operations.{ByteOp}
use Rattle.rtl.specs.Programs.{Graph}
use Rattle.rtl.specs.declared.graphs.Exit.{Exit}
use Rattle.rtl.specs.declared.locations.Place.{Place}

pub eq_self : (q : ℕ) → nat_eq q q ≡ true
eq_self q = ⊎_elim (λ a. a.0) (λ a. absurd (a.1 refl)) (eqb_tells q q)

pub eq_other : (p q : ℕ) → (p ≡ q → ⊥) → nat_eq p q ≡ false
eq_other p q ne = ⊎_elim (λ a. absurd (ne a.1)) (λ a. a.0) (eqb_tells p q)

past_ops : (q : ℕ) (ops : List (ByteOp Place)) (more : List LinItem) → items_from q (map Item.Op ops ++ more) ≡ items_from q more
past_ops q [] more = refl
past_ops q (op ∷ ops) more = past_ops q ops more

past_way : (q r : ℕ) (next : Option ℕ) (more : List LinItem) → items_from q (way_to r next more) ≡ items_from q more
past_way q r None more = refl
past_way q r (Some n) more = by (nat_eq r n)
  where
    by : (b : Bool) → items_from q (if b then more else Item.Jump r ∷ more) ≡ items_from q more
    by true = refl
    by false = refl

past_exit : (q : ℕ) (e : Exit Place) (next : Option ℕ) (more : List LinItem) → items_from q (exit_items e next more) ≡ items_from q more
past_exit q (Out.Next r) next more = past_way q r next more
past_exit q (Out.Test v true_arm false_arm) next more = refl
past_exit q (Out.Call f r) next more = refl
past_exit q (Out.Label l r) next more = past_way q r next more
past_exit q Out.Return next more = refl

pub seek_laid : (G : Graph Place) (q : ℕ) (front rest : List ℕ) → (In q front → ⊥) → items_from q (laid G (front ++ q ∷ rest)) ≡ laid G (q ∷ rest)
seek_laid G q [] rest out = ap (λ (b : Bool). if b then laid G (q ∷ rest) else items_from q (map Item.Op (ops_at G q) ++ exit_items (exit_at G q) (head_of rest) (laid G rest))) (eq_self q)
seek_laid G q (p ∷ front) rest out =
    let after = front ++ q ∷ rest in
    let more = map Item.Op (ops_at G p) ++ exit_items (exit_at G p) (head_of after) (laid G after) in
    ap (λ (b : Bool). if b then Item.Here p ∷ more else items_from q more) (eq_other p q (λ e. out (inl e)))
    ∙ past_ops q (ops_at G p) (exit_items (exit_at G p) (head_of after) (laid G after))
    ∙ past_exit q (exit_at G p) (head_of after) (laid G after)
    ∙ seek_laid G q front rest (λ i. out (inr i))
