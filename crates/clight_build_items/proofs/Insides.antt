-- A node inside an item.
use Rattle.std.proofs.Common.{◌≡◌, refl, ◌∙◌, OnOk, Result, Ok, Err}
use Rattle.cerco_base.specs.declared.no_memory.NoMemory.{NoMemory}
use Rattle.clight_nodes.specs.declared.nodes.Node.{Node}
use Rattle.clight_nodes.specs.declared.nodes.Node.TheVariants as n
use Rattle.clight_build_items.specs.Code.Stacks.{Whole, add_either, add_inside, add}

inside_other : (x : Node) (s : Whole) → ((a b : _) → x ≡ n.LocalValue a b → ⊥) → add_either x s ≡ add_inside x s
inside_other (n.LocalValue a b) s h = absurd (h a b refl)
inside_other x s h = refl

pub to_inside : {A : Type 0} (r : Result A NoMemory) (w : Whole) (x : Node) (s : Whole) → ((a b : _) → x ≡ n.LocalValue a b → ⊥) → OnOk r (w ≡ add_either x s) → OnOk r (w ≡ add_inside x s)
to_inside (Ok v) w x s h e = e ∙ inside_other x s h
to_inside (Err a) w x s h e = e

add_other : (x : Node) (s : Whole) → ((a b c : _) → x ≡ n.Struct a b c → ⊥) → ((a : _) → x ≡ n.Global a → ⊥) → ((a : _) → x ≡ n.Prototype a → ⊥) → ((a b : _) → x ≡ n.Function a b → ⊥)
    → add_inside x s ≡ add x s
add_other (n.Struct a b c) s h g p f = absurd (h a b c refl)
add_other (n.Global a) s h g p f = absurd (g a refl)
add_other (n.Prototype a) s h g p f = absurd (p a refl)
add_other (n.Function a b) s h g p f = absurd (f a b refl)
add_other x s h g p f = refl

pub to_whole : {A : Type 0} (r : Result A NoMemory) (w : Whole) (x : Node) (s : Whole) → ((a b c : _) → x ≡ n.Struct a b c → ⊥) → ((a : _) → x ≡ n.Global a → ⊥) → ((a : _) → x ≡ n.Prototype a → ⊥)
    → ((a b : _) → x ≡ n.Function a b → ⊥) → OnOk r (w ≡ add_inside x s) → OnOk r (w ≡ add x s)
to_whole (Ok v) w x s h g p f e = e ∙ add_other x s h g p f
to_whole (Err a) w x s h g p f e = e
