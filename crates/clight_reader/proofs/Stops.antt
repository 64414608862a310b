-- Where the recogniser stops, the terminals have their first fault, and where it ends, they spell the items of its nodes.
use Rattle.std.proofs.Common.{◌≡◌, ℕ, suc, ◌+◌, ◌<◌, ◌≤◌, Bool, true, false, List, [], ◌∷◌, ◌++◌, length, take, get_or, refl, sym, ap, ◌∙◌, add-one, arith}
use Rattle.std.proofs.lemmas.List.{take_more, take_all}
use Rattle.clight_source.specs.declared.symbol.Terminal.{Terminal}
use Rattle.clight_source.specs.Trees.{Item}
use Rattle.clight_source.specs.Spelling.{Spells}
use Rattle.clight_nodes.specs.declared.forms.Form.{Form}
use Rattle.clight_nodes.specs.declared.modes.Mode.{Mode}
use Rattle.clight_nodes.specs.declared.modes.Mode.TheVariants as m
use Rattle.clight_nodes.specs.declared.modes.DeclarationMode.TheVariants as d
use Rattle.clight_nodes.specs.declared.nodes.Node.{Node}
use Rattle.clight_nodes.specs.Code.States.{State, at, newest, state, now}
use Rattle.clight_nodes.specs.Code.Recogniser as r
use Rattle.clight_nodes.specs.Code.Recogniser.{is_refused, may_end}
use Rattle.clight_nodes.specs.Code.Postfix.{out_items}
use Rattle.clight_nodes.proofs.Newest.{newest-nil}
use Rattle.clight_grammar.specs.Faults.{FaultAt}
use Rattle.clight_grammar.specs.Code.Machine.{run, start, ends, refused}
use Rattle.clight_grammar.proofs.FlatSteps.{refused_flat, ends_flat, no_end_flat}
use Rattle.clight_grammar.proofs.Programs.{sound, fault_at}

-- ---- the recogniser's modes

pub refused_now : (v : Mode) (k : List Form) (z : List Node) → is_refused (now v k z).mode ≡ is_refused v
refused_now (m.Declaration x) k z = refl
refused_now m.Finished k z = refl
refused_now m.Refused k z = refl
refused_now v k z = refl

pub may_end_now : (v : Mode) (k : List Form) (z : List Node) → may_end (now v k z).mode ≡ may_end v
may_end_now (m.Declaration x) k z = refl
may_end_now m.Finished k z = refl
may_end_now m.Refused k z = refl
may_end_now v k z = refl

pub nodes_now : (v : Mode) (k : List Form) (z : List Node) → may_end v ≡ true → (now v k z).nodes ≡ newest z
nodes_now (m.Declaration x) k z h = refl
nodes_now v k z h = cc

pub renewed_now : (v : Mode) (k : List Form) (z : List Node) → now (r.again v) k z ≡ r.renewed (now v k z)
renewed_now (m.Declaration x) k z = refl
renewed_now m.Finished k z = refl
renewed_now m.Refused k z = refl
renewed_now v k z = refl

-- ---- the loop

run_append : (l k : List Terminal) (x : State) → r.run x (l ++ k) ≡ r.run (r.run x l) k
run_append [] k x = refl
run_append (t ∷ l) k x = run_append l k (r.step x t)

run_next : (l : List Terminal) (i : ℕ) (d : Terminal) → i < length l → r.run r.start (take (i + 1) l) ≡ r.step (r.run r.start (take i l)) (get_or l i d)
run_next l i d h = ap (r.run r.start) (take_more l i d h) ∙ run_append (take i l) (get_or l i d ∷ []) r.start

-- the state after one more terminal
pub next_reads : (l : List Terminal) (i : ℕ) (d : Terminal) (v w u : Mode) (k q : List Form) (z y : List Node) → i < length l → now v k z ≡ r.run r.start (take i l)
    → now w q y ≡ r.next (now v k z) (get_or l i d).symbol (get_or l i d).span → u ≡ r.again w → now u q y ≡ r.run r.start (take (i + 1) l)
next_reads l i d v w u k q z y h e g s =
    ap (λ x. now x q y) s ∙ (renewed_now w q y ∙ (ap r.renewed g ∙ (ap (λ x. r.step x (get_or l i d)) e ∙ sym (run_next l i d h))))

pub at_start : (k : List Form) (z : List Node) → z ≡ [] → now (m.Declaration d.ItemStart) k z ≡ r.start
at_start k z h = ap (at (m.Declaration d.ItemStart) []) (ap newest h ∙ newest-nil)

-- ---- the answers

abbrev is_refused_in : State → Bool
is_refused_in x = is_refused x.mode

abbrev may_end_in : State → Bool
may_end_in x = may_end x.mode

goes_on : (l : List Terminal) (v : Mode) (k : List Form) (z : List Node) → now v k z ≡ r.run r.start l → is_refused v ≡ false → refused (run start l).mode ≡ false
goes_on l v k z e g = refused_flat l ∙ (sym (ap is_refused_in e) ∙ (refused_now v k z ∙ g))

-- the first terminal that is refused
pub at_terminal : (l : List Terminal) (i : ℕ) (v u : Mode) (k q : List Form) (z y : List Node) → i < length l → now v k z ≡ r.run r.start (take i l) → is_refused v ≡ false
    → now u q y ≡ r.run r.start (take (i + 1) l) → is_refused u ≡ true → FaultAt l i
at_terminal l i v u k q z y h e g s f =
    fault_at l i (omega arith) (goes_on (take i l) v k z e g)
    (λ b. refused_flat (take (suc i) l) ∙ rw (← add-one i) (sym (ap is_refused_in s) ∙ (refused_now u q y ∙ f)))
    (λ b. absurd (omega arith))

whole : (l : List Terminal) (i : ℕ) (x : State) → length l ≤ i → x ≡ r.run r.start (take i l) → x ≡ r.run r.start l
whole l i x h e = e ∙ ap (r.run r.start) (take_all i l h)

-- the end of the terminals, where it is refused
pub at_end : (l : List Terminal) (i : ℕ) (v : Mode) (k : List Form) (z : List Node) → length l ≤ i → now v k z ≡ r.run r.start (take i l) → is_refused v ≡ false → may_end v ≡ false
    → FaultAt l (length l)
at_end l i v k z h e g f =
    let s = whole l i (now v k z) h e in
    fault_at l (length l) (omega arith)
    (ap (λ x. refused (run start x).mode) (take_all (length l) l (omega arith)) ∙ goes_on l v k z s g)
    (λ b. absurd (omega arith))
    (λ b. no_end_flat l (sym (ap may_end_in s) ∙ (may_end_now v k z ∙ f)))

-- the end of the terminals, where it is none
pub at_nodes : (l : List Terminal) (i : ℕ) (v : Mode) (k : List Form) (z : List Node) → length l ≤ i → now v k z ≡ r.run r.start (take i l) → may_end v ≡ true
    → (items : List Item) × Spells items l × (newest z ≡ out_items items)
at_nodes l i v k z h e g =
    let s = whole l i (now v k z) h e in
    let a = ends_flat l (sym (ap may_end_in s) ∙ (may_end_now v k z ∙ g)) in
    (a.0, sound l a.0 a.1, sym (nodes_now v k z g) ∙ (ap (λ (x : State). x.nodes) s ∙ a.2))
