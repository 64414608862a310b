-- A certificate of a graph: a fact for each node, and a condition at each node that speaks of its own fact and of those of the
-- nodes that come next alone. What holds of all paths follows from it. It is carried while nodes are added.
use Rattle.std.proofs.Common.{◌≡◌, ◌≢◌, ℕ, suc, ◌<◌, ◌≤◌, List, [], ◌∷◌, ◌++◌, length, Bool, true, false, Option, Some, None, ◌⊎◌, inl, inr, refl, sym, ap, ◌∙◌, subst, ⊎_elim, eq-eqb, ne_eqb, if◌then◌else◌, arith, length-append}
use Rattle.std.specs.Prelude.{slice_get, nat_eq}
use Rattle.cerco_base.specs.declared.events.Label.{Label}
use Rattle.cerco_traces.specs.LabelledGraphs.{In}
use Rattle.cerco_middle.specs.declared.operators.Held.{Held}
use Rattle.cerco_middle.specs.declared.rtlabs.RtOp.{RtOp}
use Rattle.cerco_middle.specs.declared.rtlabs.RtOp.TheVariants as o
use Rattle.cerco_middle.specs.declared.rtlabs.RtNode.{RtNode}
use Rattle.cerco_middle.specs.Calls.{Argument}
use Rattle.cerco_middle.specs.RtLabs.Graphs.{next_nodes}
use Rattle.cerco_middle.specs.RtLabs.WellFormed.{is_call, and_argument}
use Rattle.rtlabs_gen.proofs.Lists.{get_within, get_added}

-- what is known before a node
pub record Fact : Type 0 where
  -- what was handed over since the entry or the last call
  pub arguments : List Argument
  -- how many temporaries were written
  pub written : ℕ
  -- only the node with the next number leads here
  pub owned : Bool
  -- the node is a label
  pub label : Bool

abbrev pub Facts : Type 0
Facts = ℕ → Fact

abbrev pub plain : List Argument → ℕ → Fact
plain arguments written = record { arguments = arguments; written = written; owned = false; label = false }

-- the facts with another one of one node
pub noted : Facts → ℕ → Fact → Facts
noted facts n v = λ y. if nat_eq y n then v else facts y

pub noted_same : (facts : Facts) (n : ℕ) (v : Fact) → noted facts n v n ≡ v
unfolding noted
noted_same facts n v = ap (λ found. if found then v else facts n) (eq-eqb n n refl)

pub noted_other : (facts : Facts) (n y : ℕ) (v : Fact) → y ≢ n → noted facts n v y ≡ facts y
unfolding noted
noted_other facts n y v other = ap (λ found. if found then v else facts y) (ne_eqb y n other)

-- ---- what is asked of an operation

-- how many temporaries are written before it
abbrev pub needs : RtOp → ℕ
needs (o.Const t number) = t
needs (o.Get t x) = t
needs (o.Put x t) = suc t
needs (o.Neg t) = suc t
needs (o.Not t) = suc t
needs (o.Narrow h t) = suc t
needs (o.Bin op t u) = suc u
needs (o.Shl k t) = suc t
needs (o.Shr k arithmetic t) = suc t
needs (o.Load h t) = suc t
needs (o.Store h t u) = suc u
needs (o.ReadPort t) = t
needs (o.WritePort t) = suc t
needs (o.Arg h first t) = suc t
needs (o.Call g) = 0
needs (o.Result h t) = t
needs (o.Label l) = 0
needs (o.Test t one other) = suc t
needs o.Return = 0
needs (o.ReturnValue t) = suc t

-- how many are after it
abbrev pub leaves : RtOp → ℕ
leaves (o.Const t number) = suc t
leaves (o.Get t x) = suc t
leaves (o.Put x t) = t
leaves (o.Neg t) = suc t
leaves (o.Not t) = suc t
leaves (o.Narrow h t) = suc t
leaves (o.Bin op t u) = suc t
leaves (o.Shl k t) = suc t
leaves (o.Shr k arithmetic t) = suc t
leaves (o.Load h t) = suc t
leaves (o.Store h t u) = t
leaves (o.ReadPort t) = suc t
leaves (o.WritePort t) = t
leaves (o.Arg h first t) = t
leaves (o.Call g) = 0
leaves (o.Result h t) = suc t
leaves (o.Label l) = 0
leaves (o.Test t one other) = t
leaves o.Return = 0
leaves (o.ReturnValue t) = t

-- of two temporaries the right one is the later one
abbrev pub Orderly : RtOp → Type 0
Orderly (o.Bin op t u) = t < u
Orderly (o.Store h t u) = t < u
Orderly _ = Unit {0}

-- what was handed over where no argument is evaluated; Meets says which arguments a call of a function may be handed
abbrev pub Quiet : (ℕ → List Argument → Type 0) → RtOp → List Argument → Type 0
Quiet Meets (o.Call g) arguments = Meets g arguments
Quiet Meets (o.Label l) arguments = arguments ≡ []
Quiet Meets (o.Test t one other) arguments = arguments ≡ []
Quiet Meets o.Return arguments = arguments ≡ []
Quiet Meets (o.ReturnValue t) arguments = arguments ≡ []
Quiet Meets _ arguments = Unit {0}

abbrev pub IsLabelOp : RtOp → Type 0
IsLabelOp (o.Label l) = Unit {0}
IsLabelOp _ = ⊥

abbrev pub IsOwnedResult : RtOp → Bool → Type 0
IsOwnedResult (o.Result h t) owned = owned ≡ true
IsOwnedResult _ owned = Unit {0}

-- all but labels lead to smaller numbers
abbrev pub Falls : RtOp → ℕ → ℕ → Type 0
Falls (o.Label l) p q = Unit {0}
Falls _ p q = q < p

-- the two nodes before this one
abbrev pub Arms : ℕ → ℕ → ℕ → Type 0
Arms one other p = ((suc one ≡ p) × (suc (suc other) ≡ p)) ⊎ ((suc other ≡ p) × (suc (suc one) ≡ p))

-- where a test and a call lead
abbrev pub Tied : Facts → ℕ → RtOp → Option ℕ → Type 0
Tied facts p (o.Test t one other) next = ((facts one).label ≡ true) × ((facts other).label ≡ true) × Arms one other p
Tied facts p (o.Call g) (Some q) = ((facts q).label ≡ true) × ((facts q).owned ≡ true)
Tied facts p _ next = Unit {0}

-- the arguments with which a node is left
abbrev pub left_with : List Argument → RtOp → List Argument
left_with arguments op = if is_call op then [] else and_argument arguments op

-- a node leads to q
pub record Edge (size : ℕ) (facts : Facts) (p : ℕ) (v : Fact) (op : RtOp) (q : ℕ) : Type 0 where
  pub below : q < size
  pub arguments : left_with v.arguments op ≡ (facts q).arguments
  pub written : (facts q).written ≡ leaves op
  pub owned : (facts q).owned ≡ true → p ≡ suc q
  pub falls : Falls op p q

-- a node at p with this fact, among so many nodes
pub record Good (Meets : ℕ → List Argument → Type 0) (size : ℕ) (facts : Facts) (p : ℕ) (v : Fact) (n : RtNode) : Type 0 where
  pub written : v.written ≡ needs n.op
  pub orderly : Orderly n.op
  pub quiet : Quiet Meets n.op v.arguments
  pub marked : v.label ≡ true → IsLabelOp n.op
  pub result : IsOwnedResult n.op v.owned
  pub edges : (q : ℕ) → In q (next_nodes n) → Edge size facts p v n.op q
  pub tied : Tied facts p n.op n.next

pub record Sure (Meets : ℕ → List Argument → Type 0) (ns : List RtNode) (facts : Facts) : Type 0 where
  pub each : (p : ℕ) (n : RtNode) → slice_get ns p ≡ Some n → Good Meets (length ns) facts p (facts p) n

pub false_true : false ≡ true → ⊥
false_true e = cc

-- ---- more nodes

pub falls_any : (op : RtOp) (p q : ℕ) → q < p → Falls op p q
falls_any (o.Label l) p q lt = tt
falls_any _ p q lt = lt

tied_on : (facts facts' : Facts) (size p : ℕ) (v : Fact) (op : RtOp) (next : Option ℕ) → ((y : ℕ) → y < size → facts' y ≡ facts y) → ((q : ℕ) → In q (next_nodes (record { op = op; next = next })) → Edge size facts p v op q) → Tied facts p op next → Tied facts' p op next
tied_on facts facts' size p v (o.Test t one other) next same edges tied =
    (ap (λ (f : Fact). f.label) (same one (edges one (inl refl)).below) ∙ tied.0, ap (λ (f : Fact). f.label) (same other (edges other (inr (inl refl))).below) ∙ tied.1, tied.2)
tied_on facts facts' size p v (o.Call g) (Some q) same edges tied =
    (ap (λ (f : Fact). f.label) (same q (edges q (inl refl)).below) ∙ tied.0, ap (λ (f : Fact). f.owned) (same q (edges q (inl refl)).below) ∙ tied.1)
tied_on facts facts' size p v (o.Call g) None same edges tied = tt
tied_on facts facts' size p v _ next same edges tied = tt

module _ (Meets : ℕ → List Argument → Type 0) where
  pub good_on : (facts facts' : Facts) (size size' p : ℕ) (v : Fact) (n : RtNode) → size ≤ size' → ((y : ℕ) → y < size → facts' y ≡ facts y) → Good Meets size facts p v n → Good Meets size' facts' p v n
  good_on facts facts' size size' p v n more same g = record {
    written = g.written;
    orderly = g.orderly;
    quiet = g.quiet;
    marked = g.marked;
    result = g.result;
    edges = λ q i.
        let e = g.edges q i in
        let b = e.below in
        let now = same q b in
        record {
          below = omega arith;
          arguments = e.arguments ∙ ap (λ (f : Fact). f.arguments) (sym now);
          written = ap (λ (f : Fact). f.written) now ∙ e.written;
          owned = λ is. e.owned (ap (λ (f : Fact). f.owned) (sym now) ∙ is);
          falls = e.falls;
        };
    tied = tied_on facts facts' size p v n.op n.next same g.edges g.tied;
  }

  -- a node more, with its fact
  pub push_sure : (ns : List RtNode) (facts : Facts) (x : RtNode) (v : Fact) → Sure Meets ns facts → Good Meets (length ns) facts (length ns) v x → Sure Meets (ns ++ x ∷ []) (noted facts (length ns) v)
  push_sure ns facts x v sure good =
      let now : Facts = noted facts (length ns) v in
      let longer : length ns ≤ length (ns ++ x ∷ []) = omega (arith, length-append ns (x ∷ [])) in
      let same : (y : ℕ) → y < length ns → now y ≡ facts y = λ y h. let ne : y ≢ length ns = omega arith in noted_other facts (length ns) y v ne in
      record {
        each = λ p n e. ⊎_elim
            (λ h. subst (λ w. Good Meets (length (ns ++ x ∷ [])) now p w n) (sym (same p (get_within ns p n h))) (good_on facts now (length ns) _ p (facts p) n longer same (sure.each p n h)))
            (λ h.
            let a = good_on facts now (length ns) _ (length ns) v x longer same good in
            let b = subst (λ w. Good Meets (length (ns ++ x ∷ [])) now (length ns) w x) (sym (noted_same facts (length ns) v)) a in
            let c = subst (λ k. Good Meets (length (ns ++ x ∷ [])) now k (now k) x) (sym h.0) b in
            subst (λ m. Good Meets (length (ns ++ x ∷ [])) now p (now p) m) h.1 c)
            (get_added ns x p n e);
      }

-- ---- parts

-- a node that any node may lead to, with this known before it
pub record There (size : ℕ) (facts : Facts) (y : ℕ) (arguments : List Argument) (written : ℕ) : Type 0 where
  pub below : y < size
  pub arguments_are : (facts y).arguments ≡ arguments
  pub written_is : (facts y).written ≡ written
  pub free : (facts y).owned ≡ false

-- each result is read directly after the label after a call of a function that has such a one: ResultOf says which a function has
pub record CameAt (ResultOf : ℕ → Held → Type 0) (ns : List RtNode) (p : ℕ) (h : Held) : Type 0 where
  pub callee : ℕ
  pub label : Label
  pub calls : slice_get ns (suc (suc p)) ≡ Some (record { op = o.Call callee; next = Some (suc p) })
  pub labels : slice_get ns (suc p) ≡ Some (record { op = o.Label label; next = Some p })
  pub result_of : ResultOf callee h

pub record Came (ResultOf : ℕ → Held → Type 0) (ns : List RtNode) : Type 0 where
  pub by : (p : ℕ) (h : Held) (t : ℕ) (next : Option ℕ) → slice_get ns p ≡ Some (record { op = o.Result h t; next = next }) → CameAt ResultOf ns p h

-- nodes were added, with this known before the one at which they begin
pub record Adds (Meets : ℕ → List Argument → Type 0) (ResultOf : ℕ → Held → Type 0) (ns ms : List RtNode) (facts : Facts) (entry : ℕ) (arguments : List Argument) (written : ℕ) : Type 0 where
  pub now : Facts
  pub sure : Sure Meets ms now
  pub came : Came ResultOf ns → Came ResultOf ms
  pub more : length ns ≤ length ms
  pub same : (y : ℕ) → y < length ns → now y ≡ facts y
  pub starts : There (length ms) now entry arguments written

-- a graph with its certificate
pub record IsCertified (Meets : ℕ → List Argument → Type 0) (ResultOf : ℕ → Held → Type 0) (nodes : List RtNode) (entry : ℕ) : Type 0 where
  pub facts : Facts
  pub sure : Sure Meets nodes facts
  pub came : Came ResultOf nodes
  pub below : entry < length nodes
  pub last : length nodes ≡ suc entry
  pub arguments_are : (facts entry).arguments ≡ []
  pub written_is : (facts entry).written ≡ 0
  pub alone : (facts entry).owned ≡ true
  pub labelled : (facts entry).label ≡ true
