-- Nodes that have to come directly after others, in soundly labelled graphs.
use Rattle.std.proofs.Common.{◌≡◌, ℕ, ◌<◌, List, [], ◌∷◌, ◌++◌, length, Option, Some, None, ◌⊎◌, inl, inr, refl, sym, ap, ◌∙◌, subst, ⊎_elim}
use Rattle.std.specs.Prelude.{slice_get}
use Rattle.std.proofs.lemmas.Option.{slice_get_within}
use Rattle.cerco_traces.specs.LabelledGraphs.{NodeKind, BranchNode, CallNode, In, LeadsTo, IsLabelNode}
use Rattle.rtl.specs.declared.graphs.Exit.TheVariants as Out
use Rattle.lin_gen.specs.Code.Placing.{IsBelow, IsHead, way_on_of}
use Rattle.lin_gen.specs.Ordering.{IsFollowedBy, KeepsFollowers, follower_of, head_of}
use Rattle.rtl.specs.Graphs.{IsSoundlyLabelled, exit_at, flow_of, kind_of, kind_or_none, node_or}
use Rattle.rtl.specs.Operations.{ByteOp}
use Rattle.rtl.specs.Programs.{Graph, Node}
use Rattle.rtl.specs.WellFormed.{NamesNodes, exit_nodes}
use Rattle.rtl.specs.declared.graphs.Exit.{Exit}
use Rattle.rtl.specs.declared.locations.Place.{Place}
use Rattle.lin_gen.proofs.Named.{AreBelow, nodes_named}
use Rattle.lin_gen.proofs.Lists.{split, in_back, head_split}

pub none_some : {q : ℕ} → None ≡ Some q → ⊥
none_some e = cc

pub some_same : {p q : ℕ} → Some p ≡ Some q → p ≡ q
some_same e = cc

abbrev pub Needs : ℕ → Option NodeKind → Type 0
Needs q o = ((true_arm : ℕ) × (o ≡ Some (BranchNode true_arm q))) ⊎ (o ≡ Some (CallNode (Some q)))

pub follower_node : (G : Graph Place) (p q : ℕ) → follower_of (exit_at G p) ≡ Some q → Needs q (flow_of G p)
follower_node G p q e = by_node (slice_get G.nodes p) e
  where
    by_exit : (ops : List (ByteOp Place)) (x : Exit Place) → follower_of x ≡ Some q → Needs q (Some (kind_of ops x))
    by_exit ops (Out.Test v true_arm false_arm) h = inl (true_arm, ap (λ z. Some (BranchNode true_arm z)) (some_same h))
    by_exit ops (Out.Call f r) h = inr (ap (λ z. Some (CallNode (Some z))) (some_same h))
    by_exit ops (Out.Next r) h = absurd (none_some h)
    by_exit ops (Out.Label l r) h = absurd (none_some h)
    by_exit ops Out.Return h = absurd (none_some h)

    by_node : (o : Option (Node Place)) → follower_of (node_or p o).exit ≡ Some q → Needs q (kind_or_none o)
    by_node None h = absurd (none_some h)
    by_node (Some n) h = by_exit n.ops n.exit h

pub follower_leads : (G : Graph Place) (p q : ℕ) → follower_of (exit_at G p) ≡ Some q → LeadsTo (flow_of G p) q
follower_leads G p q e = ⊎_elim
    (λ a. subst (λ o. LeadsTo o q) (sym a.1) (inr (inl refl)))
    (λ k. subst (λ o. LeadsTo o q) (sym k) (inl refl))
    (follower_node G p q e)

pub needing_within : (G : Graph Place) (r q : ℕ) → follower_of (exit_at G r) ≡ Some q → r < length G.nodes
needing_within G r q e = by (slice_get G.nodes r) refl e
  where
    by : (o : Option (Node Place)) → slice_get G.nodes r ≡ o → follower_of (node_or r o).exit ≡ Some q → r < length G.nodes
    by None is h = absurd (none_some h)
    by (Some n) is h = slice_get_within G.nodes r n is

pub follower_within : (G : Graph Place) → NamesNodes G → (p q : ℕ) → follower_of (exit_at G p) ≡ Some q → q < length G.nodes
follower_within G named p q e = by_exit (exit_at G p) e (nodes_named G named p (needing_within G p q e))
  where
    by_exit : (x : Exit Place) → follower_of x ≡ Some q → AreBelow (length G.nodes) (exit_nodes x) → q < length G.nodes
    by_exit (Out.Test v true_arm false_arm) h all = subst (λ n. n < length G.nodes) (some_same h) all.1.0
    by_exit (Out.Call f r) h all = subst (λ n. n < length G.nodes) (some_same h) all.0
    by_exit (Out.Next r) h all = absurd (none_some h)
    by_exit (Out.Label l r) h all = absurd (none_some h)
    by_exit Out.Return h all = absurd (none_some h)

pub follower_marked : (G : Graph Place) → IsSoundlyLabelled G → (p q : ℕ) → follower_of (exit_at G p) ≡ Some q → IsLabelNode (flow_of G q)
follower_marked G labelled p q e = ⊎_elim
    (λ a. (labelled.arms p a.0 q a.1).1)
    (λ k. (labelled.after_call p q k).0)
    (follower_node G p q e)

-- a label needs no node after it
pub marked_free : (G : Graph Place) (q : ℕ) → IsLabelNode (flow_of G q) → follower_of (exit_at G q) ≡ None
marked_free G q m = by_node (slice_get G.nodes q) m
  where
    by_exit : (ops : List (ByteOp Place)) (x : Exit Place) → IsLabelNode (Some (kind_of ops x)) → follower_of x ≡ None
    by_exit ops (Out.Test v true_arm false_arm) h = absurd h
    by_exit ops (Out.Call f r) h = absurd h
    by_exit ops (Out.Next r) h = refl
    by_exit ops (Out.Label l r) h = refl
    by_exit ops Out.Return h = refl

    by_node : (o : Option (Node Place)) → IsLabelNode (kind_or_none o) → follower_of (node_or q o).exit ≡ None
    by_node None h = absurd h
    by_node (Some n) h = by_exit n.ops n.exit h

pub follower_free : (G : Graph Place) → IsSoundlyLabelled G → (p q : ℕ) → follower_of (exit_at G p) ≡ Some q → follower_of (exit_at G q) ≡ None
follower_free G labelled p q e = marked_free G q (follower_marked G labelled p q e)

-- no node has to come directly after two
pub follower_once : (G : Graph Place) → IsSoundlyLabelled G → (p r q : ℕ) → follower_of (exit_at G p) ≡ Some q → follower_of (exit_at G r) ≡ Some q → p ≡ r
follower_once G labelled p r q e h = ⊎_elim
    (λ a. ⊎_elim
    (λ b. labelled.one_false p r a.0 b.0 q a.1 b.1)
    (λ k. (labelled.after_call r q k).1 p (follower_leads G p q e))
    (follower_node G r q h))
    (λ k. sym ((labelled.after_call p q k).1 r (follower_leads G r q h)))
    (follower_node G p q e)

pub entry_head : (G : Graph Place) → IsSoundlyLabelled G → IsHead G G.entry
entry_head G labelled r e = labelled.entry_alone r (follower_leads G r G.entry e)

-- a node that needs another after it is needed by none
pub needing_head : (G : Graph Place) → IsSoundlyLabelled G → (p q : ℕ) → follower_of (exit_at G p) ≡ Some q → IsHead G p
needing_head G labelled p q e r h = none_some (sym (follower_free G labelled r p h) ∙ e)

pub way_on_within : (G : Graph Place) → NamesNodes G → (p : ℕ) → p < length G.nodes → IsBelow (way_on_of (exit_at G p)) (length G.nodes)
way_on_within G named p lt = by_exit (exit_at G p) (nodes_named G named p lt)
  where
    by_exit : (x : Exit Place) → AreBelow (length G.nodes) (exit_nodes x) → IsBelow (way_on_of x) (length G.nodes)
    by_exit (Out.Next r) all = all.0
    by_exit (Out.Label l r) all = all.0
    by_exit (Out.Test v true_arm false_arm) all = tt
    by_exit (Out.Call f r) all = tt
    by_exit Out.Return all = tt

-- what follows in a list keeps following
pub follower_at : (G : Graph Place) (front : List ℕ) (p : ℕ) (rest : List ℕ) → KeepsFollowers G (front ++ p ∷ rest) → IsFollowedBy (follower_of (exit_at G p)) rest
follower_at G [] p rest keeps = keeps.0
follower_at G (x ∷ front) p rest keeps = follower_at G front p rest keeps.1

longer : (o : Option ℕ) (xs ys : List ℕ) → IsFollowedBy o xs → IsFollowedBy o (xs ++ ys)
longer None xs ys h = tt
longer (Some q) [] ys h = absurd (none_some h)
longer (Some q) (x ∷ xs) ys h = h

pub keeps_more : (G : Graph Place) (xs ys : List ℕ) → KeepsFollowers G xs → KeepsFollowers G ys → KeepsFollowers G (xs ++ ys)
keeps_more G [] ys h k = k
keeps_more G (x ∷ xs) ys h k = (longer (follower_of (exit_at G x)) xs ys h.0, keeps_more G xs ys h.1 k)

-- where a node stands, so does the one that it needs
pub follower_in : (G : Graph Place) (xs : List ℕ) (p q : ℕ) → KeepsFollowers G xs → In p xs → follower_of (exit_at G p) ≡ Some q → In q xs
follower_in G xs p q keeps i e =
    let s = split p xs i in
    let next : head_of s.rest ≡ Some q = subst (λ o. IsFollowedBy o s.rest) e (follower_at G s.front p s.rest (subst (KeepsFollowers G) s.whole keeps)) in
    let h = head_split q s.rest next in
    subst (In q) (sym s.whole) (in_back q s.front (p ∷ s.rest) (inr (subst (In q) (sym h.1) (inl refl))))
