-- Placing one node more, alone or with the node that has to come directly after it.
use Rattle.std.proofs.Common.{◌≡◌, ◌≢◌, ℕ, zero, suc, ◌+◌, ◌<◌, ◌≤◌, List, [], ◌∷◌, ◌++◌, length, Bool, true, false, if◌then◌else◌, slice_set, slice_index_or, Some, None, ◌⊎◌, inl, inr, refl, sym, ap, ◌∙◌, subst, ⊎_elim, append_assoc, arith, length-set, replicate}
use Rattle.std.proofs.lemmas.List.{get_or-set_same, get_or-set_other}
use Rattle.cerco_traces.specs.LabelledGraphs.{In}
use Rattle.lin_gen.specs.Code.Placing.{AreFollowers, IsHead, Placed, Placing, is_marked, unmarked}
use Rattle.lin_gen.specs.Ordering.{IsFollowedBy, IsOrder, KeepsFollowers, follower_of, head_of}
use Rattle.rtl.specs.Graphs.{IsSoundlyLabelled, exit_at}
use Rattle.rtl.specs.Programs.{Graph}
use Rattle.rtl.specs.WellFormed.{NamesNodes, NoneTwice}
use Rattle.rtl.specs.declared.locations.Place.{Place}
use Rattle.lin_gen.proofs.Lists.{in_back, in_front, in_cases, once_more}
use Rattle.lin_gen.proofs.Following.{none_some, some_same, follower_within, follower_free, follower_once, needing_head, needing_within, keeps_more, follower_in}

false_true : false ≡ true → ⊥
false_true e = cc

-- a mark is there or not
pub mark_cases : (b : Bool) → (b ≡ true) ⊎ (b ≡ false)
mark_cases true = inl refl
mark_cases false = inr refl

pub not_marked : (b : Bool) → (b ≡ true → ⊥) → b ≡ false
not_marked true h = absurd (h refl)
not_marked false h = refl

pub one_less : (m : List Bool) (j : ℕ) → j < length m → is_marked m j ≡ false → unmarked (slice_set m j true) + 1 ≡ unmarked m
one_less [] j lt e = absurd (no lt)
  where
    no : j < 0 → ⊥
    no lt = omega arith
one_less (b ∷ bs) zero lt e = rw e (omega arith)
one_less (b ∷ bs) (suc j) lt e =
    let h = one_less bs j (omega arith) e in
    let x : ℕ = if b then 0 else 1 in
    omega arith

same_or_not : (i j : ℕ) → (i ≡ j) ⊎ (i ≢ j)
same_or_not i j = grind arith

-- the marks tell what stands in the list, once
pub record Marks (n : ℕ) (placed : List Bool) (order : List ℕ) : Type 0 where
  pub long : length placed ≡ n
  pub sound : (p : ℕ) → is_marked placed p ≡ true → In p order
  pub complete : (p : ℕ) → In p order → is_marked placed p ≡ true
  pub within : (p : ℕ) → In p order → p < n
  pub once : NoneTwice order

pub marks_of : {G : Graph Place} {placed : List Bool} {order : List ℕ} → Placing G placed order → Marks (length G.nodes) placed order
marks_of s = record { long = s.long; sound = s.sound; complete = s.complete; within = s.within; once = s.once }

pub unplaced : {n : ℕ} {placed : List Bool} {order : List ℕ} → Marks n placed order → (p : ℕ) → (In p order → ⊥) → is_marked placed p ≡ false
unplaced {placed = placed} s p out = not_marked (is_marked placed p) (λ e. out (s.sound p e))

pub mark_more : (n : ℕ) (placed : List Bool) (order : List ℕ) (p : ℕ) → Marks n placed order → p < n → (In p order → ⊥) → Marks n (slice_set placed p true) (order ++ p ∷ [])
mark_more n placed order p s lt out = record {
  long = length-set placed p true ∙ s.long;
  sound = λ q h. sound q h (same_or_not q p);
  complete = λ q i. complete q (in_cases q order (p ∷ []) i);
  within = λ q i. within q (in_cases q order (p ∷ []) i);
  once = once_more order p s.once out;
}
  where
    there : p < length placed
    there = subst (λ k. p < k) (sym s.long) lt

    set_p : (q : ℕ) → q ≡ p → is_marked (slice_set placed p true) q ≡ true
    set_p q e = ap (is_marked (slice_set placed p true)) e ∙ get_or-set_same placed p true false there

    sound : (q : ℕ) → is_marked (slice_set placed p true) q ≡ true → (q ≡ p) ⊎ (q ≢ p) → In q (order ++ p ∷ [])
    sound q h (inl e) = in_back q order (p ∷ []) (inl (sym e))
    sound q h (inr ne) = in_front q order (p ∷ []) (s.sound q (sym (get_or-set_other placed p q true false ne) ∙ h))

    kept : (q : ℕ) → is_marked placed q ≡ true → (q ≡ p) ⊎ (q ≢ p) → is_marked (slice_set placed p true) q ≡ true
    kept q h (inl e) = set_p q e
    kept q h (inr ne) = get_or-set_other placed p q true false ne ∙ h

    complete : (q : ℕ) → In q order ⊎ In q (p ∷ []) → is_marked (slice_set placed p true) q ≡ true
    complete q (inl i) = kept q (s.complete q i) (same_or_not q p)
    complete q (inr (inl e)) = set_p q (sym e)
    complete q (inr (inr i)) = absurd i

    within : (q : ℕ) → In q order ⊎ In q (p ∷ []) → q < n
    within q (inl i) = s.within q i
    within q (inr (inl e)) = subst (λ k. k < n) e lt
    within q (inr (inr i)) = absurd i

-- with nothing placed
pub none_marked : (n i : ℕ) → is_marked (replicate n false) i ≡ false
none_marked zero i = refl
none_marked (suc n) zero = refl
none_marked (suc n) (suc i) = none_marked n i

pub placing_none : (G : Graph Place) (placed : List Bool) → length placed ≡ length G.nodes → ((i : ℕ) → is_marked placed i ≡ false) → Placing G placed []
placing_none G placed long none = record {
  long = long;
  sound = λ p e. absurd (false_true (sym (none p) ∙ e));
  complete = λ p i. absurd i;
  within = λ p i. absurd i;
  once = tt;
  followers = tt;
  led = λ p q e i. absurd i;
}

module _ (G : Graph Place) (labelled : IsSoundlyLabelled G) (named : NamesNodes G) (placed : List Bool) (order : List ℕ) (p : ℕ) (s : Placing G placed order) (lt : p < length G.nodes) (new : is_marked placed p ≡ false) (head : IsHead G p) where
  out : In p order → ⊥
  out i = false_true (sym new ∙ s.complete p i)

  there : p < length placed
  there = subst (λ k. p < k) (sym s.long) lt

  first : Marks (length G.nodes) (slice_set placed p true) (order ++ p ∷ [])
  first = mark_more (length G.nodes) placed order p (marks_of s) lt out

  pub alone : follower_of (exit_at G p) ≡ None → Placing G (slice_set placed p true) (order ++ p ∷ [])
  alone none = record {
    long = first.long;
    sound = first.sound;
    complete = first.complete;
    within = first.within;
    once = first.once;
    followers = keeps_more G order (p ∷ []) s.followers (subst (λ o. IsFollowedBy o []) (sym none) tt, tt);
    led = λ r q e i. led r q e (in_cases q order (p ∷ []) i);
  }
    where
      led : (r q : ℕ) → follower_of (exit_at G r) ≡ Some q → In q order ⊎ In q (p ∷ []) → In r (order ++ p ∷ [])
      led r q e (inl i) = in_front r order (p ∷ []) (s.led r q e i)
      led r q e (inr (inl same)) = absurd (head r (e ∙ ap (λ z. Some z) (sym same)))
      led r q e (inr (inr i)) = absurd i

  pub alone_placed : Placed p order (order ++ p ∷ []) placed (slice_set placed p true)
  alone_placed = record { more = []; whole = refl; less = let k = one_less placed p there new in omega arith }

  module _ (q : ℕ) (needs : follower_of (exit_at G p) ≡ Some q) where
    pub q_within : q < length G.nodes
    q_within = follower_within G named p q needs

    pub q_first : q < length (slice_set placed p true)
    q_first = subst (λ z. q < z) (sym first.long) q_within

    q_out : In q (order ++ p ∷ []) → ⊥
    q_out i = by (in_cases q order (p ∷ []) i)
      where
        by : In q order ⊎ In q (p ∷ []) → ⊥
        by (inl j) = out (s.led p q needs j)
        by (inr (inl e)) = none_some (sym (follower_free G labelled p q needs) ∙ ap (λ z. follower_of (exit_at G z)) (sym e) ∙ needs)
        by (inr (inr j)) = j

    second : Marks (length G.nodes) (slice_set (slice_set placed p true) q true) ((order ++ p ∷ []) ++ q ∷ [])
    second = mark_more (length G.nodes) (slice_set placed p true) (order ++ p ∷ []) q first q_within q_out

    pair : KeepsFollowers G (p ∷ q ∷ [])
    pair = (subst (λ o. IsFollowedBy o (q ∷ [])) (sym needs) refl, (subst (λ o. IsFollowedBy o []) (sym (follower_free G labelled p q needs)) tt, tt))

    pub both : Placing G (slice_set (slice_set placed p true) q true) ((order ++ p ∷ []) ++ q ∷ [])
    both = record {
      long = second.long;
      sound = second.sound;
      complete = second.complete;
      within = second.within;
      once = second.once;
      followers = subst (KeepsFollowers G) (sym (append_assoc order (p ∷ []) (q ∷ []))) (keeps_more G order (p ∷ q ∷ []) s.followers pair);
      led = λ r z e i. led r z e (in_cases z (order ++ p ∷ []) (q ∷ []) i);
    }
      where
        led : (r z : ℕ) → follower_of (exit_at G r) ≡ Some z → In z (order ++ p ∷ []) ⊎ In z (q ∷ []) → In r ((order ++ p ∷ []) ++ q ∷ [])
        led r z e (inl i) = by (in_cases z order (p ∷ []) i)
          where
            by : In z order ⊎ In z (p ∷ []) → In r ((order ++ p ∷ []) ++ q ∷ [])
            by (inl j) = in_front r (order ++ p ∷ []) (q ∷ []) (in_front r order (p ∷ []) (s.led r z e j))
            by (inr (inl same)) = absurd (head r (e ∙ ap (λ x. Some x) (sym same)))
            by (inr (inr j)) = absurd j
        led r z e (inr (inl same)) =
            let same' : p ≡ r = follower_once G labelled p r q needs (e ∙ ap (λ x. Some x) (sym same)) in
            in_front r (order ++ p ∷ []) (q ∷ []) (in_back r order (p ∷ []) (inl same'))
        led r z e (inr (inr i)) = absurd i

    pub both_placed : Placed p order ((order ++ p ∷ []) ++ q ∷ []) placed (slice_set (slice_set placed p true) q true)
    both_placed = record {
      more = q ∷ [];
      whole = append_assoc order (p ∷ []) (q ∷ []);
      less =
          let k = one_less placed p there new in
          let k' = one_less (slice_set placed p true) q (subst (λ z. q < z) (sym first.long) q_within) (unplaced first q q_out) in
          omega arith;
    }

  pub alone_at : (placed' : List Bool) (order' : List ℕ) → placed' ≡ slice_set placed p true → order' ≡ order ++ p ∷ [] → follower_of (exit_at G p) ≡ None → Placing G placed' order' × Placed p order order' placed placed'
  alone_at placed' order' e h none = (
    subst (λ z. Placing G z order') (sym e) (subst (λ z. Placing G (slice_set placed p true) z) (sym h) (alone none)),
    subst (λ z. Placed p order order' placed z) (sym e) (subst (λ z. Placed p order z placed (slice_set placed p true)) (sym h) alone_placed),
  )

  pub both_at : (q : ℕ) (placed1 placed' : List Bool) (order1 order' : List ℕ) → placed1 ≡ slice_set placed p true → order1 ≡ order ++ p ∷ [] → placed' ≡ slice_set placed1 q true → order' ≡ order1 ++ q ∷ [] → follower_of (exit_at G p) ≡ Some q → Placing G placed' order' × Placed p order order' placed placed'
  both_at q placed1 placed' order1 order' e1 h1 e2 h2 needs =
      let e = e2 ∙ ap (λ z. slice_set z q true) e1 in
      let h = h2 ∙ ap (λ z. z ++ q ∷ []) h1 in (
        subst (λ z. Placing G z order') (sym e) (subst (λ z. Placing G (slice_set (slice_set placed p true) q true) z) (sym h) (both q needs)),
        subst (λ z. Placed p order order' placed z) (sym e) (subst (λ z. Placed p order z placed (slice_set (slice_set placed p true) q true)) (sym h) (both_placed q needs)),
      )

-- placing on after more has been placed
pub placed_on : {p q : ℕ} {order order' order'' : List ℕ} {placed placed' placed'' : List Bool} → Placed p order order' placed placed' → Placed q order' order'' placed' placed'' → Placed p order order'' placed placed''
placed_on {p} {q} {order} a b = record {
  more = a.more ++ q ∷ b.more;
  whole = b.whole ∙ ap (λ z. z ++ q ∷ b.more) a.whole ∙ append_assoc order (p ∷ a.more) (q ∷ b.more);
  less = let x = a.less in let y = b.less in omega arith;
}

pub placed_in : {p : ℕ} {order order' : List ℕ} {placed placed' : List Bool} → Placed p order order' placed placed' → In p order'
placed_in {p} {order} a = subst (In p) (sym a.whole) (in_back p order (p ∷ a.more) (inl refl))

pub placed_keeps : {p : ℕ} {order order' : List ℕ} {placed placed' : List Bool} → Placed p order order' placed placed' → (q : ℕ) → In q order → In q order'
placed_keeps {p} {order} a q i = subst (In q) (sym a.whole) (in_front q order (p ∷ a.more) i)

pub placed_first : {p q : ℕ} {order order' : List ℕ} {placed placed' : List Bool} → Placed p order order' placed placed' → head_of order ≡ Some q → head_of order' ≡ Some q
placed_first {p} {q} {order} a e = ap head_of a.whole ∙ by order e
  where
    by : (xs : List ℕ) → head_of xs ≡ Some q → head_of (xs ++ p ∷ a.more) ≡ Some q
    by [] h = absurd (none_some h)
    by (x ∷ xs) h = h

-- a node that has to come directly after another isn't free, and one that hasn't is
pub free_head : (G : Graph Place) (marks : List Bool) → AreFollowers G marks → (p : ℕ) → is_marked marks p ≡ false → IsHead G p
free_head G marks f p e r h = false_true (sym e ∙ f.complete r p h)

-- each node is placed, or has to come directly after another
abbrev pub Done : List Bool → List ℕ → ℕ → Type 0
Done marks order n = (p : ℕ) → p < n → In p order ⊎ (is_marked marks p ≡ true)

pub all_placed : (G : Graph Place) → IsSoundlyLabelled G → (marks placed : List Bool) (order : List ℕ) → AreFollowers G marks → Placing G placed order → head_of order ≡ Some G.entry → Done marks order (length G.nodes) → IsOrder G order
all_placed G labelled marks placed order f s first done = record {
  first = first;
  every = λ p lt. every p (done p lt);
  only = s.within;
  once = s.once;
  followers = s.followers;
}
  where
    -- a node that needs another comes with no mark, so it has been placed
    needing : (r p : ℕ) → follower_of (exit_at G r) ≡ Some p → In r order ⊎ (is_marked marks r ≡ true) → In r order
    needing r p e (inl i) = i
    needing r p e (inr m) = let a = f.sound r m in absurd (needing_head G labelled r p e a.0 a.1)

    every : (p : ℕ) → In p order ⊎ (is_marked marks p ≡ true) → In p order
    every p (inl i) = i
    every p (inr m) =
        let a = f.sound p m in
        follower_in G order a.0 p s.followers (needing a.0 p a.1 (done a.0 (needing_within G a.0 p a.1))) a.1

-- the followers of the first k nodes are marked
pub record Seen (G : Graph Place) (marks : List Bool) (k : ℕ) : Type 0 where
  pub long : length marks ≡ length G.nodes
  pub sound : (q : ℕ) → is_marked marks q ≡ true → (p : ℕ) × (follower_of (exit_at G p) ≡ Some q)
  pub complete : (p q : ℕ) → p < k → follower_of (exit_at G p) ≡ Some q → is_marked marks q ≡ true

pub seen_none : (G : Graph Place) (marks : List Bool) → length marks ≡ length G.nodes → ((i : ℕ) → is_marked marks i ≡ false) → Seen G marks 0
seen_none G marks long none = record {
  long = long;
  sound = λ q e. absurd (false_true (sym (none q) ∙ e));
  complete = λ p q lt e. absurd (no p lt);
}
  where
    no : (p : ℕ) → p < 0 → ⊥
    no p lt = omega arith

below_or_at : (p k : ℕ) → p < k + 1 → (p < k) ⊎ (p ≡ k)
below_or_at p k lt = grind arith

pub seen_more : (G : Graph Place) (marks marks' : List Bool) (k q : ℕ) → Seen G marks k → follower_of (exit_at G k) ≡ Some q → q < length G.nodes → marks' ≡ slice_set marks q true → Seen G marks' (k + 1)
seen_more G marks marks' k q s needs lt is = subst (λ z. Seen G z (k + 1)) (sym is) (record {
  long = length-set marks q true ∙ s.long;
  sound = λ z h. sound z h (same_or_not z q);
  complete = λ p z below e. complete p z e (below_or_at p k below);
})
  where
    set_q : (z : ℕ) → z ≡ q → is_marked (slice_set marks q true) z ≡ true
    set_q z e = ap (is_marked (slice_set marks q true)) e ∙ get_or-set_same marks q true false (subst (λ n. q < n) (sym s.long) lt)

    sound : (z : ℕ) → is_marked (slice_set marks q true) z ≡ true → (z ≡ q) ⊎ (z ≢ q) → (p : ℕ) × (follower_of (exit_at G p) ≡ Some z)
    sound z h (inl e) = (k, needs ∙ ap (λ x. Some x) (sym e))
    sound z h (inr ne) = s.sound z (sym (get_or-set_other marks q z true false ne) ∙ h)

    kept : (z : ℕ) → is_marked marks z ≡ true → (z ≡ q) ⊎ (z ≢ q) → is_marked (slice_set marks q true) z ≡ true
    kept z h (inl e) = set_q z e
    kept z h (inr ne) = get_or-set_other marks q z true false ne ∙ h

    complete : (p z : ℕ) → follower_of (exit_at G p) ≡ Some z → (p < k) ⊎ (p ≡ k) → is_marked (slice_set marks q true) z ≡ true
    complete p z e (inl below) = kept z (s.complete p z below e) (same_or_not z q)
    complete p z e (inr same) = set_q z (some_same (sym e ∙ ap (λ x. follower_of (exit_at G x)) same ∙ needs))

pub seen_same : (G : Graph Place) (marks marks' : List Bool) (k : ℕ) → Seen G marks k → follower_of (exit_at G k) ≡ None → marks' ≡ marks → Seen G marks' (k + 1)
seen_same G marks marks' k s none is = subst (λ z. Seen G z (k + 1)) (sym is) (record {
  long = s.long;
  sound = s.sound;
  complete = λ p z below e. complete p z e (below_or_at p k below);
})
  where
    complete : (p z : ℕ) → follower_of (exit_at G p) ≡ Some z → (p < k) ⊎ (p ≡ k) → is_marked marks z ≡ true
    complete p z e (inl below) = s.complete p z below e
    complete p z e (inr same) = absurd (none_some (sym none ∙ ap (λ x. follower_of (exit_at G x)) (sym same) ∙ e))

pub all_seen : (G : Graph Place) (marks : List Bool) (k : ℕ) → length G.nodes ≤ k → Seen G marks k → AreFollowers G marks
all_seen G marks k le s = record {
  long = s.long;
  sound = s.sound;
  complete = λ p q e. let lt = needing_within G p q e in s.complete p q (omega arith) e;
}

pub done_more : (marks : List Bool) (order order' : List ℕ) (k : ℕ) → Done marks order k → ((p : ℕ) → In p order → In p order') → In k order' ⊎ (is_marked marks k ≡ true) → Done marks order' (k + 1)
done_more marks order order' k done kept now p lt = by (below_or_at p k lt)
  where
    by : (p < k) ⊎ (p ≡ k) → In p order' ⊎ (is_marked marks p ≡ true)
    by (inl below) = ⊎_elim (λ i. inl (kept p i)) (λ m. inr m) (done p below)
    by (inr same) = subst (λ z. In z order' ⊎ (is_marked marks z ≡ true)) (sym same) now

-- what an index of the marks reads
pub read_mark : (marks : List Bool) (p : ℕ) (b : Bool) → p < length marks → b ≡ slice_index_or marks p b → b ≡ true → is_marked marks p ≡ true
read_mark [] p b lt e t = absurd (no lt)
  where
    no : p < 0 → ⊥
    no lt = omega arith
read_mark (x ∷ xs) zero b lt e t = sym e ∙ t
read_mark (x ∷ xs) (suc p) b lt e t = read_mark xs p b (omega arith) e t
