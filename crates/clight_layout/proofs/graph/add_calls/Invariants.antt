use Rattle.std.proofs.Common.{◌≡◌, ℕ, ◌++◌, ◌∷◌, List, length, filter, nat_lt, take}
use Rattle.clight_layout.proofs.graph.add_calls.Given as goal

abbrev pub invariant-loop-callee : goal.invariant-loop-callee
invariant-loop-callee l = record {
  count : length l.graph ≡ length l.initial.graph;
  added : (before : List (List ℕ)) (own : List ℕ) (after : List (List ℕ)) → length before ≡ l.caller → l.initial.graph ≡ before ++ own ∷ after
      → l.graph ≡ before ++ (own ++ filter (λ g. nat_lt g (length l.initial.graph)) (take l.callee-index l.calls)) ∷ after;
}
