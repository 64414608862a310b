-- The definitions at small programs.
use Rattle.std.proofs.Common.{◌≡◌, ℕ, zero, suc, List, [], ◌∷◌, ◌++◌, refl, subst, inl, inr, arith, lit<}
use Rattle.call_graph.specs.CallPaths.{list_added, Calls, CallsIn, AreCalledFrom, IsCallPath, IsOnCycle, IsFirstOnCycle, sum_along}
use Rattle.call_graph.proofs.Entries.{contains_cases, contains_none}

-- 0 calls 1 and 2, and these call 3
diamond : List (List ℕ)
diamond = (1 ∷ 2 ∷ []) ∷ (3 ∷ []) ∷ (3 ∷ []) ∷ [] ∷ []

-- a path of three functions, one that begins in the middle, and one function alone
long : IsCallPath 4 (Calls diamond) (0 ∷ 2 ∷ 3 ∷ [])
unfolding diamond
long = (lit< tt, ((1, lit< tt, refl), ((0, lit< tt, refl), tt)))

middle : IsCallPath 4 (Calls diamond) (1 ∷ 3 ∷ [])
unfolding diamond
middle = (lit< tt, ((0, lit< tt, refl), tt))

alone : IsCallPath 4 (Calls diamond) (3 ∷ [])
alone = (lit< tt, tt)

-- none, a function that isn't there, and a function that isn't called
none : IsCallPath 4 (Calls diamond) [] → ⊥
none way = way

beyond : IsCallPath 4 (Calls diamond) (4 ∷ []) → ⊥
beyond way = let h = way.0 in omega arith

skipped : IsCallPath 4 (Calls diamond) (0 ∷ 3 ∷ []) → ⊥
unfolding diamond
skipped way =
    elim (contains_cases 1 3 (2 ∷ []) way.1.0) [
      | inl e ↦ omega arith
      | inr rest ↦ elim (contains_cases 2 3 [] rest) [ inl e ↦ omega arith | inr c ↦ contains_none 3 c ]
    ]

sum_of_long : sum_along (5 ∷ 7 ∷ 11 ∷ 1 ∷ []) (0 ∷ 2 ∷ 3 ∷ []) ≡ 17
sum_of_long = refl

added_twice : list_added (list_added ([] ∷ [] ∷ []) 0 1) 0 1 ≡ (1 ∷ 1 ∷ []) ∷ [] ∷ []
added_twice = refl

-- an order names the callers with each function
in_order : CallsIn (record { function = 2; callers = [] } ∷ record { function = 0; callers = 2 ∷ [] } ∷ []) 2 0
in_order = (1, lit< tt, refl, (0, lit< tt, refl))

-- 0 calls 1, which calls 2, which calls 1
loop : List (List ℕ)
loop = (1 ∷ []) ∷ (2 ∷ []) ∷ (1 ∷ []) ∷ []

-- nobody calls 0
never_zero : (f : ℕ) → Calls loop f 0 → ⊥
unfolding loop
never_zero zero c = elim (contains_cases 1 0 [] c) [ inl e ↦ omega arith | inr d ↦ contains_none 0 d ]
never_zero (suc zero) c = elim (contains_cases 2 0 [] c) [ inl e ↦ omega arith | inr d ↦ contains_none 0 d ]
never_zero (suc (suc zero)) c = elim (contains_cases 1 0 [] c) [ inl e ↦ omega arith | inr d ↦ contains_none 0 d ]
never_zero (suc (suc (suc f))) c = contains_none 0 c

never_back : (f : ℕ) (path : List ℕ) → AreCalledFrom (Calls loop) f (path ++ 0 ∷ []) → ⊥
never_back f [] way = never_zero f way.0
never_back f (g ∷ path) way = never_back g path way.1

-- so the first function on a cycle is 1, on a cycle of two functions
first_is_one : IsFirstOnCycle 3 (Calls loop) 1
unfolding loop
first_is_one = record {
  cycle = (2 ∷ [], (lit< tt, ((0, lit< tt, refl), ((0, lit< tt, refl), tt))));
  first = λ g h cycle.
      let zero_is : g ≡ 0 = omega arith in
      let at_zero = subst (IsOnCycle 3 (Calls loop)) zero_is cycle in
      never_back 0 at_zero.0 at_zero.1.1;
}

-- a function that calls itself is on a cycle
own_call : IsOnCycle 1 (Calls ((0 ∷ []) ∷ [])) 0
own_call = ([], (lit< tt, ((0, lit< tt, refl), tt)))
