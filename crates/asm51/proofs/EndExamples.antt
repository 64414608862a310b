-- The ends of ways and the conditions on selected items, for small programs.
use Rattle.std.proofs.Common.{[], ◌∷◌, ◌++◌, refl, arith, lit≤}
use Rattle.asm51.specs.declared.items.AsmItem.TheVariants.{Here, Jump}
use Rattle.asm51.specs.Ends.{IsStop, at_mark, at_end, after_place, after_entry, stops, returns, goes_on, parts, calls, HasEnds}
use Rattle.asm51.specs.Selected.{SetsStack, JumpsTurnBack, AreSelected}
use Rattle.asm51.proofs.Samples.{start, filling, countdown}
use Rattle.asm51.proofs.WellFormedExamples.{well_formed}

entry_0 : IsStop countdown 3
entry_0 = after_entry 3 0 refl (at_mark 4 _ refl)

entry_1 : IsStop countdown 21
entry_1 = after_entry 21 1 refl (at_mark 22 _ refl)

loop : IsStop countdown 8
loop = after_place 8 0 1 refl (at_mark 9 _ refl)

has_ends : HasEnds countdown
has_ends =
    record {
      start = goes_on 0 _ refl tt (calls 1 0 refl entry_0);
      labels = (tt, (tt, (tt, (tt, (goes_on 6 _ refl tt (goes_on 7 _ refl tt (stops 8 loop)), (tt, (tt, (tt, (tt, (calls 11 1 refl entry_1, (tt, (tt, (goes_on 14 _ refl tt (goes_on 15 _ refl tt (goes_on 16 _ refl tt (parts 17 0 1 refl loop (at_mark 18 _ refl)))), (tt, (tt, (tt, (tt, (tt, (returns 20 _ refl, (tt, (tt, (tt, (goes_on 24 _ refl tt (goes_on 25 _ refl tt (returns 26 _ refl)), (tt, (tt, (tt, (tt, tt)))))))))))))))))))))))))));
      tests = (tt, (tt, (tt, (tt, (tt, (tt, (tt, (tt, (tt, (tt, (tt, (tt, (tt, (tt, (tt, (tt, (tt, ((loop, at_mark 18 _ refl), (tt, (tt, (tt, (tt, (tt, (tt, (tt, (tt, (tt, tt)))))))))))))))))))))))))));
      returns = (tt, (at_end 2 refl, (tt, (tt, (tt, (tt, (tt, (tt, (tt, (tt, (tt, (at_mark 12 _ refl, (tt, (tt, (tt, (tt, (tt, (tt, (tt, (tt, (tt, (tt, (tt, (tt, (tt, (tt, (tt, tt)))))))))))))))))))))))))));
    }

are_selected : AreSelected countdown
are_selected =
    record {
      well_formed = well_formed;
      stack = refl;
      instructions = (tt, (refl, (tt, (tt, ((tt, tt), ((tt, λ e. omega (arith, e)), ((tt, tt), (tt, (tt, ((tt, tt), (tt, (tt, ((tt, tt), ((tt, tt), ((tt, tt), ((tt, tt), (tt, (tt, ((tt, tt), (tt, (tt, (tt, ((tt, tt), ((tt, tt), ((tt, λ e. omega (arith, e)), (tt, tt))))))))))))))))))))))))));
      turns = search;
    }

turned : JumpsTurnBack (Here 0 1 ∷ filling 3 ++ Jump 0 1 ∷ [])
turned = (tt, (tt, (tt, (tt, (λ back. lit≤ tt, tt)))))

-- a jump to the place directly before it would be a jump to itself
turned_on_the_spot : JumpsTurnBack (start ++ Here 0 1 ∷ Jump 0 1 ∷ []) → ⊥
turned_on_the_spot h =
    let plain = h.1.1.1.1.0 (lit≤ tt) in
    omega arith

no_stack : SetsStack (Here 0 0 ∷ start) → ⊥
no_stack h = cc
