use Rattle.std.proofs.Common.{◌≡◌, ℕ, length, map, take}
use Rattle.rtl.specs.Locations.{vreg_number}
use Rattle.rtl.specs.Lengths.{stands_in}
use Rattle.ltl_alloc.specs.Code.Spots.{is_marked}
use Rattle.ltl_alloc.proofs.plainest.marks.Given as goal

abbrev pub invariant-loop-v : goal.invariant-loop-v
invariant-loop-v l = record {
  long : length l.marks.items ≡ length l.initial.marks.items;
  marked : (w : ℕ) → is_marked l.marks.items w ≡ stands_in w (map vreg_number (take l.v-index l.list));
}
