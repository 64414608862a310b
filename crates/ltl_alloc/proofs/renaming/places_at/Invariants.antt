use Rattle.std.proofs.Common.{◌≡◌, ℕ, ◌<◌, length, Some, slice_get}
use Rattle.ltl_alloc.specs.Allocations.{place_in}
use Rattle.ltl_alloc.specs.Translation.{at_base}
use Rattle.ltl_alloc.proofs.renaming.places_at.Given as goal

abbrev pub invariant-loop-v : goal.invariant-loop-v
invariant-loop-v l = record {
  long : length l.places.items ≡ l.v;
  each : (w : ℕ) → w < l.v → slice_get l.places.items w ≡ Some (at_base l.base (place_in l.fn.a w));
}
