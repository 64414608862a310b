use Rattle.std.proofs.Common.{◌≡◌, ℕ, ◌<◌, length}
use Rattle.colouring.specs.Colours.{colour_at}
use Rattle.colouring.proofs.greedy.argument_colours.Given as goal

abbrev pub invariant-loop-v : goal.invariant-loop-v
invariant-loop-v l = record {
  long : length l.colours ≡ l.v;
  own : (w : ℕ) → w < l.v → colour_at l.colours w ≡ w;
}
