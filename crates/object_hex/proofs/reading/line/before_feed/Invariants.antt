use Rattle.std.proofs.Common.{ℕ, ◌<◌, slice_index}
use Rattle.std.specs.Prelude.{◌≢◌}
use Rattle.object_hex.proofs.reading.line.before_feed.Given as goal

abbrev pub invariant-loop-place : goal.invariant-loop-place
invariant-loop-place l = (before : ℕ) → before < l.place → slice_index l.text before ≢ 10
