use Rattle.std.proofs.Common.{rules, ◌≡◌, ◌<◌, ℕ, ◌+◌, ◌≤◌, length, List, ◌++◌, take, drop, ap, arith, ◌∙◌}
use Rattle.std.proofs.lemmas.List.{take-append-le, length-append}
use Rattle.cerco_base.proofs.Reading.{more_read, read_to_end}
use Rattle.cerco_base.proofs.outside.whole_files.read_pieces.Goals as goal

longer : (front rest : List ℕ) → 0 < length front → 0 < length (front ++ rest)
longer front rest h = let e = length-append front rest in omega arith

pub returns-then-count-eq0 : goal.returns-then-count-eq0
returns-then-count-eq0 g c =
    let room : 0 < length c.read_at.new.into = search rules in
    let place : c.len-in-loop-bytes-2.result ≡ length c.loop-bytes.bytes.items = search rules in
    read_to_end _ _ _ _ _ _ c.read_at.new.into c.loop-bytes.invariant.1 room (rw (c.if-count-eq0.true, place) at c.in_ok-count.ensures)

pub loop-bytes-preserved : goal.loop-bytes-preserved
loop-bytes-preserved g c =
    let fits : length c.loop-bytes.bytes.items + length c.read_at.new.into ≤ c.args.limit = search rules in
    let place : c.len-in-loop-bytes-2.result ≡ length c.loop-bytes.bytes.items = search rules in
    let n_in : c.in_ok-count.count ≤ length c.read_at.new.into = c.in_ok-count.ensures.bound in
    let items : c.extend_from_slice.new.self.items ≡ c.loop-bytes.bytes.items ++ take c.in_ok-count.count c.read_at.new.into = c.in_ok-extend_from_slice.ensures.items ∙ ap (λ (x : List ℕ). c.loop-bytes.bytes.items ++ x) (take-append-le c.in_ok-count.count c.read_at.new.into _ n_in) in
    let filled : 0 < length c.read_at.new.into = search rules in
    let kept : 0 < length (c.read_at.new.into ++ drop c.min-room.result c.loop-bytes.piece) = longer c.read_at.new.into (drop c.min-room.result c.loop-bytes.piece) filled in
    (kept, rw items (more_read _ _ _ _ _ _ _ _ c.loop-bytes.invariant.1 fits (rw place at c.in_ok-count.ensures)))
