use Rattle.std.proofs.Common.{◌≡◌, ℕ, ◌+◌, List, subst, length, [], sym, arith}
use Rattle.std.proofs.lemmas.Bool.{eqb-true}
use Rattle.std.proofs.lemmas.List.{nil_from_length}
use Rattle.std.proofs.lemmas.Result.{err_from_is_err_and}
use Rattle.object_hex.proofs.MapBack.{map_back}
use Rattle.object_hex.proofs.Maps.{MapWalked, map_answer_fault, map_answer_memory, map_answer_right, map_walked_all, map_walked_bad, map_walked_more, map_walked_none}
use Rattle.object_hex.proofs.reading.map_reader.read_map.Goals as goal

pub loop-rest-init : goal.loop-rest-init
loop-rest-init c =
    let State : List ℕ → Type 0 = λ labels. MapWalked c.args.text.now c.args.text.now 0 labels c.in_ok-seen.seen.items in
    (subst State (sym c.new-labels.ensures) (map_walked_none c.args.text.now c.in_ok-seen.seen.items c.in_ok-seen.ensures.none), c.in_ok-seen.ensures.count)

pub loop-rest-preserved : goal.loop-rest-preserved
loop-rest-preserved c =
    let seen = c.loop-rest.seen in
    let whole : length seen.items ≡ 65536 = omega (arith, c.loop-rest.invariant.1, seen.ok.0) in
    let taken = c.in-Some.ensures.taken in
    let State : List ℕ → Type 0 = λ labels. MapWalked c.args.text.now c.split_line.result.1.now (c.loop-rest.number + 1) labels c.take_line.new.seen.items in
    let more = map_walked_more c.args.text.now c.loop-rest.rest.now c.split_line.result.1.now c.split_line.result.0.now c.loop-rest.number c.in-Some.address c.loop-rest.labels seen.items c.take_line.new.seen.items
    c.loop-rest.invariant.0 c.split_line.ensures.split c.split_line.ensures.shorter whole taken.0 taken.1 taken.2 taken.3 in
    (subst State (sym c.in_ok-push-in-Some.ensures.added) more, c.in-Some.ensures.length)

pub returns-in-None : goal.returns-in-None
returns-in-None c =
    let answer = map_answer_fault c.args.text.now (record { line = c.loop-rest.number + 1 }) (map_walked_bad _ _ _ _ _ _ _ c.loop-rest.invariant.0 c.split_line.ensures.split c.in-None.ensures.taken) in
    record { answer = answer; written = map_back _ _ answer }

pub returns-in_err-push-in-Some : goal.returns-in_err-push-in-Some
returns-in_err-push-in-Some c =
    let p = err_from_is_err_and c.from_residual-in_err-push-in-Some.result c.from_residual-in_err-push-in-Some.ensures.1 in
    let answer = map_answer_memory c.args.text.now in
    rw (p.1, p.2) (record { answer = answer; written = map_back _ _ answer })

pub returns : goal.returns
returns c =
    let none : c.loop-rest.rest.now ≡ [] = nil_from_length c.loop-rest.rest.now (eqb-true (length c.loop-rest.rest.now) 0 (sym c.loop-rest-test.ensures)) in
    let answer = map_answer_right c.args.text.now c.loop-rest.labels (map_walked_all _ _ _ _ _ c.loop-rest.invariant.0 none) in
    record { answer = answer; written = map_back _ _ answer }
