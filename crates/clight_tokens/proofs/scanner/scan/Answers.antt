use Rattle.std.proofs.Common.{arith, sym, ◌∙◌, ap, append-nil, length-drop, take}
use Rattle.clight_tokens.specs.Code.Views.{kind_of}
use Rattle.clight_tokens.proofs.Steps.{step_kept, join, step_later, step_nothing, step_wrong, end_of_text, token_is}
use Rattle.clight_tokens.proofs.scanner.scan.Goals as goal

pub loop-at-preserved : goal.loop-at-preserved
loop-at-preserved c =
    let l = rw c.from-rest.ensures at c.in-Some.ensures in
    let f = rw c.from-rest.ensures at (sym c.flaw.ensures.value ∙ c.in_default-flaw.is) in
    let e = c.front-bytes.ensures ∙ ap (take c.in-Some.found.len) c.from-rest.ensures in
    let text = c.args.text.now in
    let at = c.loop-at.at in
    let n = c.in-Some.found.len in
    let kind = kind_of c.in-Some.found.kind in
    record {
      within = omega (arith, l.within, length-drop at text);
      so_far = λ more rest. join text at n kind _ _ _ more c.in_ok-keep.ensures c.loop-at.invariant.so_far (step_kept text at n kind _ more (token_is _ _ at n e) l f rest);
      faults = λ q g. c.loop-at.invariant.faults q (step_later text at n q kind l f g);
    }

pub returns-clause-tokens : goal.returns-clause-tokens
returns-clause-tokens c = rw append-nil at (c.loop-at.invariant.so_far _ (end_of_text c.args.text.now c.loop-at.at (omega arith)))

pub returns-in_default-clause-fault : goal.returns-in_default-clause-fault
returns-in_default-clause-fault c =
    let n = rw c.from-rest.ensures at c.in_default.ensures in
    c.loop-at.invariant.faults _ (step_nothing _ _ (simp length-drop (omega arith)) n)

pub returns-in-Some-flaw-clause-fault : goal.returns-in-Some-flaw-clause-fault
returns-in-Some-flaw-clause-fault c =
    let l = rw c.from-rest.ensures at c.in-Some.ensures in
    let f = rw c.from-rest.ensures at (sym c.flaw.ensures.value ∙ c.in-Some-flaw.is) in
    c.loop-at.invariant.faults _ (step_wrong _ c.loop-at.at c.in-Some.found.len c.in-Some-flaw.d (kind_of c.in-Some.found.kind) l f)
