use Rattle.std.proofs.Common.{◌≡◌, ℕ, ◌+◌, ◌-◌, length, refl, sym, subst, arith}
use Rattle.std.proofs.lemmas.Grind.{common_steps}
use Rattle.std.proofs.lemmas.Result.{on_ok_weaker}
use Rattle.rtl.specs.Programs.{Graph}
use Rattle.rtl.specs.Effects.{Loc, Carry}
use Rattle.dropping.specs.Code.Turns.{ExitsAreMarked}
use Rattle.dropping.proofs.Growing.{grown_same, grown_more}
use Rattle.dropping.proofs.Rounds.{FromOn, from_end, next_done, all_done, exits_kept, sound_after, from_both}
use Rattle.dropping.proofs.turns.round.Goals as goal

pub loop-v-init : goal.loop-v-init
loop-v-init c =
    let flow = c.args.flow.now in
    let m = c.args.needed.now.marks.items in
    let e : c.len-v.result ≡ length flow.uses.vregs.items = grind (arith, common_steps) in
    record {
      few = omega (arith, e);
      reached = c.requires.reached;
      walls = c.requires.walls;
      grown = grown_same c.args.needed.now c.args.needed.now refl refl;
      sound = λ g is exits sound. sound;
      whole = λ none g is exits. subst (λ n. FromOn g flow is n m) (sym e) (from_end g flow is m);
    }

pub loop-v-preserved : goal.loop-v-preserved
loop-v-preserved c =
    let flow = c.args.flow.now in
    let v = c.loop-v.v in
    let old = c.loop-v.needed in
    let new = c.turn.new.needed in
    let done = c.in_ok-turn.ensures in
    let few = c.loop-v.invariant.few in
    let above = c.loop-v-test.true in
    let next : v ≡ (v - 1) + 1 = omega (arith, above) in
    let exits_now : (g : Graph ℕ) → ExitsAreMarked g flow.points c.args.needed.now.marks.items → ExitsAreMarked g flow.points old.marks.items = λ g. exits_kept g flow c.args.needed.now old c.loop-v.invariant.grown in
    record {
      few = omega (arith, few);
      reached = done.reached;
      walls = done.walls;
      grown = grown_more c.args.needed.now old new c.loop-v.invariant.grown done.grown;
      sound = λ g is exits sound. sound_after g flow (Loc (v - 1)) old.marks.items new.marks.items (c.loop-v.invariant.sound g is exits sound) (done.turn g is (exits_now g exits));
      whole = λ none g is exits.
          let same = done.grown.same none in
          next_done g flow is (v - 1) old.marks.items new.marks.items (subst (λ k. FromOn g flow is k old.marks.items) next (c.loop-v.invariant.whole same.0 g is exits)) (done.turn g is (exits_now g exits)) same.1;
    }

pub returns-clause-sound : goal.returns-clause-sound
returns-clause-sound c =
    let flow = c.args.flow.now in
    let old = c.loop-v.needed in
    let new = c.turn-2.new.needed in
    on_ok_weaker c.turn-2.result
    (λ turn g is exits sound. sound_after g flow Carry old.marks.items new.marks.items (c.loop-v.invariant.sound g is exits sound) (turn g is (exits_kept g flow c.args.needed.now old c.loop-v.invariant.grown exits)))
    c.turn-2.ensures.turn

pub returns-clause-whole : goal.returns-clause-whole
returns-clause-whole c =
    let flow = c.args.flow.now in
    let old = c.loop-v.needed in
    let new = c.turn-2.new.needed in
    let none_left = c.loop-v-test.false in
    let first : c.loop-v.v ≡ 0 = omega (arith, none_left) in
    from_both c.turn-2.result
    (λ turn grown none g is exits.
    let same = grown.same none in
    all_done g flow is old.marks.items new.marks.items (subst (λ k. FromOn g flow is k old.marks.items) first (c.loop-v.invariant.whole same.0 g is exits)) (turn g is (exits_kept g flow c.args.needed.now old c.loop-v.invariant.grown exits)) same.1)
    c.turn-2.ensures.turn c.turn-2.ensures.grown
