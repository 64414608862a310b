use Rattle.std.proofs.Common.{take, sym, ◌∙◌}
use Rattle.clight_names.proofs.Judging.{knows_on, right_on, wrong_here, refusal}
use Rattle.clight_names.proofs.judge.judge.Goals as goal

pub returns-in-Some : goal.returns-in-Some
returns-in-Some c =
    refusal c.refused.result _ c.in-Some.kind _ c.refused.ensures
    (wrong_here c.args.names.now c.args.all.now _ c.args.all.now c.loop-x.x-index _ c.in-Some.kind c.loop-x-test.true c.loop-x.invariant.rest
    (sym c.in-Some.is ∙ c.kind_of.ensures c.args.all.now (take c.loop-x.x-index c.args.all.now) c.requires.defined c.loop-x.invariant.knows))

pub loop-x-preserved : goal.loop-x-preserved
loop-x-preserved c = record {
  knows = knows_on c.loop-x.known c.add.new.self c.args.all.now c.loop-x.x-index _ c.loop-x-test.true c.loop-x.invariant.knows c.in_ok-add.ensures;
  rest = right_on c.args.names.now c.args.all.now _ c.args.all.now c.loop-x.x-index _ c.loop-x-test.true c.loop-x.invariant.rest
      (sym c.in_default.is ∙ c.kind_of.ensures c.args.all.now (take c.loop-x.x-index c.args.all.now) c.requires.defined c.loop-x.invariant.knows);
}
