use Rattle.std.proofs.Common.{inl, inr, refl}
use Rattle.std.proofs.lemmas.Result.{on_ok_weaker}
use Rattle.colouring.proofs.Adding.{pair_adds}
use Rattle.colouring.proofs.rows.add_pair.Goals as goal

pub returns-then-w-v : goal.returns-then-w-v
returns-then-w-v c = on_ok_weaker c.push_near.result (λ more. pair_adds c.args.v c.args.w c.args.v c.args.w (inl (refl, refl)) c.if-w-v.true c.args.rows.now.items c.push_near.new.rows.items more) c.push_near.ensures

pub returns-then-v-w : goal.returns-then-v-w
returns-then-v-w c =
    on_ok_weaker c.push_near-then-v-w.result (λ more. pair_adds c.args.v c.args.w c.args.w c.args.v (inr (refl, refl)) c.if-v-w.true c.args.rows.now.items c.push_near-then-v-w.new.rows.items more) c.push_near-then-v-w.ensures
