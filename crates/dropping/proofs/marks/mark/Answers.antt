use Rattle.std.proofs.Common.{◌≡◌, false, refl, arith}
use Rattle.std.proofs.lemmas.Grind.{common_steps}
use Rattle.liveness.specs.Code.Reach.{is_marked}
use Rattle.dropping.proofs.Growing.{grown_new}
use Rattle.dropping.proofs.marks.mark.Goals as goal

pub returns-then-not-index-clause-grown : goal.returns-then-not-index-clause-grown
returns-then-not-index-clause-grown c =
    let unset : is_marked c.args.needed.now.marks.items c.args.j ≡ false = grind (arith, common_steps) in
    grown_new c.args.needed.now _ c.args.j c.requires unset refl refl
