use Rattle.std.proofs.Common.{◌≡◌, [], ◌∷◌, true, false, slice_set, ◌⊎◌, sym, subst, arith}
use Rattle.std.proofs.lemmas.Grind.{common_steps}
use Rattle.liveness.specs.Code.Reach.{is_marked, AreMarked}
use Rattle.liveness.proofs.Reaching.{mark_new, mark_old}
use Rattle.liveness.proofs.reach.mark.Goals as goal

pub returns-in_ok-push : goal.returns-in_ok-push
returns-in_ok-push c =
    let m = c.args.marks.now.items in
    let list = c.args.list.now.items in
    let unwalled : is_marked c.args.walls.now c.args.j ≡ false = grind (arith, common_steps) in
    let unset : is_marked m c.args.j ≡ false = grind (arith, common_steps) in
    subst (AreMarked c.args.walls.now m list (c.args.j ∷ []) (slice_set m c.args.j true)) (sym c.in_ok-push.ensures.items) (mark_new c.args.walls.now m list c.args.j c.requires.within c.requires.listed unwalled unset)

pub returns-else-not-is_marked : goal.returns-else-not-is_marked
returns-else-not-is_marked c =
    let which : (is_marked c.args.walls.now c.args.j ≡ true) ⊎ (is_marked c.args.marks.now.items c.args.j ≡ true) = grind (arith, common_steps) in
    mark_old c.args.walls.now c.args.marks.now.items c.args.list.now.items c.args.j c.requires.listed which
