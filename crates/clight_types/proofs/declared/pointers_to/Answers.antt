use Rattle.std.proofs.Common.{◌≡◌, ◌∙◌, ◌+◌, drop, ap, sym, arith, rules}
use Rattle.c_types.specs.Types.{type_of, Pointer}
use Rattle.clight_types.specs.Declarations.{pointers_to}
use Rattle.clight_types.proofs.Stars.{star_next}
use Rattle.clight_types.proofs.declared.pointers_to.Goals as goal

pub loop-star-preserved : goal.loop-star-preserved
loop-star-preserved c =
    let held : c.in_ok-new.field-0.value ≡ c.loop-star.pointer = first_of (cc, search rules) in
    c.loop-star.invariant
    ∙ (star_next c.args.stars.now c.loop-star._star-index (type_of c.loop-star.pointer) (omega arith)
    ∙ ap (λ ty. pointers_to (drop (c.loop-star._star-index + 1) c.args.stars.now) (Pointer (type_of ty))) (sym held))
