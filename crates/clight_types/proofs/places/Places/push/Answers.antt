use Rattle.std.proofs.Common.{◌≡◌, ◌∙◌, ◌++◌, ◌∷◌, [], ℕ, Option, Some, None, length, nat_eq, ap, sym, rules}
use Rattle.std.specs.Prelude.{if◌then◌else◌}
use Rattle.clight_types.specs.Places.{first_place, or_found}
use Rattle.clight_types.proofs.PlaceLemmas.{first_behind}
use Rattle.clight_types.proofs.places.Places.push.Goals as goal

pub invariant_of-result : goal.invariant_of-result
invariant_of-result c = λ number.
    let numbers = c.self.inside.numbers.items in
    let new = c.args.number in
    let at : ℕ → Option ℕ = λ place. if nat_eq new number then Some place else None in
    let len : c.len.result ≡ length numbers = search rules in
    c.in_ok-note.ensures number
    ∙ (ap (λ before. or_found before (at c.len.result)) (c.self.invariant number)
    ∙ (ap (λ place. or_found (first_place numbers number) (at place)) len
    ∙ (sym (first_behind numbers new number)
    ∙ ap (λ all. first_place all number) (sym c.in_ok-push.ensures.items))))
