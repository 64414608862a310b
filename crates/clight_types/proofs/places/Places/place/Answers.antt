use Rattle.std.proofs.Common.{◌≡◌, ◌∙◌, ap, length, rules}
use Rattle.clight_types.proofs.PlaceLemmas.{place_or, place_found}
use Rattle.clight_types.proofs.places.Places.place.Goals as goal

pub returns-in-Some : goal.returns-in-Some
returns-in-Some c =
    let numbers = c.self.inside.numbers.items in
    rw (← c.self.view_is) (ap (place_or (length numbers)) (c.in-Some.ensures.value ∙ c.self.invariant c.args.number) ∙ place_found numbers c.args.number)

pub returns-in-None : goal.returns-in-None
returns-in-None c =
    let numbers = c.self.inside.numbers.items in
    let len : c.len.result ≡ length numbers = search rules in
    rw (← c.self.view_is) (len ∙ (ap (place_or (length numbers)) (c.in-None.ensures.value ∙ c.self.invariant c.args.number) ∙ place_found numbers c.args.number))
