use Rattle.std.proofs.Common.{◌∙◌, ap}
use Rattle.clight_types.specs.Code.HeldStructs.{structs_of}
use Rattle.clight_types.specs.Places.{place_among}
use Rattle.clight_types.proofs.StructLemmas.{number_at}
use Rattle.clight_types.proofs.structs.Structs.number.Goals as goal

pub returns : goal.returns
returns c =
    c.place.ensures
    ∙ (ap (λ tags. place_among tags c.args.tag) c.args.self.now.tagged ∙ number_at (structs_of c.args.self.now) c.args.tag)
