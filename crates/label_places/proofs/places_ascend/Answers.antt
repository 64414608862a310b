use Rattle.label_places.proofs.Places as places
use Rattle.label_places.proofs.places_ascend.Goals as goal

pub returns : goal.returns
returns c = places.places_ascend
