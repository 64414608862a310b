use Rattle.clight_names.proofs.Places.{place_added}
use Rattle.clight_names.proofs.known.add_place.Goals as goal

pub returns-in_ok-insert_full : goal.returns-in_ok-insert_full
returns-in_ok-insert_full c = place_added c.args.places.now c.insert_full.new.self c.args.place c.args.counts c.if-counts.true c.in_ok-insert_full.ensures.updates
