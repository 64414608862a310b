use Rattle.clight_source.specs.Code.Views.{initialiser_of}
use Rattle.clight_values.specs.Globals.{numbers_of}
use Rattle.cminor_gen.proofs.Rows.{integers_on}
use Rattle.cminor_gen.proofs.start.add_integers.Goals as goal

pub loop-i-preserved : goal.loop-i-preserved
loop-i-preserved c =
    integers_on c.args.ty (numbers_of (initialiser_of c.args.initialiser.now)) c.args.count c.loop-i.i c.loop-i.at c.bytes-size.result c.first_bits.result c.from-at.result c.number_at-number.result
    c.loop-i.start c.add_bytes.new.start _ c.loop-i-test.true c.loop-i.invariant c.bytes-size.ensures c.number_at-number.ensures c.first_bits.ensures c.in_ok-add_bytes.ensures c.from-at.ensures
