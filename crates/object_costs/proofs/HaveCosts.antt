-- The object of a selection whose ways have ends has costs.
use Rattle.std.proofs.Common.{◌≡◌, suc, ◌+◌, subst, arith}
use Rattle.asm51.specs.declared.items.AsmItem.TheVariants.{Mark, Test, Call}
use Rattle.asm51.specs.Ends.{LabelEnds, HasArms, LandsAtStop, HasEnd}
use Rattle.asm51.specs.Layouts.{address}
use Rattle.asm51.specs.Emission.{code_of, labels_of}
use Rattle.asm51.proofs.Counting.{of_each_numbered}
use Rattle.objects51.proofs.Objects.{is_object}
use Rattle.object_costs.specs.Costs.{ObjectsHaveCosts}
use Rattle.object_costs.proofs.Built.{start_costs, label_costs, test_costs, place_closed}

pub objects_have_costs : ObjectsHaveCosts
objects_have_costs items layout marks sel ends is marked =
    let forms = layout.forms in
    let obj = is_object items forms sel is.relaxed is.fits in
    let code = code_of items forms in
    let labels = labels_of items forms in
    let at = address items forms in
    record {
      start = start_costs items forms code labels at sel obj marks marked ends.start;
      labels = λ l within.
          let m = obj.of_label l within in
          let two : 0 + m.0 + 2 ≡ suc (suc m.0) = omega arith in
          label_costs items forms code labels at sel obj marks marked l m.0 m.1 (subst (HasEnd items) two (of_each_numbered (LabelEnds items) 0 items m.0 (Mark (record { 0 = l })) ends.labels m.1));
      tests = λ k f n e.
          let z : 0 + k ≡ k = omega arith in
          let arms : HasArms items k (Test f n) = subst (λ j. HasArms items j (Test f n)) z (of_each_numbered (HasArms items) 0 items k (Test f n) ends.tests e) in
          test_costs items forms code labels at sel obj marks marked k f n e arms.0 arms.1;
      returns = λ k f e.
          let z : 0 + k ≡ k = omega arith in
          place_closed items forms code labels at sel obj marks marked (suc k) (subst (λ j. LandsAtStop items j (Call f)) z (of_each_numbered (LandsAtStop items) 0 items k (Call f) ends.returns e));
    }
