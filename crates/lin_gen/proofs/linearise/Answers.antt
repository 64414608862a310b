use Rattle.std.proofs.Common.{◌≡◌, ◌≤◌, ◌∙◌, ap, map, List}
use Rattle.rtl.specs.declared.linear.LinItem.{LinItem as WrittenItem}
use Rattle.rtl.specs.Code.Views.{graph_of, item_of}
use Rattle.rtl.specs.WellFormed.{IsLin}
use Rattle.rtl.specs.Lengths.{items_length}
use Rattle.lin_gen.specs.Ordering.{laid}
use Rattle.lin_gen.specs.Kept.{KeepsLabels, KeepsCalls, place_length}
use Rattle.lin_gen.proofs.Laying.{if_ok}
use Rattle.lin_gen.proofs.Kept.{keeps_labels, keeps_calls, ordering_is_lin}
use Rattle.lin_gen.proofs.Lengths.{ordering_length, linearised_is_short}
use Rattle.lin_gen.proofs.Formed.{linearised_is_formed}
use Rattle.lin_gen.proofs.Preserved.{linearised_preserves}
use Rattle.lin_gen.proofs.linearise.Goals as goal

pub returns-clause-length : goal.returns-clause-length
returns-clause-length c =
    let g = graph_of c.args.graph.now in
    if_ok (λ (lin : List WrittenItem). map item_of lin ≡ laid g c.deref.result.now) (λ (lin : List WrittenItem). items_length (map item_of lin) ≤ place_length g)
    (λ lin is. ordering_length g (map item_of lin) (record { order = c.in_ok-order.order.items; ordered = c.in_ok-order.ensures; are = is ∙ ap (laid g) c.deref.ensures.value }))
    c.lay.result c.lay.ensures

pub returns-clause-labels : goal.returns-clause-labels
returns-clause-labels c =
    let g = graph_of c.args.graph.now in
    if_ok (λ (lin : List WrittenItem). map item_of lin ≡ laid g c.deref.result.now) (λ (lin : List WrittenItem). KeepsLabels g (map item_of lin))
    (λ lin is. keeps_labels g (map item_of lin) (record { order = c.in_ok-order.order.items; ordered = c.in_ok-order.ensures; are = is ∙ ap (laid g) c.deref.ensures.value }))
    c.lay.result c.lay.ensures

pub returns-clause-calls : goal.returns-clause-calls
returns-clause-calls c =
    let g = graph_of c.args.graph.now in
    if_ok (λ (lin : List WrittenItem). map item_of lin ≡ laid g c.deref.result.now) (λ (lin : List WrittenItem). KeepsCalls g (map item_of lin))
    (λ lin is. keeps_calls g (map item_of lin) (record { order = c.in_ok-order.order.items; ordered = c.in_ok-order.ensures; are = is ∙ ap (laid g) c.deref.ensures.value }))
    c.lay.result c.lay.ensures

pub returns-clause-formed : goal.returns-clause-formed
returns-clause-formed c =
    let g = graph_of c.args.graph.now in
    if_ok (λ (lin : List WrittenItem). map item_of lin ≡ laid g c.deref.result.now) (λ (lin : List WrittenItem). IsLin (map item_of lin))
    (λ lin is. ordering_is_lin g (map item_of lin) c.requires.formed c.requires.places (record { order = c.in_ok-order.order.items; ordered = c.in_ok-order.ensures; are = is ∙ ap (laid g) c.deref.ensures.value }))
    c.lay.result c.lay.ensures

pub returns-clause-preserves : goal.returns-clause-preserves
returns-clause-preserves c = linearised_preserves

pub returns-in_err-order-clause-preserves : goal.returns-in_err-order-clause-preserves
returns-in_err-order-clause-preserves c = linearised_preserves

pub returns-clause-program : goal.returns-clause-program
returns-clause-program c = linearised_is_formed

pub returns-in_err-order-clause-program : goal.returns-in_err-order-clause-program
returns-in_err-order-clause-program c = linearised_is_formed

pub returns-clause-program_length : goal.returns-clause-program_length
returns-clause-program_length c = linearised_is_short

pub returns-in_err-order-clause-program_length : goal.returns-in_err-order-clause-program_length
returns-in_err-order-clause-program_length c = linearised_is_short
