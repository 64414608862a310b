use Rattle.std.proofs.Common.{◌≡◌, ℕ, ◌+◌, ◌-◌, ◌<◌, ◌%◌, List, Option, length, replicate, slice_index, arith, ap, ◌∙◌, length-set}
use Rattle.std.proofs.lemmas.List.{length-replicate}
use Rattle.asm51.specs.declared.items.AsmItem.{AsmItem}
use Rattle.asm51.specs.declared.layouts.Form.{Form}
use Rattle.asm51.specs.Layouts.{address}
use Rattle.asm51.specs.Emission.{word_address}
use Rattle.jump_expand.specs.Code.Emission.{label_from}
use Rattle.jump_expand.proofs.Emitting.{labels_are, labels_begin, label_put, rows_length, row_is}
use Rattle.jump_expand.proofs.emission.label_addresses.Goals as goal

pub bounds-addresses-items : goal.bounds-addresses-items
bounds-addresses-items c = omega (arith, rows_length c.args.items.now c.args.layout.now.forms c.as_slice-addresses.result.now (c.as_slice-addresses.ensures ∙ c.requires.addresses))

pub bounds-addresses-k : goal.bounds-addresses-k
bounds-addresses-k c = omega (arith, rows_length c.args.items.now c.args.layout.now.forms c.as_slice-addresses.result.now (c.as_slice-addresses.ensures ∙ c.requires.addresses), c.loop-k.invariant.within)

pub loop-k-init : goal.loop-k-init
loop-k-init c =
    let items : List AsmItem = c.args.items.now in
    let forms : List (Option Form) = c.args.layout.now.forms in
    let rows : List ℕ = c.as_slice-addresses.result.now in
    let there : slice_index rows (length items) ≡ address items forms (length items) = row_is items forms rows (length items) (c.as_slice-addresses.ensures ∙ c.requires.addresses) (omega arith) in
    let end : c.word-end.result ≡ word_address items forms (length items) = c.word-end.ensures ∙ ap (λ n. n % 65536) there in
    let all : c.in_ok-labels.labels.items ≡ replicate c.count_marks.result c.word-end.result = c.in_ok-labels.ensures in
    record {
      within = omega arith;
      length = ap length all ∙ length-replicate c.count_marks.result c.word-end.result ∙ c.count_marks.ensures;
      placed = λ n h. labels_begin items forms c.in_ok-labels.labels.items c.word-end.result c.count_marks.result all end n (omega (arith, h, c.count_marks.ensures));
    }

pub loop-k-preserved-then-number-len : goal.loop-k-preserved-then-number-len
loop-k-preserved-then-number-len c =
    let items : List AsmItem = c.args.items.now in
    let forms : List (Option Form) = c.args.layout.now.forms in
    let rows : List ℕ = c.as_slice-addresses.result.now in
    let i = c.loop-k.invariant in
    let k : ℕ = c.loop-k.k - 1 in
    let next : c.loop-k.k ≡ k + 1 = omega (arith, c.loop-k-test.true) in
    let lt : k < length items = omega (arith, c.loop-k-test.true, i.within) in
    let few : c.in-Mark.label.0 < length c.loop-k.labels.items = omega (arith, c.if-number-len.true, c.len.ensures, c.loop-k.labels.ok) in
    let there : slice_index rows k ≡ address items forms k = row_is items forms rows k (c.as_slice-addresses.ensures ∙ c.requires.addresses) (omega (arith, lt)) in
    let at : c.word.result ≡ word_address items forms k = c.word.ensures ∙ ap (λ n. n % 65536) there in
    record {
      within = omega (arith, lt);
      length = length-set c.loop-k.labels.items c.in-Mark.label.0 c.word.result ∙ i.length;
      placed = λ n h. label_put items forms k c.in-Mark.label c.loop-k.labels.items c.word.result lt c.in-Mark.is at few n (i.placed n h ∙ ap (λ m. label_from items forms m n) next);
    }

pub returns : goal.returns
returns c =
    let items : List AsmItem = c.args.items.now in
    let forms : List (Option Form) = c.args.layout.now.forms in
    let i = c.loop-k.invariant in
    let z : c.loop-k.k ≡ 0 = omega (arith, c.loop-k-test.false) in
    labels_are items forms c.loop-k.labels.items i.length (λ n h. i.placed n h ∙ ap (λ m. label_from items forms m n) z)
