use Rattle.std.proofs.Common.{◌≡◌, ℕ, ◌%◌, ◌<◌, ◌≤◌, ◌++◌, List, Option, length, slice_index, arith, ap, ◌∙◌}
use Rattle.asm51.specs.declared.items.AsmItem.{AsmItem}
use Rattle.asm51.specs.declared.layouts.Form.{Form}
use Rattle.asm51.specs.Items.{target_of}
use Rattle.asm51.specs.Layouts.{address}
use Rattle.asm51.specs.Emission.{target_address}
use Rattle.asm51.proofs.Addresses.{item_at, form_at, address_end}
use Rattle.asm51.proofs.Readings.{target_le}
use Rattle.jump_expand.specs.Code.Emission.{rest_of_code}
use Rattle.jump_expand.proofs.Steps.{target_at}
use Rattle.jump_expand.proofs.Emitting.{forms_length, code_step, code_start, rows_length, row_is}
use Rattle.jump_expand.proofs.emission.emit_code.Goals as goal

pub loop-k-init : goal.loop-k-init
loop-k-init c =
    let items : List AsmItem = c.args.items.now in
    let forms : List (Option Form) = c.args.layout.now.forms in
    ap (λ l. l ++ rest_of_code items forms 0) c.new-code.ensures ∙ code_start items forms

pub bounds-addresses-targets : goal.bounds-addresses-targets
bounds-addresses-targets c =
    let items : List AsmItem = c.args.items.now in
    let forms : List (Option Form) = c.args.layout.now.forms in
    let rows : List ℕ = c.as_slice-addresses.result.now in
    let targets : List ℕ = c.as_slice-targets.result.now in
    let k : ℕ = c.loop-k.k in
    omega (arith, rows_length items forms rows (c.as_slice-addresses.ensures ∙ c.requires.addresses), target_at items targets k (c.as_slice-targets.ensures ∙ c.requires.targets) c.loop-k-test.true, target_le items (item_at items k))

pub bounds-forms-k : goal.bounds-forms-k
bounds-forms-k c = omega (arith, forms_length c.args.items.now c.args.layout.now.forms c.requires.relaxed, ap length c.as_slice-forms.ensures, c.loop-k-test.true)

pub bounds-addresses-k : goal.bounds-addresses-k
bounds-addresses-k c = omega (arith, rows_length c.args.items.now c.args.layout.now.forms c.as_slice-addresses.result.now (c.as_slice-addresses.ensures ∙ c.requires.addresses), c.loop-k-test.true)

pub push_item-requires : goal.push_item-requires
push_item-requires c =
    let items : List AsmItem = c.args.items.now in
    let forms : List (Option Form) = c.args.layout.now.forms in
    let rows : List ℕ = c.as_slice-addresses.result.now in
    let k : ℕ = c.loop-k.k in
    let le : k ≤ length items = omega (arith, c.loop-k-test.true) in
    omega (arith, row_is items forms rows k (c.as_slice-addresses.ensures ∙ c.requires.addresses) le, address_end items forms k, c.requires.fits)

pub loop-k-preserved : goal.loop-k-preserved
loop-k-preserved c =
    let items : List AsmItem = c.args.items.now in
    let forms : List (Option Form) = c.args.layout.now.forms in
    let rows : List ℕ = c.as_slice-addresses.result.now in
    let targets : List ℕ = c.as_slice-targets.result.now in
    let k : ℕ = c.loop-k.k in
    let item : AsmItem = item_at items k in
    let lt : k < length items = c.loop-k-test.true in
    let are = c.as_slice-addresses.ensures ∙ c.requires.addresses in
    let at : slice_index rows k ≡ address items forms k = row_is items forms rows k are (omega arith) in
    let leads : slice_index targets k ≡ target_of items item = target_at items targets k (c.as_slice-targets.ensures ∙ c.requires.targets) lt in
    let there : slice_index rows (slice_index targets k) ≡ address items forms (target_of items item) = ap (slice_index rows) leads ∙ row_is items forms rows (target_of items item) are (target_le items item) in
    let target : c.word-target.result ≡ target_address items forms item = c.word-target.ensures ∙ ap (λ n. n % 65536) there in
    code_step items forms k c.loop-k.code c.push_item.new.code (slice_index rows k) c.word-target.result (form_at c.as_slice-forms.result.now k) lt at target (ap (λ fs. form_at fs k) c.as_slice-forms.ensures) c.in_ok-push_item.ensures c.loop-k.invariant
