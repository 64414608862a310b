use Rattle.std.proofs.Common.{rules, tests, ◌≡◌, ◌∙◌, ap, sym, refl, bytes_eq, option_map, map}
use Rattle.std.specs.Slice.Iter.{iter_rest}
use Rattle.std.proofs.lemmas.Iterator.{YieldsList-from_slice}
use Rattle.std.proofs.lemmas.Iterator.Search.{find_from_yields_List}
use Rattle.command_words.specs.Lines.{forms}
use Rattle.command_words.proofs.Lines.{form_count, plain}
use Rattle.command_words.proofs.operand_count.Goals as goal

pub returns-in-Some : goal.returns-in-Some
returns-in-Some c =
    let all = iter_rest c.iter.result in
    let found = find_from_yields_List (λ form. bytes_eq form.0.now c.args.name.now) _ _ c.find.result c.find.ensures.ran (YieldsList-from_slice all refl) (λ x b q k. search (rules, tests)) in
    let are : map plain all ≡ forms = ap (map plain) c.iter.ensures.rest ∙ refl in
    ap (option_map (λ form. form.now.1)) (sym c.in-Some.is) ∙ form_count all c.args.name.now c.find.result found are

pub returns-in-None : goal.returns-in-None
returns-in-None c =
    let all = iter_rest c.iter.result in
    let found = find_from_yields_List (λ form. bytes_eq form.0.now c.args.name.now) _ _ c.find.result c.find.ensures.ran (YieldsList-from_slice all refl) (λ x b q k. search (rules, tests)) in
    let are : map plain all ≡ forms = ap (map plain) c.iter.ensures.rest ∙ refl in
    ap (option_map (λ form. form.now.1)) (sym c.in-None.is) ∙ form_count all c.args.name.now c.find.result found are
