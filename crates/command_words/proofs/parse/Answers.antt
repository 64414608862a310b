use Rattle.std.proofs.Common.{◌≡◌, sym, map, string_bytes, subst, length, ◌<◌}
use Rattle.std.proofs.lemmas.List.{length-map}
use Rattle.command_words.proofs.Parsing.{refused_is_long, has_name, words_are}
use Rattle.command_words.proofs.parse.Goals as goal

pub returns-in-Err-clause-usage : goal.returns-in-Err-clause-usage
returns-in-Err-clause-usage c usage =
    let words = map string_bytes c.args.words.now in
    let same : length words ≡ length c.args.words.now = length-map c.args.words.now string_bytes in
    let some : 0 < length words = subst (λ n. 0 < n) (sym same) c.requires.1 in
    let long = refused_is_long _ words c.in-Err.error c.in_ok-grammar.ensures c.requires.0 some c.in-Err.ensures.kinds (c.fault_of.ensures usage) in
    subst (λ n. 5 < n) same long

pub returns-in-None-clause-usage : goal.returns-in-None-clause-usage
returns-in-None-clause-usage c usage =
    let words = map string_bytes c.args.words.now in
    let same : length words ≡ length c.args.words.now = length-map c.args.words.now string_bytes in
    let some : 0 < length words = subst (λ n. 0 < n) (sym same) c.requires.1 in
    absurd (has_name _ words c.in-Ok.matches c.in_ok-grammar.ensures c.requires.0 some c.in-Ok.ensures.matches (sym c.in-None.ensures))

pub returns-clause-line : goal.returns-clause-line
returns-clause-line c =
    let words = map string_bytes c.args.words.now in
    let same : length words ≡ length c.args.words.now = length-map c.args.words.now string_bytes in
    let some : 0 < length words = subst (λ n. 0 < n) (sym same) c.requires.1 in
    words_are _ words c.in-Ok.matches c.in_ok-grammar.ensures c.requires.0 some c.in-Ok.ensures.matches _ _ (sym c.in-Some.ensures) c.in_ok-operands.ensures
