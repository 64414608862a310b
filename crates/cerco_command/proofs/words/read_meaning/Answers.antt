use Rattle.std.proofs.Common.{rules, ◌≡◌, ◌&&◌, Bool, true, false, string_bytes, refl}
use Rattle.cerco_command.specs.Words.{meaning_in, has_meaning_names}
use Rattle.cerco_command.proofs.WordLists.{four_there, limit_some, limit_none}
use Rattle.cerco_command.proofs.words.read_meaning.Goals as goal

and_false : (b : Bool) → (b && false) ≡ false
and_false true = refl
and_false false = refl

pub returns-in_default-read_limit : goal.returns-in_default-read_limit
returns-in_default-read_limit c =
    let e = four_there meaning_in string_bytes c.args.words.now c.word-item.result c.source-item.result c.script-item.result c.limit-item.result (search rules) (search rules) c.word-item.is c.source-item.is c.script-item.is c.limit-item.is in
    let none = limit_none (string_bytes c.limit-item.result) (rw c.deref.ensures at c.in_default-read_limit.ensures) in
    rw (e, none, and_false) refl

pub returns : goal.returns
returns c =
    let e = four_there meaning_in string_bytes c.args.words.now c.word-item.result c.source-item.result c.script-item.result c.limit-item.result (search rules) (search rules) c.word-item.is c.source-item.is c.script-item.is c.limit-item.is in
    let limit = rw c.deref.ensures at c.in-Some.ensures in
    let some = limit_some (string_bytes c.limit-item.result) c.in-Some.limit limit.0 limit.1 in
    let names : has_meaning_names (string_bytes c.word-item.result) (string_bytes c.source-item.result) (string_bytes c.script-item.result) ≡ true = search rules in
    rw (e, names, some.0, some.1) (rw (c.in_ok-from_str.ensures.ok, c.in_ok-from_str-2.ensures.ok) (search rules))
