use Rattle.std.proofs.Common.{rules, ◌≡◌, string_bytes, sym, true}
use Rattle.cerco_command.specs.Words.{build_in, is_build}
use Rattle.cerco_command.proofs.WordLists.{five_short, five_long, five_there}
use Rattle.cerco_command.proofs.words.read_build.Goals as goal
use Rattle.cerco_command.proofs.words.read_build.Goals.{in_default-via-then-words-lt5, in_default-via-else-words-lt5+else-words-lt6}

pub returns-in_default : goal.returns-in_default
returns-in_default c = elim c.in_default.branch [ in_default-via-then-words-lt5 w ↦ sym (five_short build_in string_bytes c.args.words.now (search rules)) | in_default-via-else-words-lt5+else-words-lt6 w ↦ sym (five_long build_in string_bytes c.args.words.now (search rules)) ]

pub returns : goal.returns
returns c =
    let fit : is_build (string_bytes c.word-item.result) (string_bytes c.source-item.result) (string_bytes c.hex-item.result) (string_bytes c.map-item.result) (string_bytes c.annotated-item.result) ≡ true = search rules in
    let e = five_there build_in string_bytes c.args.words.now c.word-item.result c.source-item.result c.hex-item.result c.map-item.result c.annotated-item.result (search rules) (search rules) c.word-item.is c.source-item.is c.hex-item.is c.map-item.is c.annotated-item.is in
    rw (e, fit) (rw (c.in_ok-from_str.ensures.ok, c.in_ok-from_str-2.ensures.ok, c.in_ok-from_str-3.ensures.ok, c.in_ok-from_str-4.ensures.ok) (search rules))
