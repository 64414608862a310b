use Rattle.std.proofs.Common.{map, option_map, string_bytes, sym, ap, ◌∙◌}
use Rattle.cerco_command.specs.Words.{files_of}
use Rattle.cerco_command.proofs.WordLists.{build_differs}
use Rattle.cerco_command.proofs.words.read_words.Goals as goal

pub returns-in-Some-clause-well_formed : goal.returns-in-Some-clause-well_formed
returns-in-Some-clause-well_formed c =
    build_differs (map string_bytes c.args.words.now) (files_of c.in-Some.names) (sym c.in_ok-names.ensures ∙ ap (option_map files_of) c.in-Some.is)
