use Rattle.std.proofs.Common.{rules, tests, ◌∙◌, string_bytes}
use Rattle.std.proofs.lemmas.Iterator.{YieldsList-from_slice}
use Rattle.std.proofs.lemmas.Iterator.Search.{all_from_yields_List}
use Rattle.command_words.specs.Lines.{is_operand}
use Rattle.command_words.proofs.Lines.{all_mapped}
use Rattle.command_words.proofs.are_operands.Goals as goal

pub returns : goal.returns
returns c =
    all_from_yields_List (λ word. is_operand (string_bytes word)) _ _ c.all.result c.all.ensures.ran (YieldsList-from_slice c.args.words.now cc) (λ x b q k. search (rules, tests))
    ∙ all_mapped is_operand string_bytes c.args.words.now
