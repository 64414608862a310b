use Rattle.clight_syntax.specs.Code.TypedViews.{program_of}
use Rattle.clight_source.specs.Code.Views.{program_of as source_of}
use Rattle.clight_typing.proofs.Verdicts.{is_typing, no_typing}
use Rattle.clight_typing.proofs.programs.typed_program.Goals as goal

pub returns-clause-typing : goal.returns-clause-typing
returns-clause-typing c = is_typing program_of c.typed_tree.result (source_of c.args.program) c.typed_tree.ensures

pub returns-clause-no_typing : goal.returns-clause-no_typing
returns-clause-no_typing c = no_typing program_of c.typed_tree.result (source_of c.args.program) c.typed_tree.ensures
