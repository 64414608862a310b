use Rattle.std.proofs.Common.{sym, subst}
use Rattle.clight_source.specs.Code.Views.{program_of as source_of}
use Rattle.clight_syntax.specs.Code.TypedViews.{program_of}
use Rattle.cerco_pipeline.specs.Compiled.{IsRead}
use Rattle.cerco_pipeline.proofs.Read.{source_tree, is_read}
use Rattle.cerco_pipeline.proofs.front.labelled_program.Goals as goal

pub returns-clause-read : goal.returns-clause-read
returns-clause-read c =
    let text = c.args.text.now in
    let tree = source_of c.in_ok-tree.tree in
    let is_tree = source_tree text c.in_ok-tokens.tokens c.in_ok-tokens.ensures.tokens c.in_ok-tokens.ensures.length tree c.in_ok-tree.ensures.tree in
    let said = c.in_ok-labelled.ensures in
    subst (IsRead text) (sym c.in_ok-new.ensures.ok)
    (is_read text tree (program_of c.in_ok-typed.typed) c.in_ok-labelled.labelled is_tree c.in_ok-typed.ensures.sound said.labelled said.points said.ordered said.begins)
