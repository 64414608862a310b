use Rattle.std.proofs.Common.{◌∙◌, sym}
use Rattle.clight_tokens.proofs.NameLists.{noted}
use Rattle.clight_tokens.proofs.symbols.note.Goals as goal

pub returns-in_ok-insert_full-clause-names : goal.returns-in_ok-insert_full-clause-names
returns-in_ok-insert_full-clause-names c =
    noted c.args.names.now.keys c.insert_full.new.self.keys c.args.token.text (sym c.is_name.ensures ∙ c.if-is_name.true) c.in_ok-insert_full.ensures.keys
