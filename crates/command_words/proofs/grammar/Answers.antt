use Rattle.std.proofs.Common.{◌≡◌, ◌∙◌, ap, ap₂, rules, codes, Some}
use Rattle.std.proofs.lemmas.Result.{IfOk-weaker}
use Rattle.clap.specs.Words.{Rule, app_of, new_rule, rule_of, with_rule}
use Rattle.clap.specs.declared.builder.action.ArgAction.TheVariants.{Set}
use Rattle.command_words.specs.Code.Grammar.{name_rule, operands_rule, bare_app}
use Rattle.command_words.proofs.Rules.{ranged}
use Rattle.command_words.proofs.grammar.Goals as goal

pub returns : goal.returns
returns c =
    let name_is : rule_of c.action-name.result ≡ name_rule = search rules in
    let set_is : rule_of c.action.result ≡ record (new_rule (codes "operands")) { action = Some Set } = search rules in
    let ranged_is = ranged c.action.result c.num_args-operands.result (record { start_inclusive = 0; end_inclusive = 4 }) c.num_args-operands.ensures.0 c.num_args-operands.ensures.1 in
    let operands_are : rule_of c.num_args-operands.result ≡ operands_rule =
    ranged_is ∙ ap (λ (rule : Rule). record rule { range = Some (record { start_inclusive = 0; end_inclusive = 4 }) }) set_is in
    let bare_is : app_of c.disable_version_flag.result ≡ bare_app = search rules in
    let first : app_of c.in_ok-arg.field-0 ≡ with_rule bare_app name_rule = c.in_ok-arg.ensures.shape (search rules) ∙ ap₂ with_rule bare_is name_is in
    IfOk-weaker c.arg-2.result _ _ (λ command adds. adds.shape (search rules) ∙ ap₂ with_rule first operands_are) c.arg-2.ensures
