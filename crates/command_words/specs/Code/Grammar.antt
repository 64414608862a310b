-- The grammar of command lines that clap is given.
use Rattle.std.specs.Prelude.{codes, true, Some}
use Rattle.clap.specs.Words.{App, Rule, new_app, new_rule, with_rule}
use Rattle.clap.specs.declared.builder.action.ArgAction.TheVariants.{Set}

abbrev pub name_rule : Rule
name_rule = record (new_rule (codes "name")) { required = true; action = Some Set }

-- at most four words
abbrev pub operands_rule : Rule
operands_rule = record (new_rule (codes "operands")) {
  action = Some Set;
  range = Some (record { start_inclusive = 0; end_inclusive = 4 });
}

abbrev pub bare_app : App
bare_app =
    let new = new_app (codes "cerco") in
    record new { top = record new.top { no_binary_name = true; disable_help_flag = true; disable_version_flag = true } }

abbrev pub grammar_app : App
grammar_app = with_rule (with_rule bare_app name_rule) operands_rule
