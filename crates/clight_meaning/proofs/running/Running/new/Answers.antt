use Rattle.std.proofs.Common.{sym, ap, ◌∙◌}
use Rattle.std.specs.Prelude.{option_map, option_copied}
use Rattle.clight_syntax.specs.Code.TypedViews.{function_of, program_of}
use Rattle.clight_meaning.specs.Code.Turns.{rest_held}
use Rattle.clight_meaning.specs.Code.Views.{state_held}
use Rattle.clight_meaning.proofs.Opening.{nothing_left, main_opened}
use Rattle.clight_meaning.proofs.running.Running.new.Goals as goal

pub returns-in-None : goal.returns-in-None
returns-in-None c =
    nothing_left (program_of c.args.program.now) c.args.script.now c.new.result.items (state_held c.in_ok-beginning.field-0) c.new.ensures.items
    (sym c.function.ensures ∙ ap (λ o. option_map (λ f. function_of f) (option_copied o)) c.in-None.is)

pub returns-in_ok-open-in-Some : goal.returns-in_ok-open-in-Some
returns-in_ok-open-in-Some c =
    main_opened (program_of c.args.program.now) c.args.script.now (function_of c.in-Some.main.now) c.new.result.items (state_held c.in_ok-beginning.field-0) (rest_held c.open.new.self)
    c.in_ok-open-in-Some.ensures c.new.ensures.items c.in_ok-beginning.ensures
    (sym c.function.ensures ∙ ap (λ o. option_map (λ f. function_of f) (option_copied o)) c.in-Some.is)
