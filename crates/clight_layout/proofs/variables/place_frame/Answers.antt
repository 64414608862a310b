use Rattle.std.proofs.Common.{◌-◌, length, ap, ◌∙◌}
use Rattle.std.specs.Prelude.{min}
use Rattle.c_types.specs.Types.{struct_type_of}
use Rattle.clight_syntax.specs.Code.TypedViews.{function_of}
use Rattle.clight_layout.proofs.Ranges.{frame_is}
use Rattle.std.proofs.Common.{map}
use Rattle.clight_layout.proofs.variables.place_frame.Goals as goal

pub returns : goal.returns
returns c =
    c.in_ok-place_from.ensures
    ∙ frame_is (map struct_type_of c.args.structs.now) (function_of c.args.function.now) c.args.from c.args.variables.now c.min-first.result c.min-count.result
    c.min-first.ensures (c.min-count.ensures ∙ ap (λ n. min n (length c.args.variables.now - c.min-first.result)) c.own_count.ensures)
