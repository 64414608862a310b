-- What the evaluator holds, as the definitions speak of it.
use Rattle.std.specs.Prelude.{option_map, Option, Result, Ok, Err}
use Rattle.cerco_base.specs.declared.events.FaultKind.{FaultKind}
use Rattle.clight_syntax.specs.Code.TypedViews.{assignment_of}
use Rattle.clight_syntax.specs.TypedTrees as t
use Rattle.clight_syntax.specs.declared.typed.Assignment.{Assignment}
use Rattle.clight_syntax.specs.TypedTrees.{Variable'}
use Rattle.clight_values.specs.Memory as m
use Rattle.clight_meaning.specs.Expressions as e
use Rattle.clight_meaning.specs.declared.state.Frame.{Frame}
use Rattle.clight_meaning.specs.declared.state.State.{State}
use Rattle.clight_meaning.specs.declared.state.Position.{Position}
use Rattle.clight_meaning.specs.declared.state.Position.TheVariants.{InCall, Behind}
use Rattle.clight_values.specs.Code.Views.{memory_held, type_held}

abbrev pub frame_held : Frame → m.Frame
frame_held f = record { blocks = f.blocks; cells = f.cells; call = f.call; depth = f.depth; result = type_held f.result; scalars = f.scalars.items }

abbrev pub state_held : State → m.State
state_held st = record { memory = memory_held st.memory; made = st.made; frame = frame_held st.frame; script = st.script.now }

abbrev pub position_held : Position → e.Position
position_held (InCall n) = e.InCall n
position_held (Behind p) = e.Behind p

abbrev pub positions_held : Result Position FaultKind → Result e.Position FaultKind
positions_held (Err k) = Err k
positions_held (Ok at) = Ok (position_held at)

abbrev pub assignments_held : Option Assignment → Option t.Assignment
assignments_held a = option_map assignment_of a
