-- The recogniser, a token at a time. One that no program has there gives the refused state, which lasts.
use Rattle.std.specs.Prelude.{Bool, true, false, List, [], ◌∷◌}
use Rattle.clight_source.specs.declared.span.Span.{Span}
use Rattle.clight_source.specs.declared.symbol.Symbol.{Symbol}
use Rattle.clight_source.specs.declared.symbol.Terminal.{Terminal}
use Rattle.clight_nodes.specs.declared.forms.Form.{Form}
use Rattle.clight_nodes.specs.declared.modes.Mode.{Mode}
use Rattle.clight_nodes.specs.declared.modes.Mode.TheVariants as m
use Rattle.clight_nodes.specs.declared.modes.DeclarationMode.TheVariants as d
use Rattle.clight_nodes.specs.declared.nodes.Node.{Node}
use Rattle.clight_nodes.specs.Code.States.{State, at, refused}
use Rattle.clight_nodes.specs.Code.Expressions.{operand, settle, binds, member_name, tag_of_cast, in_cast}
use Rattle.clight_nodes.specs.Code.Statements.{act, in_statement}
use Rattle.clight_nodes.specs.Code.Declarations.{declare, in_declaration}

abbrev pub next_in : Mode → List Form → List Node → Symbol → Span → State
next_in m.Operand k z y a = operand k z y a
next_in m.AfterOperand k z y a = act y a (settle (binds y) k z)
next_in (m.MemberName operator i) k z y a = member_name operator i k z y a
next_in (m.CastTag left word) k z y a = tag_of_cast left word k z y a
next_in (m.CastWords left type) k z y a = in_cast left type k z y a
next_in (m.Statement mode) k z y a = in_statement mode k z y a
next_in (m.Declaration mode) k z y a = in_declaration mode z y a
next_in m.Finished k z y a = refused
next_in m.Refused k z y a = refused

abbrev pub next : State → Symbol → Span → State
next x y a = next_in x.mode x.forms x.nodes y a

-- after an item that is whole another one may begin
abbrev pub again : Mode → Mode
again m.Finished = m.Declaration d.ItemStart
again mode = mode

abbrev pub renewed : State → State
renewed x = at (again x.mode) x.forms x.nodes

-- one token
abbrev pub step : State → Terminal → State
step x t = renewed (next x t.symbol t.span)

abbrev pub run : State → List Terminal → State
run x [] = x
run x (t ∷ l) = run (step x t) l

abbrev pub start : State
start = declare d.ItemStart []

abbrev pub is_refused : Mode → Bool
is_refused m.Refused = true
is_refused _ = false

-- whether the text may end
abbrev pub may_end : Mode → Bool
may_end (m.Declaration d.ItemStart) = true
may_end _ = false
