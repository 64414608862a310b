-- What the program's levels stand for.
use Rattle.clight_nodes.specs.Code.States.{newest}
use Rattle.clight_nesting.specs.declared.levels.Levels.{Levels}
use Rattle.clight_nesting.specs.Code.Levels as s

abbrev pub levels_of : Levels → s.Levels
levels_of x = s.levels (newest x.list.items) x.deep
