-- What the program's stacks of declarations stand for.
use Rattle.std.specs.Prelude.{List, map}
use Rattle.std.specs.declared.vec.Vec.{Vec}
use Rattle.std.specs.Global.{Global}
use Rattle.clight_source.specs.declared.span.Span.{Span}
use Rattle.clight_source.specs.declared.tree.Member.{Member}
use Rattle.clight_source.specs.declared.tree.EarlierNumber.{EarlierNumber}
use Rattle.clight_source.specs.declared.tree.EarlierParameter.{EarlierParameter}
use Rattle.clight_source.specs.declared.tree.Local.{Local}
use Rattle.clight_source.specs.declared.tree.Item.{Item}
use Rattle.clight_source.specs.Trees as t
use Rattle.clight_source.specs.Code.Views.{declared_of, declaration_of, member_of, initialiser_of, earlier_parameter_of, header_of, local_of, item_of}
use Rattle.clight_build.specs.declared.stacks.Stacks.{Stacks}
use Rattle.clight_build.specs.Code.Views.{views, stacks_of}
use Rattle.clight_build_items.specs.declared.stacks.Declarations.{Declarations}
use Rattle.clight_build_items.specs.Code.Stacks as s

abbrev pub spans_in : Vec Span Global → List Span
spans_in v = v.items

abbrev pub members_in : Vec Member Global → List t.Member
members_in v = map member_of v.items

abbrev pub numbers_in : Vec EarlierNumber Global → List EarlierNumber
numbers_in v = v.items

abbrev pub parameters_in : Vec EarlierParameter Global → List t.EarlierParameter
parameters_in v = map earlier_parameter_of v.items

abbrev pub locals_in : Vec Local Global → List t.Local
locals_in v = map local_of v.items

abbrev pub items_in : List Item → List t.Item
items_in = map item_of

abbrev pub declarations_of : Declarations → s.Declarations
declarations_of x =
    s.declarations (views spans_in x.stars.items) (views declared_of x.declareds.items) (views declaration_of x.declarations.items) (views members_in x.members.items) (views numbers_in x.numbers.items)
    (views initialiser_of x.initialisers.items) (views parameters_in x.parameters.items) (views header_of x.headers.items) (views locals_in x.locals.items)

-- the whole of the program's stacks
abbrev pub whole_of : Stacks → Declarations → List Item → s.Whole
whole_of parts d items = s.whole (stacks_of parts) (declarations_of d) (items_in items)
