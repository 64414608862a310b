use Rattle.std.proofs.Common.{◌≡◌, ◌++◌, length, map, drop, nat_eq}
use Rattle.clight_syntax.specs.Code.TypedViews.{variable_of}
use Rattle.clight_typing.specs.Functions.{variables_from}
use Rattle.clight_typing.specs.Code.HeldOwn.{own_of}
use Rattle.indexmap.specs.IndexSet.{contains}
use Rattle.clight_typing.proofs.files.add_variables.Given as goal

abbrev pub invariant-loop-own : goal.invariant-loop-own
invariant-loop-own l =
    map variable_of l.initial.all.items ++ variables_from (contains nat_eq l.addressed) l.fn.first 0 0 (map own_of l.fn.owns.items)
    ≡ map variable_of l.all.items ++ variables_from (contains nat_eq l.addressed) l.variable l.blocks l.scalars (map own_of (drop (length l.yielded) l.fn.owns.items))
